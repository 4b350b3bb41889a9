pub mod Fate
pub mod FateLaws
pub mod HeldMotion
pub mod Lines
pub mod Numerals
pub mod Period
pub mod Recovered
