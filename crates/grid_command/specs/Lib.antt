pub mod Counted
pub mod Generated
pub mod Printed
pub mod Tally
pub mod TickLaw
