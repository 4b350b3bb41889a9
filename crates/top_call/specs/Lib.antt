pub mod Ended
pub mod Given
pub mod Outcome
pub mod Request
pub mod Run
