pub mod Causes
pub mod Counted
pub mod Endings
pub mod Files
pub mod Printed
pub mod Refusals
pub mod Runs
