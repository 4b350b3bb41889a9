pub mod Covering
pub mod Expected
pub mod HeldConsts
pub mod HeldMean
pub mod Lifted
