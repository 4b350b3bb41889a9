pub mod Head
pub mod NoneLost
pub mod Parts
pub mod PlanLaws
pub mod Planned
pub mod Resolved
pub mod Rows
pub mod Tables
