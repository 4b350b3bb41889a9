pub mod EndLaws
pub mod ProductLaws
pub mod Small
pub mod SmallCauses
pub mod SmallCounted
pub mod SmallOutputs
pub mod SmallResolved
pub mod SmallStatuses
