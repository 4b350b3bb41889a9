pub mod SmallRequests
