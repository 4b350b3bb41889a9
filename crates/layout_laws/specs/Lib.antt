pub mod DayLaw
pub mod LocateLaw
pub mod PlanLaw
pub mod ShowLaw
