pub mod FrontLemmas
pub mod TickLemmas
pub mod LineLemmas
pub mod RowLemmas
pub mod PlanLemmas
pub mod DayLemmas
pub mod LocateLemmas
pub mod ShowLemmas
