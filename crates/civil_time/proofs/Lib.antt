pub mod ColumnLemmas
pub mod DigitLemmas
pub mod DateLemmas
pub mod YearLemmas
pub mod StampLemmas
pub mod TextLemmas
pub mod DifferLemmas
pub mod ReadBackLemmas
mod KnownValues
