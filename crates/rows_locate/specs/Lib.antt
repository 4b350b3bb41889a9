pub mod EveryPosition
pub mod PositionLaws
pub mod SmallAnswers
