mod EveryCase
mod PositionLaws
mod SmallAnswers
