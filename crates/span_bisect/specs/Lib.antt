pub mod Answer
pub mod Part
pub mod Pieces
pub mod Reading
pub mod Stack
