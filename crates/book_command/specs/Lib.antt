pub mod BookLaws
pub mod BookLayout
pub mod BookedAt
pub mod Bookings
pub mod Made
pub mod Printable
pub mod Record
pub mod State
