pub mod TimetableLemmas
