pub mod CountsLemmas
mod FolderLemmas
pub mod Puts
mod ReadLemmas
mod WordLemmas
mod WriteLemmas
