pub mod HeldLemmas
mod ListLemmas
mod PushLemmas
mod ReleaseLemmas
mod RunLemmas
mod ViewLemmas
