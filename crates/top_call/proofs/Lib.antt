mod GivenLemmas
mod RefusedLemmas
mod RequestLemmas
mod RunLemmas
