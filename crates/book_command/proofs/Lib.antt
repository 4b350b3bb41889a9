mod BestLemmas
mod BidLemmas
mod ForwardLemmas
mod LineLemmas
