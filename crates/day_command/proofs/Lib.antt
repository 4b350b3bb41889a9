mod InsideLemmas
mod ResolvedLemmas
mod SpanLemmas
