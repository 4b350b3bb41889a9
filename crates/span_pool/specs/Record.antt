-- What a contract sees of a pool.
use Rattle.std.specs.Prelude.{ℕ, List}
use Rattle.sgp4_model.specs.declared.span.Span.{Span}

-- how many slots the pool has, and for each slot the list that begins there: none is as an empty one
pub record PoolRecord : Type 0 where
  pub slots : ℕ
  pub lists : List (List Span)
