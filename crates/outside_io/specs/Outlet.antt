-- A sink over a writer, as contracts see it.
use Rattle.std.specs.Prelude.{ℕ, List}
use Rattle.std.specs.declared.option.Option.{Option}

-- the bytes that the writer holds, where these are known, and the count of the faults
pub record Outlet : Type 0 where
  pub contents : Option (List ℕ)
  pub faults : ℕ
