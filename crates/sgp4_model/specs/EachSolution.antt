-- What holds of every solution, where there is one.

-- there is a solution, and a fact holds of each one
pub record OfEach {A : Type 0} (IsSolution : A → Type 0) (holds : A → Type 0) : Type 0 where
  pub some : (a : A) × IsSolution a
  pub each : (a : A) → IsSolution a → holds a
