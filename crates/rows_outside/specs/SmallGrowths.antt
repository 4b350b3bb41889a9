-- Which small outputs grew by a piece, and which by a front of it.
use Rattle.std.specs.Prelude.{[], ◌∷◌, None, Some}
use Rattle.outside_io.specs.Written.{Grew, GrewByFront}

-- an output that tells its bytes grew by the whole piece, once and at its end; one that tells none may tell anything
pub record SmallGrowths : Type 0 where
  pub whole : Grew (Some (1 ∷ [])) (Some (1 ∷ 2 ∷ 3 ∷ [])) (2 ∷ 3 ∷ [])
  pub nothing : ¬ (Grew (Some (1 ∷ [])) (Some (1 ∷ [])) (2 ∷ 3 ∷ []))
  pub twice : ¬ (Grew (Some []) (Some (2 ∷ 2 ∷ [])) (2 ∷ []))
  pub in_front : ¬ (Grew (Some (1 ∷ [])) (Some (2 ∷ 1 ∷ [])) (2 ∷ []))
  pub no_longer_told : ¬ (Grew (Some []) None [])
  pub never_told : Grew None (Some (5 ∷ [])) (2 ∷ [])

-- it grew by some first bytes of the piece, in order, or by none, or by all
pub record SmallFronts : Type 0 where
  pub one : GrewByFront (Some (1 ∷ [])) (Some (1 ∷ 2 ∷ [])) (2 ∷ 3 ∷ [])
  pub none : GrewByFront (Some (1 ∷ [])) (Some (1 ∷ [])) (2 ∷ 3 ∷ [])
  pub all : GrewByFront (Some (1 ∷ [])) (Some (1 ∷ 2 ∷ 3 ∷ [])) (2 ∷ 3 ∷ [])
  pub the_last : ¬ (GrewByFront (Some (1 ∷ [])) (Some (1 ∷ 3 ∷ [])) (2 ∷ 3 ∷ []))
  pub beyond : ¬ (GrewByFront (Some (1 ∷ [])) (Some (1 ∷ 2 ∷ 3 ∷ 4 ∷ [])) (2 ∷ 3 ∷ []))
  pub lost : ¬ (GrewByFront (Some (1 ∷ [])) (Some []) (2 ∷ 3 ∷ []))
