-- Which small files are those that are held, and which are too long.
use Rattle.std.specs.Prelude.{[], ◌∷◌, None, Some}
use Rattle.outside_io.specs.Held.{IsLonger, IsTold}

-- told bytes are the held ones, and are longer than any smaller room; where none are told, all may be so
pub record SmallLoads : Type 0 where
  pub told : IsTold (Some (1 ∷ 2 ∷ [])) (1 ∷ 2 ∷ [])
  pub cut_off : ¬ (IsTold (Some (1 ∷ 2 ∷ [])) (1 ∷ []))
  pub other : ¬ (IsTold (Some (1 ∷ 2 ∷ [])) (1 ∷ 3 ∷ []))
  pub untold : IsTold None (1 ∷ [])
  pub longer : IsLonger (Some (1 ∷ 2 ∷ [])) 1
  pub as_long : ¬ (IsLonger (Some (1 ∷ 2 ∷ [])) 2)
  pub shorter : ¬ (IsLonger (Some []) 0)
  pub unknown : IsLonger None 9
