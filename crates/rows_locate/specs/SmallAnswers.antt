-- What the answers of `locate` say of small catalogues, and what they do not.
use Rattle.std.specs.Prelude.{◌≡◌, ℕ, ℤ, pos, List, [], ◌∷◌, codes}
use Rattle.exact.specs.Rational.{of_int}
use Rattle.catalogue.specs.declared.entry.Entry.{Entry}
use Rattle.pass_text.specs.LocateLayout.{missing, refused, decayed}
use Rattle.sat_locate.specs.Edge.{IsBetween}
use Rattle.sat_locate.specs.Found.{IsAnswerFor, IsFoundOf, IsNarrowEdge}
use Rattle.sgp4_shape.specs.declared.fault.SatFault.{SatFault}

-- a number is missing exactly where no set has it; a set that is refused keeps its name; that no bounds are known never
-- comes; the answer is for the number and the instant
pub record SmallAnswers : Type 0 where
  pub none : IsAnswerFor [] 5 (pos 7) (record { at = pos 7; number = 5; found = missing })
  pub other_number : ¬ (IsAnswerFor [] 5 (pos 7) (record { at = pos 7; number = 6; found = missing }))
  pub other_instant : ¬ (IsAnswerFor [] 5 (pos 7) (record { at = pos 8; number = 5; found = missing }))
  pub there : (set : Entry) → set.elements.number ≡ 5 → ¬ (IsFoundOf (set ∷ []) 5 (pos 7) missing)
  pub refused_none : (fault : SatFault) (name : List ℕ) → ¬ (IsFoundOf [] 5 (pos 7) (refused fault name))
  pub other_name : (set : Entry) (fault : SatFault) → set.name ≡ codes "A" → ¬ (IsFoundOf (set ∷ []) 5 (pos 7) (refused fault (codes "AB")))
  pub unknown : (sets : List Entry) (number : ℕ) (at : ℤ) (name : List ℕ) → ¬ (IsFoundOf sets number at (decayed name))

-- an Earth radius is 6,378,135,000 millimetres; bounds are at most 10,000 apart
pub record SmallEdges : Type 0 where
  pub radius : IsBetween (pos 6378135000) (pos 6378135000) (of_int (pos 1))
  pub above : ¬ (IsBetween (pos 6378135001) (pos 6378135001) (of_int (pos 1)))
  pub below : ¬ (IsBetween (pos 6378134999) (pos 6378134999) (of_int (pos 1)))
  pub near : IsNarrowEdge (record { low = pos 5; high = pos 10005 })
  pub far : ¬ (IsNarrowEdge (record { low = pos 5; high = pos 10006 }))
