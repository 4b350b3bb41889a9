-- Round the borders of a mask the cross products change their sign, and there a sector holds the direction.
use Rattle.std.proofs.Common.{[], ◌∷◌, List, inl, inr, ⊎_elim}
use Rattle.exact.specs.Rational.{ℚ, ◌-ℚ◌, ◌*ℚ◌, zero_ℚ, ◌≤ℚ◌, ◌<ℚ◌}
use Rattle.exact.proofs.RationalRing.{ring, reads}
use Rattle.exact.proofs.Order.{gap, le_by, same_sign}
use Rattle.exact.proofs.Bounds.{le_total}
use Rattle.exact.proofs.Strict.{le_of_lt, not_both, positive_gap}
use Rattle.sgp4_model.specs.Angle.{Pair}
use Rattle.sgp4_model.specs.Mask.{SomeSector}
use Rattle.sgp4_model.specs.MaskLaws.{NoneIsBoth, SomeBorder, SomeSectorHoldsBetween}
use Rattle.sgp4_model.specs.Sectors.{HoldsDirection, SectorPairs, past, short_of, sides_to}
use Rattle.sgp4_model.specs.Sight.{SightRecord}

-- a direction that is not past a border is short of it
short : (border : Pair) (v : SightRecord) → past border v ≤ℚ zero_ℚ → zero_ℚ ≤ℚ short_of border v
short border v h = by v.east v.north border.sine border.cosine h
  where
    by : (e n s c : ℚ) → e *ℚ c -ℚ n *ℚ s ≤ℚ zero_ℚ → zero_ℚ ≤ℚ n *ℚ s -ℚ e *ℚ c
    by e n s c h = le_by (e ∷ n ∷ s ∷ c ∷ []) (gap h) (search reads depth 90) tt

-- from a border that the direction is past, on to a first one that it is not past
module _ (v : SightRecord) (first : Pair) where
  abbrev Held : List SectorPairs → Type 0
  Held pairs = SomeSector (λ sector. HoldsDirection sector v) (sides_to first pairs)

  on : (p : SectorPairs) (pairs : List SectorPairs) → zero_ℚ ≤ℚ past p.border v → past first v ≤ℚ zero_ℚ → Held (p ∷ pairs)
  on p [] h k = inl (record { from = h; to = short first v k })
  on p (q ∷ pairs) h k =
      ⊎_elim
      (λ l. inl (record { from = h; to = short q.border v l }))
      (λ l. inr (on q pairs l k))
      (le_total (past q.border v) zero_ℚ)

  -- from some border that the direction is past
  on_from : (pairs : List SectorPairs) → SomeBorder (λ border. zero_ℚ ≤ℚ past border v) pairs → past first v ≤ℚ zero_ℚ → Held pairs
  on_from [] some k = absurd some
  on_from (p ∷ pairs) (inl h) k = on p pairs h k
  on_from (p ∷ pairs) (inr more) k = inr (on_from pairs more k)

  -- on to some border that it is not past
  on_to : (p : SectorPairs) (pairs : List SectorPairs) → zero_ℚ ≤ℚ past p.border v → SomeBorder (λ border. past border v ≤ℚ zero_ℚ) pairs → Held (p ∷ pairs)
  on_to p [] h some = absurd some
  on_to p (q ∷ pairs) h (inl l) = inl (record { from = h; to = short q.border v l })
  on_to p (q ∷ pairs) h (inr more) =
      ⊎_elim
      (λ l. inl (record { from = h; to = short q.border v l }))
      (λ l. inr (on_to q pairs l more))
      (le_total (past q.border v) zero_ℚ)

pub some_sector_holds_between : SomeSectorHoldsBetween
some_sector_holds_between [] v some other = absurd some
some_sector_holds_between (p ∷ pairs) v some (inl l) = on_from v p.border (p ∷ pairs) some l
some_sector_holds_between (p ∷ pairs) v some (inr more) =
    ⊎_elim
    (λ l. on_from v p.border (p ∷ pairs) some l)
    (λ l. on_to v p.border p pairs l more)
    (le_total (past p.border v) zero_ℚ)

apart : {x y : ℚ} → x <ℚ y → y <ℚ x → ⊥
apart {x} {y} h k = not_both (positive_gap h) (same_sign (ring (x ∷ y ∷ []) (search reads depth 90) tt) (gap (le_of_lt k)))

pub none_is_both : NoneIsBoth
none_is_both [] v some above below = absurd some
none_is_both (s ∷ sectors) v (inl h) above below = apart (above.0 h) (below.0 h)
none_is_both (s ∷ sectors) v (inr more) above below = none_is_both sectors v more above.1 below.1
