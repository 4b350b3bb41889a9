-- Enclosed masks: the pairs of a solution lie in the enclosures, sector by sector.
use Rattle.std.specs.Prelude.{⊤}
use Rattle.std.proofs.Common.{◌≡◌, arith, ap, sym, subst, ℕ, zero, suc, ◌<◌, length, List, [], ◌∷◌, map, inl, inr, All, Any, slice_get, Some, MatchOption, unwrap_or, ◌+◌, ◌≤◌, ◌∙◌, refl, ◌++◌, drop}
use Rattle.std.proofs.lemmas.List.{append-nil, append_assoc, drop_all, drop_more, map_push}
use Rattle.std.proofs.lemmas.Option.{get_or_from_slice_get, slice_get_within}
use Rattle.exact.specs.Rational.{ℚ}
use Rattle.decimals.specs.Decimal.{DecimalRecord, value}
use Rattle.sgp4_model.specs.Angle.{IsPi, Pair}
use Rattle.sgp4_model.specs.Degrees.{IsPairOfDegrees}
use Rattle.sgp4_model.specs.Mask.{EverySector, SomeSector}
use Rattle.sgp4_model.specs.Sectors.{AreMaskPairs, SectorPairs, SectorSides, end_of, sides_of, sides_to}
use Rattle.station_file.specs.Masks.{IsMask}
use Rattle.station_file.specs.declared.sector.Sector.{Sector}
use Rattle.station_view.specs.Bounds.{HoldSides}
use Rattle.station_view.specs.Masks.{IsEnclosedMask, Stretch, border_after, records_of, sector_of, stretch_of, stretches, stretches_to}
use Rattle.station_view.specs.declared.sector.EnclosedSector.{EnclosedSector}

-- the numbers of each sector lie in the enclosures of one
abbrev pub AreHeld : List EnclosedSector → List SectorSides → Type 0
AreHeld [] [] = ⊤
AreHeld (e ∷ mask) (s ∷ sectors) = HoldSides e s × AreHeld mask sectors
AreHeld _ _ = ⊥

-- the pair of the border at which a sector ends
next_pair : (pi : ℚ) (first : DecimalRecord) (p : Pair) (mask : List EnclosedSector) (pairs : List SectorPairs) →
    IsPairOfDegrees pi (value first) p → AreMaskPairs pi (records_of mask) pairs →
    IsPairOfDegrees pi (value (border_after first (map sector_of mask))) (end_of p pairs)
next_pair pi first p [] [] is are = is
next_pair pi first p [] (q ∷ pairs) is are = absurd are
next_pair pi first p (e ∷ mask) [] is are = absurd are
next_pair pi first p (e ∷ mask) (q ∷ pairs) is are = are.0.0

abbrev end_in : DecimalRecord → List Stretch → DecimalRecord
end_in d [] = d
end_in d (s ∷ ss) = s.end

abbrev rest : List Stretch → List Stretch
rest [] = []
rest (s ∷ ss) = ss

held_to : (pi : ℚ) (first : DecimalRecord) (p : Pair) (mask : List EnclosedSector) (pairs : List SectorPairs) → IsPi pi →
    IsPairOfDegrees pi (value first) p → AreMaskPairs pi (records_of mask) pairs → map stretch_of mask ≡ stretches_to first (map sector_of mask) →
    AreHeld mask (sides_to p pairs)
held_to pi first p [] [] is_pi is are ends = tt
held_to pi first p [] (q ∷ pairs) is_pi is are ends = absurd are
held_to pi first p (e ∷ mask) [] is_pi is are ends = absurd are
held_to pi first p (e ∷ mask) (q ∷ pairs) is_pi is are ends =
    let end : e.end ≡ border_after first (map sector_of mask) = ap (end_in first) ends in
    let to = subst (λ d. IsPairOfDegrees pi (value d) (end_of p pairs)) (sym end) (next_pair pi first p mask pairs is are.1) in (
      record {
        sin_from = (e.from.hold pi q.border is_pi are.0.0).0;
        cos_from = (e.from.hold pi q.border is_pi are.0.0).1;
        sin_to = (e.to.hold pi _ is_pi to).0;
        cos_to = (e.to.hold pi _ is_pi to).1;
        floor = e.floor.hold pi q.floor is_pi are.0.1;
      },
      held_to pi first p mask pairs is_pi is are.1 (ap rest ends),
    )

-- the pairs of a mask lie in its enclosures
pub mask_held : (pi : ℚ) (mask : List EnclosedSector) (pairs : List SectorPairs) → IsEnclosedMask mask → IsPi pi → AreMaskPairs pi (records_of mask) pairs →
    AreHeld mask (sides_of pairs)
mask_held pi [] [] k is_pi are = tt
mask_held pi [] (q ∷ pairs) k is_pi are = absurd are
mask_held pi (e ∷ mask) [] k is_pi are = absurd are
mask_held pi (e ∷ mask) (q ∷ pairs) k is_pi are = held_to pi e.sector.border q.border (e ∷ mask) (q ∷ pairs) is_pi are.0.0 are k.ends

-- what holds of every enclosed sector, says something of every sector
pub every_sector : (P : EnclosedSector → Type 0) (fact : SectorSides → Type 0) → ((e : EnclosedSector) (s : SectorSides) → HoldSides e s → P e → fact s) →
    (mask : List EnclosedSector) (sectors : List SectorSides) → AreHeld mask sectors → All P mask → EverySector fact sectors
every_sector P fact step [] [] held all = tt
every_sector P fact step [] (s ∷ sectors) held all = absurd held
every_sector P fact step (e ∷ mask) [] held all = tt
every_sector P fact step (e ∷ mask) (s ∷ sectors) held all =
    (step e s held.0 (all 0 e (omega arith)), every_sector P fact step mask sectors held.1 (λ k d h. all (suc k) d (omega (arith, h))))

-- and what holds of some enclosed sector, where another thing holds of each, of some sector
pub some_sector : (N P : EnclosedSector → Type 0) (fact : SectorSides → Type 0) → ((e : EnclosedSector) (s : SectorSides) → HoldSides e s → N e → P e → fact s) →
    (mask : List EnclosedSector) (sectors : List SectorSides) → AreHeld mask sectors → All N mask → Any P mask → SomeSector fact sectors
some_sector N P fact step [] sectors held all (k, x, less, at, p) = absurd (omega (arith, less))
some_sector N P fact step (e ∷ mask) [] held all any = absurd held
some_sector N P fact step (e ∷ mask) (s ∷ sectors) held all (zero, x, less, at, p) = inl (step e s held.0 (all 0 e (omega arith)) (subst P (sym at) p))
some_sector N P fact step (e ∷ mask) (s ∷ sectors) held all (suc k, x, less, at, p) =
    inr (some_sector N P fact step mask sectors held.1 (λ k d h. all (suc k) d (omega (arith, h))) (k, x, omega (arith, less), at, p))

-- what holds of each one rules out what holds of some
pub none_and_some : (N P : EnclosedSector → Type 0) → ((e : EnclosedSector) → N e → P e → ⊥) → (mask : List EnclosedSector) → All N mask → Any P mask → ⊥
none_and_some N P clash [] all (k, x, less, at, p) = omega (arith, less)
none_and_some N P clash (e ∷ mask) all (zero, x, less, at, p) = clash e (all 0 e (omega arith)) (subst P (sym at) p)
none_and_some N P clash (e ∷ mask) all (suc k, x, less, at, p) =
    none_and_some N P clash mask (λ k d h. all (suc k) d (omega (arith, h))) (k, x, omega (arith, less), at, p)

-- ---- the sectors of a row with their ends
some_is : {X : Type 0} {x y : X} → Some x ≡ Some y → x ≡ y
some_is {x = x} e = ap (λ o. unwrap_or o x) e

-- the border that a number of a mask's sectors has after it
abbrev IsEnd : DecimalRecord → List Sector → ℕ → DecimalRecord → Type 0
IsEnd first row k end = (suc k < length row → MatchOption (slice_get row (suc k)) ⊥ (λ next. end ≡ next.border)) × (length row ≤ suc k → end ≡ first)

stretch_to : (first : DecimalRecord) (row : List Sector) (k : ℕ) (s : Sector) (end : DecimalRecord) → Some s ≡ slice_get row k → IsEnd first row k end →
    slice_get (stretches_to first row) k ≡ Some (record { sector = s; end = end })
stretch_to first [] zero s end at is = cc at
stretch_to first [] (suc k) s end at is = cc at
stretch_to first (t ∷ []) zero s end at is = rw (some_is at, is.1 (omega arith)) refl
stretch_to first (t ∷ u ∷ row) zero s end at is = rw (some_is at, is.0 (omega arith)) refl
stretch_to first (t ∷ row) (suc k) s end at is =
    stretch_to first row k s end at ((λ h. is.0 (omega (arith, h))), (λ h. is.1 (omega (arith, h))))

pub stretch_at : (row : List Sector) (k : ℕ) (e : EnclosedSector) → Some e.sector ≡ slice_get row k →
    (k + 1 < length row → MatchOption (slice_get row (k + 1)) ⊥ (λ next. e.end ≡ next.border)) →
    (length row ≤ k + 1 → MatchOption (slice_get row 0) ⊥ (λ first. e.end ≡ first.border)) →
    slice_get (stretches row) k ≡ Some (stretch_of e)
stretch_at [] zero e at next first = cc at
stretch_at [] (suc k) e at next first = cc at
stretch_at (s ∷ row) k e at next first =
    let more : k + 1 ≡ suc k = omega arith in
    stretch_to s.border (s ∷ row) k e.sector e.end at (subst (λ n. n < length (s ∷ row) → MatchOption (slice_get (s ∷ row) n) ⊥ (λ next. e.end ≡ next.border)) more next, λ h. first (rw more h))

-- one more enclosed sector
pub one_more : (all : List Stretch) (mask : List EnclosedSector) (k : ℕ) (e : EnclosedSector) → all ≡ map stretch_of mask ++ drop k all →
    slice_get all k ≡ Some (stretch_of e) → all ≡ map stretch_of (mask ++ e ∷ []) ++ drop (k + 1) all
one_more all mask k e so_far at =
    let less = slice_get_within all k (stretch_of e) at in
    let here = get_or_from_slice_get all k (stretch_of e) (stretch_of e) at in
    so_far
    ∙ ap (λ t. map stretch_of mask ++ t) (drop_more all k (stretch_of e) less ∙ ap (λ t. t ∷ drop (k + 1) all) here)
    ∙ sym (append_assoc (map stretch_of mask) (stretch_of e ∷ []) (drop (k + 1) all))
    ∙ ap (λ t. t ++ drop (k + 1) all) (sym (map_push stretch_of mask e))

length_to : (first : DecimalRecord) (row : List Sector) → length (stretches_to first row) ≡ length row
length_to first [] = refl
length_to first (s ∷ row) = ap suc (length_to first row)

length_of : (row : List Sector) → length (stretches row) ≡ length row
length_of [] = refl
length_of (s ∷ row) = length_to s.border (s ∷ row)

-- all of them
pub all_enclosed : (row : List Sector) (mask : List EnclosedSector) (k : ℕ) → stretches row ≡ map stretch_of mask ++ drop k (stretches row) → length row ≤ k → map stretch_of mask ≡ stretches row
all_enclosed row mask k so_far most =
    let none = drop_all k (stretches row) (rw length_of most) in
    sym (so_far ∙ ap (λ t. map stretch_of mask ++ t) none ∙ append-nil (map stretch_of mask))

sector_in : Stretch → Sector
sector_in s = s.sector

sectors_to : (first : DecimalRecord) (row : List Sector) → map sector_in (stretches_to first row) ≡ row
unfolding sector_in
sectors_to first [] = refl
sectors_to first (s ∷ row) = ap (λ t. s ∷ t) (sectors_to first row)

sectors_in : (row : List Sector) → map sector_in (stretches row) ≡ row
sectors_in [] = refl
sectors_in (s ∷ row) = sectors_to s.border (s ∷ row)

sectors_of_mask : (mask : List EnclosedSector) → map sector_of mask ≡ map sector_in (map stretch_of mask)
unfolding sector_in
sectors_of_mask [] = refl
sectors_of_mask (e ∷ mask) = ap (λ t. e.sector ∷ t) (sectors_of_mask mask)

pub sectors_are : (row : List Sector) (mask : List EnclosedSector) → map stretch_of mask ≡ stretches row → map sector_of mask ≡ row
sectors_are row mask e = sectors_of_mask mask ∙ ap (map sector_in) e ∙ sectors_in row

pub is_enclosed : (row : List Sector) (mask : List EnclosedSector) → map stretch_of mask ≡ stretches row → IsMask row → IsEnclosedMask mask
is_enclosed row mask e is =
    let same = sym (sectors_are row mask e) in
    record { sectors = subst IsMask same is; ends = subst (λ t. map stretch_of mask ≡ stretches t) same e }
