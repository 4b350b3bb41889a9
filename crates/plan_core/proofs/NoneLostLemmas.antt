-- Contacts that are longer than the resolution meet a visible span.
use Rattle.std.proofs.Common.{◌≡◌, arith, ℕ, zero, suc, Some, slice_get, ◌<◌, ◌≤◌, ◌+◌, ℤ, pos, List, [], ◌∷◌, All, map, length, refl, sym, subst, ⊎_elim, ◌∙◌, Contains}
use Rattle.std.proofs.lemmas.Int.{ints}
use Rattle.std.proofs.lemmas.List.Elements.{All-head, All-tail}
use Rattle.std.proofs.lemmas.Option.{none-some, same_Some}
use native.Mathlib.Nat.{zero-lt-suc}
use Rattle.elements.specs.Elements.{ElementsRecord}
use Rattle.exact.specs.Rational.{ℚ, of_int, ◌+ℚ◌, ◌≤ℚ◌, ◌<ℚ◌}
use Rattle.exact.proofs.Bounds.{add_le_add, le_total}
use Rattle.exact.proofs.Integers.{of_int_add, of_int_is, of_int_le}
use Rattle.exact.proofs.Order.{gap, le_by, le_refl, le_trans, same_sign}
use Rattle.exact.proofs.RationalRing.{reads, ring}
use Rattle.exact.proofs.Strict.{le_of_lt, not_both, positive_gap}
use Rattle.plan_core.specs.Certificate.{SettingRecord, sight_of}
use Rattle.plan_core.specs.NoneLost.{IsAboveAt, IsLongContact, LongContactsAreVisible, MeetsVisible}
use Rattle.sgp4_model.specs.Certified.{BeginsOtherThan, IsCertified, IsTrueSpan, Leads, NeighboursDiffer, TrackRecord}
use Rattle.sgp4_model.specs.Mask.{SomeSector}
use Rattle.sgp4_model.specs.Records.{AnswerRecord, spans}
use Rattle.sgp4_model.specs.Sectors.{HoldsDirection}
use Rattle.sgp4_model.specs.Time.{IsWithin}
use Rattle.sgp4_model.specs.declared.span.Mark.{Mark}
use Rattle.sgp4_model.specs.declared.span.Mark.TheVariants.{Yes, No, Undecided}
use Rattle.sgp4_model.specs.declared.span.Span.{Span}
use Rattle.sgp4_model.proofs.RoundLemmas.{some_sector_holds}
use Rattle.sgp4_model.proofs.SectorLemmas.{none_is_both}
use Rattle.station_file.specs.Rows.{AreStations, IsStationRow, StationsRecord, record_of_sector}
use Rattle.station_file.specs.declared.row.StationRow.{StationRow}
use Rattle.station_view.proofs.RoundLemmas.{are_round}

apart : {x y : ℚ} → x <ℚ y → y ≤ℚ x → ⊥
apart {x} {y} h k = not_both (positive_gap h) (same_sign (ring (x ∷ y ∷ []) (search reads depth 90) tt) (gap k))

-- a later one among the rest
later : (first : Span) (rest : List Span) (a b : ℚ) → MeetsVisible rest a b → MeetsVisible (first ∷ rest) a b
later first rest a b m = record {
  span = m.span;
  listed = (suc m.listed.0, after m.listed.0 (length rest) m.listed.1, m.listed.2);
  visible = m.visible;
  place = m.place;
  after = m.after;
  before = m.before;
  within = m.within;
}
  where
    after : (m n : ℕ) → m < n → suc m < suc n
    after m n h = omega arith

module _ (track : TrackRecord) (resolution : ℕ) (a b : ℚ) (none : (place : ℚ) → a ≤ℚ place → place ≤ℚ b → track.no place → ⊥)
    (longer : a +ℚ of_int (pos resolution) <ℚ b) where
  not_shorter : a ≤ℚ a +ℚ of_int (pos resolution)
  not_shorter =
      le_by (a ∷ of_int (pos resolution) ∷ [])
      (gap (subst (λ t. t ≤ℚ of_int (pos resolution)) (of_int_is (pos 0)) (of_int_le (omega (arith, ints)))))
      (search reads depth 90) tt

  forward : b ≤ℚ a → ⊥
  forward h = apart longer (le_trans h not_shorter)

  a_to_b : a ≤ℚ b
  a_to_b = ⊎_elim (λ h. h) (λ h. absurd (forward h)) (le_total a b)

  -- a span that begins at or before a, and is no longer than the resolution, ends before b
  ends_before : (from to : ℕ) → of_int (pos from) ≤ℚ a → to ≤ from + resolution → of_int (pos to) ≤ℚ a +ℚ of_int (pos resolution)
  ends_before from to low short =
      let sum : of_int (pos to) ≤ℚ of_int (pos from) +ℚ of_int (pos resolution) = rw (← of_int_add (pos from) (pos resolution)) (of_int_le (omega (arith, ints, short))) in
      le_trans sum (add_le_add low (le_refl _))

  -- a visible span that a place between a and b lies in
  at_first : (span : Span) (rest : List Span) (place : ℚ) → span.mark ≡ Yes → a ≤ℚ place → place ≤ℚ b → IsWithin span.from span.to place → MeetsVisible (span ∷ rest) a b
  at_first span rest place e low high here = record {
    span = span;
    listed = (0, zero-lt-suc (length rest), refl);
    visible = e;
    place = place;
    after = low;
    before = high;
    within = here;
  }

  -- a span that begins between a and b, and is not undecided, is visible
  next_meets : (span : Span) (rest : List Span) → IsTrueSpan track resolution span → ¬ (span.mark ≡ Undecided) → span.from < span.to →
      a ≤ℚ of_int (pos span.from) → of_int (pos span.from) ≤ℚ b → MeetsVisible (span ∷ rest) a b
  next_meets span rest is decided long low high = by_mark span.mark refl
    where
      here : IsWithin span.from span.to (of_int (pos span.from))
      here = record { low = le_refl _; high = of_int_le (omega (arith, ints, long)) }

      by_mark : (mark : Mark) → span.mark ≡ mark → MeetsVisible (span ∷ rest) a b
      by_mark Yes e = at_first span rest _ e low high here
      by_mark No e = absurd (none _ low high (is.no e _ here))
      by_mark Undecided e = absurd (decided e)

  -- the span behind an undecided one that a lies in
  behind : (first : Span) (rest : List Span) (to : ℕ) → first.mark ≡ Undecided → Leads first.to rest to → BeginsOtherThan first.mark rest →
      All (IsTrueSpan track resolution) rest → a ≤ℚ of_int (pos first.to) → of_int (pos first.to) ≤ℚ a +ℚ of_int (pos resolution) → b ≤ℚ of_int (pos to) → MeetsVisible rest a b
  behind first [] to e leads other all low short high = absurd (apart longer (le_trans (subst (λ t. b ≤ℚ of_int (pos t)) (sym leads) high) short))
  behind first (second ∷ rest) to e leads other all low short high =
      next_meets second rest (All-head (IsTrueSpan track resolution) second rest all) (λ u. other (e ∙ sym u)) leads.1
      (subst (λ t. a ≤ℚ of_int (pos t)) (sym leads.0) low)
      (subst (λ t. of_int (pos t) ≤ℚ b) (sym leads.0) (le_trans short (le_of_lt longer)))

  -- a lies in the first span
  meets_here : (from : ℕ) (first : Span) (rest : List Span) (to : ℕ) → Leads from (first ∷ rest) to → NeighboursDiffer (first ∷ rest) →
      All (IsTrueSpan track resolution) (first ∷ rest) → of_int (pos from) ≤ℚ a → a ≤ℚ of_int (pos first.to) → b ≤ℚ of_int (pos to) → MeetsVisible (first ∷ rest) a b
  meets_here from first rest to leads differ all low inside high = by_mark first.mark refl
    where
      is : IsTrueSpan track resolution first
      is = All-head (IsTrueSpan track resolution) first rest all

      begins : of_int (pos first.from) ≤ℚ a
      begins = subst (λ t. of_int (pos t) ≤ℚ a) (sym leads.0) low

      by_mark : (mark : Mark) → first.mark ≡ mark → MeetsVisible (first ∷ rest) a b
      by_mark Yes e = at_first first rest a e (le_refl a) a_to_b (record { low = begins; high = inside })
      by_mark No e = absurd (none a (le_refl a) a_to_b (is.no e a (record { low = begins; high = inside })))
      by_mark Undecided e =
          later first rest a b
          (behind first rest to e leads.2 differ.0 (All-tail (IsTrueSpan track resolution) first rest all) inside (ends_before first.from first.to begins (is.short e)) high)

  pub meets : (from : ℕ) (list : List Span) (to : ℕ) → Leads from list to → NeighboursDiffer list → All (IsTrueSpan track resolution) list →
      of_int (pos from) ≤ℚ a → b ≤ℚ of_int (pos to) → MeetsVisible list a b
  meets from [] to leads differ all low high = absurd (forward (le_trans (subst (λ t. b ≤ℚ of_int (pos t)) (sym leads) high) low))
  meets from (first ∷ rest) to leads differ all low high =
      ⊎_elim
      (λ h. meets_here from first rest to leads differ all low h high)
      (λ h. later first rest a b (meets first.to rest to leads.2 differ.1 (All-tail (IsTrueSpan track resolution) first rest all) h high))
      (le_total a (of_int (pos first.to)))

-- a station of a list is in its ranges
pub station_in_range : (stations : StationsRecord) (k : ℕ) (station : StationRow) → AreStations stations → slice_get stations.rows k ≡ Some station → IsStationRow station
station_in_range stations k station are e = found stations.rows k are.rows_are.rows_are.each e
  where
    found : (rows : List StationRow) (k : ℕ) → All IsStationRow rows → slice_get rows k ≡ Some station → IsStationRow station
    found [] k all e = absurd (none-some station e)
    found (row ∷ rows) zero all e = subst IsStationRow (same_Some row station e) (All-head IsStationRow row rows all)
    found (row ∷ rows) (suc k) all e = found rows k (All-tail IsStationRow row rows all) e

-- where some solution is above the mask, not every one is below it
not_hidden : (setting : SettingRecord) (set : ElementsRecord) (station : StationRow) → IsStationRow station → (place : ℚ) → IsAboveAt setting set station place →
    (sight_of setting set station).no place → ⊥
not_hidden setting set station is place above hidden =
    let s = above.solution in
    let pi = above.solves.pi in
    let held = some_sector_holds pi (map record_of_sector station.mask) above.solves.pairs s.sight above.solves.is_pi (are_round station.mask is.mask) above.solves.are_pairs in
    none_is_both s.sectors s.sight (subst (λ t. SomeSector (λ sector. HoldsDirection sector s.sight) t) (sym above.solves.sectors_are) held) above.above (hidden.each s above.solves)

lost_none : (setting : SettingRecord) (set : ElementsRecord) (station : StationRow) (slots used : ℕ) (answer : AnswerRecord) (list : List Span) (count : ℕ) → answer ≡ spans count →
    IsStationRow station → IsCertified (sight_of setting set station) setting.window.resolution slots used answer list → (from to : ℚ) → IsLongContact setting set station from to → MeetsVisible list from to
lost_none setting set station slots used answer list count e is certified from to contact =
    let sound = (subst (λ t. IsCertified (sight_of setting set station) setting.window.resolution slots used t list) e certified).0 in
    meets (sight_of setting set station) setting.window.resolution from to (λ place low high. not_hidden setting set station is place (contact.above place low high)) contact.longer
    0 list setting.window.ticks sound.tiles sound.differ sound.each
    (subst (λ t. t ≤ℚ from) (sym (of_int_is (pos 0))) contact.begins) contact.ends

pub long_contacts_are_visible : LongContactsAreVisible
long_contacts_are_visible setting set station slots used answer list is certified count e from to contact =
    lost_none setting set station slots used answer list count e is certified from to contact
