-- The bounds of the lengths of a class are narrow.
use Rattle.std.proofs.Common.{◌∷◌, [], ◌≡◌, arith, T, true, nat_le, ℕ, ◌+◌, ◌^◌, ◌≤◌, le_trans as nat_trans}
use Rattle.std.proofs.lemmas.Bool.Decides.{nat_tests}
use Rattle.exact.specs.Rational.{ℚ, ◌+ℚ◌, ◌-ℚ◌, ◌*ℚ◌, ◌≤ℚ◌}
use Rattle.exact.proofs.Order.{gap, known, le_by}
use Rattle.exact.proofs.RationalRing.{reads}
use Rattle.exact.specs.Interval.{Inside}
use Rattle.decimals.specs.Decimal.{value}
use Rattle.fixed_iv.specs.Extent.{extent_of}
use Rattle.fixed_iv.specs.Follows.{Encloses}
use Rattle.fixed_iv.specs.Holds.{Holds}
use Rattle.fixed_iv.specs.Place.{Place}
use Rattle.fixed_iv.specs.Reach.{IsHeld, Reach, turn_range, ◌*ᴿ◌}
use Rattle.fixed_iv.specs.Results.{IsProduct}
use Rattle.fixed_iv.specs.declared.enc.Enc.{Ghosts}
use Rattle.fixed_iv.specs.declared.iv.Iv.{Iv}
use Rattle.fixed_iv.proofs.Held.{Contained, times_held}
use Rattle.fixed_iv.proofs.HeldLemmas.{holds_difference, holds_product}
use Rattle.fixed_iv.proofs.NarrowLemmas.{difference_narrow, measured_of, product_narrow}
use Rattle.sgp4_model.specs.Angle.{least_pi, part}
use Rattle.sgp4_model.specs.Numerals.{decimal}
use Rattle.sgp4_model.proofs.Pythagoras.{sine_pairs_are_bounded}
use Rattle.station_view.specs.Bounds.{AreAtMost, AreNarrowWith, IsCross, IsNarrowWith, IsNoWiderThan}
use Rattle.station_view.specs.Fine.{sight_bounds}
use Rattle.station_view.specs.SightReach.{IsHeldSight}
use Rattle.station_view.specs.declared.vector.Sight.{Sight}
use Rattle.sgp4_model.specs.Sight.{SightRecord}
use Rattle.station_view.specs.Lengths.{IsHeldLengths, LengthsRecord, bounds_of}
use Rattle.kepler_enc.specs.Guess.{AreSized}
use Rattle.sgp4_periodic.specs.Pairs.{most_pair}
use Rattle.sgp4_periodic.proofs.PairLemmas.{outer_held, pair_sized}
use Rattle.station_view.specs.Spot.{EnclosePair, EncloseSine, IsNoWider}
use Rattle.station_view.specs.declared.sector.EnclosedSector.{EnclosedSector}
use Rattle.station_view.specs.declared.vector.Lengths.{Lengths}
use Rattle.station_view.proofs.ClassReach.{IsClass, IsSightClass, class_lengths, class_range, class_sight, cross_reach, sector_number}
use Rattle.station_view.proofs.DegreeLemmas.{at_start, some_pi}
use Rattle.station_view.proofs.OneLemmas.{fewer}
use Rattle.station_view.proofs.PlaceLemmas.{in_turn, own, own_is}

-- an interval holds a number, and is as numerals say
abbrev HeldIv : Iv → ℚ → Reach → Type 0
HeldIv v x r = IsHeld (λ (a : Iv) (h : Place) (y : ℚ). Holds a y) extent_of true v at_start x r

-- the bounds of an enclosure are as it is
as_iv : {A : Type 0} {E : Ghosts A} → Contained E.covers E.extent → T E.tells → {a : A} {h : Place} {x : ℚ} {r : Reach} → Encloses E a h x r → HeldIv (E.extent a).ends x r
as_iv law told {a} {h} {x} held = record {
  covers = law a h x held.covers;
  known = λ _ ok.
      let k = held.known told ok in
      record { inside = k.inside; measured = measured_of _ k.measured.bounded; narrow = nat_trans k.measured.width k.narrow };
}

sector_held : {v : Iv} {x : ℚ} → Holds v x → Inside turn_range x → IsNoWider (2 ^ 20) v → HeldIv v x sector_number
sector_held {v} holds inside narrow = record {
  covers = holds;
  known = λ _ _. record { inside = inside; measured = measured_of v narrow.bounded; narrow = narrow.width };
}

-- the enclosures of a sector, at some pairs
sine_of : (d : ℚ) {sines cosines : Iv} → EnclosePair d sines cosines → HeldIv sines (own d).sine sector_number
sine_of d e = sector_held (e.hold least_pi (own d) some_pi (own_is d)).0 (in_turn (own d).sine (sine_pairs_are_bounded _ _ _ _ some_pi (own_is d)).0) e.narrow_sines

cosine_of : (d : ℚ) {sines cosines : Iv} → EnclosePair d sines cosines → HeldIv cosines (own d).cosine sector_number
cosine_of d e = sector_held (e.hold least_pi (own d) some_pi (own_is d)).1 (in_turn (own d).cosine (sine_pairs_are_bounded _ _ _ _ some_pi (own_is d)).1) e.narrow_cosines

floor_of : (d : ℚ) {sines : Iv} → EncloseSine d sines → HeldIv sines (own d).sine sector_number
floor_of d e = sector_held (e.hold least_pi (own d) some_pi (own_is d)) (in_turn (own d).sine (sine_pairs_are_bounded _ _ _ _ some_pi (own_is d)).0) e.narrow

product_iv : {a b r : Iv} {x y : ℚ} {p q : Reach} → IsProduct a b r → HeldIv a x p → HeldIv b y q → HeldIv r (x *ℚ y) (p *ᴿ q)
product_iv is = times_held (λ a h y k. k) (λ h x y k l. holds_product is k l) (λ _. product_narrow is)

-- ---- widths
passed : (a b : ℕ) → nat_le a b ≡ true → a ≤ b
passed a b e = grind (arith, nat_tests, e)

sharp : AreAtMost (part 15) (2 ^ 33)
sharp = le_by [] (known 0 1) (search reads depth 90) tt

pub two_thousandths : AreAtMost (decimal 2 3) 562949953421
two_thousandths = le_by [] (known 39 35184372088832000) (search reads depth 90) tt

pub one_thousandth : AreAtMost (decimal 1 3) 281474976710
one_thousandth = le_by [] (known 41 17592186044416000) (search reads depth 90) tt

at_most_sharp : (n : ℕ) → n ≤ 2 ^ 33 → AreAtMost (part 15) n
at_most_sharp n h = fewer n (2 ^ 33) h sharp

-- the cross product with a pair
cross_held : {a b c d cross : Iv} {x y z w : ℚ} {p q : Reach} → AreSized most_pair x y → IsCross a c b d cross → HeldIv a x sector_number → HeldIv b y sector_number → HeldIv c z p → HeldIv d w q →
    HeldIv cross (x *ℚ z -ℚ y *ℚ w) (cross_reach p q)
cross_held sized is of_a of_b of_c of_d =
    outer_held (λ a h y k. k) true most_pair (λ _. sized) (λ h x y k l. holds_product is.of_left k l) (λ _. product_narrow is.of_left)
    (λ h x y k l. holds_product is.of_right k l) (λ _. product_narrow is.of_right) of_a of_b of_c of_d (λ h x y k l. holds_difference is.is k l) (λ _. difference_narrow is.is)

no_wider : {b : ℚ} (units : ℕ) {cross : Iv} {x : ℚ} {r : Reach} → AreAtMost b units → HeldIv cross x r → T r.ok → nat_le r.spread units ≡ true → IsNoWiderThan b cross
no_wider units limit held ok most =
    let k = held.known tt ok in
    record { bounded = k.measured.bounded; width = fewer _ units (nat_trans k.measured.width (nat_trans k.narrow (passed _ _ most))) limit }

-- a border's pair is sized, either way
sized : (d : ℚ) → AreSized most_pair (own d).cosine (own d).sine
sized d = pair_sized _ _ _ _ some_pi (own_is d)

other_sized : (d : ℚ) → AreSized most_pair (own d).sine (own d).cosine
other_sized d = turned_round _ _ _ (sized d)
  where
    turned_round : (a b m : ℚ) → a +ℚ b ≤ℚ m → b +ℚ a ≤ℚ m
    turned_round a b m h = le_by (a ∷ b ∷ m ∷ []) (gap h) (search reads depth 90) tt

pub narrow_class : (m n : ℕ) → IsClass m n → {A : Type 0} {E : Ghosts A} → Contained E.covers E.extent → T E.tells → (lengths : Lengths A) (h : Place) (l : LengthsRecord) →
    IsHeldLengths E lengths h l (class_lengths m n) → (e : EnclosedSector) → AreNarrowWith (part 15) (bounds_of E lengths) e
narrow_class m n class {E = E} law told lengths h l held e =
    let east : HeldIv (E.extent lengths.east).ends l.east (class_lengths m n).east = as_iv law told held.east in
    let north : HeldIv (E.extent lengths.north).ends l.north (class_lengths m n).north = as_iv law told held.north in
    let up : HeldIv (E.extent lengths.up).ends l.up (class_lengths m n).up = as_iv law told held.up in
    let range : HeldIv (E.extent lengths.range).ends l.range (class_range m n) = as_iv law told held.range in
    let high = up.known tt class.length in
    let floor = floor_of (value e.sector.floor) e.floor in
    record {
      bounded = high.measured.bounded;
      floor = λ product is. ((product_iv is floor range).known tt class.floor).measured.bounded;
      up = λ product is.
          let k = (product_iv is floor range).known tt class.floor in
          let a = nat_trans high.measured.width high.narrow in
          let b = nat_trans k.measured.width k.narrow in
          at_most_sharp _ (sum_within _ _ _ _ a b (passed _ _ class.up));
      from = λ cross is.
          let d = value e.sector.border in
          no_wider (2 ^ 33) sharp (cross_held (sized d) is (cosine_of d e.from) (sine_of d e.from) east north) class.past class.past_least;
      to = λ cross is. let d = value e.end in no_wider (2 ^ 33) sharp (cross_held (other_sized d) is (sine_of d e.to) (cosine_of d e.to) north east) class.short class.short_least;
    }
  where
    sum_within : (a b p q : ℕ) → a ≤ p → b ≤ q → p + q ≤ 2 ^ 33 → a + b ≤ 2 ^ 33
    sum_within a b p q h k s = omega (arith, h, k, s)

-- the bounds of the direction of a class are narrow by b, which are so many units at least
pub narrow_sight : (units m n : ℕ) {b : ℚ} → AreAtMost b units → IsSightClass units m n → {A : Type 0} {E : Ghosts A} → Contained E.covers E.extent → T E.tells → (sight : Sight A) (h : Place) (v : SightRecord) →
    IsHeldSight E sight h v (class_sight m n) → (e : EnclosedSector) → IsNarrowWith b (sight_bounds E sight) e
narrow_sight units m n limit class {E = E} law told sight h v held e =
    let east : HeldIv (E.extent sight.east).ends v.east (class_sight m n).east = as_iv law told held.east in
    let north : HeldIv (E.extent sight.north).ends v.north (class_sight m n).north = as_iv law told held.north in
    let up : HeldIv (E.extent sight.up).ends v.up (class_sight m n).up = as_iv law told held.up in
    let high = up.known tt class.length in
    record {
      bounded = high.measured.bounded;
      up = fewer _ units (sum_within _ _ _ _ (nat_trans high.measured.width high.narrow) e.floor.narrow.width (passed _ _ class.up)) limit;
      from = λ cross is.
          let d = value e.sector.border in
          no_wider units limit (cross_held (sized d) is (cosine_of d e.from) (sine_of d e.from) east north) class.past class.past_least;
      to = λ cross is. let d = value e.end in no_wider units limit (cross_held (other_sized d) is (sine_of d e.to) (cosine_of d e.to) north east) class.short class.short_least;
    }
  where
    sum_within : (a b p q : ℕ) → a ≤ p → b ≤ q → p + q ≤ units → a + b ≤ units
    sum_within a b p q h k s = omega (arith, h, k, s)
