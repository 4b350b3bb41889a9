-- One lemma a method of an enclosure: from what a call promises, and what is said of its arguments, what is said of its result.
use Rattle.std.proofs.Common.{◌≡◌, T, suc, ℕ, ℤ, pos, ◌-ℤ◌}
use lib.Signed.{non_neg}
use Rattle.exact.specs.Rational.{ℚ, ◌+ℚ◌, ◌-ℚ◌, ◌*ℚ◌, ◌/ℚ◌, ratio, zero_ℚ}
use Rattle.exact.specs.Interval.{just}
use Rattle.sgp4_model.specs.Angle.{IsPi, IsSinCos}
use Rattle.fixed_iv.specs.Follows.{Encloses}
use Rattle.fixed_iv.specs.Holds.{Holds, IsTightest}
use Rattle.fixed_iv.specs.Narrow.{IsNarrowConstant, IsNarrowDifference, IsNarrowProduct, IsNarrowQuotient, IsNarrowSum, IsNarrowTurn}
use Rattle.fixed_iv.specs.Place.{Place}
use Rattle.fixed_iv.specs.Reach.{Reach, given, is_small, outer, reach_of, turned, units_above, units_below, ◌+ᴿ◌, ◌-ᴿ◌, ◌*ᴿ◌, ◌/ᴿ◌}
use Rattle.fixed_iv.specs.Results.{IsRatio}
use Rattle.fixed_iv.specs.declared.enc.Enc.{Ghosts}
use Rattle.fixed_iv.specs.declared.iv.Iv.{Iv}
use Rattle.fixed_iv.proofs.Held.{Contained, constant_held, minus_held, plus_held, times_held, turn_held}
use Rattle.fixed_iv.proofs.HeldGiven.{ratio_given}
use Rattle.fixed_iv.proofs.HeldQuotient.{divided_held}

-- what the methods promise of their results
abbrev pub Sum : {A : Type 0} → Ghosts A → A → A → A → Type 0
Sum E a b r = record {
  covers : (h : Place) (x y : ℚ) → E.covers a h x → E.covers b h y → E.covers r h (x +ℚ y);
  narrow : T E.tells → IsNarrowSum (E.extent a) (E.extent b) (E.extent r);
}

abbrev pub Difference : {A : Type 0} → Ghosts A → A → A → A → Type 0
Difference E a b r = record {
  covers : (h : Place) (x y : ℚ) → E.covers a h x → E.covers b h y → E.covers r h (x -ℚ y);
  narrow : T E.tells → IsNarrowDifference (E.extent a) (E.extent b) (E.extent r);
}

abbrev pub Product : {A : Type 0} → Ghosts A → A → A → A → Type 0
Product E a b r = record {
  covers : (h : Place) (x y : ℚ) → E.covers a h x → E.covers b h y → E.covers r h (x *ℚ y);
  narrow : T E.tells → IsNarrowProduct (E.extent a) (E.extent b) (E.extent r);
}

abbrev pub Quotient : {A : Type 0} → Ghosts A → A → A → A → Type 0
Quotient E a b r = record {
  covers : (h : Place) (x y : ℚ) → E.covers a h x → E.covers b h y → ¬ (y ≡ zero_ℚ) → E.covers r h (x /ℚ y);
  narrow : T E.tells → IsNarrowQuotient (E.extent a) (E.extent b) (E.extent r);
}

abbrev pub Turn : {A : Type 0} → Ghosts A → A → A × A → Type 0
Turn E a r = record {
  covers : (h : Place) (p x s c : ℚ) → IsPi p → IsSinCos p x s c → E.covers a h x → E.covers r.0 h s × E.covers r.1 h c;
  narrow : T E.tells → IsNarrowTurn (E.extent a) (E.extent r.0) × IsNarrowTurn (E.extent a) (E.extent r.1);
}

abbrev pub Constant : {A : Type 0} → Ghosts A → Iv → A → Type 0
Constant E v r = record { covers : (h : Place) (x : ℚ) → Holds v x → E.covers r h x; narrow : T E.tells → IsNarrowConstant v (E.extent r) }

module _ {A : Type 0} {E : Ghosts A} (law : Contained E.covers E.extent) where
  pub sum : {a b r : A} {h : Place} {x y : ℚ} {p q : Reach} → Sum E a b r →
      Encloses E a h x p → Encloses E b h y q → Encloses E r h (x +ℚ y) (p +ᴿ q)
  sum promise = plus_held law promise.covers promise.narrow

  pub difference : {a b r : A} {h : Place} {x y : ℚ} {p q : Reach} → Difference E a b r →
      Encloses E a h x p → Encloses E b h y q → Encloses E r h (x -ℚ y) (p -ᴿ q)
  difference promise = minus_held law promise.covers promise.narrow

  pub product : {a b r : A} {h : Place} {x y : ℚ} {p q : Reach} → Product E a b r →
      Encloses E a h x p → Encloses E b h y q → Encloses E r h (x *ℚ y) (p *ᴿ q)
  product promise = times_held law promise.covers promise.narrow

  -- by a divisor that is not 0
  pub quotient : {a b r : A} {h : Place} {x y : ℚ} {p q : Reach} → Quotient E a b r → ¬ (y ≡ zero_ℚ) →
      Encloses E a h x p → Encloses E b h y q → Encloses E r h (x /ℚ y) (p /ᴿ q)
  quotient promise divides = divided_held law promise.covers promise.narrow divides

-- the sine and the cosine
pub turn : {A : Type 0} {E : Ghosts A} {a : A} {r : A × A} {h : Place} {pi x s c : ℚ} {p : Reach} → Turn E a r → IsPi pi → IsSinCos pi x s c →
    Encloses E a h x p → Encloses E r.0 h s (turned p) × Encloses E r.1 h c (turned p)
turn promise = turn_held promise.covers promise.narrow

-- the number n / (d + 1), enclosed within so many units. The last three arguments are `tt`.
pub number : {A : Type 0} {E : Ghosts A} {v : Iv} {r : A} {h : Place} (n : ℤ) (d units : ℕ) → Constant E v r → IsTightest (IsRatio n (pos (suc d))) v →
    T (is_small (just (record { num = n; under = d }))) →
    T (non_neg (pos units -ℤ (units_above (record { num = n; under = d }) -ℤ units_below (record { num = n; under = d })))) →
    T (is_small (outer (reach_of (just (record { num = n; under = d })) units))) →
    Encloses E r h (ratio n (suc d)) (reach_of (just (record { num = n; under = d })) units)
unfolding given
number {E = E} {h = h} n d units promise tightest small narrow bounded =
    let k = constant_held {C = E.covers} {E = E.extent} {told = E.tells} {h = h} promise.covers promise.narrow (ratio_given n d units tightest small narrow) in
    record { covers = k.covers; known = λ told _. k.known told bounded }
