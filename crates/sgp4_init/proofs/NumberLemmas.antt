-- Given numbers, enclosed.
use Rattle.std.proofs.Common.{arith, refl, ℕ, zero, suc, T, Bool, ℤ, pos, negsuc, ◌-ℤ◌, ◌<ℤ◌, unsigned_abs}
use Rattle.std.proofs.lemmas.Int.{ints}
use lib.Signed.{non_neg}
use Rattle.exact.specs.Rational.{ℚ, ratio}
use Rattle.exact.specs.Interval.{just}
use Rattle.fixed_iv.specs.Extent.{Extent}
use Rattle.fixed_iv.specs.Holds.{Holds, IsTightest}
use Rattle.fixed_iv.specs.Narrow.{IsNarrowConstant}
use Rattle.fixed_iv.specs.Place.{Place}
use Rattle.fixed_iv.specs.Reach.{IsHeld, given, units_above, units_below}
use Rattle.fixed_iv.specs.Results.{IsRatio}
use Rattle.fixed_iv.specs.declared.iv.Iv.{Iv}
use Rattle.fixed_iv.proofs.Held.{constant_held}
use Rattle.fixed_iv.proofs.HeldGiven.{ratio_given}
use Rattle.fixed_iv.proofs.OuterLemmas.{both}
use Rattle.sgp4_init.specs.Numerals.{fraction, of_ratio, width}

at_most_size : (z : ℤ) → T (non_neg (pos (unsigned_abs z) -ℤ z))
at_most_size (pos n) = omega (arith, ints)
at_most_size (negsuc n) = omega (arith, ints)

over : {A : Type 0} {C : A → Place → ℚ → Type 0} {E : A → Extent} {told : Bool} {v : Iv} {r : A} {h : Place} (n : ℤ) (d : ℕ) →
    ((h : Place) (x : ℚ) → Holds v x → C r h x) → (T told → IsNarrowConstant v (E r)) → IsTightest (IsRatio n (pos (suc d))) v →
    IsHeld C E told r h (ratio n (suc d)) (of_ratio n (pos (suc d)))
unfolding of_ratio given
over {C = C} {E} {told} {v} {r} {h} n d covers narrow t =
    let c = fraction n (pos (suc d)) in
    record {
      covers = covers h _ (t.holds _ refl);
      known = λ told ok. let k = both _ _ ok in
          let held : IsHeld C E _ r h (ratio n (suc d)) (given (just c) (width c)) = constant_held covers narrow (ratio_given n d (width c) t k.0 (at_most_size (units_above c -ℤ units_below c))) in
          held.known told k.1;
    }

pub number_held : {A : Type 0} {C : A → Place → ℚ → Type 0} {E : A → Extent} {told : Bool} {v : Iv} {r : A} {h : Place} (n d : ℤ) → pos 0 <ℤ d →
    ((h : Place) (x : ℚ) → Holds v x → C r h x) → (T told → IsNarrowConstant v (E r)) → IsTightest (IsRatio n d) v →
    IsHeld C E told r h (ratio n (unsigned_abs d)) (of_ratio n d)
number_held n (pos zero) p covers narrow t = absurd (omega (arith, ints, p))
number_held n (pos (suc d)) p covers narrow t = over n d covers narrow t
number_held n (negsuc d) p covers narrow t = absurd (omega (arith, ints, p))
