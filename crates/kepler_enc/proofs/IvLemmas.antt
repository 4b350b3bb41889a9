-- Intervals as enclosures of their own, and points.
use Rattle.std.proofs.Common.{◌≡◌, arith, subst, [], le_trans as nat_trans, T, Bool, true, pos}
use Rattle.std.proofs.lemmas.Int.{ints}
use Rattle.exact.specs.Rational.{ℚ, ratio, ◌+ℚ◌, ◌-ℚ◌, ◌*ℚ◌, ◌/ℚ◌, zero_ℚ, one_ℚ}
use Rattle.exact.proofs.RationalRing.{reads}
use Rattle.exact.proofs.Order.{known, le_by, le_refl}
use Rattle.exact.specs.Interval.{Interval, Inside}
use Rattle.fixed_iv.specs.Arithmetic.{numerals}
use Rattle.fixed_iv.specs.Extent.{Extent, extent_of}
use Rattle.fixed_iv.specs.Holds.{Holds, IsBounded}
use Rattle.fixed_iv.specs.Place.{Place}
use Rattle.fixed_iv.specs.Reach.{IsGiven, IsHeld, Reach, given, ◌+ᴿ◌, ◌-ᴿ◌, ◌*ᴿ◌, ◌/ᴿ◌}
use Rattle.fixed_iv.specs.Results.{IsDifference, IsProduct, IsQuotient, IsSum}
use Rattle.fixed_iv.specs.declared.iv.Iv.{Iv}
use Rattle.kepler_enc.specs.Point.{at}
use Rattle.fixed_iv.proofs.Held.{Contained, minus_held, plus_held, times_held}
use Rattle.fixed_iv.proofs.HeldLemmas.{holds_difference, holds_product, holds_quotient, holds_sum}
use Rattle.fixed_iv.proofs.HeldQuotient.{divided_held}
use Rattle.kepler_enc.proofs.PointLemmas.{holds_low}
use Rattle.fixed_iv.proofs.NarrowLemmas.{difference_narrow, measured_of, product_narrow, sum_narrow}
use Rattle.fixed_iv.proofs.OuterLemmas.{width_is}
use Rattle.fixed_iv.proofs.QuotientWidthLemmas.{quotient_narrow}
use Rattle.kepler_enc.proofs.DistanceLemmas.{at_one}

-- ---- an interval as an enclosure
pub here : Place
here = record { at = zero_ℚ; low = le_by [] (known 1 1) (search reads depth 90) tt; high = le_by [] (known 1 1) (search reads depth 90) tt }

abbrev pub IsHeldIv : Iv → ℚ → Reach → Type 0
IsHeldIv v x r = IsHeld (λ (a : Iv) (_ : Place) (y : ℚ). Holds a y) extent_of true v here x r

law : Contained (λ (a : Iv) (_ : Place) (y : ℚ). Holds a y) extent_of
law a h x k = k

pub iv_plus : {a b v : Iv} {x y : ℚ} {p q : Reach} → IsSum a b v → IsHeldIv a x p → IsHeldIv b y q → IsHeldIv v (x +ℚ y) (p +ᴿ q)
iv_plus s h k = plus_held law (λ _ _ _ m n. holds_sum s m n) (λ _. sum_narrow s) h k

pub iv_minus : {a b v : Iv} {x y : ℚ} {p q : Reach} → IsDifference a b v → IsHeldIv a x p → IsHeldIv b y q → IsHeldIv v (x -ℚ y) (p -ᴿ q)
iv_minus s h k = minus_held law (λ _ _ _ m n. holds_difference s m n) (λ _. difference_narrow s) h k

pub iv_times : {a b v : Iv} {x y : ℚ} {p q : Reach} → IsProduct a b v → IsHeldIv a x p → IsHeldIv b y q → IsHeldIv v (x *ℚ y) (p *ᴿ q)
iv_times s h k = times_held law (λ _ _ _ m n. holds_product s m n) (λ _. product_narrow s) h k

pub iv_divided : {a b v : Iv} {x y : ℚ} {p q : Reach} → IsQuotient a b v → ¬ (y ≡ zero_ℚ) → IsHeldIv a x p → IsHeldIv b y q → IsHeldIv v (x /ℚ y) (p /ᴿ q)
iv_divided s nonzero h k = divided_held law (λ _ _ _ m n _. holds_quotient s m n) (λ _. quotient_narrow s) nonzero h k

-- the bounds of an enclosure
pub bounds_held : {A : Type 0} {C : A → Place → ℚ → Type 0} {E : A → Extent} {told : Bool} → Contained C E → {a : A} {h : Place} {x : ℚ} {r : Reach} → T told → IsHeld C E told a h x r → IsHeldIv (E a).ends x r
bounds_held {E = E} contained {a} {h} {x} {r} t k = record {
  covers = contained a h x k.covers;
  known = λ _ ok.
      let n = k.known t ok in
      record { inside = n.inside; measured = measured_of (E a).ends n.measured.bounded; narrow = nat_trans n.measured.width n.narrow };
}

-- ---- points
pub point_given : (v : Iv) (i : Interval) → v.lo ≡ v.hi → Inside i (at v.lo) → IsGiven v (at v.lo) i 0
point_given v i e h = record {
  holds = holds_low v;
  bounded = record { low = omega (arith, ints, v.high_end.least, e); high = omega (arith, ints, v.low_end.most, e) };
  within = omega (arith, ints, width_is v, e);
  inside = h;
}

pub point_held : (v : Iv) (i : Interval) → v.lo ≡ v.hi → Inside i (at v.lo) → IsHeldIv v (at v.lo) (given i 0)
unfolding given
point_held v i e h =
    let g = point_given v i e h in
    record { covers = g.holds; known = λ _ _. record { inside = h; measured = measured_of v g.bounded; narrow = g.within } }

-- ---- the number 1
abbrev pub exactly_one : Reach
exactly_one = numerals.whole 1

pub one_given : (v : Iv) → v.lo ≡ pos 281474976710656 → v.hi ≡ pos 281474976710656 → IsGiven v one_ℚ exactly_one.range 0
unfolding ratio
one_given v e f =
    let b : IsBounded v = record { low = omega (arith, ints, e); high = omega (arith, ints, f) } in
    record {
      holds = subst (Holds v) at_one (subst (λ t. Holds v (at t)) e (holds_low v));
      bounded = b;
      within = omega (arith, ints, width_is v, e, f);
      inside = record { low = le_refl one_ℚ; high = le_refl one_ℚ };
    }

pub one_held : (v : Iv) → v.lo ≡ pos 281474976710656 → v.hi ≡ pos 281474976710656 → IsHeldIv v one_ℚ exactly_one
one_held v e f =
    let g = one_given v e f in
    record { covers = g.holds; known = λ _ _. record { inside = g.inside; measured = measured_of v g.bounded; narrow = g.within } }
