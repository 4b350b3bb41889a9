-- Intervals between fractions that the checker compares, and their sums and products, rounded outwards.
use Rattle.std.specs.Prelude.{ℕ, suc, pred, ◌*◌, ◌/◌, Bool, true, false, ℤ, pos, negsuc}
use native.Mathlib.Nat.{zero-lt-suc}
use mathlib.Core.Quot.{mk}
use lib.IntN.{◌+ℤ◌, ◌*ℤ◌, neg_ℤ}
use lib.Signed.{non_neg}
use Rattle.std.proofs.Common.{eqb}
use Rattle.algebra.specs.Fraction.{Frac}
use Rattle.exact.specs.Rational.{ℚ, ◌≤ℚ◌}

-- The fraction `num / (under + 1)`.
pub record Coef : Type 0 where
  pub num : ℤ
  pub under : ℕ

abbrev pub coef_add : Coef → Coef → Coef
coef_add a b =
    elim (eqb a.under b.under) [
      | true ↦ record { num = a.num +ℤ b.num; under = a.under }
      | false ↦ record { num = a.num *ℤ pos (suc b.under) +ℤ b.num *ℤ pos (suc a.under); under = pred (suc a.under * suc b.under) }
    ]

abbrev pub coef_mul : Coef → Coef → Coef
coef_mul a b = record { num = a.num *ℤ b.num; under = pred (suc a.under * suc b.under) }

abbrev pub frac_of : Coef → Frac
frac_of c = record { num = c.num; den = suc c.under; fits = zero-lt-suc c.under }

abbrev pub number_of : Coef → ℚ
number_of c = mk (frac_of c)

abbrev pub coef_le : Coef → Coef → Bool
coef_le a b = non_neg (b.num *ℤ pos (suc a.under) +ℤ neg_ℤ a.num *ℤ pos (suc b.under))

abbrev pub coef_min : Coef → Coef → Coef
coef_min a b = elim (coef_le a b) [ true ↦ a | false ↦ b ]

abbrev pub coef_max : Coef → Coef → Coef
coef_max a b = elim (coef_le a b) [ true ↦ b | false ↦ a ]

abbrev pub coef_neg : Coef → Coef
coef_neg c = record { num = neg_ℤ c.num; under = c.under }

-- ---- rounding to the denominator `under + 1`
abbrev pub floor : ℤ → ℕ → ℤ
floor (pos n) d = pos (n / d)
floor (negsuc n) d = negsuc (n / d)

abbrev pub ceiling : ℤ → ℕ → ℤ
ceiling z d = neg_ℤ (floor (neg_ℤ z) d)

abbrev pub round_down : ℕ → Coef → Coef
round_down under c = record { num = floor (c.num *ℤ pos (suc under)) (suc c.under); under = under }

abbrev pub round_up : ℕ → Coef → Coef
round_up under c = coef_neg (round_down under (coef_neg c))

-- ---- intervals
pub record Interval : Type 0 where
  pub low : Coef
  pub high : Coef

pub record Inside (i : Interval) (x : ℚ) : Type 0 where
  pub low : number_of i.low ≤ℚ x
  pub high : x ≤ℚ number_of i.high

abbrev pub just : Coef → Interval
just c = record { low = c; high = c }

-- x between two fractions
abbrev pub between : ℤ → ℕ → ℤ → ℕ → Interval
between m d n e = record { low = record { num = m; under = pred d }; high = record { num = n; under = pred e } }

abbrev pub interval_add : Interval → Interval → Interval
interval_add i j = record { low = coef_add i.low j.low; high = coef_add i.high j.high }

abbrev pub interval_mul : ℕ → Interval → Interval → Interval
interval_mul u i j =
    let a = coef_mul i.low j.low in
    let b = coef_mul i.low j.high in
    let c = coef_mul i.high j.low in
    let d = coef_mul i.high j.high in
    record { low = round_down u (coef_min (coef_min a b) (coef_min c d)); high = round_up u (coef_max (coef_max a b) (coef_max c d)) }
