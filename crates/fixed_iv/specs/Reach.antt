-- What numerals say of an enclosure: where its value lies, and how far its spread goes.
-- The operations compute them for a result, as the enclosure's own operations do.
use Rattle.std.specs.Prelude.{ℕ, zero, suc, ltb, ◌+◌, ◌*◌, ◌/◌, ◌^◌, ◌-◌, ◌≤◌, max, Bool, true, false, ◌&&◌, T, ℤ, pos, negsuc, ◌+ℤ◌, ◌-ℤ◌, ◌*ℤ◌, neg_ℤ, unsigned_abs}
use Rattle.std.specs.Int.{int_max, int_min}
use lib.Signed.{non_neg}
use Rattle.algebra.proofs.Polynomials.{Unless}
use Rattle.exact.specs.Rational.{ℚ}
use Rattle.exact.specs.Interval.{Coef, Interval, Inside, interval_add, interval_mul, coef_max, coef_min, coef_neg, coef_le, floor, ceiling}
use Rattle.fixed_iv.specs.Extent.{Extent, IsMeasured, width_of}
use Rattle.fixed_iv.specs.Holds.{Holds, IsBounded}
use Rattle.fixed_iv.specs.Place.{Place}
use Rattle.fixed_iv.specs.declared.iv.Iv.{Iv}

-- A value's range, and the greatest spread of an enclosure of it. Nothing is said where `ok` is false.
pub record Reach : Type 0 where
  pub ok : Bool
  pub range : Interval
  pub spread : ℕ

-- the value lies in the range, and the enclosure is measured, with at most that spread
pub record IsKnown (e : Extent) (x : ℚ) (range : Interval) (spread : ℕ) : Type 0 where
  pub inside : Inside range x
  pub measured : IsMeasured e
  pub narrow : e.spread ≤ spread

-- the enclosure covers the value, and, where it tells its spread, both are as the numerals say
pub record IsHeld {A : Type 0} (meaning : A → Place → ℚ → Type 0) (extent : A → Extent) (told : Bool) (a : A) (h : Place) (x : ℚ) (r : Reach) : Type 0 where
  pub covers : meaning a h x
  pub known : T told → T r.ok → IsKnown (extent a) x r.range r.spread

-- numerals that say nothing
abbrev pub nothing : Reach
nothing = record { ok = false; range = record { low = record { num = pos 0; under = 0 }; high = record { num = pos 0; under = 0 } }; spread = 0 }

-- a number in units of 2^-48, rounded down and up
abbrev pub units_below : Coef → ℤ
units_below c = floor (c.num *ℤ pos 281474976710656) (suc c.under)

abbrev pub units_above : Coef → ℤ
units_above c = ceiling (c.num *ℤ pos 281474976710656) (suc c.under)

-- the least and the greatest end that the bounds can have
abbrev pub lowest : Reach → ℤ
lowest r = units_below r.range.low -ℤ pos r.spread

abbrev pub highest : Reach → ℤ
highest r = units_above r.range.high +ℤ pos r.spread

-- the number, and 0 for a negative one
abbrev pub above_0 : ℤ → ℕ
above_0 (pos n) = n
above_0 (negsuc n) = 0

-- so many units of 2^-48
abbrev pub in_fraction : ℤ → Coef
in_fraction units = record { num = units; under = 281474976710655 }

-- where the bounds lie, and their largest size
abbrev pub outer : Reach → Interval
outer r = record { low = in_fraction (lowest r); high = in_fraction (highest r) }

abbrev pub outer_size : Reach → ℕ
outer_size r = max (unsigned_abs (lowest r)) (unsigned_abs (highest r))

-- between -32,000 and 32,000
abbrev pub is_small : Interval → Bool
is_small i = coef_le (record { num = negsuc 31999; under = 0 }) i.low && coef_le i.high (record { num = pos 32000; under = 0 })

-- ranges of products are rounded outward to this denominator, less 1
abbrev pub grain : ℕ
grain = 2 ^ 64 - 1

abbrev pub interval_neg : Interval → Interval
interval_neg i = record { low = coef_neg i.high; high = coef_neg i.low }

-- of a sum
infixl 6 ◌+ᴿ◌
unfoldable pub ◌+ᴿ◌ : Reach → Reach → Reach
a +ᴿ b =
    record {
      ok = (a.ok && b.ok) && is_small (interval_add (outer a) (outer b));
      range = interval_add a.range b.range;
      spread = a.spread + b.spread;
    }

-- of a difference
infixl 6 ◌-ᴿ◌
unfoldable pub ◌-ᴿ◌ : Reach → Reach → Reach
a -ᴿ b =
    record {
      ok = (a.ok && b.ok) && is_small (interval_add (outer a) (interval_neg (outer b)));
      range = interval_add a.range (interval_neg b.range);
      spread = a.spread + b.spread;
    }

-- of a product
infixl 7 ◌*ᴿ◌
unfoldable pub ◌*ᴿ◌ : Reach → Reach → Reach
a *ᴿ b =
    record {
      ok = (a.ok && b.ok) && is_small (interval_mul grain (outer a) (outer b));
      range = interval_mul grain a.range b.range;
      spread = (outer_size a * b.spread + outer_size b * a.spread) / 281474976710656 + 2;
    }

-- of a negative
unfoldable pub negative : Reach → Reach
negative a = record { ok = a.ok && is_small (interval_neg (outer a)); range = interval_neg a.range; spread = a.spread }

-- of either number of a pair
abbrev pub turn_range : Interval
turn_range = record { low = record { num = negsuc 100000; under = 99999 }; high = record { num = pos 100001; under = 99999 } }

unfoldable pub turned : Reach → Reach
turned a = record { ok = a.ok; range = turn_range; spread = a.spread + 16 }

-- a value in this range, and at most this spread
abbrev pub reach_of : Interval → ℕ → Reach
reach_of i n = record { ok = true; range = i; spread = n }

-- of a given interval of at most this width, for a value in this range
unfoldable pub given : Interval → ℕ → Reach
given i n = record { ok = is_small (outer (reach_of i n)); range = i; spread = n }

-- of pi
abbrev pub pi_range : Interval
pi_range = record {
  low = record { num = pos 3141592653589793238462643383279502884; under = 10 ^ 36 - 1 };
  high = record { num = pos 3141592653589793238462643383279502885; under = 10 ^ 36 - 1 };
}

abbrev pub pi_reach : Reach
pi_reach = record { ok = true; range = pi_range; spread = 1 }

-- of a line between given intervals: from a value in a.range to one in b.range
unfoldable pub lined : Reach → Reach → Reach
lined a b =
    record {
      ok = is_small (outer a) && is_small (outer b);
      range = record { low = coef_min a.range.low b.range.low; high = coef_max a.range.high b.range.high };
      spread = unsigned_abs (int_max (highest a) (highest b) -ℤ int_min (lowest a) (lowest b));
    }

-- of the greater of a value and a number of a given interval
unfoldable pub greater_of : Reach → Reach → Reach
greater_of a floor =
    record {
      ok = (a.ok && is_small (outer a)) && is_small (outer floor);
      range = record { low = coef_max a.range.low floor.range.low; high = coef_max a.range.high floor.range.high };
      spread = max a.spread floor.spread;
    }

-- 1 / c, and 0 for 0
abbrev pub coef_inverse : Coef → Coef
coef_inverse c =
    elim c.num [
      | pos zero ↦ record { num = pos 0; under = 0 }
      | pos (suc n) ↦ record { num = pos (suc c.under); under = n }
      | negsuc n ↦ record { num = negsuc c.under; under = n }
    ]

-- the range of 1 / x for x in a range on one side of 0
abbrev pub interval_inverse : Interval → Interval
interval_inverse i = record { low = coef_inverse i.high; high = coef_inverse i.low }

-- the least size of an end that the bounds can have, where they lie on one side of 0; else 0
abbrev pub distance : Reach → ℕ
distance r = max (above_0 (lowest r)) (above_0 (neg_ℤ (highest r)))

-- of a quotient
infixl 7 ◌/ᴿ◌
unfoldable pub ◌/ᴿ◌ : Reach → Reach → Reach
a /ᴿ b =
    record {
      ok = ((a.ok && b.ok) && ltb 0 (distance b)) && is_small (interval_mul grain (outer a) (interval_inverse (outer b)));
      range = interval_mul grain a.range (interval_inverse b.range);
      spread = (a.spread * 281474976710656 * distance b + outer_size a * b.spread * 281474976710656) / (distance b * distance b) + 2;
    }

-- r, where the value is known to lie in this range
abbrev pub claimed : Reach → Interval → Reach
claimed r i = record { ok = r.ok; range = i; spread = r.spread }

-- r says as much as s or more
abbrev pub is_within : Reach → Reach → Bool
is_within r s = (r.ok && coef_le s.range.low r.range.low) && (coef_le r.range.high s.range.high && non_neg (pos s.spread -ℤ pos r.spread))

-- empty: a goal of this type shows the numerals found, and those wanted
pub data Exceeds (found wanted : Reach) : Type 0 where

abbrev pub Reaches : Reach → Reach → Type 0
Reaches r s = Unless (is_within r s) (Exceeds r s)

-- numerals: between the fractions m / d and n / d, with this spread
abbrev pub from_to : ℤ → ℤ → ℕ → ℕ → Reach
from_to m n d spread = record { ok = true; range = record { low = record { num = m; under = d - 1 }; high = record { num = n; under = d - 1 } }; spread = spread }

-- a bounded interval of at most this width that holds the value, which lies in the range
pub record IsGiven (v : Iv) (x : ℚ) (range : Interval) (width : ℕ) : Type 0 where
  pub holds : Holds v x
  pub bounded : IsBounded v
  pub within : width_of v ≤ width
  pub inside : Inside range x
