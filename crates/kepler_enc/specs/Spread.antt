-- What numerals say of the roots, from those of u, ax and ay: the numerals of each step of the code. An angle that is
-- tried is a point; of the middles of u, ax and ay it is known that they are points within the bounds.
use Rattle.std.specs.Prelude.{ℕ, ◌+◌, ◌-◌, ◌*◌, ◌/◌, ◌^◌, Bool, ◌&&◌, pos, neg_ℤ, ◌-ℤ◌}
use lib.Signed.{non_neg}
use Rattle.exact.specs.Interval.{Interval, interval_add}
use Rattle.fixed_iv.specs.Arithmetic.{numerals}
use Rattle.fixed_iv.specs.Reach.{Reach, claimed, given, in_fraction, outer, outer_size, turned, ◌-ᴿ◌, ◌/ᴿ◌}
use Rattle.kepler_enc.specs.Lines.{residual, rise, stepped}

-- from minus so many units to so many
abbrev pub within_units : ℕ → Interval
within_units n = record { low = in_fraction (neg_ℤ (pos n)); high = in_fraction (pos n) }

-- n is at most m
abbrev pub is_at_most : ℕ → ℕ → Bool
is_at_most n m = non_neg (pos m -ℤ pos n)

-- a point within the bounds
abbrev pub middle_of : Reach → Reach
middle_of r = given (outer r) 0

-- the numbers within so many units of 1
abbrev pub about_one : ℕ → Interval
about_one n = record { low = in_fraction (pos 281474976710656 -ℤ pos n); high = in_fraction (pos (281474976710656 + n)) }

-- an angle that is tried: within 2 of the bounds of u
abbrev pub tried : Reach → Reach
tried u = given (interval_add (outer u) (within_units (2 ^ 49))) 0

-- what it leaves of the equation, n units at most, and how steeply that rises
abbrev pub left_of : Reach → Reach → Reach → Reach → ℕ → Reach
left_of angle u ax ay n = claimed (residual numerals u ax ay angle (turned angle) (turned angle)) (within_units n)

abbrev pub rise_of : Reach → Reach → Reach → ℕ → Reach
rise_of angle ax ay sum = claimed (rise numerals ax ay (turned angle) (turned angle)) (about_one (sum + 1))

-- the sizes of ax and ay add up to so many units at most
module _ (u ax ay : Reach) (sum : ℕ) where
  -- ---- a round of the guess, at an angle that leaves n units at most for the middles
  unfoldable pub bettered : ℕ → Reach
  bettered n =
      tried u -ᴿ
      left_of (tried u) (middle_of u) (middle_of ax) (middle_of ay) n /ᴿ
      rise_of (tried u) (middle_of ax) (middle_of ay) sum

  unfoldable pub spread_of : ℕ → ℕ
  spread_of n = (bettered n).spread

  -- how far the angle moves at most, in units
  unfoldable pub moved : ℕ → ℕ
  moved n = n * 2 ^ 48 / (2 ^ 48 - sum) + spread_of n + 3

  -- how many units the next angle leaves at most
  unfoldable pub next_left : ℕ → ℕ
  next_left n = 2 * spread_of n + sum * (moved n * moved n / 2 ^ 49 + 1) / 2 ^ 48 + 2

  unfoldable pub betters : ℕ → Bool
  betters n = ((bettered n).ok && is_at_most sum (2 ^ 47)) && is_at_most (moved n) (2 ^ 48)

  -- what the middle of u leaves, and the angles after one round, two and three
  unfoldable pub left_first : ℕ
  left_first = sum + 1

  unfoldable pub left_last : ℕ
  left_last = next_left (next_left (next_left left_first))

  unfoldable pub guesses : Bool
  guesses = (betters left_first && betters (next_left left_first)) && betters (next_left (next_left left_first))

  -- ---- the root, from an angle that leaves n units at most
  -- the radius of the ball, and that of the rest of a step
  unfoldable pub ball_of : ℕ → ℕ
  ball_of n = (outer_size (left_of (tried u) u ax ay n) + 1) * 2 ^ 48 / (2 ^ 48 - sum) + 1

  unfoldable pub rest_of : ℕ → ℕ
  rest_of n = (sum * (ball_of n * ball_of n / 2 ^ 49 + 1) / 2 ^ 48 + 2) * 2 ^ 48 / (2 ^ 48 - sum) + 1

  unfoldable pub stepped_to : ℕ → Reach
  stepped_to n =
      stepped numerals (tried u) (left_of (tried u) u ax ay n) (rise_of (tried u) ax ay sum)
      (given (within_units (rest_of n)) (2 * rest_of n))

  unfoldable pub steps : ℕ → Bool
  steps n =
      (((left_of (tried u) u ax ay n).ok && (stepped_to n).ok) && (is_at_most n (2 ^ 48) && is_at_most sum (2 ^ 47)))
      && (is_at_most (ball_of n) (2 ^ 48) && is_at_most (rest_of n) (2 ^ 61))

  -- the root lies within 1 of u
  unfoldable pub root_from : ℕ → Reach
  root_from n = record {
    ok = (u.ok && (ax.ok && ay.ok)) && steps n;
    range = interval_add u.range (within_units (2 ^ 48));
    spread = (stepped_to n).spread;
  }

  -- what the guess leaves for any numbers of the bounds, and the root from it
  unfoldable pub left_over : ℕ
  left_over = left_last + u.spread + 2 * (ax.spread + ay.spread)

  unfoldable pub root_of : Reach
  root_of = record {
    ok = guesses && (root_from left_over).ok;
    range = (root_from left_over).range;
    spread = (root_from left_over).spread;
  }

-- of the root, where the sizes of the exact ax and ay add up to so many units at most
abbrev pub reach_root : Reach → Reach → Reach → ℕ → Reach
reach_root u ax ay sum = root_of u ax ay (sum + ax.spread + ay.spread)
