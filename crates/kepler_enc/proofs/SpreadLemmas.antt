-- The parts of tests of numerals that passed.
use Rattle.std.proofs.Common.{◌≡◌, arith, ℕ, ◌+◌, ◌-◌, ◌*◌, ◌/◌, ◌^◌, ◌≤◌, T, ◌<◌, zero, suc, le_refl, le_trans}
use Rattle.std.proofs.Math.Nat.{mul-le-mul}
use Rattle.std.proofs.lemmas.Int.{ints}
use Rattle.std.proofs.lemmas.Nat.{le-div}
use Rattle.fixed_iv.specs.Reach.{Reach, outer_size}
use Rattle.fixed_iv.proofs.OuterLemmas.{both}
use Rattle.kepler_enc.specs.Radius.{IsNextAbove}
use Rattle.kepler_enc.specs.Spread.{ball_of, bettered, betters, is_at_most, left_of, moved, rest_of, root_from, stepped_to, steps, tried}

pub of_test : (n m : ℕ) → T (is_at_most n m) → n ≤ m
of_test n m t = omega (arith, ints, t)

-- a round of the guess
pub record IsRound (u ax ay : Reach) (sum n : ℕ) : Type 0 where
  pub ok : T (bettered u ax ay sum n).ok
  pub sizes : sum ≤ 2 ^ 47
  pub moves : moved u ax ay sum n ≤ 2 ^ 48
  pub left : n ≤ 2 ^ 48

at_least : (n s : ℕ) → s ≤ 2 ^ 47 → n ≤ n * 2 ^ 48 / (2 ^ 48 - s)
at_least n s h = le-div n (n * 2 ^ 48) (2 ^ 48 - s) (omega arith) (product (2 ^ 48 - s) (omega arith))
  where
    product : (g : ℕ) → g ≤ 2 ^ 48 → n * g ≤ n * 2 ^ 48
    product g k = mul-le-mul (le_refl n) k

further : (u ax ay : Reach) (sum n : ℕ) → sum ≤ 2 ^ 47 → moved u ax ay sum n ≤ 2 ^ 48 → n ≤ 2 ^ 48
unfolding moved
further u ax ay sum n h k = let l = at_least n sum h in omega (arith, l, k)

pub round_of : (u ax ay : Reach) (sum n : ℕ) → T (betters u ax ay sum n) → IsRound u ax ay sum n
unfolding betters
round_of u ax ay sum n t =
    let a = both _ _ t in
    let b = both _ _ a.0 in
    let sizes = of_test _ _ b.1 in
    let moves = of_test _ _ a.1 in
    record { ok = b.0; sizes = sizes; moves = moves; left = further u ax ay sum n sizes moves }

-- a step from a point
pub record IsStepping (u ax ay : Reach) (sum n : ℕ) : Type 0 where
  pub of_u : T u.ok
  pub of_ax : T ax.ok
  pub of_ay : T ay.ok
  pub of_left : T (left_of (tried u) u ax ay n).ok
  pub ok : T (stepped_to u ax ay sum n).ok
  pub left : n ≤ 2 ^ 48
  pub sizes : sum ≤ 2 ^ 47
  pub ball : ball_of u ax ay sum n ≤ 2 ^ 48
  pub rest : rest_of u ax ay sum n ≤ 2 ^ 61

steps_parts : (u ax ay : Reach) (sum n : ℕ) → T u.ok → T ax.ok → T ay.ok → T (steps u ax ay sum n) → IsStepping u ax ay sum n
unfolding steps
steps_parts u ax ay sum n of_u of_ax of_ay t =
    let a = both _ _ t in
    let b = both _ _ a.0 in
    let oks = both _ _ b.0 in
    let tests = both _ _ b.1 in
    let radii = both _ _ a.1 in
    record {
      of_u = of_u;
      of_ax = of_ax;
      of_ay = of_ay;
      of_left = oks.0;
      ok = oks.1;
      left = of_test _ _ tests.0;
      sizes = of_test _ _ tests.1;
      ball = of_test _ _ radii.0;
      rest = of_test _ _ radii.1;
    }

pub stepping_of : (u ax ay : Reach) (sum n : ℕ) → T (root_from u ax ay sum n).ok → IsStepping u ax ay sum n
unfolding root_from
stepping_of u ax ay sum n t =
    let a = both _ _ t in
    let b = both _ _ a.0 in
    let d = both _ _ b.1 in
    steps_parts u ax ay sum n b.0 d.0 d.1 a.1

-- ---- radii of the code are within those of numerals
above_rises : (x y d e r : ℕ) → x ≤ y → e ≤ d → 0 < e → IsNextAbove x d r → r ≤ y / e + 1
above_rises x y d e zero h k p a = omega arith
above_rises x y d e (suc q) h k p a = let m : suc q - 1 ≡ q = omega arith in let l = le-div q y e p (le_trans (mul-le-mul (le_refl q) k) (le_trans (rw m at a.least) h)) in omega (arith, l)

pub ball_rises : (u ax ay : Reach) (most n left sum radius : ℕ) → left ≤ outer_size (left_of (tried u) u ax ay n) → sum ≤ most → most ≤ 2 ^ 47 →
    IsNextAbove ((left + 1) * 2 ^ 48) (2 ^ 48 - sum) radius → radius ≤ ball_of u ax ay most n
unfolding ball_of
ball_rises u ax ay most n left sum radius h k l a = above_rises _ _ _ _ radius (omega arith) (omega arith) (omega arith) a

bend_rises : (s m r b : ℕ) → s ≤ m → r ≤ b → (s * (r * r / 2 ^ 49 + 1) / 2 ^ 48 + 2) * 2 ^ 48 ≤ (m * (b * b / 2 ^ 49 + 1) / 2 ^ 48 + 2) * 2 ^ 48
bend_rises s m r b h k = last (s * (r * r / 2 ^ 49 + 1)) (m * (b * b / 2 ^ 49 + 1)) (mul-le-mul h (square (r * r) (b * b) (mul-le-mul k k)))
  where
    square : (x y : ℕ) → x ≤ y → x / 2 ^ 49 + 1 ≤ y / 2 ^ 49 + 1
    square x y p = omega arith

    last : (x y : ℕ) → x ≤ y → (x / 2 ^ 48 + 2) * 2 ^ 48 ≤ (y / 2 ^ 48 + 2) * 2 ^ 48
    last x y p = omega arith

pub rest_rises : (u ax ay : Reach) (most n sum radius rest : ℕ) → radius ≤ ball_of u ax ay most n → sum ≤ most → most ≤ 2 ^ 47 →
    IsNextAbove ((sum * (radius * radius / 2 ^ 49 + 1) / 2 ^ 48 + 2) * 2 ^ 48) (2 ^ 48 - sum) rest → rest ≤ rest_of u ax ay most n
unfolding rest_of
rest_rises u ax ay most n sum radius rest h k l a = above_rises _ _ _ _ rest (bend_rises sum _ radius _ k h) (omega arith) (omega arith) a
