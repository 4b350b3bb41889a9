-- What numerals say of a square root, and of a cube root of a square.
use Rattle.std.specs.Prelude.{ℕ, zero, suc, leb, ltb, ◌+◌, ◌*◌, ◌/◌, ◌^◌, ◌-◌, Bool, true, false, ◌&&◌, pos, ◌*ℤ◌}
use Rattle.exact.specs.Interval.{Coef, coef_add, coef_mul, Interval, coef_le, floor, ceiling}
use Rattle.fixed_iv.specs.Reach.{Reach, above_0, grain, lowest}

-- the square root of n, rounded down, from so far and so many binary places
root_from : ℕ → ℕ → ℕ → ℕ
root_from so_far zero n = so_far
root_from so_far (suc place) n =
    let next = so_far + 2 ^ place in
    root_from (elim (leb (next * next) n) [ true ↦ next | false ↦ so_far ]) place n

-- the cube root of n, rounded down, in the same way
cube_root_from : ℕ → ℕ → ℕ → ℕ
cube_root_from so_far zero n = so_far
cube_root_from so_far (suc place) n =
    let next = so_far + 2 ^ place in
    cube_root_from (elim (leb (next * next * next) n) [ true ↦ next | false ↦ so_far ]) place n

-- so many parts of 2^-64
abbrev pub parts : ℕ → Coef
parts n = record { num = pos n; under = grain }

-- the tolerance of a root's square or cube, 2^-60
abbrev pub tolerance : Coef
tolerance = record { num = pos 1; under = 2 ^ 60 - 1 }

-- parts of 2^-128 in c, rounded down and up, and parts of 2^-192 in c
abbrev pub squares_in : Coef → ℕ
squares_in c = above_0 (floor (c.num *ℤ pos (2 ^ 128)) (suc c.under))

abbrev pub squares_over : Coef → ℕ
squares_over c = above_0 (ceiling (c.num *ℤ pos (2 ^ 128)) (suc c.under))

abbrev pub cubes_in : Coef → ℕ
cubes_in c = above_0 (floor (c.num *ℤ pos (2 ^ 192)) (suc c.under))

abbrev pub cubes_over : Coef → ℕ
cubes_over c = above_0 (ceiling (c.num *ℤ pos (2 ^ 192)) (suc c.under))

-- a range for the square roots of numbers of a range
unfoldable pub root_range : Interval → Interval
unfolding root_from
root_range i =
    record {
      low = parts (root_from 0 72 (squares_in i.low - 2 ^ 68));
      high = parts (root_from 0 72 (squares_over i.high + 2 ^ 68) + 1);
    }

-- the same for the cube roots of their squares
unfoldable pub cube_root_range : Interval → Interval
unfolding cube_root_from
cube_root_range i =
    record {
      low = parts (cube_root_from 0 76 (cubes_in (coef_mul i.low i.low) - 2 ^ 132));
      high = parts (cube_root_from 0 76 (cubes_over (coef_mul i.high i.high) + 2 ^ 132) + 1);
    }

-- whether each square root of a number of the first range lies in the second
abbrev pub are_roots : Interval → Interval → Bool
are_roots i r = coef_le (coef_add (coef_mul r.low r.low) tolerance) i.low && coef_le (coef_add i.high tolerance) (coef_mul r.high r.high)

-- the cube of c
abbrev pub cube : Coef → Coef
cube c = coef_mul (coef_mul c c) c

-- whether each cube root of the square of a number of the first range lies in the second
abbrev pub are_cube_roots : Interval → Interval → Bool
are_cube_roots i r = coef_le (coef_add (cube r.low) tolerance) (coef_mul i.low i.low) && coef_le (coef_add (coef_mul i.high i.high) tolerance) (cube r.high)

-- units that the lower end of a square root's bounds reaches, less two
unfoldable pub root_least : Reach → ℕ
unfolding root_from
root_least a = root_from 0 56 (above_0 (lowest a) * 2 ^ 48) - 2

-- whether it does, and the bounds are at least 1/4096
abbrev pub is_least : Reach → ℕ → Bool
is_least a m = leb (2 ^ 36) (above_0 (lowest a)) && (ltb 0 m && leb ((m + 2) * (m + 2)) (above_0 (lowest a) * 2 ^ 48))

-- of a square root
unfoldable pub rooted : Reach → Reach
unfolding root_range root_least
rooted a =
    record {
      ok = (a.ok && is_least a (root_least a)) && are_roots a.range (root_range a.range);
      range = root_range a.range;
      spread = a.spread * 2 ^ 48 / (2 * root_least a) + 6;
    }

-- of a cube root of a square
unfoldable pub cube_rooted : Reach → Reach
unfolding cube_root_range
cube_rooted a =
    record {
      ok = (a.ok && leb (2 ^ 42) (above_0 (lowest a))) && (coef_le (record { num = pos 0; under = 0 }) a.range.low && are_cube_roots a.range (cube_root_range a.range));
      range = cube_root_range a.range;
      spread = 3 * a.spread + 6;
    }
