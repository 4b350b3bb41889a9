-- Numbers as the code has them: whole numbers, where 2^62 stands for 1.
use Rattle.std.specs.Prelude.{◌≡◌, ℕ, ℤ, pos, ◌≤ℤ◌, ◌+ℤ◌, ◌*ℤ◌}
use Rattle.exact.specs.Rational.{ℚ, ◌+ℚ◌, ◌*ℚ◌, ratio, of_int, zero_ℚ, one_ℚ, ◌≤ℚ◌}
use Rattle.sgp4_model.specs.AngleSums.{sine_sum, cosine_sum}
use Rattle.sgp4_model.specs.Angle.{IsNear, Pair}

-- what stands for the number
abbrev pub coded : ℚ → ℚ
coded x = ratio (pos 4611686018427387904) 1 *ℚ x

-- the number that a whole number stands for
abbrev pub decoded : ℤ → ℚ
decoded n = ratio (pos 1) 4611686018427387904 *ℚ of_int n

-- the square of an angle of up to an eighth of a turn, rounded down
pub record IsCodedSquare (square : ℕ) (u : ℚ) : Type 0 where
  pub low : zero_ℚ ≤ℚ u
  pub high : u ≤ℚ ratio (pos 617) 1000
  pub under : of_int (pos square) ≤ℚ coded u
  pub over : coded u ≤ℚ of_int (pos square) +ℚ one_ℚ

-- a number from 0 to 1, up to 3
pub record IsCoded (rest : ℕ) (p : ℚ) : Type 0 where
  pub low : zero_ℚ ≤ℚ p
  pub high : p ≤ℚ one_ℚ
  pub near : IsNear (ratio (pos 3) 1) (of_int (pos rest)) (coded p)

-- the cosine's sum at the angle, up to 4
abbrev pub IsCodedCosine : ℕ → ℕ → Type 0
IsCodedCosine angle result = IsNear (ratio (pos 4) 1) (of_int (pos result)) (coded (cosine_sum (decoded (pos angle))))

-- the sine's sum at the angle, up to 4
abbrev pub IsCodedSine : ℕ → ℕ → Type 0
IsCodedSine angle result = IsNear (ratio (pos 4) 1) (of_int (pos result)) (coded (sine_sum (decoded (pos angle))))

-- both numbers of a pair, up to 4
pub record IsCodedPair (sine cosine : ℤ) (p : Pair) : Type 0 where
  pub sine_near : IsNear (ratio (pos 4) 1) (of_int sine) (coded p.sine)
  pub cosine_near : IsNear (ratio (pos 4) 1) (of_int cosine) (coded p.cosine)

-- a number from -1 to 1
pub record IsCodedSize (n : ℤ) : Type 0 where
  pub least : pos 0 ≤ℤ (n +ℤ pos 4611686018427387904)
  pub most : n ≤ℤ pos 4611686018427387904

-- an angle less quarter turns, each an eighth of a turn doubled: at most an eighth of a turn to either side of 0
pub record IsReducedCode (middle quarters rest : ℤ) : Type 0 where
  pub is : middle *ℤ pos 16384 ≡ quarters *ℤ pos 7244019458077122842 +ℤ rest
  pub rest_least : pos 0 ≤ℤ (rest +ℤ pos 3622009729038561421)
  pub rest_most : rest ≤ℤ pos 3622009729038561420
  pub quarters_least : pos 0 ≤ℤ (quarters +ℤ pos 20861)
  pub quarters_most : quarters ≤ℤ pos 20861

-- the sine's sum at the angle, of any sign, up to 4
abbrev pub IsSignedSine : ℤ → ℤ → Type 0
IsSignedSine angle result = IsNear (ratio (pos 4) 1) (of_int result) (coded (sine_sum (decoded angle)))

-- a number from -1 to 1, in units of 2^-48
pub record IsUnitSize (units : ℤ) : Type 0 where
  pub least : pos 0 ≤ℤ (units +ℤ pos 281474976710656)
  pub most : units ≤ℤ pos 281474976710656

-- the whole units in what the code has, rounded down
pub record IsWholeUnits (value units : ℤ) : Type 0 where
  pub under : (units *ℤ pos 16384) ≤ℤ value
  pub over : value ≤ℤ (units *ℤ pos 16384 +ℤ pos 16384)
  pub size : IsUnitSize units
