-- The terms of the sidereal angle in the square and the cube of time.
use Rattle.std.proofs.Common.{◌^◌, [], ◌∷◌, subst, pos}
use Rattle.exact.specs.Rational.{ℚ, ◌+ℚ◌, ◌-ℚ◌, ◌*ℚ◌, neg_ℚ, of_int, ratio}
use Rattle.exact.proofs.RationalRing.{ring, reads}
use Rattle.exact.proofs.Intervals.{le_on}
use Rattle.fixed_iv.specs.Holds.{Holds}
use Rattle.fixed_iv.specs.declared.iv.Iv.{Iv}
use Rattle.earth_frame.specs.HalfTurns.{HoldsUpToTurns}
use Rattle.earth_frame.proofs.SlimLemmas.{IsLittle}

pub bend_rate : IsLittle 606700000 (ratio (pos 93104) 43200000000)
unfolding neg_ℚ of_int
bend_rate = record {
  low = le_on (10 ^ 30) [] [] tt (search reads depth 90) tt;
  high = le_on (10 ^ 30) [] [] tt (search reads depth 90) tt;
}

pub twist_rate : IsLittle 40400 (ratio (pos 62) 432000000000)
unfolding neg_ℚ of_int
twist_rate = record {
  low = le_on (10 ^ 30) [] [] tt (search reads depth 90) tt;
  high = le_on (10 ^ 30) [] [] tt (search reads depth 90) tt;
}

-- whole turns come off the sum where they come off its first term
pub slow_less_turns : {u v : Iv} {a : ℚ} (b c : ℚ) (h : HoldsUpToTurns u a) → Holds v (a -ℚ of_int h.turns *ℚ ratio (pos 2) 1 +ℚ b -ℚ c) → HoldsUpToTurns v (a +ℚ b -ℚ c)
slow_less_turns {u} {v} {a} b c h k = record {
  turns = h.turns;
  holds = subst (Holds v) (ring (a ∷ b ∷ c ∷ of_int h.turns ∷ []) (search reads depth 90) tt) k;
}
