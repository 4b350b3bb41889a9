-- An offset shifts the instant of the sidereal pair.
use Rattle.std.proofs.Common.{◌≡◌, sym, subst, [], ◌∷◌, pos}
use Rattle.exact.specs.Rational.{ℚ, ◌+ℚ◌, ratio}
use Rattle.exact.proofs.RationalRing.{ring, reads}
use Rattle.sgp4_model.specs.Angle.{IsSinCos}
use Rattle.sgp4_model.specs.OffsetLaws.{OffsetShiftsTheSiderealPair}
use Rattle.sgp4_model.specs.Sidereal.{in_ut1, sidereal_angle}

-- no offset
in_ut1-0 : (x : ℚ) → in_ut1 (pos 0) x ≡ x
in_ut1-0 x = ring (x ∷ []) (search reads depth 90) tt

pub offset_shifts_the_sidereal_pair : OffsetShiftsTheSiderealPair
offset_shifts_the_sidereal_pair pi x d turn =
    let pair_at : ℚ → Type 0 = λ t. IsSinCos pi (sidereal_angle pi t) turn.sine turn.cosine in (
      subst pair_at (sym (in_ut1-0 (x +ℚ ratio d 1000))),
      subst pair_at (in_ut1-0 (x +ℚ ratio d 1000)),
    )
