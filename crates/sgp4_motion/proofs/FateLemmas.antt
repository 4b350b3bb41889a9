-- What may be refused and what may be accepted.
use Rattle.std.proofs.Common.{◌≡◌, Bool, true, false, [], ◌⊎◌, inl, inr, refl}
use Rattle.exact.specs.Rational.{◌≤ℚ◌}
use Rattle.exact.proofs.RationalRing.{reads}
use Rattle.exact.proofs.Order.{known, le_by, le_trans}
use Rattle.sgp4_shape.specs.declared.fault.SatFault.TheVariants.{Eccentric, Inclined, Drag, Deep, Low, Edge, Far}
use Rattle.sgp4_model.specs.Numerals.{decimal, whole}
use Rattle.sgp4_model.specs.Records.{SetRecord}
use Rattle.sgp4_motion.specs.Fate.{HasPerigeeBelow, HasPeriodFrom, IsBetweenLimits, IsOfOneForm, low_perigee_km}
use Rattle.sgp4_motion.specs.FateLaws.{AcceptedSetsAreNearALimit, NearEarthSetsAreFull, RefusedSetsMayBeRefused}
use Rattle.sgp4_motion.specs.Recovered.{TellsEachForm}
use Rattle.sgp4_motion.specs.declared.recovered.Recovered.{Recovered}
use Rattle.sgp4_motion.proofs.FaultLemmas.{not_lt}

pub refused_sets_may_be_refused : RefusedSetsMayBeRefused
refused_sets_may_be_refused set first last Eccentric h = h
refused_sets_may_be_refused set first last Inclined h = h
refused_sets_may_be_refused set first last Drag h = h
refused_sets_may_be_refused set first last Deep h = h
refused_sets_may_be_refused set first last Low h = h
refused_sets_may_be_refused set first last Edge h = h
refused_sets_may_be_refused set first last Far h = absurd h

-- the causes that are left where the mean motion is between the limits
long_period : {set : SetRecord} → IsBetweenLimits set → (set.motion ≤ℚ decimal 63 1) ⊎ HasPeriodFrom (decimal 224999 3) set → HasPeriodFrom (decimal 224999 3) set
long_period between (inl slow) = absurd (not_lt slow between.above)
long_period between (inr long) = long

low_perigee : {set : SetRecord} → IsBetweenLimits set → (whole 17 ≤ℚ set.motion) ⊎ HasPerigeeBelow low_perigee_km set → HasPerigeeBelow low_perigee_km set
low_perigee between (inl fast) = absurd (not_lt fast between.below)
low_perigee between (inr low) = low

pub accepted_sets_are_near_a_limit : AcceptedSetsAreNearALimit
accepted_sets_are_near_a_limit set first last Eccentric h k = absurd (h.ordinary.not_eccentric k)
accepted_sets_are_near_a_limit set first last Inclined h k = absurd (h.ordinary.not_inclined k.1)
accepted_sets_are_near_a_limit set first last Drag h k = absurd (h.ordinary.not_dragged k.1)
accepted_sets_are_near_a_limit set first last Deep h k = inl (refl, long_period h.between k.slow)
accepted_sets_are_near_a_limit set first last Low h k = inr (inl (refl, low_perigee h.between k.fast))
accepted_sets_are_near_a_limit set first last Edge h k = inr (inr (refl, k.near))
accepted_sets_are_near_a_limit set first last Far h k = absurd (h.not_far k.1)

-- a set whose form is told is of one form
pub one_form : {A : Type 0} {set : SetRecord} (motion : Recovered A) → TellsEachForm set motion → IsOfOneForm set
one_form motion told = by_form motion.simple (λ e pi m is_pi recovered. (told pi m is_pi recovered).simple e) (λ e pi m is_pi recovered. (told pi m is_pi recovered).full e)
  where
    by_form : {P Q : Type 0} (b : Bool) → (b ≡ true → P) → (b ≡ false → Q) → P ⊎ Q
    by_form true f g = inl (f refl)
    by_form false f g = inr (g refl)

pub near_earth_sets_are_full : NearEarthSetsAreFull
near_earth_sets_are_full set near pi motion is_pi recovered = le_trans (le_by [] (known 80 1) (search reads depth 90) tt) (near.perigee pi motion is_pi recovered)
