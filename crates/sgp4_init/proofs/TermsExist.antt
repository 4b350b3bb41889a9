-- The angles at the epoch, the drag coefficients, the rates and the remaining coefficients exist where no divisor is 0.
use Rattle.std.proofs.Common.{◌≡◌, ◌∙◌, ◌⊎◌, inl, inr, Bool, true, false, not, T, refl, subst, [], ◌∷◌, pos}
use Rattle.exact.specs.Rational.{ℚ, ratio, at_least_0, neg_ℚ, ◌+ℚ◌, ◌-ℚ◌, ◌*ℚ◌, ◌/ℚ◌, ◌^ℚ◌, one_ℚ, zero_ℚ, ◌≤ℚ◌, ◌<ℚ◌}
use Rattle.exact.proofs.RationalRing.{ring, reads}
use Rattle.exact.proofs.Strict.{Positive, not_zero, positive_gap, positive_known, positive_product, positive_sum, positive_weak}
use Rattle.exact.proofs.Tests.{by_test}
use Rattle.sgp4_model.specs.Angle.{IsPi}
use Rattle.sgp4_model.specs.Coefficients.{CoefficientRecord, IsRemainingCoefficients}
use Rattle.sgp4_model.specs.Degrees.{radians}
use Rattle.sgp4_model.specs.Density.{DensityRecord}
use Rattle.sgp4_model.specs.Drag.{DragRecord, IsDragCoefficient, IsPerigeeDragCoefficient, IsEccentricityDragCoefficient, IsPeriodicEccentricityDragCoefficient, near_circle}
use Rattle.sgp4_model.specs.EpochAngles.{EpochRecord, IsAtEpoch}
use Rattle.sgp4_model.specs.HigherDrag.{HigherDragRecord, IsFullHigherDrag, IsHigherDragTerms, IsNoHigherDrag}
use Rattle.sgp4_model.specs.MeanMotion.{MotionRecord, IsFullMotion, IsSimpleMotion, perigee_of}
use Rattle.sgp4_model.specs.Numerals.{decimal, whole, IsDivisor}
use Rattle.sgp4_model.specs.Rates.{RatesRecord, IsOblatenessFactors, IsMeanAnomalyRate, IsPerigeeRate, IsNodeRate}
use Rattle.sgp4_model.specs.Records.{SetRecord}
use Rattle.sgp4_model.specs.Wgs72.{j2, j3, j4}
use Rattle.sgp4_model.proofs.OwnPair.{sine_and_cosine_exist}
use Rattle.sgp4_motion.proofs.FaultLemmas.{not_lt}

-- ---- divisors, and choices by the eccentricity
-- the square of a positive number is positive
square_positive : {x : ℚ} → Positive x → Positive (x ^ℚ 2)
square_positive {x} h = subst Positive (ring (x ∷ []) (search reads depth 90) tt) (positive_product h h)

-- and so is its fourth power
fourth_positive : {x : ℚ} → Positive x → Positive (x ^ℚ 4)
fourth_positive {x} h = subst Positive (ring (x ∷ []) (search reads depth 90) tt) (positive_product (square_positive h) (square_positive h))

-- an eccentricity above 0.0001 is above 0
pub eccentric_positive : {e : ℚ} → near_circle <ℚ e → Positive e
eccentric_positive {e} h = subst Positive (ring (e ∷ []) {x = e -ℚ near_circle +ℚ near_circle} {y = e} (search reads depth 90) tt) (positive_sum (positive_gap h) (positive_weak (positive_known 0 10000)))

-- y is x where e is above the bound, and 0 where it is not
record IsChosen (bound e x y : ℚ) : Type 0 where
  where_above : bound <ℚ e → y ≡ x
  where_not : e ≤ℚ bound → y ≡ zero_ℚ

-- there is such a number
chosen : (bound e x : ℚ) → (y : ℚ) × IsChosen bound e x y
chosen bound e x =
    by_test (at_least_0 (bound -ℚ e))
    (λ t. (zero_ℚ, record { where_above = λ h. absurd (not_lt (record { le = t }) h); where_not = λ h. refl }))
    (λ t. (x, record { where_above = λ h. refl; where_not = λ h. absurd (not_lt h (record { lt = t })) }))

-- a motion is simple or full
either_form : (m : MotionRecord) → IsSimpleMotion m ⊎ IsFullMotion m
either_form m = by_test (at_least_0 (perigee_of m -ℚ whole 220)) (λ t. inr (record { le = t })) (λ t. inl (record { lt = t }))

-- it is not both
not_both : (m : MotionRecord) {P : Type 0} → IsSimpleMotion m → IsFullMotion m → P
not_both m simple full = absurd (not_lt full simple)

-- y is x in the full form, and 0 in the simple one
record IsFormed (m : MotionRecord) (x y : ℚ) : Type 0 where
  where_full : IsFullMotion m → y ≡ x
  where_simple : IsSimpleMotion m → y ≡ zero_ℚ

-- there is such a number
formed : (m : MotionRecord) (x : ℚ) → (y : ℚ) × IsFormed m x y
formed m x = by_form (either_form m)
  where
    by_form : IsSimpleMotion m ⊎ IsFullMotion m → (y : ℚ) × IsFormed m x y
    by_form (inl simple) = (zero_ℚ, record { where_full = λ full. not_both m simple full; where_simple = λ _. refl })
    by_form (inr full) = (x, record { where_full = λ _. refl; where_simple = λ simple. not_both m simple full })

-- what is 0 or x is 0 where x is
formed_zero : (m : MotionRecord) {x y : ℚ} → IsFormed m x y → x ≡ zero_ℚ → y ≡ zero_ℚ
formed_zero m {x} {y} f e = by_form (either_form m)
  where
    by_form : IsSimpleMotion m ⊎ IsFullMotion m → y ≡ zero_ℚ
    by_form (inl simple) = f.where_simple simple
    by_form (inr full) = f.where_full full ∙ e

-- ---- the records
-- each set has angles at its epoch, with their pairs
pub epoch_exists : (set : SetRecord) (pi : ℚ) → IsPi pi → (z : EpochRecord) × IsAtEpoch set pi z
epoch_exists set pi is_pi =
    let perigee = sine_and_cosine_exist pi (radians pi set.argp) is_pi in
    let twice = sine_and_cosine_exist pi (whole 2 *ℚ radians pi set.argp) is_pi in
    let anomaly = sine_and_cosine_exist pi (radians pi set.anomaly) is_pi in (
      record {
        o0 = radians pi set.node;
        w0 = radians pi set.argp;
        m0 = radians pi set.anomaly;
        of_w0 = record { sine = perigee.0; cosine = perigee.1.0 };
        of_twice_w0 = record { sine = twice.0; cosine = twice.1.0 };
        of_m0 = record { sine = anomaly.0; cosine = anomaly.1.0 };
        bstar = set.bstar;
      },
      record { o0_is = refl; w0_is = refl; m0_is = refl; w0_pair = perigee.1.1; twice_w0_pair = twice.1.1; m0_pair = anomaly.1.1; bstar_is = refl },
    )

-- the record meets the lines of the drag coefficients
pub record IsDrag (m : MotionRecord) (d : DensityRecord) (bstar cosine : ℚ) (g : DragRecord) : Type 0 where
  pub along : IsDragCoefficient m d g bstar
  pub perigee : IsPerigeeDragCoefficient m d g
  pub eccentricity : IsEccentricityDragCoefficient m d g cosine
  pub periodic : IsPeriodicEccentricityDragCoefficient m d g

-- drag coefficients exist where the axis and psi are positive
pub drag_exists : (m : MotionRecord) (d : DensityRecord) (bstar cosine : ℚ) → Positive m.a → Positive d.psi → (g : DragRecord) × IsDrag m d bstar cosine g
drag_exists m d bstar cosine axis psi =
    let c2 = d.coef1 *ℚ m.n0
    *ℚ (
    m.a *ℚ (one_ℚ +ℚ decimal 15 1 *ℚ d.eta ^ℚ 2 +ℚ m.e *ℚ d.eta *ℚ (whole 4 +ℚ d.eta ^ℚ 2))
    +ℚ decimal 375 3 *ℚ j2 *ℚ d.xi /ℚ d.psi *ℚ m.con41 *ℚ (whole 8 +ℚ whole 3 *ℚ d.eta ^ℚ 2 *ℚ (whole 8 +ℚ d.eta ^ℚ 2))
    ) in
    let c3 = chosen near_circle m.e (neg_ℚ (whole 2) *ℚ d.coef *ℚ d.xi *ℚ (j3 /ℚ j2) *ℚ m.n0 *ℚ m.si /ℚ m.e) in
    let c4 = whole 2 *ℚ m.n0 *ℚ d.coef1 *ℚ m.a *ℚ m.bb
    *ℚ (
    d.eta *ℚ (whole 2 +ℚ decimal 5 1 *ℚ d.eta ^ℚ 2)
    +ℚ m.e *ℚ (decimal 5 1 +ℚ whole 2 *ℚ d.eta ^ℚ 2)
    -ℚ j2 *ℚ d.xi /ℚ (m.a *ℚ d.psi)
    *ℚ (
    neg_ℚ (whole 3) *ℚ m.con41 *ℚ (one_ℚ -ℚ whole 2 *ℚ m.e *ℚ d.eta +ℚ d.eta ^ℚ 2 *ℚ (decimal 15 1 -ℚ decimal 5 1 *ℚ m.e *ℚ d.eta))
    +ℚ decimal 75 2 *ℚ (one_ℚ -ℚ m.c ^ℚ 2) *ℚ (whole 2 *ℚ d.eta ^ℚ 2 -ℚ m.e *ℚ d.eta *ℚ (one_ℚ +ℚ d.eta ^ℚ 2)) *ℚ cosine
    )
    ) in
    let c5 = formed m (whole 2 *ℚ d.coef1 *ℚ m.a *ℚ m.bb
    *ℚ (one_ℚ +ℚ decimal 275 2 *ℚ (d.eta ^ℚ 2 +ℚ m.e *ℚ d.eta) +ℚ m.e *ℚ d.eta *ℚ d.eta ^ℚ 2)) in (
      record { c2 = c2; c1 = bstar *ℚ c2; c3 = c3.0; c4 = c4; c5 = c5.0 },
      record {
        along = record { psi_divides = not_zero psi; c2_is = refl; c1_is = refl };
        perigee = record { e_divides = λ h. not_zero (eccentric_positive h); c3_is = c3.1.where_above; c3_is_else = c3.1.where_not };
        eccentricity = record { a_psi_divides = not_zero (positive_product axis psi); c4_is = refl };
        periodic = record { c5_is = c5.1.where_full; c5_is_simple = c5.1.where_simple };
      },
    )

-- the record meets the lines of the rates
pub record IsRates (m : MotionRecord) (r : RatesRecord) : Type 0 where
  pub factors : IsOblatenessFactors m r
  pub anomaly : IsMeanAnomalyRate m r
  pub perigee : IsPerigeeRate m r
  pub node : IsNodeRate m r

-- rates exist where the semilatus rectum is positive
pub rates_exist : (m : MotionRecord) → Positive m.p → (r : RatesRecord) × IsRates m r
rates_exist m p =
    let w1 = decimal 15 1 *ℚ j2 *ℚ m.n0 /ℚ m.p ^ℚ 2 in
    let w2 = decimal 5 1 *ℚ w1 *ℚ j2 /ℚ m.p ^ℚ 2 in
    let w3 = neg_ℚ (decimal 46875 5) *ℚ j4 *ℚ m.n0 /ℚ m.p ^ℚ 4 in (
      record {
        w1 = w1;
        w2 = w2;
        w3 = w3;
        mdot =
            m.n0 +ℚ decimal 5 1 *ℚ w1 *ℚ m.b0 *ℚ m.con41
            +ℚ decimal 625 4 *ℚ w2 *ℚ m.b0 *ℚ (whole 13 -ℚ whole 78 *ℚ m.c ^ℚ 2 +ℚ whole 137 *ℚ m.c ^ℚ 4);
        wdot =
            neg_ℚ (decimal 5 1) *ℚ w1 *ℚ m.con42
            +ℚ decimal 625 4 *ℚ w2 *ℚ (whole 7 -ℚ whole 114 *ℚ m.c ^ℚ 2 +ℚ whole 395 *ℚ m.c ^ℚ 4)
            +ℚ w3 *ℚ (whole 3 -ℚ whole 36 *ℚ m.c ^ℚ 2 +ℚ whole 49 *ℚ m.c ^ℚ 4);
        odot =
            neg_ℚ w1 *ℚ m.c
            +ℚ (decimal 5 1 *ℚ w2 *ℚ (whole 4 -ℚ whole 19 *ℚ m.c ^ℚ 2) +ℚ whole 2 *ℚ w3 *ℚ (whole 3 -ℚ whole 7 *ℚ m.c ^ℚ 2)) *ℚ m.c;
      },
      record {
        factors = record { p2_divides = not_zero (square_positive p); p4_divides = not_zero (fourth_positive p); w1_is = refl; w2_is = refl; w3_is = refl };
        anomaly = record { mdot_is = refl };
        perigee = record { wdot_is = refl };
        node = record { odot_is = refl };
      },
    )

-- the remaining coefficients exist where 1 + c divides, and e eta does above an eccentricity of 0.0001
pub coefficients_exist : (z : EpochRecord) (m : MotionRecord) (d : DensityRecord) (g : DragRecord) (r : RatesRecord) → (near_circle <ℚ m.e → IsDivisor (m.e *ℚ d.eta)) → IsDivisor (one_ℚ +ℚ m.c) →
    (f : CoefficientRecord) × IsRemainingCoefficients z m d g r f
coefficients_exist z m d g r by_eccentricity by_cosine =
    let xmcof = chosen near_circle m.e (neg_ℚ (ratio (pos 2) 3) *ℚ d.coef *ℚ z.bstar /ℚ (m.e *ℚ d.eta)) in
    let of_anomaly = formed m xmcof.0 in
    let of_perigee = formed m (z.bstar *ℚ g.c3 *ℚ z.of_w0.cosine) in (
      record {
        omgcof = of_perigee.0;
        xmcof = of_anomaly.0;
        nodecf = decimal 35 1 *ℚ m.bb *ℚ (neg_ℚ r.w1 *ℚ m.c) *ℚ g.c1;
        t2cof = decimal 15 1 *ℚ g.c1;
        xlcof = neg_ℚ (decimal 25 2) *ℚ (j3 /ℚ j2) *ℚ m.si *ℚ (whole 3 +ℚ whole 5 *ℚ m.c) /ℚ (one_ℚ +ℚ m.c);
        aycof = neg_ℚ (decimal 5 1) *ℚ (j3 /ℚ j2) *ℚ m.si;
        delmo = (one_ℚ +ℚ d.eta *ℚ z.of_m0.cosine) ^ℚ 3;
      },
      record {
        omgcof_is_simple = of_perigee.1.where_simple;
        omgcof_is = of_perigee.1.where_full;
        xmcof_is_simple = of_anomaly.1.where_simple;
        e_eta_divides = λ _. by_eccentricity;
        xmcof_is = λ full large. of_anomaly.1.where_full full ∙ xmcof.1.where_above large;
        xmcof_is_else = λ small. formed_zero m of_anomaly.1 (xmcof.1.where_not small);
        nodecf_is = refl;
        t2cof_is = refl;
        c_divides = by_cosine;
        xlcof_is = refl;
        aycof_is = refl;
        delmo_is = refl;
      },
    )

-- drag terms of higher order exist in the full form
full_higher_exist : (m : MotionRecord) (d : DensityRecord) (g : DragRecord) → (h : HigherDragRecord) × IsFullHigherDrag m d g h
full_higher_exist m d g =
    let d2 = whole 4 *ℚ m.a *ℚ d.xi *ℚ g.c1 ^ℚ 2 in
    let w = d2 *ℚ d.xi *ℚ g.c1 *ℚ ratio (pos 1) 3 in
    let d3 = (whole 17 *ℚ m.a +ℚ d.s) *ℚ w in
    let d4 = decimal 5 1 *ℚ w *ℚ m.a *ℚ d.xi *ℚ (whole 221 *ℚ m.a +ℚ whole 31 *ℚ d.s) *ℚ g.c1 in (
      record {
        d2 = d2;
        w = w;
        d3 = d3;
        d4 = d4;
        t3cof = d2 +ℚ whole 2 *ℚ g.c1 ^ℚ 2;
        t4cof = decimal 25 2 *ℚ (whole 3 *ℚ d3 +ℚ g.c1 *ℚ (whole 12 *ℚ d2 +ℚ whole 10 *ℚ g.c1 ^ℚ 2));
        t5cof =
            decimal 2 1
            *ℚ (
            whole 3 *ℚ d4 +ℚ whole 12 *ℚ g.c1 *ℚ d3 +ℚ whole 6 *ℚ d2 ^ℚ 2
            +ℚ whole 15 *ℚ g.c1 ^ℚ 2 *ℚ (whole 2 *ℚ d2 +ℚ g.c1 ^ℚ 2)
            );
      },
      record { d2_is = refl; w_is = refl; d3_is = refl; d4_is = refl; t3cof_is = refl; t4cof_is = refl; t5cof_is = refl },
    )

-- and none of them in the simple one
abbrev no_higher : HigherDragRecord
no_higher = record { d2 = zero_ℚ; w = zero_ℚ; d3 = zero_ℚ; d4 = zero_ℚ; t3cof = zero_ℚ; t4cof = zero_ℚ; t5cof = zero_ℚ }

no_higher_drag : (m : MotionRecord) (d : DensityRecord) (g : DragRecord) → IsNoHigherDrag m d g no_higher
no_higher_drag m d g = record { d2_is = refl; d3_is = refl; d4_is = refl; t3cof_is = refl; t4cof_is = refl; t5cof_is = refl }

-- drag terms of higher order exist
pub higher_exist : (m : MotionRecord) (d : DensityRecord) (g : DragRecord) → (h : HigherDragRecord) × IsHigherDragTerms m d g h
higher_exist m d g = by_form (either_form m)
  where
    by_form : IsSimpleMotion m ⊎ IsFullMotion m → (h : HigherDragRecord) × IsHigherDragTerms m d g h
    by_form (inl simple) = (no_higher, record { full = λ full. not_both m simple full; simple = λ _. no_higher_drag m d g })
    by_form (inr full) = let found = full_higher_exist m d g in (found.0, record { full = λ _. found.1; simple = λ simple. not_both m simple full })
