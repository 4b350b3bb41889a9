-- The mean elements exist: each line is an equation, and each angle has a pair.
use Rattle.std.proofs.Common.{◌≡◌, refl, [], ◌∷◌}
use Rattle.exact.specs.Rational.{ℚ, ◌+ℚ◌, ◌-ℚ◌, ◌*ℚ◌, ◌^ℚ◌, neg_ℚ, one_ℚ, ◌≤ℚ◌, ◌<ℚ◌}
use Rattle.exact.proofs.RationalRing.{ring, reads}
use Rattle.exact.proofs.Order.{NonNeg, le_antisym, le_by, same_sign}
use Rattle.exact.proofs.Bounds.{by_sign}
use Rattle.exact.proofs.Strict.{positive_gap, not_both}
use Rattle.sgp4_model.specs.Angle.{IsPi, IsSinCos, Pair}
use Rattle.sgp4_model.specs.MeanElements.{SecularRecord, IsMeanUnguarded, least_ecc}
use Rattle.sgp4_model.specs.OrbitRecords.{ConstRecord, MeanRecord}
use Rattle.sgp4_model.specs.SolutionLaws.{MeanElementsExist}
use Rattle.sgp4_model.proofs.OwnPair.{sine_and_cosine_exist}

-- each angle has a pair, as one record
pub pair_exists : (pi x : ℚ) → IsPi pi → (turn : Pair) × IsSinCos pi x turn.sine turn.cosine
pair_exists pi x h =
    let found = sine_and_cosine_exist pi x h in
    (record { sine = found.0; cosine = found.1.0 }, found.1.1)

-- the eccentricity that is used is the larger of this one and the least
record IsRaised (ecc em : ℚ) : Type 0 where
  is : least_ecc ≤ℚ ecc → em ≡ ecc
  is_else : ecc <ℚ least_ecc → em ≡ least_ecc

-- there is one
raised : (ecc : ℚ) → (em : ℚ) × IsRaised ecc em
raised ecc = by_sign (ecc -ℚ least_ecc) large small
  where
    large : NonNeg (ecc -ℚ least_ecc) → (em : ℚ) × IsRaised ecc em
    large n = (
      ecc,
      record {
        is = λ _. refl;
        is_else = λ l. absurd (not_both (positive_gap l) (same_sign (ring (ecc ∷ least_ecc ∷ []) (search reads depth 90) tt) n));
      },
    )

    small : NonNeg (neg_ℚ (ecc -ℚ least_ecc)) → (em : ℚ) × IsRaised ecc em
    small n = (
      least_ecc,
      record {
        is = λ l. le_antisym l (le_by (ecc ∷ least_ecc ∷ []) n (search reads depth 90) tt);
        is_else = λ _. refl;
      },
    )

-- the mean elements from the pairs of the two mean anomalies, and the eccentricity that is used
module _ (k : ConstRecord) (t : ℚ) where
  open k use {e, w0, o0, m0, bstar, a, eta, c5, xmcof, delmo, sin_m0, n0, mdot, wdot, odot, c1, c4, omgcof, t2cof, d2, nodecf, t3cof, d3, t4cof, d4, t5cof}

  -- the mean anomaly without drag
  abbrev anomaly : ℚ
  anomaly = m0 +ℚ mdot *ℚ t

  -- the correction by drag
  abbrev correction : Pair → ℚ
  correction turn = omgcof *ℚ t +ℚ xmcof *ℚ ((one_ℚ +ℚ eta *ℚ turn.cosine) ^ℚ 3 -ℚ delmo)

  -- what drag takes from the eccentricity
  abbrev taken : Pair → ℚ
  taken turn = bstar *ℚ c4 *ℚ t +ℚ bstar *ℚ c5 *ℚ (turn.sine -ℚ sin_m0)

  -- the factor of the semimajor axis
  abbrev factor : ℚ
  factor = one_ℚ -ℚ c1 *ℚ t -ℚ d2 *ℚ t ^ℚ 2 -ℚ d3 *ℚ t ^ℚ 3 -ℚ d4 *ℚ t ^ℚ 4

  -- what drag adds to the mean anomaly
  abbrev added : ℚ
  added = t2cof *ℚ t ^ℚ 2 +ℚ t3cof *ℚ t ^ℚ 3 +ℚ t ^ℚ 4 *ℚ (t4cof +ℚ t *ℚ t5cof)

  -- the secular quantities from the two pairs
  abbrev secular_record : Pair → Pair → SecularRecord
  secular_record first second = record {
    mf = anomaly;
    wf = w0 +ℚ wdot *ℚ t;
    om = o0 +ℚ odot *ℚ t +ℚ nodecf *ℚ t ^ℚ 2;
    of_mf = first;
    g = correction first;
    mm = anomaly +ℚ correction first;
    wm = w0 +ℚ wdot *ℚ t -ℚ correction first;
    tempa = factor;
    of_mm = second;
    tempe = taken second;
    templ = added;
    ecc = e -ℚ taken second;
  }

  -- the mean elements from the first pair and the eccentricity that is used
  abbrev mean_record : Pair → ℚ → MeanRecord
  mean_record first em = record {
    am = a *ℚ factor ^ℚ 2;
    em = em;
    ml = anomaly +ℚ correction first +ℚ n0 *ℚ added;
    wm = w0 +ℚ wdot *ℚ t -ℚ correction first;
    om = o0 +ℚ odot *ℚ t +ℚ nodecf *ℚ t ^ℚ 2;
  }

  -- these are mean elements
  mean_of : (pi em : ℚ) (first second : Pair) → IsSinCos pi anomaly first.sine first.cosine →
      IsSinCos pi (anomaly +ℚ correction first) second.sine second.cosine → IsRaised (e -ℚ taken second) em →
      IsMeanUnguarded k t (secular_record first second) pi (mean_record first em)
  mean_of pi em first second h l r = record {
    angles = record { mf_is = refl; wf_is = refl; om_is = refl; mf_pair = h; g_is = refl; mm_is = refl; wm_is = refl };
    factors = record { tempa_is = refl; mm_pair = l; tempe_is = refl; templ_is = refl };
    elements = record { am_is = refl; ecc_is = refl; em_is = r.is; em_is_else = r.is_else; ml_is = refl; wm_is = refl; om_is = refl };
  }

pub mean_elements_exist : MeanElementsExist
mean_elements_exist k pi t h =
    let first = pair_exists pi (anomaly k t) h in
    let second = pair_exists pi (anomaly k t +ℚ correction k t first.0) h in
    let used = raised (k.e -ℚ taken k t second.0) in
    (secular_record k t first.0 second.0, (mean_record k t first.0 used.0, mean_of k t pi used.0 first.0 second.0 first.1 second.1 used.1))
