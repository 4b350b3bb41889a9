-- What the tests of a set tell, one number after another.
use Rattle.std.proofs.Common.{◌≡◌, Bool, true, false, ◌&&◌, not, T, refl, subst, sym, ℤ, pos, neg_ℤ}
use Rattle.std.proofs.lemmas.Bool.{and_parts}
use Rattle.exact.specs.Rational.{ℚ, at_least_0, of_int, zero_ℚ, one_ℚ, ◌-ℚ◌, ◌≤ℚ◌, ◌<ℚ◌}
use Rattle.decimals.specs.Decimal.{DecimalRecord, value}
use Rattle.elements.specs.Elements.{ElementsRecord, IsElements, IsFromTo}
use Rattle.elements.specs.Ranges.{at_most, below, is_from_to, is_motion, is_eccentricity, is_inclination, is_angle}
use Rattle.rows_elements.specs.SetRanges.{passes, TestsTellTheRanges}

is_true : (t : Bool) → T t → t ≡ true
is_true true h = refl
is_true false h = absurd h

holds : (t : Bool) → t ≡ true → T t
holds t e = subst T (sym e) tt

both : (a b : Bool) → a ≡ true → b ≡ true → a && b ≡ true
both a b p q = rw (p, q) refl

le_of_test : (x y : ℚ) → at_most x y ≡ true → x ≤ℚ y
le_of_test x y e = record { le = holds (at_least_0 (y -ℚ x)) e }

test_of_le : (x y : ℚ) → x ≤ℚ y → at_most x y ≡ true
test_of_le x y h = is_true (at_least_0 (y -ℚ x)) h.le

lt_of_test : (x y : ℚ) → below x y ≡ true → x <ℚ y
lt_of_test x y e = record { lt = holds (not (at_least_0 (x -ℚ y))) e }

test_of_lt : (x y : ℚ) → x <ℚ y → below x y ≡ true
test_of_lt x y h = is_true (not (at_least_0 (x -ℚ y))) h.lt

range_of_test : (low high : ℤ) (d : DecimalRecord) → is_from_to low high d ≡ true → IsFromTo low high (value d)
range_of_test low high d e =
    let (least, most) = and_parts (at_most (of_int low) (value d)) (at_most (value d) (of_int high)) e in
    record { least = le_of_test _ _ least; most = le_of_test _ _ most }

test_of_range : (low high : ℤ) (d : DecimalRecord) → IsFromTo low high (value d) → is_from_to low high d ≡ true
test_of_range low high d h = both (at_most (of_int low) (value d)) (at_most (value d) (of_int high)) (test_of_le _ _ h.least) (test_of_le _ _ h.most)

told : (e : ElementsRecord) → passes e ≡ true → IsElements e
told e h =
    let (motion, rest) = and_parts (is_motion e.motion) (is_eccentricity e.ecc && (is_inclination e.incl && (is_angle e.node && (is_angle e.argp && is_angle e.anomaly)))) h in
    let (ecc, angles) = and_parts (is_eccentricity e.ecc) (is_inclination e.incl && (is_angle e.node && (is_angle e.argp && is_angle e.anomaly))) rest in
    let (ecc_least, ecc_below) = and_parts (at_most zero_ℚ (value e.ecc)) (below (value e.ecc) one_ℚ) ecc in
    let (incl, turns) = and_parts (is_inclination e.incl) (is_angle e.node && (is_angle e.argp && is_angle e.anomaly)) angles in
    let (node, last) = and_parts (is_angle e.node) (is_angle e.argp && is_angle e.anomaly) turns in
    let (argp, anomaly) = and_parts (is_angle e.argp) (is_angle e.anomaly) last in
    record {
      motion = lt_of_test _ _ motion;
      ecc = le_of_test _ _ ecc_least;
      ecc_below = lt_of_test _ _ ecc_below;
      incl = range_of_test (pos 0) (pos 180) e.incl incl;
      node = range_of_test (neg_ℤ (pos 360)) (pos 360) e.node node;
      argp = range_of_test (neg_ℤ (pos 360)) (pos 360) e.argp argp;
      anomaly = range_of_test (neg_ℤ (pos 360)) (pos 360) e.anomaly anomaly;
    }

met : (e : ElementsRecord) → IsElements e → passes e ≡ true
met e h =
    let motion : is_motion e.motion ≡ true = test_of_lt _ _ h.motion in
    let least : at_most zero_ℚ (value e.ecc) ≡ true = test_of_le _ _ h.ecc in
    let below_1 : below (value e.ecc) one_ℚ ≡ true = test_of_lt _ _ h.ecc_below in
    let incl = test_of_range (pos 0) (pos 180) e.incl h.incl in
    let node = test_of_range (neg_ℤ (pos 360)) (pos 360) e.node h.node in
    let argp = test_of_range (neg_ℤ (pos 360)) (pos 360) e.argp h.argp in
    let anomaly = test_of_range (neg_ℤ (pos 360)) (pos 360) e.anomaly h.anomaly in
    both _ _ motion (both _ _ (both _ _ least below_1) (both _ _ incl (both _ _ node (both _ _ argp anomaly))))

-- the tests and the ranges are one
pub tests_tell_the_ranges : TestsTellTheRanges
tests_tell_the_ranges e = (told e, met e)
