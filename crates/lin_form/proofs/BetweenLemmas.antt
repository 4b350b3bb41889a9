-- Numbers on a line with a middle and a slope from intervals are those between the ends.
use Rattle.std.proofs.Common.{◌≡◌, ◌∙◌, ap, subst, sym, ⊎_elim, [], ◌∷◌, pos}
use Rattle.exact.specs.Extremes.{larger, lesser}
use Rattle.exact.specs.Rational.{ℚ, at_least_0, inverse, of_int, ratio, ◌+ℚ◌, ◌-ℚ◌, ◌*ℚ◌, ◌/ℚ◌, neg_ℚ, ◌≤ℚ◌}
use Rattle.exact.proofs.RationalRing.{ring, reads}
use Rattle.exact.proofs.Order.{NonNeg, gap, known, le_antisym, le_by, le_refl, le_trans, ◌⊕◌, ◌⊗◌}
use Rattle.exact.proofs.Bounds.{by_sign, le_total}
use Rattle.exact.proofs.ExtremeLaws.{larger_le, le_larger, le_lesser, lesser_le}
use Rattle.exact.proofs.Integers.{of_int_le}
use Rattle.exact.proofs.Strict.{Positive, le_quotient, mul_inverse, not_zero, quotient_le}
use Rattle.exact.proofs.Tests.{by_test}
use Rattle.fixed_iv.specs.Ends.{in_units}
use Rattle.fixed_iv.specs.Holds.{Holds}
use Rattle.fixed_iv.specs.Place.{Place}
use Rattle.fixed_iv.specs.declared.iv.Iv.{Iv}
use Rattle.lin_form.specs.Between.{CoveredLiesBetween, LiesBetween}
use Rattle.lin_form.specs.Covered.{IsCovered, on_slope}

-- ---- from a line to the ends
over_lesser : (h c s u m w : ℚ) → c ≤ℚ m → s ≤ℚ w → w ≤ℚ u → lesser (c +ℚ h *ℚ s) (c +ℚ h *ℚ u) ≤ℚ m +ℚ h *ℚ w
over_lesser h c s u m w p q r =
    let least = lesser_le (c +ℚ h *ℚ s) (c +ℚ h *ℚ u) in
    by_sign h
    (λ n. le_trans least.0 (le_by (h ∷ c ∷ s ∷ m ∷ w ∷ []) (gap p ⊕ n ⊗ gap q) (search reads depth 90) tt))
    (λ n. le_trans least.1 (le_by (h ∷ c ∷ u ∷ m ∷ w ∷ []) (gap p ⊕ n ⊗ gap r) (search reads depth 90) tt))

under_larger : (h d s u m w : ℚ) → m ≤ℚ d → s ≤ℚ w → w ≤ℚ u → m +ℚ h *ℚ w ≤ℚ larger (d +ℚ h *ℚ s) (d +ℚ h *ℚ u)
under_larger h d s u m w p q r =
    let most = le_larger (d +ℚ h *ℚ s) (d +ℚ h *ℚ u) in
    by_sign h
    (λ n. le_trans (le_by (h ∷ d ∷ u ∷ m ∷ w ∷ []) (gap p ⊕ n ⊗ gap r) (search reads depth 90) tt) most.1)
    (λ n. le_trans (le_by (h ∷ d ∷ s ∷ m ∷ w ∷ []) (gap p ⊕ n ⊗ gap q) (search reads depth 90) tt) most.0)

-- ---- from the ends to a line
-- a middle from c to d, and a slope from s to u, of a line through x
record IsFound (h c d s u x : ℚ) : Type 0 where
  middle : ℚ
  slope : ℚ
  from_c : c ≤ℚ middle
  to_d : middle ≤ℚ d
  from_s : s ≤ℚ slope
  to_u : slope ≤ℚ u
  is : x ≡ middle +ℚ h *ℚ slope

by_positive : {P : Type 0} (x : ℚ) → (Positive x → P) → (NonNeg (neg_ℚ x) → P) → P
by_positive {P} x f g = by_test (at_least_0 (neg_ℚ x)) (λ t. g (record { holds = t })) (λ t. f (record { holds = t }))

times_quotient : (h x : ℚ) → Positive h → h *ℚ (x /ℚ h) ≡ x
times_quotient h x p = ring (h ∷ x ∷ inverse h ∷ []) {y = x *ℚ (h *ℚ inverse h)} (search reads depth 90) tt ∙ rw (mul_inverse h (not_zero p)) (ring (x ∷ []) (search reads depth 90) tt)

rising : (h c d s u x : ℚ) → NonNeg h → c ≤ℚ d → s ≤ℚ u → c +ℚ h *ℚ s ≤ℚ x → x ≤ℚ d +ℚ h *ℚ u → IsFound h c d s u x
rising h c d s u x n p q low high = ⊎_elim at_least_slope beyond (le_total (x -ℚ h *ℚ s) d)
  where
    at_least_slope : x -ℚ h *ℚ s ≤ℚ d → IsFound h c d s u x
    at_least_slope k = record {
      middle = x -ℚ h *ℚ s;
      slope = s;
      from_c = le_by (h ∷ c ∷ s ∷ x ∷ []) (gap low) (search reads depth 90) tt;
      to_d = k;
      from_s = le_refl s;
      to_u = q;
      is = ring (h ∷ s ∷ x ∷ []) (search reads depth 90) tt;
    }

    beyond : d ≤ℚ x -ℚ h *ℚ s → IsFound h c d s u x
    beyond k = by_positive h
        (λ positive. record {
          middle = d;
          slope = (x -ℚ d) /ℚ h;
          from_c = p;
          to_d = le_refl d;
          from_s = le_quotient positive (le_by (h ∷ d ∷ s ∷ x ∷ []) (gap k) (search reads depth 90) tt);
          to_u = quotient_le positive (le_by (h ∷ d ∷ u ∷ x ∷ []) (gap high) (search reads depth 90) tt);
          is = ring (d ∷ x ∷ []) {y = d +ℚ (x -ℚ d)} (search reads depth 90) tt ∙ ap (λ t. d +ℚ t) (sym (times_quotient h (x -ℚ d) positive));
        })
        (λ no. record {
          middle = d;
          slope = s;
          from_c = p;
          to_d = le_refl d;
          from_s = le_refl s;
          to_u = q;
          is = le_antisym
              (le_by (h ∷ d ∷ s ∷ u ∷ x ∷ []) (gap high ⊕ no ⊗ gap q) (search reads depth 90) tt)
              (le_by (h ∷ d ∷ s ∷ x ∷ []) (gap k) (search reads depth 90) tt);
        })

turned_about : {h c d s u x : ℚ} → IsFound (neg_ℚ h) c d (neg_ℚ u) (neg_ℚ s) x → IsFound h c d s u x
turned_about {h} {c} {d} {s} {u} {x} f = record {
  middle = f.middle;
  slope = neg_ℚ f.slope;
  from_c = f.from_c;
  to_d = f.to_d;
  from_s = le_by (s ∷ f.slope ∷ []) (gap f.to_u) (search reads depth 90) tt;
  to_u = le_by (u ∷ f.slope ∷ []) (gap f.from_s) (search reads depth 90) tt;
  is = f.is ∙ ring (h ∷ f.middle ∷ f.slope ∷ []) (search reads depth 90) tt;
}

found : (h c d s u x : ℚ) → c ≤ℚ d → s ≤ℚ u → lesser (c +ℚ h *ℚ s) (c +ℚ h *ℚ u) ≤ℚ x → x ≤ℚ larger (d +ℚ h *ℚ s) (d +ℚ h *ℚ u) → IsFound h c d s u x
found h c d s u x p q low high =
    by_sign h
    (λ n. rising h c d s u x n p q
    (le_trans (le_lesser _ _ _ (le_refl _) (le_by (h ∷ c ∷ s ∷ u ∷ []) (n ⊗ gap q) (search reads depth 90) tt)) low)
    (le_trans high (larger_le _ _ _ (le_by (h ∷ d ∷ s ∷ u ∷ []) (n ⊗ gap q) (search reads depth 90) tt) (le_refl _))))
    (λ n. turned_about (rising (neg_ℚ h) c d (neg_ℚ u) (neg_ℚ s) x n p (le_by (s ∷ u ∷ []) (gap q) (search reads depth 90) tt)
    (le_trans (le_by (h ∷ c ∷ u ∷ []) (known 0 1) (search reads depth 90) tt) (le_trans (le_lesser _ _ (c +ℚ h *ℚ u) (le_by (h ∷ c ∷ s ∷ u ∷ []) (n ⊗ gap q) (search reads depth 90) tt) (le_refl _)) low))
    (le_trans high (le_trans (larger_le _ _ (d +ℚ h *ℚ s) (le_refl _) (le_by (h ∷ d ∷ s ∷ u ∷ []) (n ⊗ gap q) (search reads depth 90) tt)) (le_by (h ∷ d ∷ s ∷ []) (known 0 1) (search reads depth 90) tt)))))

-- ---- in units
abbrev of_units : ℚ → ℚ
of_units x = x *ℚ ratio (pos 1) 281474976710656

there_and_back : (x : ℚ) → in_units (of_units x) ≡ x
there_and_back x = ring (x ∷ []) (search reads depth 90) tt

held_units : {v : Iv} (x : ℚ) → of_int v.lo ≤ℚ x → x ≤ℚ of_int v.hi → Holds v (of_units x)
held_units {v} x p q = record { low = λ _. subst (λ t. of_int v.lo ≤ℚ t) (sym (there_and_back x)) p; high = λ _. subst (λ t. t ≤ℚ of_int v.hi) (sym (there_and_back x)) q }

of_line : (h : Place) (x m w : ℚ) → in_units x ≡ m +ℚ h.at *ℚ w → x ≡ on_slope h (of_units m) (of_units w)
of_line h x m w e =
    ring (x ∷ []) {y = of_units (in_units x)} (search reads depth 90) tt ∙ ap of_units e ∙ ring (h.at ∷ m ∷ w ∷ []) (search reads depth 90) tt

line_in_units : (h : Place) (m s : ℚ) → in_units (on_slope h m s) ≡ in_units m +ℚ h.at *ℚ in_units s
line_in_units h m s = ring (h.at ∷ m ∷ s ∷ []) (search reads depth 90) tt

pub covered_lies_between : CoveredLiesBetween
covered_lies_between a h x centre slope = (into, from)
  where
    into : IsCovered a h x → LiesBetween a h x
    into k =
        let e = ap in_units k.is ∙ line_in_units h k.middle k.slope in
        record {
          ranged = k.ranged;
          low = subst (λ t. lesser (of_int a.centre.lo +ℚ h.at *ℚ of_int a.slope.lo) (of_int a.centre.lo +ℚ h.at *ℚ of_int a.slope.hi) ≤ℚ t) (sym e)
              (over_lesser h.at _ _ _ _ _ (k.centred.low centre.low) (k.sloped.low slope.low) (k.sloped.high slope.high));
          high = subst (λ t. t ≤ℚ larger (of_int a.centre.hi +ℚ h.at *ℚ of_int a.slope.lo) (of_int a.centre.hi +ℚ h.at *ℚ of_int a.slope.hi)) (sym e)
              (under_larger h.at _ _ _ _ _ (k.centred.high centre.high) (k.sloped.low slope.low) (k.sloped.high slope.high));
        }

    from : LiesBetween a h x → IsCovered a h x
    from k =
        let f = found h.at _ _ _ _ (in_units x) (of_int_le a.centre.ordered) (of_int_le a.slope.ordered) k.low k.high in
        record {
          middle = of_units f.middle;
          slope = of_units f.slope;
          ranged = k.ranged;
          centred = held_units f.middle f.from_c f.to_d;
          sloped = held_units f.slope f.from_s f.to_u;
          is = of_line h x f.middle f.slope f.is;
        }
