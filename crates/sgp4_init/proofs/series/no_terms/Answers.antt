use Rattle.std.proofs.Common.{◌≡◌, [], ◌∷◌, ap, ◌∙◌}
use Rattle.exact.specs.Rational.{ℚ, ◌*ℚ◌, zero_ℚ}
use Rattle.exact.proofs.RationalRing.{ring, reads}
use Rattle.sgp4_init.proofs.CoefficientLemmas.{held_zero}
use Rattle.sgp4_init.proofs.series.no_terms.Goals as goal

-- so many times nothing is nothing
none : (k : ℚ) {x : ℚ} → x ≡ zero_ℚ → k *ℚ x ≡ zero_ℚ
none k e = ap (λ t. k *ℚ t) e ∙ ring (k ∷ []) (search reads depth 90) tt

pub returns : goal.returns
returns g c = record {
  gives = λ h m d k f r_a r_xi r_c1 higher.
      record {
        d2 = held_zero _ (none _ higher.d2_is) (c.number.ensures h);
        d3 = held_zero _ (none _ higher.d3_is) (c.number-2.ensures h);
        d4 = held_zero _ (none _ higher.d4_is) (c.number-3.ensures h);
        t3cof = held_zero _ (none _ higher.t3cof_is) (c.number-4.ensures h);
        t4cof = held_zero _ (none _ higher.t4cof_is) (c.number-5.ensures h);
        t5cof = held_zero _ (none _ higher.t5cof_is) (c.number-6.ensures h);
      };
}
