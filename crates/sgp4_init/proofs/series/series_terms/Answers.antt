use Rattle.fixed_iv.proofs.Held.{held_at}
use Rattle.sgp4_init.proofs.CoefficientLemmas.{held_or_zero}
use Rattle.sgp4_init.proofs.SeriesLemmas.{axi_is, d2_is, d3_is, d4_is, t3cof_is, t4cof_is, t5cof_is, w_is}
use Rattle.sgp4_init.proofs.series.series_terms.Goals as goal

pub returns-then-motion : goal.returns-then-motion
returns-then-motion g c = record {
  gives = λ h m d k f r_a r_xi r_c1 terms either form a xi c1.
      c.no_terms.ensures.gives h m d k f r_a r_xi r_c1 (either.simple (form.simple c.if-motion.true));
}

pub returns : goal.returns
returns g c = record {
  gives = λ h m d k f r_a r_xi r_c1 terms either form a xi c1.
      let higher = either.full (form.full c.if-motion.false) in
      let axi = held_at (axi_is m d k f terms higher) (c.axis_times_xi-axi.ensures.gives xi) in
      let d2 = held_at (d2_is m d k f terms higher) (c.second_term-d2.ensures.gives axi c1) in
      let w = held_at (w_is m d k f terms higher) (c.common_factor-w.ensures.gives d2 xi c1) in
      let d3 = held_at (d3_is m d k f terms higher) (c.third_term-d3.ensures.gives a w) in
      let d4 = held_at (d4_is m d k f terms higher) (c.fourth_term-d4.ensures.gives w axi a c1) in
      record {
        d2 = held_or_zero d2;
        d3 = held_or_zero d3;
        d4 = held_or_zero d4;
        t3cof = held_or_zero (held_at (t3cof_is m d k f terms higher) (c.longitude_cube.ensures.gives d2 c1));
        t4cof = held_or_zero (held_at (t4cof_is m d k f terms higher) (c.longitude_fourth.ensures.gives d2 d3 c1));
        t5cof = held_or_zero (held_at (t5cof_is m d k f terms higher) (c.longitude_fifth.ensures.gives d2 d3 d4 c1));
      };
}
