use Rattle.fixed_iv.proofs.Held.{held_at}
use Rattle.fixed_iv.proofs.Promises.{product}
use Rattle.sgp4_init.proofs.RateLemmas.{ip2_is, mdot_is, odot_is, square_divides, w1_is, w2_is, w3_is, wdot_is}
use Rattle.sgp4_init.proofs.rates.secular_rates.Goals as goal

pub returns : goal.returns
returns g c = record {
  gives = λ h m f r factors of_anomaly of_perigee of_node held.
      let law = g.met.E.Enc.contained in
      let ip2 = held_at (ip2_is m f) (c.inverse_square-ip2.ensures.gives (square_divides m f factors) held.p) in
      let w1 = held_at (w1_is m f factors) (c.first_factor-w1.ensures.gives held.n0 ip2) in
      let w2 = held_at (w2_is m f factors) (c.second_factor-w2.ensures.gives w1 ip2) in
      let w3 = held_at (w3_is m f factors) (c.third_factor-w3.ensures.gives held.n0 ip2) in
      let c2 = product law c.times-c2.ensures held.c held.c in
      let shape = c.in_squares-of_anomaly.ensures.gives (c.number.ensures h) (c.number-2.ensures h) (c.number-3.ensures h) c2 in
      let second = c.in_squares-second.ensures.gives (c.number-4.ensures h) (c.number-5.ensures h) (c.number-6.ensures h) c2 in
      let third = c.in_squares-third.ensures.gives (c.number-7.ensures h) (c.number-8.ensures h) (c.number-9.ensures h) c2 in
      record {
        w1 = w1;
        mdot = held_at (mdot_is m f of_anomaly) (c.mean_anomaly_rate.ensures.gives held.n0 w1 w2 held.b0 held.con41 shape);
        wdot = held_at (wdot_is m f of_perigee) (c.perigee_rate.ensures.gives w1 w2 w3 held.con42 second third);
        odot = held_at (odot_is m f of_node) (c.node_rate.ensures.gives w1 w2 w3 held.c c2);
      };
}
