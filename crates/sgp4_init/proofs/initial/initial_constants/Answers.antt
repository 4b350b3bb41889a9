use Rattle.sgp4_model.proofs.Pythagoras.{sine_pairs_are_bounded}
use Rattle.sgp4_init.proofs.TakenNumerals.{coefficients_within, density_within, drag_within, rates_within, series_within}
use Rattle.sgp4_init.proofs.initial.initial_constants.Goals as goal

pub returns : goal.returns
returns g c = record {
  gives = λ h pi v is_pi i taken form motion.
      let recovers = i.recovered.recovers in
      let near = (sine_pairs_are_bounded pi _ _ _ is_pi i.at_epoch.twice_w0_pair).1 in
      let epoch = c.at_epoch-epoch.ensures.gives h pi v.epoch is_pi i.at_epoch in
      let density = density_within (c.density_terms-density.ensures.gives h v.motion v.density _ recovers taken i.density_terms motion) in
      let drag = drag_within (c.drag_terms-drag.ensures.gives h v.motion v.density v.drag v.epoch.bstar v.epoch.of_twice_w0.cosine _ _ _ _ recovers taken form i.density_terms near i.drag_coefficient i.eccentricity_drag i.periodic_eccentricity_drag motion density epoch.bstar epoch.cos_twice_w0) in
      let rates = rates_within (c.secular_rates-rates.ensures.gives h v.motion v.rates _ i.oblateness_factors i.mean_anomaly_rate i.perigee_rate i.node_rate motion) in
      let rest = coefficients_within (c.remaining_coefficients-rest.ensures.gives h v.epoch v.motion v.density v.drag v.rates v.coefficients _ _ _ _ (record {
        bstar = i.at_epoch.bstar_is;
        ecc = i.recovered.e_is;
        taken = taken;
        recovers = recovers;
        terms = i.density_terms;
        of_perigee = i.perigee_drag;
        remaining = i.remaining;
        form = form;
      }) epoch motion density rates.w1 drag.c1) in
      let series = series_within (c.series_terms-series.ensures.gives h v.motion v.density v.drag v.higher _ _ _ i.density_terms i.higher_drag form motion.a density.xi drag.c1) in
      c.gathered.ensures.gives h v _ _ _ _ _ _ epoch motion density drag rates rest series;
}
