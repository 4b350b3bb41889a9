-- The numerals of the parts of the constants of a set that is taken, one part from the earlier ones.
use Rattle.std.proofs.Common.{pos, negsuc}
use Rattle.fixed_iv.specs.declared.enc.Enc.{Ghosts}
use Rattle.fixed_iv.specs.Place.{Place}
use Rattle.fixed_iv.specs.Reach.{from_to, turned, ◌+ᴿ◌, ◌-ᴿ◌, ◌*ᴿ◌, ◌/ᴿ◌}
use Rattle.fixed_iv.specs.ReachRoots.{rooted}
use Rattle.fixed_iv.proofs.Held.{within}
use Rattle.sgp4_model.specs.Density.{DensityRecord}
use Rattle.sgp4_model.specs.Drag.{DragRecord}
use Rattle.sgp4_model.specs.Rates.{RatesRecord}
use Rattle.sgp4_model.specs.Coefficients.{CoefficientRecord}
use Rattle.sgp4_model.specs.HigherDrag.{HigherDragRecord}
use Rattle.sgp4_motion.specs.HeldMotion.{reach_motion}
use Rattle.sgp4_init.specs.declared.density.Density.{Density}
use Rattle.sgp4_init.specs.declared.drag.Drag.{Drag}
use Rattle.sgp4_init.specs.declared.rates.Rates.{Rates}
use Rattle.sgp4_init.specs.declared.coefficients.Coefficients.{Coefficients}
use Rattle.sgp4_init.specs.declared.series.Series.{Series}
use Rattle.sgp4_init.specs.HeldDensity.{DensityReach, IsHeldDensity, reach_density}
use Rattle.sgp4_init.specs.HeldDrag.{DragReach, IsHeldDrag, reach_drag}
use Rattle.sgp4_init.specs.HeldRates.{RatesReach, IsHeldRates, reach_rates}
use Rattle.sgp4_init.specs.HeldCoefficients.{CoefficientReach, IsHeldCoefficients, reach_coefficients}
use Rattle.sgp4_init.specs.HeldSeries.{SeriesReach, IsHeldSeries, reach_series}
use Rattle.sgp4_init.specs.Numerals.{given_angle, given_drag, of_ratio, or_zero, sized}

abbrev pub taken_density : DensityReach
taken_density = record {
  xi = from_to (pos 10999) (pos 287599) 10000 81920;
  eta = from_to (pos 0) (pos 8827) 10000 32768;
  xp = from_to (pos 5499) (pos 287351) 10000 2883584;
  coef = from_to (pos 0) (pos 12864) 10000000 18;
  coef1 = from_to (pos 0) (pos 12821) 10000000 1024;
}

pub density_within : {A : Type 0} {E : Ghosts A} {a : Density A} {h : Place} {x : DensityRecord} →
    IsHeldDensity E a h x (reach_density reach_motion) → IsHeldDensity E a h x taken_density
unfolding of_ratio sized ◌+ᴿ◌ ◌-ᴿ◌ ◌*ᴿ◌ ◌/ᴿ◌ rooted
density_within k = record {
  xi = within taken_density.xi k.xi tt;
  eta = within taken_density.eta k.eta tt;
  xp = within taken_density.xp k.xp tt;
  coef = within taken_density.coef k.coef tt;
  coef1 = within taken_density.coef1 k.coef1 tt;
}

abbrev pub taken_drag : DragReach
taken_drag = record {
  c1 = from_to (negsuc 1820) (pos 1821) 1000000 8192;
  c4 = from_to (negsuc 106) (pos 107) 100 14680064;
  c5 = from_to (negsuc 4) (pos 5) 1000 16384;
}

pub drag_within : {A : Type 0} {E : Ghosts A} {a : Drag A} {h : Place} {x : DragRecord} →
    IsHeldDrag E a h x (reach_drag reach_motion taken_density given_drag (turned (given_angle +ᴿ given_angle))) → IsHeldDrag E a h x taken_drag
unfolding of_ratio or_zero turned ◌+ᴿ◌ ◌-ᴿ◌ ◌*ᴿ◌ ◌/ᴿ◌
drag_within k = record {
  c1 = within taken_drag.c1 k.c1 tt;
  c4 = within taken_drag.c4 k.c4 tt;
  c5 = within taken_drag.c5 k.c5 tt;
}

abbrev pub taken_rates : RatesReach
taken_rates = record {
  w1 = from_to (pos 201) (pos 1686) 1000 1792;
  mdot = from_to (pos 4566) (pos 11397) 10 14336;
  wdot = from_to (negsuc 929) (pos 3465) 1000 90112;
  odot = from_to (negsuc 1710) (pos 1711) 1000 22528;
}

pub rates_within : {A : Type 0} {E : Ghosts A} {a : Rates A} {h : Place} {x : RatesRecord} →
    IsHeldRates E a h x (reach_rates reach_motion) → IsHeldRates E a h x taken_rates
unfolding of_ratio ◌+ᴿ◌ ◌-ᴿ◌ ◌*ᴿ◌ ◌/ᴿ◌
rates_within k = record {
  w1 = within taken_rates.w1 k.w1 tt;
  mdot = within taken_rates.mdot k.mdot tt;
  wdot = within taken_rates.wdot k.wdot tt;
  odot = within taken_rates.odot k.odot tt;
}

abbrev pub taken_coefficients : CoefficientReach
taken_coefficients = record {
  omgcof = from_to (negsuc 2105) (pos 2106) 1000 491520;
  xmcof = from_to (negsuc 2848) (pos 2849) 1000 262144;
  nodecf = from_to (negsuc 1074) (pos 1075) 100000 49152;
  t2cof = from_to (negsuc 273) (pos 274) 100000 13312;
  xlcof = from_to (negsuc 114) (pos 115) 1000 10240;
  aycof = from_to (negsuc 1172) (pos 1173) 1000000 3;
  delmo = from_to (pos 1) (pos 6674) 1000 360448;
}

pub coefficients_within : {A : Type 0} {E : Ghosts A} {a : Coefficients A} {h : Place} {x : CoefficientRecord} →
    IsHeldCoefficients E a h x (reach_coefficients reach_motion taken_density taken_rates.w1 taken_drag.c1) → IsHeldCoefficients E a h x taken_coefficients
unfolding of_ratio or_zero turned ◌+ᴿ◌ ◌*ᴿ◌ ◌/ᴿ◌
coefficients_within k = record {
  omgcof = within taken_coefficients.omgcof k.omgcof tt;
  xmcof = within taken_coefficients.xmcof k.xmcof tt;
  nodecf = within taken_coefficients.nodecf k.nodecf tt;
  t2cof = within taken_coefficients.t2cof k.t2cof tt;
  xlcof = within taken_coefficients.xlcof k.xlcof tt;
  aycof = within taken_coefficients.aycof k.aycof tt;
  delmo = within taken_coefficients.delmo k.delmo tt;
}

abbrev pub taken_series : SeriesReach
taken_series = record {
  d2 = from_to (negsuc 399) (pos 400) 1000000 3840;
  d3 = from_to (negsuc 234) (pos 235) 1000000 3328;
  d4 = from_to (negsuc 87) (pos 88) 1000000 1792;
  t3cof = from_to (negsuc 406) (pos 407) 1000000 3840;
  t4cof = from_to (negsuc 178) (pos 179) 1000000 2560;
  t5cof = from_to (negsuc 53) (pos 54) 1000000 1152;
}

pub series_within : {A : Type 0} {E : Ghosts A} {a : Series A} {h : Place} {x : HigherDragRecord} →
    IsHeldSeries E a h x (reach_series reach_motion.a taken_density.xi taken_drag.c1) → IsHeldSeries E a h x taken_series
unfolding of_ratio or_zero ◌+ᴿ◌ ◌*ᴿ◌
series_within k = record {
  d2 = within taken_series.d2 k.d2 tt;
  d3 = within taken_series.d3 k.d3 tt;
  d4 = within taken_series.d4 k.d4 tt;
  t3cof = within taken_series.t3cof k.t3cof tt;
  t4cof = within taken_series.t4cof k.t4cof tt;
  t5cof = within taken_series.t5cof k.t5cof tt;
}
