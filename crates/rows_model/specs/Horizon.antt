-- Which numbers are light, are night or graze the horizon.
use Rattle.std.specs.Prelude.{pos, negsuc}
use Rattle.exact.specs.Rational.{ratio, zero_ℚ}
use Rattle.sgp4_model.specs.DaySolution.{IsDaylight, IsNight, GrazesHorizon, GrazesHorizonBy}

-- light above 0 alone, night below it alone, grazing by b up to b to either side, and grazing up to 2^-23
pub record HorizonRows : Type 0 where
  pub light : IsDaylight (ratio (pos 1) 1000000)
  pub level_is_not_light : ¬ (IsDaylight zero_ℚ)
  pub low_is_not_light : ¬ (IsDaylight (ratio (negsuc 0) 1000000))
  pub night : IsNight (ratio (negsuc 0) 1000000)
  pub level_is_not_night : ¬ (IsNight zero_ℚ)
  pub high_is_not_night : ¬ (IsNight (ratio (pos 1) 1000000))
  pub near_above : GrazesHorizonBy (ratio (pos 1) 1000) (ratio (pos 1) 1000)
  pub near_below : GrazesHorizonBy (ratio (pos 1) 1000) (ratio (negsuc 0) 1000)
  pub far_above : ¬ (GrazesHorizonBy (ratio (pos 1) 1000) (ratio (pos 1001) 1000000))
  pub far_below : ¬ (GrazesHorizonBy (ratio (pos 1) 1000) (ratio (negsuc 1000) 1000000))
  pub sharp_above : GrazesHorizon (ratio (pos 1) 8388608)
  pub sharp_below : GrazesHorizon (ratio (negsuc 0) 8388608)
  pub past_above : ¬ (GrazesHorizon (ratio (pos 1) 8388607))
  pub past_below : ¬ (GrazesHorizon (ratio (negsuc 0) 8388607))
