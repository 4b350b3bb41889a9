-- Daylight and shadow at small numbers.
use Rattle.std.proofs.Common.{inl, inr}
use Rattle.exact.specs.Rational.{◌+ℚ◌, ◌*ℚ◌, neg_ℚ, at_least_0, ratio}
use Rattle.rows_model.specs.Horizon.{HorizonRows}
use Rattle.rows_model.specs.Shadow.{ShadowRows}

pub horizon_rows : HorizonRows
unfolding ratio ◌+ℚ◌ ◌*ℚ◌ neg_ℚ at_least_0
horizon_rows = record {
  light = record { lt = tt };
  level_is_not_light = λ h. absurd h.lt;
  low_is_not_light = λ h. absurd h.lt;
  night = record { lt = tt };
  level_is_not_night = λ h. absurd h.lt;
  high_is_not_night = λ h. absurd h.lt;
  near_above = record { above = record { le = tt }; below = record { le = tt } };
  near_below = record { above = record { le = tt }; below = record { le = tt } };
  far_above = λ h. absurd h.above.le;
  far_below = λ h. absurd h.below.le;
  sharp_above = record {
    given = record { above = record { le = tt }; below = record { le = tt } };
    sharp = record { above = record { le = tt }; below = record { le = tt } };
  };
  sharp_below = record {
    given = record { above = record { le = tt }; below = record { le = tt } };
    sharp = record { above = record { le = tt }; below = record { le = tt } };
  };
  past_above = λ h. absurd h.sharp.above.le;
  past_below = λ h. absurd h.sharp.below.le;
}

pub shadow_rows : ShadowRows
unfolding ratio ◌+ℚ◌ ◌*ℚ◌ neg_ℚ at_least_0
shadow_rows = record {
  before = inl (record { lt = tt });
  over = inr (record { lt = tt });
  behind = record { behind = record { lt = tt }; inside = record { lt = tt } };
  behind_is_not_sunlit = λ h. elim h [ inl k ↦ absurd k.lt | inr k ↦ absurd k.lt ];
  before_is_not_dark = λ h. absurd h.behind.lt;
  over_is_not_dark = λ h. absurd h.inside.lt;
  edge_is_not_sunlit = λ h. elim h [ inl k ↦ absurd k.lt | inr k ↦ absurd k.lt ];
  edge_is_not_dark = λ h. absurd h.inside.lt;
  level_is_not_dark = λ h. absurd h.behind.lt;
  near_above = record {
    behind = record { lt = tt };
    given = record { above = record { le = tt }; below = record { le = tt } };
    sharp = record { above = record { le = tt }; below = record { le = tt } };
  };
  near_below = record {
    behind = record { lt = tt };
    given = record { above = record { le = tt }; below = record { le = tt } };
    sharp = record { above = record { le = tt }; below = record { le = tt } };
  };
  far_above = λ h. absurd h.sharp.above.le;
  far_below = λ h. absurd h.sharp.below.le;
  before_does_not_graze = λ h. absurd h.behind.lt;
  level_does_not_graze = λ h. absurd h.behind.lt;
}
