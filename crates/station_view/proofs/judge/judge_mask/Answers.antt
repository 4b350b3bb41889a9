use Rattle.std.proofs.Common.{subst}
use Rattle.sgp4_model.specs.Mask.{GrazesBy}
use Rattle.sgp4_model.specs.Sectors.{sides_of}
use Rattle.exact.specs.Rational.{one_ℚ}
use Rattle.station_view.specs.Judged.{AreNarrowLengths}
use Rattle.station_view.proofs.OneLemmas.{hold_at_one, lengths_at, narrow_at_one, one_above}
use Rattle.station_view.proofs.ScaleLemmas.{over_one}
use Rattle.station_view.proofs.judge.judge_mask.Goals as goal

pub returns-clause-yes : goal.returns-clause-yes
returns-clause-yes c e pi pairs v is_pi are hold = c.judge_lengths.ensures.yes e pi pairs v one_ℚ is_pi are one_above (hold_at_one _ v c.one.ensures.low c.one.ensures.high hold)

pub returns-clause-no : goal.returns-clause-no
returns-clause-no c e pi pairs v is_pi are hold = c.judge_lengths.ensures.no e pi pairs v one_ℚ is_pi are one_above (hold_at_one _ v c.one.ensures.low c.one.ensures.high hold)

pub returns-clause-unsure : goal.returns-clause-unsure
returns-clause-unsure c e b narrow pi pairs v is_pi are hold =
    let all : AreNarrowLengths b (lengths_at c.args.sight.now c.one.result) c.args.mask.now = λ k d h. narrow_at_one b c.args.sight.now _ _ c.one.ensures.low c.one.ensures.high (narrow k d h) in
    subst (λ t. GrazesBy t (sides_of pairs) v) (over_one b)
    (c.judge_lengths.ensures.unsure e b all pi pairs v one_ℚ is_pi are one_above (hold_at_one _ v c.one.ensures.low c.one.ensures.high hold))
