use Rattle.std.proofs.Common.{◌^◌, ◌∙◌, ap, sym}
use Rattle.exact.specs.Rational.{ratio}
use Rattle.decimals.specs.Decimal.{value}
use Rattle.station_file.proofs.BorderLemmas.{units_more, size_more, more_in_code}
use Rattle.station_file.proofs.border.units_after.Goals as goal

pub returns-clause-value : goal.returns-clause-value
returns-clause-value c =
    units_more (value c.args.number) c.units.result c.args.more c.units.ensures.value
    ∙ ap (λ t. ratio t (10 ^ 18)) (sym (more_in_code c.units.result c.from.result c.args.more c.requires c.units.ensures.size c.from.ensures))

pub returns-clause-size : goal.returns-clause-size
returns-clause-size c = rw (more_in_code c.units.result c.from.result c.args.more c.requires c.units.ensures.size c.from.ensures) (size_more c.units.result c.args.more c.requires c.units.ensures.size)
