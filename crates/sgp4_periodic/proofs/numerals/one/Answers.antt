use Rattle.std.proofs.Common.{pos}
use Rattle.fixed_iv.proofs.Promises.{number}
use Rattle.sgp4_periodic.proofs.numerals.one.Goals as goal

pub returns : goal.returns
returns g c h = number (pos 1) 0 0 c.constant.ensures c.from_ratio.ensures tt tt tt
