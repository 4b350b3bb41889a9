use Rattle.std.proofs.Common.{sym}
use Rattle.decimals.specs.NumberText.{is_point}
use Rattle.decimals.proofs.CutLemmas.{before_place, after_place, before_none, after_none}
use Rattle.decimals.proofs.cut.cut_at_point.Goals as goal

pub returns-in-Some-clause-whole : goal.returns-in-Some-clause-whole
returns-in-Some-clause-whole c = before_place is_point c.args.text.now c.in-Some.place (sym c.in-Some.ensures)

pub returns-in-Some-clause-fraction : goal.returns-in-Some-clause-fraction
returns-in-Some-clause-fraction c = after_place is_point c.args.text.now c.in-Some.place (sym c.in-Some.ensures)

pub returns-in-None-clause-whole : goal.returns-in-None-clause-whole
returns-in-None-clause-whole c = before_none is_point c.args.text.now (sym c.in-None.ensures)

pub returns-in-None-clause-fraction : goal.returns-in-None-clause-fraction
returns-in-None-clause-fraction c = after_none is_point c.args.text.now (sym c.in-None.ensures)
