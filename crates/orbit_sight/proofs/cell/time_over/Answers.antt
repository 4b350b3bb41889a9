use Rattle.std.proofs.Common.{subst}
use Rattle.orbit_sight.proofs.CellLemmas.{cell_extent, least_spread, line_of_time, on_ticks}
use Rattle.orbit_sight.proofs.cell.time_over.Goals as goal

pub returns-clause-along : goal.returns-clause-along
returns-clause-along g c h = subst (g.E.Enc.covers c.line.result h) (line_of_time h _ _) (c.line.ensures.covers h _ _ c.tick_time.ensures.holds c.tick_time-2.ensures.holds)

pub returns-clause-covers : goal.returns-clause-covers
returns-clause-covers g c place w =
    let on = on_ticks c.args.from c.args.to place c.requires.not_empty w in
    record {
      at = on.at;
      covered = subst (g.E.Enc.covers c.line.result on.at) on.is (c.line.ensures.covers on.at _ _ c.tick_time.ensures.holds c.tick_time-2.ensures.holds);
    }

pub returns-clause-within : goal.returns-clause-within
returns-clause-within g c told = (cell_extent g.E.Enc.extent g.E.Enc.tells c.args.from c.args.to g.met.E.Enc.contained c.line.ensures.covers c.line.ensures.narrow told c.requires.not_empty c.requires.inside c.tick_time.ensures c.tick_time-2.ensures).within

pub returns-clause-narrow : goal.returns-clause-narrow
returns-clause-narrow g c told e = least_spread e (cell_extent g.E.Enc.extent g.E.Enc.tells c.args.from c.args.to g.met.E.Enc.contained c.line.ensures.covers c.line.ensures.narrow told c.requires.not_empty c.requires.inside c.tick_time.ensures c.tick_time-2.ensures)
