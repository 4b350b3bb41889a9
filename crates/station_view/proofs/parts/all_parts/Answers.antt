use Rattle.std.proofs.Common.{◌≡◌, arith, sym, subst, slice_index_or, below_more}
use Rattle.std.proofs.lemmas.Grind.{common_steps}
use Rattle.lin_form.proofs.PartLemmas.{among_fewer}
use Rattle.station_view.specs.Parts.{AboveFloor, BelowFloor, InSector}
use Rattle.station_view.proofs.parts.all_parts.Goals as goal

pub loop-sector-preserved : goal.loop-sector-preserved
loop-sector-preserved c =
    let old = c.loop-sector.invariant in
    let yes = c.common-all.ensures.yes in
    let no = c.common-all.ensures.no in
    record {
      most = (omega (arith, yes.0, old.most.0), omega (arith, no.0, old.most.1));
      above = λ h among.
          below_more _ _ (old.above h (among_fewer yes.0 among)) (λ d.
          let item : slice_index_or c.args.sectors.now c.loop-sector.sector-index d ≡ c.sector-item.result = grind (arith, common_steps) in
          subst (InSector AboveFloor c.args.lengths.now h) (sym item) (c.sector_parts.ensures.yes h (among_fewer yes.1 among)));
      below = λ h among.
          below_more _ _ (old.below h (among_fewer no.0 among)) (λ d.
          let item : slice_index_or c.args.sectors.now c.loop-sector.sector-index d ≡ c.sector-item.result = grind (arith, common_steps) in
          subst (InSector BelowFloor c.args.lengths.now h) (sym item) (c.sector_parts.ensures.no h (among_fewer no.1 among)));
    }
