use Rattle.std.proofs.Common.{◌≡◌, ◌<◌, ap, arith, ◌∙◌, length, get_or, rules}
use Rattle.std.proofs.lemmas.List.Elements.{All-set}
use Rattle.plan_core.specs.Readers.{IsReady}
use Rattle.plan_core.specs.State.{SatState, entry_of}
use Rattle.plan_core.proofs.ListLemmas.{map_set_same}
use Rattle.plan_core.proofs.StepLemmas.{filled_step}
use Rattle.plan_core.proofs.fill.fill_all.Goals as goal

pub loop-k-preserved : goal.loop-k-preserved
loop-k-preserved c =
    let items = c.loop-k.satellites.items in
    let k = c.loop-k.k in
    let inv = c.loop-k.invariant in
    let first = c.index_mut-satellite.result.now in
    let last = c.fill.new.satellite in
    let low : k < length items = search rules in
    let read : first ≡ get_or items k first = search rules in
    record {
      filled = filled_step c.args.setting.now c.args.pool.now c.loop-k.pool c.fill.new.pool items k last low inv.filled c.fill.ensures.filled;
      ready = All-set (IsReady c.args.setting.now) items k last c.fill.ensures.ready inv.ready;
      entries = map_set_same entry_of items k first last read low c.fill.ensures.entry ∙ inv.entries;
      fates = map_set_same (λ (s : SatState). s.fate) items k first last read low c.fill.ensures.fate ∙ inv.fates;
    }
