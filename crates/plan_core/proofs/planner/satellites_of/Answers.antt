use Rattle.std.proofs.Common.{◌≡◌, ◌++◌, ◌∷◌, [], ap, subst, sym, ◌∙◌, All, map}
use Rattle.std.proofs.lemmas.List.{map_push}
use Rattle.std.proofs.lemmas.List.Elements.{All-push}
use Rattle.plan_core.specs.Readers.{IsReady}
use Rattle.plan_core.specs.State.{entry_of}
use Rattle.plan_core.proofs.ListLemmas.{take_push}
use Rattle.plan_core.proofs.planner.satellites_of.Goals as goal

pub loop-k-preserved : goal.loop-k-preserved
loop-k-preserved c =
    let old = c.loop-k.satellites.items in
    let one = c.in_ok-make.field-0 in
    let items : c.push.new.self.items ≡ old ++ one ∷ [] = c.in_ok-push.ensures.items in
    let ready = c.in_ok-make.ensures.ready c.args.setting.now (sym c.window-window.ensures.value) (sym c.stations-stations.ensures.value) in
    record {
      entries =
          ap (map entry_of) items
          ∙ map_push entry_of old one
          ∙ (λ i. c.loop-k.invariant.entries i ++ c.in_ok-make.ensures.entry i ∷ [])
          ∙ sym (take_push c.args.catalogue.now c.loop-k.k c.entry.result.now (sym c.entry.ensures.value));
      ready = subst (λ ss. All (IsReady c.args.setting.now) ss) (sym items) (All-push (IsReady c.args.setting.now) old one c.loop-k.invariant.ready ready);
    }
