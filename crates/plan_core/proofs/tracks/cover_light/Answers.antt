use Rattle.std.proofs.Common.{ℕ, subst}
use Rattle.elements.specs.Elements.{ElementsRecord}
use Rattle.elements.specs.Window.{WindowRecord}
use Rattle.orbit_sight.specs.Lit.{lit_of}
use Rattle.plan_core.specs.Kept.{IsRowMade}
use Rattle.plan_core.proofs.tracks.cover_light.Goals as goal

pub returns : goal.returns
returns c =
    let judge = c.make-judge.result in
    let P : ElementsRecord → WindowRecord → ℕ → Type 0 = λ set window resolution. IsRowMade (lit_of set window) resolution c.args.pool.now c.cover.new.pool c.cover.result.answer in
    let made : P judge.craft.now judge.window c.resolution.result = record { certified = c.cover.ensures.certified; pool = c.cover.ensures.pool; others = c.cover.ensures.others } in
    subst (P c.args.craft.now c.args.window) c.resolution.ensures.value
    (subst (λ window. P c.args.craft.now window c.resolution.result) c.make-judge.ensures.window
    (subst (λ set. P set judge.window c.resolution.result) c.make-judge.ensures.craft made))
