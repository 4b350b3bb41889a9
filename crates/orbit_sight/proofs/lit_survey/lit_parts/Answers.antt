use Rattle.std.proofs.Common.{inl, inr, ⊎_elim}
use Rattle.lin_form.proofs.PartLemmas.{among_both, among_either}
use Rattle.orbit_sight.proofs.lit_survey.lit_parts.Goals as goal

pub returns-clause-yes : goal.returns-clause-yes
returns-clause-yes c h v covered among =
    ⊎_elim (λ first. inl (c.sign_parts-depth.ensures.yes h v.p covered.p first)) (λ first. inr (c.sign_parts-height.ensures.yes h v.g covered.g first)) (among_either c.max.ensures among)

pub returns-clause-no : goal.returns-clause-no
returns-clause-no c h v covered among =
    let both = among_both c.min.ensures among in
    record { behind = c.sign_parts-depth.ensures.no h v.p covered.p both.0; inside = c.sign_parts-height.ensures.no h v.g covered.g both.1 }
