use Rattle.std.proofs.Common.{⊎_elim}
use Rattle.lin_form.proofs.PartLemmas.{among_either, gt_of_difference, lt_of_difference}
use Rattle.station_view.proofs.ScaleLemmas.{cancel_lt}
use Rattle.station_view.proofs.parts.sector_parts.Goals as goal

pub returns-clause-yes : goal.returns-clause-yes
returns-clause-yes c h among s v range sides above covered holds =
    ⊎_elim
    (λ first. cancel_lt s.floor v.up range above (lt_of_difference _ _ (c.sign_parts-over.ensures.yes h _ (c.over_floor.ensures h s _ sides covered) first)))
    (λ first. absurd (c.parts_elsewhere-elsewhere.ensures.elsewhere h first s v range sides above covered holds))
    (among_either c.max.ensures among)

pub returns-clause-no : goal.returns-clause-no
returns-clause-no c h among s v range sides above covered holds =
    ⊎_elim
    (λ first. cancel_lt v.up s.floor range above (gt_of_difference _ _ (c.sign_parts-over.ensures.no h _ (c.over_floor.ensures h s _ sides covered) first)))
    (λ first. absurd (c.parts_elsewhere-elsewhere.ensures.elsewhere h first s v range sides above covered holds))
    (among_either c.max-2.ensures among)
