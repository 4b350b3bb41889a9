use Rattle.std.proofs.Common.{⊎_elim}
use Rattle.lin_form.proofs.PartLemmas.{among_either, not_below}
use Rattle.station_view.proofs.ScaleLemmas.{cross_at_range}
use Rattle.station_view.proofs.parts.parts_elsewhere.Goals as goal

pub returns-clause-elsewhere : goal.returns-clause-elsewhere
returns-clause-elsewhere c h among s v range sides above covered holds =
    ⊎_elim
    (λ first. not_below _ (c.sign_parts.ensures.no h _ (c.cross-past.ensures h _ _ _ _ sides.cos_from covered.east sides.sin_from covered.north) first) (cross_at_range v.east s.from.cosine v.north s.from.sine range above holds.from))
    (λ first. not_below _ (c.sign_parts-2.ensures.no h _ (c.cross-short.ensures h _ _ _ _ sides.sin_to covered.north sides.cos_to covered.east) first) (cross_at_range v.north s.to.sine v.east s.to.cosine range above holds.to))
    (among_either c.max.ensures among)
