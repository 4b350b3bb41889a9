use Rattle.std.proofs.Common.{◌∙◌, refl, sym, ap}
use Rattle.catalogue.specs.Place.{lines_at}
use Rattle.catalogue.proofs.LineLemmas.{lines-at, lines-whole}
use Rattle.catalogue.proofs.lines.Lines.take_line.Goals as goal

pub returns-in-Some-clause-line : goal.returns-in-Some-clause-line
returns-in-Some-clause-line c =
    let s = c.self.inside in
    ap lines_at (sym c.self.view_is)
    ∙ lines-at s.number s.ended s.rest.now c.in-Some.end _ _ (ap (λ p. p.ended) c.self.view_is ∙ c.requires) (sym c.line_end.ensures.value ∙ c.in-Some.is) (rw (c.trimmed.ensures.value, c.cut.ensures.before) refl) c.cut.ensures.behind

pub returns-in-None-clause-line : goal.returns-in-None-clause-line
returns-in-None-clause-line c =
    let s = c.self.inside in
    ap lines_at (sym c.self.view_is)
    ∙ lines-whole s.number s.ended s.rest.now _ (ap (λ p. p.ended) c.self.view_is ∙ c.requires) (sym c.line_end.ensures.value ∙ c.in-None.is) c.trimmed-in-None.ensures.value
