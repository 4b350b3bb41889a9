use Rattle.orbit_sight.proofs.lit_survey.reversed.Goals as goal

pub returns : goal.returns
returns c h g v e covered = record { p = c.reversed.ensures h g v.p e covered.p; g = c.reversed-2.ensures h g v.g e covered.g }
