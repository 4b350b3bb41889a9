use Rattle.orbit_sight.proofs.craft.over.Goals as goal

pub returns-clause-far : goal.returns-clause-far
returns-clause-far g c = rw (← c.craft.view_is, ← c.start.ensures.value) c.position_over.ensures.far

pub returns-clause-exists : goal.returns-clause-exists
returns-clause-exists g c = rw (← c.craft.view_is, ← c.start.ensures.value) c.position_over.ensures.exists
