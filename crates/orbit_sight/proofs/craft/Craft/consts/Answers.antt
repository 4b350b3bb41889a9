use Rattle.orbit_sight.proofs.craft.Craft.consts.Goals as goal

pub returns-clause-enclosed : goal.returns-clause-enclosed
returns-clause-enclosed c = rw (← c.self.view_is) c.self.invariant.enclosed

pub returns-clause-held : goal.returns-clause-held
returns-clause-held c = rw (← c.self.view_is) c.self.invariant.held
