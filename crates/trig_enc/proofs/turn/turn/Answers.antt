use Rattle.std.proofs.Common.{rules, ◌≡◌, ◌≤◌, ◌∙◌, sym, subst}
use Rattle.sgp4_model.specs.Angle.{quadrant}
use Rattle.trig_enc.proofs.WholeLemmas.{kept_narrow, kept_i64}
use Rattle.trig_enc.proofs.TurnLemmas.{kept_opposite, turned_never, turned_once, turned_twice, turned_thrice}
use Rattle.trig_enc.proofs.turn.turn.Goals as goal

pub returns-in-0-clause-pair : goal.returns-in-0-clause-pair
returns-in-0-clause-pair c = λ p h.
    let k : quadrant c.args.quarters ≡ 0 = sym (rw (kept_i64 c.args.quarters c.ranges.quarters.sfits) at c.quadrant_of.ensures) ∙ c.in-0.is in
    rw (kept_narrow c.args.sine c.requires.sine_size, kept_narrow c.args.cosine c.requires.cosine_size, k) (turned_never h)

pub returns-in-1-clause-pair : goal.returns-in-1-clause-pair
returns-in-1-clause-pair c = λ p h.
    let k : quadrant c.args.quarters ≡ 1 = sym (rw (kept_i64 c.args.quarters c.ranges.quarters.sfits) at c.quadrant_of.ensures) ∙ c.in-1.is in
    rw (kept_opposite c.args.sine c.requires.sine_size, kept_narrow c.args.cosine c.requires.cosine_size, k) (turned_once h)

pub returns-in-2-clause-pair : goal.returns-in-2-clause-pair
returns-in-2-clause-pair c = λ p h.
    let k : quadrant c.args.quarters ≡ 2 = sym (rw (kept_i64 c.args.quarters c.ranges.quarters.sfits) at c.quadrant_of.ensures) ∙ c.in-2.is in
    rw (kept_opposite c.args.sine c.requires.sine_size, kept_opposite c.args.cosine c.requires.cosine_size, k) (turned_twice h)

pub returns-in_default-clause-pair : goal.returns-in_default-clause-pair
returns-in_default-clause-pair c = λ p h.
    let k : c.quadrant_of.result ≡ quadrant c.args.quarters = rw (kept_i64 c.args.quarters c.ranges.quarters.sfits) at c.quadrant_of.ensures in
    let rest : 3 ≤ c.quadrant_of.result = search rules in
    rw (kept_narrow c.args.sine c.requires.sine_size, kept_opposite c.args.cosine c.requires.cosine_size) (turned_thrice (quadrant c.args.quarters) (subst (λ n. 3 ≤ n) k rest) h)
