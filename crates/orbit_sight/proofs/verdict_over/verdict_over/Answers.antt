use Rattle.std.specs.Prelude.{◌≡◌, IfSome, IsSome, Option, None, Some}
use Rattle.std.proofs.Common.{arith, ap, ◌+◌}
use Rattle.std.proofs.lemmas.Bool.Decides.{nat_tests}
use Rattle.earth_frame.proofs.OffsetLemmas.{kept_offset}
use Rattle.fixed_iv.specs.declared.side.Side.{Side}
use Rattle.fixed_iv.specs.declared.side.Side.TheVariants.{Unsure}
use Rattle.orbit_sight.proofs.verdict_over.verdict_over.Goals as goal

unsure_is : (o : Option Side) → IsSome o → IfSome o (λ s. s ≡ Unsure) → o ≡ Some Unsure
unsure_is None h k = cc h
unsure_is (Some s) h k = ap Some k

some_none : {V : Type 0} (o : Option V) → IsSome o → o ≡ None → ⊥
some_none None h e = cc h
some_none (Some v) h e = cc e

pub returns-clause-yes : goal.returns-clause-yes
returns-clause-yes g c is = (rw (kept_offset c.args.dut1_ms c.requires.offset) at c.side_over-side.ensures.yes) (c.verdict_of.ensures.yes is)

pub returns-clause-no : goal.returns-clause-no
returns-clause-no g c is = (rw (kept_offset c.args.dut1_ms c.requires.offset) at c.side_over-side.ensures.no) (c.verdict_of.ensures.no is)

pub returns-clause-unsure : goal.returns-clause-unsure
returns-clause-unsure g c told is least =
    (rw (kept_offset c.args.dut1_ms c.requires.offset) at c.side_over-side.ensures.unsure) told least
    (unsure_is c.side_over-side.result (c.side_over-side.ensures.least told least) (c.verdict_of.ensures.unsure is).0)

pub returns-clause-sinks : goal.returns-clause-sinks
returns-clause-sinks g c told is =
    let flags = c.verdict_of.ensures.sinks is in
    let flag = flags.1 in
    let least : c.args.to ≡ c.args.from + 1 = grind (arith, nat_tests, flag, c.requires.not_empty) in
    absurd (some_none c.side_over-side.result (c.side_over-side.ensures.least told least) flags.0)
