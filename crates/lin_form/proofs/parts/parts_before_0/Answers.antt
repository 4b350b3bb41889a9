use Rattle.std.proofs.Common.{◌≡◌, arith, refl, ◌-ℤ◌, ◌*◌, ◌-◌, ◌/◌, unsigned_abs}
use Rattle.std.proofs.lemmas.Int.{to_z-of_z}
use mir.Syntax.{w64}
use Rattle.lin_form.proofs.PartLemmas.{height_some, stays_above}
use Rattle.lin_form.proofs.parts.parts_before_0.Goals as goal

pub returns-then-count-from-clause-above : goal.returns-then-count-from-clause-above
returns-then-count-from-clause-above c some =
    let height = rw (to_z-of_z w64 c.args.middle c.ranges.middle, to_z-of_z w64 c.args.slope c.ranges.slope) at c.abs_diff.ensures in
    let fall = rw (to_z-of_z w64 c.args.slope c.ranges.slope) at c.unsigned_abs.ensures.value in
    let count = (c.from.result * c.from-2.result - 1) / (2 * c.from-fall.result) in
    let is : count ≡ (unsigned_abs (c.args.middle -ℤ c.args.slope) * c.args.parts - 1) / (2 * unsigned_abs c.args.slope) =
    rw (c.from.ensures, height, c.from-2.ensures, c.from-fall.ensures, fall) refl in
    stays_above c.args.middle c.args.slope c.args.parts count count c.requires.falls c.requires.begins (height_some c.args.middle c.args.slope c.args.parts c.requires.begins (grind (arith, c.if-parts-eq0.false)))
    is (omega arith)

pub returns-else-count-from-clause-above : goal.returns-else-count-from-clause-above
returns-else-count-from-clause-above c some =
    let height = rw (to_z-of_z w64 c.args.middle c.ranges.middle, to_z-of_z w64 c.args.slope c.ranges.slope) at c.abs_diff.ensures in
    let fall = rw (to_z-of_z w64 c.args.slope c.ranges.slope) at c.unsigned_abs.ensures.value in
    let count = (c.from.result * c.from-2.result - 1) / (2 * c.from-fall.result) in
    let is : count ≡ (unsigned_abs (c.args.middle -ℤ c.args.slope) * c.args.parts - 1) / (2 * unsigned_abs c.args.slope) =
    rw (c.from.ensures, height, c.from-2.ensures, c.from-fall.ensures, fall) refl in
    stays_above c.args.middle c.args.slope c.args.parts c.args.parts count c.requires.falls c.requires.begins (height_some c.args.middle c.args.slope c.args.parts c.requires.begins some)
    is (rw c.from-3.ensures at c.if-count-from.false)
