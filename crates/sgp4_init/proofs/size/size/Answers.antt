use Rattle.std.proofs.Common.{arith, pos, subst, sym, ◌≤ℤ◌}
use Rattle.std.proofs.lemmas.Int.{ints, to_z-of_z}
use Rattle.fixed_iv.specs.Holds.{Holds}
use Rattle.sgp4_init.proofs.SizeLemmas.{held_above, held_else, size_below, size_within}
use Rattle.sgp4_init.proofs.size.size.Goals as goal

pub returns-then-bounds-gt0 : goal.returns-then-bounds-gt0
returns-then-bounds-gt0 g c = record {
  gives = λ h y r k.
      held_above c.bounds-bounds.ensures g.met.E.Enc.contained (grind (arith, to_z-of_z, c.if-bounds-gt0.true)) k;
}

pub returns-then-bounds-lt0 : goal.returns-then-bounds-lt0
returns-then-bounds-lt0 g c = record {
  gives = λ h y r k.
      let held = subst (λ v. Holds v y) (sym c.bounds-bounds.ensures) (g.met.E.Enc.contained c.args.x h y k.covers) in
      let covers = subst (g.E.Enc.covers c.negate.result h) (size_below (grind (arith, to_z-of_z, c.if-bounds-lt0.true)) held) (c.negate.ensures.covers h y k.covers) in
      held_else c.bounds-bounds.ensures g.met.E.Enc.contained (grind (arith, to_z-of_z, c.if-bounds-gt0.false)) k covers;
}

pub returns-else-bounds-lt0 : goal.returns-else-bounds-lt0
returns-else-bounds-lt0 g c = record {
  gives = λ h y r k.
      let low : c.bounds-bounds.result.lo ≤ℤ pos 0 = omega (arith, ints, c.if-bounds-gt0.false) in
      let held = subst (λ v. Holds v y) (sym c.bounds-bounds.ensures) (g.met.E.Enc.contained c.args.x h y k.covers) in
      let covers = c.constant.ensures.covers h _ (size_within c.neg.ensures c.hull-either.ensures c.from_ratio.ensures c.max_const.ensures held) in
      held_else c.bounds-bounds.ensures g.met.E.Enc.contained low k covers;
}
