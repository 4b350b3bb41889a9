use Rattle.std.proofs.Common.{arith}
use Rattle.std.proofs.lemmas.Int.{ints}
use Rattle.fixed_iv.proofs.EndLemmas.{kept_low_end, kept_high_end}
use Rattle.root_enc.specs.Ends.{IsLowCubeRoot, IsHighCubeRoot}
use Rattle.root_enc.proofs.CubeLemmas.{cube_ends_ordered, hold_cube_roots, near_cube_roots}
use Rattle.root_enc.proofs.WholeLemmas.{kept, kept_low, kept_high}
use Rattle.root_enc.proofs.cube.cbrt2.Goals as goal

pub invariant_of-result-2-clause-ordered : goal.invariant_of-result-2-clause-ordered
invariant_of-result-2-clause-ordered c =
    let low : IsLowCubeRoot c.args.x.lo c.low_root.result = rw (kept_low c.args.x) at c.low_root.ensures.root in
    let high : IsHighCubeRoot c.args.x.hi c.high_root.result = rw (kept_high c.args.x) at c.high_root.ensures in
    rw (kept c.low_root.result c.low_root.type_inv, kept c.high_root.result c.high_root.type_inv)
    (cube_ends_ordered c.args.x.lo c.args.x.hi _ _ c.args.x.ordered low c.low_root.ensures.size high)

pub invariant_of-result-2-clause-low_end : goal.invariant_of-result-2-clause-low_end
invariant_of-result-2-clause-low_end c = kept_low_end c.low_root.result (record { least = omega (arith, ints, c.low_root.ensures.root.sign); most = omega (arith, ints, c.low_root.ensures.size) })

pub invariant_of-result-2-clause-high_end : goal.invariant_of-result-2-clause-high_end
invariant_of-result-2-clause-high_end c = kept_high_end c.high_root.result (record { least = omega (arith, ints, c.high_root.ensures.sign); most = omega (arith, ints) })

pub returns-clause-holds : goal.returns-clause-holds
returns-clause-holds c =
    let low : IsLowCubeRoot c.args.x.lo c.low_root.result = rw (kept_low c.args.x) at c.low_root.ensures.root in
    let high : IsHighCubeRoot c.args.x.hi c.high_root.result = rw (kept_high c.args.x) at c.high_root.ensures in
    hold_cube_roots c.args.x _ (rw (kept c.low_root.result c.low_root.type_inv) low) (rw (kept c.high_root.result c.high_root.type_inv) high)

pub returns-clause-near : goal.returns-clause-near
returns-clause-near c =
    let low : IsLowCubeRoot c.args.x.lo c.low_root.result = rw (kept_low c.args.x) at c.low_root.ensures.root in
    let high : IsHighCubeRoot c.args.x.hi c.high_root.result = rw (kept_high c.args.x) at c.high_root.ensures in
    near_cube_roots c.args.x _ (rw (kept c.low_root.result c.low_root.type_inv) low) (rw (kept c.high_root.result c.high_root.type_inv) high)
