use Rattle.std.proofs.Common.{◌≡◌, arith, to_z, of_z}
use Rattle.std.proofs.lemmas.Int.{ints}
use mir.Syntax.{w128}
use Rattle.exact.specs.Rational.{ratio}
use Rattle.fixed_iv.specs.Corners.{IsCutHigh, IsCutLow}
use Rattle.fixed_iv.specs.Rounding.{IsCeiling, IsFloor}
use Rattle.fixed_iv.proofs.AboutLemmas.{about_ordered, high_about, low_about, safe_cast, safe_ceiling, safe_floor, safe_high, safe_kept, safe_low, safe_order, kept_safe_high, kept_safe_low}
use Rattle.fixed_iv.proofs.RoundingLemmas.{kept}
use Rattle.fixed_iv.proofs.product.units_about.Goals as goal

pub overflow_cast-result : goal.overflow_cast-result
overflow_cast-result c =
    let f : IsFloor (ratio c.args.least 281474976710656) c.floor_units-low.result = rw (kept _ c.ranges.least.sfits) at c.floor_units-low.ensures in
    let s = safe_floor f (record { least = omega (arith, ints, c.if-least.true); most = omega (arith, ints, c.if-most-lt-SAFE.true, c.requires.ordered) }) in
    rw (kept _ c.floor_units-low.type_inv) (safe_cast s)

pub overflow_cast-result-then-most-lt-SAFE : goal.overflow_cast-result-then-most-lt-SAFE
overflow_cast-result-then-most-lt-SAFE c =
    let g : IsCeiling (ratio c.args.most 281474976710656) c.ceiling_units-high.result = rw (kept _ c.ranges.most.sfits) at c.ceiling_units-high.ensures in
    let t = safe_ceiling g (record { least = omega (arith, ints, c.if-least.true, c.requires.ordered); most = omega (arith, ints, c.if-most-lt-SAFE.true) }) in
    rw (kept _ c.ceiling_units-high.type_inv) (safe_cast t)

pub invariant_of-result : goal.invariant_of-result
invariant_of-result c =
    let f : IsFloor (ratio c.args.least 281474976710656) c.floor_units-low.result = rw (kept _ c.ranges.least.sfits) at c.floor_units-low.ensures in
    let s = safe_floor f (record { least = omega (arith, ints, c.if-least.true); most = omega (arith, ints, c.if-most-lt-SAFE.true, c.requires.ordered) }) in
    let g : IsCeiling (ratio c.args.most 281474976710656) c.ceiling_units-high.result = rw (kept _ c.ranges.most.sfits) at c.ceiling_units-high.ensures in
    let t = safe_ceiling g (record { least = omega (arith, ints, c.if-least.true, c.requires.ordered); most = omega (arith, ints, c.if-most-lt-SAFE.true) }) in
    let low = to_z w128 (of_z w128 c.floor_units-low.result) in
    let high = to_z w128 (of_z w128 c.ceiling_units-high.result) in
    let l : low ≡ c.floor_units-low.result = kept _ c.floor_units-low.type_inv in
    let h : high ≡ c.ceiling_units-high.result = kept _ c.ceiling_units-high.type_inv in
    record {
      ordered = safe_order low high l h s t (about_ordered c.requires.ordered f g);
      low_end = kept_safe_low low l s;
      high_end = kept_safe_high high h t;
    }

pub returns-then-most-lt-SAFE-clause-low : goal.returns-then-most-lt-SAFE-clause-low
returns-then-most-lt-SAFE-clause-low c _ h =
    let f : IsFloor (ratio c.args.least 281474976710656) c.floor_units-low.result = rw (kept _ c.ranges.least.sfits) at c.floor_units-low.ensures in
    let s = safe_floor f (record { least = omega (arith, ints, c.if-least.true); most = omega (arith, ints, c.if-most-lt-SAFE.true, c.requires.ordered) }) in
    rw (kept _ c.floor_units-low.type_inv, safe_kept s) (low_about f (safe_low s) h)

pub returns-then-most-lt-SAFE-clause-high : goal.returns-then-most-lt-SAFE-clause-high
returns-then-most-lt-SAFE-clause-high c _ h =
    let g : IsCeiling (ratio c.args.most 281474976710656) c.ceiling_units-high.result = rw (kept _ c.ranges.most.sfits) at c.ceiling_units-high.ensures in
    let t = safe_ceiling g (record { least = omega (arith, ints, c.if-least.true, c.requires.ordered); most = omega (arith, ints, c.if-most-lt-SAFE.true) }) in
    rw (kept _ c.ceiling_units-high.type_inv, safe_kept t) (high_about g (safe_high t) h)

pub cut-requires : goal.cut-requires
cut-requires c =
    let f : IsFloor (ratio c.args.least 281474976710656) c.floor_units-low.result = rw (kept _ c.ranges.least.sfits) at c.floor_units-low.ensures in
    let g : IsCeiling (ratio c.args.most 281474976710656) c.ceiling_units-high.result = rw (kept _ c.ranges.most.sfits) at c.ceiling_units-high.ensures in
    rw (kept _ c.floor_units-low.type_inv, kept _ c.ceiling_units-high.type_inv) (about_ordered c.requires.ordered f g)

pub returns-clause-low : goal.returns-clause-low
returns-clause-low c _ h =
    let f : IsFloor (ratio c.args.least 281474976710656) c.floor_units-low.result = rw (kept _ c.ranges.least.sfits) at c.floor_units-low.ensures in
    let cut : IsCutLow c.floor_units-low.result c.cut.result.lo = rw (kept _ c.floor_units-low.type_inv) at c.cut.ensures.low in
    low_about f cut h

pub returns-clause-high : goal.returns-clause-high
returns-clause-high c _ h =
    let g : IsCeiling (ratio c.args.most 281474976710656) c.ceiling_units-high.result = rw (kept _ c.ranges.most.sfits) at c.ceiling_units-high.ensures in
    let cut : IsCutHigh c.ceiling_units-high.result c.cut.result.hi = rw (kept _ c.ceiling_units-high.type_inv) at c.cut.ensures.high in
    high_about g cut h
