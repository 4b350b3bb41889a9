-- What holds of the numbers that ends stand for.
use Rattle.std.proofs.Common.{◌≡◌, ℤ, ◌≤ℤ◌, ◌<ℤ◌}
use Rattle.exact.specs.Interval.{number_of}
use Rattle.fixed_iv.specs.Ends.{no_high, no_low}
use Rattle.fixed_iv.specs.Holds.{Holds}
use Rattle.fixed_iv.specs.Reach.{in_fraction}
use Rattle.fixed_iv.specs.declared.iv.Iv.{Iv}
use Rattle.fixed_iv.proofs.EndLemmas.{at as end_at}
use Rattle.fixed_iv.proofs.HoldsLemmas.{holds_at as holds_end_at, holds_high as holds_high_end, holds_low as holds_low_end}
use Rattle.fixed_iv.proofs.OuterLemmas.{fraction_is_at as fraction_is_end_at}
use Rattle.kepler_enc.specs.Point.{at}

pub holds_at : (v : Iv) (units : ℤ) → (no_low <ℤ v.lo → v.lo ≤ℤ units) → (v.hi <ℤ no_high → units ≤ℤ v.hi) → Holds v (at units)
unfolding at end_at
holds_at v units low high = holds_end_at v units low high

pub holds_low : (v : Iv) → Holds v (at v.lo)
unfolding at end_at
holds_low v = holds_low_end v

pub holds_high : (v : Iv) → Holds v (at v.hi)
unfolding at end_at
holds_high v = holds_high_end v

pub fraction_is_at : (z : ℤ) → number_of (in_fraction z) ≡ at z
unfolding at end_at
fraction_is_at z = fraction_is_end_at z
