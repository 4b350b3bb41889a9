-- When a count rose, over one call and over several.
use Rattle.std.proofs.Common.{◌≡◌, ◌<◌, ◌≤◌, ◌-◌, ◌^◌, ℕ, arith}
use Rattle.outside_io.specs.Counts.{one_more, Rose}

-- a count that is 0 for ever never rose
pub zero_never_rose : Rose 0 0 → ⊥
zero_never_rose rose = omega (arith, rose)

-- a count below the greatest number that was kept did not rise
pub kept_never_rose : (count now : ℕ) → count < 2 ^ 64 - 1 → now ≡ count → Rose count now → ⊥
kept_never_rose count now below kept rose = omega (arith, below, kept, rose)

-- a counter that was raised rose
pub one_more_rose : (count : ℕ) → Rose count (one_more count)
one_more_rose count = omega arith

-- a count that rose in the last of some calls rose in all of them
pub rose_last : (before mid now : ℕ) → before ≤ mid → Rose mid now → Rose before now
rose_last before mid now later rose = omega (arith, later, rose)

-- a count that rose in the first of some calls rose in all of them
pub rose_first : (before mid now : ℕ) → Rose before mid → mid ≤ now → Rose before now
rose_first before mid now rose later = omega (arith, rose, later)
