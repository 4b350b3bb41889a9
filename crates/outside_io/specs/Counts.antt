-- Counters of 64 bits that stay at their greatest value: the next value, and when a count rose or was kept.
use Rattle.std.specs.Prelude.{◌≡◌, ◌≤◌, ◌+◌, ◌-◌, ◌^◌, min, ℕ}

-- one more than this count, or the greatest number of 64 bits where there is no more
abbrev pub one_more : ℕ → ℕ
one_more count = min (count + 1) (2 ^ 64 - 1)

-- the count rose, or stands at the greatest number of 64 bits
abbrev pub Rose : ℕ → ℕ → Type 0
Rose before now = min (before + 1) (2 ^ 64 - 1) ≤ now

-- a count rose, and the other one is as it was
pub record RoseAlone (before now other other_now : ℕ) : Type 0 where
  pub rose : Rose before now
  pub other_kept : other_now ≡ other

-- both counts, of loads that failed and of files that were too long, are as they were
pub record IsKept (faults faults_after overs overs_after : ℕ) : Type 0 where
  pub no_fault : faults_after ≡ faults
  pub no_over : overs_after ≡ overs
