-- The counts of a shelf, and what a load does to them.
use Rattle.std.specs.Prelude.{ℕ, Ok, Err}
use Rattle.std.specs.declared.result.Result.{Result}
use Rattle.outside_io.specs.Counts.{one_more}
use Rattle.outside_io.specs.declared.shelf.LoadFault.{LoadFault}
use Rattle.outside_io.specs.declared.shelf.LoadFault.TheVariants.{Failed, TooLong, OutOfMemory}

-- how many loads failed, and how many met a file that was too long
pub record LoadCounts : Type 0 where
  pub faults : ℕ
  pub overs : ℕ

-- the counts after a load with this answer
abbrev pub counts_after : {A : Type 0} → LoadCounts → Result A LoadFault → LoadCounts
counts_after counts (Ok bytes) = counts
counts_after counts (Err Failed) = record counts { faults = one_more counts.faults }
counts_after counts (Err TooLong) = record counts { overs = one_more counts.overs }
counts_after counts (Err OutOfMemory) = counts
