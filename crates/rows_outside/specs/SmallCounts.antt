-- Which small and great counts rose.
use Rattle.std.specs.Prelude.{◌-◌, ◌^◌}
use Rattle.outside_io.specs.Counts.{Rose}

-- a count rose by one or more; the greatest number of 64 bits stands for one that did
pub record SmallCounts : Type 0 where
  pub by_one : Rose 2 3
  pub by_five : Rose 0 5
  pub kept : ¬ (Rose 2 2)
  pub none : ¬ (Rose 0 0)
  pub fell : ¬ (Rose 3 2)
  pub to_the_greatest : Rose (2 ^ 64 - 2) (2 ^ 64 - 1)
  pub at_the_greatest : Rose (2 ^ 64 - 1) (2 ^ 64 - 1)
  pub below_the_greatest : ¬ (Rose (2 ^ 64 - 2) (2 ^ 64 - 2))
