-- Instants that their decimals write in full, case by case.
use Rattle.std.proofs.Common.{arith, refl}
use Rattle.std.proofs.lemmas.Int.{ints}
use Rattle.rows_time.specs.WholeInstants.{WholeInstants}

pub whole_instants : WholeInstants
whole_instants = record {
  nanoseconds = λ nanos. (nanos, omega (arith, ints));
  ticks = λ ticks. (ticks, refl);
  half_a_tick = λ h. let e = h.1 in absurd (omega (arith, ints, e));
}
