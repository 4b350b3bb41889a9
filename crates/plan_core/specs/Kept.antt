-- What a pool keeps while rows are made in it, and what each row adds.
use Rattle.std.specs.Prelude.{◌≡◌, ℕ, List, All, None}
use Rattle.plan_core.specs.State.{SatState}
use Rattle.sgp4_model.specs.Certified.{TrackRecord}
use Rattle.span_bisect.specs.Answer.{IsAnswer, IsHeld, IsPoolAfter}
use Rattle.span_bisect.specs.declared.answer.TrackAnswer.{TrackAnswer}
use Rattle.span_pool.specs.Record.{PoolRecord}
use Rattle.span_pool.specs.Pool.{Holds, IsStill}
use Rattle.span_pool.specs.declared.track.Track.{Track}

-- A row was made: its answer is certified, by the slots of the pool and how many of them were in use before; the pool holds its
-- track besides, or is as before where it has none; and every other track that it held is held still, with the same list.
pub record IsRowMade (track : TrackRecord) (resolution : ℕ) (old new : PoolRecord) (answer : TrackAnswer) : Type 0 where
  pub certified : IsAnswer track resolution old new answer
  pub pool : IsPoolAfter old new answer
  pub others : (other : Track) → Holds old other → IsStill old new other

-- the pool has as many slots, and every track that it held is held still, with the same list
pub record IsKept (old new : PoolRecord) : Type 0 where
  pub slots : new.slots ≡ old.slots
  pub held : (other : Track) → Holds old other → IsStill old new other

-- a pool holds the tracks of a satellite's rows
pub record HoldsRows (pool : PoolRecord) (satellite : SatState) : Type 0 where
  pub lit : satellite.fate ≡ None → IsHeld pool satellite.lit
  pub pairs : satellite.fate ≡ None → All (IsHeld pool) satellite.pairs
