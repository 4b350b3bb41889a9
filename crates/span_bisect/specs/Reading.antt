-- A track while it is read: the pool that it grows in, and why it stops.
use Rattle.std.specs.Prelude.{ℕ, ◌≡◌, ◌+◌, [], Option, None, Some}
use Rattle.sgp4_model.specs.Certified.{TrackRecord, IsDecaying, IsFull, IsSoundUpTo, IsUnresolved}
use Rattle.span_pool.specs.Record.{PoolRecord}
use Rattle.span_pool.specs.Pool.{Holds, list_at, list_of, slots_used, with_list}
use Rattle.span_pool.specs.declared.track.Track.{Track}
use Rattle.span_bisect.specs.Answer.{IsOutOfRoom}
use Rattle.span_bisect.specs.declared.answer.TrackAnswer.{TrackAnswer}
use Rattle.span_bisect.specs.declared.answer.TrackAnswer.TheVariants as answers
use Rattle.span_bisect.specs.declared.bisect.Stop.{Stop}
use Rattle.span_bisect.specs.declared.bisect.Stop.TheVariants.{Unresolved, Full, Decays}

-- the pool is as before, but for the list that begins at the head, if there is one
abbrev pub IsBeside : PoolRecord → PoolRecord → Option ℕ → Type 0
IsBeside old new None = new ≡ old
IsBeside old new (Some at) = (list_at old at ≡ []) × (new ≡ with_list old at (list_at new at))

-- the pool holds this track besides
pub record IsGrown (old new : PoolRecord) (track : Track) : Type 0 where
  pub beside : IsBeside old new track.head
  pub holds : Holds new track
  pub slots : new.slots ≡ old.slots
  pub used : slots_used new ≡ slots_used old + track.count

-- its spans are sound up to the window's end
abbrev pub IsRead : TrackRecord → ℕ → PoolRecord → Track → Type 0
IsRead track resolution pool spans = IsSoundUpTo track resolution (list_of pool spans) track.ticks

-- why it stops
abbrev pub IsStop : TrackRecord → ℕ → PoolRecord → Stop → Type 0
IsStop track resolution pool (Unresolved from to) = IsUnresolved track resolution from to
IsStop track resolution pool (Full at) =
    IsFull track resolution pool.slots (slots_used pool) at × IsOutOfRoom track resolution pool.slots (slots_used pool) at
IsStop track resolution pool (Decays at) = IsDecaying track resolution at

-- the answer says it
abbrev pub said : Stop → TrackAnswer
said (Unresolved from to) = answers.Unresolved from to
said (Full at) = answers.Full at
said (Decays at) = answers.Decays at
