-- What the definitions see of a judge and of the answer for a track.
use Rattle.std.specs.Prelude.{ℕ, ◌≡◌, ◌+◌, ◌≤◌, List, [], ◌∷◌, ◌++◌, length, Some, ⊤}
use Rattle.sgp4_model.specs.Records.{AnswerRecord, spans, unresolved, full, decays}
use Rattle.sgp4_model.specs.Certified.{TrackRecord, IsSoundUpTo, IsCertified}
use Rattle.sgp4_model.specs.declared.span.Span.{Span}
use Rattle.span_pool.specs.Record.{PoolRecord}
use Rattle.span_pool.specs.Pool.{Holds, list_at, list_of, slots_used, with_list}
use Rattle.span_pool.specs.declared.track.Track.{Track}
use Rattle.span_bisect.specs.declared.judge.Judge.{Ghosts}
use Rattle.span_bisect.specs.declared.answer.TrackAnswer.{TrackAnswer}
use Rattle.span_bisect.specs.declared.answer.TrackAnswer.TheVariants.{Spans, Unresolved, Full, Decays}

-- the track of a judge: its number of ticks, and what its meanings say of each place
abbrev pub track_of : {J : Type 0} → Ghosts J → J → TrackRecord
track_of meanings judge = record {
  ticks = meanings.tick_count judge;
  yes = meanings.yes_at judge;
  no = meanings.no_at judge;
  grazes = meanings.grazes_at judge;
  sinks = meanings.sinks_at judge;
}

-- the plain record of an answer, which has the count of its spans alone
abbrev pub answer_record : TrackAnswer → AnswerRecord
answer_record (Spans track) = spans track.count
answer_record (Unresolved from to) = unresolved from to
answer_record (Full at) = full at
answer_record (Decays at) = decays at

-- the spans of an answer, in the pool that holds its track
abbrev pub answer_spans : PoolRecord → TrackAnswer → List Span
answer_spans pool (Spans track) = list_of pool track
answer_spans pool (Unresolved _ _) = []
answer_spans pool (Full _) = []
answer_spans pool (Decays _) = []

-- the pool holds the track of an answer, if it has one
abbrev pub IsHeld : PoolRecord → TrackAnswer → Type 0
IsHeld pool (Spans track) = Holds pool track
IsHeld pool (Unresolved _ _) = ⊤
IsHeld pool (Full _) = ⊤
IsHeld pool (Decays _) = ⊤

-- the answer is certified, by the slots of the pool and how many of them were in use before
abbrev pub IsAnswer : TrackRecord → ℕ → PoolRecord → PoolRecord → TrackAnswer → Type 0
IsAnswer track resolution old new answer =
    IsCertified track resolution old.slots (slots_used old) (answer_record answer) (answer_spans new answer)

-- the pool holds this track besides, and every other list is as before
pub record IsOneMore (old new : PoolRecord) (track : Track) : Type 0 where
  pub at : ℕ
  pub head : track.head ≡ Some at
  pub none : list_at old at ≡ []
  pub others : new ≡ with_list old at (list_at new at)
  pub holds : Holds new track
  pub used : slots_used new ≡ slots_used old + track.count

-- the track of spans is the one more; where there are none the pool is as before
abbrev pub IsPoolAfter : PoolRecord → PoolRecord → TrackAnswer → Type 0
IsPoolAfter old new (Spans track) = IsOneMore old new track
IsPoolAfter old new (Unresolved _ _) = new ≡ old
IsPoolAfter old new (Full _) = new ≡ old
IsPoolAfter old new (Decays _) = new ≡ old

-- at a tick begins the last span of a sound list that has one span more than there were slots for
pub record IsOutOfRoom (track : TrackRecord) (resolution slots used at : ℕ) : Type 0 where
  pub list : List Span
  pub last : Span
  pub sound : IsSoundUpTo track resolution (list ++ last ∷ []) last.to
  pub inside : last.to ≤ track.ticks
  pub begins : last.from ≡ at
  pub no_room : length list + used ≡ slots

-- an answer that is full names the span that found no slot
abbrev pub HasItsCause : TrackRecord → ℕ → PoolRecord → TrackAnswer → Type 0
HasItsCause track resolution pool (Spans _) = ⊤
HasItsCause track resolution pool (Unresolved _ _) = ⊤
HasItsCause track resolution pool (Full at) = IsOutOfRoom track resolution pool.slots (slots_used pool) at
HasItsCause track resolution pool (Decays _) = ⊤
