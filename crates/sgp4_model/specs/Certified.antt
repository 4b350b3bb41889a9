-- What a list of spans has to say of a track for a row to be certified.
use Rattle.std.specs.Prelude.{◌≡◌, ◌≢◌, ℕ, ◌+◌, ◌<◌, ◌≤◌, List, [], ◌∷◌, length, All, ⊤}
use Rattle.exact.specs.Rational.{ℚ}
use Rattle.sgp4_model.specs.Time.{Throughout, Somewhere}
use Rattle.sgp4_model.specs.Records.{AnswerRecord, spans, unresolved, full, decays}
use Rattle.sgp4_model.specs.declared.span.Mark.{Mark}
use Rattle.sgp4_model.specs.declared.span.Mark.TheVariants.{Yes, No, Undecided}
use Rattle.sgp4_model.specs.declared.span.Span.{Span}

-- a track: how many ticks it has, and at which places yes, no, grazing and sinking hold
pub record TrackRecord : Type 1 where
  pub ticks : ℕ
  pub yes : ℚ → Type 0
  pub no : ℚ → Type 0
  pub grazes : ℚ → Type 0
  pub sinks : ℚ → Type 0

-- the spans lead from one tick to another: each begins where the one before it ends, and is at least a tick long
abbrev pub Leads : ℕ → List Span → ℕ → Type 0
Leads from [] to = from ≡ to
Leads from (first ∷ rest) to = (first.from ≡ from) × (first.from < first.to) × Leads first.to rest to

-- the spans tile 0 to a tick, in order
abbrev pub Tiles : List Span → ℕ → Type 0
Tiles list to = Leads 0 list to

-- the first span, if there is one, has another mark
abbrev pub BeginsOtherThan : Mark → List Span → Type 0
BeginsOtherThan mark [] = ⊤
BeginsOtherThan mark (first ∷ _) = mark ≢ first.mark

-- neighbours differ in mark
abbrev pub NeighboursDiffer : List Span → Type 0
NeighboursDiffer [] = ⊤
NeighboursDiffer (first ∷ rest) = BeginsOtherThan first.mark rest × NeighboursDiffer rest

-- what the mark of a span says holds at every place of the closed span, and an undecided one is no longer than the resolution
pub record IsTrueSpan (track : TrackRecord) (resolution : ℕ) (span : Span) : Type 0 where
  pub yes : span.mark ≡ Yes → Throughout span.from span.to track.yes
  pub no : span.mark ≡ No → Throughout span.from span.to track.no
  pub grazes : span.mark ≡ Undecided → Throughout span.from span.to track.grazes
  pub short : span.mark ≡ Undecided → span.to ≤ span.from + resolution

-- the list is sound up to a tick
pub record IsSoundUpTo (track : TrackRecord) (resolution : ℕ) (list : List Span) (to : ℕ) : Type 0 where
  pub tiles : Tiles list to
  pub differ : NeighboursDiffer list
  pub each : All (IsTrueSpan track resolution) list

-- A list is sound up to a tick, and from there to another the track grazes at every place; they are one tick more than the
-- resolution apart. So nothing before them was skipped.
pub record IsUnresolved (track : TrackRecord) (resolution from to : ℕ) : Type 0 where
  pub list : List Span
  pub sound : IsSoundUpTo track resolution list from
  pub longer : to ≡ from + resolution + 1
  pub inside : to ≤ track.ticks
  pub grazes : Throughout from to track.grazes

-- a list is sound up to a tick before the end, and it and the slots used before it are all the slots there are
pub record IsFull (track : TrackRecord) (resolution slots used at : ℕ) : Type 0 where
  pub list : List Span
  pub sound : IsSoundUpTo track resolution list at
  pub before_the_end : at < track.ticks
  pub no_slot : length list + used ≡ slots

-- a list is sound up to a tick before the end, and in the tick that begins there the track sinks at some place
pub record IsDecaying (track : TrackRecord) (resolution at : ℕ) : Type 0 where
  pub list : List Span
  pub sound : IsSoundUpTo track resolution list at
  pub before_the_end : at < track.ticks
  pub sinks : Somewhere at (at + 1) track.sinks

-- A row is certified: its answer and its list of spans say of the track what they seem to. There are so many slots
-- for spans, of which so many were used before this row.
abbrev pub IsCertified : TrackRecord → ℕ → ℕ → ℕ → AnswerRecord → List Span → Type 0
IsCertified track resolution slots used (spans count) list =
    IsSoundUpTo track resolution list track.ticks × (count ≡ length list)
IsCertified track resolution slots used (unresolved from to) list = IsUnresolved track resolution from to × (list ≡ [])
IsCertified track resolution slots used (full at) list = IsFull track resolution slots used at × (list ≡ [])
IsCertified track resolution slots used (decays at) list = IsDecaying track resolution at × (list ≡ [])
