-- An output in memory, as contracts see it, and what a put does to it.
use Rattle.std.specs.Prelude.{◌<◌, ◌⊎◌, ◌+◌, ◌-◌, ◌/◌, min, ℕ, List, ◌++◌, length, take, Contains}
use Rattle.outside_io.specs.Counts.{one_more}

-- what was written, the room for it in bytes, the numbers of the puts that are to fail,
-- the number of the last put, and the count of the faults
pub record Output : Type 0 where
  pub bytes : List ℕ
  pub room : ℕ
  pub failing : List ℕ
  pub calls : ℕ
  pub faults : ℕ

-- a put of this piece fails: its number is listed, or there is too little room for it
abbrev pub PutFails : Output → List ℕ → Type 0
PutFails out piece = Contains out.failing (one_more out.calls) ⊎ (out.room < length out.bytes + length piece)

-- what is kept of the piece of a put that fails: half of its bytes, or as many as there is room for
abbrev pub half : Output → List ℕ → List ℕ
half out piece = take (min (length piece / 2) (out.room - length out.bytes)) piece

-- the output after a put that went through
abbrev pub after_put : Output → List ℕ → Output
after_put out piece = record out { bytes = out.bytes ++ piece; calls = one_more out.calls }

-- the output after a put that failed
abbrev pub after_fault : Output → List ℕ → Output
after_fault out piece = record out { bytes = out.bytes ++ half out piece; calls = one_more out.calls; faults = one_more out.faults }
