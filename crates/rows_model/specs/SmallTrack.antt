-- A track of seven ticks, and lists of spans that are right or wrong for it.
use Rattle.std.specs.Prelude.{ℕ, List, [], ◌∷◌, ⊤}
use Rattle.sgp4_model.specs.Time.{IsWithin}
use Rattle.sgp4_model.specs.Certified.{TrackRecord}
use Rattle.sgp4_model.specs.declared.span.Mark.TheVariants.{Yes, No, Undecided}
use Rattle.sgp4_model.specs.declared.span.Span.{Span}

-- yes holds up to 3, no from 3 to 5, and it grazes from 5 to 7; it sinks nowhere
abbrev pub small_track : TrackRecord
small_track = record { ticks = 7; yes = IsWithin 0 3; no = IsWithin 3 5; grazes = IsWithin 5 7; sinks = λ _. ⊥ }

-- the same, but that it sinks from 5 to 6
abbrev pub sinking_track : TrackRecord
sinking_track = record { ticks = 7; yes = IsWithin 0 3; no = IsWithin 3 5; grazes = IsWithin 5 7; sinks = IsWithin 5 6 }

-- it sinks everywhere, and nothing else holds
abbrev pub sunken_track : TrackRecord
sunken_track = record { ticks = 7; yes = λ _. ⊥; no = λ _. ⊥; grazes = λ _. ⊥; sinks = λ _. ⊤ }

-- it grazes everywhere, and nothing else holds
abbrev pub hazy_track : TrackRecord
hazy_track = record { ticks = 9; yes = λ _. ⊥; no = λ _. ⊥; grazes = λ _. ⊤; sinks = λ _. ⊥ }

abbrev pub yes_span : ℕ → ℕ → Span
yes_span begin end = record { mark = Yes; from = begin; to = end }

abbrev pub no_span : ℕ → ℕ → Span
no_span begin end = record { mark = No; from = begin; to = end }

abbrev pub undecided_span : ℕ → ℕ → Span
undecided_span begin end = record { mark = Undecided; from = begin; to = end }

-- the list that is right
abbrev pub right_list : List Span
right_list = yes_span 0 3 ∷ no_span 3 5 ∷ undecided_span 5 7 ∷ []

-- a gap from 3 to 4
abbrev pub gapped_list : List Span
gapped_list = yes_span 0 3 ∷ no_span 4 5 ∷ undecided_span 5 7 ∷ []

-- neighbours of one mark
abbrev pub split_list : List Span
split_list = yes_span 0 3 ∷ no_span 3 4 ∷ no_span 4 5 ∷ undecided_span 5 7 ∷ []
