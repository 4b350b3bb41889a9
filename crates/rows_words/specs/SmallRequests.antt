-- What is said of small requests: where the names of their files stand, and the ranges of their numbers.
use Rattle.std.specs.Prelude.{ℕ, List, [], ◌∷◌, codes, pos}
use Rattle.elements.specs.Window.{WindowRecord}
use Rattle.pass_words.specs.Names.{AreNamesIn}
use Rattle.pass_words.specs.Ranges.{IsInRange}
use Rattle.pass_words.specs.declared.request.Request.{Request}
use Rattle.pass_words.specs.declared.request.Request.TheVariants.{Book, Grid, Locate, Plan, Show}

-- a command and another word of two bytes
abbrev pub small_words : List (List ℕ)
small_words = codes "show" ∷ codes "xy" ∷ []

-- the request whose file is named by a part of a word
abbrev pub of_part : ℕ → ℕ → Request
of_part word from = Show (record { word = word; from = from }) (pos 0)

-- the request for a satellite of that file with this number
abbrev pub of_number : ℕ → Request
of_number number = Locate (record { word = 2; from = 0 }) number (pos 0)

-- the request for a satellite of a file that is named by the command
abbrev pub named_by_command : Request
named_by_command = Locate (record { word = 1; from = 0 }) 5 (pos 0)

-- a tick
abbrev pub a_tick : WindowRecord
a_tick = record { start = pos 0; ticks = 1; resolution = 10_000 }

-- the request for a plan with names of files in these words
abbrev pub of_files : ℕ → ℕ → Request
of_files catalogue stations = Plan (record { word = catalogue; from = 0 }) (record { word = stations; from = 1 }) a_tick

-- the request for contacts, with names of files in these words, that are allotted to so many antennas
abbrev pub of_antennas : ℕ → ℕ → ℕ → Request
of_antennas catalogue stations antennas =
    Book (record { word = catalogue; from = 0 }) (record { word = stations; from = 1 }) a_tick antennas

-- a name stands in a word behind the command and is not empty; a number is below 1,000,000,000; a count of satellites is
-- from 1 to 1,000, and one of antennas from 1 to 64
pub record SmallRequests : Type 0 where
  pub whole_word : AreNamesIn small_words (of_part 2 0)
  pub last_byte : AreNamesIn small_words (of_part 2 1)
  pub nothing_left : ¬ (AreNamesIn small_words (of_part 2 2))
  pub in_the_command : ¬ (AreNamesIn small_words (of_part 1 0))
  pub no_such_word : ¬ (AreNamesIn small_words (of_part 3 0))
  pub located : AreNamesIn small_words (of_number 5)
  pub located_in_the_command : ¬ (AreNamesIn small_words named_by_command)
  pub greatest : IsInRange (of_number 999_999_999)
  pub too_great : ¬ (IsInRange (of_number 1_000_000_000))
  pub planned : AreNamesIn small_words (of_files 2 2)
  pub sets_in_the_command : ¬ (AreNamesIn small_words (of_files 1 2))
  pub stations_in_the_command : ¬ (AreNamesIn small_words (of_files 2 1))
  pub counted : AreNamesIn small_words (Grid 1)
  pub least_count : IsInRange (Grid 1)
  pub greatest_count : IsInRange (Grid 1_000)
  pub no_satellite : ¬ (IsInRange (Grid 0))
  pub too_many_satellites : ¬ (IsInRange (Grid 1_001))
  pub booked : AreNamesIn small_words (of_antennas 2 2 1)
  pub booked_in_the_command : ¬ (AreNamesIn small_words (of_antennas 1 2 1))
  pub booked_over_the_command : ¬ (AreNamesIn small_words (of_antennas 2 1 1))
  pub one_antenna : IsInRange (of_antennas 2 2 1)
  pub most_antennas : IsInRange (of_antennas 2 2 64)
  pub no_antenna : ¬ (IsInRange (of_antennas 2 2 0))
  pub too_many_antennas : ¬ (IsInRange (of_antennas 2 2 65))
