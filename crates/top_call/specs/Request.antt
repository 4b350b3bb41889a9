-- What a request asks for, and what the words ask for.
use Rattle.std.specs.Prelude.{◌≡◌, ℕ, List, Option, Result, Ok, Err}
use Rattle.book_command.specs.BookedAt.{IsBookedAt}
use Rattle.day_command.specs.Day.{IsDayAt}
use Rattle.grid_command.specs.Counted.{IsCountedAt}
use Rattle.locate_command.specs.Located.{IsLocatedAt}
use Rattle.pass_words.specs.Placed.{text_at}
use Rattle.pass_words.specs.Words.{words_value}
use Rattle.pass_words.specs.declared.fault.WordFault.{WordFault}
use Rattle.pass_words.specs.declared.request.Request.{Request}
use Rattle.pass_words.specs.declared.request.Request.TheVariants as requests
use Rattle.plan_command.specs.Planned.{IsPlannedAt}
use Rattle.plan_core.specs.State.{plan_record}
use Rattle.run_ends.specs.Files.{Files, catalogue_alone, catalogue_and_stations, no_file}
use Rattle.run_ends.specs.Runs.{Command}
use Rattle.show_command.specs.Shown.{IsShownAt}
use Rattle.top_call.specs.Outcome.{layout}
use Rattle.top_call.specs.declared.outcome.Product.{Product}
use Rattle.top_call.specs.declared.outcome.Product.TheVariants.{Day, Plan, Shown, Located, Counted, Booked}

-- the files that a request names, in the order in which they are read
abbrev pub files_of : List (List ℕ) → Request → Files
files_of words (requests.Day lat lon window) = no_file
files_of words (requests.Plan catalogue stations window) = catalogue_and_stations (text_at words catalogue) window.start (text_at words stations)
files_of words (requests.Show catalogue start) = catalogue_alone (text_at words catalogue) start
files_of words (requests.Locate catalogue number at) = catalogue_alone (text_at words catalogue) at
files_of words (requests.Grid count) = no_file
files_of words (requests.Book catalogue stations window antennas) = catalogue_and_stations (text_at words catalogue) window.start (text_at words stations)

-- the product is the one that a request asks for, and is certified, by the held bytes where these are told
abbrev pub IsOfRequest : (List ℕ → Option (List ℕ)) → List (List ℕ) → Request → Product → Type 0
IsOfRequest held words (requests.Day lat lon window) (Day day) = IsDayAt lat lon window day
IsOfRequest held words (requests.Plan catalogue stations window) (Plan plan) = IsPlannedAt (held (text_at words catalogue)) (held (text_at words stations)) window (plan_record plan)
IsOfRequest held words (requests.Show catalogue start) (Shown sets) = IsShownAt (held (text_at words catalogue)) start sets
IsOfRequest held words (requests.Locate catalogue number at) (Located answer) = IsLocatedAt (held (text_at words catalogue)) number at answer
IsOfRequest held words (requests.Grid count) (Counted counted) = IsCountedAt count counted
IsOfRequest held words (requests.Book catalogue stations window antennas) (Booked book) = IsBookedAt (held (text_at words catalogue)) (held (text_at words stations)) window antennas book
IsOfRequest held words request product = ⊥

-- the command of a request
abbrev pub command_of : List (List ℕ) → Request → Command Product
command_of words request = record {
  files = files_of words request;
  is_product = λ held product. IsOfRequest held words request product;
  layout = layout;
}

-- the files that words name: those of their request, where they make one
abbrev pub files_by : List (List ℕ) → Result Request WordFault → Files
files_by words (Ok request) = files_of words request
files_by words (Err fault) = no_file

abbrev pub files_in : List (List ℕ) → Files
files_in words = files_by words (words_value words)

-- the product is that of the words: they make a request, and it is the one that this asks for
pub record IsProductOf (held : List ℕ → Option (List ℕ)) (words : List (List ℕ)) (product : Product) : Type 0 where
  pub request : Request
  pub of_words : words_value words ≡ Ok request
  pub asked : IsOfRequest held words request product
