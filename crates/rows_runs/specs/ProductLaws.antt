-- What a product says where the words and the bytes of the file are known.
use Rattle.std.specs.Prelude.{◌≡◌, ℕ, ℤ, pos, List, Ok, Some, ⊤}
use Rattle.std.specs.declared.option.Option.{Option}
use Rattle.book_command.specs.Bookings.{AreBooked}
use Rattle.book_command.specs.State.{BookState}
use Rattle.catalogue.specs.Choice.{chosen}
use Rattle.catalogue.specs.declared.entry.Entry.{Entry}
use Rattle.decimals.specs.Decimal.{DecimalRecord, value}
use Rattle.elements.specs.Window.{WindowRecord}
use Rattle.grid_command.specs.Counted.{CountedRecord}
use Rattle.grid_command.specs.Generated.{satellites, setting}
use Rattle.pass_words.specs.Words.{words_value}
use Rattle.pass_words.specs.declared.part.Part.{Part}
use Rattle.pass_words.specs.declared.request.Request.{Request}
use Rattle.pass_words.specs.declared.request.Request.TheVariants as requests
use Rattle.sat_locate.specs.Found.{IsAnswerFor, locate_record}
use Rattle.sat_locate.specs.declared.found.LocAnswer.{LocAnswer}
use Rattle.pass_words.specs.Placed.{text_at}
use Rattle.plan_core.specs.Certificate.{IsPlanOf}
use Rattle.plan_core.specs.State.{PlanState, plan_record}
use Rattle.plan_text.specs.Summary.{summary_of}
use Rattle.sgp4_model.specs.Certified.{IsCertified}
use Rattle.sgp4_model.specs.DaySolution.{day_track}
use Rattle.day_command.specs.Day.{DayRecord}
use Rattle.station_file.specs.Rows.{StationsRecord}
use Rattle.station_file.specs.StationFile.{station_value}
use Rattle.top_call.specs.Request.{IsProductOf}
use Rattle.top_call.specs.declared.outcome.Product.{Product}
use Rattle.top_call.specs.declared.outcome.Product.TheVariants.{Day, Plan, Shown, Located, Counted, Booked}

-- the product is of the command that the request is of
abbrev pub IsOfCommand : Request → Product → Type 0
IsOfCommand (requests.Day lat lon window) (Day day) = ⊤
IsOfCommand (requests.Plan catalogue stations window) (Plan plan) = ⊤
IsOfCommand (requests.Show catalogue start) (Shown entries) = ⊤
IsOfCommand (requests.Locate catalogue number at) (Located answer) = ⊤
IsOfCommand (requests.Grid count) (Counted counted) = ⊤
IsOfCommand (requests.Book catalogue stations window antennas) (Booked book) = ⊤
IsOfCommand request product = ⊥

-- a product is of the command that the words give
abbrev pub ProductsAreOfTheirCommand : Type 0
ProductsAreOfTheirCommand =
    (held : List ℕ → Option (List ℕ)) (words : List (List ℕ)) (request : Request) (product : Product) →
    words_value words ≡ Ok request → IsProductOf held words product → IsOfCommand request product

-- daylight has the window of the words, and is certified for their place
abbrev pub DaylightIsCertified : Type 0
DaylightIsCertified =
    (held : List ℕ → Option (List ℕ)) (words : List (List ℕ)) (lat lon : DecimalRecord) (window : WindowRecord) (day : DayRecord) →
    words_value words ≡ Ok (requests.Day lat lon window) → IsProductOf held words (Day day) →
    (day.window ≡ window) ×
    IsCertified (day_track (value lat) (value lon) window.start (pos 0) window.ticks) window.resolution 1_048_576 0 day.answer day.list

-- a plan is of the chosen satellites of the one file's bytes, for the start of the window, of the stations of the other file's
-- bytes, and of the window of the words
pub record IsPlannedBy (satellites stations : List ℕ) (window : WindowRecord) (plan : PlanState) : Type 0 where
  pub entries : List Entry
  pub places : StationsRecord
  pub chosen_are : chosen satellites window.start ≡ Ok entries
  pub stations_are : station_value stations ≡ Ok places
  pub certified : IsPlanOf 1_048_576 entries (record { stations = places; window = window }) (plan_record plan)

abbrev pub PlansAreCertified : Type 0
PlansAreCertified =
    (bytes : List ℕ → List ℕ) (words : List (List ℕ)) (catalogue stations : Part) (window : WindowRecord) (plan : PlanState) →
    words_value words ≡ Ok (requests.Plan catalogue stations window) → IsProductOf (λ name. Some (bytes name)) words (Plan plan) →
    IsPlannedBy (bytes (text_at words catalogue)) (bytes (text_at words stations)) window plan

-- shown satellites are the chosen ones of the file's bytes, for the start of the words
abbrev pub ShownSatellitesAreChosen : Type 0
ShownSatellitesAreChosen =
    (bytes : List ℕ) (words : List (List ℕ)) (catalogue : Part) (start : ℤ) (entries : List Entry) →
    words_value words ≡ Ok (requests.Show catalogue start) → IsProductOf (λ _. Some bytes) words (Shown entries) →
    chosen bytes start ≡ Ok entries

-- what is located is the answer for the number and the instant of the words, of the chosen satellites of the file's bytes
abbrev pub LocatedSatellitesAreAnswers : Type 0
LocatedSatellitesAreAnswers =
    (bytes : List ℕ) (words : List (List ℕ)) (catalogue : Part) (number : ℕ) (at : ℤ) (answer : LocAnswer) →
    words_value words ≡ Ok (requests.Locate catalogue number at) → IsProductOf (λ _. Some bytes) words (Located answer) →
    (entries : List Entry) × (chosen bytes at ≡ Ok entries) × IsAnswerFor entries number at (locate_record answer)

-- counts are those of a certified plan of as many generated satellites as the words say
abbrev pub GridsAreCounted : Type 0
GridsAreCounted =
    (held : List ℕ → Option (List ℕ)) (words : List (List ℕ)) (count : ℕ) (counted : CountedRecord) →
    words_value words ≡ Ok (requests.Grid count) → IsProductOf held words (Counted counted) →
    IsPlanOf 1_048_576 (satellites count) setting (plan_record counted.plan) ×
    (counted.summary ≡ summary_of (plan_record counted.plan) counted.plan.cells)

-- bookings are of a certified plan of both files' bytes, with as many antennas as the words say
abbrev pub BookingsAreCertified : Type 0
BookingsAreCertified =
    (bytes : List ℕ → List ℕ) (words : List (List ℕ)) (catalogue stations : Part) (window : WindowRecord) (antennas : ℕ) (book : BookState) →
    words_value words ≡ Ok (requests.Book catalogue stations window antennas) → IsProductOf (λ name. Some (bytes name)) words (Booked book) →
    IsPlannedBy (bytes (text_at words catalogue)) (bytes (text_at words stations)) window book.plan ×
    AreBooked (plan_record book.plan) antennas book.bookings
