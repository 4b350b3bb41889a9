-- Products, by the words that they are of.
use Rattle.std.proofs.Common.{◌≡◌, subst, List, ℕ, Ok}
use Rattle.std.specs.Prelude.{Option, Some}
use Rattle.catalogue.specs.Choice.{chosen}
use Rattle.elements.specs.Window.{WindowRecord}
use Rattle.pass_words.specs.Words.{words_value}
use Rattle.pass_words.specs.declared.request.Request.{Request}
use Rattle.pass_words.specs.declared.request.Request.TheVariants as requests
use Rattle.plan_command.specs.Planned.{IsPlannedAt}
use Rattle.plan_core.specs.State.{PlanState, plan_record}
use Rattle.top_call.specs.Request.{IsOfRequest, IsProductOf}
use Rattle.top_call.specs.declared.outcome.Product.{Product}
use Rattle.top_call.specs.declared.outcome.Product.TheVariants.{Day, Plan, Shown, Located, Counted, Booked}
use Rattle.station_file.specs.StationFile.{station_value}
use Rattle.rows_runs.specs.ProductLaws.{BookingsAreCertified, DaylightIsCertified, GridsAreCounted, IsPlannedBy, LocatedSatellitesAreAnswers, PlansAreCertified, ProductsAreOfTheirCommand, ShownSatellitesAreChosen}

-- words make one request
one_request : (words : List (List ℕ)) (request other : Request) → words_value words ≡ Ok request → words_value words ≡ Ok other → request ≡ other
one_request words request other e f = cc

asked_of : (held : List ℕ → Option (List ℕ)) (words : List (List ℕ)) (request : Request) (product : Product) → words_value words ≡ Ok request →
    IsProductOf held words product → IsOfRequest held words request product
asked_of held words request product e h =
    subst (λ r. IsOfRequest held words r product) (one_request words h.request request h.of_words e) h.asked

pub products_are_of_their_command : ProductsAreOfTheirCommand
products_are_of_their_command held words (requests.Day lat lon window) (Day day) e h = tt
products_are_of_their_command held words (requests.Day lat lon window) (Plan plan) e h = asked_of held words _ _ e h
products_are_of_their_command held words (requests.Day lat lon window) (Shown entries) e h = asked_of held words _ _ e h
products_are_of_their_command held words (requests.Day lat lon window) (Located answer) e h = asked_of held words _ _ e h
products_are_of_their_command held words (requests.Day lat lon window) (Counted counted) e h = asked_of held words _ _ e h
products_are_of_their_command held words (requests.Day lat lon window) (Booked book) e h = asked_of held words _ _ e h
products_are_of_their_command held words (requests.Plan catalogue stations window) (Day day) e h = asked_of held words _ _ e h
products_are_of_their_command held words (requests.Plan catalogue stations window) (Plan plan) e h = tt
products_are_of_their_command held words (requests.Plan catalogue stations window) (Shown entries) e h = asked_of held words _ _ e h
products_are_of_their_command held words (requests.Plan catalogue stations window) (Located answer) e h = asked_of held words _ _ e h
products_are_of_their_command held words (requests.Plan catalogue stations window) (Counted counted) e h = asked_of held words _ _ e h
products_are_of_their_command held words (requests.Plan catalogue stations window) (Booked book) e h = asked_of held words _ _ e h
products_are_of_their_command held words (requests.Show catalogue start) (Day day) e h = asked_of held words _ _ e h
products_are_of_their_command held words (requests.Show catalogue start) (Plan plan) e h = asked_of held words _ _ e h
products_are_of_their_command held words (requests.Show catalogue start) (Shown entries) e h = tt
products_are_of_their_command held words (requests.Show catalogue start) (Located answer) e h = asked_of held words _ _ e h
products_are_of_their_command held words (requests.Show catalogue start) (Counted counted) e h = asked_of held words _ _ e h
products_are_of_their_command held words (requests.Show catalogue start) (Booked book) e h = asked_of held words _ _ e h
products_are_of_their_command held words (requests.Locate catalogue number at) (Day day) e h = asked_of held words _ _ e h
products_are_of_their_command held words (requests.Locate catalogue number at) (Plan plan) e h = asked_of held words _ _ e h
products_are_of_their_command held words (requests.Locate catalogue number at) (Shown entries) e h = asked_of held words _ _ e h
products_are_of_their_command held words (requests.Locate catalogue number at) (Located answer) e h = tt
products_are_of_their_command held words (requests.Locate catalogue number at) (Counted counted) e h = asked_of held words _ _ e h
products_are_of_their_command held words (requests.Locate catalogue number at) (Booked book) e h = asked_of held words _ _ e h
products_are_of_their_command held words (requests.Grid count) (Day day) e h = asked_of held words _ _ e h
products_are_of_their_command held words (requests.Grid count) (Plan plan) e h = asked_of held words _ _ e h
products_are_of_their_command held words (requests.Grid count) (Shown entries) e h = asked_of held words _ _ e h
products_are_of_their_command held words (requests.Grid count) (Located answer) e h = asked_of held words _ _ e h
products_are_of_their_command held words (requests.Grid count) (Counted counted) e h = tt
products_are_of_their_command held words (requests.Grid count) (Booked book) e h = asked_of held words _ _ e h
products_are_of_their_command held words (requests.Book catalogue stations window antennas) (Day day) e h = asked_of held words _ _ e h
products_are_of_their_command held words (requests.Book catalogue stations window antennas) (Plan plan) e h = asked_of held words _ _ e h
products_are_of_their_command held words (requests.Book catalogue stations window antennas) (Shown entries) e h = asked_of held words _ _ e h
products_are_of_their_command held words (requests.Book catalogue stations window antennas) (Located answer) e h = asked_of held words _ _ e h
products_are_of_their_command held words (requests.Book catalogue stations window antennas) (Counted counted) e h = asked_of held words _ _ e h
products_are_of_their_command held words (requests.Book catalogue stations window antennas) (Booked book) e h = tt

pub daylight_is_certified : DaylightIsCertified
daylight_is_certified held words lat lon window day e h =
    let is = asked_of held words (requests.Day lat lon window) (Day day) e h in (is.window_is, is.certified)

-- what is planned of told bytes
planned_by : (satellites stations : List ℕ) (window : WindowRecord) (plan : PlanState) → IsPlannedAt (Some satellites) (Some stations) window (plan_record plan) →
    IsPlannedBy satellites stations window plan
planned_by satellites stations window plan is = record {
  entries = is.entries;
  places = is.places;
  chosen_are = subst (λ b. chosen b window.start ≡ Ok is.entries) is.of_catalogue.told is.of_catalogue.gives;
  stations_are = subst (λ b. station_value b ≡ Ok is.places) is.of_stations.told is.of_stations.gives;
  certified = is.certified;
}

pub plans_are_certified : PlansAreCertified
plans_are_certified bytes words catalogue stations window plan e h =
    planned_by _ _ window plan (asked_of (λ name. Some (bytes name)) words (requests.Plan catalogue stations window) (Plan plan) e h)

pub shown_satellites_are_chosen : ShownSatellitesAreChosen
shown_satellites_are_chosen bytes words catalogue start entries e h =
    let is = asked_of (λ _. Some bytes) words (requests.Show catalogue start) (Shown entries) e h in
    subst (λ b. chosen b start ≡ Ok entries) is.told is.gives

pub located_satellites_are_answers : LocatedSatellitesAreAnswers
located_satellites_are_answers bytes words catalogue number at answer e h =
    let is = asked_of (λ _. Some bytes) words (requests.Locate catalogue number at) (Located answer) e h in
    (is.entries, subst (λ b. chosen b at ≡ Ok is.entries) is.of_file.told is.of_file.gives, is.answers)

pub grids_are_counted : GridsAreCounted
grids_are_counted held words count counted e h =
    let is = asked_of held words (requests.Grid count) (Counted counted) e h in (is.certified.certified, is.summary)

pub bookings_are_certified : BookingsAreCertified
bookings_are_certified bytes words catalogue stations window antennas book e h =
    let is = asked_of (λ name. Some (bytes name)) words (requests.Book catalogue stations window antennas) (Booked book) e h in
    (planned_by _ _ window book.plan is.planned, is.booked)
