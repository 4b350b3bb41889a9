-- The commands: their words, the keys of their options, and their requests.
use Rattle.std.specs.Prelude.{ℕ, Bool, List, [], ◌∷◌, ◌++◌, codes, find, Option, Result}
use Rattle.std.specs.Str.{bytes_eq}
use Rattle.pass_words.specs.declared.command.Command.{Command}
use Rattle.pass_words.specs.declared.command.Command.TheVariants.{Day, Plan, Show, Locate, Grid, Book}
use Rattle.pass_words.specs.declared.fault.WordFault.{WordFault}
use Rattle.pass_words.specs.declared.key.Opt.{Opt}
use Rattle.pass_words.specs.declared.key.Opt.TheVariants.{Lat, Lon, Start, End, Res, Catalogue, Stations, Number, At, Count, Antennas}
use Rattle.pass_words.specs.declared.request.Request.{Request}
use Rattle.pass_words.specs.Book.{book_request}
use Rattle.pass_words.specs.Day.{day_request}
use Rattle.pass_words.specs.Grid.{grid_request}
use Rattle.pass_words.specs.Locate.{locate_request}
use Rattle.pass_words.specs.Places.{Places}
use Rattle.pass_words.specs.Plan.{plan_request}
use Rattle.pass_words.specs.Show.{show_request}

-- all commands
abbrev pub commands : List Command
commands = Day ∷ Plan ∷ Show ∷ Locate ∷ Grid ∷ Book ∷ []

-- the word of a command
abbrev pub word_of : Command → List ℕ
word_of Day = codes "day"
word_of Plan = codes "plan"
word_of Show = codes "show"
word_of Locate = codes "locate"
word_of Grid = codes "grid"
word_of Book = codes "book"

-- the word is that of the command
abbrev pub is_named : List ℕ → Command → Bool
is_named word command = bytes_eq (word_of command) word

-- the command among these that a word names, if there is one
abbrev pub command_in : List Command → List ℕ → Option Command
command_in all word = find (is_named word) all

-- the command that a word names, if there is one
abbrev pub command_of : List ℕ → Option Command
command_of word = command_in commands word

-- the keys of the files and of the window of passes
abbrev pub pass_keys : List Opt
pass_keys = Catalogue ∷ Stations ∷ Start ∷ End ∷ Res ∷ []

-- the keys of the options of a command, in their order
abbrev pub keys_of : Command → List Opt
keys_of Day = Lat ∷ Lon ∷ Start ∷ End ∷ Res ∷ []
keys_of Plan = pass_keys
keys_of Show = Catalogue ∷ Start ∷ []
keys_of Locate = Catalogue ∷ Number ∷ At ∷ []
keys_of Grid = Count ∷ []
keys_of Book = pass_keys ++ Antennas ∷ []

-- the request of a command, of words with places for all its keys
abbrev pub request_of : Command → List (List ℕ) → Places → Result Request WordFault
request_of Day words places = day_request words places
request_of Plan words places = plan_request words places
request_of Show words places = show_request words places
request_of Locate words places = locate_request words places
request_of Grid words places = grid_request words places
request_of Book words places = book_request words places
