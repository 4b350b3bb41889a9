-- The request of the command `book`.
use Rattle.std.specs.Prelude.{ℕ, List, Result, Ok}
use Rattle.pass_words.specs.declared.fault.WordFault.{WordFault}
use Rattle.pass_words.specs.declared.key.Opt.TheVariants.{Antennas}
use Rattle.pass_words.specs.declared.request.Request.{Request}
use Rattle.pass_words.specs.declared.request.Request.TheVariants as requests
use Rattle.pass_words.specs.Passes.{passes_given}
use Rattle.pass_words.specs.Places.{Places}
use Rattle.elements.specs.Steps.{◌>>=◌}
use Rattle.pass_words.specs.Values.{short_count_given}

-- a count of antennas from 1 to 64 in one or two digits, and the files and the window of passes; or the first fault in
-- this order
abbrev pub book_request : List (List ℕ) → Places → Result Request WordFault
book_request words places = do
  antennas ← short_count_given words places Antennas 64
  passes ← passes_given words places
  Ok (requests.Book passes.catalogue passes.stations passes.window antennas)
