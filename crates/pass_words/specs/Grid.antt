-- The request of the command `grid`.
use Rattle.std.specs.Prelude.{ℕ, List, Result, Ok}
use Rattle.pass_words.specs.declared.fault.WordFault.{WordFault}
use Rattle.pass_words.specs.declared.key.Opt.TheVariants.{Count}
use Rattle.pass_words.specs.declared.request.Request.{Request}
use Rattle.pass_words.specs.declared.request.Request.TheVariants as requests
use Rattle.pass_words.specs.Places.{Places}
use Rattle.elements.specs.Steps.{◌>>=◌}
use Rattle.pass_words.specs.Values.{plain_count_given}

-- a count of satellites from 1 to 1,000 without a leading zero, or its fault
abbrev pub grid_request : List (List ℕ) → Places → Result Request WordFault
grid_request words places = do
  count ← plain_count_given words places Count 1_000
  Ok (requests.Grid count)
