-- The request of the command `plan`.
use Rattle.std.specs.Prelude.{ℕ, List, Result, Ok}
use Rattle.pass_words.specs.declared.fault.WordFault.{WordFault}
use Rattle.pass_words.specs.declared.request.Request.{Request}
use Rattle.pass_words.specs.declared.request.Request.TheVariants as requests
use Rattle.pass_words.specs.Passes.{passes_given}
use Rattle.pass_words.specs.Places.{Places}
use Rattle.elements.specs.Steps.{◌>>=◌}

-- the files and the window of passes, or their fault
abbrev pub plan_request : List (List ℕ) → Places → Result Request WordFault
plan_request words places = do
  passes ← passes_given words places
  Ok (requests.Plan passes.catalogue passes.stations passes.window)
