-- The request of the command `locate`.
use Rattle.std.specs.Prelude.{ℕ, List, Result, Ok}
use Rattle.pass_words.specs.declared.fault.WordFault.{WordFault}
use Rattle.pass_words.specs.declared.key.Opt.TheVariants.{At, Catalogue, Number}
use Rattle.pass_words.specs.declared.request.Request.{Request}
use Rattle.pass_words.specs.declared.request.Request.TheVariants as requests
use Rattle.pass_words.specs.Places.{Places}
use Rattle.elements.specs.Steps.{◌>>=◌}
use Rattle.pass_words.specs.Values.{instant_given, number_given, part_given}

-- the name of a file, which may be any text, a number of one to nine digits and an instant, or the first fault in this
-- order
abbrev pub locate_request : List (List ℕ) → Places → Result Request WordFault
locate_request words places = do
  number ← number_given words places Number
  instant ← instant_given words places At
  Ok (requests.Locate (part_given places Catalogue) number instant)
