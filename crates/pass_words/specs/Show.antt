-- The request of the command `show`.
use Rattle.std.specs.Prelude.{ℕ, List, Result, Ok}
use Rattle.pass_words.specs.declared.fault.WordFault.{WordFault}
use Rattle.pass_words.specs.declared.key.Opt.TheVariants.{Catalogue, Start}
use Rattle.pass_words.specs.declared.request.Request.{Request}
use Rattle.pass_words.specs.declared.request.Request.TheVariants as requests
use Rattle.pass_words.specs.Places.{Places}
use Rattle.elements.specs.Steps.{◌>>=◌}
use Rattle.pass_words.specs.Values.{instant_given, part_given}

-- the name of a file, which may be any text, and an instant; or the instant's fault
abbrev pub show_request : List (List ℕ) → Places → Result Request WordFault
show_request words places = do
  start ← instant_given words places Start
  Ok (requests.Show (part_given places Catalogue) start)
