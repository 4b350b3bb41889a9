-- The files and the window of passes, as words give them.
use Rattle.std.specs.Prelude.{ℕ, List, Result, Ok}
use Rattle.pass_words.specs.declared.fault.WordFault.{WordFault}
use Rattle.pass_words.specs.declared.key.Opt.TheVariants.{Catalogue, Stations}
use Rattle.pass_words.specs.declared.passes.Passes.{Passes}
use Rattle.pass_words.specs.Places.{Places}
use Rattle.elements.specs.Steps.{◌>>=◌}
use Rattle.pass_words.specs.Values.{part_given, window_given}

-- the names of two files, which may be any text, and a window; or the window's fault
abbrev pub passes_given : List (List ℕ) → Places → Result Passes WordFault
passes_given words places = do
  window ← window_given words places
  Ok (record { catalogue = part_given places Catalogue; stations = part_given places Stations; window = window })
