-- The command `show`, and what it certifies.
use Rattle.std.specs.Prelude.{ℕ, ℤ, List, Ok, Option}
use Rattle.catalogue.specs.declared.entry.Entry.{Entry}
use Rattle.pass_text.specs.ShowLayout.{show_layout}
use Rattle.run_ends.specs.Files.{IsAnswerOf, catalogue_alone, catalogue_at}
use Rattle.run_ends.specs.Runs.{Command}

-- the satellites are those of the file, each by its set whose epoch is nearest to the instant
abbrev pub IsShownAt : Option (List ℕ) → ℤ → List Entry → Type 0
IsShownAt held start sets = IsAnswerOf (catalogue_at start) held (Ok sets)

-- the command: it reads a catalogue, gives its satellites, and prints each
abbrev pub show : List ℕ → ℤ → Command (List Entry)
show name start = record {
  files = catalogue_alone name start;
  is_product = λ held sets. IsShownAt (held name) start sets;
  layout = show_layout;
}
