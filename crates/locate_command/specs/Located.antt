-- The command `locate`, and what it certifies.
use Rattle.std.specs.Prelude.{ℕ, ℤ, List, ◌++◌, codes, Ok, Option}
use Rattle.catalogue.specs.declared.entry.Entry.{Entry}
use Rattle.pass_text.specs.LocateLayout.{edge_line, locate_layout}
use Rattle.run_ends.specs.Files.{IsAnswerOf, catalogue_alone, catalogue_at}
use Rattle.run_ends.specs.Runs.{Command}
use Rattle.sat_locate.specs.Found.{IsAnswerFor, locate_record}
use Rattle.sat_locate.specs.declared.edge.Edge.{Edge}
use Rattle.sat_locate.specs.declared.found.LocAnswer.{LocAnswer}

-- the lines of the bounds of the three coordinates
abbrev pub edge_lines : Edge → Edge → Edge → List ℕ
edge_lines x y z =
    edge_line (codes "X") x.low x.high ++ (edge_line (codes "Y") y.low y.high ++ edge_line (codes "Z") z.low z.high)

-- The answer is for the number and the instant, of the satellites of a file by their sets that are nearest to that instant.
-- Where it tells bounds, each coordinate of each position of the satellite at that instant lies between its two.
pub record IsLocatedAt (held : Option (List ℕ)) (number : ℕ) (at : ℤ) (answer : LocAnswer) : Type 0 where
  pub entries : List Entry
  pub of_file : IsAnswerOf (catalogue_at at) held (Ok entries)
  pub answers : IsAnswerFor entries number at (locate_record answer)

-- what is printed of an answer
abbrev pub locate_text : LocAnswer → List ℕ
locate_text answer = locate_layout (locate_record answer)

-- the command: it reads a catalogue, gives the answer for a number and an instant, and prints that
abbrev pub locate : List ℕ → ℕ → ℤ → Command LocAnswer
locate name number at = record {
  files = catalogue_alone name at;
  is_product = λ held answer. IsLocatedAt (held name) number at answer;
  layout = locate_text;
}
