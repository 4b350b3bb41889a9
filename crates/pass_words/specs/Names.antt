-- Where the names of files stand in the words.
use Rattle.std.specs.Prelude.{ℕ, ◌-◌, ◌<◌, ◌≤◌, List, [], length, slice_index_or, ⊤}
use Rattle.pass_words.specs.declared.part.Part.{Part}
use Rattle.pass_words.specs.declared.request.Request.{Request}
use Rattle.pass_words.specs.declared.request.Request.TheVariants.{Day, Plan, Show, Locate, Grid, Book}

-- the part stands in a word behind the command, and is not empty
pub record IsPartOf (words : List (List ℕ)) (part : Part) : Type 0 where
  pub behind : 2 ≤ part.word
  pub inside : part.from < length (slice_index_or words (part.word - 1) [])

-- the names of both files are parts of the words
pub record AreFilesIn (words : List (List ℕ)) (catalogue stations : Part) : Type 0 where
  pub sets : IsPartOf words catalogue
  pub places : IsPartOf words stations

-- each name of a file in a request is a part of the words
abbrev pub AreNamesIn : List (List ℕ) → Request → Type 0
AreNamesIn words (Day lat lon window) = ⊤
AreNamesIn words (Plan catalogue stations window) = AreFilesIn words catalogue stations
AreNamesIn words (Show catalogue start) = IsPartOf words catalogue
AreNamesIn words (Locate catalogue number at) = IsPartOf words catalogue
AreNamesIn words (Grid count) = ⊤
AreNamesIn words (Book catalogue stations window antennas) = AreFilesIn words catalogue stations
