-- The keys of options, and the words that name them.
use Rattle.std.specs.Prelude.{ℕ, Bool, List, ◌++◌, codes, Option, find}
use Rattle.std.specs.Str.{bytes_eq}
use Rattle.pass_words.specs.declared.key.Opt.{Opt}
use Rattle.pass_words.specs.declared.key.Opt.TheVariants.{Lat, Lon, Start, End, Res, Catalogue, Stations, Number, At, Count, Antennas}

-- the name of a key
abbrev pub name_of : Opt → List ℕ
name_of Lat = codes "lat"
name_of Lon = codes "lon"
name_of Start = codes "start"
name_of End = codes "end"
name_of Res = codes "res"
name_of Catalogue = codes "catalogue"
name_of Stations = codes "stations"
name_of Number = codes "number"
name_of At = codes "at"
name_of Count = codes "count"
name_of Antennas = codes "antennas"

-- the word names the key alone: two dashes and the key's name
abbrev pub is_word_of : List ℕ → Opt → Bool
is_word_of word key = bytes_eq (codes "--" ++ name_of key) word

-- the key that a word names alone, if it is one of these
abbrev pub key_of : List Opt → List ℕ → Option Opt
key_of keys word = find (is_word_of word) keys
