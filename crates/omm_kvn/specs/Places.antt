-- Where the values of the keys stand in a text.
use Rattle.std.specs.Prelude.{ℕ, ◌+◌, ◌-◌, List, length, take, drop, Option}
use Rattle.omm_kvn.specs.declared.key.Key.{Key}
use Rattle.omm_kvn.specs.declared.place.Place.{Place}
use Rattle.omm_kvn.specs.Pieces.{PieceRecord}

-- where a piece stands
abbrev pub place_of_piece : PieceRecord → Place
place_of_piece piece = record { from = piece.from; to = piece.from + length piece.bytes }

-- the bytes of a text at a place
abbrev pub bytes_at : List ℕ → Place → List ℕ
bytes_at text place = take (place.to - place.from) (drop place.from text)

-- for each key the place of its value, if there is one
abbrev pub Places : Type 0
Places = Key → Option Place
