-- The keys of a table, as its map has them and as its members have them.
use Rattle.std.proofs.Common.{◌≡◌, ℕ, Bool, List, [], ◌∷◌, ◌&&◌, refl, ap, String, Global, string_bytes}
use Rattle.std.specs.List.{list_all}
use Rattle.std.specs.Map.{keys_of}
use Rattle.toml.specs.declared.value.Value.{Value}
use Rattle.toml.specs.View.{members_view}
use Rattle.station_file.specs.Tables.{has_only}

pub has_only_keys : (test : List ℕ → Bool) (es : List (String Global × Value)) → list_all (λ k. test (string_bytes k)) (keys_of es) ≡ has_only test (members_view es)
has_only_keys test [] = refl
has_only_keys test (e ∷ es) = ap (λ rest. test (string_bytes e.0) && rest) (has_only_keys test es)
