-- Numbers without the units behind them.
use Rattle.std.specs.Prelude.{ℕ, ◌==◌, nat_eq, List, [], ◌∷◌, reverse, codes, Option, Some, None, option_map, unwrap_or, if◌then◌else◌}
use Rattle.std.specs.List.{ends_with}
use Rattle.omm_kvn.specs.Pieces.{is_blank, skip_while}

-- of a value from its end on: what follows the first `[` and the blanks behind it, if there is one
abbrev pub before_unit : List ℕ → Option (List ℕ)
before_unit [] = None
before_unit (byte ∷ rest) = if byte == 91 then Some (skip_while is_blank rest) else before_unit rest

-- a value that ends with `]`, without what stands from its last `[` on and the blanks before that; and every other value
unfoldable pub without_unit : List ℕ → List ℕ
without_unit value =
    if ends_with nat_eq value (codes "]") then unwrap_or (option_map reverse (before_unit (reverse value))) value
    else value
