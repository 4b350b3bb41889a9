-- Puts one after the other: what was written in all.
use Rattle.std.proofs.Common.{◌≡◌, ℕ, ◌+◌, List, [], ◌++◌, length, take, Option, None, Some, sym, ap, ◌∙◌, append_assoc, arith, length-append}
use Rattle.std.proofs.lemmas.List.{take-append-le, append-nil}
use Rattle.std.proofs.Math.Seq.{take-append-add, take-length}
use Rattle.outside_io.specs.Written.{Grew, GrewByFront}

-- no put writes nothing
pub grew_nothing : (old : Option (List ℕ)) → Grew old old []
grew_nothing None = tt
grew_nothing (Some bytes) = ap Some (sym (append-nil bytes))

-- two puts that went through
pub grew_then : (old mid now : Option (List ℕ)) (xs ys : List ℕ) → Grew old mid xs → Grew mid now ys → Grew old now (xs ++ ys)
grew_then None mid now xs ys a b = tt
grew_then (Some o) mid now xs ys a b =
    let next : now ≡ Some ((o ++ xs) ++ ys) = rw a at b in
    next ∙ ap Some (append_assoc o xs ys)

-- the first of two puts failed, and the second was not made
pub front_of_first : (old now : Option (List ℕ)) (xs ys : List ℕ) → GrewByFront old now xs → GrewByFront old now (xs ++ ys)
front_of_first old now xs ys f =
    let same : take f.0 (xs ++ ys) ≡ take f.0 xs = take-append-le f.0 xs ys f.1 in
    (f.0, omega (arith, f.1, length-append xs ys), rw same f.2)

-- the first of two puts went through, and the second failed
pub front_of_second : (old mid now : Option (List ℕ)) (xs ys : List ℕ) → Grew old mid xs → GrewByFront mid now ys → GrewByFront old now (xs ++ ys)
front_of_second old mid now xs ys a f =
    (length xs + f.0, omega (arith, f.1, length-append xs ys), rw (take-append-add xs ys f.0) (grew_then old mid now xs (take f.0 ys) a f.2))

-- the whole is a prefix
pub whole_front : (old now : Option (List ℕ)) (xs : List ℕ) → Grew old now xs → GrewByFront old now xs
whole_front old now xs a = (length xs, omega arith, rw (take-length xs) a)

-- nothing is a prefix
pub no_front : (old : Option (List ℕ)) (xs : List ℕ) → GrewByFront old old xs
no_front old xs = (0, omega arith, grew_nothing old)
