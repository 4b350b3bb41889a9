-- Writes one after the other, and how they make a put.
use Rattle.std.proofs.Common.{◌≡◌, ℕ, ◌-◌, List, [], ◌++◌, length, take, drop, arith, Option, None, Some, ap, sym, ◌∙◌, append_assoc}
use Rattle.std.proofs.lemmas.List.{append-nil, take-append-drop, take_all, length-drop}
use Rattle.std.specs.Io.KnownBytes.{Appends, Keeps}
use Rattle.outside_io.specs.Written.{Grew, GrewByFront}
use Rattle.outside_io.proofs.Puts.{grew_then, front_of_first, whole_front}

-- what a write appends
pub grew-Appends : (old now : Option (List ℕ)) (xs : List ℕ) → Appends old now xs → Grew old now xs
grew-Appends None now xs a = tt
grew-Appends (Some o) None xs a = absurd a
grew-Appends (Some o) (Some n) xs a = ap Some a

-- a write that failed
pub grew-Keeps : (old now : Option (List ℕ)) → Keeps old now → Grew old now []
grew-Keeps None now k = tt
grew-Keeps (Some o) None k = absurd k
grew-Keeps (Some o) (Some n) k = ap Some (k ∙ sym (append-nil o))

-- some first bytes of a piece were written
pub front_so_far : (old now : Option (List ℕ)) (piece done rest : List ℕ) → piece ≡ done ++ rest → Grew old now done → GrewByFront old now piece
front_so_far old now piece done rest is a = rw is (front_of_first old now done rest (whole_front old now done a))

-- and no more after them
pub grew_then_nothing : (old mid now : Option (List ℕ)) (done : List ℕ) → Grew old mid done → Grew mid now [] → Grew old now done
grew_then_nothing old mid now done a b = rw (append-nil done) at (grew_then old mid now done [] a b)

-- a piece, after so many bytes of its rest were written
pub rest_after : (piece done rest : List ℕ) (count : ℕ) → piece ≡ done ++ rest → piece ≡ (done ++ take count rest) ++ take (length rest - count) (drop count rest)
rest_after piece done rest count is =
    let left : take (length rest - count) (drop count rest) ≡ drop count rest = take_all _ _ (omega (arith, length-drop count rest)) in
    is ∙ ap (λ r. done ++ r) (sym (take-append-drop count rest)) ∙ sym (append_assoc done _ _) ∙ ap (λ r. (done ++ take count rest) ++ r) (sym left)
