-- Reads one after the other.
use Rattle.std.proofs.Common.{◌≤◌, ◌+◌, ℕ, List, ◌++◌, length, take, Option, None, Some, ap, sym, ◌∙◌, append_assoc, arith, length-append}
use Rattle.std.proofs.lemmas.List.{length-take}
use Rattle.std.specs.Io.KnownBytes.{Consumes}
use Rattle.outside_io.specs.Reading.{TakesAtMost}

-- two reads
pub consumes_then : (old mid new : Option (List ℕ)) (xs ys : List ℕ) → Consumes old mid xs → Consumes mid new ys → Consumes old new (xs ++ ys)
consumes_then None mid new xs ys a b = tt
consumes_then (Some o) None new xs ys a b = absurd a
consumes_then (Some o) (Some m) None xs ys a b = absurd b
consumes_then (Some o) (Some m) (Some n) xs ys a b = a ∙ ap (λ r. xs ++ r) b ∙ sym (append_assoc xs ys n)

-- how much two reads took
pub takes_then : (old mid new : Option (List ℕ)) (xs buffer : List ℕ) (count most : ℕ) → Consumes old mid xs → Consumes mid new (take count buffer) → length xs + count ≤ most → TakesAtMost most old new
takes_then old mid new xs buffer count most a b bound =
    (xs ++ take count buffer, consumes_then old mid new xs (take count buffer) a b, omega (arith, bound, length-append xs (take count buffer), length-take count buffer))
