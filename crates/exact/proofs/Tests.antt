-- What follows from a test: one way or the other, and never both.
use Rattle.std.proofs.Common.{Bool, true, false, not, T}

pub by_test : {P : Type 0} (t : Bool) → (T t → P) → (T (not t) → P) → P
by_test true f g = f tt
by_test false f g = g tt

pub clash : (t : Bool) → T t → T (not t) → ⊥
clash true f g = g
clash false f g = f
