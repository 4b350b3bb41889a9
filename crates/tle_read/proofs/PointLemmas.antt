-- What stands before the first point of a text, and after it.
use Rattle.std.proofs.Common.{◌≡◌, ℕ, ◌+◌, ◌≤◌, Bool, true, false, cond, List, [], length, take, drop, Some, None, refl, arith}
use Rattle.std.specs.List.{position, position_or_len, before_first, after_first}
use Rattle.std.proofs.lemmas.Bool.{ltb-false}
use Rattle.std.proofs.lemmas.List.{take_all}
use Rattle.std.proofs.Math.ListN.{drop_of_length-le}
use Rattle.tle_read.specs.Fields.{is_point}

found : (b : Bool) (n at : ℕ) → cond b (Some n) None ≡ Some at → n ≡ at
found true n at e = cc
found false n at e = absurd cc

not_found : (b : Bool) (n : ℕ) → cond b (Some n) None ≡ None → b ≡ false
not_found true n e = absurd cc
not_found false n e = refl

pub before_point : (text : List ℕ) (at : ℕ) → position is_point text ≡ Some at → before_first is_point text ≡ take at text
before_point text at e = rw (found _ _ _ e) refl

pub after_point : (text : List ℕ) (at : ℕ) → position is_point text ≡ Some at → after_first is_point text ≡ drop (at + 1) text
after_point text at e = rw (found _ _ _ e) refl

past : (text : List ℕ) → position is_point text ≡ None → length text ≤ position_or_len is_point text
past text e = ltb-false _ _ (not_found _ _ e)

le_next : {n m : ℕ} → n ≤ m → n ≤ m + 1
le_next h = omega arith

pub before_no_point : (text : List ℕ) → position is_point text ≡ None → before_first is_point text ≡ text
before_no_point text e = take_all _ text (past text e)

pub after_no_point : (text : List ℕ) → position is_point text ≡ None → after_first is_point text ≡ []
after_no_point text e = drop_of_length-le text (le_next (past text e))
