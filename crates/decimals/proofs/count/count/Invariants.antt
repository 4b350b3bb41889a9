use Rattle.std.proofs.Common.{ℕ, ◌+◌, ◌≤◌, IsTrue, take}
use Rattle.std.specs.List.{list_all}
use Rattle.decimals.specs.NumberText.{is_digit, number_after}
use Rattle.decimals.specs.Significant.{Keeps, zeros_of}
use Rattle.decimals.proofs.count.count.Given as goal

abbrev pub invariant-loop-byte : goal.invariant-loop-byte
invariant-loop-byte l = record {
  digits : IsTrue (list_all is_digit (take l.byte-index l.bytes));
  keeps : (n : ℕ) → Keeps l.fn.start n → Keeps l.significant (number_after n (take l.byte-index l.bytes));
  zeros : zeros_of l.significant ≤ zeros_of l.fn.start + l.byte-index;
}
