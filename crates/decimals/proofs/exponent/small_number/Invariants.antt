use Rattle.std.proofs.Common.{◌≡◌, ◌^◌, ◌<◌, IsTrue, take}
use Rattle.std.specs.List.{list_all}
use Rattle.decimals.specs.NumberText.{is_digit, number_written}
use Rattle.decimals.proofs.exponent.small_number.Given as goal

abbrev pub invariant-loop-byte : goal.invariant-loop-byte
invariant-loop-byte l = record {
  digits : IsTrue (list_all is_digit (take l.byte-index l.digits));
  number : l.number ≡ number_written (take l.byte-index l.digits);
  small : l.number < 10 ^ l.byte-index;
}
