-- Catalogue numbers, as words give them.
use Rattle.std.specs.Prelude.{ℕ, List, Option, Some, None, Result, Ok, Err}
use Rattle.pass_words.specs.declared.fault.UsageFault.{UsageFault}
use Rattle.pass_words.specs.declared.fault.UsageFault.TheVariants as faults
use Rattle.pass_words.specs.declared.key.Opt.{Opt}
use Rattle.pass_words.specs.Digits.{few_digits}

-- a number that was read, and else a fault of this key's value
abbrev pub number_read : Opt → Option ℕ → Result ℕ UsageFault
number_read key (Some number) = Ok number
number_read key None = Err (faults.Value key)

-- the number that the value of a key writes in one to nine digits
abbrev pub number_value : Opt → List ℕ → Result ℕ UsageFault
number_value key text = number_read key (few_digits text)
