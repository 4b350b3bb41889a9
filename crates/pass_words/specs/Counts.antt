-- Counts from 1 on, as words give them.
use Rattle.std.specs.Prelude.{ℕ, nat_le, ◌&&◌, Option, Some, None, Result, Ok, Err, if◌then◌else◌}
use Rattle.pass_words.specs.declared.fault.UsageFault.{UsageFault}
use Rattle.pass_words.specs.declared.fault.UsageFault.TheVariants as faults
use Rattle.pass_words.specs.declared.key.Opt.{Opt}

-- a number that was read, if it is from 1 to the most; and else a fault of this key's value
abbrev pub count_read : Opt → ℕ → Option ℕ → Result ℕ UsageFault
count_read key most (Some count) =
    if nat_le 1 count && nat_le count most then Ok count else Err (faults.Value key)
count_read key most None = Err (faults.Value key)
