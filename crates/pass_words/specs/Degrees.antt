-- Angles in degrees, as words give them.
use Rattle.std.specs.Prelude.{ℤ, Result, Ok, Err, if◌then◌else◌}
use Rattle.decimals.specs.Decimal.{DecimalRecord}
use Rattle.elements.specs.Ranges.{is_from_to}
use Rattle.decimals.specs.declared.fault.NumFault.{NumFault}
use Rattle.pass_words.specs.declared.fault.UsageFault.{UsageFault}
use Rattle.pass_words.specs.declared.fault.UsageFault.TheVariants as faults
use Rattle.pass_words.specs.declared.key.Opt.{Opt}

-- a decimal that was read, if it lies between the two; and else a fault of this key's value
abbrev pub degrees_read : Opt → ℤ → ℤ → Result DecimalRecord NumFault → Result DecimalRecord UsageFault
degrees_read key low high (Ok d) = if is_from_to low high d then Ok d else Err (faults.Value key)
degrees_read key low high (Err fault) = Err (faults.Value key)
