-- What one more word adds to the places of the values.
use Rattle.std.specs.Prelude.{ℕ, is_some, Result, Ok, Err, if◌then◌else◌}
use Rattle.pass_words.specs.declared.fault.UsageFault.{UsageFault}
use Rattle.pass_words.specs.declared.fault.UsageFault.TheVariants as faults
use Rattle.pass_words.specs.declared.role.Role.{Role}
use Rattle.pass_words.specs.declared.role.Role.TheVariants.{Opens, Value, Stray}
use Rattle.pass_words.specs.Places.{Places, filled}

-- the places with that of the word with this number and role, or its fault
abbrev pub taken : ℕ → Places → Role → Result Places UsageFault
taken at places (Opens key part) = if is_some (places key) then Err (faults.Twice key) else Ok (filled key part places)
taken at places Value = Ok places
taken at places Stray = Err (faults.Word at)
