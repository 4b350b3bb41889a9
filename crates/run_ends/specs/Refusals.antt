-- The one line that is printed of a refusal.
use Rattle.std.specs.Prelude.{ℕ, List}
use Rattle.pass_text.specs.CatalogueFaults.{catalogue_fault_line}
use Rattle.pass_text.specs.Refusals.{memory_line, read_line, too_long_line}
use Rattle.pass_text.specs.StationFaults.{station_fault_line}
use Rattle.run_ends.specs.declared.refusal.Refusal.{Refusal}
use Rattle.run_ends.specs.declared.refusal.Refusal.TheVariants.{BadCatalogue, BadStations, Unread, TooLong, OutOfMemory}

abbrev pub refusal_line : Refusal → List ℕ
refusal_line (BadCatalogue fault) = catalogue_fault_line fault
refusal_line (BadStations fault) = station_fault_line fault
refusal_line Unread = read_line
refusal_line TooLong = too_long_line
refusal_line OutOfMemory = memory_line
