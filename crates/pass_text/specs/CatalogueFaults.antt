-- The line that the program prints where a file is no catalogue.
use Rattle.std.specs.Prelude.{ℕ, List, ◌++◌, codes, decimal}
use Rattle.catalogue.specs.declared.fault.CatFault.{CatFault}
use Rattle.catalogue.specs.declared.fault.CatFault.TheVariants as faults
use Rattle.catalogue.specs.declared.fault.SetFault.{SetFault}
use Rattle.catalogue.specs.declared.fault.SetFault.TheVariants.{Tle, Omm}
use Rattle.omm_kvn.specs.declared.fault.OmmFault.{OmmFault}
use Rattle.omm_kvn.specs.declared.fault.OmmFault.TheVariants.{Line, Missing, Twice, Unsupported, Value}
use Rattle.omm_kvn.specs.Keys.{keyword_of}
use Rattle.tle_read.specs.declared.fault.TleFault.{TleFault}
use Rattle.tle_read.specs.declared.fault.TleFault.TheVariants.{Length, LineNumber, Check, Column, NumbersDiffer, Theory, Range}
use Rattle.pass_text.specs.Refusals.{memory_line}

-- some words and a number
unfoldable pub one_number : List ℕ → ℕ → List ℕ
one_number words a = words ++ codes " " ++ decimal a

-- some words and two numbers
unfoldable pub two_numbers : List ℕ → ℕ → ℕ → List ℕ
two_numbers words a b = words ++ codes " " ++ decimal a ++ codes " " ++ decimal b

-- some words and three numbers
unfoldable pub three_numbers : List ℕ → ℕ → ℕ → ℕ → List ℕ
three_numbers words a b c = words ++ codes " " ++ decimal a ++ codes " " ++ decimal b ++ codes " " ++ decimal c

-- `tle ..`, the fault of two lines
unfoldable pub tle_words : TleFault → List ℕ
tle_words (Length line found) = two_numbers (codes "tle length") line found
tle_words (LineNumber line) = one_number (codes "tle linenumber") line
tle_words (Check line found wanted) = three_numbers (codes "tle check") line found wanted
tle_words (Column line first) = two_numbers (codes "tle column") line first
tle_words NumbersDiffer = codes "tle differ"
tle_words Theory = codes "tle theory"
tle_words (Range line first) = two_numbers (codes "tle range") line first

-- `omm ..`, the fault of a message
unfoldable pub omm_words : OmmFault → List ℕ
omm_words (Line line) = one_number (codes "omm line") line
omm_words (Missing key) = codes "omm missing " ++ keyword_of key
omm_words (Twice key) = codes "omm twice " ++ keyword_of key
omm_words (Unsupported key) = codes "omm unsupported " ++ keyword_of key
omm_words (Value key) = codes "omm value " ++ keyword_of key

-- the fault of a set
abbrev pub set_words : SetFault → List ℕ
set_words (Tle fault) = tle_words fault
set_words (Omm fault) = omm_words fault

-- `error catalogue odd <line>`
unfoldable pub odd_line : ℕ → List ℕ
odd_line line = one_number (codes "error catalogue odd") line ++ codes "\n"

-- `error catalogue set <line> <fault>`
unfoldable pub set_fault_line : ℕ → SetFault → List ℕ
set_fault_line line fault = one_number (codes "error catalogue set") line ++ codes " " ++ set_words fault ++ codes "\n"

-- `error catalogue ..`, or `error memory`
unfoldable pub catalogue_fault_line : CatFault → List ℕ
catalogue_fault_line faults.Empty = codes "error catalogue empty\n"
catalogue_fault_line (faults.Odd line) = odd_line line
catalogue_fault_line (faults.BadSet line fault) = set_fault_line line fault
catalogue_fault_line faults.TooMany = codes "error catalogue toomany\n"
catalogue_fault_line faults.OutOfMemory = memory_line
