-- The one line that the program prints where it refuses.
use Rattle.std.specs.Prelude.{ℕ, List, ◌++◌, codes, decimal}
use Rattle.pass_words.specs.declared.fault.UsageFault.{UsageFault}
use Rattle.pass_words.specs.declared.fault.UsageFault.TheVariants.{NoCommand, Command, Word, Twice, Missing, Value}
use Rattle.pass_words.specs.declared.fault.WindowFault.{WindowFault}
use Rattle.pass_words.specs.declared.fault.WindowFault.TheVariants.{Shape, Year, Order, Long, Resolution}
use Rattle.pass_words.specs.declared.key.Opt.{Opt}
use Rattle.pass_words.specs.Keys.{name_of}

-- `error usage <kind> <key>`
unfoldable pub key_line : List ℕ → Opt → List ℕ
key_line kind key = codes "error usage " ++ kind ++ codes " " ++ name_of key ++ codes "\n"

-- `error usage word <at>`
unfoldable pub word_line : ℕ → List ℕ
word_line at = codes "error usage word " ++ decimal at ++ codes "\n"

-- `error usage ..`
unfoldable pub usage_line : UsageFault → List ℕ
usage_line NoCommand = codes "error usage nocommand\n"
usage_line Command = codes "error usage command\n"
usage_line (Word at) = word_line at
usage_line (Twice key) = key_line (codes "twice") key
usage_line (Missing key) = key_line (codes "missing") key
usage_line (Value key) = key_line (codes "value") key

-- `error window ..`
unfoldable pub window_fault_line : WindowFault → List ℕ
window_fault_line Shape = codes "error window shape\n"
window_fault_line Year = codes "error window year\n"
window_fault_line Order = codes "error window order\n"
window_fault_line Long = codes "error window long\n"
window_fault_line Resolution = codes "error window resolution\n"

-- `error memory`
unfoldable pub memory_line : List ℕ
memory_line = codes "error memory\n"

-- `error read`
unfoldable pub read_line : List ℕ
read_line = codes "error read\n"

-- `error toolong`
unfoldable pub too_long_line : List ℕ
too_long_line = codes "error toolong\n"
