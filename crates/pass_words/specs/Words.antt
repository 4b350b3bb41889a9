-- The request that the words of the command line make, or their first fault.
use Rattle.std.specs.Prelude.{ℕ, List, [], ◌∷◌, Option, Some, None, Result, Err}
use Rattle.pass_words.specs.declared.command.Command.{Command}
use Rattle.pass_words.specs.declared.fault.UsageFault.TheVariants.{NoCommand}
use Rattle.pass_words.specs.declared.fault.UsageFault.TheVariants as faults
use Rattle.pass_words.specs.declared.fault.WordFault.{WordFault}
use Rattle.pass_words.specs.declared.fault.WordFault.TheVariants.{Usage}
use Rattle.pass_words.specs.declared.request.Request.{Request}
use Rattle.pass_words.specs.Commands.{command_of, keys_of, request_of}
use Rattle.pass_words.specs.Faults.{of_usage}
use Rattle.pass_words.specs.Placed.{placed}
use Rattle.elements.specs.Steps.{◌>>=◌}

-- the request of words for a command, if there is one
abbrev pub command_value : Option Command → List (List ℕ) → Result Request WordFault
command_value None words = Err (Usage faults.Command)
command_value (Some command) words = do
  places ← of_usage (placed (keys_of command) words)
  request_of command words places

-- the request of the words: the first one names the command, and the others are its options
unfoldable pub words_value : List (List ℕ) → Result Request WordFault
words_value [] = Err (Usage NoCommand)
words_value (first ∷ options) = command_value (command_of first) (first ∷ options)
