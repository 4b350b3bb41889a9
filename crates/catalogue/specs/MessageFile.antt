-- The element sets of a file of messages, CCSDS 502.0, one after another.
use Rattle.std.specs.Prelude.{ℕ, ◌+◌, nat_lt, nat_eq, Bool, false, List, [], ◌∷◌, length, map, codes, Result, Ok, Err, if◌then◌else◌}
use Rattle.std.specs.List.{join_with_byte, starts_with}
use Rattle.omm_kvn.specs.Beginnings.{begins_message}
use Rattle.omm_kvn.specs.Lines.{split}
use Rattle.omm_kvn.specs.Messages.{message_value}
use Rattle.omm_kvn.specs.Places.{bytes_at}
use Rattle.omm_kvn.specs.declared.fault.OmmFault.{OmmFault}
use Rattle.omm_kvn.specs.declared.message.Message.{Message}
use Rattle.tle_read.specs.TwoLine.{trimmed}
use Rattle.catalogue.specs.declared.entry.Entry.{Entry}
use Rattle.catalogue.specs.declared.fault.CatFault.{CatFault}
use Rattle.catalogue.specs.declared.fault.CatFault.TheVariants.{BadSet}
use Rattle.catalogue.specs.declared.fault.SetFault.TheVariants.{Omm}
use Rattle.catalogue.specs.Lines.{NumberedLine}
use Rattle.catalogue.specs.Names.{name_of}

-- the text of a message, and the number of its first line in the file
pub record NumberedText : Type 0 where
  pub number : ℕ
  pub text : List ℕ

-- a file is of messages where its first written line begins with CCSDS_OMM_VERS
abbrev pub is_of_messages : List NumberedLine → Bool
is_of_messages [] = false
is_of_messages (line ∷ lines) = starts_with nat_eq line.text (codes "CCSDS_OMM_VERS")

-- the lines before the next one that begins a message
abbrev pub before_next : List (List ℕ) → List (List ℕ)
before_next [] = []
before_next (line ∷ lines) = if begins_message line then [] else line ∷ before_next lines

-- the message whose first line is this one, which has this number: it goes on to before the next one
abbrev pub message_from : ℕ → List ℕ → List (List ℕ) → NumberedText
message_from number line lines = record { number = number; text = join_with_byte 10 (line ∷ before_next lines) }

-- the messages that begin in lines, the first of which has this number
abbrev pub further_messages : ℕ → List (List ℕ) → List NumberedText
further_messages number [] = []
further_messages number (line ∷ lines) =
    if begins_message line then message_from number line lines ∷ further_messages (number + 1) lines
    else further_messages (number + 1) lines

-- the same where the first line begins a message, whatever its keyword is
abbrev pub messages_from : ℕ → List (List ℕ) → List NumberedText
messages_from number [] = []
messages_from number (line ∷ lines) = message_from number line lines ∷ further_messages (number + 1) lines

-- the same where the first written line begins a message
abbrev pub messages_among : ℕ → List (List ℕ) → List NumberedText
messages_among number [] = []
messages_among number (line ∷ lines) =
    if nat_lt 0 (length (trimmed line)) then messages_from number (line ∷ lines) else messages_among (number + 1) lines

-- the messages of a file of messages
abbrev pub messages : List ℕ → List NumberedText
messages bytes = messages_among 1 (split bytes)

-- what was read of a message, with the name that its OBJECT_NAME gives
abbrev pub named_by : NumberedText → Result Message OmmFault → Result Entry CatFault
named_by message (Ok read) = Ok (record {
  elements = read.elements;
  name = name_of (bytes_at message.text (record { from = read.name_from; to = read.name_to }));
})
named_by message (Err fault) = Err (BadSet message.number (Omm fault))

-- the set of a message, or its fault
unfoldable pub message_set : NumberedText → Result Entry CatFault
message_set message = named_by message (message_value message.text)

-- of messages each set, or its fault
abbrev pub sets_of_messages : List NumberedText → List (Result Entry CatFault)
sets_of_messages texts = map message_set texts
