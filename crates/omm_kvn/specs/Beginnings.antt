-- The lines that begin a message, in a text of several.
use Rattle.std.specs.Prelude.{ℕ, Bool, false, List}
use Rattle.omm_kvn.specs.declared.key.Key.TheVariants.{Version}
use Rattle.omm_kvn.specs.declared.line.Kind.{Kind}
use Rattle.omm_kvn.specs.declared.line.Kind.TheVariants.{Passed, Entry, Malformed}
use Rattle.omm_kvn.specs.Keys.{is_same}
use Rattle.omm_kvn.specs.Kinds.{kind_of}

-- the keyword of a line is CCSDS_OMM_VERS
abbrev pub has_version : Kind → Bool
has_version Passed = false
has_version (Entry key value) = is_same key Version
has_version Malformed = false

-- a line begins a message where its keyword is CCSDS_OMM_VERS
unfoldable pub begins_message : List ℕ → Bool
begins_message line = has_version (kind_of (record { from = 0; bytes = line }))
