-- Whether an answer is spans.
use Rattle.std.specs.Prelude.{Bool, true, false}
use Rattle.sgp4_model.specs.Records.{AnswerRecord, spans, unresolved, full, decays}

-- a row that tells its spans
abbrev pub has_spans : AnswerRecord → Bool
has_spans (spans count) = true
has_spans (unresolved from to) = false
has_spans (full at) = false
has_spans (decays at) = false
