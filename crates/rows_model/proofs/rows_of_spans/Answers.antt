use Rattle.rows_model.proofs.SmallCases.{span_rows}
use Rattle.rows_model.proofs.rows_of_spans.Goals as goal

pub returns : goal.returns
returns c = span_rows
