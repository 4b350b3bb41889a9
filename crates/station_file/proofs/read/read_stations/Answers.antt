use Rattle.std.proofs.Common.{ap, Err}
use Rattle.station_file.proofs.ReadLemmas.{answer_of_text, answer_of_no_text}
use Rattle.station_file.proofs.read.read_stations.Goals as goal

pub returns-in-Ok-stations_of_text : goal.returns-in-Ok-stations_of_text
returns-in-Ok-stations_of_text c known = answer_of_text c.args.bytes.now c.in-Ok.text.now _ c.in-Ok.ensures.cases.1 c.in-Ok.ensures.cases.0 c.in-Ok-stations_of_text.ensures.ok

pub returns-in-Err-stations_of_text : goal.returns-in-Err-stations_of_text
returns-in-Err-stations_of_text c known =
    answer_of_text c.args.bytes.now c.in-Ok.text.now _ c.in-Ok.ensures.cases.1 c.in-Ok.ensures.cases.0 (c.in-Err-stations_of_text.ensures.err (λ e. known (ap Err e)))

pub returns-in-Err : goal.returns-in-Err
returns-in-Err c known = answer_of_no_text c.args.bytes.now c.in-Err.ensures.cases.0
