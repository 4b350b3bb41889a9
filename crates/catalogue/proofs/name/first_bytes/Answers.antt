use Rattle.std.proofs.Common.{arith, sym}
use Rattle.std.proofs.lemmas.List.{length-take-le, take_all}
use Rattle.catalogue.proofs.name.first_bytes.Goals as goal

pub slice_bounds-result-end : goal.slice_bounds-result-end
slice_bounds-result-end c = sym (length-take-le 64 c.args.text.now (omega arith))

pub returns-else-text-gt-MOST_BYTES : goal.returns-else-text-gt-MOST_BYTES
returns-else-text-gt-MOST_BYTES c = sym (take_all 64 c.args.text.now (omega arith))
