use Rattle.run_ends.proofs.CommandLemmas.{with_product}
use Rattle.book_command.proofs.ForwardLemmas.{book_for, planned_forward}
use Rattle.book_command.proofs.run.write_book.Goals as goal

pub write_planned-requires-clause-forward : goal.write_planned-requires-clause-forward
write_planned-requires-clause-forward g c = planned_forward c.args.satellites c.args.places c.args.window c.in-Ok.plan c.in-Ok.ensures

pub returns-in-Ok-clause-product : goal.returns-in-Ok-clause-product
returns-in-Ok-clause-product g c = with_product c.write_planned.result (λ book h. book_for c.in-Ok.ensures h) c.write_planned.ensures.product
