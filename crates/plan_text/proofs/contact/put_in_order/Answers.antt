use Rattle.plan_text.proofs.TimetableLemmas.{sorted_in_order}
use Rattle.plan_text.proofs.contact.put_in_order.Goals as goal

pub returns : goal.returns
returns c = sorted_in_order c.args.contacts.now.items c.sort_unstable.new.self.items c.sort_unstable.ensures.permutation c.sort_unstable.ensures.sorted
