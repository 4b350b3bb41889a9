use Rattle.std.proofs.Common.{◌≤◌, length, arith, sym}
use Rattle.book_command.proofs.BidLemmas.{all_bids, one_bid_more}
use Rattle.book_command.proofs.book.bids_of.Goals as goal

pub loop-k-preserved : goal.loop-k-preserved
loop-k-preserved c =
    one_bid_more c.args.table.now c.loop-k.k c.contact-contact.result c.loop-k.bids.items c.push.new.self.items (sym c.contact-contact.ensures) c.loop-k.invariant c.in_ok-push.ensures.items

pub returns : goal.returns
returns c =
    let over : length c.args.table.now ≤ c.loop-k.k = omega (arith, c.len-count.ensures, c.loop-k-test.false) in
    all_bids c.args.table.now c.loop-k.k c.loop-k.bids.items over c.loop-k.invariant
