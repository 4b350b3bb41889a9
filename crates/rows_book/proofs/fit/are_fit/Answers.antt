use Rattle.std.proofs.Common.{arith, List, ◌<◌, get_or, sum_by, ap, below_more}
use Rattle.std.proofs.lemmas.List.{get_or_default, take_all}
use Rattle.std.proofs.lemmas.List.Sums.{sum_by_more}
use Rattle.contact_alloc.specs.declared.bid.Bid.{Bid}
use Rattle.rows_book.proofs.fit.are_fit.Goals as goal

abbrev no_bid : Bid
no_bid = record { contact = record { from = 0; to = 0; number = 0 }; value = 0 }

pub loop-bid-preserved : goal.loop-bid-preserved
loop-bid-preserved c =
    let bids = c.args.bids.now in
    let i = c.loop-bid.bid-index in
    let s = sum_by_more (λ (bid : Bid). bid.value) bids i no_bid c.loop-bid-test.true in
    record {
      forward = λ k d l. below_more (λ k. (get_or bids k d).contact.from < (get_or bids k d).contact.to) i (λ k l. c.loop-bid.invariant.forward k d l)
          (let e = get_or_default bids i d no_bid c.loop-bid-test.true in rw e c.if-bid.false) k l;
      fits = omega (arith, c.in-Some.ensures);
      sum = omega (arith, c.in-Some.ensures, s, c.loop-bid.invariant.sum);
    }

pub returns-clause-fits : goal.returns-clause-fits
returns-clause-fits c = λ t.
    let e = ap (λ (t : List Bid). sum_by (λ (bid : Bid). bid.value) t) (take_all c.loop-bid.bid-index c.args.bids.now c.loop-bid-test.false) in
    omega (arith, e, c.loop-bid.invariant.sum, c.loop-bid.invariant.fits)
