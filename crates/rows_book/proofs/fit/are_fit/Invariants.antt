use Rattle.std.proofs.Common.{◌≡◌, ◌<◌, ◌^◌, ℕ, take, sum_by, get_or}
use Rattle.contact_alloc.specs.declared.bid.Bid.{Bid}
use Rattle.rows_book.proofs.fit.are_fit.Given as goal

abbrev pub invariant-loop-bid : goal.invariant-loop-bid
invariant-loop-bid l = record {
  forward : (k : ℕ) (d : Bid) → k < l.bid-index → (get_or l.bids k d).contact.from < (get_or l.bids k d).contact.to;
  fits : l.sum < 2 ^ 64;
  sum : l.sum ≡ sum_by (λ bid. bid.value) (take l.bid-index l.bids);
}
