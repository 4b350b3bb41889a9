use Rattle.std.proofs.Common.{◌<◌, ◌^◌, arith, length, List, All, sym, subst, ap, ◌∙◌}
use Rattle.std.proofs.lemmas.List.{length-map}
use Rattle.contact_alloc.specs.declared.bid.Bid.{Bid}
use Rattle.book_command.specs.Bookings.{bid_of}
use Rattle.book_command.proofs.BidLemmas.{bids_forward, values_fit, values_of}
use Rattle.book_command.proofs.book.booked_of.Goals as goal

pub allocate-requires-clause-forward : goal.allocate-requires-clause-forward
allocate-requires-clause-forward c =
    subst (λ (bs : List Bid). All (λ (bid : Bid). bid.contact.from < bid.contact.to) bs) (sym (c.deref-2.ensures.value ∙ c.in_ok-bids.ensures))
    (bids_forward c.args.table.now c.requires.forward)

pub allocate-requires-clause-few : goal.allocate-requires-clause-few
allocate-requires-clause-few c =
    omega (arith, ap length (c.deref-2.ensures.value ∙ c.in_ok-bids.ensures), length-map c.args.table.now bid_of, c.requires.few)

pub allocate-requires-clause-fits : goal.allocate-requires-clause-fits
allocate-requires-clause-fits c =
    subst (λ bs. values_of bs < 2 ^ 64) (sym (c.deref-2.ensures.value ∙ c.in_ok-bids.ensures)) (values_fit c.args.table.now c.requires.short c.requires.few)
