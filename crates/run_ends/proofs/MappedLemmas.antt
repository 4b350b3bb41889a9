-- Endings with another product.
use Rattle.std.proofs.Common.{◌≡◌, ℕ, List, ap, ◌∙◌}
use Rattle.outside_io.specs.declared.shelf.Shelf.{Ghosts as Shelf}
use Rattle.outside_io.specs.declared.sink.Sink.{Ghosts as Sink}
use Rattle.run_ends.specs.Endings.{IsMapped, WithProduct, ending_of}
use Rattle.run_ends.specs.Runs.{Command, IsRunOf}
use Rattle.run_ends.specs.declared.ending.Ending.{Ending}
use Rattle.run_ends.specs.declared.ending.Ending.TheVariants.{Done, WriteFault, Refused}

-- a function that may always be called may be called at the product
pub always_with : {P : Type 0} {Such : P → Type 0} (e : Ending P) → ((p : P) → Such p) → WithProduct Such e
always_with (Done product) h = h product
always_with (WriteFault product) h = h product
always_with (Refused refusal) h = tt

-- an ending whose product is a function of the other's
pub mapped_is : {P Q : Type 0} {Belongs : P → Q → Type 0} (f : P → Q) → ((p : P) (q : Q) → Belongs p q → q ≡ f p) →
    (e : Ending P) (r : Ending Q) → IsMapped Belongs e r → r ≡ ending_of f e
mapped_is f is (Done product) r (q, b, h) = h ∙ ap Done (is product q b)
mapped_is f is (WriteFault product) r (q, b, h) = h ∙ ap WriteFault (is product q b)
mapped_is f is (Refused refusal) r h = h

-- a run of a command is one of a command with the same files, whose product is made of the first one's
pub mapped_run : {A B P Q : Type 0} {S : Shelf A} {K : Sink B} {before after : A} {old new : B} (f : P → Q) (first : Command P) (second : Command Q) (e : Ending P) →
    first.files ≡ second.files →
    ((p : P) → first.is_product (S.held before) p → second.is_product (S.held before) (f p)) →
    ((p : P) → first.layout p ≡ second.layout (f p)) →
    IsRunOf S K first e before after old new → IsRunOf S K second (ending_of f e) before after old new
mapped_run f first second (Done product) files is text h =
    record { product = is product h.product; written = rw (← (text product)) h.written; causes = rw (← files) h.causes; counts = h.counts; later = h.later }
mapped_run f first second (WriteFault product) files is text h =
    record { product = is product h.product; written = rw (← (text product)) h.written; causes = rw (← files) h.causes; counts = h.counts; later = h.later }
mapped_run f first second (Refused refusal) files is text h =
    record { product = tt; written = h.written; causes = rw (← files) h.causes; counts = h.counts; later = h.later }
