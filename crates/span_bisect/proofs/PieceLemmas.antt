-- What is read of a cell, and what is put back on the stack.
use Rattle.std.proofs.Common.{arith, ◌≡◌, ℕ, suc, ◌+◌, ◌-◌, ◌*◌, ◌/◌, ◌^◌, ◌<◌, ◌≤◌, List, [], ◌∷◌, ◌++◌, length, Option, None, Some, IfSome, sym, subst, inl, inr}
use Rattle.std.proofs.lemmas.Bool.{cases_lt}
use Rattle.std.proofs.lemmas.List.{length-append}
use Rattle.sgp4_model.specs.Certified.{TrackRecord}
use Rattle.sgp4_model.specs.declared.span.Span.{Span}
use Rattle.span_bisect.specs.Part.{IsPart}
use Rattle.span_bisect.specs.Pieces.{IsPieces}
use Rattle.span_bisect.specs.Stack.{IsCell, IsPut, IsStack, end_of, reach_of}
use Rattle.span_bisect.specs.declared.pieces.Pieces.{Pieces}
use Rattle.span_bisect.specs.declared.stack.Cell.{Cell}
use Rattle.span_bisect.proofs.StackLemmas.{half, narrower, put, rest_width, room, unknown}

-- a cell that is certain where it begins is a part, and behind this lie the cells before it
pub part_known : (track : TrackRecord) (k at : ℕ) (cell : Cell) (part : Span) → IsCell track k at cell → cell.last ≡ Some part → at ≡ cell.to →
    IsPart track at part
part_known track k at cell part h e f = rw f (rw e at h.last)

pub behind : (track : TrackRecord) (cell : Cell) (part : Span) (rest : List Cell) → IsStack track (end_of cell) rest → cell.last ≡ Some part →
    IsStack track part.to rest
behind track cell part rest h e = rw e at h

-- the cells before one of which nothing is known lie behind it
pub free : (track : TrackRecord) (cell : Cell) (rest : List Cell) → IsStack track (end_of cell) rest → cell.last ≡ None → IsStack track cell.to rest
free track cell rest h e = rw e at h

not_before : (track : TrackRecord) (tick : ℕ) (part : Option Span) → IfSome part (IsPart track tick) → tick ≤ reach_of tick part
not_before track tick None h = omega arith
not_before track tick (Some part) h = omega (arith, h.longer)

-- the stack with the rest of a cell, and the cells that may be put behind it
pub record IsAfter (track : TrackRecord) (cut width : ℕ) (cells : List Cell) : Type 0 where
  pub stack : IsStack track cut cells
  pub room : length cells ≤ 35
  pub next : (w : ℕ) → w ≤ width / 2 → w * 2 ^ length cells ≤ 2 ^ 34

-- the rest of a cell is put on the stack
pub rest_put : (track : TrackRecord) (at to : ℕ) (pieces : Pieces) (old new : List Cell) → IsStack track to old →
    IsCell track (length old) at (record { to = to; last = None }) → IsPieces track at to pieces → IsPut pieces.cut pieces.rest old new →
    IsAfter track pieces.cut (to - at) new
rest_put track at to pieces old new h n p put_rest = elim (cases_lt pieces.cut (end_of pieces.rest)) [
  | inl l ↦ some l
  | inr l ↦ none l
]
  where
    seldom : length old ≤ 34
    seldom = let l : 0 < to - at = omega (arith, n.longer) in room (to - at) (length old) l n.width

    inside : pieces.rest.to ≤ to
    inside = omega (arith, not_before track pieces.rest.to pieces.rest.last p.last, p.ends)

    some : pieces.cut < end_of pieces.rest → IsAfter track pieces.cut (to - at) new
    some l =
        let e : length (old ++ pieces.rest ∷ []) ≡ suc (length old) = omega (arith, length-append old (pieces.rest ∷ [])) in
        let small : pieces.rest.to - pieces.cut ≤ to - at = omega (arith, inside, p.progress) in
        rw (put_rest.more l) (record {
          stack = put track pieces.cut old pieces.rest (subst (λ t. IsStack track t old) (sym p.ends) h) (record {
            order = p.order.1;
            longer = l;
            width = rest_width pieces.cut pieces.rest.to (to - at) (length old) pieces.rest.last small p.rest n.width;
            last = p.last;
          });
          room = omega (arith, e, seldom);
          next = λ v b. rw e (half v (to - at) (length old) b n.width);
        })

    none : end_of pieces.rest ≤ pieces.cut → IsAfter track pieces.cut (to - at) new
    none l =
        let e : to ≡ pieces.cut = omega (arith, l, p.ends, p.order.1, inside) in
        rw (put_rest.same l) (record {
          stack = subst (λ t. IsStack track t old) e h;
          room = omega (arith, seldom);
          next = λ v b. narrower v (to - at) (length old) (omega (arith, b)) n.width;
        })

-- and then the next cell, behind the first piece
pub next_put : (track : TrackRecord) (at to : ℕ) (pieces : Pieces) (part : Span) (old new : List Cell) →
    IsPut part.to (record { to = pieces.cut; last = None }) old new → IsAfter track pieces.cut (to - at) old → IsPieces track at to pieces →
    pieces.first ≡ Some part → IsStack track part.to new
next_put track at to pieces part old new put_next h p e = elim (cases_lt part.to pieces.cut) [
  | inl l ↦ rw (put_next.more l) (put track part.to old (record { to = pieces.cut; last = None }) h.stack (next_cell l))
  | inr l ↦ rw (put_next.same l) (subst (λ t. IsStack track t old) (omega (arith, l, order)) h.stack)
]
  where
    order : part.to ≤ pieces.cut
    order = rw e at p.order.0

    next_cell : part.to < pieces.cut → IsCell track (length old) part.to (record { to = pieces.cut; last = None })
    next_cell l =
        let b : pieces.cut ≤ part.to + (to - at) / 2 = rw e at p.half in
        unknown track (length old) part.to pieces.cut l (h.next (pieces.cut - part.to) (omega (arith, b)))

-- or it is read at once
pub next_read : (track : TrackRecord) (at to : ℕ) (pieces : Pieces) (cells : List Cell) → IsAfter track pieces.cut (to - at) cells →
    IsPieces track at to pieces → pieces.first ≡ None → IsCell track (length cells) at (record { to = pieces.cut; last = None })
next_read track at to pieces cells h p e =
    let b : pieces.cut ≤ at + (to - at) / 2 = rw e at p.half in
    unknown track (length cells) at pieces.cut p.progress (h.next (pieces.cut - at) (omega (arith, b)))
