-- The stack of a bisection: a cell put on it and taken off, and why 64 places are enough.
use Rattle.std.proofs.Common.{arith, ◌≡◌, ℕ, suc, ◌+◌, ◌-◌, ◌*◌, ◌/◌, ◌^◌, ◌<◌, ◌≤◌, List, [], ◌∷◌, ◌++◌, length, Option, None, Some, IfSome, refl, sym, subst}
use Rattle.std.proofs.Math.Nat.{mul-le-mul_right, pow-le-pow_right, pow-suc, mul_assoc, mul_comm, zero-lt-suc}
use Rattle.sgp4_model.specs.Certified.{TrackRecord}
use Rattle.sgp4_model.specs.declared.span.Span.{Span}
use Rattle.span_bisect.specs.Stack.{IsCell, IsStack, LeadBack, cuts_of, end_of}
use Rattle.span_bisect.specs.declared.stack.Cell.{Cell}

-- a stack with one cell more
put_from : (track : TrackRecord) (k end at : ℕ) (rest : List Cell) (cell : Cell) → LeadBack track k end rest (end_of cell) →
    IsCell track (k + length rest) at cell → LeadBack track k end (rest ++ cell ∷ []) at
put_from track k end at [] cell e n = (sym e, (at, (subst (λ i. IsCell track i at cell) (omega arith) n, refl)))
put_from track k end at (first ∷ rest) cell h n =
    (h.0, (h.1.0, (h.1.1.0, put_from track (suc k) h.1.0 at rest cell h.1.1.1 (subst (λ i. IsCell track i at cell) (omega arith) n))))

pub put : (track : TrackRecord) (at : ℕ) (rest : List Cell) (cell : Cell) → IsStack track (end_of cell) rest → IsCell track (length rest) at cell →
    IsStack track at (rest ++ cell ∷ [])
put track at rest cell h n = put_from track 0 track.ticks at rest cell h (subst (λ i. IsCell track i at cell) (omega arith) n)

-- a stack without its last cell, and this cell
record IsTaken (track : TrackRecord) (k end at : ℕ) (rest : List Cell) (cell : Cell) : Type 0 where
  pub before : LeadBack track k end rest (end_of cell)
  pub last : IsCell track (k + length rest) at cell

taken_from : (track : TrackRecord) (k end at : ℕ) (rest : List Cell) (cell : Cell) → LeadBack track k end (rest ++ cell ∷ []) at →
    IsTaken track k end at rest cell
taken_from track k end at [] cell h = record {
  before = sym h.0;
  last = subst (λ i. IsCell track i at cell) (omega arith) (subst (λ t. IsCell track k t cell) h.1.1.1 h.1.1.0);
}
taken_from track k end at (first ∷ rest) cell h =
    let t = taken_from track (suc k) h.1.0 at rest cell h.1.1.1 in
    record { before = (h.0, (h.1.0, (h.1.1.0, t.before))); last = subst (λ i. IsCell track i at cell) (omega arith) t.last }

pub taken : (track : TrackRecord) (at : ℕ) (rest : List Cell) (cell : Cell) → IsStack track at (rest ++ cell ∷ []) → IsStack track (end_of cell) rest
taken track at rest cell h = (taken_from track 0 track.ticks at rest cell h).before

pub next : (track : TrackRecord) (at : ℕ) (rest : List Cell) (cell : Cell) → IsStack track at (rest ++ cell ∷ []) → IsCell track (length rest) at cell
next track at rest cell h = subst (λ i. IsCell track i at cell) (omega arith) (taken_from track 0 track.ticks at rest cell h).last

below_from : (track : TrackRecord) (k end at : ℕ) (cells : List Cell) → LeadBack track k end cells at → at ≤ end
below_from track k end at [] e = omega (arith, e)
below_from track k end at (first ∷ rest) h = omega (arith, h.0, h.1.1.0.longer, below_from track (suc k) h.1.0 at rest h.1.1.1)

pub below : (track : TrackRecord) (at : ℕ) (cells : List Cell) → IsStack track at cells → at ≤ track.ticks
below track at cells h = below_from track 0 track.ticks at cells h

-- a cell of which nothing is known
pub unknown : (track : TrackRecord) (k from to : ℕ) → from < to → (to - from) * 2 ^ k ≤ 2 ^ 34 → IsCell track k from (record { to = to; last = None })
unknown track k from to l w = record { order = omega (arith, l); longer = l; width = w; last = tt }

-- the first cell of a track
pub first : (track : TrackRecord) → 1 ≤ track.ticks → track.ticks ≤ 8640000000 → IsStack track 0 (record { to = track.ticks; last = None } ∷ [])
first track h k = (refl, (0, (unknown track 0 0 track.ticks (omega arith) (omega arith), refl)))

-- a tick that is not known was cut so seldom that there is room for more
pub room : (width k : ℕ) → 0 < width → width * 2 ^ k ≤ 2 ^ 34 → k ≤ 34
room width k l w = grind (arith, no_more)
  where
    no_more : 35 ≤ k → 1 ≤ 0
    no_more h =
        let p : 2 ^ 35 ≤ 2 ^ k = pow-le-pow_right (zero-lt-suc 1) h in
        let q : 1 * 2 ^ k ≤ width * 2 ^ k = mul-le-mul_right (2 ^ k) (omega arith) in
        omega (arith, p, q, w)

pub narrower : (w width k : ℕ) → w ≤ width → width * 2 ^ k ≤ 2 ^ 34 → w * 2 ^ k ≤ 2 ^ 34
narrower w width k h l = let q : w * 2 ^ k ≤ width * 2 ^ k = mul-le-mul_right (2 ^ k) h in omega (arith, q, l)

halved_width : (half width power bound : ℕ) → half * 2 ≤ width → width * power ≤ bound → half * (power * 2) ≤ bound
halved_width half width power bound h k =
    let e : half * (power * 2) ≡ half * 2 * power = rw (mul_comm power 2, mul_assoc half 2 power) refl in
    let q : half * 2 * power ≤ width * power = mul-le-mul_right power h in
    omega (arith, e, q, k)

pub half : (w width k : ℕ) → w ≤ width / 2 → width * 2 ^ k ≤ 2 ^ 34 → w * 2 ^ suc k ≤ 2 ^ 34
half w width k h l = rw (pow-suc 2 k) (halved_width w width (2 ^ k) (2 ^ 34) (omega arith) l)

-- what is left of a cell behind a cut may be put where the cell was
pub rest_width : (cut end width k : ℕ) (last : Option Span) → end - cut ≤ width → IfSome last (λ _. end ≤ cut + width / 2) →
    width * 2 ^ k ≤ 2 ^ 34 → (end - cut) * 2 ^ cuts_of k last ≤ 2 ^ 34
rest_width cut end width k None l h n = narrower (end - cut) width k l n
rest_width cut end width k (Some part) l h n = half (end - cut) width k (omega (arith, h)) n

-- a cell whose end is certain stays on the stack while its start is read
pub kept : (track : TrackRecord) (k at : ℕ) (cell : Cell) (part : Span) → IsCell track k at cell → cell.last ≡ Some part → IsCell track k cell.to cell
kept track k at cell part h e = record {
  order = omega arith;
  longer = rw e (rw e at h.last).longer;
  width = narrower (cell.to - cell.to) (cell.to - at) (cuts_of k cell.last) (omega arith) h.width;
  last = h.last;
}

-- and its start is the next cell
pub start : (track : TrackRecord) (k at : ℕ) (cell : Cell) (part : Span) → IsCell track k at cell → cell.last ≡ Some part → at < cell.to →
    IsCell track (suc k) at (record { to = cell.to; last = None })
start track k at cell part h e l = unknown track (suc k) at cell.to l (rw e at h.width)

-- a cell of which nothing is known is the next one itself
pub alone : (track : TrackRecord) (k at : ℕ) (cell : Cell) → IsCell track k at cell → cell.last ≡ None → IsCell track k at (record { to = cell.to; last = None })
alone track k at cell h e = unknown track k at cell.to (rw e at h.longer) (rw e at h.width)

-- no cell is left
pub emptied : (track : TrackRecord) (at : ℕ) (cells : List Cell) → IsStack track at cells → length cells ≡ 0 → at ≡ track.ticks
emptied track at [] h e = sym h
emptied track at (first ∷ rest) h e = absurd (omega arith)
