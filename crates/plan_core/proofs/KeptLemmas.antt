-- What a pool that keeps its tracks still says of answers and satellites, and what a row that is made adds.
use Rattle.std.proofs.Common.{◌≡◌, ℕ, ◌+◌, refl, sym, ap, ◌∙◌, arith, add-zero, List, [], ◌∷◌, length, map, All, Option, None, Some}
use Rattle.std.proofs.lemmas.List.Elements.{All-cons, All-head, All-nil, All-tail}
use Rattle.plan_core.specs.Kept.{HoldsRows, IsKept, IsRowMade}
use Rattle.plan_core.specs.State.{SatState, row_of, satellite_of, standing_by}
use Rattle.plan_text.specs.Plan.{RowRecord, planned}
use Rattle.sgp4_model.specs.Certified.{TrackRecord}
use Rattle.sgp4_shape.specs.declared.fault.SatFault.{SatFault}
use Rattle.span_bisect.specs.Answer.{IsHeld, IsPoolAfter}
use Rattle.span_bisect.specs.declared.answer.TrackAnswer.{TrackAnswer}
use Rattle.span_bisect.specs.declared.answer.TrackAnswer.TheVariants.{Spans, Unresolved, Full, Decays}
use Rattle.span_pool.proofs.HeldLemmas.{length_held}
use Rattle.span_pool.specs.Record.{PoolRecord}
use Rattle.span_pool.specs.Pool.{slots_used}
use Rattle.span_pool.specs.declared.track.Track.{Track}

-- a pool keeps its own tracks
pub kept_same : (pool : PoolRecord) → IsKept pool pool
kept_same pool = record { slots = refl; held = λ other h. (h, refl) }

-- what is kept twice is kept
pub kept_twice : (old mid new : PoolRecord) → IsKept old mid → IsKept mid new → IsKept old new
kept_twice old mid new a b = record {
  slots = b.slots ∙ a.slots;
  held = λ other h. let first = a.held other h in let next = b.held other first.0 in (next.0, next.1 ∙ first.1);
}

-- an answer whose track was held is held still, with the same row
pub still_answer : (old new : PoolRecord) → IsKept old new → (answer : TrackAnswer) → IsHeld old answer → IsHeld new answer × (row_of new answer ≡ row_of old answer)
still_answer old new k (Spans track) h = let s = k.held track h in (s.0, λ i. record { answer = (row_of old (Spans track)).answer; list = s.1 i })
still_answer old new k (Unresolved from to) h = (tt, refl)
still_answer old new k (Full at) h = (tt, refl)
still_answer old new k (Decays at) h = (tt, refl)

-- so are several
pub still_answers : (old new : PoolRecord) → IsKept old new → (answers : List TrackAnswer) → All (IsHeld old) answers → All (IsHeld new) answers × (map (row_of new) answers ≡ map (row_of old) answers)
still_answers old new k [] h = (All-nil (IsHeld new), refl)
still_answers old new k (first ∷ rest) h =
    let one = still_answer old new k first (All-head (IsHeld old) first rest h) in
    let more = still_answers old new k rest (All-tail (IsHeld old) first rest h) in
    (All-cons (IsHeld new) first rest one.0 more.0, λ i. one.1 i ∷ more.1 i)

-- what is made of a satellite stays
still_standing : (old new : PoolRecord) → IsKept old new → (lit : TrackAnswer) (pairs : List TrackAnswer) (fate : Option SatFault) → (fate ≡ None → IsHeld old lit) → (fate ≡ None → All (IsHeld old) pairs) → standing_by new lit pairs fate ≡ standing_by old lit pairs fate
still_standing old new k lit pairs None h p = λ i. planned ((still_answer old new k lit (h refl)).1 i) ((still_answers old new k pairs (p refl)).1 i)
still_standing old new k lit pairs (Some fault) h p = refl

-- a satellite whose rows were held
pub still_satellite : (old new : PoolRecord) → IsKept old new → (satellite : SatState) → HoldsRows old satellite → HoldsRows new satellite × (satellite_of new satellite ≡ satellite_of old satellite)
still_satellite old new k s h = (
  record {
    lit = λ e. (still_answer old new k s.lit (h.lit e)).0;
    pairs = λ e. (still_answers old new k s.pairs (h.pairs e)).0;
  },
  λ i. record { number = s.set.number; name = s.name; standing = still_standing old new k s.lit s.pairs s.fate h.lit h.pairs i },
)

-- so are several
pub still_satellites : (old new : PoolRecord) → IsKept old new → (satellites : List SatState) → All (HoldsRows old) satellites → All (HoldsRows new) satellites × (map (satellite_of new) satellites ≡ map (satellite_of old) satellites)
still_satellites old new k [] h = (All-nil (HoldsRows new), refl)
still_satellites old new k (first ∷ rest) h =
    let one = still_satellite old new k first (All-head (HoldsRows old) first rest h) in
    let more = still_satellites old new k rest (All-tail (HoldsRows old) first rest h) in
    (All-cons (HoldsRows new) first rest one.0 more.0, λ i. one.1 i ∷ more.1 i)

-- what an answer leaves in the pool
record IsLeft (old new : PoolRecord) (answer : TrackAnswer) : Type 0 where
  slots : new.slots ≡ old.slots
  held : IsHeld new answer
  used : slots_used new ≡ slots_used old + length (row_of new answer).list

left : (old new : PoolRecord) (answer : TrackAnswer) → IsPoolAfter old new answer → IsLeft old new answer
left old new (Spans track) h = record {
  slots = ap (λ (p : PoolRecord). p.slots) h.others;
  held = h.holds;
  used = omega (arith, h.used, length_held new track h.holds);
}
left old new (Unresolved from to) h = record { slots = ap (λ (p : PoolRecord). p.slots) h; held = tt; used = ap slots_used h ∙ sym (add-zero (slots_used old)) }
left old new (Full at) h = record { slots = ap (λ (p : PoolRecord). p.slots) h; held = tt; used = ap slots_used h ∙ sym (add-zero (slots_used old)) }
left old new (Decays at) h = record { slots = ap (λ (p : PoolRecord). p.slots) h; held = tt; used = ap slots_used h ∙ sym (add-zero (slots_used old)) }

-- a row that is made keeps the others
pub made_keeps : (track : TrackRecord) (resolution : ℕ) (old new : PoolRecord) (answer : TrackAnswer) → IsRowMade track resolution old new answer → IsKept old new
made_keeps track resolution old new answer h = record { slots = (left old new answer h.pool).slots; held = h.others }

-- its track is held
pub made_held : (track : TrackRecord) (resolution : ℕ) (old new : PoolRecord) (answer : TrackAnswer) → IsRowMade track resolution old new answer → IsHeld new answer
made_held track resolution old new answer h = (left old new answer h.pool).held

-- its spans take slots
pub made_used : (track : TrackRecord) (resolution : ℕ) (old new : PoolRecord) (answer : TrackAnswer) → IsRowMade track resolution old new answer → slots_used new ≡ slots_used old + length (row_of new answer).list
made_used track resolution old new answer h = (left old new answer h.pool).used
