-- The ticks of a certified answer lie in its window.
use Rattle.std.proofs.Common.{◌≡◌, arith, ℕ, ◌≤◌, List, [], ◌∷◌, All}
use Rattle.std.proofs.lemmas.List.Elements.{All-cons}
use Rattle.sgp4_model.specs.Certified.{IsCertified, Leads, TrackRecord}
use Rattle.sgp4_model.specs.Records.{AnswerRecord, spans, unresolved, full, decays}
use Rattle.sgp4_model.specs.declared.span.Span.{Span}
use Rattle.exact.specs.Rational.{ℚ}
use Rattle.elements.specs.Window.{WindowRecord}
use Rattle.day_command.specs.Day.{IsDayResult, IsInside}

-- spans that lead from one tick to another lie below the other
leads_up : (from to : ℕ) (list : List Span) → Leads from list to → from ≤ to
leads_up from to [] h = omega (arith, h)
leads_up from to (s ∷ rest) h = let up = leads_up s.to to rest h.2 in omega (arith, h.0, h.1, up)

nothing_inside : (to : ℕ) → All (IsInside to) []
nothing_inside to k d h = absurd (omega (arith, h))

leads_inside : (from to : ℕ) (list : List Span) → Leads from list to → All (IsInside to) list
leads_inside from to [] h = nothing_inside to
leads_inside from to (s ∷ rest) h =
    let up = leads_up s.to to rest h.2 in
    All-cons (IsInside to) s rest (record { from = omega (arith, h.1, up); to = up }) (leads_inside s.to to rest h.2)

-- the result of an answer that is certified for the window's ticks, of a track that sinks nowhere
pub result_is_inside : (window : WindowRecord) (track : TrackRecord) (resolution slots used : ℕ) (answer : AnswerRecord) (list : List Span) → track.ticks ≡ window.ticks →
    ((place : ℚ) → ¬ (track.sinks place)) → IsCertified track resolution slots used answer list → IsDayResult (record { window = window; answer = answer; list = list })
result_is_inside window track resolution slots used (spans count) list e n h = record { answer = tt; spans = rw (← e) (leads_inside 0 track.ticks list h.0.tiles) }
result_is_inside window track resolution slots used (unresolved from to) list e n h = record {
  answer = (omega (arith, e, h.0.longer, h.0.inside), omega (arith, e, h.0.inside));
  spans = rw h.1 (nothing_inside window.ticks);
}
result_is_inside window track resolution slots used (full at) list e n h = record { answer = omega (arith, e, h.0.before_the_end); spans = rw h.1 (nothing_inside window.ticks) }
result_is_inside window track resolution slots used (decays at) list e n h = absurd (n h.0.sinks.0 h.0.sinks.1.1)
