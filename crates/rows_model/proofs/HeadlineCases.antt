-- What a certified row of daylight says.
use Rattle.std.proofs.lemmas.List.Elements.{All-contains}
use Rattle.exact.specs.Rational.{ℚ}
use Rattle.std.specs.Prelude.{ℤ}
use Rattle.sgp4_model.specs.Certified.{IsTrueSpan, TrackRecord}
use Rattle.sgp4_model.specs.DaySolution.{IsDaySolution}
use Rattle.sgp4_model.specs.Time.{IsWithin}
use Rattle.sgp4_model.specs.declared.span.Mark.{Mark}
use Rattle.sgp4_model.specs.declared.span.Span.{Span}
use Rattle.rows_model.specs.Headline.{AreSeen, CertifiedSpansAreTrue}
use Rattle.rows_model.specs.Instants.{IsIn, IsSpanOf}
use Rattle.rows_model.proofs.PartCases.{pairs_make_a_day}

-- a span of a certified row is true
pub true_span : {track : TrackRecord} {mark : Mark} {span : Span} (h : IsSpanOf track mark span) → IsTrueSpan track h.resolution span
true_span {track} {mark} {span} h = All-contains (IsTrueSpan track h.resolution) h.list span h.row.0.each h.here

pub place_in : {span : Span} {x : ℚ} → IsIn span x → IsWithin span.from span.to x
place_in h = record { low = h.from; high = h.to }

-- what a day solution is made of
seen : {lat lon at product : ℚ} {dut1 : ℤ} → IsDaySolution lat lon at dut1 product → AreSeen lat lon at dut1
seen h = record {
  pi = h.pi;
  f = h.of_latitude;
  l = h.of_longitude;
  t = h.turn;
  s = h.sun;
  seen = record { is_pi = h.is_pi; latitude = h.is_latitude; longitude = h.is_longitude; turn = h.is_sidereal; sun = h.is_sun };
}

pub certified_spans_are_true : CertifiedSpansAreTrue
certified_spans_are_true lat lon start dut1 ticks span = record {
  light = λ x pi f l t s one here h. ((true_span one).yes one.is x (place_in here)).each _ (pairs_make_a_day _ _ _ _ _ _ _ _ _ h);
  night = λ x pi f l t s one here h. ((true_span one).no one.is x (place_in here)).each _ (pairs_make_a_day _ _ _ _ _ _ _ _ _ h);
  undecided = λ x pi f l t s one here h. (((true_span one).grazes one.is x (place_in here)).each _ (pairs_make_a_day _ _ _ _ _ _ _ _ _ h)).given;
  sharp = λ x pi f l t s one here h. (((true_span one).grazes one.is x (place_in here)).each _ (pairs_make_a_day _ _ _ _ _ _ _ _ _ h)).sharp;
  some_light = λ x one here. seen ((true_span one).yes one.is x (place_in here)).some.1;
  some_night = λ x one here. seen ((true_span one).no one.is x (place_in here)).some.1;
  some_undecided = λ x one here. seen ((true_span one).grazes one.is x (place_in here)).some.1;
}
