-- Two small plans, by computing.
use Rattle.std.proofs.Common.{refl, arith, List, [], ◌∷◌, length, ◌≤◌, All, ℕ, suc, zero, codes}
use Rattle.std.proofs.lemmas.List.Elements.{All-cons}
use Rattle.elements.specs.Window.{IsWindow}
use Rattle.sgp4_model.specs.declared.span.Mark.{Mark}
use Rattle.sgp4_model.specs.declared.span.Mark.TheVariants.{Yes, No, Undecided}
use Rattle.sgp4_model.specs.Records.{AnswerRecord, unresolved, decays}
use Rattle.jiff_core.proofs.SignedLemmas.{signed_arith}
use Rattle.civil_time.specs.InstantText.{instant_text, date_text, clock_text, fixed_digits}
use Rattle.civil_time.specs.CivilDate.{date_of_day, date_from_year, date_from_month}
use Rattle.catalogue.specs.Entries.{IsName, IsPrintable}
use Rattle.pass_text.specs.DayLayout.{window_line, span_line}
use Rattle.plan_text.specs.GridLayout.{count_line, spans_line}
use Rattle.plan_text.specs.HeadLines.{offset_line, station_line}
use Rattle.plan_text.specs.Plan.{AnswerIsWithin, IsCounted, IsRow, IsSatellite, IsWithin}
use Rattle.plan_text.specs.RowLines.{unresolved_words, answer_words, lit_line, pair_line}
use Rattle.pass_text.specs.SatLine.{sat_line}
use Rattle.plan_text.specs.TableLines.{table_line, pass_line}
use Rattle.plan_text.specs.Timetable.{timetable}
use Rattle.std.specs.Fmt.{digits}
use Rattle.station_file.specs.Rows as stations
use Rattle.rows_plan_text.specs.SmallPlans.{SmallPlans, hour, span, row, refused_satellite, first_satellite, second_satellite}

-- a list of one holds what its one does
one : {X : Type 0} (P : X → Type 0) (x : X) → P x → All P (x ∷ [])
one P x h zero d k = h
one P x h (suc i) d k = absurd (omega arith)

-- a list of none
none : {X : Type 0} (P : X → Type 0) → All P []
none P i d k = absurd (omega arith)

-- the hour is a window
hour_is : IsWindow hour
hour_is = record {
  start = (omega (arith, signed_arith), omega (arith, signed_arith));
  whole = refl;
  least = omega arith;
  most = omega arith;
  resolution = record { least = omega arith; most = omega arith; whole = refl };
  «end» = (omega (arith, signed_arith), omega (arith, signed_arith));
}

-- a byte that is printable
printable : (byte : ℕ) → 32 ≤ byte → byte ≤ 126 → IsPrintable byte
printable byte low high = record { least = low; most = high }

-- a dash is a name
dash_is : IsName (45 ∷ [])
dash_is = record { least = omega arith; most = omega arith; printable = one IsPrintable 45 (printable 45 (omega arith) (omega arith)) }

-- so are two letters and a blank
letters_are : IsName (65 ∷ 32 ∷ 66 ∷ [])
letters_are = record {
  least = omega arith;
  most = omega arith;
  printable = All-cons IsPrintable 65 (32 ∷ 66 ∷ []) (printable 65 (omega arith) (omega arith)) (All-cons IsPrintable 32 (66 ∷ []) (printable 32 (omega arith) (omega arith)) (one IsPrintable 66 (printable 66 (omega arith) (omega arith))));
}

-- a span in the hour
within : (mark : Mark) (from to : ℕ) → from ≤ 36_000_000 → to ≤ 36_000_000 → IsWithin 36_000_000 (span mark from to)
within mark from to p q = record { from = p; to = q }

-- a row of one span over the hour
whole_row : (mark : Mark) → IsRow 36_000_000 (row 1 (span mark 0 36_000_000 ∷ []))
whole_row mark = record { answer = tt; counted = refl; most = omega arith; spans = one (IsWithin 36_000_000) (span mark 0 36_000_000) (within mark 0 36_000_000 (omega arith) (omega arith)) }

-- a row without spans
empty_row : (answer : AnswerRecord) → AnswerIsWithin 36_000_000 answer → IsCounted answer [] → IsRow 36_000_000 (record { answer = answer; list = [] })
empty_row answer h k = record { answer = h; counted = k; most = omega arith; spans = none (IsWithin 36_000_000) }

-- the satellite that decays
first_is : IsSatellite 36_000_000 2 first_satellite
first_is = record {
  number = omega arith;
  name = letters_are;
  rows = (empty_row (decays 5) (omega arith) refl, All-cons (IsRow 36_000_000) (row 1 (span Yes 0 36_000_000 ∷ [])) (row 1 (span No 0 36_000_000 ∷ []) ∷ []) (whole_row Yes) (one (IsRow 36_000_000) (row 1 (span No 0 36_000_000 ∷ [])) (whole_row No)), refl);
}

-- a row of light
lit_is : IsRow 36_000_000 (row 2 (span Yes 0 9 ∷ span No 9 36_000_000 ∷ []))
lit_is = record {
  answer = tt;
  counted = refl;
  most = omega arith;
  spans = All-cons (IsWithin 36_000_000) (span Yes 0 9) (span No 9 36_000_000 ∷ []) (within Yes 0 9 (omega arith) (omega arith)) (one (IsWithin 36_000_000) (span No 9 36_000_000) (within No 9 36_000_000 (omega arith) (omega arith)));
}

-- a row of three spans
three_are : IsRow 36_000_000 (row 3 (span Yes 0 1 ∷ span Undecided 1 10_001 ∷ span Yes 10_001 36_000_000 ∷ []))
three_are = record {
  answer = tt;
  counted = refl;
  most = omega arith;
  spans = All-cons (IsWithin 36_000_000) (span Yes 0 1) (span Undecided 1 10_001 ∷ span Yes 10_001 36_000_000 ∷ []) (within Yes 0 1 (omega arith) (omega arith)) (All-cons (IsWithin 36_000_000) (span Undecided 1 10_001) (span Yes 10_001 36_000_000 ∷ []) (within Undecided 1 10_001 (omega arith) (omega arith)) (one (IsWithin 36_000_000) (span Yes 10_001 36_000_000) (within Yes 10_001 36_000_000 (omega arith) (omega arith))));
}

-- the satellite that is unresolved
second_is : IsSatellite 36_000_000 2 second_satellite
second_is = record {
  number = omega arith;
  name = dash_is;
  rows = (lit_is, All-cons (IsRow 36_000_000) (row 3 (span Yes 0 1 ∷ span Undecided 1 10_001 ∷ span Yes 10_001 36_000_000 ∷ [])) (record { answer = unresolved 3 10_004; list = [] } ∷ []) three_are (one (IsRow 36_000_000) (record { answer = unresolved 3 10_004; list = [] }) (empty_row (unresolved 3 10_004) (omega arith, omega arith) refl)), refl);
}

-- a short name
short : (name : List ℕ) → 1 ≤ length name → length name ≤ 64 → stations.IsName name
short name low high = record { least = low; most = high }

-- each by computing
pub small_plans : SmallPlans
unfolding window_line offset_line station_line sat_line lit_line pair_line answer_words unresolved_words span_line table_line pass_line count_line spans_line timetable instant_text date_text clock_text fixed_digits date_of_day date_from_year date_from_month digits
small_plans = record {
  refused_is_plan = record {
    window = hour_is;
    offset = (omega (arith, signed_arith), omega (arith, signed_arith));
    least = omega arith;
    most = omega arith;
    names = one stations.IsName (codes "Pole") (short (codes "Pole") (omega arith) (omega arith));
    few = omega arith;
    satellites = one (IsSatellite 36_000_000 1) refused_satellite (record { number = omega arith; name = dash_is; rows = tt });
  };
  planned_is_plan = record {
    window = hour_is;
    offset = (omega (arith, signed_arith), omega (arith, signed_arith));
    least = omega arith;
    most = omega arith;
    names = All-cons stations.IsName (codes "Equator") ((78 ∷ 200 ∷ []) ∷ []) (short (codes "Equator") (omega arith) (omega arith)) (one stations.IsName (78 ∷ 200 ∷ []) (short (78 ∷ 200 ∷ []) (omega arith) (omega arith)));
    few = omega arith;
    satellites = All-cons (IsSatellite 36_000_000 2) first_satellite (second_satellite ∷ []) first_is (one (IsSatellite 36_000_000 2) second_satellite second_is);
  };
  refused_text = refl;
  planned_text = refl;
  counts = refl;
  counts_text = refl;
}
