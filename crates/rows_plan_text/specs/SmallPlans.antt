-- The definitions of plans, on two small ones.
use Rattle.std.specs.Prelude.{◌≡◌, ℕ, pos, neg_ℤ, List, [], ◌∷◌, ◌++◌, codes}
use Rattle.elements.specs.Window.{WindowRecord}
use Rattle.sgp4_model.specs.declared.span.Mark.{Mark}
use Rattle.sgp4_model.specs.declared.span.Mark.TheVariants.{Yes, No, Undecided}
use Rattle.sgp4_model.specs.declared.span.Span.{Span}
use Rattle.sgp4_model.specs.Records.{spans, unresolved, decays}
use Rattle.sgp4_shape.specs.declared.fault.SatFault.TheVariants.{Deep}
use Rattle.plan_text.specs.GridLayout.{grid_layout}
use Rattle.plan_text.specs.Plan.{RowRecord, SatelliteRecord, PlanRecord, refused, planned, IsPlan}
use Rattle.plan_text.specs.PlanLayout.{plan_layout}
use Rattle.plan_text.specs.Summary.{summary_of}

-- an hour from 2000-06-27T00:00:00, by the second
abbrev pub hour : WindowRecord
hour = record { start = pos 15_336_000_000_000_000; ticks = 36_000_000; resolution = 10_000 }

-- a satellite that is refused
abbrev pub refused_satellite : SatelliteRecord
refused_satellite = record { number = 90001; name = codes "-"; standing = refused Deep }

-- one station, and this satellite
abbrev pub one_refused : PlanRecord
one_refused = record {
  window = hour;
  offset = pos 0;
  stations = codes "Pole" ∷ [];
  satellites = refused_satellite ∷ [];
}

-- a span
abbrev pub span : Mark → ℕ → ℕ → Span
span mark from to = record { mark = mark; from = from; to = to }

-- a row that spans tile
abbrev pub row : ℕ → List Span → RowRecord
row count list = record { answer = spans count; list = list }

-- a row that ends in decay, a visible row and a hidden one
abbrev pub first_satellite : SatelliteRecord
first_satellite = record {
  number = 7;
  name = codes "A B";
  standing = planned (record { answer = decays 5; list = [] }) (row 1 (span Yes 0 36_000_000 ∷ []) ∷ row 1 (span No 0 36_000_000 ∷ []) ∷ []);
}

-- sunlit and then dark, a row with an undecided span, and a row that is unresolved
abbrev pub second_satellite : SatelliteRecord
second_satellite = record {
  number = 5;
  name = codes "-";
  standing = planned (row 2 (span Yes 0 9 ∷ span No 9 36_000_000 ∷ [])) (row 3 (span Yes 0 1 ∷ span Undecided 1 10_001 ∷ span Yes 10_001 36_000_000 ∷ []) ∷ record { answer = unresolved 3 10_004; list = [] } ∷ []);
}

-- two stations, and these satellites, whose contacts at the first station mix
abbrev pub two_planned : PlanRecord
two_planned = record {
  window = hour;
  offset = neg_ℤ (pos 334);
  stations = codes "Equator" ∷ (78 ∷ 200 ∷ []) ∷ [];
  satellites = first_satellite ∷ second_satellite ∷ [];
}

-- what is printed of them, and what is counted
pub record SmallPlans : Type 0 where
  pub refused_is_plan : IsPlan one_refused
  pub planned_is_plan : IsPlan two_planned
  pub refused_text : plan_layout one_refused ≡ codes "PASSPLAN 1\nWINDOW 2000-06-27T00:00:00.0000Z 2000-06-27T01:00:00.0000Z 1\nSTATION 1 Pole\nSAT 90001 DEEP -\nTABLE 1 0\nEND\n"
  pub planned_text : plan_layout two_planned ≡
      codes "PASSPLAN 1\nWINDOW 2000-06-27T00:00:00.0000Z 2000-06-27T01:00:00.0000Z 1\nDUT1 -334\nSTATION 1 Equator\nSTATION 2 N?\nSAT 7 OK A B\nSAT 5 OK -\n"
      ++ (codes "LIT 7 DECAYS 2000-06-27T00:00:00.0005Z\nPAIR 7 1 SPANS 1\nV 2000-06-27T00:00:00.0000Z 2000-06-27T01:00:00.0000Z\nPAIR 7 2 SPANS 1\nH 2000-06-27T00:00:00.0000Z 2000-06-27T01:00:00.0000Z\n"
      ++ (codes "LIT 5 SPANS 2\nS 2000-06-27T00:00:00.0000Z 2000-06-27T00:00:00.0009Z\nD 2000-06-27T00:00:00.0009Z 2000-06-27T01:00:00.0000Z\n"
      ++ (codes "PAIR 5 1 SPANS 3\nV 2000-06-27T00:00:00.0000Z 2000-06-27T00:00:00.0001Z\nU 2000-06-27T00:00:00.0001Z 2000-06-27T00:00:01.0001Z\nV 2000-06-27T00:00:01.0001Z 2000-06-27T01:00:00.0000Z\nPAIR 5 2 UNRESOLVED 2000-06-27T00:00:00.0003Z 2000-06-27T00:00:01.0004Z\n"
      ++ codes "TABLE 1 3\nPASS 2000-06-27T00:00:00.0000Z 2000-06-27T00:00:00.0001Z 5\nPASS 2000-06-27T00:00:00.0000Z 2000-06-27T01:00:00.0000Z 7\nPASS 2000-06-27T00:00:01.0001Z 2000-06-27T01:00:00.0000Z 5\nTABLE 2 0\nEND\n")))
  pub counts : summary_of two_planned 6 ≡ record {
    sats = 2;
    refused = 0;
    visible_spans = 3;
    visible_ticks = 71_990_000;
    hidden_spans = 1;
    hidden_ticks = 36_000_000;
    undecided_spans = 1;
    undecided_ticks = 10_000;
    unresolved = 1;
    full = 0;
    decays = 0;
    cells = 6;
  }
  pub counts_text : grid_layout (summary_of two_planned 6) ≡ codes "PASSGRID 1\nSATS 2\nREFUSED 0\nVISIBLE 3 71990000\nHIDDEN 1 36000000\nUNDECIDED 1 10000\nUNRESOLVED 1\nFULL 0\nDECAYS 0\nCELLS 6\nEND\n"
