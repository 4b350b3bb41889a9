-- The ticks of a certified plan add up.
use Rattle.std.specs.Prelude.{◌≡◌, ℕ, ◌+◌, ◌-◌, ◌*◌, List, length}
use Rattle.catalogue.specs.declared.entry.Entry.{Entry}
use Rattle.plan_core.specs.Certificate.{IsPlanOf, SettingRecord}
use Rattle.plan_text.specs.Plan.{PlanRecord}
use Rattle.plan_text.specs.Summary.{summary_of}
use Rattle.plan_text.specs.declared.summary.Summary.{Summary}

-- the ticks of all counted spans
abbrev pub span_ticks : Summary → ℕ
span_ticks s = s.visible_ticks + s.hidden_ticks + s.undecided_ticks

-- the pairs that are not spans
abbrev pub other_pairs : Summary → ℕ
other_pairs s = s.unresolved + s.full + s.decays

-- the pairs of satellites that are not refused
abbrev pub pair_count : ℕ → Summary → ℕ
pair_count stations s = stations * (s.sats - s.refused)

-- in a certified plan the spans and the pairs that are not spans, each of the whole window, have the ticks of all pairs
abbrev pub TicksAddUp : Type 0
TicksAddUp =
    (slots : ℕ) (entries : List Entry) (setting : SettingRecord) (plan : PlanRecord) (cells : ℕ) →
    IsPlanOf slots entries setting plan →
    let s = summary_of plan cells in
    span_ticks s + setting.window.ticks * other_pairs s
    ≡ setting.window.ticks * pair_count (length setting.stations.rows) s
