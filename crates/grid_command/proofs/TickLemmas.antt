-- The ticks of a certified plan add up.
use Rattle.std.proofs.Common.{◌≡◌, arith, ℕ, ◌+◌, ◌-◌, ◌*◌, ◌≤◌, List, [], ◌∷◌, length, sym, subst, ap, ◌∙◌}
use Rattle.std.proofs.Math.Nat.{mul-add}
use Rattle.std.proofs.lemmas.List.{append-nil}
use Rattle.std.proofs.lemmas.List.Sums.{count_by-le-length, sum_by-cons}
use Rattle.std.specs.List.{count_by}
use Rattle.std.specs.Prelude.{cond}
use Rattle.catalogue.specs.declared.entry.Entry.{Entry}
use Rattle.elements.specs.Elements.{ElementsRecord}
use Rattle.grid_command.specs.Tally.{both, tally_of, tally_of_spans}
use Rattle.grid_command.specs.TickLaw.{TicksAddUp}
use Rattle.grid_command.specs.declared.tally.Tally.{Tally}
use Rattle.grid_command.proofs.FitLemmas.{one_satellite, satellites-append, tally_of_satellites}
use Rattle.grid_command.proofs.TallyLemmas.{rows-append, spans-append}
use Rattle.plan_core.specs.Certificate.{ArePairRows, AreSatellitesOf, IsStanding, SettingRecord, spans_of}
use Rattle.plan_text.specs.Plan.{RowRecord, SatelliteRecord, StandingRecord, pairs_of, planned, refused}
use Rattle.plan_text.specs.Summary.{is_refused}
use Rattle.sgp4_model.specs.Certified.{IsCertified, Leads, TrackRecord}
use Rattle.sgp4_model.specs.Records.{AnswerRecord, spans, unresolved, full, decays}
use Rattle.sgp4_model.specs.declared.span.Mark.{Mark}
use Rattle.sgp4_model.specs.declared.span.Mark.TheVariants.{Yes, No, Undecided}
use Rattle.sgp4_model.specs.declared.span.Span.{Span}
use Rattle.station_file.specs.declared.row.StationRow.{StationRow}

-- the ticks of counted spans, and the counted pairs that are not spans
abbrev ticks_in : Tally → ℕ
ticks_in t = t.visible_ticks + t.hidden_ticks + t.undecided_ticks

abbrev others_in : Tally → ℕ
others_in t = t.unresolved + t.full + t.decays

-- so many windows are counted
abbrev AddUp : ℕ → Tally → ℕ → Type 0
AddUp ticks t windows = ticks_in t + ticks * others_in t ≡ ticks * windows

-- the windows of two counts
both_add_up : (ticks : ℕ) (a b : Tally) (n m : ℕ) → AddUp ticks a n → AddUp ticks b m → AddUp ticks (both a b) (n + m)
both_add_up ticks a b n m h g =
    let left = mul-add ticks (others_in a) (others_in b) in
    let right = mul-add ticks n m in
    let sums : others_in (both a b) ≡ others_in a + others_in b = omega arith in
    let times = ap (λ k. ticks * k) sums in
    omega (arith, h, g, left, right, times)

-- ---- rows
span_ticks : (mark : Mark) (from to : ℕ) → ticks_in (tally_of_spans (record { mark = mark; from = from; to = to } ∷ [])) ≡ to - from
span_ticks Yes from to = omega arith
span_ticks No from to = omega arith
span_ticks Undecided from to = omega arith

-- spans that lead from one tick to another have the ticks between them
leads_ticks : (from to : ℕ) (list : List Span) → Leads from list to → from + ticks_in (tally_of_spans list) ≡ to
leads_ticks from to [] h = omega (arith, h)
leads_ticks from to (s ∷ rest) h =
    let others = leads_ticks s.to to rest h.2 in
    omega (arith, h.0, h.1, others, span_ticks s.mark s.from s.to, ap ticks_in (spans-append (s ∷ []) rest))

-- a certified row is one window
row_adds_up : (track : TrackRecord) (resolution slots used : ℕ) (answer : AnswerRecord) (list : List Span) → IsCertified track resolution slots used answer list →
    AddUp track.ticks (tally_of (record { answer = answer; list = list } ∷ [])) 1
row_adds_up track resolution slots used (spans count) list h =
    omega (arith, leads_ticks 0 track.ticks list h.0.tiles, ap (λ l. ticks_in (tally_of_spans l)) (append-nil list))
row_adds_up track resolution slots used (unresolved from to) list h = rw h.1 (omega arith)
row_adds_up track resolution slots used (full at) list h = rw h.1 (omega arith)
row_adds_up track resolution slots used (decays at) list h = rw h.1 (omega arith)

rows_add_up : (setting : SettingRecord) (slots : ℕ) (set : ElementsRecord) (used : ℕ) (stations : List StationRow) (rows : List RowRecord) → ArePairRows setting slots set used stations rows →
    AddUp setting.window.ticks (tally_of rows) (length stations)
rows_add_up setting slots set used [] [] h = omega arith
rows_add_up setting slots set used [] (r ∷ rs) h = absurd h
rows_add_up setting slots set used (s ∷ ss) [] h = absurd h
rows_add_up setting slots set used (s ∷ ss) (r ∷ rs) h =
    let ticks = setting.window.ticks in
    let one = row_adds_up _ setting.window.resolution slots used r.answer r.list h.0 in
    let others = rows_add_up setting slots set (used + length r.list) ss rs h.1 in
    let windows : 1 + length ss ≡ length (s ∷ ss) = omega arith in
    subst (AddUp ticks (tally_of (r ∷ rs))) windows
    (subst (λ t. AddUp ticks t (1 + length ss)) (sym (rows-append (r ∷ []) rs)) (both_add_up ticks (tally_of (r ∷ [])) (tally_of rs) 1 (length ss) one others))

-- ---- satellites
-- how many satellites are refused
abbrev pub refused_among : List SatelliteRecord → ℕ
refused_among satellites = count_by (λ (satellite : SatelliteRecord). is_refused satellite.standing) satellites

-- one that is refused has no window, another has one for each station
standing_adds_up : (setting : SettingRecord) (slots used : ℕ) (set : ElementsRecord) (standing : StandingRecord) → IsStanding setting slots set used standing →
    AddUp setting.window.ticks (tally_of (pairs_of standing)) (length setting.stations.rows * (1 - cond (is_refused standing) 1 0))
standing_adds_up setting slots used set (refused fault) h = omega arith
standing_adds_up setting slots used set (planned lit pairs) h =
    let one = rows_add_up setting slots set (used + length lit.list) setting.stations.rows pairs h.2 in
    let times : length setting.stations.rows * 1 ≡ length setting.stations.rows = omega arith in
    subst (λ n. AddUp setting.window.ticks (tally_of pairs) n) (sym times) one

-- the windows of one more satellite
one_more : (stations before left gone all out : ℕ) → left ≤ before → gone ≤ 1 → all ≡ before + 1 → out ≡ gone + left →
    stations * (1 - gone) + stations * (before - left) ≡ stations * (all - out)
one_more stations before left gone all out few one e f =
    let sum : 1 - gone + (before - left) ≡ all - out = omega (arith, few, one, e, f) in
    sym (mul-add stations (1 - gone) (before - left)) ∙ ap (λ n. stations * n) sum

refused_once : (standing : StandingRecord) → cond (is_refused standing) 1 0 ≤ 1
refused_once (refused fault) = omega arith
refused_once (planned lit pairs) = omega arith

satellites_add_up : (setting : SettingRecord) (slots used : ℕ) (entries : List Entry) (satellites : List SatelliteRecord) → AreSatellitesOf setting slots used entries satellites →
    AddUp setting.window.ticks (tally_of_satellites satellites) (length setting.stations.rows * (length satellites - refused_among satellites))
satellites_add_up setting slots used [] [] h = omega arith
satellites_add_up setting slots used [] (s ∷ ss) h = absurd h
satellites_add_up setting slots used (e ∷ es) [] h = absurd h
satellites_add_up setting slots used (e ∷ es) (s ∷ ss) h =
    let ticks = setting.window.ticks in
    let stations = length setting.stations.rows in
    let gone : ℕ = cond (is_refused s.standing) 1 0 in
    let one = standing_adds_up setting slots used e.elements s.standing h.0.standing in
    let others = satellites_add_up setting slots (used + spans_of s.standing) es ss h.1 in
    let few = count_by-le-length (λ (satellite : SatelliteRecord). is_refused satellite.standing) ss in
    let windows : stations * (1 - gone) + stations * (length ss - refused_among ss) ≡ stations * (length (s ∷ ss) - refused_among (s ∷ ss)) =
    one_more stations (length ss) (refused_among ss) gone (length (s ∷ ss)) (refused_among (s ∷ ss)) few (refused_once s.standing) (omega arith)
    (sum_by-cons (λ (satellite : SatelliteRecord). cond (is_refused satellite.standing) 1 0) s ss)
    in
    subst (λ n. AddUp ticks (tally_of_satellites (s ∷ ss)) n) windows
    (subst (λ t. AddUp ticks t (stations * (1 - gone) + stations * (length ss - refused_among ss))) (sym (satellites-append (s ∷ []) ss))
    (both_add_up ticks (tally_of_satellites (s ∷ [])) (tally_of_satellites ss) (stations * (1 - gone)) (stations * (length ss - refused_among ss))
    (subst (λ t. AddUp ticks t (stations * (1 - gone))) (sym (one_satellite s)) one) others))

pub ticks_add_up : TicksAddUp
ticks_add_up slots entries setting plan cells h = satellites_add_up setting slots 0 entries plan.satellites h.satellites
