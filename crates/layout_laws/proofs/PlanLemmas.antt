-- What is printed of a plan tells the plan.
use Rattle.std.proofs.Common.{◌≡◌, ◌≢◌, ℕ, zero, suc, ◌<◌, ◌≤◌, ◌^◌, ◌+◌, refl, sym, ap, ◌∙◌, arith, List, [], ◌∷◌, ◌++◌, length, drop, get_or, map, All, codes, ℤ, pos, negsuc, Option, subst}
use Rattle.std.specs.Prelude.{⊤}
use Rattle.std.proofs.lemmas.List.{append_assoc, length-map}
use Rattle.std.proofs.lemmas.List.Elements.{All-tail}
use Rattle.jiff_core.proofs.SignedLemmas.{signed_arith}
use Rattle.jiff_core.specs.Calendar.{IsWithin as IsFromMinus}
use lib.Signed.{mag}
use Rattle.elements.specs.Window.{WindowRecord, IsWindow}
use Rattle.sgp4_model.specs.Records.{AnswerRecord}
use Rattle.sgp4_shape.specs.declared.fault.SatFault.{SatFault}
use Rattle.plan_text.specs.HeadLines.{offset_line, offset_lines, printed_name, station_line, station_lines}
use Rattle.plan_text.specs.Plan.{StandingRecord, refused, planned, SatelliteRecord, PlanRecord, fate_of, HasRows, IsSatellite, IsPlan}
use Rattle.plan_text.specs.PlanLayout.{plan_tail}
use Rattle.plan_text.specs.RowLines.{lit_line, lit_letter, lines_after, lit_block, pair_blocks, standing_blocks, row_blocks}
use Rattle.pass_text.specs.SatLine.{sat_line}
use Rattle.plan_text.specs.SatLine.{sat_lines}
use Rattle.plan_text.specs.TableLines.{table_line, pass_lines, table_block, table_blocks}
use Rattle.plan_text.specs.Timetable.{timetable}
use Rattle.layout_laws.specs.PlanLaw.{LayoutsTellPlans}
use Rattle.layout_laws.proofs.LineLemmas.{window-then, offset_line-then, sat-then, station-then}
use Rattle.layout_laws.proofs.RowLemmas.{lit_block-then, pair_blocks-then}

-- an offset is of 64 bits
small_offset : (z : ℤ) → IsFromMinus 900 z → mag z < 2 ^ 63
small_offset (pos n) h = omega (arith, signed_arith, h.0, h.1)
small_offset (negsuc n) h = omega (arith, signed_arith, h.0, h.1)

-- an offset, where what follows begins with an S
begins : (z : ℤ) (r : List ℕ) → get_or (offset_line z ++ r) 0 0 ≡ 68
unfolding offset_line
begins z r = refl

-- two offsets, where what follows begins with an S
offset-then : (y z : ℤ) (r s : List ℕ) → IsFromMinus 900 y → IsFromMinus 900 z → get_or r 0 0 ≡ 83 → get_or s 0 0 ≡ 83 → offset_lines y ++ r ≡ offset_lines z ++ s → (y ≡ z) × (r ≡ s)
offset-then (pos zero) (pos zero) r s h k p q e = (refl, e)
offset-then (pos zero) (pos (suc n)) r s h k p q e = absurd (omega (arith, ap (λ t. get_or t 0 0) e, begins (pos (suc n)) s))
offset-then (pos zero) (negsuc n) r s h k p q e = absurd (omega (arith, ap (λ t. get_or t 0 0) e, begins (negsuc n) s))
offset-then (pos (suc m)) (pos zero) r s h k p q e = absurd (omega (arith, ap (λ t. get_or t 0 0) e, begins (pos (suc m)) r))
offset-then (pos (suc m)) (pos (suc n)) r s h k p q e = offset_line-then (pos (suc m)) (pos (suc n)) r s (small_offset (pos (suc m)) h) (small_offset (pos (suc n)) k) e
offset-then (pos (suc m)) (negsuc n) r s h k p q e = offset_line-then (pos (suc m)) (negsuc n) r s (small_offset (pos (suc m)) h) (small_offset (negsuc n) k) e
offset-then (negsuc m) (pos zero) r s h k p q e = absurd (omega (arith, ap (λ t. get_or t 0 0) e, begins (negsuc m) r))
offset-then (negsuc m) (pos (suc n)) r s h k p q e = offset_line-then (negsuc m) (pos (suc n)) r s (small_offset (negsuc m) h) (small_offset (pos (suc n)) k) e
offset-then (negsuc m) (negsuc n) r s h k p q e = offset_line-then (negsuc m) (negsuc n) r s (small_offset (negsuc m) h) (small_offset (negsuc n) k) e

-- the second byte of a line of a station is a T
second : (index : ℕ) (name r : List ℕ) → get_or (station_line index name ++ r) 1 0 ≡ 84
unfolding station_line
second index name r = refl

-- the first is an S
first : (index : ℕ) (name r : List ℕ) → get_or (station_line index name ++ r) 0 0 ≡ 83
unfolding station_line
first index name r = refl

-- stations, where what follows has another second byte
stations-then : (index : ℕ) (xs ys : List (List ℕ)) (r s : List ℕ) → index + length xs < 2 ^ 64 → get_or r 1 0 ≢ 84 → get_or s 1 0 ≢ 84 → station_lines index xs ++ r ≡ station_lines index ys ++ s → (map printed_name xs ≡ map printed_name ys) × (r ≡ s)
stations-then index [] [] r s few p q e = (refl, e)
stations-then index [] (y ∷ ys) r s few p q e =
    absurd (p (ap (λ t. get_or t 1 0) (e ∙ append_assoc (station_line index y) (station_lines (index + 1) ys) s) ∙ second index y _))
stations-then index (x ∷ xs) [] r s few p q e =
    absurd (q (sym (ap (λ t. get_or t 1 0) (sym (append_assoc (station_line index x) (station_lines (index + 1) xs) r) ∙ e)) ∙ second index x _))
stations-then index (x ∷ xs) (y ∷ ys) r s few p q e =
    let name = station-then index x y _ _ (omega arith) (sym (append_assoc (station_line index x) (station_lines (index + 1) xs) r) ∙ e ∙ append_assoc (station_line index y) (station_lines (index + 1) ys) s) in
    let rest = stations-then (index + 1) xs ys r s (omega arith) p q name.1 in
    (rw (name.0, rest.0) refl, rest.1)

-- the heads of satellites are the same: numbers, names and fates
AreSameHeads : List SatelliteRecord → List SatelliteRecord → Type 0
AreSameHeads [] [] = ⊤
AreSameHeads [] (y ∷ ys) = ⊥
AreSameHeads (x ∷ xs) [] = ⊥
AreSameHeads (x ∷ xs) (y ∷ ys) = (x.number ≡ y.number) × (x.name ≡ y.name) × (fate_of x.standing ≡ fate_of y.standing) × AreSameHeads xs ys

-- the line of a satellite begins with an S
starts : (number : ℕ) (fate : Option SatFault) (name r : List ℕ) → get_or (sat_line number fate name ++ r) 0 0 ≡ 83
unfolding sat_line
starts number fate name r = refl

-- satellites, where what follows begins with another letter
heads-then : (t m u n : ℕ) (xs ys : List SatelliteRecord) (r s : List ℕ) → All (IsSatellite t m) xs → All (IsSatellite u n) ys → get_or r 0 0 ≢ 83 → get_or s 0 0 ≢ 83 → sat_lines xs ++ r ≡ sat_lines ys ++ s → AreSameHeads xs ys × (r ≡ s)
unfolding AreSameHeads
heads-then t m u n [] [] r s h k p q e = (tt, e)
heads-then t m u n [] (y ∷ ys) r s h k p q e =
    absurd (p (ap (λ t. get_or t 0 0) (e ∙ append_assoc (sat_line y.number (fate_of y.standing) y.name) (sat_lines ys) s) ∙ starts y.number (fate_of y.standing) y.name _))
heads-then t m u n (x ∷ xs) [] r s h k p q e =
    absurd (q (sym (ap (λ t. get_or t 0 0) (sym (append_assoc (sat_line x.number (fate_of x.standing) x.name) (sat_lines xs) r) ∙ e)) ∙ starts x.number (fate_of x.standing) x.name _))
heads-then t m u n (x ∷ xs) (y ∷ ys) r s h k p q e =
    let is = h 0 x (omega arith) in
    let is_too = k 0 y (omega arith) in
    let head = sat-then x.number y.number (fate_of x.standing) (fate_of y.standing) x.name y.name _ _ is.number is_too.number is.name is_too.name (sym (append_assoc (sat_line x.number (fate_of x.standing) x.name) (sat_lines xs) r) ∙ e ∙ append_assoc (sat_line y.number (fate_of y.standing) y.name) (sat_lines ys) s) in
    let rest = heads-then t m u n xs ys r s (All-tail (IsSatellite t m) x xs h) (All-tail (IsSatellite u n) y ys k) p q head.1 in
    ((head.0.number, head.0.name, head.0.fate, rest.0), rest.1)

-- the rows of two satellites of one number and one fate
standing-then : (w : WindowRecord) → IsWindow w → (stations n : ℕ) (x y : StandingRecord) (r s : List ℕ) → n < 2 ^ 32 → stations ≤ 64 → fate_of x ≡ fate_of y → HasRows w.ticks stations x → HasRows w.ticks stations y → standing_blocks w.start n x ++ r ≡ standing_blocks w.start n y ++ s → (x ≡ y) × (r ≡ s)
standing-then w h stations n (refused f) (refused g) r s few most same p q e =
    let fate : f ≡ g = cc in
    (ap refused fate, e)
standing-then w h stations n (refused f) (planned lit pairs) r s few most same p q e = absurd (cc)
standing-then w h stations n (planned lit pairs) (refused g) r s few most same p q e = absurd (cc)
standing-then w h stations n (planned a xs) (planned b ys) r s few most same p q e =
    let lit = lit_block-then w h n a b _ _ (omega arith) p.0 q.0 (sym (append_assoc (lit_block w.start n a) (pair_blocks w.start n 1 xs) r) ∙ e ∙ append_assoc (lit_block w.start n b) (pair_blocks w.start n 1 ys) s) in
    let pairs = pair_blocks-then w h n 1 xs ys r s (omega arith) (omega (arith, p.2)) (p.2 ∙ sym q.2) p.1 q.1 lit.1 in
    (rw (lit.0, pairs.0) refl, pairs.1)

-- satellites of equal parts are equal
same_satellite : (x y : SatelliteRecord) → x.number ≡ y.number → x.name ≡ y.name → x.standing ≡ y.standing → x ≡ y
same_satellite x y p q r = λ i. record { number = p i; name = q i; standing = r i }

-- the rows of satellites of the same heads
rows-then : (w : WindowRecord) → IsWindow w → (stations : ℕ) (xs ys : List SatelliteRecord) (r s : List ℕ) → stations ≤ 64 → AreSameHeads xs ys → All (IsSatellite w.ticks stations) xs → All (IsSatellite w.ticks stations) ys → row_blocks w.start xs ++ r ≡ row_blocks w.start ys ++ s → (xs ≡ ys) × (r ≡ s)
unfolding AreSameHeads
rows-then w h stations [] [] r s most same p q e = (refl, e)
rows-then w h stations [] (y ∷ ys) r s most same p q e = absurd same
rows-then w h stations (x ∷ xs) [] r s most same p q e = absurd same
rows-then w h stations (x ∷ xs) (y ∷ ys) r s most same p q e =
    let is = p 0 x (omega arith) in
    let is_too = q 0 y (omega arith) in
    let flat = sym (append_assoc (standing_blocks w.start x.number x.standing) (row_blocks w.start xs) r) ∙ e ∙ append_assoc (standing_blocks w.start y.number y.standing) (row_blocks w.start ys) s in
    let turned : standing_blocks w.start y.number x.standing ++ (row_blocks w.start xs ++ r) ≡ standing_blocks w.start y.number y.standing ++ (row_blocks w.start ys ++ s) = rw same.0 at flat in
    let standing = standing-then w h stations y.number x.standing y.standing _ _ is_too.number most same.2 is.rows is_too.rows turned in
    let rest = rows-then w h stations xs ys r s most same.3 (All-tail (IsSatellite w.ticks stations) x xs p) (All-tail (IsSatellite w.ticks stations) y ys q) standing.1 in
    (rw (same_satellite x y same.0 same.1 standing.0, rest.0) refl, rest.1)

-- how the timetables begin
record IsTail (text : List ℕ) : Type 0 where
  first : get_or text 0 0 ≡ 84
  second : get_or text 1 0 ≡ 65

-- a table begins so
table_begins : (index count : ℕ) (r : List ℕ) → IsTail (table_line index count ++ r)
unfolding table_line
table_begins index count r = record { first = refl; second = refl }

-- so do some tables
tail_begins : (plan : PlanRecord) (before : ℕ) (xs : List (List ℕ)) (r : List ℕ) → 1 ≤ length xs → IsTail (table_blocks plan before xs ++ r)
tail_begins plan before [] r h = absurd (omega arith)
tail_begins plan before (x ∷ xs) r h =
    let start = plan.window.start in
    let contacts = timetable plan before in
    rw (append_assoc (table_block start (before + 1) contacts) (table_blocks plan (before + 1) xs) r, append_assoc (table_line (before + 1) (length contacts)) (pass_lines start contacts) (table_blocks plan (before + 1) xs ++ r)) (table_begins (before + 1) (length contacts) _)

-- how what follows the satellites begins
record IsAfterSats (text : List ℕ) : Type 0 where
  first : get_or text 0 0 ≢ 83
  second : get_or text 1 0 ≢ 84

-- a row of light begins so
lit_begins : (start : ℤ) (n : ℕ) (answer : AnswerRecord) (r : List ℕ) → IsAfterSats (lit_line start n answer ++ r)
unfolding lit_line
lit_begins start n answer r = record { first = λ e. omega arith; second = λ e. omega arith }

-- so do a satellite's rows, or what follows where it has none
standing_begins : (start : ℤ) (n : ℕ) (standing : StandingRecord) (r : List ℕ) → IsAfterSats r → IsAfterSats (standing_blocks start n standing ++ r)
standing_begins start n (refused fate) r h = h
standing_begins start n (planned lit pairs) r h =
    rw (append_assoc (lit_block start n lit) (pair_blocks start n 1 pairs) r, append_assoc (lit_line start n lit.answer) (lines_after lit_letter start lit.answer lit.list) (pair_blocks start n 1 pairs ++ r)) (lit_begins start n lit.answer _)

-- so do the rows of satellites and the timetables
rows_begin : (start : ℤ) (xs : List SatelliteRecord) (r : List ℕ) → IsTail r → IsAfterSats (row_blocks start xs ++ r)
rows_begin start [] r h = record { first = λ e. omega (arith, h.first); second = λ e. omega (arith, h.second) }
rows_begin start (x ∷ xs) r h = rw append_assoc (standing_begins start x.number x.standing (row_blocks start xs ++ r) (rows_begin start xs r h))

-- the second byte of the line of a satellite is no T
sat_begins : (n : ℕ) (fate : Option SatFault) (name r : List ℕ) → get_or (sat_line n fate name ++ r) 1 0 ≢ 84
unfolding sat_line
sat_begins n fate name r e = omega arith

-- nor is that of several, or of what follows where there are none
sats_begin : (xs : List SatelliteRecord) (r : List ℕ) → get_or r 1 0 ≢ 84 → get_or (sat_lines xs ++ r) 1 0 ≢ 84
sats_begin [] r h = h
sats_begin (x ∷ xs) r h = rw append_assoc (sat_begins x.number (fate_of x.standing) x.name _)

-- the lines of some stations begin with an S
stations_begin : (index : ℕ) (xs : List (List ℕ)) (r : List ℕ) → 1 ≤ length xs → get_or (station_lines index xs ++ r) 0 0 ≡ 83
stations_begin index [] r h = absurd (omega arith)
stations_begin index (x ∷ xs) r h = rw append_assoc (first index x _)

-- what follows the satellites of a plan
after_sats : (plan : PlanRecord) → IsPlan plan → IsAfterSats (row_blocks plan.window.start plan.satellites ++ plan_tail plan)
after_sats plan h = rows_begin plan.window.start plan.satellites (plan_tail plan) (tail_begins plan 0 plan.stations (codes "END\n") h.least)

-- window, offset, stations, satellites, rows: each tells what follows it
pub layouts_tell_plans : LayoutsTellPlans
layouts_tell_plans a b h k e =
    let after = after_sats a h in
    let after_too = after_sats b k in
    let window = window-then a.window b.window _ _ h.window k.window (ap (drop 11) e) in
    let offset = offset-then a.offset b.offset _ _ h.offset k.offset (stations_begin 1 a.stations _ h.least) (stations_begin 1 b.stations _ k.least) window.1 in
    let stations = stations-then 1 a.stations b.stations _ _ (omega (arith, h.most)) (sats_begin a.satellites _ after.second) (sats_begin b.satellites _ after_too.second) offset.1 in
    let heads = heads-then a.window.ticks (length a.stations) b.window.ticks (length b.stations) a.satellites b.satellites _ _ h.satellites k.satellites after.first after_too.first stations.1 in
    let count : length b.stations ≡ length a.stations = sym (length-map b.stations printed_name) ∙ ap length (sym stations.0) ∙ length-map a.stations printed_name in
    let satellites : All (IsSatellite a.window.ticks (length a.stations)) b.satellites =
    subst (λ n. All (IsSatellite a.window.ticks n) b.satellites) count
    (subst (λ w. All (IsSatellite w.ticks (length b.stations)) b.satellites) (sym window.0) k.satellites) in
    let turned = subst (λ w. row_blocks a.window.start a.satellites ++ plan_tail a ≡ row_blocks w.start b.satellites ++ plan_tail b) (sym window.0) heads.1 in
    let rows = rows-then a.window h.window (length a.stations) a.satellites b.satellites _ _ h.most heads.0 h.satellites satellites turned in
    record { window = window.0; offset = offset.0; stations = stations.0; satellites = rows.0 }
