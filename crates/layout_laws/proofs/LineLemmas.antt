-- Each line of a plan tells what it was made of, and what follows it.
use Rattle.std.proofs.Common.{◌≡◌, ℕ, ◌<◌, ◌≤◌, ◌^◌, ◌/◌, refl, sym, ap, ◌∙◌, arith, List, [], ◌∷◌, ◌++◌, drop, get_or, codes, decimal, ℤ, Option, None, Some, Bool, true, false, not, cond, nat_lt, ◌&&◌, ◌==◌, if◌then◌else◌}
use Rattle.std.specs.Fmt.{signed_decimal}
use Rattle.std.proofs.lemmas.Bool.{ltb-false}
use Rattle.std.proofs.lemmas.List.{append_assoc}
use Rattle.std.proofs.lemmas.List.Elements.{All-cons}
use lib.Signed.{mag}
use Rattle.civil_time.specs.InstantText.{instant_text}
use Rattle.elements.specs.Window.{WindowRecord, IsWindow}
use Rattle.catalogue.specs.Entries.{IsName}
use Rattle.catalogue.specs.Names.{printed}
use Rattle.pass_text.specs.DayLayout.{tick_text, window_line, span_line}
use Rattle.sgp4_model.specs.declared.span.Span.{Span}
use Rattle.plan_text.specs.HeadLines.{offset_line, station_line, printed_name}
use Rattle.pass_text.specs.SatLine.{fate_word, sat_line}
use Rattle.plan_text.specs.RowLines.{answer_words, lit_line, pair_line}
use Rattle.sgp4_model.specs.Records.{AnswerRecord}
use Rattle.sgp4_shape.specs.declared.fault.SatFault.{SatFault}
use Rattle.sgp4_shape.specs.declared.fault.SatFault.TheVariants.{Eccentric, Inclined, Drag, Deep, Low, Edge, Far}
use Rattle.layout_laws.proofs.FrontLemmas.{Above, IsWord, above-nil, front, decimal-then, signed-then, word_of}
use Rattle.layout_laws.proofs.TickLemmas.{start-then, end-then}

-- windows of equal parts are equal
same_window : (v w : WindowRecord) → v.start ≡ w.start → v.ticks ≡ w.ticks → v.resolution ≡ w.resolution → v ≡ w
same_window v w p q r = λ i. record { start = p i; ticks = q i; resolution = r i }

-- the line of a window, a word after another
flat_window : (w : WindowRecord) (r : List ℕ) → window_line w ++ r ≡ codes "WINDOW " ++ (instant_text 4 w.start ++ (32 ∷ (tick_text w.start w.ticks ++ (32 ∷ (decimal (w.resolution / 10000) ++ (10 ∷ r))))))
unfolding window_line
flat_window w r = simp append_assoc refl

-- the line of a window, before whatever follows
pub window-then : (v w : WindowRecord) (r s : List ℕ) → IsWindow v → IsWindow w → window_line v ++ r ≡ window_line w ++ s → (v ≡ w) × (r ≡ s)
window-then v w r s h k e =
    let flat = sym (flat_window v r) ∙ e ∙ flat_window w s in
    let start = start-then v w _ _ h k (ap (drop 7) flat) in
    let last = end-then v w _ _ h k start.0 (ap (drop 1) start.1) in
    let low = h.resolution in
    let high = k.resolution in
    let seconds = decimal-then (v.resolution / 10000) (w.resolution / 10000) 10 r s (omega arith) (omega (arith, low.most)) (omega (arith, high.most)) (ap (drop 1) last.1) in
    (same_window v w start.0 last.0 (omega (arith, low.whole, high.whole, seconds.0)), seconds.1)

-- the line of an offset
flat_offset : (z : ℤ) (r : List ℕ) → offset_line z ++ r ≡ codes "DUT1 " ++ (signed_decimal z ++ (10 ∷ r))
unfolding offset_line
flat_offset z r = simp append_assoc refl

-- two such lines
pub offset_line-then : (y z : ℤ) (r s : List ℕ) → mag y < 2 ^ 63 → mag z < 2 ^ 63 → offset_line y ++ r ≡ offset_line z ++ s → (y ≡ z) × (r ≡ s)
offset_line-then y z r s h k e = signed-then y z 10 r s (omega arith) h k (ap (drop 5) (sym (flat_offset y r) ∙ e ∙ flat_offset z s))

-- the line of a station
flat_station : (index : ℕ) (name r : List ℕ) → station_line index name ++ r ≡ codes "STATION " ++ (decimal index ++ (32 ∷ (printed_name name ++ (10 ∷ r))))
unfolding station_line
flat_station index name r = simp append_assoc refl

-- the line of a satellite
flat_sat : (number : ℕ) (fate : Option SatFault) (name r : List ℕ) → sat_line number fate name ++ r ≡ codes "SAT " ++ (decimal number ++ (32 ∷ (fate_word fate ++ (32 ∷ (name ++ (10 ∷ r))))))
unfolding sat_line
flat_sat number fate name r = simp append_assoc refl

-- the line of an answer of a satellite's light
pub flat_lit : (start : ℤ) (number : ℕ) (answer : AnswerRecord) (r : List ℕ) → lit_line start number answer ++ r ≡ codes "LIT " ++ (decimal number ++ (32 ∷ (answer_words start answer ++ (10 ∷ r))))
unfolding lit_line
flat_lit start number answer r = simp append_assoc refl

-- the line of an answer of a station
pub flat_pair : (start : ℤ) (number index : ℕ) (answer : AnswerRecord) (r : List ℕ) → pair_line start number index answer ++ r ≡ codes "PAIR " ++ (decimal number ++ (32 ∷ (decimal index ++ (32 ∷ (answer_words start answer ++ (10 ∷ r))))))
unfolding pair_line
flat_pair start number index answer r = simp append_assoc refl

-- the line of a span
pub flat_span : (letter : List ℕ) (start : ℤ) (span : Span) (r : List ℕ) → span_line letter start span ++ r ≡ letter ++ (32 ∷ (tick_text start span.from ++ (32 ∷ (tick_text start span.to ++ (10 ∷ r)))))
unfolding span_line
flat_span letter start span r = simp append_assoc refl

-- a printed byte is no control byte
printed_above : (byte : ℕ) → 31 < printed byte
printed_above byte = by (nat_lt byte 32) (nat_lt 126 byte) refl
  where
    by : (below above : Bool) → nat_lt byte 32 ≡ below → 31 < cond (not below && not above) byte 63
    by false false e = let low : 32 ≤ byte = ltb-false _ _ e in omega arith
    by false true e = omega arith
    by true above e = omega arith

-- so a printed name holds none
name_above : (name : List ℕ) → Above 31 (printed_name name)
name_above [] = above-nil 31
name_above (byte ∷ rest) = All-cons (λ b. 31 < b) (printed byte) (printed_name rest) (printed_above byte) (name_above rest)

-- two lines of stations
pub station-then : (index : ℕ) (m n r s : List ℕ) → index < 2 ^ 64 → station_line index m ++ r ≡ station_line index n ++ s → (printed_name m ≡ printed_name n) × (r ≡ s)
station-then index m n r s h e =
    let flat = sym (flat_station index m r) ∙ e ∙ flat_station index n s in
    let number = decimal-then index index 32 _ _ (omega arith) h h (ap (drop 8) flat) in
    front 31 (printed_name m) (printed_name n) 10 r s (omega arith) (name_above m) (name_above n) number.1

-- the words of fates differ
fate_read : List ℕ → Option SatFault
fate_read word =
    if get_or word 0 0 == 79 then None
    else if get_or word 0 0 == 73 then Some Inclined
    else if get_or word 0 0 == 76 then Some Low
    else if get_or word 0 0 == 70 then Some Far
    else if get_or word 1 0 == 82 then Some Drag
    else if get_or word 1 0 == 69 then Some Deep
    else if get_or word 1 0 == 67 then Some Eccentric
    else Some Edge

-- they are told by their first two bytes
fate_back : (fate : Option SatFault) → fate_read (fate_word fate) ≡ fate
unfolding fate_read
fate_back None = refl
fate_back (Some Eccentric) = refl
fate_back (Some Inclined) = refl
fate_back (Some Drag) = refl
fate_back (Some Deep) = refl
fate_back (Some Low) = refl
fate_back (Some Edge) = refl
fate_back (Some Far) = refl

-- they are words
fate_is_word : (fate : Option SatFault) → IsWord (fate_word fate)
fate_is_word None = word_of (fate_word None) refl
fate_is_word (Some Eccentric) = word_of (fate_word (Some Eccentric)) refl
fate_is_word (Some Inclined) = word_of (fate_word (Some Inclined)) refl
fate_is_word (Some Drag) = word_of (fate_word (Some Drag)) refl
fate_is_word (Some Deep) = word_of (fate_word (Some Deep)) refl
fate_is_word (Some Low) = word_of (fate_word (Some Low)) refl
fate_is_word (Some Edge) = word_of (fate_word (Some Edge)) refl
fate_is_word (Some Far) = word_of (fate_word (Some Far)) refl

-- a catalogue's name holds no control byte
pub is_name_above : (name : List ℕ) → IsName name → Above 31 name
is_name_above name h k d below = let byte = h.printable k d below in omega (arith, byte.least)

-- a satellite's number, fate and name are the same
pub record IsSameHead (m n : ℕ) (f g : Option SatFault) (x y : List ℕ) : Type 0 where
  pub number : m ≡ n
  pub fate : f ≡ g
  pub name : x ≡ y

-- two lines of satellites
pub sat-then : (m n : ℕ) (f g : Option SatFault) (x y r s : List ℕ) → m < 2 ^ 32 → n < 2 ^ 32 → IsName x → IsName y → sat_line m f x ++ r ≡ sat_line n g y ++ s → IsSameHead m n f g x y × (r ≡ s)
sat-then m n f g x y r s h k p q e =
    let flat = sym (flat_sat m f x r) ∙ e ∙ flat_sat n g y s in
    let number = decimal-then m n 32 _ _ (omega arith) (omega arith) (omega arith) (ap (drop 4) flat) in
    let fate = front 32 (fate_word f) (fate_word g) 32 _ _ (omega arith) (fate_is_word f) (fate_is_word g) number.1 in
    let name = front 31 x y 10 r s (omega arith) (is_name_above x p) (is_name_above y q) fate.1 in
    (record { number = number.0; fate = sym (fate_back f) ∙ ap fate_read fate.0 ∙ fate_back g; name = name.0 }, name.1)
