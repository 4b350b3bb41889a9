-- What is printed of the satellites of a catalogue tells them.
use Rattle.std.proofs.Common.{◌≡◌, ℕ, zero, suc, ◌-◌, ◌<◌, ◌^◌, ◌/◌, ◌%◌, refl, sym, ap, ◌∙◌, arith, Bool, true, false, List, [], ◌∷◌, ◌++◌, length, drop, get_or, All, replicate, codes, decimal, pos, int_lt, unsigned_abs}
use Rattle.std.specs.Fmt.{sign_text}
use Rattle.std.proofs.lemmas.List.{append_assoc}
use Rattle.std.proofs.lemmas.List.Elements.{All-append, All-cons, All-tail, All-replicate}
use Rattle.std.proofs.Math.Nat.{mod-le, div-le_self}
use Rattle.catalogue.specs.declared.entry.Entry.{Entry}
use Rattle.civil_time.specs.InstantText.{instant_text}
use Rattle.decimals.specs.Decimal.{DecimalRecord, IsDecimal}
use Rattle.decimals.specs.PrintedDecimal.{padded, fraction_text, decimal_text}
use Rattle.decimals.proofs.RoundTrip.{texts_differ}
use Rattle.elements.specs.Elements.{ElementsRecord}
use Rattle.pass_text.specs.ShowLayout.{set_line, set_lines}
use Rattle.layout_laws.specs.ShowLaw.{IsEntry, LayoutsTellCatalogues}
use Rattle.layout_laws.proofs.FrontLemmas.{IsWord, above-nil, one_word, front, decimal_word, decimal-then}
use Rattle.layout_laws.proofs.LineLemmas.{is_name_above}
use Rattle.layout_laws.proofs.TickLemmas.{instant-then, whole_nanos}

-- the text of a decimal is a word
sign_word : (below : Bool) → IsWord (sign_text below)
sign_word true = one_word 32 45 (omega arith)
sign_word false = above-nil 32

-- so are padded digits
padded_word : (width n : ℕ) → n < 2 ^ 64 → IsWord (padded width n)
padded_word width n h = All-append (λ byte. 32 < byte) (replicate (width - length (decimal n)) 48) (decimal n) (All-replicate (λ byte. 32 < byte) (width - length (decimal n)) 48 (omega arith)) (decimal_word n h)

-- and a fraction
fraction_word : (places n : ℕ) → n < 2 ^ 64 → IsWord (fraction_text places n)
fraction_word zero n h = above-nil 32
fraction_word (suc places) n h = All-cons (λ byte. 32 < byte) 46 (padded (suc places) n) (omega arith) (padded_word (suc places) n h)

-- and the three together
word_of_decimal : (d : DecimalRecord) → IsDecimal d → IsWord (decimal_text d)
unfolding decimal_text
word_of_decimal d h =
    let size = unsigned_abs d.digits in
    let whole : size / 10 ^ d.places < 2 ^ 64 = omega (arith, h.size, div-le_self size (10 ^ d.places)) in
    let rest : size % 10 ^ d.places < 2 ^ 64 = omega (arith, h.size, mod-le size (10 ^ d.places)) in
    All-append (λ byte. 32 < byte) (sign_text (int_lt d.digits (pos 0)) ++ decimal (size / 10 ^ d.places)) (fraction_text d.places (size % 10 ^ d.places))
    (All-append (λ byte. 32 < byte) (sign_text (int_lt d.digits (pos 0))) (decimal (size / 10 ^ d.places)) (sign_word (int_lt d.digits (pos 0))) (decimal_word (size / 10 ^ d.places) whole))
    (fraction_word d.places (size % 10 ^ d.places) rest)

-- a decimal before a blank
element-then : (a b : DecimalRecord) (r s : List ℕ) → IsDecimal a → IsDecimal b → decimal_text a ++ 32 ∷ r ≡ decimal_text b ++ 32 ∷ s → (a ≡ b) × (r ≡ s)
element-then a b r s h k e =
    let cut = front 32 (decimal_text a) (decimal_text b) 32 r s (omega arith) (word_of_decimal a h) (word_of_decimal b k) e in
    (texts_differ a b h k cut.0, cut.1)

-- the line of a set, with each of its decimals before a blank
flat_set : (e : ElementsRecord) (name r : List ℕ) → set_line e name ++ r ≡ codes "SET " ++ (decimal e.number ++ (32 ∷ (instant_text 9 e.epoch ++ (32 ∷ (decimal_text e.motion ++ (32 ∷ (decimal_text e.ecc ++ (32 ∷ (decimal_text e.incl ++ (32 ∷ (decimal_text e.node ++ (32 ∷ (decimal_text e.argp ++ (32 ∷ (decimal_text e.anomaly ++ (32 ∷ (decimal_text e.bstar ++ (32 ∷ (name ++ (10 ∷ r))))))))))))))))))))
unfolding set_line
flat_set e name r = simp append_assoc refl

-- sets of equal parts are equal
same_elements : (x y : ElementsRecord) → x.number ≡ y.number → x.epoch ≡ y.epoch → x.motion ≡ y.motion → x.ecc ≡ y.ecc → x.incl ≡ y.incl → x.node ≡ y.node → x.argp ≡ y.argp → x.anomaly ≡ y.anomaly → x.bstar ≡ y.bstar → x ≡ y
same_elements x y a b c d e f g h k = λ i. record { number = a i; epoch = b i; motion = c i; ecc = d i; incl = e i; node = f i; argp = g i; anomaly = h i; bstar = k i }

-- satellites of equal parts are equal
same_entry : (x y : Entry) → x.elements ≡ y.elements → x.name ≡ y.name → x ≡ y
same_entry x y p q = λ i. record { elements = p i; name = q i }

-- two lines of sets
set-then : (x y : Entry) (r s : List ℕ) → IsEntry x → IsEntry y → set_line x.elements x.name ++ r ≡ set_line y.elements y.name ++ s → (x ≡ y) × (r ≡ s)
set-then x y r s h k e =
    let flat = sym (flat_set x.elements x.name r) ∙ e ∙ flat_set y.elements y.name s in
    let number = decimal-then x.elements.number y.elements.number 32 _ _ (omega arith) (omega (arith, h.number)) (omega (arith, k.number)) (ap (drop 4) flat) in
    let epoch = instant-then 9 x.elements.epoch y.elements.epoch _ _ (omega arith) h.epoch k.epoch (whole_nanos x.elements.epoch) (whole_nanos y.elements.epoch) number.1 in
    let motion = element-then x.elements.motion y.elements.motion _ _ h.motion k.motion (ap (drop 1) epoch.1) in
    let ecc = element-then x.elements.ecc y.elements.ecc _ _ h.ecc k.ecc motion.1 in
    let incl = element-then x.elements.incl y.elements.incl _ _ h.incl k.incl ecc.1 in
    let node = element-then x.elements.node y.elements.node _ _ h.node k.node incl.1 in
    let argp = element-then x.elements.argp y.elements.argp _ _ h.argp k.argp node.1 in
    let anomaly = element-then x.elements.anomaly y.elements.anomaly _ _ h.anomaly k.anomaly argp.1 in
    let bstar = element-then x.elements.bstar y.elements.bstar _ _ h.bstar k.bstar anomaly.1 in
    let name = front 31 x.name y.name 10 r s (omega arith) (is_name_above x.name h.name) (is_name_above y.name k.name) bstar.1 in
    let elements = same_elements x.elements y.elements number.0 epoch.0 motion.0 ecc.0 incl.0 node.0 argp.0 anomaly.0 bstar.0 in
    (same_entry x y elements name.0, name.1)

-- the last line
abbrev last_line : List ℕ
last_line = codes "END\n"

-- the line of a set begins with an S
head_of_set : (e : ElementsRecord) (name r : List ℕ) → get_or (set_line e name ++ r) 0 0 ≡ 83
unfolding set_line
head_of_set e name r = refl

-- sets up to the last line
sets_up_to : (xs ys : List Entry) → All IsEntry xs → All IsEntry ys → set_lines xs ++ last_line ≡ set_lines ys ++ last_line → xs ≡ ys
sets_up_to [] [] h k e = refl
sets_up_to [] (y ∷ ys) h k e =
    absurd (omega (arith, ap (λ t. get_or t 0 0) (e ∙ append_assoc (set_line y.elements y.name) (set_lines ys) last_line), head_of_set y.elements y.name (set_lines ys ++ last_line)))
sets_up_to (x ∷ xs) [] h k e =
    absurd (omega (arith, ap (λ t. get_or t 0 0) (sym e ∙ append_assoc (set_line x.elements x.name) (set_lines xs) last_line), head_of_set x.elements x.name (set_lines xs ++ last_line)))
sets_up_to (x ∷ xs) (y ∷ ys) h k e =
    let first = set-then x y _ _ (h 0 x (omega arith)) (k 0 y (omega arith)) (sym (append_assoc (set_line x.elements x.name) (set_lines xs) last_line) ∙ e ∙ append_assoc (set_line y.elements y.name) (set_lines ys) last_line) in
    let rest = sets_up_to xs ys (All-tail IsEntry x xs h) (All-tail IsEntry y ys k) first.1 in
    rw (first.0, rest) refl

-- the sets follow the heading
pub layouts_tell_catalogues : LayoutsTellCatalogues
layouts_tell_catalogues xs ys h k e = sets_up_to xs ys h k (ap (drop 11) e)
