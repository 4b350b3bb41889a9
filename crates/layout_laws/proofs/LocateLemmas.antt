-- What is printed of a satellite's place tells it.
use Rattle.std.proofs.Common.{◌≡◌, ℕ, ◌<◌, ◌^◌, refl, sym, ap, ◌∙◌, arith, List, [], ◌∷◌, ◌++◌, drop, get_or, codes, ℤ, pos, negsuc, Option, None, Some, decimal}
use Rattle.std.specs.Fmt.{signed_decimal}
use Rattle.std.proofs.lemmas.List.{append_assoc}
use Rattle.jiff_core.proofs.SignedLemmas.{signed_arith}
use lib.Signed.{mag}
use Rattle.catalogue.specs.Entries.{IsName}
use Rattle.civil_time.specs.InstantText.{instant_text}
use Rattle.pass_text.specs.LocateLayout.{EdgeRecord, FoundRecord, LocateRecord, missing, refused, inside, decayed, at_line, missing_line, edge_line, found_lines}
use Rattle.pass_text.specs.SatLine.{sat_line}
use Rattle.sgp4_shape.specs.declared.fault.SatFault.{SatFault}
use Rattle.layout_laws.specs.LocateLaw.{IsBound, IsEdge, IsFound, LayoutsTellPlaces}
use Rattle.layout_laws.proofs.FrontLemmas.{decimal-then, signed-then}
use Rattle.layout_laws.proofs.LineLemmas.{sat-then}
use Rattle.layout_laws.proofs.TickLemmas.{instant-then, whole_nanos}

-- the line of a satellite, with the fault of a set
record IsSameSat (m n : ℕ) (f g : Option SatFault) (x y r s : List ℕ) : Type 0 where
  number : m ≡ n
  fault : f ≡ g
  name : x ≡ y
  rest : r ≡ s

-- two lines of satellites
line-then : (m n : ℕ) (f g : Option SatFault) (x y r s : List ℕ) → m < 2 ^ 32 → n < 2 ^ 32 → IsName x → IsName y → sat_line m f x ++ r ≡ sat_line n g y ++ s → IsSameSat m n f g x y r s
line-then m n f g x y r s h k p q e =
    let parts = sat-then m n f g x y r s h k p q e in
    record { number = parts.0.number; fault = parts.0.fate; name = parts.0.name; rest = parts.1 }

-- the line of an instant, a word after another
flat_at : (at : ℤ) (r : List ℕ) → at_line at ++ r ≡ codes "AT " ++ (instant_text 9 at ++ (10 ∷ r))
unfolding at_line
flat_at at r = simp append_assoc refl

-- that of a missing number
flat_missing : (number : ℕ) (r : List ℕ) → missing_line number ++ r ≡ codes "MISSING " ++ (decimal number ++ (10 ∷ r))
unfolding missing_line
flat_missing number r = simp append_assoc refl

-- that of bounds
flat_edge : (letter : ℕ) (low high : ℤ) (r : List ℕ) → edge_line (letter ∷ []) low high ++ r ≡ letter ∷ 32 ∷ (signed_decimal low ++ (32 ∷ (signed_decimal high ++ (10 ∷ r))))
unfolding edge_line
flat_edge letter low high r = simp append_assoc refl

-- a bound is of 64 bits
small_bound : (z : ℤ) → IsBound z → mag z < 2 ^ 63
small_bound (pos n) h = omega (arith, signed_arith, h.0, h.1)
small_bound (negsuc n) h = omega (arith, signed_arith, h.0, h.1)

-- bounds of equal parts are equal
same_edge : (x y : EdgeRecord) → x.low ≡ y.low → x.high ≡ y.high → x ≡ y
same_edge x y p q = λ i. record { low = p i; high = q i }

-- two lines of bounds
edge-then : (letter : ℕ) (x y : EdgeRecord) (r s : List ℕ) → IsEdge x → IsEdge y → edge_line (letter ∷ []) x.low x.high ++ r ≡ edge_line (letter ∷ []) y.low y.high ++ s → (x ≡ y) × (r ≡ s)
edge-then letter x y r s h k e =
    let flat = sym (flat_edge letter x.low x.high r) ∙ e ∙ flat_edge letter y.low y.high s in
    let low = signed-then x.low y.low 32 _ _ (omega arith) (small_bound x.low h.low) (small_bound y.low k.low) (ap (drop 2) flat) in
    let high = signed-then x.high y.high 10 r s (omega arith) (small_bound x.high h.high) (small_bound y.high k.high) low.1 in
    (same_edge x y low.0 high.0, high.1)

-- how the lines begin
head_of_sat : (number : ℕ) (fault : Option SatFault) (name r : List ℕ) → get_or (sat_line number fault name ++ r) 0 0 ≡ 83
unfolding sat_line
head_of_sat number fault name r = refl

-- that of a missing number with an M
head_of_missing : (number : ℕ) (r : List ℕ) → get_or (missing_line number ++ r) 0 0 ≡ 77
unfolding missing_line
head_of_missing number r = refl

-- that of bounds with its letter
head_of_edge : (letter : ℕ) (low high : ℤ) (r : List ℕ) → get_or (edge_line (letter ∷ []) low high ++ r) 0 0 ≡ letter
unfolding edge_line
head_of_edge letter low high r = refl

-- the last line
abbrev last_line : List ℕ
last_line = codes "END\n"

-- the line of a missing number is no line of a satellite
missing_or_sat : (m n : ℕ) (fault : Option SatFault) (name r s : List ℕ) → missing_line m ++ r ≡ sat_line n fault name ++ s → ⊥
missing_or_sat m n fault name r s e = omega (arith, ap (λ t. get_or t 0 0) e, head_of_missing m r, head_of_sat n fault name s)

-- bounds are no word of a satellite without them
edge_or_decayed : (x : EdgeRecord) (r s : List ℕ) → edge_line (88 ∷ []) x.low x.high ++ r ≡ codes "DECAYED\n" ++ s → ⊥
edge_or_decayed x r s e = omega (arith, ap (λ t. get_or t 0 0) e, head_of_edge 88 x.low x.high r)

-- the lines of what was found, flat
flat_sat_and : (n : ℕ) (fault : Option SatFault) (name t r : List ℕ) → (sat_line n fault name ++ t) ++ r ≡ sat_line n fault name ++ (t ++ r)
flat_sat_and n fault name t r = append_assoc (sat_line n fault name) t r

-- three lines of bounds, one after another
flat_edges : (x y z : EdgeRecord) (r : List ℕ) → (edge_line (codes "X") x.low x.high ++ (edge_line (codes "Y") y.low y.high ++ edge_line (codes "Z") z.low z.high)) ++ r ≡ edge_line (88 ∷ []) x.low x.high ++ (edge_line (89 ∷ []) y.low y.high ++ (edge_line (90 ∷ []) z.low z.high ++ r))
flat_edges x y z r = simp append_assoc refl

-- two lines of what was found, up to the last line
found-then : (m n : ℕ) (a b : FoundRecord) → m < 2 ^ 32 → n < 2 ^ 32 → IsFound a → IsFound b → found_lines m a ++ last_line ≡ found_lines n b ++ last_line → (m ≡ n) × (a ≡ b)
found-then m n missing missing h k p q e =
    let number = decimal-then m n 10 _ _ (omega arith) (omega arith) (omega arith) (ap (drop 8) (sym (flat_missing m last_line) ∙ e ∙ flat_missing n last_line)) in
    (number.0, refl)
found-then m n missing (refused fault name) h k p q e = absurd (missing_or_sat m n _ name _ _ e)
found-then m n missing (inside name x y z) h k p q e = absurd (missing_or_sat m n None name _ _ (e ∙ flat_sat_and n None name _ last_line))
found-then m n missing (decayed name) h k p q e = absurd (missing_or_sat m n None name _ _ (e ∙ flat_sat_and n None name _ last_line))
found-then m n (refused fault name) missing h k p q e = absurd (missing_or_sat n m _ name _ _ (sym e))
found-then m n (refused f x) (refused g y) h k p q e =
    let sat = line-then m n (Some f) (Some g) x y _ _ h k p q e in
    let fault : f ≡ g = let same = sat.fault in cc in
    (sat.number, rw (fault, sat.name) refl)
found-then m n (refused f x) (inside name a b c) h k p q e =
    let sat = line-then m n (Some f) None x name _ _ h k p q.0 (e ∙ flat_sat_and n None name _ last_line) in
    absurd (let same = sat.fault in cc)
found-then m n (refused f x) (decayed name) h k p q e =
    let sat = line-then m n (Some f) None x name _ _ h k p q (e ∙ flat_sat_and n None name _ last_line) in
    absurd (let same = sat.fault in cc)
found-then m n (inside name a b c) missing h k p q e = absurd (missing_or_sat n m None name _ _ (sym e ∙ flat_sat_and m None name _ last_line))
found-then m n (inside name a b c) (refused g y) h k p q e =
    let sat = line-then m n None (Some g) name y _ _ h k p.0 q (sym (flat_sat_and m None name _ last_line) ∙ e) in
    absurd (let same = sat.fault in cc)
found-then m n (inside x a b c) (inside y i j k) h l p q e =
    let sat = line-then m n None None x y _ _ h l p.0 q.0 (sym (flat_sat_and m None x _ last_line) ∙ e ∙ flat_sat_and n None y _ last_line) in
    let one = edge-then 88 a i _ _ p.1 q.1 (sym (flat_edges a b c last_line) ∙ sat.rest ∙ flat_edges i j k last_line) in
    let two = edge-then 89 b j _ _ p.2 q.2 one.1 in
    let three = edge-then 90 c k _ _ p.3 q.3 two.1 in
    (sat.number, rw (sat.name, one.0, two.0, three.0) refl)
found-then m n (inside x a b c) (decayed y) h k p q e =
    let sat = line-then m n None None x y _ _ h k p.0 q (sym (flat_sat_and m None x _ last_line) ∙ e ∙ flat_sat_and n None y _ last_line) in
    absurd (edge_or_decayed a _ _ (sym (flat_edges a b c last_line) ∙ sat.rest))
found-then m n (decayed name) missing h k p q e = absurd (missing_or_sat n m None name _ _ (sym e ∙ flat_sat_and m None name _ last_line))
found-then m n (decayed x) (refused g y) h k p q e =
    let sat = line-then m n None (Some g) x y _ _ h k p q (sym (flat_sat_and m None x _ last_line) ∙ e) in
    absurd (let same = sat.fault in cc)
found-then m n (decayed x) (inside y a b c) h k p q e =
    let sat = line-then m n None None x y _ _ h k p q.0 (sym (flat_sat_and m None x _ last_line) ∙ e ∙ flat_sat_and n None y _ last_line) in
    absurd (edge_or_decayed a _ _ (sym (flat_edges a b c last_line) ∙ sym sat.rest))
found-then m n (decayed x) (decayed y) h k p q e =
    let sat = line-then m n None None x y _ _ h k p q (sym (flat_sat_and m None x _ last_line) ∙ e ∙ flat_sat_and n None y _ last_line) in
    (sat.number, ap decayed sat.name)

-- places of equal parts are equal
same_place : (a b : LocateRecord) → a.at ≡ b.at → a.number ≡ b.number → a.found ≡ b.found → a ≡ b
same_place a b p q r = λ i. record { at = p i; number = q i; found = r i }

-- the instant tells what follows it, and that what was found
pub layouts_tell_places : LayoutsTellPlaces
layouts_tell_places a b h k e =
    let flat = sym (flat_at a.at _) ∙ ap (drop 13) e ∙ flat_at b.at _ in
    let at = instant-then 9 a.at b.at _ _ (omega arith) h.at k.at (whole_nanos a.at) (whole_nanos b.at) (ap (drop 3) flat) in
    let found = found-then a.number b.number a.found b.found h.number k.number h.found k.found (ap (drop 1) at.1) in
    same_place a b at.0 found.0 found.1
