-- What the numerals of a round of the guess say as numbers.
use Rattle.std.proofs.Common.{◌≡◌, arith, [], ◌∷◌, ◌+◌, ◌-◌, ◌*◌, ◌/◌, ◌^◌, ◌<◌, ◌≤◌, ℕ, pos}
use Rattle.exact.specs.Rational.{ℚ, ratio, ◌+ℚ◌, ◌-ℚ◌, ◌*ℚ◌, one_ℚ, ◌≤ℚ◌}
use Rattle.exact.proofs.RationalRing.{reads}
use Rattle.exact.proofs.Order.{NonNeg, gap, known, le_by, le_trans, same_sign, ◌⊕◌, ◌⊗◌}
use Rattle.exact.proofs.RationalRing.{ring}
use Rattle.sgp4_model.specs.Angle.{part}
use Rattle.kepler_enc.specs.Point.{at}
use Rattle.kepler_enc.proofs.RadiusLemmas.{bend_enough, in_fractions}
use Rattle.kepler_enc.proofs.SizeLemmas.{at_add, at_numeral, at_most_half, at_most_one, not_below_zero}

over_floor : (x g : ℕ) → 0 < g → x ≤ (x / g + 1) * g
over_floor x g p = omega arith

more : (y spread : ℕ) → at (pos (y + spread + 3)) ≡ at (pos (y + 1)) +ℚ at (pos spread) +ℚ ratio (pos 2) 281474976710656
more y spread =
    rw (at_add (y + spread) 3, at_add y spread, at_add y 1, at_numeral 3, at_numeral 1) (ring (at (pos y) ∷ at (pos spread) ∷ []) (search reads depth 90) tt)

less : (y spread : ℕ) → at (pos (y + 3)) ≡ at (pos (y + spread + 3)) -ℚ at (pos spread)
less y spread = rw (at_add (y + spread) 3, at_add y spread, at_add y 3, at_numeral 3) (ring (at (pos y) ∷ at (pos spread) ∷ []) (search reads depth 90) tt)

-- n, over 1 less the sizes, in y and a unit
quotient_enough : (n l z : ℚ) → l ≤ℚ ratio (pos 1) 2 → NonNeg l → NonNeg z → z ≤ℚ one_ℚ → n ≤ℚ z *ℚ (one_ℚ -ℚ l) →
    n ≤ℚ (z +ℚ ratio (pos 2) 281474976710656) *ℚ ((one_ℚ -ℚ l) *ℚ (one_ℚ -ℚ part 60))
quotient_enough n l z half sign sign_z small k =
    let below_one : n ≤ℚ one_ℚ = le_trans k (le_by (l ∷ z ∷ []) {x = z *ℚ (one_ℚ -ℚ l)} {y = one_ℚ} (gap small ⊕ sign ⊗ sign_z) (search reads depth 90) tt) in
    le_by (n ∷ l ∷ z ∷ [])
    (known 1152921504606846975 (2 ^ 60) ⊗ gap k ⊕ known 1 (2 ^ 60) ⊗ gap below_one
    ⊕ known 1152921504606846975 (2 ^ 107) ⊗ gap half ⊕ known 1152640029630136319 (2 ^ 108))
    (search reads depth 90) tt

-- an angle that moves by y and three units more than it misses
module _ (n sum spread y : ℕ) (half : sum ≤ 2 ^ 47) (floor : y ≡ n * 281474976710656 / (281474976710656 - sum)) where
  pub moves_sign : NonNeg (at (pos (y + spread + 3)) -ℚ at (pos spread))
  moves_sign = same_sign (less y spread) (not_below_zero (y + 3))

  pub moves : y + spread + 3 ≤ 2 ^ 48 → at (pos n) ≤ℚ (at (pos (y + spread + 3)) -ℚ at (pos spread)) *ℚ ((one_ℚ -ℚ at (pos sum)) *ℚ (one_ℚ -ℚ part 60))
  moves small =
      let k = in_fractions n sum (y + 1) (281474976710656 - sum) (omega arith) (rw floor (over_floor (n * 281474976710656) (281474976710656 - sum) (omega arith))) in
      le_trans (quotient_enough (at (pos n)) (at (pos sum)) (at (pos (y + 1))) (at_most_half half) (not_below_zero sum) (not_below_zero (y + 1)) (at_most_one (omega arith)) k)
      (rw (more y spread) (le_by (at (pos (y + 1)) ∷ at (pos spread) ∷ at (pos sum) ∷ []) (known 0 1) (search reads depth 90) tt))

-- what the next angle leaves
pub next_enough : (sum spread moved : ℕ) → sum ≤ 2 ^ 47 →
    ratio (pos 2) 1 *ℚ at (pos spread) +ℚ at (pos sum) *ℚ (ratio (pos 1) 2 *ℚ (at (pos moved) *ℚ at (pos moved)) +ℚ part 54) ≤ℚ at (pos (2 * spread + sum * (moved * moved / 2 ^ 49 + 1) / 2 ^ 48 + 2))
next_enough sum spread moved half =
    let bend = bend_enough sum moved in
    let rest = sum * (moved * moved / 2 ^ 49 + 1) / 2 ^ 48 in
    le_trans {y = ratio (pos 2) 1 *ℚ at (pos spread) +ℚ at (pos (rest + 2))}
    (le_by (at (pos spread) ∷ at (pos sum) ∷ at (pos moved) ∷ at (pos (rest + 2)) ∷ []) (gap bend ⊕ known 1 (2 ^ 54) ⊗ gap (at_most_half half) ⊕ known 127 (2 ^ 55)) (search reads depth 90) tt)
    (rw (same spread rest, at_add spread (spread + (rest + 2)), at_add spread (rest + 2)) (le_by (at (pos spread) ∷ at (pos (rest + 2)) ∷ []) (known 0 1) (search reads depth 90) tt))
  where
    same : (m n : ℕ) → 2 * m + n + 2 ≡ m + (m + (n + 2))
    same m n = omega arith
