-- How long the texts of decimals are.
use Rattle.std.proofs.Common.{◌≡◌, arith, ℕ, zero, suc, ◌+◌, ◌-◌, ◌*◌, ◌/◌, ◌%◌, ◌^◌, ◌<◌, ◌≤◌, List, [], ◌∷◌, ◌++◌, length, replicate, take, decimal, append_assoc}
use Rattle.std.proofs.lemmas.Fmt.{length-decimal-le}
use Rattle.std.proofs.lemmas.Nat.{pow-add, div_below, mod_below}
use Rattle.std.proofs.lemmas.List.{take-replicate}
use Rattle.decimals.specs.PrintedDecimal.{fraction_text}
use Rattle.decimals.proofs.UnitsLemmas.{ten_pow_pos, ten_pow_fits}

-- digits after the point
pub rest_short : (rest places : ℕ) → 0 < places → places ≤ 18 → rest < 10 ^ places → length (decimal rest) ≤ places
rest_short rest places some most below = length-decimal-le places rest some below (omega (arith, ten_pow_fits places most))

pub rest_below : (size places : ℕ) → size % 10 ^ places < 10 ^ places
rest_below size places = mod_below size (10 ^ places) (ten_pow_pos places)

whole_by : (size places left : ℕ) → places + left ≡ 18 → size < 10 ^ 18 → length (decimal (size / 10 ^ places)) + places ≤ 19
whole_by size places zero all small =
    let e : places ≡ 18 = omega arith in
    let none : size / 10 ^ 18 < 10 ^ 1 = omega arith in
    rw e (let short = length-decimal-le 1 (size / 10 ^ 18) (omega arith) none (omega (arith, none)) in omega (arith, short))
whole_by size places (suc left) all small =
    let sum : suc left + places ≡ 18 = omega arith in
    let parts : size < 10 ^ suc left * 10 ^ places = rw (← pow-add 10 (suc left) places, sum) small in
    let below : size / 10 ^ places < 10 ^ suc left = div_below size (10 ^ places) (10 ^ suc left) (ten_pow_pos places) parts in
    let short = length-decimal-le (suc left) (size / 10 ^ places) (omega arith) below (omega (arith, below, ten_pow_fits (suc left) (omega arith))) in
    omega (arith, short)

-- digits before the point, and those after it
pub whole_short : (size places : ℕ) → size < 10 ^ 18 → places ≤ 18 → length (decimal (size / 10 ^ places)) + places ≤ 19
whole_short size places small most = whole_by size places (18 - places) (omega arith) small

-- a point, zeros and digits
pub fraction_in_code : (old : List ℕ) (places rest : ℕ) → 0 < places → places ≤ 18 → length (decimal rest) ≤ places →
    ((old ++ 46 ∷ []) ++ take (places - length (decimal rest)) (replicate 18 48)) ++ decimal rest ≡ old ++ fraction_text places rest
fraction_in_code old zero rest some most short = absurd (omega arith)
fraction_in_code old (suc places) rest some most short =
    rw (take-replicate {X = ℕ} (suc places - length (decimal rest)) 18 48 (omega arith)) (simp append_assoc)
