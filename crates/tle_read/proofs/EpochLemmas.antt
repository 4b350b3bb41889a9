-- The nanoseconds of a day of the year.
use Rattle.std.proofs.Common.{◌≡◌, ℕ, zero, suc, ◌+◌, ◌-◌, ◌*◌, ◌/◌, ◌^◌, ◌<◌, ◌≤◌, sym, ap, ◌∙◌, arith}
use Rattle.std.proofs.Math.Nat.{mul-div_cancel, mul-le-mul_right, mul-lt-mul_of_pos_right, one-le-pow, mul_assoc, mul_comm}
use Rattle.std.proofs.lemmas.Nat.{pow-add}
use Rattle.civil_time.specs.Scale.{day_nanos}

-- a unit of at most eleven places is a whole number of nanoseconds
pub unit_is_whole : (places : ℕ) → places ≤ 11 → day_nanos / 10 ^ places * 10 ^ places ≡ day_nanos
unit_is_whole places h =
    let all : 11 - places + places ≡ 11 = omega arith in
    let split : 864 * 10 ^ (11 - places) * 10 ^ places ≡ day_nanos =
    mul_assoc 864 (10 ^ (11 - places)) (10 ^ places) ∙ ap (λ t. 864 * t) (sym (pow-add 10 (11 - places) places)) ∙ ap (λ t. 864 * 10 ^ t) all in
    let some : 0 < 10 ^ places = one-le-pow places 10 (omega arith) in
    let whole : day_nanos / 10 ^ places ≡ 864 * 10 ^ (11 - places) = ap (λ t. t / 10 ^ places) (sym split) ∙ mul-div_cancel (864 * 10 ^ (11 - places)) some in
    ap (λ t. t * 10 ^ places) whole ∙ split

-- from day 1 on at least a day has passed
pub day_from : (digits places : ℕ) → places ≤ 11 → 10 ^ places ≤ digits → day_nanos ≤ digits * (day_nanos / 10 ^ places)
day_from digits places h from =
    let more : 10 ^ places * (day_nanos / 10 ^ places) ≤ digits * (day_nanos / 10 ^ places) = mul-le-mul_right (day_nanos / 10 ^ places) from in
    let whole = unit_is_whole places h in
    omega (arith, mul_comm (10 ^ places) (day_nanos / 10 ^ places))

-- and before the last day ends no more than all days
pub day_below : (digits places days : ℕ) → places ≤ 11 → digits < days * 10 ^ places → digits * (day_nanos / 10 ^ places) < days * day_nanos
day_below digits places days h below =
    let whole = unit_is_whole places h in
    let some : 0 < day_nanos / 10 ^ places = positive (day_nanos / 10 ^ places) (10 ^ places) whole in
    let less : digits * (day_nanos / 10 ^ places) < days * 10 ^ places * (day_nanos / 10 ^ places) = mul-lt-mul_of_pos_right below some in
    let all : days * 10 ^ places * (day_nanos / 10 ^ places) ≡ days * day_nanos =
    mul_assoc days (10 ^ places) (day_nanos / 10 ^ places) ∙ ap (λ t. days * t) (mul_comm (10 ^ places) (day_nanos / 10 ^ places) ∙ whole) in
    omega arith
  where
    positive : (u p : ℕ) → u * p ≡ 86_400_000_000_000 → 0 < u
    positive zero p e = absurd (omega arith)
    positive (suc u) p e = omega arith
