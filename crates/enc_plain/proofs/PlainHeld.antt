-- A given interval as a held plain enclosure, and what a held one says of its interval.
use Rattle.std.proofs.Common.{true, ℕ, []}
use Rattle.exact.specs.Rational.{ℚ, zero_ℚ}
use Rattle.exact.proofs.RationalRing.{reads}
use Rattle.exact.proofs.Order.{known, le_by}
use Rattle.exact.specs.Interval.{Interval}
use Rattle.fixed_iv.specs.Extent.{extent_of}
use Rattle.fixed_iv.specs.Holds.{Holds}
use Rattle.fixed_iv.specs.Place.{Place}
use Rattle.fixed_iv.specs.Reach.{IsGiven, IsHeld, Reach, reach_of}
use Rattle.fixed_iv.specs.declared.iv.Iv.{Iv}
use Rattle.fixed_iv.proofs.NarrowLemmas.{measured_of}
use Rattle.enc_plain.specs.declared.plain.Plain.{Plain}

abbrev pub PlainHeld : Plain → Place → ℚ → Reach → Type 0
PlainHeld = IsHeld (λ a h x. Holds a.iv x) (λ a. extent_of a.iv) true

pub held_of : (v : Iv) (h : Place) {x : ℚ} {i : Interval} {n : ℕ} → IsGiven v x i n → PlainHeld (record { iv = v }) h x (reach_of i n)
held_of v h g =
    record {
      covers = g.holds;
      known = λ _ _. record { inside = g.inside; measured = measured_of v g.bounded; narrow = g.within };
    }

-- where the numerals are known to say something
pub given_of : (a : Plain) (h : Place) {x : ℚ} {i : Interval} {n : ℕ} → PlainHeld a h x (reach_of i n) → IsGiven a.iv x i n
given_of a h k =
    let g = k.known tt tt in
    record { holds = k.covers; bounded = g.measured.bounded; within = g.narrow; inside = g.inside }

-- the middle of the cell
pub middle : Place
middle = record { at = zero_ℚ; low = le_by [] (known 1 1) (search reads depth 90) tt; high = le_by [] (known 1 1) (search reads depth 90) tt }
