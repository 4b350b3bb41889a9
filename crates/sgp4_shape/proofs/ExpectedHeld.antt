-- A range that is known by other means holds of what is held.
use Rattle.std.proofs.Common.{Bool, false, T, pos}
use Rattle.exact.specs.Rational.{ℚ}
use Rattle.exact.specs.Interval.{Inside, Interval}
use Rattle.fixed_iv.specs.Extent.{Extent}
use Rattle.fixed_iv.specs.Place.{Place}
use Rattle.fixed_iv.specs.Reach.{IsHeld, Reach}
use Rattle.fixed_iv.proofs.OuterLemmas.{both}
use Rattle.sgp4_shape.specs.Expected.{DragBox, expected}

pub expected_held : {A : Type 0} {C : A → Place → ℚ → Type 0} {E : A → Extent} {told : Bool} {a : A} {h : Place} {x : ℚ} {r : Reach} →
    (known : Bool) (i : Interval) → IsHeld C E told a h x r → (T known → Inside i x) → IsHeld C E told a h x (expected known r i)
expected_held known i k f =
    record { covers = k.covers; known = λ told t. let t0 = both _ _ t in let n = k.known told t0.1 in record { inside = f t0.0; measured = n.measured; narrow = n.narrow } }

-- a box in which nothing is known
abbrev pub no_range : Interval
no_range = record { low = record { num = pos 0; under = 0 }; high = record { num = pos 0; under = 0 } }

abbrev pub no_drag_box : DragBox
no_drag_box = record { known = false; bend = no_range }
