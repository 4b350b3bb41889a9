-- Closed cells of places: joined at an end, and cut at a tick.
use Rattle.std.proofs.Common.{ℕ, ⊎_elim, pos}
use Rattle.exact.specs.Rational.{ℚ, of_int, ◌≤ℚ◌}
use Rattle.exact.proofs.Bounds.{le_total}
use Rattle.sgp4_model.specs.Time.{IsWithin, Throughout}

-- a place of a cell lies on one side of each tick
pub cut : {P : Type 0} (from middle to : ℕ) (place : ℚ) → IsWithin from to place → (IsWithin from middle place → P) → (IsWithin middle to place → P) → P
cut {P} from middle to place here left right = ⊎_elim
    (λ (h : place ≤ℚ of_int (pos middle)). left (record { low = here.low; high = h }))
    (λ (h : of_int (pos middle) ≤ℚ place). right (record { low = h; high = here.high }))
    (le_total place (of_int (pos middle)))

-- what holds throughout two cells that meet holds throughout both together
pub throughout_join : (holds : ℚ → Type 0) (from middle to : ℕ) → Throughout from middle holds → Throughout middle to holds → Throughout from to holds
throughout_join holds from middle to h k place here = cut from middle to place here (h place) (k place)
