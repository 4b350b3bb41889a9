-- Ticks of a window have texts of their own.
use Rattle.std.proofs.Common.{◌≡◌, ℕ, ◌≤◌, ◌/◌, ◌+◌, sym, ◌∙◌, arith, List, ◌++◌, ℤ, pos, negsuc, neg_ℤ, ◌+ℤ◌}
use Rattle.std.proofs.Math.Nat.{div-add-mod'}
use Rattle.jiff_core.proofs.SignedLemmas.{signed_arith}
use Rattle.civil_time.specs.Scale.{IsInstant}
use Rattle.civil_time.specs.InstantText.{instant_text, IsWholeIn}
use Rattle.civil_time.proofs.DifferLemmas.{texts_differ}
use Rattle.civil_time.proofs.StampLemmas.{length-instant_text}
use Rattle.elements.specs.Window.{WindowRecord, IsWindow, IsWholeTick, tick_instant}
use Rattle.pass_text.specs.DayLayout.{tick_text}
use Rattle.layout_laws.proofs.FrontLemmas.{cut}

-- instants before whatever follows
pub instant-then : (places : ℕ) (x y : ℤ) (r s : List ℕ) → places ≤ 9 → IsInstant x → IsInstant y → IsWholeIn places x → IsWholeIn places y → instant_text places x ++ r ≡ instant_text places y ++ s → (x ≡ y) × (r ≡ s)
instant-then places x y r s few h k p q e =
    let parts = cut (instant_text places x) (instant_text places y) r s (length-instant_text places x ∙ sym (length-instant_text places y)) e in
    (texts_differ places x y few h k p q parts.0, parts.1)

-- each instant is a whole number of nanoseconds
pub whole_nanos : (x : ℤ) → IsWholeIn 9 x
whole_nanos x = (x, omega (arith, signed_arith))

-- whole ticks are whole in four decimals
whole_start : (x : ℤ) → IsWholeTick x → IsWholeIn 4 x
whole_start (pos n) h = (pos (n / 100000), omega (arith, signed_arith, div-add-mod' n 100000))
whole_start (negsuc n) h = (neg_ℤ (pos ((n + 1) / 100000)), omega (arith, signed_arith, div-add-mod' (n + 1) 100000))

-- the ticks after a whole tick are whole
whole_tick : (start : ℤ) (tick : ℕ) → IsWholeTick start → IsWholeIn 4 (tick_instant start tick)
whole_tick start tick h =
    let units = whole_start start h in
    (units.0 +ℤ pos tick, omega (arith, signed_arith, units.1))

-- the ticks of a window are instants
tick_is : (w : WindowRecord) → IsWindow w → (tick : ℕ) → tick ≤ w.ticks → IsInstant (tick_instant w.start tick)
tick_is w h tick k = (omega (arith, signed_arith, h.start), omega (arith, signed_arith, h.end))

-- ticks of one window before whatever follows
pub tick-then : (w : WindowRecord) → IsWindow w → (t u : ℕ) (r s : List ℕ) → t ≤ w.ticks → u ≤ w.ticks → tick_text w.start t ++ r ≡ tick_text w.start u ++ s → (t ≡ u) × (r ≡ s)
tick-then w h t u r s low high e =
    let parts = instant-then 4 (tick_instant w.start t) (tick_instant w.start u) r s (omega arith) (tick_is w h t low) (tick_is w h u high) (whole_tick w.start t h.whole) (whole_tick w.start u h.whole) e in
    (omega (arith, signed_arith, parts.0), parts.1)

-- the starts of two windows
pub start-then : (v w : WindowRecord) (r s : List ℕ) → IsWindow v → IsWindow w → instant_text 4 v.start ++ r ≡ instant_text 4 w.start ++ s → (v.start ≡ w.start) × (r ≡ s)
start-then v w r s h k e =
    instant-then 4 v.start w.start r s (omega arith) h.start k.start (whole_start v.start h.whole) (whole_start w.start k.whole) e

-- the ends of two windows that start alike
pub end-then : (v w : WindowRecord) (r s : List ℕ) → IsWindow v → IsWindow w → v.start ≡ w.start → tick_text v.start v.ticks ++ r ≡ tick_text w.start w.ticks ++ s → (v.ticks ≡ w.ticks) × (r ≡ s)
end-then v w r s h k same e =
    let parts = instant-then 4 (tick_instant v.start v.ticks) (tick_instant w.start w.ticks) r s (omega arith) h.end k.end (whole_tick v.start v.ticks h.whole) (whole_tick w.start w.ticks k.whole) e in
    (omega (arith, signed_arith, parts.0, same), parts.1)
