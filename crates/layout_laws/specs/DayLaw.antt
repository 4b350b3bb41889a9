-- What is printed of daylight tells it.
use Rattle.std.specs.Prelude.{◌≡◌, ℕ, ◌≤◌, List, [], length, All, ⊤}
use Rattle.elements.specs.Window.{WindowRecord, IsWindow}
use Rattle.pass_text.specs.DayLayout.{day_layout}
use Rattle.plan_text.specs.Plan.{IsWithin}
use Rattle.sgp4_model.specs.Records.{AnswerRecord, spans, unresolved, full, decays}
use Rattle.sgp4_model.specs.declared.span.Span.{Span}

-- the ticks of an answer lie in a window of so many ticks; daylight never decays
abbrev pub DayAnswerIsWithin : ℕ → AnswerRecord → Type 0
DayAnswerIsWithin ticks (spans count) = ⊤
DayAnswerIsWithin ticks (unresolved from to) = (from ≤ ticks) × (to ≤ ticks)
DayAnswerIsWithin ticks (full at) = at ≤ ticks
DayAnswerIsWithin ticks (decays at) = ⊥

-- the answer counts the spans, and there are none where it says why
abbrev pub DayIsCounted : AnswerRecord → List Span → Type 0
DayIsCounted (spans count) list = count ≡ length list
DayIsCounted (unresolved from to) list = list ≡ []
DayIsCounted (full at) list = list ≡ []
DayIsCounted (decays at) list = list ≡ []

-- a window, an answer in it, and the answer's spans
pub record IsDay (w : WindowRecord) (given : AnswerRecord) (list : List Span) : Type 0 where
  pub window : IsWindow w
  pub answer : DayAnswerIsWithin w.ticks given
  pub counted : DayIsCounted given list
  pub each : All (IsWithin w.ticks) list

-- daylight of one text is the same: windows, answers and spans
abbrev pub LayoutsTellDays : Type 0
LayoutsTellDays =
    (v w : WindowRecord) (x y : AnswerRecord) (xs ys : List Span) → IsDay v x xs → IsDay w y ys
    → day_layout v x xs ≡ day_layout w y ys → (v ≡ w) × (x ≡ y) × (xs ≡ ys)
