-- Windows at the ends of their ranges, one by one.
use Rattle.std.proofs.Common.{arith, refl}
use Rattle.std.proofs.lemmas.Int.{ints}
use Rattle.elements.specs.Window.{IsResolution}
use Rattle.rows_elements.specs.SmallWindows.{SmallWindows}

one_second : IsResolution 10_000
one_second = record { least = omega arith; most = omega arith; whole = refl }

one_minute : IsResolution 600_000
one_minute = record { least = omega arith; most = omega arith; whole = refl }

pub small_windows : SmallWindows
small_windows = record {
  shortest = record { start = (omega (arith, ints), omega (arith, ints)); whole = refl; least = omega arith; most = omega arith; resolution = one_second; «end» = (omega (arith, ints), omega (arith, ints)) };
  no_tick = λ h. absurd (omega (arith, h.least));
  longest = record { start = (omega (arith, ints), omega (arith, ints)); whole = refl; least = omega arith; most = omega arith; resolution = one_minute; «end» = (omega (arith, ints), omega (arith, ints)) };
  too_long = λ h. absurd (omega (arith, h.most));
  no_second = λ h. absurd (omega (arith, h.resolution.least));
  half_a_second_more = λ h. absurd (omega (arith, h.resolution.whole));
  sixty_one_seconds = λ h. absurd (omega (arith, h.resolution.most));
  between_ticks = λ h. absurd (omega (arith, h.whole));
  first = record { start = (omega (arith, ints), omega (arith, ints)); whole = refl; least = omega arith; most = omega arith; resolution = one_second; «end» = (omega (arith, ints), omega (arith, ints)) };
  before_first = λ h. absurd (omega (arith, ints, h.start.0));
  last = record { start = (omega (arith, ints), omega (arith, ints)); whole = refl; least = omega arith; most = omega arith; resolution = one_second; «end» = (omega (arith, ints), omega (arith, ints)) };
  past_last = λ h. absurd (omega (arith, ints, h.«end».1));
}
