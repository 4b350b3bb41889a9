-- What numerals say of a sum or a difference of two products, where the sizes of two of the factors are known together: as for
-- the two numbers of a pair, whose squares add up to 1, and for the eccentricity vector.
use Rattle.std.specs.Prelude.{Bool, ℕ, ◌&&◌, ◌+◌, ◌*◌, ◌/◌, max}
use Rattle.fixed_iv.specs.Reach.{Reach, outer_size, ◌+ᴿ◌, ◌-ᴿ◌, ◌*ᴿ◌}

-- the sizes of the exact a and b add up to so many units at most, if that is known
module _ (known : Bool) (sum : ℕ) (a b c s : Reach) where
  -- in units: of each spread as much as the factors that it meets are large
  abbrev pub spread_of_pair : ℕ
  spread_of_pair = ((sum + a.spread + b.spread) * max c.spread s.spread + outer_size c * a.spread + outer_size s * b.spread) / 281474976710656 + 4

  -- of a c + b s
  unfoldable pub inner_of : Reach
  inner_of = record { ok = known && (a *ᴿ c +ᴿ b *ᴿ s).ok; range = (a *ᴿ c +ᴿ b *ᴿ s).range; spread = spread_of_pair }

  -- of a c - b s
  unfoldable pub outer_of : Reach
  outer_of = record { ok = known && (a *ᴿ c -ᴿ b *ᴿ s).ok; range = (a *ᴿ c -ᴿ b *ᴿ s).range; spread = spread_of_pair }

-- the sizes of a sine and its cosine add up to at most 1.41422, in units
abbrev pub most_pair : ℕ
most_pair = 398067541563744
