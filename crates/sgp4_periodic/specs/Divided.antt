-- Numerals of a quotient.
use Rattle.fixed_iv.specs.Reach.{Reach, ◌/ᴿ◌}

-- from those of its dividend and its divisor
abbrev pub divided : Reach × Reach → Reach
divided r = r.0 /ᴿ r.1
