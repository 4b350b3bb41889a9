-- How wide roots are for known numerals.
use Rattle.std.proofs.Common.{pos, negsuc}
use Rattle.fixed_iv.specs.Reach.{Reaches, from_to, ◌+ᴿ◌, ◌-ᴿ◌, ◌*ᴿ◌, ◌/ᴿ◌, given, turned}
use Rattle.kepler_enc.specs.Spread.{ball_of, bettered, betters, guesses, left_first, left_last, left_over, moved, next_left, reach_root, rest_of, root_from, root_of, spread_of, stepped_to, steps}

-- in a short cell: u within 721 and 43,000,000 units wide, ax and ay within 0.2023 and 2^20 units wide, together within 0.2853
short_cell : Reaches (reach_root (from_to (negsuc 720) (pos 721) 1 43000000) (from_to (negsuc 2022) (pos 2023) 10000 1048576) (from_to (negsuc 2022) (pos 2023) 10000 1048576) 80304810855556)
    (from_to (negsuc 721) (pos 722) 1 63099615)
unfolding ball_of bettered betters guesses left_first left_last left_over moved next_left rest_of root_from root_of spread_of stepped_to steps ◌+ᴿ◌ ◌-ᴿ◌ ◌*ᴿ◌ ◌/ᴿ◌ given turned
short_cell = tt
