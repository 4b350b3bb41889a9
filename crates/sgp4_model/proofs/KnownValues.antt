-- Values of the definitions, worked out by a second program.
use Rattle.std.proofs.Common.{◌≡◌, [], refl, pos, negsuc}
use Rattle.exact.specs.Rational.{ratio}
use Rattle.exact.proofs.RationalRing.{ring, reads}
use Rattle.exact.proofs.Order.{le_refl}
use Rattle.exact.proofs.Intervals.{le_on}
use Rattle.sgp4_model.specs.AngleSums.{factorial, sine_sum, cosine_sum}
use Rattle.sgp4_model.specs.Angle.{IsPi, quadrant, least_pi}

-- the largest divisor of the two series
last_factorial : factorial 19 ≡ 121645100408832000
last_factorial = refl

-- the sums at 1/2
sine_of_half : sine_sum (ratio (pos 1) 2) ≡ ratio (pos 4368050630132021793329) 9111009486163673088000
unfolding sine_sum
sine_of_half = ring [] (search reads depth 90) tt

-- the same, of the cosine
cosine_of_half : cosine_sum (ratio (pos 1) 2) ≡ ratio (pos 133898663454366105013) 152576713883123712000
unfolding cosine_sum
cosine_of_half = ring [] (search reads depth 90) tt

-- the sums at -2/3
sine_of_negative : sine_sum (ratio (negsuc 1) 3) ≡ ratio (negsuc 17325113106107616337) 28017398359527861375
unfolding sine_sum
sine_of_negative = ring [] (search reads depth 90) tt

-- the same, of the cosine
cosine_of_negative : cosine_sum (ratio (negsuc 1) 3) ≡ ratio (pos 5948862339356753959) 7569612890118053775
unfolding cosine_sum
cosine_of_negative = ring [] (search reads depth 90) tt

-- one quarter turn back is three on
quadrant_of_minus_1 : quadrant (negsuc 0) ≡ 3
unfolding quadrant
quadrant_of_minus_1 = refl

-- a whole turn back is none
quadrant_of_minus_4 : quadrant (negsuc 3) ≡ 0
unfolding quadrant
quadrant_of_minus_4 = refl

-- a turn and a half
quadrant_of_6 : quadrant (pos 6) ≡ 2
unfolding quadrant
quadrant_of_6 = refl

-- there is a pi: the lower end of the bracket
a_pi : IsPi least_pi
a_pi = record { low = le_refl least_pi; high = le_on 0 [] [] tt (search reads depth 90) tt }
