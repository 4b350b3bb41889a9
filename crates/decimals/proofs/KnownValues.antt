-- What some texts write, by computing.
use Rattle.std.proofs.Common.{◌≡◌, codes, Ok, Err, pos, neg_ℤ, refl}
use Rattle.decimals.specs.declared.fault.NumFault.TheVariants.{Shape, TooFine}
use Rattle.decimals.specs.Normal.{shortest}
use Rattle.decimals.specs.DecimalText.{decimal_of_fields, as_decimal, decimal_value, of_short, whole_quotient}

a_drag_term : decimal_value (codes "-.11606E-4") ≡ Ok (record { digits = neg_ℤ (pos 11606); places = 9 })
unfolding decimal_value decimal_of_fields as_decimal shortest of_short whole_quotient
a_drag_term = refl

a_zero_at_the_end : decimal_value (codes "130.5360") ≡ Ok (record { digits = pos 130536; places = 3 })
unfolding decimal_value decimal_of_fields as_decimal shortest of_short whole_quotient
a_zero_at_the_end = refl

nought : decimal_value (codes "0.000") ≡ Ok (record { digits = pos 0; places = 0 })
unfolding decimal_value decimal_of_fields as_decimal shortest of_short whole_quotient
nought = refl

no_digit : decimal_value (codes ".") ≡ Err Shape
unfolding decimal_value decimal_of_fields as_decimal shortest of_short whole_quotient
no_digit = refl

four_digits_of_exponent : decimal_value (codes "1E1000") ≡ Err Shape
unfolding decimal_value decimal_of_fields as_decimal shortest of_short whole_quotient
four_digits_of_exponent = refl

nineteen_places : decimal_value (codes "1E-19") ≡ Err TooFine
unfolding decimal_value decimal_of_fields as_decimal shortest of_short whole_quotient
nineteen_places = refl

nineteen_digits : decimal_value (codes "1000000000000000000") ≡ Err TooFine
unfolding decimal_value decimal_of_fields as_decimal shortest of_short whole_quotient
nineteen_digits = refl

large_exponent : decimal_value (codes "1E+999") ≡ Err TooFine
unfolding decimal_value decimal_of_fields as_decimal shortest of_short whole_quotient
large_exponent = refl

large_exponent_of_nought : decimal_value (codes "0E999") ≡ Ok (record { digits = pos 0; places = 0 })
unfolding decimal_value decimal_of_fields as_decimal shortest of_short whole_quotient
large_exponent_of_nought = refl
