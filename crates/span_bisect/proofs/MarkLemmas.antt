-- What `==` tells of two marks.
use Rattle.std.proofs.Common.{◌≡◌, ◌≢◌, true, false, refl}
use denote.Enum.Bare.{sameb}
use Rattle.sgp4_model.specs.contracts.span.Mark.{the_type}
use Rattle.sgp4_model.specs.declared.span.Mark.{Mark}
use Rattle.sgp4_model.specs.declared.span.Mark.TheVariants.{Yes, No, Undecided}

pub same_mark : (a b : Mark) → sameb the_type a b ≡ true → a ≡ b
same_mark Yes Yes h = refl
same_mark No No h = refl
same_mark Undecided Undecided h = refl
same_mark Yes No h = absurd (cc)
same_mark Yes Undecided h = absurd (cc)
same_mark No Yes h = absurd (cc)
same_mark No Undecided h = absurd (cc)
same_mark Undecided Yes h = absurd (cc)
same_mark Undecided No h = absurd (cc)

pub other_mark : (a b : Mark) → sameb the_type a b ≡ false → a ≢ b
other_mark Yes Yes h e = absurd (cc)
other_mark No No h e = absurd (cc)
other_mark Undecided Undecided h e = absurd (cc)
other_mark Yes No h e = absurd (cc)
other_mark Yes Undecided h e = absurd (cc)
other_mark No Yes h e = absurd (cc)
other_mark No Undecided h e = absurd (cc)
other_mark Undecided Yes h e = absurd (cc)
other_mark Undecided No h e = absurd (cc)
