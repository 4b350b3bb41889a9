-- The sets of lines, as they are read.
use Rattle.std.proofs.Common.{◌≡◌, ◌<◌, arith, length, refl, Bool, true, false, List, [], ◌∷◌, Result, Ok, Err, Some, cond, sym, ap, ◌∙◌}
use Rattle.catalogue.specs.declared.entry.Entry.{Entry}
use Rattle.catalogue.specs.declared.fault.CatFault.{CatFault}
use Rattle.catalogue.specs.declared.fault.CatFault.TheVariants.{Odd, OutOfMemory}
use Rattle.catalogue.specs.Lines.{NumberedLine}
use Rattle.catalogue.specs.Reading.{IsReadOf}
use Rattle.catalogue.specs.TwoLineFile.{is_first, is_name_of, pair, sets_of}

-- what was read where memory is not wanting
pub read_is : (read defined : Result Entry CatFault) (after : List (Result Entry CatFault)) → (¬ (read ≡ Err OutOfMemory) → read ≡ defined) → IsReadOf read (defined ∷ after) after
read_is (Ok set) defined after h = ap (λ x. x ∷ after) (sym (h (λ e. absurd cc)))
read_is (Err fault) defined after h = λ other. ap Some (sym (h (λ e. other cc)))

-- of three ways the one that two tests choose
choice : {A : Type 0} (first name : Bool) (x y z : A) → first ≡ true → cond first x (cond name y z) ≡ x
choice first name x y z e = ap (λ b. cond b x (cond name y z)) e

other : {A : Type 0} (first name b : Bool) (x y z : A) → first ≡ false → name ≡ b → cond first x (cond name y z) ≡ cond b y z
other first name b x y z e f = ap (λ c. cond c x (cond name y z)) e ∙ ap (λ c. cond c y z) f

-- a set without a name
pub sets_of_first : (line next : NumberedLine) (rest : List NumberedLine) → is_first line next ≡ true → sets_of (line ∷ next ∷ rest) ≡ pair [] line next ∷ sets_of rest
unfolding sets_of
sets_of_first line next [] e = choice (is_first line next) (is_name_of line next) _ _ _ e
sets_of_first line next (third ∷ rest) e = choice (is_first line next) (is_name_of line next) _ _ _ e

-- a line at the wrong place
pub sets_of_odd : (line next : NumberedLine) (rest : List NumberedLine) → is_first line next ≡ false → is_name_of line next ≡ false → sets_of (line ∷ next ∷ rest) ≡ Err (Odd line.number) ∷ []
unfolding sets_of
sets_of_odd line next [] e f = other (is_first line next) (is_name_of line next) false _ _ _ e f
sets_of_odd line next (third ∷ rest) e f = other (is_first line next) (is_name_of line next) false _ _ _ e f

-- a name, and one line alone behind it
pub sets_of_last : (line next : NumberedLine) → is_first line next ≡ false → is_name_of line next ≡ true → sets_of (line ∷ next ∷ []) ≡ Err (Odd next.number) ∷ []
unfolding sets_of
sets_of_last line next e f = other (is_first line next) (is_name_of line next) true _ _ _ e f

-- a name, and a set behind it
pub sets_of_named : (line next third : NumberedLine) (rest : List NumberedLine) → is_first line next ≡ false → is_name_of line next ≡ true → sets_of (line ∷ next ∷ third ∷ rest) ≡ pair line.text next third ∷ sets_of rest
unfolding sets_of
sets_of_named line next third rest e f = other (is_first line next) (is_name_of line next) true _ _ _ e f

-- no line
pub sets_of_none : sets_of [] ≡ []
unfolding sets_of
sets_of_none = refl

-- one line alone
pub sets_of_alone : (line : NumberedLine) → sets_of (line ∷ []) ≡ Err (Odd line.number) ∷ []
unfolding sets_of
sets_of_alone line = refl

some_of_three : {A : Type 0} (first name : Bool) (x y z : A) (xs ys zs : List A) → 0 < length (cond first (x ∷ xs) (cond name (y ∷ ys) (z ∷ zs)))
some_of_three true name x y z xs ys zs = omega arith
some_of_three false true x y z xs ys zs = omega arith
some_of_three false false x y z xs ys zs = omega arith

-- where a line is left, so is a set or a fault
pub sets_of_some : (line : NumberedLine) (rest : List NumberedLine) → 0 < length (sets_of (line ∷ rest))
unfolding sets_of
sets_of_some line [] = omega arith
sets_of_some line (next ∷ []) = some_of_three (is_first line next) (is_name_of line next) _ _ _ _ _ _
sets_of_some line (next ∷ third ∷ rest) = some_of_three (is_first line next) (is_name_of line next) _ _ _ _ _ _
