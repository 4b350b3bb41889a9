-- Enclosures that follow a line of the equations: at each place they cover what the line gives for covered numbers, and
-- numerals for them follow from those of its arguments by the same line.
use Rattle.std.specs.Prelude.{◌≡◌, ℕ, zero, suc}
use Rattle.exact.specs.Rational.{ℚ, zero_ℚ, ◌/ℚ◌}
use Rattle.sgp4_model.specs.Angle.{IsPi}
use Rattle.fixed_iv.specs.Arithmetic.{Arithmetic, exact, numerals}
use Rattle.fixed_iv.specs.Place.{Place}
use Rattle.fixed_iv.specs.Reach.{Reach, IsHeld, ◌/ᴿ◌}
use Rattle.fixed_iv.specs.declared.enc.Enc.{Ghosts}

-- the enclosure covers the number at the place, and is as its numerals say
abbrev pub Encloses : {A : Type 0} → Ghosts A → A → Place → ℚ → Reach → Type 0
Encloses E a at x r = IsHeld E.covers E.extent E.tells a at x r

-- it does so at every place, of the number that each pi of the bracket gives
abbrev pub EnclosesByPi : {A : Type 0} → Ghosts A → A → (ℚ → ℚ) → Reach → Type 0
EnclosesByPi E a number r = (at : Place) (pi : ℚ) → IsPi pi → Encloses E a at (number pi) r

-- an operation on so many numbers that gives something
abbrev pub Operation : ℕ → Type 0 → Type 0 → Type 0
Operation zero A B = B
Operation (suc n) A B = A → Operation n A B

-- a line in so many quantities, in any arithmetic
abbrev pub Line : ℕ → Type 1
Line n = (N : Arithmetic) → Operation n N.Number N.Number

-- the result follows a line in one quantity
pub record Follows1 {A : Type 0} (E : Ghosts A) (result : A) (line : Line 1) (a : A) : Type 0 where
  pub gives : {h : Place} {x : ℚ} {p : Reach} →
      Encloses E a h x p →
      Encloses E result h (line exact x) (line numerals p)

-- the result follows a line in two quantities
pub record Follows2 {A : Type 0} (E : Ghosts A) (result : A) (line : Line 2) (a b : A) : Type 0 where
  pub gives : {h : Place} {x y : ℚ} {p q : Reach} →
      Encloses E a h x p → Encloses E b h y q →
      Encloses E result h (line exact x y) (line numerals p q)

-- the result follows a line in three quantities
pub record Follows3 {A : Type 0} (E : Ghosts A) (result : A) (line : Line 3) (a b c : A) : Type 0 where
  pub gives : {h : Place} {x y z : ℚ} {p q r : Reach} →
      Encloses E a h x p → Encloses E b h y q → Encloses E c h z r →
      Encloses E result h (line exact x y z) (line numerals p q r)

-- the result follows a line in four quantities
pub record Follows4 {A : Type 0} (E : Ghosts A) (result : A) (line : Line 4) (a b c d : A) : Type 0 where
  pub gives : {h : Place} {x y z u : ℚ} {p q r k : Reach} →
      Encloses E a h x p → Encloses E b h y q → Encloses E c h z r → Encloses E d h u k →
      Encloses E result h (line exact x y z u) (line numerals p q r k)

-- the result follows a line in five quantities
pub record Follows5 {A : Type 0} (E : Ghosts A) (result : A) (line : Line 5) (a b c d e : A) : Type 0 where
  pub gives : {h : Place} {x y z u v : ℚ} {p q r k l : Reach} →
      Encloses E a h x p → Encloses E b h y q → Encloses E c h z r → Encloses E d h u k →
      Encloses E e h v l →
      Encloses E result h (line exact x y z u v) (line numerals p q r k l)

-- the result follows a line in six quantities
pub record Follows6 {A : Type 0} (E : Ghosts A) (result : A) (line : Line 6) (a b c d e f : A) : Type 0 where
  pub gives : {h : Place} {x y z u v w : ℚ} {p q r k l m : Reach} →
      Encloses E a h x p → Encloses E b h y q → Encloses E c h z r → Encloses E d h u k →
      Encloses E e h v l → Encloses E f h w m →
      Encloses E result h (line exact x y z u v w) (line numerals p q r k l m)

-- the result follows a line in seven quantities
pub record Follows7 {A : Type 0} (E : Ghosts A) (result : A) (line : Line 7) (a b c d e f g : A) : Type 0 where
  pub gives : {h : Place} {x y z u v w s : ℚ} {p q r k l m n : Reach} →
      Encloses E a h x p → Encloses E b h y q → Encloses E c h z r → Encloses E d h u k →
      Encloses E e h v l → Encloses E f h w m → Encloses E g h s n →
      Encloses E result h (line exact x y z u v w s) (line numerals p q r k l m n)

-- the result follows a line in eight quantities
pub record Follows8 {A : Type 0} (E : Ghosts A) (result : A) (line : Line 8) (a b c d e f g i : A) : Type 0 where
  pub gives : {h : Place} {x y z u v w s t : ℚ} {p q r k l m n o : Reach} →
      Encloses E a h x p → Encloses E b h y q → Encloses E c h z r → Encloses E d h u k →
      Encloses E e h v l → Encloses E f h w m → Encloses E g h s n → Encloses E i h t o →
      Encloses E result h (line exact x y z u v w s t) (line numerals p q r k l m n o)

-- a quotient of two lines, as its dividend and its divisor
abbrev pub Ratio : ℕ → Type 1
Ratio n = (N : Arithmetic) → Operation n N.Number (N.Number × N.Number)

-- the result follows a quotient in one quantity, where the divisor is not 0
pub record FollowsRatio1 {A : Type 0} (E : Ghosts A) (result : A) (line : Ratio 1) (a : A) : Type 0 where
  pub gives : {h : Place} {x : ℚ} {p : Reach} → ¬ ((line exact x).1 ≡ zero_ℚ) →
      Encloses E a h x p →
      Encloses E result h ((line exact x).0 /ℚ (line exact x).1) ((line numerals p).0 /ᴿ (line numerals p).1)

-- the result follows a quotient in two quantities, where the divisor is not 0
pub record FollowsRatio2 {A : Type 0} (E : Ghosts A) (result : A) (line : Ratio 2) (a b : A) : Type 0 where
  pub gives : {h : Place} {x y : ℚ} {p q : Reach} → ¬ ((line exact x y).1 ≡ zero_ℚ) →
      Encloses E a h x p → Encloses E b h y q →
      Encloses E result h ((line exact x y).0 /ℚ (line exact x y).1) ((line numerals p q).0 /ᴿ (line numerals p q).1)

-- the result follows a quotient in three quantities, where the divisor is not 0
pub record FollowsRatio3 {A : Type 0} (E : Ghosts A) (result : A) (line : Ratio 3) (a b c : A) : Type 0 where
  pub gives : {h : Place} {x y z : ℚ} {p q r : Reach} → ¬ ((line exact x y z).1 ≡ zero_ℚ) →
      Encloses E a h x p → Encloses E b h y q → Encloses E c h z r →
      Encloses E result h ((line exact x y z).0 /ℚ (line exact x y z).1) ((line numerals p q r).0 /ᴿ (line numerals p q r).1)

-- the result follows a quotient in four quantities, where the divisor is not 0
pub record FollowsRatio4 {A : Type 0} (E : Ghosts A) (result : A) (line : Ratio 4) (a b c d : A) : Type 0 where
  pub gives : {h : Place} {x y z u : ℚ} {p q r k : Reach} → ¬ ((line exact x y z u).1 ≡ zero_ℚ) →
      Encloses E a h x p → Encloses E b h y q → Encloses E c h z r → Encloses E d h u k →
      Encloses E result h ((line exact x y z u).0 /ℚ (line exact x y z u).1) ((line numerals p q r k).0 /ᴿ (line numerals p q r k).1)

-- the result follows a quotient in five quantities, where the divisor is not 0
pub record FollowsRatio5 {A : Type 0} (E : Ghosts A) (result : A) (line : Ratio 5) (a b c d e : A) : Type 0 where
  pub gives : {h : Place} {x y z u v : ℚ} {p q r k l : Reach} → ¬ ((line exact x y z u v).1 ≡ zero_ℚ) →
      Encloses E a h x p → Encloses E b h y q → Encloses E c h z r → Encloses E d h u k →
      Encloses E e h v l →
      Encloses E result h ((line exact x y z u v).0 /ℚ (line exact x y z u v).1) ((line numerals p q r k l).0 /ᴿ (line numerals p q r k l).1)
