-- What the answers of a comparison say of two numbers.
use Rattle.std.proofs.Common.{◌≡◌, ◌↔◌, IsTrue, refl, subst}
use Rattle.std.specs.declared.cmp.Ordering.{Ordering}
use Rattle.std.specs.declared.cmp.Ordering.TheVariants.{Less, Equal, Greater}
use Rattle.std.specs.Ordering.{is_le, is_lt, MatchOrdering}
use Rattle.std.specs.Cmp.{one_rank}
use Rattle.exact.specs.Rational.{ℚ, ◌≤ℚ◌, ◌<ℚ◌}
use Rattle.exact.proofs.Order.{le_refl}
use Rattle.exact.proofs.Strict.{le_of_lt}
use Rattle.decimals.specs.Order.{order}
use Rattle.decimals.specs.OrderLaws.{order_ranks, lt_irrefl, lt_chain, not_le}

le_by_answer : (x y : ℚ) (r : Ordering) → MatchOrdering r (x <ℚ y) (x ≡ y) (y <ℚ x) → IsTrue (is_le r) ↔ x ≤ℚ y
le_by_answer x y Less h = (λ _. le_of_lt h, λ _. refl)
le_by_answer x y Equal h = (λ _. subst (λ w. x ≤ℚ w) h (le_refl x), λ _. refl)
le_by_answer x y Greater h = (λ e. cc e, λ k. absurd (not_le y x h k))

-- the first is at most the second where the answer is not `Greater`
pub order_le : (x y : ℚ) → IsTrue (is_le (order x y)) ↔ x ≤ℚ y
order_le x y = le_by_answer x y (order x y) (order_ranks x y)

lt_by_answer : (x y : ℚ) (r : Ordering) → MatchOrdering r (x <ℚ y) (x ≡ y) (y <ℚ x) → IsTrue (is_lt r) ↔ x <ℚ y
lt_by_answer x y Less h = (λ _. h, λ _. refl)
lt_by_answer x y Equal h = (λ e. cc e, λ k. absurd (lt_irrefl y (subst (λ w. w <ℚ y) h k)))
lt_by_answer x y Greater h = (λ e. cc e, λ k. absurd (lt_irrefl x (lt_chain x y x k h)))

-- and below it where the answer is `Less`
pub order_lt : (x y : ℚ) → IsTrue (is_lt (order x y)) ↔ x <ℚ y
order_lt x y = lt_by_answer x y (order x y) (order_ranks x y)

-- the answer, from what holds
pub order_is : (x y : ℚ) (r : Ordering) → MatchOrdering r (x <ℚ y) (x ≡ y) (y <ℚ x) → r ≡ order x y
order_is x y r h = one_rank (λ (a b : ℚ). a <ℚ b) lt_irrefl lt_chain x y r (order x y) h (order_ranks x y)
