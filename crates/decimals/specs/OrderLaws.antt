-- The order of numbers is total: what the comparison traits ask to be shown.
use Rattle.std.specs.Prelude.{◌≡◌, Bool, true, false, not, cond, T, Some, refl}
use Rattle.std.specs.Bool.{Decides}
use Rattle.std.specs.declared.cmp.Ordering.{Ordering}
use Rattle.std.specs.declared.cmp.Ordering.TheVariants.{Less, Equal, Greater}
use Rattle.std.specs.Ordering.{is_eq, MatchOrdering}
use Rattle.std.specs.Cmp.{IsTotalOrder, IsPartialEquivalence, IsEquivalence, IsPartialOrder, strict, decided, partial_equiv_from_equiv, po}
use mathlib.Core.Path.{sym, subst}
use mathlib.Core.Bool.{true≢false}
use lib.Dec.{T_not}
use Rattle.exact.specs.Rational.{ℚ, at_least_0, ◌-ℚ◌, ◌≤ℚ◌, ◌<ℚ◌}
use Rattle.exact.proofs.Order.{le_refl, le_antisym, le_trans}
use Rattle.exact.proofs.Strict.{le_of_lt}
use Rattle.decimals.specs.Order.{order, same}

holds : (t : Bool) → t ≡ true → T t
holds t e = subst T (sym e) tt

fails : (t : Bool) → t ≡ false → T (not t)
fails t e = subst (λ u. T (not u)) (sym e) tt

ranks_by : (x y : ℚ) (a b : Bool) → at_least_0 (x -ℚ y) ≡ a → at_least_0 (y -ℚ x) ≡ b → MatchOrdering (cond a (cond b Equal Greater) Less) (x <ℚ y) (x ≡ y) (y <ℚ x)
ranks_by x y true true p q = le_antisym (record { le = holds (at_least_0 (y -ℚ x)) q }) (record { le = holds (at_least_0 (x -ℚ y)) p })
ranks_by x y true false p q = record { lt = fails (at_least_0 (y -ℚ x)) q }
ranks_by x y false b p q = record { lt = fails (at_least_0 (x -ℚ y)) p }

-- what an answer says of two numbers
pub order_ranks : (x y : ℚ) → MatchOrdering (order x y) (x <ℚ y) (x ≡ y) (y <ℚ x)
unfolding order
order_ranks x y = ranks_by x y (at_least_0 (x -ℚ y)) (at_least_0 (y -ℚ x)) refl refl

pub not_le : (x y : ℚ) → x <ℚ y → y ≤ℚ x → ⊥
not_le x y h k = T_not (at_least_0 (x -ℚ y)) h.lt k.le

below_by : (t : Bool) → (T t → ⊥) → T (not t)
below_by true f = f tt
below_by false f = tt

pub lt_of_not_le : (x y : ℚ) → (y ≤ℚ x → ⊥) → x <ℚ y
lt_of_not_le x y f = record { lt = below_by (at_least_0 (x -ℚ y)) (λ h. f (record { le = h })) }

pub lt_irrefl : (x : ℚ) → ¬ (x <ℚ x)
lt_irrefl x h = not_le x x h (le_refl x)

pub lt_chain : (x y z : ℚ) → x <ℚ y → y <ℚ z → x <ℚ z
lt_chain x y z h k = lt_of_not_le x z (λ back. not_le x y h (le_trans (le_of_lt k) back))

-- the order is total
pub order_total : IsTotalOrder order
order_total = strict (λ (x y : ℚ). x <ℚ y) lt_irrefl lt_chain order order_ranks

same_by : (x y : ℚ) (r : Ordering) → MatchOrdering r (x <ℚ y) (x ≡ y) (y <ℚ x) → Decides (is_eq r) (x ≡ y)
same_by x y Less h = (λ e. absurd (true≢false (sym e)), λ e. absurd (lt_irrefl y (subst (λ w. w <ℚ y) e h)))
same_by x y Equal h = (λ e. h, λ e. refl)
same_by x y Greater h = (λ e. absurd (true≢false (sym e)), λ e. absurd (lt_irrefl y (subst (λ w. y <ℚ w) e h)))

-- the test of sameness tells equality
pub same_Decides : (x y : ℚ) → Decides (same x y) (x ≡ y)
same_Decides x y = same_by x y (order x y) (order_ranks x y)

pub same_equiv : IsEquivalence same
same_equiv = decided same same_Decides

pub same_per : IsPartialEquivalence same
same_per = partial_equiv_from_equiv same_equiv

pub order_po : IsPartialOrder same (λ x y. Some (order x y))
order_po = po order_total (λ x y. refl)
