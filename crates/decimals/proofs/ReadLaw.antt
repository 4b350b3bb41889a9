-- Each text is read exactly.
use Rattle.std.proofs.Common.{◌≡◌, ◌↔◌, ℕ, Bool, true, false, List, Option, Some, None, Result, Ok, Err, ap, sym, refl, subst, ◌∙◌}
use Rattle.exact.specs.Rational.{ℚ}
use Rattle.decimals.specs.declared.fault.NumFault.{NumFault}
use Rattle.decimals.specs.declared.fault.NumFault.TheVariants.{Shape, TooFine}
use Rattle.decimals.specs.Decimal.{DecimalRecord, IsDecimal, value}
use Rattle.decimals.specs.NumberText.{NumberFields, number_fields, is_number}
use Rattle.decimals.specs.DecimalText.{decimal_of_fields, decimal_value}
use Rattle.decimals.specs.WrittenNumber.{number_of_fields, number_of_text, IsReadExactly}
use Rattle.decimals.proofs.UnitsLemmas.{equal_values}
use Rattle.decimals.proofs.ReadLemmas.{value_by, shape_by}
use Rattle.decimals.proofs.WrittenLemmas.{Answers, as_decimal_answers}

-- what is said of an answer and a number
record Exact (answer : Result DecimalRecord NumFault) (number : Option ℚ) : Type 0 where
  shape : answer ≡ Err Shape ↔ number ≡ None
  ok : (d : DecimalRecord) → answer ≡ Ok d ↔ (IsDecimal d × number ≡ Some (value d))
  too_fine : answer ≡ Err TooFine ↔ ((x : ℚ) × number ≡ Some x × ((d : DecimalRecord) → IsDecimal d → ¬ (value d ≡ x)))

exact_number : (x : ℚ) (answer : Result DecimalRecord NumFault) → Answers x answer → Exact answer (Some x)
exact_number x (Ok d) right = record {
  shape = (λ e. cc e, λ e. cc e);
  ok = λ other. (
    λ e. let same : d ≡ other = cc in subst (λ t. IsDecimal t × ◌≡◌ {A = Option ℚ} (Some x) (Some (value t))) same (right.0, ap Some (sym right.1)),
    λ h. let number : x ≡ value other = let e = h.1 in cc in ap Ok (equal_values d other right.0 h.0 (right.1 ∙ number)),
  );
  too_fine = (λ e. cc e, λ h. let number : x ≡ h.0 = let e = h.1 in cc in absurd (h.2 d right.0 (right.1 ∙ number)));
}
exact_number x (Err TooFine) none = record {
  shape = (λ e. cc e, λ e. cc e);
  ok = λ other. (λ e. cc e, λ h. let number : x ≡ value other = let e = h.1 in cc in absurd (none other h.0 (sym number)));
  too_fine = (λ _. (x, refl, none), λ _. refl);
}
exact_number x (Err Shape) h = absurd h

exact_shape : Exact (Err Shape) None
exact_shape = record {
  shape = (λ _. refl, λ _. refl);
  ok = λ other. (λ e. cc e, λ h. let e = h.1 in cc e);
  too_fine = (λ e. cc e, λ h. let e = h.1 in cc e);
}

number_by : (fields : NumberFields) (t : Bool) → is_number fields ≡ t → Exact (decimal_of_fields fields) (elim t [ true ↦ Some (number_of_fields fields) | false ↦ None ])
number_by fields true e = subst (λ answer. Exact answer (Some (number_of_fields fields))) (sym (value_by fields e)) (exact_number (number_of_fields fields) _ (as_decimal_answers _ _ _))
number_by fields false e = subst (λ answer. Exact answer None) (sym (shape_by fields e)) exact_shape

exact_text : (text : List ℕ) → Exact (decimal_value text) (number_of_text text)
unfolding decimal_value number_of_text
exact_text text = number_by (number_fields text) (is_number (number_fields text)) refl

-- a text is read exactly
pub read_exactly : (text : List ℕ) → IsReadExactly text
read_exactly text = let e = exact_text text in record { shape = e.shape; ok = e.ok; too_fine = e.too_fine }
