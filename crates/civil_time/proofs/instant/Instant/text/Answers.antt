use Rattle.std.proofs.Common.{◌≡◌, ℕ, Bool, false, Option, Some, ap, ◌∙◌, ◌++◌, codes}
use Rattle.jiff_fmt.specs.Text.{datetime_text}
use Rattle.civil_time.specs.InstantText.{instant_text}
use Rattle.civil_time.proofs.StampLemmas.{stamp, length-instant_text}
use Rattle.civil_time.proofs.instant.Instant.text.Goals as goal
use Rattle.civil_time.proofs.instant.Instant.text.Goals.{After-push_str-2}

-- what was written
written : (c : After-push_str-2) → c.push_str-2.new.self.bytes ≡ instant_text c.args.places c.args.self
written c =
    let lower : c.precision-printer.result.lowercase ≡ false = ap (λ (t : Bool × ℕ × Option ℕ). t.0) (c.precision-printer.ensures) ∙ ap (λ (t : Bool × ℕ × Option ℕ). t.0) c.new.ensures in
    let mark : c.precision-printer.result.separator ≡ 84 = ap (λ (t : Bool × ℕ × Option ℕ). t.1) c.precision-printer.ensures ∙ ap (λ (t : Bool × ℕ × Option ℕ). t.1) c.new.ensures in
    let places : c.precision-printer.result.precision ≡ Some c.args.places = ap (λ (t : Bool × ℕ × Option ℕ). t.2) c.precision-printer.ensures in
    let text : c.push_str-2.new.self.bytes ≡ datetime_text false 84 (Some c.args.places) c.date_time.result ++ codes "Z" = rw (c.push_str-2.ensures.bytes, c.push_str.ensures.bytes, c.as_str.ensures.value, c.datetime_text-stamp.ensures, c.new-text.ensures, lower, mark, places) in
    text ∙ stamp c.date_time.result c.args.self c.args.places c.date_time.ensures.in_years c.date_time.ensures.value c.requires.some c.requires.room

pub returns-clause-text : goal.returns-clause-text
returns-clause-text c = written c

pub returns-clause-len : goal.returns-clause-len
returns-clause-len c = rw (written c) (length-instant_text c.args.places c.args.self)
