-- The small answers, one by one.
use Rattle.std.proofs.Common.{◌≡◌, ◌∙◌, ap, arith, cond, refl, ℕ, Bool, true, false, List, None, Some, codes, length}
use Rattle.std.specs.Prelude.{◌==◌}
use Rattle.std.proofs.lemmas.Int.{ints}
use Rattle.std.proofs.lemmas.Option.{none-some}
use Rattle.exact.specs.Rational.{◌+ℚ◌, ◌*ℚ◌, neg_ℚ, at_least_0, of_int, ratio}
use Rattle.catalogue.specs.declared.entry.Entry.{Entry}
use Rattle.rows_locate.specs.SmallAnswers.{SmallAnswers, SmallEdges}

-- the set that is found among one is that one
found_alone : (b : Bool) (set entry : Entry) → cond b (Some set) None ≡ Some entry → set ≡ entry
found_alone true set entry e = cc
found_alone false set entry e = absurd (none-some _ e)

name_is : (set entry : Entry) (name : List ℕ) → set ≡ entry → name ≡ entry.name → name ≡ set.name
name_is set entry name e h = rw e h

pub small_answers : SmallAnswers
small_answers = record {
  none = record { at_is = refl; number_is = refl; found = refl };
  other_number = λ h. omega (arith, h.number_is);
  other_instant = λ h. omega (arith, ints, h.at_is);
  there = λ set is h. let e = rw is at h in cc;
  refused_none = λ fault name h. none-some _ h.entry_is;
  other_name = λ set fault is h.
      let same = ap length (name_is set h.entry (codes "AB") (found_alone (5 == set.elements.number) set h.entry h.entry_is) h.name_is ∙ is) in
      omega (arith, same);
  unknown = λ sets number at name h. h;
}

pub small_edges : SmallEdges
unfolding ratio of_int ◌+ℚ◌ ◌*ℚ◌ neg_ℚ at_least_0
small_edges = record {
  radius = record { low_end = record { le = tt }; high_end = record { le = tt } };
  above = λ h. absurd h.low_end.le;
  below = λ h. absurd h.high_end.le;
  near = omega (arith, ints);
  far = λ h. omega (arith, ints, h);
}
