-- The lines of the satellites of a catalogue.
use Rattle.std.proofs.Common.{◌≡◌, ℕ, ◌≤◌, List, length, Some, refl, sym, subst}
use Rattle.std.proofs.lemmas.Option.{get_or_from_slice_get, slice_get_within}
use Rattle.std.specs.Prelude.{slice_get}
use Rattle.catalogue.specs.Entries.{IsCatalogue, IsName}
use Rattle.catalogue.specs.declared.entry.Entry.{Entry}
use Rattle.pass_text.specs.ShowLayout.{set_line, set_lines}
use Rattle.run_ends.proofs.PrintedLemmas.{AreLines}

-- the lines of satellites are those of each satellite
pub set_lines_are : AreLines (λ entry. set_line entry.elements entry.name) set_lines
set_lines_are = record { none = refl; more = λ entry rest. refl }

-- each satellite of a catalogue has a name, which fits a line
pub name_fits : (entries : List Entry) (k : ℕ) (entry : Entry) → IsCatalogue entries → Some entry ≡ slice_get entries k → length entry.name ≤ 64
name_fits entries k entry are e =
    let there : slice_get entries k ≡ Some entry = sym e in
    (subst (λ (x : Entry). IsName x.name) (get_or_from_slice_get entries k entry entry there) (are.names k entry (slice_get_within entries k entry there))).most
