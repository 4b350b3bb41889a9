-- A shelf in memory whose loads fail where a test asks for it, as contracts see it.
use Rattle.std.specs.Prelude.{◌≡◌, ◌⊎◌, ℕ, List, Contains, None, refl}
use Rattle.std.specs.declared.result.Result.{Result}
use Rattle.std.specs.FinMap as map
use Rattle.std.specs.Coded.{Coded, code_by, coded×, coded_list, coded_ℕ}
use Rattle.outside_io.specs.Counts.{one_more}
use Rattle.outside_io.specs.Folder.{Files, files_code}
use Rattle.outside_io.specs.Loads.{LoadCounts, counts_after}
use Rattle.outside_io.specs.declared.shelf.LoadFault.{LoadFault}

-- its files, the numbers of the loads that are to fail, the number of the last load, and the counts
pub record Holding : Type 0 where
  pub files : Files
  pub failing : List ℕ
  pub calls : ℕ
  pub counts : LoadCounts

-- it is stored as the tuple of its fields
abbrev pub holding_code : Coded Holding
holding_code =
    code_by
    (Files × (List ℕ × (ℕ × (ℕ × ℕ))))
    (coded× files_code (coded× (coded_list coded_ℕ) (coded× coded_ℕ (coded× coded_ℕ coded_ℕ))))
    (λ h. (h.files, (h.failing, (h.calls, (h.counts.faults, h.counts.overs)))))
    (λ t. record { files = t.0; failing = t.1.0; calls = t.1.1.0; counts = record { faults = t.1.1.1.0; overs = t.1.1.1.1 } })
    (λ _. refl)

-- a load of this name fails: its number is listed, or no file has the name
abbrev pub LoadFails : Holding → List ℕ → Type 0
LoadFails shelf name = Contains shelf.failing (one_more shelf.calls) ⊎ (map.get shelf.files name ≡ None)

-- the shelf after a load with this answer
abbrev pub after_load : {A : Type 0} → Holding → Result A LoadFault → Holding
after_load shelf answer = record shelf { calls = one_more shelf.calls; counts = counts_after shelf.counts answer }
