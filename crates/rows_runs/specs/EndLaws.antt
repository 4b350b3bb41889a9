-- What the exit status of the program says, also of words that are told.
use Rattle.std.specs.Prelude.{◌≡◌, ◌≢◌, ◌≤◌, ◌⊎◌, ℕ, List, Option, Some, Ok, Err}
use Rattle.outside_io.specs.Counts.{Rose}
use Rattle.outside_io.specs.Words.{AreTold}
use Rattle.outside_io.specs.Written.{Grew, GrewByFront}
use Rattle.pass_words.specs.Words.{words_value}
use Rattle.pass_words.specs.declared.fault.UsageFault.{UsageFault}
use Rattle.pass_words.specs.declared.fault.WindowFault.{WindowFault}
use Rattle.pass_words.specs.declared.fault.WordFault.TheVariants as faults
use Rattle.pass_words.specs.declared.request.Request.{Request}
use Rattle.run_ends.specs.Counted.{AreKept, FaultsRose, OversRose}
use Rattle.top_call.specs.Ended.{IsEnded}
use Rattle.top_call.specs.Outcome.{layout}
use Rattle.top_call.specs.Request.{IsProductOf}
use Rattle.top_call.specs.declared.outcome.Product.{Product}
use Rattle.rows_runs.specs.Small.{Sheet, Store, sheets, stores}

-- the product of the words is certified, its layout is what was written, and no count changed
pub record IsPrinted (told : Option (List (List ℕ))) (shelf shelf_after : Store) (out out_after : Sheet) : Type 0 where
  pub words : List (List ℕ)
  pub given : AreTold told words
  pub product : Product
  pub certified : IsProductOf shelf.held words product
  pub written : Grew out.written out_after.written (layout product)
  pub read : AreKept stores shelf shelf_after
  pub put : out_after.faults ≡ out.faults

-- a front of the layout of such a product was written, and the output's count rose
pub record IsPrintedInPart (told : Option (List (List ℕ))) (shelf : Store) (out out_after : Sheet) : Type 0 where
  pub words : List (List ℕ)
  pub given : AreTold told words
  pub product : Product
  pub certified : IsProductOf shelf.held words product
  pub front : GrewByFront out.written out_after.written (layout product)
  pub rose : Rose out.faults out_after.faults

-- by the exit status: 0 and 1 are of a product that was printed, 6 of a file that was not read, 7 of one that is too long,
-- 8 of a product whose printing failed; words that are told and have a fault end with 2 or 3, or want memory, and others
-- with neither
pub record StatusesTell : Type 0 where
  pub printed : (told : Option (List (List ℕ))) (status : ℕ) (shelf shelf_after : Store) (out out_after : Sheet) →
      IsEnded stores sheets told status shelf shelf_after out out_after → status ≤ 1 → IsPrinted told shelf shelf_after out out_after
  pub unread : (told : Option (List (List ℕ))) (status : ℕ) (shelf shelf_after : Store) (out out_after : Sheet) →
      IsEnded stores sheets told status shelf shelf_after out out_after → status ≡ 6 → FaultsRose stores shelf shelf_after
  pub long : (told : Option (List (List ℕ))) (status : ℕ) (shelf shelf_after : Store) (out out_after : Sheet) →
      IsEnded stores sheets told status shelf shelf_after out out_after → status ≡ 7 → OversRose stores shelf shelf_after
  pub cut : (told : Option (List (List ℕ))) (status : ℕ) (shelf shelf_after : Store) (out out_after : Sheet) →
      IsEnded stores sheets told status shelf shelf_after out out_after → status ≡ 8 → IsPrintedInPart told shelf out out_after
  pub usage : (words : List (List ℕ)) (fault : UsageFault) (status : ℕ) (shelf shelf_after : Store) (out out_after : Sheet) →
      IsEnded stores sheets (Some words) status shelf shelf_after out out_after → words_value words ≡ Err (faults.Usage fault) →
      (status ≡ 2) ⊎ (status ≡ 9)
  pub window : (words : List (List ℕ)) (fault : WindowFault) (status : ℕ) (shelf shelf_after : Store) (out out_after : Sheet) →
      IsEnded stores sheets (Some words) status shelf shelf_after out out_after → words_value words ≡ Err (faults.Window fault) →
      (status ≡ 3) ⊎ (status ≡ 9)
  pub asked : (words : List (List ℕ)) (request : Request) (status : ℕ) (shelf shelf_after : Store) (out out_after : Sheet) →
      IsEnded stores sheets (Some words) status shelf shelf_after out out_after → words_value words ≡ Ok request →
      (status ≢ 2) × (status ≢ 3)
