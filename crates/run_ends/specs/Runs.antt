-- What a command did, over a shelf with the meanings S and an output with the meanings K.
use Rattle.std.specs.Prelude.{ℕ, List, Option}
use Rattle.outside_io.specs.declared.shelf.Shelf.{Ghosts as Shelf}
use Rattle.outside_io.specs.declared.sink.Sink.{Ghosts as Sink}
use Rattle.run_ends.specs.Causes.{IsCaused}
use Rattle.run_ends.specs.Counted.{AreLater, IsCounted}
use Rattle.run_ends.specs.Endings.{WithProduct}
use Rattle.run_ends.specs.Files.{Files}
use Rattle.run_ends.specs.Printed.{IsWritten}
use Rattle.run_ends.specs.declared.ending.Ending.{Ending}

-- a command: the files that it reads, what its product is by the held bytes where these are told, and what is printed of it
pub record Command (P : Type 0) : Type 1 where
  pub files : Files
  pub is_product : (List ℕ → Option (List ℕ)) → P → Type 0
  pub layout : P → List ℕ

-- a command ended so: its product, where one was made, is as it must be; what was written and counted is what the ending
-- says; and the ending has its cause
pub record IsRunOf {A B P : Type 0} (S : Shelf A) (K : Sink B) (command : Command P) (ending : Ending P)
    (shelf shelf_after : A) (out out_after : B) : Type 0 where
  pub product : WithProduct (command.is_product (S.held shelf)) ending
  pub written : IsWritten K command.layout ending out out_after
  pub causes : IsCaused (S.held shelf) command.files ending
  pub counts : IsCounted S ending shelf shelf_after
  pub later : AreLater S shelf shelf_after
