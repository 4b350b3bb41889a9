-- What is known where the program ends.
use Rattle.std.specs.Prelude.{◌≡◌, ◌⊎◌, ℕ, List, Option}
use Rattle.outside_io.specs.Words.{AreTold}
use Rattle.outside_io.specs.declared.shelf.Shelf.{Ghosts as Shelf}
use Rattle.outside_io.specs.declared.sink.Sink.{Ghosts as Sink}
use Rattle.run_ends.specs.Counted.{AreKept}
use Rattle.top_call.specs.Outcome.{IsWritten, status_of}
use Rattle.top_call.specs.Run.{IsRun}
use Rattle.top_call.specs.declared.outcome.Outcome.{Outcome}
use Rattle.top_call.specs.declared.outcome.Outcome.TheVariants.{OutOfMemory}

-- there was no memory for the words: the counts of the shelf are kept, and the line of that was printed, or a front of it
pub record IsWordless {A B : Type 0} (S : Shelf A) (K : Sink B) (outcome : Outcome) (shelf shelf_after : A) (out out_after : B) : Type 0 where
  pub want : outcome ≡ OutOfMemory
  pub written : IsWritten K OutOfMemory out out_after
  pub counts : AreKept S shelf shelf_after

-- There are words, those of the arguments where these are told, and an outcome: that of a run of the words, or want of
-- memory for them. The exit status is the outcome's.
pub record IsEnded {A B : Type 0} (S : Shelf A) (K : Sink B) (told : Option (List (List ℕ))) (status : ℕ)
    (shelf shelf_after : A) (out out_after : B) : Type 0 where
  pub words : List (List ℕ)
  pub given : AreTold told words
  pub outcome : Outcome
  pub run : IsRun S K words outcome shelf shelf_after out out_after ⊎ IsWordless S K outcome shelf shelf_after out out_after
  pub status_is : status ≡ status_of outcome
