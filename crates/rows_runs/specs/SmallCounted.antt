-- What the outcomes say of the counts of a shelf, on small counts.
use Rattle.std.specs.Prelude.{[]}
use Rattle.catalogue.specs.declared.fault.CatFault.TheVariants.{Empty}
use Rattle.pass_words.specs.declared.fault.UsageFault.TheVariants.{NoCommand}
use Rattle.pass_words.specs.declared.fault.WindowFault.TheVariants.{Order}
use Rattle.rows_runs.specs.Small.{store, stores}
use Rattle.station_file.specs.declared.fault.StFault.TheVariants as stations
use Rattle.top_call.specs.Outcome.{IsCounted}
use Rattle.top_call.specs.declared.outcome.Outcome.TheVariants.{Done, Usage, BadWindow, BadCatalogue, BadStations, ReadFault, TooLong, WriteFault, OutOfMemory}
use Rattle.top_call.specs.declared.outcome.Product.TheVariants.{Shown}

-- faults alone rose where a file was not read, long files alone where one was too long; else no count changed
pub record SmallCounted : Type 0 where
  pub done : IsCounted stores (Done (Shown [])) (store 4 7) (store 4 7)
  pub done_fault : ¬ (IsCounted stores (Done (Shown [])) (store 4 7) (store 5 7))
  pub done_over : ¬ (IsCounted stores (Done (Shown [])) (store 4 7) (store 4 8))
  pub usage_fault : ¬ (IsCounted stores (Usage NoCommand) (store 4 7) (store 5 7))
  pub usage_over : ¬ (IsCounted stores (Usage NoCommand) (store 4 7) (store 4 8))
  pub window_fault : ¬ (IsCounted stores (BadWindow Order) (store 4 7) (store 5 7))
  pub window_over : ¬ (IsCounted stores (BadWindow Order) (store 4 7) (store 4 8))
  pub catalogue_fault : ¬ (IsCounted stores (BadCatalogue Empty) (store 4 7) (store 5 7))
  pub catalogue_over : ¬ (IsCounted stores (BadCatalogue Empty) (store 4 7) (store 4 8))
  pub stations_fault : ¬ (IsCounted stores (BadStations stations.Empty) (store 4 7) (store 5 7))
  pub stations_over : ¬ (IsCounted stores (BadStations stations.Empty) (store 4 7) (store 4 8))
  pub read : IsCounted stores ReadFault (store 4 7) (store 5 7)
  pub unread : ¬ (IsCounted stores ReadFault (store 4 7) (store 4 7))
  pub other_rose : ¬ (IsCounted stores ReadFault (store 4 7) (store 4 8))
  pub both_rose : ¬ (IsCounted stores ReadFault (store 4 7) (store 5 8))
  pub long : IsCounted stores TooLong (store 4 7) (store 4 8)
  pub short : ¬ (IsCounted stores TooLong (store 4 7) (store 4 7))
  pub fault_rose : ¬ (IsCounted stores TooLong (store 4 7) (store 5 7))
  pub fault_beside : ¬ (IsCounted stores TooLong (store 4 7) (store 5 8))
  pub cut_fault : ¬ (IsCounted stores (WriteFault (Shown [])) (store 4 7) (store 5 7))
  pub cut_over : ¬ (IsCounted stores (WriteFault (Shown [])) (store 4 7) (store 4 8))
  pub memory : IsCounted stores OutOfMemory (store 4 7) (store 4 7)
  pub memory_fault : ¬ (IsCounted stores OutOfMemory (store 4 7) (store 5 7))
  pub memory_over : ¬ (IsCounted stores OutOfMemory (store 4 7) (store 4 8))
