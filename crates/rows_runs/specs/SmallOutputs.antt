-- What the outcomes say of an output, on small ones.
use Rattle.std.specs.Prelude.{[], codes}
use Rattle.rows_runs.specs.Small.{sheet, sheets}
use Rattle.top_call.specs.Outcome.{IsWritten}
use Rattle.top_call.specs.declared.outcome.Outcome.TheVariants.{Done, ReadFault, WriteFault}
use Rattle.top_call.specs.declared.outcome.Product.TheVariants.{Shown}

-- a refusal: its line, or a front of it where the output's count rose
pub record SmallRefusals : Type 0 where
  pub line : IsWritten sheets ReadFault (sheet 4 []) (sheet 4 (codes "error read\n"))
  pub front : IsWritten sheets ReadFault (sheet 4 []) (sheet 5 (codes "error"))
  pub nothing : ¬ (IsWritten sheets ReadFault (sheet 4 []) (sheet 4 []))
  pub front_unfaulted : ¬ (IsWritten sheets ReadFault (sheet 4 []) (sheet 4 (codes "error")))
  pub longer : ¬ (IsWritten sheets ReadFault (sheet 4 []) (sheet 5 (codes "error toolong\n")))
  pub fallen : ¬ (IsWritten sheets ReadFault (sheet 4 []) (sheet 3 (codes "error read\n")))

-- a product: its whole layout and no fault, or a front of it and one
pub record SmallProducts : Type 0 where
  pub whole : IsWritten sheets (Done (Shown [])) (sheet 4 []) (sheet 4 (codes "PASSSHOW 1\nEND\n"))
  pub faulted : ¬ (IsWritten sheets (Done (Shown [])) (sheet 4 []) (sheet 5 (codes "PASSSHOW 1\nEND\n")))
  pub no_end : ¬ (IsWritten sheets (Done (Shown [])) (sheet 4 []) (sheet 4 (codes "PASSSHOW 1\n")))
  pub nothing : ¬ (IsWritten sheets (Done (Shown [])) (sheet 4 []) (sheet 4 []))
  pub cut : IsWritten sheets (WriteFault (Shown [])) (sheet 4 []) (sheet 5 (codes "PASSSHOW 1\nE"))
  pub unfaulted : ¬ (IsWritten sheets (WriteFault (Shown [])) (sheet 4 []) (sheet 4 (codes "PASSSHOW 1\nE")))
  pub beyond : ¬ (IsWritten sheets (WriteFault (Shown [])) (sheet 4 []) (sheet 5 (codes "PASSSHOW 1\nEND\nEND\n")))
