-- The exit status of each kind of outcome.
use Rattle.std.specs.Prelude.{◌≡◌, [], codes, pos}
use Rattle.catalogue.specs.declared.fault.CatFault.TheVariants.{Empty}
use Rattle.pass_words.specs.declared.fault.UsageFault.TheVariants.{NoCommand}
use Rattle.pass_words.specs.declared.fault.WindowFault.TheVariants.{Order}
use Rattle.sat_locate.specs.declared.found.Found.TheVariants.{Missing, Refused, Inside, Decayed}
use Rattle.sgp4_model.specs.Records.{AnswerRecord, spans, unresolved, full, decays}
use Rattle.sgp4_shape.specs.declared.fault.SatFault.TheVariants.{Far}
use Rattle.station_file.specs.declared.fault.StFault.TheVariants.{Twice}
use Rattle.top_call.specs.Outcome.{status_of}
use Rattle.top_call.specs.declared.outcome.Outcome.TheVariants.{Done, Usage, BadWindow, BadCatalogue, BadStations, ReadFault, TooLong, WriteFault, OutOfMemory}
use Rattle.top_call.specs.declared.outcome.Product.{Product}
use Rattle.top_call.specs.declared.outcome.Product.TheVariants.{Day, Shown, Located}

-- a result of a window of one tick, with this answer
abbrev pub small_day : AnswerRecord → Product
small_day answer = Day (record { window = record { start = pos 0; ticks = 1; resolution = 10_000 }; answer = answer; list = [] })

-- 0 where the product is whole, 1 where it is not, and a number for each refusal
pub record SmallStatuses : Type 0 where
  pub tracked : status_of (Done (small_day (spans 0))) ≡ 0
  pub unresolved_day : status_of (Done (small_day (unresolved 0 1))) ≡ 1
  pub full_day : status_of (Done (small_day (full 0))) ≡ 1
  pub decaying_day : status_of (Done (small_day (decays 0))) ≡ 1
  pub shown : status_of (Done (Shown [])) ≡ 0
  pub placed :
      status_of (Done (Located (record {
        at = pos 0;
        number = 5;
        found = Inside (codes "A") (record { low = pos 0; high = pos 1 }) (record { low = pos 0; high = pos 1 }) (record { low = pos 0; high = pos 1 });
      }))) ≡ 0
  pub missing : status_of (Done (Located (record { at = pos 0; number = 5; found = Missing }))) ≡ 1
  pub refused : status_of (Done (Located (record { at = pos 0; number = 5; found = Refused Far (codes "A") }))) ≡ 1
  pub decayed : status_of (Done (Located (record { at = pos 0; number = 5; found = Decayed (codes "A") }))) ≡ 1
  pub usage : status_of (Usage NoCommand) ≡ 2
  pub window : status_of (BadWindow Order) ≡ 3
  pub catalogue : status_of (BadCatalogue Empty) ≡ 4
  pub stations : status_of (BadStations (Twice 2)) ≡ 5
  pub read : status_of ReadFault ≡ 6
  pub long : status_of TooLong ≡ 7
  pub cut : status_of (WriteFault (Shown [])) ≡ 8
  pub memory : status_of OutOfMemory ≡ 9
