-- Which small answers are resolved, and which small tracks graze throughout no long stretch.
use Rattle.std.specs.Prelude.{◌≡◌, ◌^◌, ⊤}
use Rattle.sgp4_model.specs.Certified.{TrackRecord}
use Rattle.sgp4_model.specs.Records.{spans, unresolved, full, decays}
use Rattle.sgp4_model.specs.Time.{IsWithin}
use Rattle.day_command.specs.Day.{GrazesNowhereLong, IsResolved, slot_limit}

-- seven ticks, of which the last two graze
abbrev pub grazing_end : TrackRecord
grazing_end = record { ticks = 7; yes = λ _. ⊤; no = λ _. ⊤; grazes = IsWithin 5 7; sinks = λ _. ⊥ }

-- an unresolved answer is none, nor is one that decays; two grazing ticks are long for a resolution of one tick, and not for one of two
pub record SmallResolved : Type 0 where
  pub of_spans : IsResolved (spans 3)
  pub of_full : IsResolved (full 5)
  pub of_unresolved : ¬ (IsResolved (unresolved 0 3))
  pub of_decays : ¬ (IsResolved (decays 3))
  pub long : ¬ (GrazesNowhereLong grazing_end 1)
  pub short : GrazesNowhereLong grazing_end 2
  pub slots : slot_limit ≡ 2 ^ 20
