-- Which of the small rows are certified.
use Rattle.std.specs.Prelude.{[]}
use Rattle.sgp4_model.specs.Records.{spans, unresolved, full, decays}
use Rattle.sgp4_model.specs.Certified.{IsCertified}
use Rattle.rows_model.specs.SmallTrack.{small_track, hazy_track, sinking_track, sunken_track, right_list, gapped_list, split_list}

-- the row of the right list: its count is that of its list, which is sound up to the end
pub record SpanRows : Type 0 where
  pub right : IsCertified small_track 2 10 0 (spans 3) right_list
  pub miscounted : ¬ (IsCertified small_track 2 10 0 (spans 2) right_list)
  pub gapped : ¬ (IsCertified small_track 2 10 0 (spans 3) gapped_list)
  pub split : ¬ (IsCertified small_track 2 10 0 (spans 4) split_list)
  pub empty : ¬ (IsCertified small_track 2 10 0 (spans 0) [])
  pub coarse : ¬ (IsCertified small_track 1 10 0 (spans 3) right_list)

-- the track grazes for two ticks, one more than a resolution of one, and before them a list is sound
pub record UnresolvedRows : Type 0 where
  pub right : IsCertified small_track 1 10 0 (unresolved 5 7) []
  pub resolved : ¬ (IsCertified small_track 2 10 0 (unresolved 5 7) [])
  pub certain : ¬ (IsCertified small_track 1 10 0 (unresolved 0 2) [])
  pub beyond : ¬ (IsCertified small_track 1 10 0 (unresolved 6 8) [])
  pub listed : ¬ (IsCertified small_track 1 10 0 (unresolved 5 7) right_list)
  pub first : IsCertified hazy_track 1 10 0 (unresolved 0 2) []
  pub later : ¬ (IsCertified hazy_track 1 10 0 (unresolved 3 5) [])

-- two spans lead to 5, and with eight before them they fill ten slots
pub record FullRows : Type 0 where
  pub right : IsCertified small_track 2 10 8 (full 5) []
  pub first : IsCertified small_track 2 10 10 (full 0) []
  pub at_the_end : ¬ (IsCertified small_track 2 10 7 (full 7) [])
  pub overfull : ¬ (IsCertified small_track 2 10 11 (full 0) [])
  pub underfull : ¬ (IsCertified small_track 2 10 9 (full 0) [])
  pub untrue : ¬ (IsCertified small_track 2 10 9 (full 4) [])
  pub listed : ¬ (IsCertified small_track 2 10 8 (full 5) right_list)

-- the track sinks from 5 to 6, both included, and two spans lead to 5; no slot is needed
pub record DecayRows : Type 0 where
  pub right : IsCertified sinking_track 2 10 8 (decays 5) []
  pub no_slot : IsCertified sinking_track 2 10 10 (decays 5) []
  pub at_its_end : IsCertified sinking_track 2 10 8 (decays 4) []
  pub at_once : IsCertified sunken_track 2 10 0 (decays 0) []
  pub early : ¬ (IsCertified sinking_track 2 10 8 (decays 3) [])
  pub calm : ¬ (IsCertified small_track 2 10 8 (decays 5) [])
  pub at_the_end : ¬ (IsCertified sinking_track 2 10 8 (decays 7) [])
  pub untrue : ¬ (IsCertified sunken_track 2 10 0 (decays 1) [])
  pub listed : ¬ (IsCertified sinking_track 2 10 8 (decays 5) right_list)
