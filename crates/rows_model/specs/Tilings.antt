-- Which of the small lists tile, which have neighbours that differ, and which of the small spans are true.
use Rattle.std.specs.Prelude.{[], ◌∷◌}
use Rattle.sgp4_model.specs.Certified.{Tiles, NeighboursDiffer, IsTrueSpan}
use Rattle.rows_model.specs.SmallTrack.{small_track, yes_span, no_span, undecided_span, right_list, gapped_list, split_list}

-- a list tiles up to its last end alone, without a gap, and no span is empty; the empty list tiles 0 to 0 alone
pub record SmallTilings : Type 0 where
  pub whole : Tiles right_list 7
  pub too_far : ¬ (Tiles right_list 8)
  pub gapped : ¬ (Tiles gapped_list 7)
  pub late : ¬ (Tiles (yes_span 1 3 ∷ []) 3)
  pub empty_span : ¬ (Tiles (yes_span 0 0 ∷ []) 0)
  pub empty_list : Tiles [] 0
  pub no_list : ¬ (Tiles [] 1)

-- neighbours of one mark do not differ, also where they tile
pub record SmallNeighbours : Type 0 where
  pub whole : NeighboursDiffer right_list
  pub split_tiles : Tiles split_list 7
  pub split : ¬ (NeighboursDiffer split_list)
  pub none : NeighboursDiffer []
  pub single : NeighboursDiffer (yes_span 0 3 ∷ [])

-- a span is true where its mark holds at every place, and an undecided one is no longer than the resolution
pub record SmallTruths : Type 0 where
  pub visible : IsTrueSpan small_track 2 (yes_span 0 3)
  pub hidden : IsTrueSpan small_track 2 (no_span 3 5)
  pub grazing : IsTrueSpan small_track 2 (undecided_span 5 7)
  pub too_wide : ¬ (IsTrueSpan small_track 2 (yes_span 0 4))
  pub other_mark : ¬ (IsTrueSpan small_track 2 (no_span 0 3))
  pub certain : ¬ (IsTrueSpan small_track 2 (undecided_span 3 5))
  pub too_long : ¬ (IsTrueSpan small_track 1 (undecided_span 5 7))
