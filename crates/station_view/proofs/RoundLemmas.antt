-- The borders of a row's mask go round the horizon, as the law of masks asks.
use Rattle.std.proofs.Common.{arith, suc, List, [], ◌∷◌, map, All, pos, subst}
use Rattle.exact.specs.Rational.{ℚ, ◌+ℚ◌, ◌≤ℚ◌, ◌<ℚ◌}
use Rattle.exact.proofs.Integers.{of_int_is}
use Rattle.decimals.specs.Decimal.{value}
use Rattle.sgp4_model.specs.MaskLaws.{AreRound, Follows, GoRound}
use Rattle.sgp4_model.specs.Numerals.{whole}
use Rattle.sgp4_model.proofs.RoundLemmas.{some_sector_holds}
use Rattle.station_file.specs.Masks as file
use Rattle.station_file.specs.Masks.{GoesRound, IsAzimuth, IsMask}
use Rattle.station_file.specs.Rows.{record_of_sector}
use Rattle.station_file.specs.declared.sector.Sector.{Sector}
use Rattle.station_view.specs.Complete.{HoldsEachDirection}
use Rattle.station_view.specs.Masks.{IsEnclosedMask}
use Rattle.station_view.specs.declared.sector.EnclosedSector.{EnclosedSector}

follows : {before border : ℚ} → file.Follows before border → Follows before border
follows {before} {border} f = record { above = f.above; near = subst (λ t. border ≤ℚ before +ℚ t) (of_int_is (pos 90)) f.near }

below_turn : {x : ℚ} → IsAzimuth x → x <ℚ whole 360
below_turn {x} a = subst (λ t. x <ℚ t) (of_int_is (pos 360)) a.most

go_round : (first border : ℚ) (row : List Sector) → All (λ sector. IsAzimuth (value sector.border)) row → GoesRound first border row → GoRound first border (map record_of_sector row)
go_round first border [] all round = follows (subst (λ t. file.Follows border (first +ℚ t)) (of_int_is (pos 360)) round)
go_round first border (s ∷ row) all round =
    (below_turn (all 0 s (omega arith)), (follows round.0, go_round first (value s.border) row (λ k d h. all (suc k) d (omega (arith, h))) round.1))

pub are_round : (row : List Sector) → IsMask row → AreRound (map record_of_sector row)
are_round [] is = absurd is.round
are_round (s ∷ row) is =
    let first = is.azimuths 0 s (omega arith) in
    (subst (λ t. t ≤ℚ value s.border) (of_int_is (pos 0)) first.least, (below_turn first, go_round (value s.border) (value s.border) row (λ k d h. is.azimuths (suc k) d (omega (arith, h))) is.round))

pub holds_each_direction : (mask : List EnclosedSector) → IsEnclosedMask mask → HoldsEachDirection mask
holds_each_direction mask is pi pairs v h are = some_sector_holds pi _ pairs v h (are_round _ is.sectors) are
