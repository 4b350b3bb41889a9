use Rattle.std.proofs.Common.{arith, refl}
use Rattle.sgp4_model.specs.Sectors.{SectorSides}
use Rattle.station_view.specs.Parts.{AboveFloor, BelowFloor, InSector}
use Rattle.station_view.proofs.MaskLemmas.{every_sector, mask_held}
use Rattle.station_view.proofs.parts.mask_parts.Goals as goal

pub returns-in-Unsure-clause-yes : goal.returns-in-Unsure-clause-yes
returns-in-Unsure-clause-yes c h among pi pairs v range is_pi are above covered =
    every_sector (InSector AboveFloor c.args.lengths.now h) (λ (s : SectorSides). AboveFloor s v) (λ e s held sure. sure s v range held above covered) c.args.mask.now _
    (mask_held pi c.args.mask.now pairs c.sectors.ensures.mask is_pi are)
    (rw c.sectors.ensures.value at (c.all_parts.ensures.yes h among))

pub returns-in-Unsure-clause-no : goal.returns-in-Unsure-clause-no
returns-in-Unsure-clause-no c h among pi pairs v range is_pi are above covered =
    every_sector (InSector BelowFloor c.args.lengths.now h) (λ (s : SectorSides). BelowFloor s v) (λ e s held sure. sure s v range held above covered) c.args.mask.now _
    (mask_held pi c.args.mask.now pairs c.sectors.ensures.mask is_pi are)
    (rw c.sectors.ensures.value at (c.all_parts.ensures.no h among))

pub returns-in-Yes-clause-yes : goal.returns-in-Yes-clause-yes
returns-in-Yes-clause-yes c h among pi pairs v range is_pi are above covered =
    c.in-Yes.ensures.yes refl pi pairs v range is_pi are above
    (rw c.ranges_of.ensures (record { east = covered.east.ranged; north = covered.north.ranged; up = covered.up.ranged; range = covered.range.ranged }))

pub returns-in-Yes-clause-no : goal.returns-in-Yes-clause-no
returns-in-Yes-clause-no c h among = absurd (omega (arith, among.some))

pub returns-in-No-clause-no : goal.returns-in-No-clause-no
returns-in-No-clause-no c h among pi pairs v range is_pi are above covered =
    c.in-No.ensures.no refl pi pairs v range is_pi are above
    (rw c.ranges_of.ensures (record { east = covered.east.ranged; north = covered.north.ranged; up = covered.up.ranged; range = covered.range.ranged }))

pub returns-in-No-clause-yes : goal.returns-in-No-clause-yes
returns-in-No-clause-yes c h among = absurd (omega (arith, among.some))
