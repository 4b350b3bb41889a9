-- The elevation mask of a station, as its table gives it.
use Rattle.std.specs.Prelude.{ℕ, pos, neg_ℤ, Bool, ◌&&◌, ◌==◌, List, [], ◌∷◌, ◌++◌, length, Option, Some, None, Result, Ok}
use Rattle.std.specs.List.{list_all}
use Rattle.decimals.specs.Decimal.{DecimalRecord}
use Rattle.toml.specs.Data.{Data, Items, no_items, item, Members}
use Rattle.station_file.specs.declared.fault.StFault.{StFault}
use Rattle.station_file.specs.declared.fault.StFault.TheVariants.{Shape, Range}
use Rattle.station_file.specs.declared.fault.StFault.TheVariants as faults
use Rattle.station_file.specs.declared.fault.StKey.{StKey}
use Rattle.station_file.specs.declared.fault.StKey.TheVariants.{Mask, Borders, Masks}
use Rattle.station_file.specs.declared.sector.Sector.{Sector}
use Rattle.elements.specs.Ranges.{is_from_to}
use Rattle.station_file.specs.Fields.{decimal_of, number_at}
use Rattle.station_file.specs.MaskTests.{are_borders}
use Rattle.station_file.specs.Masks.{flat_sectors}
use Rattle.elements.specs.Steps.{◌>>=◌}
use Rattle.station_file.specs.Steps.{or_fault, given}
use Rattle.station_file.specs.Tables.{array_at, value_at}

-- these decimals and those of the strings after them, or a fault where one of these is no such string
abbrev pub decimals_after : StFault → List DecimalRecord → Items → Result (List DecimalRecord) StFault
decimals_after fault done no_items = Ok done
decimals_after fault done (item d ds) = or_fault fault (decimal_of d) >>= (λ number. decimals_after fault (done ++ number ∷ []) ds)

-- the decimals of an array, or a fault
abbrev pub decimals_of : StFault → Option Items → Result (List DecimalRecord) StFault
decimals_of fault array = or_fault fault array >>= decimals_after fault []

-- the decimals of the array at a key of a station, or a fault
abbrev pub decimals_at : ℕ → StKey → Members → Result (List DecimalRecord) StFault
decimals_at index key ms = decimals_of (Shape index key) (array_at key ms)

-- the elevation of a sector is from -90 to 90 degrees
abbrev pub is_floor : DecimalRecord → Bool
is_floor = is_from_to (neg_ℤ (pos 90)) (pos 90)

-- the sectors of borders and of as many elevations
abbrev pub sectors_of : List DecimalRecord → List DecimalRecord → List Sector
sectors_of [] floors = []
sectors_of (border ∷ borders) [] = []
sectors_of (border ∷ borders) (floor ∷ floors) = record { border = border; floor = floor } ∷ sectors_of borders floors

-- the sectors of borders and elevations, or the first fault
abbrev pub sectors_value : ℕ → List DecimalRecord → List DecimalRecord → Result (List Sector) StFault
sectors_value index borders floors =
    given (list_all is_floor floors) (Range index Masks)
    (given (are_borders borders && (length floors == length borders)) (faults.Mask index) (Ok (sectors_of borders floors)))

-- the mask of the keys `borders` and `masks`
abbrev pub sectors_at : ℕ → Members → Result (List Sector) StFault
sectors_at index ms = do
  borders ← decimals_at index Borders ms
  floors ← decimals_at index Masks ms
  sectors_value index borders floors

-- the mask of the key `mask`
abbrev pub flat_at : ℕ → Members → Result (List Sector) StFault
flat_at index ms = number_at index Mask (neg_ℤ (pos 90)) (pos 90) ms >>= (λ floor. Ok (flat_sectors floor))

-- the mask of `mask`, where it is there
abbrev pub mask_by : Option Data → ℕ → Members → Result (List Sector) StFault
mask_by (Some d) index ms = flat_at index ms
mask_by None index ms = sectors_at index ms

-- the mask of a station, or the first fault
abbrev pub mask_at : ℕ → Members → Result (List Sector) StFault
mask_at index ms = mask_by (value_at Mask ms) index ms
