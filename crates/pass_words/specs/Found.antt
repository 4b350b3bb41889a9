-- The places that the code has found.
use Rattle.std.specs.Prelude.{Result, Ok, Err}
use Rattle.pass_words.specs.declared.fault.UsageFault.{UsageFault}
use Rattle.pass_words.specs.declared.found.Found.{Found}
use Rattle.pass_words.specs.declared.key.Opt.TheVariants.{Lat, Lon, Start, End, Res, Catalogue, Stations, Number, At, Count, Antennas}
use Rattle.pass_words.specs.Places.{Places}

-- the place of each key's value
abbrev pub places_in : Found → Places
places_in found Lat = found.lat
places_in found Lon = found.lon
places_in found Start = found.start
places_in found End = found.end
places_in found Res = found.res
places_in found Catalogue = found.catalogue
places_in found Stations = found.stations
places_in found Number = found.number
places_in found At = found.at
places_in found Count = found.count
places_in found Antennas = found.antennas

-- the places of an answer, or its fault
abbrev pub found_places : Result Found UsageFault → Result Places UsageFault
found_places (Ok found) = Ok (places_in found)
found_places (Err fault) = Err fault
