-- Where the values of the keys stand.
use Rattle.std.specs.Prelude.{Bool, true, false, Option, Some, None, if◌then◌else◌}
use Rattle.pass_words.specs.declared.key.Opt.{Opt}
use Rattle.pass_words.specs.declared.key.Opt.TheVariants.{Lat, Lon, Start, End, Res, Catalogue, Stations, Number, At, Count, Antennas}
use Rattle.pass_words.specs.declared.part.Part.{Part}

-- for each key the place of its value, if there is one
abbrev pub Places : Type 0
Places = Opt → Option Part

-- no key has a value
abbrev pub none_yet : Places
none_yet key = None

-- two keys are the same
abbrev pub is_same : Opt → Opt → Bool
is_same Lat Lat = true
is_same Lon Lon = true
is_same Start Start = true
is_same End End = true
is_same Res Res = true
is_same Catalogue Catalogue = true
is_same Stations Stations = true
is_same Number Number = true
is_same At At = true
is_same Count Count = true
is_same Antennas Antennas = true
is_same _ _ = false

-- these places, and one more
abbrev pub filled : Opt → Part → Places → Places
filled key part places other = if is_same key other then Some part else places other
