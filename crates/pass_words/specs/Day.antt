-- The request of the command `day`.
use Rattle.std.specs.Prelude.{ℕ, List, pos, neg_ℤ, Result, Ok}
use Rattle.pass_words.specs.declared.fault.WordFault.{WordFault}
use Rattle.pass_words.specs.declared.key.Opt.TheVariants.{Lat, Lon}
use Rattle.pass_words.specs.declared.request.Request.{Request}
use Rattle.pass_words.specs.declared.request.Request.TheVariants as requests
use Rattle.pass_words.specs.Places.{Places}
use Rattle.elements.specs.Steps.{◌>>=◌}
use Rattle.pass_words.specs.Values.{degrees_given, window_given}

-- a latitude from -90 to 90, a longitude from -180 to 360 and a window, or the first fault in this order
abbrev pub day_request : List (List ℕ) → Places → Result Request WordFault
day_request words places = do
  lat ← degrees_given words places Lat (neg_ℤ (pos 90)) (pos 90)
  lon ← degrees_given words places Lon (neg_ℤ (pos 180)) (pos 360)
  window ← window_given words places
  Ok (requests.Day lat lon window)
