use Rattle.enc_plain.proofs.PlainHeld.{middle}
use Rattle.sgp4_model.specs.Angle.{least_pi}
use Rattle.sgp4_model.specs.StationPlace.{in_km}
use Rattle.decimals.specs.Decimal.{value}
use Rattle.station_view.proofs.DegreeLemmas.{some_pi}
use Rattle.station_view.proofs.HeightLemmas.{height_given}
use Rattle.station_view.proofs.PlaceLemmas.{given_by, no_wider, own, own_is, some_place}
use Rattle.station_view.proofs.station.enclosed_place.Goals as goal

pub returns : goal.returns
returns c =
    let spot = c.args.spot.now in
    let height = height_given c.requires c.in_km.ensures in
    let some = some_place _ (own (value spot.lat)) (own (value spot.lon)) (in_km (value c.args.height)) some_pi (own_is (value spot.lat)) in
    let held = c.place_of-place.ensures middle least_pi _ _ _ some.place (record { is_pi = some_pi; is_latitude = own_is (value spot.lat); is_longitude = own_is (value spot.lon) }) height some.is in
    record {
      hold = λ pi f l place is_pi is_f is_l is.
          let h = c.place_of-place.ensures middle pi _ f l place (record { is_pi = is_pi; is_latitude = is_f; is_longitude = is_l }) height is in
          record { x = rw c.bounds.ensures (given_by h.x.covers (h.x.known tt tt)); y = rw c.bounds-2.ensures (given_by h.y.covers (h.y.known tt tt)); z = rw c.bounds-3.ensures (given_by h.z.covers (h.z.known tt tt)) };
      narrow = (rw c.bounds.ensures (no_wider (held.x.known tt tt)), rw c.bounds-2.ensures (no_wider (held.y.known tt tt)), rw c.bounds-3.ensures (no_wider (held.z.known tt tt)));
    }
