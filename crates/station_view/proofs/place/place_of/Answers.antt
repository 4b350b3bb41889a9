use Rattle.std.proofs.Common.{◌^◌, ◌∙◌, pos, negsuc, sym, subst}
use Rattle.fixed_iv.specs.Reach.{IsHeld, from_to, given, ◌+ᴿ◌, ◌*ᴿ◌, ◌/ᴿ◌}
use Rattle.fixed_iv.proofs.Held.{constant_held, plus_held, times_held, within}
use Rattle.fixed_iv.proofs.HeldGiven.{ratio_given}
use Rattle.fixed_iv.proofs.HeldQuotient.{divided_held}
use Rattle.sgp4_model.specs.Root.{IsSqrt}
use Rattle.station_view.proofs.PlaceLemmas.{axial_is, level_is, radius_divides, slim_cosine, slim_sine, under_root_is}
use Rattle.station_view.proofs.place.place_of.Goals as goal

pub returns : goal.returns
unfolding given ◌+ᴿ◌ ◌*ᴿ◌ ◌/ᴿ◌
returns g c h p x lat lon place are height is =
    let law = g.met.E.Enc.contained in
    let spot = c.args.spot.now in
    let root = subst (λ t. IsSqrt t is.root) (under_root_is lat.sine lat.cosine) is.root_is in
    let stretched = c.stretch.ensures h p is.root lat lon are root is.root_divides in
    let equator = times_held law c.times-equator.ensures.covers c.times-equator.ensures.narrow (c.equator_km.ensures h) stretched in
    let above = constant_held c.constant-above.ensures.covers c.constant-above.ensures.narrow height in
    let radius = constant_held c.constant-radius.ensures.covers c.constant-radius.ensures.narrow (ratio_given (pos 6378135) 999 1 c.from_ratio.ensures tt tt) in
    let cos_lat = constant_held c.constant.ensures.covers c.constant.ensures.narrow (slim_cosine spot.of_lat spot.lat_slim are.is_pi are.is_latitude) in
    let out = plus_held law c.plus.ensures.covers c.plus.ensures.narrow equator above in
    let level = divided_held law c.divided-level.ensures.covers c.divided-level.ensures.narrow radius_divides (times_held law c.times.ensures.covers c.times.ensures.narrow out cos_lat) radius in
    let polar = times_held law c.times-2.ensures.covers c.times-2.ensures.narrow equator (c.axes_squared.ensures h) in
    let up = plus_held law c.plus-2.ensures.covers c.plus-2.ensures.narrow polar above in
    let sin_lat = constant_held c.constant-2.ensures.covers c.constant-2.ensures.narrow (slim_sine spot.of_lat spot.lat_slim are.is_pi are.is_latitude) in
    let axial = times_held law c.times-axial.ensures.covers c.times-axial.ensures.narrow up sin_lat in
    let cos_lon = constant_held c.constant-3.ensures.covers c.constant-3.ensures.narrow (slim_cosine spot.of_lon spot.lon_slim are.is_pi are.is_longitude) in
    let sin_lon = constant_held c.constant-4.ensures.covers c.constant-4.ensures.narrow (slim_sine spot.of_lon spot.lon_slim are.is_pi are.is_longitude) in
    let first = times_held law c.times-3.ensures.covers c.times-3.ensures.narrow level cos_lon in
    let second = times_held law c.times-4.ensures.covers c.times-4.ensures.narrow level sin_lon in
    let third = divided_held law c.divided.ensures.covers c.divided.ensures.narrow radius_divides axial radius in
    record {
      x = subst (λ t. IsHeld g.E.Enc.covers g.E.Enc.extent g.E.Enc.tells c.times-3.result h t (from_to (negsuc 100) (pos 101) 100 (2 ^ 13))) (sym (is.x ∙ rw is.c_is (level_is _ _ _ _ _ _))) (within (from_to (negsuc 100) (pos 101) 100 (2 ^ 13)) first tt);
      y = subst (λ t. IsHeld g.E.Enc.covers g.E.Enc.extent g.E.Enc.tells c.times-4.result h t (from_to (negsuc 100) (pos 101) 100 (2 ^ 13))) (sym (is.y ∙ rw is.c_is (level_is _ _ _ _ _ _))) (within (from_to (negsuc 100) (pos 101) 100 (2 ^ 13)) second tt);
      z = subst (λ t. IsHeld g.E.Enc.covers g.E.Enc.extent g.E.Enc.tells c.divided.result h t (from_to (negsuc 100) (pos 101) 100 (2 ^ 13))) (sym (is.z ∙ rw is.c_is (axial_is _ _ _ _ _ _))) (within (from_to (negsuc 100) (pos 101) 100 (2 ^ 13)) third tt);
    }
