use Rattle.std.proofs.Common.{[], arith}
use Rattle.exact.proofs.Order.{known, le_by, le_trans}
use Rattle.exact.proofs.RationalRing.{reads}
use Rattle.fixed_iv.proofs.Held.{claim_held, covered}
use Rattle.fixed_iv.proofs.HeldRoot.{sqrt_held}
use Rattle.sgp4_model.specs.Vector.{inner_product}
use Rattle.sgp4_model.proofs.Pythagoras.{squares_add_up_to_one}
use Rattle.sgp4_model.proofs.RootExists.{square_root_exists}
use Rattle.station_view.specs.Toward.{toward}
use Rattle.station_view.proofs.ClassLemmas.{narrow_sight, one_thousandth, two_thousandths}
use Rattle.station_view.proofs.ClassReach.{square_range}
use Rattle.station_view.proofs.FineLemmas.{far_in_sight, in_a_far_class, in_a_near_class, in_class, in_sight, position_held, stands, turn_held}
use Rattle.station_view.proofs.SpanLemmas.{claimed_held, some_direction}
use Rattle.station_view.proofs.toward.sight.Goals as goal

pub returns-then-not-lie_above_4096th-clause-none : goal.returns-then-not-lie_above_4096th-clause-none
returns-then-not-lie_above_4096th-clause-none g c = record {
  square = c.inner_product-square.result;
  held = λ h pi lat lon pair place r sine cosine n stands turn pos.
      let d = c.toward-toward.ensures h pi lat lon pair place r sine cosine n stands turn pos in
      c.inner_product-square.ensures h _ _ _ _ d d;
  near = λ above. let t = c.lie_above_4096th.ensures.1 (rw c.bounds.ensures above) in grind (arith, c.if-not-lie_above_4096th.true, t);
}

pub returns-clause-covers : goal.returns-clause-covers
returns-clause-covers g c h pi lat lon pair place r stands turn pos range v is =
    let law = g.met.E.Enc.contained in
    let d = c.toward-toward.ensures h pi lat lon pair place r _ _ _ stands (record { of_sine = covered turn.sine; of_cosine = covered turn.cosine })
    (record { x = covered pos.x; y = covered pos.y; z = covered pos.z }) in
    let square = c.inner_product-square.ensures h _ _ _ _ d d in
    let root = sqrt_held law c.sqrt.ensures.covers c.sqrt.ensures.narrow is.range_is square in
    let long = c.along.ensures h pi range lat lon _ _ _ stands.pairs d root in
    let seen = c.direction.ensures h range lat lon _ v _ long is in
    record { east = seen.east.covers; north = seen.north.covers; up = seen.up.covers }

pub returns-clause-held : goal.returns-clause-held
returns-clause-held g c h pi lat lon pair place r sine cosine n stands turn pos range v i is within =
    let law = g.met.E.Enc.contained in
    let d = c.toward-toward.ensures h pi lat lon pair place r sine cosine n stands turn pos in
    let square = claim_held i (c.inner_product-square.ensures h _ _ _ _ d d) within in
    let root = sqrt_held law c.sqrt.ensures.covers c.sqrt.ensures.narrow is.range_is square in
    c.direction.ensures h range lat lon _ v _ (c.along.ensures h pi range lat lon _ _ _ stands.pairs d root) is

pub returns-clause-narrow : goal.returns-clause-narrow
returns-clause-narrow g c = record {
  near = λ fine w k e less.
      let law = g.met.E.Enc.contained in
      let at = stands c.args.station.now w.pi w.is_pi in
      let d = toward w.pair w.vector at.place in
      let squares = squares_add_up_to_one _ _ _ _ w.is_pi w.is_pair in
      let far = in_sight w.pair w.vector at.is w.is_pi squares w.outside in
      let root = square_root_exists (inner_product d d) (le_trans (le_by [] (known 33489 100000000) (search reads depth 90) tt) far.least) in
      let some = some_direction at.lat at.lon d root.0 far.least root.1 in
      let vector = c.toward-toward.ensures w.place w.pi at.lat at.lon w.pair at.place w.vector _ _ _ at.is (turn_held fine w) (position_held fine w) in
      in_a_near_class (inner_product d d) far.least far.most (λ m n class within.
      let v = in_class m n d within vector in
      let square = claim_held (square_range m n) (c.inner_product-square.ensures w.place d d _ _ v v) within in
      let range = sqrt_held law c.sqrt.ensures.covers c.sqrt.ensures.narrow root.1 square in
      let long = c.along.ensures w.place w.pi root.0 at.lat at.lon d _ _ at.is.pairs v range in
      let of_lat = squares_add_up_to_one _ _ _ _ w.is_pi at.is.pairs.is_latitude in
      let of_lon = squares_add_up_to_one _ _ _ _ w.is_pi at.is.pairs.is_longitude in
      let seen = c.direction.ensures w.place root.0 at.lat at.lon d some.direction _ (claimed_held m n at.lat at.lon d root.0 of_lat of_lon within far.most long) some.is in
      narrow_sight 562949953421 m n two_thousandths class law fine.tells c.direction.result w.place _ seen _);
  far = λ fine w further k e less.
      let law = g.met.E.Enc.contained in
      let at = stands c.args.station.now w.pi w.is_pi in
      let d = toward w.pair w.vector at.place in
      let squares = squares_add_up_to_one _ _ _ _ w.is_pi w.is_pair in
      let far = in_sight w.pair w.vector at.is w.is_pi squares w.outside in
      let root = square_root_exists (inner_product d d) (le_trans (le_by [] (known 33489 100000000) (search reads depth 90) tt) far.least) in
      let some = some_direction at.lat at.lon d root.0 far.least root.1 in
      let vector = c.toward-toward.ensures w.place w.pi at.lat at.lon w.pair at.place w.vector _ _ _ at.is (turn_held fine w) (position_held fine w) in
      in_a_far_class (inner_product d d) (far_in_sight w.pair w.vector at.is w.is_pi squares further) far.most (λ m n class within.
      let v = in_class m n d within vector in
      let square = claim_held (square_range m n) (c.inner_product-square.ensures w.place d d _ _ v v) within in
      let range = sqrt_held law c.sqrt.ensures.covers c.sqrt.ensures.narrow root.1 square in
      let long = c.along.ensures w.place w.pi root.0 at.lat at.lon d _ _ at.is.pairs v range in
      let of_lat = squares_add_up_to_one _ _ _ _ w.is_pi at.is.pairs.is_latitude in
      let of_lon = squares_add_up_to_one _ _ _ _ w.is_pi at.is.pairs.is_longitude in
      let seen = c.direction.ensures w.place root.0 at.lat at.lon d some.direction _ (claimed_held m n at.lat at.lon d root.0 of_lat of_lon within far.most long) some.is in
      narrow_sight 281474976710 m n one_thousandth class law fine.tells c.direction.result w.place _ seen _);
}
