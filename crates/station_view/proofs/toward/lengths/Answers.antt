use Rattle.std.proofs.Common.{[]}
use Rattle.exact.proofs.Order.{known, le_by, le_trans}
use Rattle.exact.proofs.RationalRing.{reads}
use Rattle.fixed_iv.proofs.Held.{claim_held, covered}
use Rattle.fixed_iv.proofs.HeldRoot.{sqrt_held}
use Rattle.sgp4_model.specs.Vector.{inner_product}
use Rattle.sgp4_model.proofs.Pythagoras.{squares_add_up_to_one}
use Rattle.sgp4_model.proofs.RootExists.{square_root_exists}
use Rattle.station_view.specs.Toward.{toward}
use Rattle.station_view.proofs.ClassLemmas.{narrow_class}
use Rattle.station_view.proofs.ClassReach.{square_range}
use Rattle.station_view.proofs.FineLemmas.{in_a_class, in_class, in_sight, position_held, stands, turn_held}
use Rattle.station_view.proofs.LengthLemmas.{covered_at, held_at_range}
use Rattle.station_view.proofs.toward.lengths.Goals as goal

pub returns-clause-covers : goal.returns-clause-covers
returns-clause-covers g c h pi lat lon pair place r stands turn pos range v is =
    let law = g.met.E.Enc.contained in
    let d = c.toward-toward.ensures h pi lat lon pair place r _ _ _ stands (record { of_sine = covered turn.sine; of_cosine = covered turn.cosine })
    (record { x = covered pos.x; y = covered pos.y; z = covered pos.z }) in
    let square = c.inner_product.ensures h _ _ _ _ d d in
    let root = sqrt_held law c.sqrt-range.ensures.covers c.sqrt-range.ensures.narrow is.range_is square in
    covered_at (held_at_range lat lon _ range v is (c.along.ensures h pi range lat lon _ _ _ stands.pairs d root))

pub returns-clause-held : goal.returns-clause-held
returns-clause-held g c h pi lat lon pair place r sine cosine n stands turn pos range v i is within =
    let law = g.met.E.Enc.contained in
    let d = c.toward-toward.ensures h pi lat lon pair place r sine cosine n stands turn pos in
    let square = claim_held i (c.inner_product.ensures h _ _ _ _ d d) within in
    let root = sqrt_held law c.sqrt-range.ensures.covers c.sqrt-range.ensures.narrow is.range_is square in
    held_at_range lat lon _ range v is (c.along.ensures h pi range lat lon _ _ _ stands.pairs d root)

pub returns-clause-narrow : goal.returns-clause-narrow
returns-clause-narrow g c fine w k e less =
    let law = g.met.E.Enc.contained in
    let station = c.args.station.now in
    let at = stands station w.pi w.is_pi in
    let d = toward w.pair w.vector at.place in
    let far = in_sight w.pair w.vector at.is w.is_pi (squares_add_up_to_one _ _ _ _ w.is_pi w.is_pair) w.outside in
    let root = square_root_exists (inner_product d d) (le_trans (le_by [] (known 33489 100000000) (search reads depth 90) tt) far.least) in
    let seen = c.toward-toward.ensures w.place w.pi at.lat at.lon w.pair at.place w.vector _ _ _ at.is (turn_held fine w) (position_held fine w) in
    in_a_class (inner_product d d) far.least far.most (λ m n class within.
    let v = in_class m n d within seen in
    let square = claim_held (square_range m n) (c.inner_product.ensures w.place d d _ _ v v) within in
    let range = sqrt_held law c.sqrt-range.ensures.covers c.sqrt-range.ensures.narrow root.1 square in
    narrow_class m n class law fine.tells c.along.result w.place _ (c.along.ensures w.place w.pi root.0 at.lat at.lon d _ _ at.is.pairs v range) _)
