use Rattle.std.proofs.Common.{inl, refl}
use Rattle.std.proofs.lemmas.Bool.{false≢true}
use Rattle.sat_locate.proofs.EdgeLemmas.{narrow_edges}
use Rattle.sat_locate.proofs.answer.found_of.Goals as goal

pub returns-in-Some-clause-found : goal.returns-in-Some-clause-found
returns-in-Some-clause-found c =
    let held = rw c.in-Ok.ensures.made at c.in-Some.ensures.holds in
    let narrow = (rw c.in-Ok.ensures.made at c.in-Some.ensures.narrow) (λ away. false≢true (c.if-is_far_at.ensures.1 (inl away))) in (
      refl,
      record {
        accepted = record {
          ordinary = c.in-Ok.ensures.accepted.0;
          between = c.in-Ok.ensures.between;
          near_earth = c.in-Ok.ensures.accepted.1;
          of_one_form = c.in-Ok.ensures.of_one_form;
          not_far = λ far. false≢true (c.if-is_far_at.ensures.1 far);
        };
        bounds = record {
          exists = (rw c.in-Ok.ensures.made at c.in-Some.ensures.exists) (λ away. false≢true (c.if-is_far_at.ensures.1 (inl away)));
          x_between = λ r p. c.edge_of.ensures.holds r.x (held r p).x;
          y_between = λ r p. c.edge_of-in-Some.ensures.holds r.y (held r p).y;
          z_between = λ r p. c.edge_of-in-Some-2.ensures.holds r.z (held r p).z;
          x_narrow = narrow_edges c.in-Some.bounds.x c.edge_of.result.low c.edge_of.result.high narrow.x c.edge_of.ensures.low c.edge_of.ensures.high;
          y_narrow = narrow_edges c.in-Some.bounds.y c.edge_of-in-Some.result.low c.edge_of-in-Some.result.high narrow.y c.edge_of-in-Some.ensures.low c.edge_of-in-Some.ensures.high;
          z_narrow = narrow_edges c.in-Some.bounds.z c.edge_of-in-Some-2.result.low c.edge_of-in-Some-2.result.high narrow.z c.edge_of-in-Some-2.ensures.low c.edge_of-in-Some-2.ensures.high;
        };
      },
    )

pub returns-in-None-clause-found : goal.returns-in-None-clause-found
returns-in-None-clause-found c = false≢true (c.if-is_far_at.ensures.1 (inl (rw c.in-Ok.ensures.made at c.in-None.ensures.none)))
