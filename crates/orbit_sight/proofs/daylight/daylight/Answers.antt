use Rattle.orbit_sight.proofs.daylight.daylight.Goals as goal

pub returns : goal.returns
returns g c h pi lat lon turn vector sine cosine r are s k sun =
    c.inner_product.ensures h _ _ _ _ (c.local_up.ensures h pi lat lon are) (c.to_earth.ensures.held h turn vector sine cosine r s k sun)
