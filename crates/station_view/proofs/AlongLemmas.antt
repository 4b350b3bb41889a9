-- Products with the local axes are those of two turns: by the longitude, and by the latitude.
use Rattle.std.proofs.Common.{◌≡◌, [], ◌∷◌}
use Rattle.exact.specs.Rational.{ℚ, ◌+ℚ◌, ◌-ℚ◌, ◌*ℚ◌, neg_ℚ, zero_ℚ}
use Rattle.exact.proofs.RationalRing.{ring, reads}
use Rattle.sgp4_model.specs.Angle.{Pair}
use Rattle.sgp4_model.specs.DaySolution.{local_up}
use Rattle.sgp4_model.specs.LocalAxes.{local_east, local_north}
use Rattle.sgp4_model.specs.Vector.{Vector, inner_product}

pub east_is : (lon : Pair) (d : Vector) → lon.cosine *ℚ d.y -ℚ lon.sine *ℚ d.x ≡ inner_product d (local_east lon)
east_is lon d = by lon.sine lon.cosine d.x d.y d.z
  where
    by : (s c x y z : ℚ) → c *ℚ y -ℚ s *ℚ x ≡ x *ℚ neg_ℚ s +ℚ y *ℚ c +ℚ z *ℚ zero_ℚ
    by s c x y z = ring (s ∷ c ∷ x ∷ y ∷ z ∷ []) (search reads depth 90) tt

pub north_is : (lat lon : Pair) (d : Vector) → lat.cosine *ℚ d.z -ℚ lat.sine *ℚ (lon.cosine *ℚ d.x +ℚ lon.sine *ℚ d.y) ≡ inner_product d (local_north lat lon)
north_is lat lon d = by lat.sine lat.cosine lon.sine lon.cosine d.x d.y d.z
  where
    by : (t k s c x y z : ℚ) → k *ℚ z -ℚ t *ℚ (c *ℚ x +ℚ s *ℚ y) ≡ x *ℚ (neg_ℚ t *ℚ c) +ℚ y *ℚ (neg_ℚ t *ℚ s) +ℚ z *ℚ k
    by t k s c x y z = ring (t ∷ k ∷ s ∷ c ∷ x ∷ y ∷ z ∷ []) (search reads depth 90) tt

pub up_is : (lat lon : Pair) (d : Vector) → lat.cosine *ℚ (lon.cosine *ℚ d.x +ℚ lon.sine *ℚ d.y) +ℚ lat.sine *ℚ d.z ≡ inner_product d (local_up lat lon)
up_is lat lon d = by lat.sine lat.cosine lon.sine lon.cosine d.x d.y d.z
  where
    by : (t k s c x y z : ℚ) → k *ℚ (c *ℚ x +ℚ s *ℚ y) +ℚ t *ℚ z ≡ x *ℚ (k *ℚ c) +ℚ y *ℚ (k *ℚ s) +ℚ z *ℚ t
    by t k s c x y z = ring (t ∷ k ∷ s ∷ c ∷ x ∷ y ∷ z ∷ []) (search reads depth 90) tt
