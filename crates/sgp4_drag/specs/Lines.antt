-- The lines of the secular equations that functions compute, each in any arithmetic (Spacetrack Report No. 3, 1980,
-- SGP4; AIAA 2006-6753, appendix).
use Rattle.fixed_iv.specs.Arithmetic.{Arithmetic}

module _ (N : Arithmetic) where
  open N use {Number, ◌+◌, ◌-◌, ◌*◌, whole}

  -- M + Mdot t: an angle that grows steadily
  abbrev pub grown : (start rate t : Number) → Number
  grown start rate t = start + rate * t

  -- the node: Omega + Omegadot t + nodecf t^2
  abbrev pub node : (start rate bend t t2 : Number) → Number
  node start rate bend t t2 = start + rate * t + bend * t2

  -- the correction by drag: omgcof t + xmcof ((1 + eta cos M)^3 - delmo), where `bend` is xmcof eta: the cube less 1 is
  -- eta times what stands behind `bend`
  abbrev pub drag_correction : (omgcof xmcof bend eta delmo cosine t : Number) → Number
  drag_correction omgcof xmcof bend eta delmo cosine t =
      let wave = eta * cosine in
      omgcof * t + bend * (cosine * (whole 3 + wave * (whole 3 + wave))) - xmcof * (delmo - whole 1)

  -- the drag factor: 1 - C1 t - D2 t^2 - D3 t^3 - D4 t^4
  abbrev pub drag_factor : (c1 d2 d3 d4 t t2 t3 t4 : Number) → Number
  drag_factor c1 d2 d3 d4 t t2 t3 t4 = whole 1 - c1 * t - d2 * t2 - d3 * t3 - d4 * t4

  -- the eccentricity before it is raised: e - (B* C4 t + B* C5 (sin M - sin M0))
  abbrev pub decayed : (e bstar c4 c5 sin_m0 sine t : Number) → Number
  decayed e bstar c4 c5 sin_m0 sine t = e - (bstar * c4 * t + bstar * c5 * (sine - sin_m0))

  -- what drag adds to the mean longitude, over the mean motion: t2cof t^2 + t3cof t^3 + t^4 (t4cof + t t5cof)
  abbrev pub longitude_gain : (t2cof t3cof t4cof t5cof t t2 t3 t4 : Number) → Number
  longitude_gain t2cof t3cof t4cof t5cof t t2 t3 t4 = t2cof * t2 + t3cof * t3 + t4 * (t4cof + t * t5cof)

  -- the semimajor axis: a tempa^2
  abbrev pub semimajor_axis : (a tempa : Number) → Number
  semimajor_axis a tempa = a * (tempa * tempa)
