-- What numerals say of the enclosed constants of a set that is taken.
use Rattle.std.specs.Prelude.{pos, negsuc}
use Rattle.fixed_iv.specs.Reach.{from_to, turned}
use Rattle.sgp4_shape.specs.HeldConsts.{ConstReach}
use Rattle.sgp4_motion.specs.HeldMotion.{reach_motion}
use Rattle.sgp4_init.specs.Numerals.{given_angle, given_drag}

-- ranges from its period, its perigee, its eccentricity and its drag term; spreads in units of 2^-48
abbrev pub reach_consts : ConstReach
reach_consts = record {
  i = reach_motion.i;
  c = reach_motion.c;
  si = reach_motion.si;
  e = reach_motion.e;
  w0 = given_angle;
  o0 = given_angle;
  m0 = given_angle;
  bstar = given_drag;
  a = reach_motion.a;
  eta = from_to (pos 0) (pos 8827) 10000 32768;
  con41 = reach_motion.con41;
  c5 = from_to (negsuc 4) (pos 5) 1000 16384;
  xmcof = from_to (negsuc 2848) (pos 2849) 1000 262144;
  xlcof = from_to (negsuc 114) (pos 115) 1000 10240;
  aycof = from_to (negsuc 1172) (pos 1173) 1000000 3;
  delmo = from_to (pos 1) (pos 6674) 1000 360448;
  sin_m0 = turned given_angle;
  n0 = reach_motion.n0;
  mdot = from_to (pos 4566) (pos 11397) 10 14336;
  wdot = from_to (negsuc 929) (pos 3465) 1000 90112;
  odot = from_to (negsuc 1710) (pos 1711) 1000 22528;
  c1 = from_to (negsuc 1820) (pos 1821) 1000000 8192;
  c4 = from_to (negsuc 106) (pos 107) 100 14680064;
  omgcof = from_to (negsuc 2105) (pos 2106) 1000 491520;
  t2cof = from_to (negsuc 273) (pos 274) 100000 13312;
  d2 = from_to (negsuc 399) (pos 400) 1000000 3840;
  nodecf = from_to (negsuc 1074) (pos 1075) 100000 49152;
  t3cof = from_to (negsuc 406) (pos 407) 1000000 3840;
  d3 = from_to (negsuc 234) (pos 235) 1000000 3328;
  t4cof = from_to (negsuc 178) (pos 179) 1000000 2560;
  d4 = from_to (negsuc 87) (pos 88) 1000000 1792;
  t5cof = from_to (negsuc 53) (pos 54) 1000000 1152;
}
