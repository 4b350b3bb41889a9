-- What numerals say of an enclosed recovered motion.
use Rattle.std.specs.Prelude.{ℕ, pos, negsuc, ◌+◌, ◌*◌, ◌/◌}
use Rattle.exact.specs.Rational.{ℚ, ◌*ℚ◌}
use Rattle.fixed_iv.specs.Follows.{Encloses}
use Rattle.fixed_iv.specs.Place.{Place}
use Rattle.fixed_iv.specs.Reach.{Reach, from_to}
use Rattle.sgp4_model.specs.Angle.{IsPi}
use Rattle.sgp4_model.specs.MeanMotion.{IsMotionRecovered, MotionRecord}
use Rattle.sgp4_model.specs.Records.{SetRecord}
use Rattle.sgp4_shape.specs.Covering.{unit_minutes}
use Rattle.fixed_iv.specs.declared.enc.Enc.{Ghosts}
use Rattle.sgp4_motion.specs.Recovered.{CoversMotion}
use Rattle.sgp4_motion.specs.declared.limits.TheConstants.{LEAST_PERIGEE_KM}
use Rattle.sgp4_motion.specs.declared.recovered.Recovered.{Recovered}

-- numerals for each quantity
pub record MotionReach : Type 0 where
  pub i : Reach
  pub c : Reach
  pub si : Reach
  pub e : Reach
  pub n0 : Reach
  pub a : Reach
  pub bb : Reach
  pub b0 : Reach
  pub p : Reach
  pub rp : Reach
  pub con41 : Reach
  pub con42 : Reach

-- each quantity is covered at the place, and its enclosure is as its numerals say
pub record IsHeldMotion {A : Type 0} (E : Ghosts A) (motion : Recovered A) (h : Place) (m : MotionRecord) (r : MotionReach) : Type 0 where
  pub i : Encloses E motion.i h m.i r.i
  pub c : Encloses E motion.c h m.c r.c
  pub si : Encloses E motion.si h m.si r.si
  pub e : Encloses E motion.e h m.e r.e
  pub n0 : Encloses E motion.n0 h (unit_minutes 1 *ℚ m.n0) r.n0
  pub a : Encloses E motion.a h m.a r.a
  pub bb : Encloses E motion.bb h m.bb r.bb
  pub b0 : Encloses E motion.b0 h m.b0 r.b0
  pub p : Encloses E motion.p h m.p r.p
  pub rp : Encloses E motion.rp h m.rp r.rp
  pub con41 : Encloses E motion.con41 h m.con41 r.con41
  pub con42 : Encloses E motion.con42 h m.con42 r.con42

-- each recovered motion of a set is covered
abbrev pub CoversEachMotion : {A : Type 0} → Ghosts A → SetRecord → Recovered A → Type 0
CoversEachMotion E set motion = (pi : ℚ) (m : MotionRecord) → IsPi pi → IsMotionRecovered set pi m → CoversMotion E motion m

-- and its enclosure is as these numerals say
abbrev pub HoldsEachMotion : {A : Type 0} → Ghosts A → SetRecord → MotionReach → Recovered A → Type 0
HoldsEachMotion E set r motion =
    (at : Place) (pi : ℚ) (m : MotionRecord) → IsPi pi → IsMotionRecovered set pi m → IsHeldMotion E motion at m r

-- the numerals of a recovered motion, from a mean motion between 6.3 and 17 revolutions a day
abbrev pub reach_recovered : MotionReach
reach_recovered = record {
  i = from_to (pos 0) (pos 306) 100 8;
  c = from_to (negsuc 100000) (pos 100001) 100000 24;
  si = from_to (negsuc 100000) (pos 100001) 100000 24;
  e = from_to (pos 0) (pos 2) 10 1;
  n0 = from_to (pos 4490) (pos 12170) 10 11264;
  a = from_to (pos 10000) (pos 19450) 10000 96;
  bb = from_to (pos 95999) (pos 100000) 100000 3;
  b0 = from_to (pos 97979) (pos 100001) 100000 8;
  p = from_to (pos 9600) (pos 19450) 10000 104;
  rp = from_to (pos 80000) (pos 194500) 100000 104;
  con41 = from_to (negsuc 1000) (pos 2001) 1000 160;
  con42 = from_to (negsuc 4001) (pos 1000) 1000 256;
}

-- the radius of the least accepted perigee in so many parts of an Earth radius, rounded down
abbrev pub least_radius : ℕ → ℕ
least_radius parts = parts + parts * LEAST_PERIGEE_KM * 1000 / 6378135

-- the numerals of an accepted set: ranges from its period and its perigee, spreads in units of 2^-48; with a perigee of at
-- least 300 km the mean motion is at most 1,138.0 radians per 16,384 minutes
abbrev pub reach_motion : MotionReach
reach_motion = record {
  i = from_to (pos 0) (pos 306) 100 8;
  c = from_to (negsuc 100000) (pos 100001) 100000 24;
  si = from_to (negsuc 100000) (pos 100001) 100000 24;
  e = from_to (pos 0) (pos 2) 10 1;
  n0 = from_to (pos 4575) (pos 11380) 10 11264;
  a = from_to (pos (least_radius 10000)) (pos 19214) 10000 96;
  bb = from_to (pos 95999) (pos 100000) 100000 3;
  b0 = from_to (pos 97979) (pos 100001) 100000 8;
  p = from_to (pos (least_radius 10000)) (pos 19214) 10000 104;
  rp = from_to (pos (least_radius 100000)) (pos 192140) 100000 104;
  con41 = from_to (negsuc 1000) (pos 2001) 1000 160;
  con42 = from_to (negsuc 4001) (pos 1000) 1000 256;
}
