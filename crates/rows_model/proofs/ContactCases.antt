-- What a certified row of a pair says.
use Rattle.std.proofs.Common.{◌≡◌, ℕ, ℤ, zero, suc, ◌<◌, List, [], ◌∷◌, length, get_or, Contains, inl, inr, refl, subst, arith}
use Rattle.exact.specs.Rational.{ℚ, zero_ℚ, neg_ℚ, ◌≤ℚ◌, ◌<ℚ◌}
use Rattle.exact.proofs.RationalRing.{ring, reads}
use Rattle.sgp4_model.specs.Mask.{EverySector, SomeSector, TouchesHigh, TouchesLow, GrazesBy}
use Rattle.sgp4_model.specs.Records.{SetRecord, StationRecord}
use Rattle.sgp4_model.specs.Sectors.{HoldsDirection, SectorSides, sides_of}
use Rattle.sgp4_model.specs.Sight.{SightRecord}
use Rattle.sgp4_model.specs.Solution.{IsSolution, SolutionRecord}
use Rattle.rows_model.specs.Contacts.{CertifiedContactsAreTrue, Contact, IsContact, IsHeldIn, IsNearMask, IsOver, IsUnder, east, north, up}
use Rattle.rows_model.proofs.HeadlineCases.{place_in, true_span}
use Rattle.rows_model.proofs.PartCases.{contacts_make_solutions}

-- a fact of every sector is one of each that the list contains
each_sector : (fact : SectorSides → Type 0) (list : List SectorSides) (sector : SectorSides) → EverySector fact list →
    (k : ℕ) → k < length list → get_or list k sector ≡ sector → fact sector
each_sector fact [] sector all k below is = absurd (omega (arith, below))
each_sector fact (first ∷ rest) sector all zero below is = subst fact is all.0
each_sector fact (first ∷ rest) sector all (suc k) below is = each_sector fact rest sector all.1 k (omega (arith, below)) is

-- a fact of some sector is one of some that the list contains
some_sector : (fact : SectorSides → Type 0) (list : List SectorSides) → SomeSector fact list → (sector : SectorSides) × (Contains list sector × fact sector)
some_sector fact [] some = absurd some
some_sector fact (first ∷ rest) (inl here) = (first, ((0, omega arith, refl), here))
some_sector fact (first ∷ rest) (inr there) =
    let found = some_sector fact rest there in
    (found.0, ((suc found.1.0.0, omega (arith, found.1.0.1), found.1.0.2), found.1.1))

-- no less than the opposite of 0
no_less : (z : ℚ) → neg_ℚ zero_ℚ ≤ℚ z → zero_ℚ ≤ℚ z
no_less z h = subst (λ t. t ≤ℚ z) (ring [] (search reads depth 20) tt) h

abbrev sight_of : Contact → SightRecord
sight_of c = record { east = east c; north = north c; up = up c }

holds : {c : Contact} {sector : SectorSides} → IsHeldIn c zero_ℚ sector → HoldsDirection sector (sight_of c)
holds h = record { from = no_less _ h.from; to = no_less _ h.to }

over_each : (c : Contact) → EverySector (λ sector. HoldsDirection sector (sight_of c) → sector.floor <ℚ up c) (sides_of c.pairs) → IsOver c
over_each c all sector h = each_sector _ (sides_of c.pairs) sector all h.one.0 h.one.1 h.one.2 (holds h)

under_each : (c : Contact) → EverySector (λ sector. HoldsDirection sector (sight_of c) → up c <ℚ sector.floor) (sides_of c.pairs) → IsUnder c
under_each c all sector h = each_sector _ (sides_of c.pairs) sector all h.one.0 h.one.1 h.one.2 (holds h)

near_mask : (c : Contact) (b : ℚ) → GrazesBy b (sides_of c.pairs) (sight_of c) → IsNearMask c b
near_mask c b g =
    let low = some_sector (TouchesLow b (sight_of c)) (sides_of c.pairs) g.low in
    let high = some_sector (TouchesHigh b (sight_of c)) (sides_of c.pairs) g.high in
    record {
      first = low.0;
      first_holds = record { one = low.1.0; from = low.1.1.touches.from; to = low.1.1.touches.to };
      low = low.1.1.up;
      second = high.0;
      second_holds = record { one = high.1.0; from = high.1.1.touches.from; to = high.1.1.touches.to };
      high = high.1.1.up;
    }

-- what a solution is made of
contact : {set : SetRecord} {row : StationRecord} {at : ℚ} {dut1 : ℤ} {s : SolutionRecord} → IsSolution set row at dut1 s → (c : Contact) × IsContact c set row at dut1
contact {set} {row} {at} {dut1} {s} h = (
  record {
    pi = h.pi;
    k = s.constants;
    m = h.mean;
    root = h.root;
    r = h.position;
    f = h.is_sight.of_latitude;
    l = h.is_sight.of_longitude;
    t = h.is_sight.turn;
    place = h.is_sight.place;
    range = s.range;
    pairs = h.pairs;
  },
  record {
    is_pi = h.is_pi;
    constants = h.are_constants;
    mean = h.is_mean;
    position = h.is_position;
    latitude = h.is_sight.is_latitude;
    longitude = h.is_sight.is_longitude;
    turn = h.is_sight.is_sidereal;
    place_is = h.is_sight.is_place;
    range_is = h.is_sight.is_direction.range_is;
    range_divides = h.is_sight.is_direction.range_divides;
    mask = h.are_pairs;
  },
)

pub certified_contacts_are_true : CertifiedContactsAreTrue
certified_contacts_are_true set row start dut1 ticks span = record {
  visible = λ x c one here h. over_each c (((true_span one).yes one.is x (place_in here)).each _ (contacts_make_solutions c set row _ dut1 h));
  hidden = λ x c one here h. under_each c (((true_span one).no one.is x (place_in here)).each _ (contacts_make_solutions c set row _ dut1 h));
  undecided = λ x c one here h k. near_mask c _ ((((true_span one).grazes one.is x (place_in here)).each _ (contacts_make_solutions c set row _ dut1 h)).other k);
  simple = λ x c one here h k. near_mask c _ ((((true_span one).grazes one.is x (place_in here)).each _ (contacts_make_solutions c set row _ dut1 h)).simple k);
  sharp = λ x c one here h. near_mask c _ (((true_span one).grazes one.is x (place_in here)).each _ (contacts_make_solutions c set row _ dut1 h)).sharp;
  some_visible = λ x one here. contact ((true_span one).yes one.is x (place_in here)).some.1;
  some_hidden = λ x one here. contact ((true_span one).no one.is x (place_in here)).some.1;
  some_undecided = λ x one here. contact ((true_span one).grazes one.is x (place_in here)).some.1;
}
