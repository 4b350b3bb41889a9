-- What the answers say, field by field.
use Rattle.rows_locate.specs.PositionLaws.{BoundsHoldPositions, FoundAsItIs}

pub bounds_hold_positions : BoundsHoldPositions
bounds_hold_positions = record {
  hold = λ set at x y z r h p. (h.x_between r p, h.y_between r p, h.z_between r p);
  narrow = λ set at x y z h. (h.x_narrow, h.y_narrow, h.z_narrow);
  nowhere = λ set at x y z none h. none h.exists.0 h.exists.1;
}

pub found_as_it_is : FoundAsItIs
found_as_it_is = record {
  fate = λ entries number at fault name h. (h.entry, h.entry_is, h.name_is, h.holds_it);
  place = λ entries number at name x y z h. (h.entry, h.entry_is, h.name_is, h.holds_it.accepted, h.holds_it.bounds);
}
