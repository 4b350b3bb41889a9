-- The fate of a satellite: why its set is refused in a window, or that it is accepted.
use Rattle.std.specs.Prelude.{◌≡◌, ◌≢◌, ◌↔◌, ℤ, Option, None, Some, IfSome, IfNone}
use Rattle.elements.specs.Elements.{ElementsRecord, record_of_elements}
use Rattle.elements.specs.Window.{WindowRecord}
use Rattle.plan_core.specs.Certificate.{end_of}
use Rattle.sgp4_model.specs.Records.{SetRecord}
use Rattle.sgp4_motion.specs.Fate.{IsDragged, IsEccentric, IsFar, IsInclined, MayAccept, MayRefuse}
use Rattle.sgp4_shape.specs.declared.fault.SatFault.{SatFault}
use Rattle.sgp4_shape.specs.declared.fault.SatFault.TheVariants.{Drag, Eccentric, Far, Inclined}

-- the set may be refused for its fault, or it may be accepted where there is none
pub record IsFate (window : WindowRecord) (set : ElementsRecord) (fate : Option SatFault) : Type 0 where
  pub refused : IfSome fate (MayRefuse (record_of_elements set) window.start (end_of window))
  pub accepted : IfNone fate (MayAccept (record_of_elements set) window.start (end_of window))

-- the faults that are told exactly: the first three that apply; and Far, where no other came
pub record IsExact (set : SetRecord) (first last : ℤ) (fate : Option SatFault) : Type 0 where
  pub eccentric : (fate ≡ Some Eccentric) ↔ IsEccentric set
  pub inclined : (fate ≡ Some Inclined) ↔ (¬ IsEccentric set × IsInclined set)
  pub drag : (fate ≡ Some Drag) ↔ ((¬ IsEccentric set × ¬ IsInclined set) × IsDragged set)
  pub far : (fate ≡ Some Far) ↔ (((other : SatFault) → other ≢ Far → fate ≢ Some other) × IsFar set first last)

-- this of a fate in a window
abbrev pub IsExactFate : WindowRecord → ElementsRecord → Option SatFault → Type 0
IsExactFate window set fate = IsExact (record_of_elements set) window.start (end_of window) fate
