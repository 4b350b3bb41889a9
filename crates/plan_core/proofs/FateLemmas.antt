-- Why sets are refused in a window, and which faults are told exactly.
use Rattle.std.proofs.Common.{◌≡◌, ◌≢◌, ◌↔◌, ◌<◌, refl, sym, subst, arith, ℕ, ℤ, List, All, length, get_or, map, slice_get, Option, None, Some, IfNone, IfSome}
use Rattle.std.proofs.lemmas.List.{length-map}
use Rattle.std.proofs.lemmas.Option.{slice_get_within}
use Rattle.catalogue.specs.declared.entry.Entry.{Entry}
use Rattle.elements.specs.Elements.{ElementsRecord, record_of_elements}
use Rattle.elements.specs.Window.{WindowRecord}
use Rattle.plan_core.specs.Certificate.{SettingRecord, end_of}
use Rattle.plan_core.specs.Fates.{IsExact, IsExactFate, IsFate}
use Rattle.plan_core.specs.Readers.{IsReady}
use Rattle.plan_core.specs.State.{SatState, entry_of}
use Rattle.plan_core.proofs.ReaderLemmas.{entry_set}
use Rattle.sgp4_model.specs.Records.{SetRecord}
use Rattle.sgp4_motion.specs.Fate.{IsDragged, IsEccentric, IsFar, IsInclined, IsOrdinary, MayAccept, MayRefuse, MayRefuseSet}
use Rattle.sgp4_shape.specs.declared.fault.SatFault.{SatFault}
use Rattle.sgp4_shape.specs.declared.fault.SatFault.TheVariants.{Deep, Drag, Eccentric, Edge, Far, Inclined, Low}

-- what refuses a set anywhere refuses it in a window
pub refused_anywhere : (set : SetRecord) (first last : ℤ) (fault : SatFault) → MayRefuseSet set fault → MayRefuse set first last fault
refused_anywhere set first last Eccentric h = h
refused_anywhere set first last Inclined h = h
refused_anywhere set first last Drag h = h
refused_anywhere set first last Deep h = h
refused_anywhere set first last Low h = h
refused_anywhere set first last Edge h = h
refused_anywhere set first last Far h = absurd h

-- the first three faults of an ordinary set, which has another fate
record IsLater (set : SetRecord) (fate : Option SatFault) : Type 0 where
  eccentric : (fate ≡ Some Eccentric) ↔ IsEccentric set
  inclined : (fate ≡ Some Inclined) ↔ (¬ IsEccentric set × IsInclined set)
  drag : (fate ≡ Some Drag) ↔ ((¬ IsEccentric set × ¬ IsInclined set) × IsDragged set)

-- none of them is its fate
later : (set : SetRecord) (fate : Option SatFault) → IsOrdinary set → fate ≢ Some Eccentric → fate ≢ Some Inclined → fate ≢ Some Drag → IsLater set fate
later set fate o p q r = record {
  eccentric = (λ e. absurd (p e), λ h. absurd (o.not_eccentric h));
  inclined = (λ e. absurd (q e), λ h. absurd (o.not_inclined h.1));
  drag = (λ e. absurd (r e), λ h. absurd (o.not_dragged h.1));
}

-- a later fault that is not Far
not_far : (set : SetRecord) (first last : ℤ) (fault : SatFault) → fault ≢ Far → IsLater set (Some fault) → IsExact set first last (Some fault)
not_far set first last fault n l = record {
  eccentric = l.eccentric;
  inclined = l.inclined;
  drag = l.drag;
  far = (λ e. absurd (n (cc)), λ h. absurd (h.0 fault n refl));
}

-- the exact faults
pub exact : (set : SetRecord) (first last : ℤ) (fate : Option SatFault) → IfSome fate (MayRefuse set first last) → IfNone fate (MayAccept set first last) → IsExact set first last fate
exact set first last None r a =
    let l = later set None a.ordinary (λ e. cc) (λ e. cc) (λ e. cc) in
    record { eccentric = l.eccentric; inclined = l.inclined; drag = l.drag; far = (λ e. absurd (cc), λ h. absurd (a.not_far h.1)) }
exact set first last (Some Eccentric) r a = record {
  eccentric = (λ e. r, λ h. refl);
  inclined = (λ e. absurd (cc), λ h. absurd (h.0 r));
  drag = (λ e. absurd (cc), λ h. absurd (h.0.0 r));
  far = (λ e. absurd (cc), λ h. absurd (h.0 Eccentric (λ e. cc) refl));
}
exact set first last (Some Inclined) r a = record {
  eccentric = (λ e. absurd (cc), λ h. absurd (r.0 h));
  inclined = (λ e. r, λ h. refl);
  drag = (λ e. absurd (cc), λ h. absurd (h.0.1 r.1));
  far = (λ e. absurd (cc), λ h. absurd (h.0 Inclined (λ e. cc) refl));
}
exact set first last (Some Drag) r a = record {
  eccentric = (λ e. absurd (cc), λ h. absurd (r.0.0 h));
  inclined = (λ e. absurd (cc), λ h. absurd (r.0.1 h.1));
  drag = (λ e. r, λ h. refl);
  far = (λ e. absurd (cc), λ h. absurd (h.0 Drag (λ e. cc) refl));
}
exact set first last (Some Deep) r a = not_far set first last Deep (λ e. cc) (later set (Some Deep) r.ordinary (λ e. cc) (λ e. cc) (λ e. cc))
exact set first last (Some Low) r a = not_far set first last Low (λ e. cc) (later set (Some Low) r.ordinary (λ e. cc) (λ e. cc) (λ e. cc))
exact set first last (Some Edge) r a = not_far set first last Edge (λ e. cc) (later set (Some Edge) r.ordinary (λ e. cc) (λ e. cc) (λ e. cc))
exact set first last (Some Far) r a =
    let l = later set (Some Far) r.0.0.0.0 (λ e. cc) (λ e. cc) (λ e. cc) in
    record {
      eccentric = l.eccentric;
      inclined = l.inclined;
      drag = l.drag;
      far = (λ e. (λ other n e. n (cc), r.1), λ h. refl);
    }

-- the fate of a satellite is that of its entry
pub fate_at : (setting : SettingRecord) (satellites : List SatState) (k : ℕ) (s : SatState) (entry : Entry) (fate : Option SatFault) → All (IsReady setting) satellites → s ≡ get_or satellites k s → slice_get (map entry_of satellites) k ≡ Some entry → fate ≡ s.fate → IsFate setting.window entry.elements fate
fate_at setting satellites k s entry fate ready read e same =
    let low : k < length satellites = omega (arith, slice_get_within (map entry_of satellites) k entry e, length-map satellites entry_of) in
    let is = subst (λ x. IsReady setting x) (sym read) (ready k s low) in
    subst (λ f. IsFate setting.window entry.elements f) (sym same) (subst (λ set. IsFate setting.window set s.fate) (entry_set satellites k s entry read e) is.fate)

-- and it is exact
pub exact_at : (window : WindowRecord) (set : ElementsRecord) (fate : Option SatFault) → IsFate window set fate → IsExactFate window set fate
exact_at window set fate h = exact (record_of_elements set) window.start (end_of window) fate h.refused h.accepted
