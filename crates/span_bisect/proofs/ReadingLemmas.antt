-- What has been read of a track: a sound list and the span that is being read.
use Rattle.std.proofs.Common.{arith, ◌≡◌, ◌≢◌, ℕ, ◌+◌, ◌-◌, ◌<◌, ◌≤◌, List, [], ◌∷◌, ◌++◌, length, refl, sym, ◌∙◌, subst}
use Rattle.std.proofs.lemmas.List.Elements.{All-nil}
use Rattle.exact.specs.Rational.{ℚ}
use Rattle.sgp4_model.specs.Time.{Throughout}
use Rattle.sgp4_model.specs.Certified.{TrackRecord, IsDecaying, IsTrueSpan, IsSoundUpTo, IsUnresolved, IsFull}
use Rattle.sgp4_model.specs.CertifiedLaws.{EndsOtherThan}
use Rattle.sgp4_model.proofs.TimeLemmas.{throughout_join}
use Rattle.sgp4_model.proofs.CertifiedLemmas.{sound_lists_extend}
use Rattle.span_bisect.specs.Answer.{IsOutOfRoom}
use Rattle.span_bisect.specs.Part.{IsPart, IsSink}
use Rattle.sgp4_model.specs.declared.span.Mark.{Mark}
use Rattle.sgp4_model.specs.declared.span.Mark.TheVariants.{Undecided}
use Rattle.sgp4_model.specs.declared.span.Span.{Span}

-- a list, sound up to where a true span of another mark than its last one begins
pub record IsReadTo (track : TrackRecord) (resolution : ℕ) (list : List Span) (run : Span) : Type 0 where
  pub sound : IsSoundUpTo track resolution list run.from
  pub other : EndsOtherThan run.mark list
  pub longer : run.from < run.to
  pub certain : IsTrueSpan track resolution run

eased : (track : TrackRecord) (resolution : ℕ) (span : Span) → 1 ≤ resolution → IsTrueSpan track 1 span → IsTrueSpan track resolution span
eased track resolution span h s = record { yes = s.yes; no = s.no; grazes = s.grazes; short = λ e. omega (arith, s.short e, h) }

pub start : (track : TrackRecord) (resolution : ℕ) (part : Span) → 1 ≤ resolution → IsPart track 0 part → IsReadTo track resolution [] part
start track resolution part h p = record {
  sound = record { tiles = sym p.begins; differ = tt; each = All-nil (IsTrueSpan track resolution) };
  other = tt;
  longer = omega (arith, p.begins, p.longer);
  certain = eased track resolution part h p.certain;
}

-- what holds throughout the run and a part of its mark holds throughout both together
joined : (holds : ℚ → Type 0) (run part : Span) → part.from ≡ run.to → Throughout run.from run.to holds → Throughout part.from part.to holds →
    Throughout run.from part.to holds
joined holds run part e h k = throughout_join holds run.from run.to part.to h (subst (λ t. Throughout t part.to holds) e k)

-- a part of the run's mark makes the run longer
pub extend : (track : TrackRecord) (resolution : ℕ) (list : List Span) (run part : Span) → IsReadTo track resolution list run → IsPart track run.to part →
    part.mark ≡ run.mark → (run.mark ≡ Undecided → part.to ≤ run.from + resolution) → IsReadTo track resolution list (record run { to = part.to })
extend track resolution list run part h p same short = record {
  sound = h.sound;
  other = h.other;
  longer = omega (arith, h.longer, p.longer);
  certain = record {
    yes = λ e. joined track.yes run part p.begins (h.certain.yes e) (p.certain.yes (same ∙ e));
    no = λ e. joined track.no run part p.begins (h.certain.no e) (p.certain.no (same ∙ e));
    grazes = λ e. joined track.grazes run part p.begins (h.certain.grazes e) (p.certain.grazes (same ∙ e));
    short = short;
  };
}

ends_with : (mark : Mark) (list : List Span) (span : Span) → span.mark ≢ mark → EndsOtherThan mark (list ++ span ∷ [])
ends_with mark [] span h = h
ends_with mark (first ∷ []) span h = h
ends_with mark (first ∷ second ∷ rest) span h = ends_with mark (second ∷ rest) span h

-- the list with the run
pub finish : (track : TrackRecord) (resolution : ℕ) (list : List Span) (run : Span) → IsReadTo track resolution list run →
    IsSoundUpTo track resolution (list ++ run ∷ []) run.to
finish track resolution list run h = sound_lists_extend track resolution list run h.sound h.other h.longer h.certain

-- a part of another mark ends the run
pub turn : (track : TrackRecord) (resolution : ℕ) (list : List Span) (run part : Span) → 1 ≤ resolution → IsReadTo track resolution list run →
    IsPart track run.to part → part.mark ≢ run.mark → IsReadTo track resolution (list ++ run ∷ []) part
turn track resolution list run part r h p differ = record {
  sound = subst (IsSoundUpTo track resolution (list ++ run ∷ [])) (sym p.begins) (finish track resolution list run h);
  other = ends_with part.mark list run (λ e. differ (sym e));
  longer = omega (arith, p.begins, p.longer);
  certain = eased track resolution part r p.certain;
}

-- an undecided part makes an undecided run longer than the resolution, by one tick
pub unresolved : (track : TrackRecord) (resolution : ℕ) (list : List Span) (run part : Span) → IsReadTo track resolution list run →
    IsPart track run.to part → part.mark ≡ run.mark → run.mark ≡ Undecided → resolution < part.to - run.from → part.to ≤ track.ticks →
    IsUnresolved track resolution run.from part.to
unresolved track resolution list run part h p same e long inside = record {
  list = list;
  sound = h.sound;
  longer = omega (arith, h.certain.short e, p.certain.short (same ∙ e), p.begins, p.longer, h.longer);
  inside = inside;
  grazes = joined track.grazes run part p.begins (h.certain.grazes e) (p.certain.grazes (same ∙ e));
}

-- the span that found no slot
pub full : (track : TrackRecord) (resolution slots used : ℕ) (list : List Span) (run : Span) → IsReadTo track resolution list run →
    length list + used ≡ slots → run.to ≤ track.ticks → IsFull track resolution slots used run.from
full track resolution slots used list run h e inside = record {
  list = list;
  sound = h.sound;
  before_the_end = omega (arith, h.longer, inside);
  no_slot = e;
}

-- the list with the run is too long for the slots
pub out_of_room : (track : TrackRecord) (resolution slots used : ℕ) (list : List Span) (run : Span) → IsReadTo track resolution list run →
    length list + used ≡ slots → run.to ≤ track.ticks → IsOutOfRoom track resolution slots used run.from
out_of_room track resolution slots used list run h e inside = record {
  list = list;
  last = run;
  sound = finish track resolution list run h;
  inside = inside;
  begins = refl;
  no_room = e;
}

-- a track that sinks where it begins, and one that sinks where the run ends
pub sinks_first : (track : TrackRecord) (resolution : ℕ) → IsSink track 0 → IsDecaying track resolution 0
sinks_first track resolution s = record {
  list = [];
  sound = record { tiles = refl; differ = tt; each = All-nil (IsTrueSpan track resolution) };
  before_the_end = s.inside;
  sinks = s.sinks;
}

pub sinks : (track : TrackRecord) (resolution : ℕ) (list : List Span) (run : Span) → IsReadTo track resolution list run → IsSink track run.to →
    IsDecaying track resolution run.to
sinks track resolution list run h s = record {
  list = list ++ run ∷ [];
  sound = finish track resolution list run h;
  before_the_end = s.inside;
  sinks = s.sinks;
}
