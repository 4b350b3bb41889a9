-- What a pool that holds a track says of its list.
use Rattle.std.proofs.Common.{arith, ◌≡◌, ◌≢◌, ℕ, List, [], length, Option, None, Some, refl, sym, ap, subst, ◌∙◌}
use Rattle.std.proofs.lemmas.List.{get_or-set_other, length_push}
use Rattle.sgp4_model.specs.declared.span.Span.{Span}
use Rattle.span_pool.specs.Record.{PoolRecord}
use Rattle.span_pool.specs.Pool.{Holds, IsHead, IsPushed, IsReleased, IsSameHead, IsStill, IsWithout, KeepsOthers, list_at, list_from, list_of, with_list}
use Rattle.span_pool.specs.declared.track.Track.{Track}

length_from : (pool : PoolRecord) (head : Option ℕ) (count : ℕ) → IsHead pool head count → length (list_from pool head) ≡ count
length_from pool None count h = sym h
length_from pool (Some at) count h = h.1

-- the list has the count of the track
pub length_held : (pool : PoolRecord) (track : Track) → Holds pool track → length (list_of pool track) ≡ track.count
length_held pool track h = length_from pool track.head track.count h

still : (old new : PoolRecord) (at : ℕ) (list : List Span) → new ≡ with_list old at list → (head : Option ℕ) (count : ℕ) → head ≢ Some at → IsHead old head count →
    IsHead new head count × (list_from new head ≡ list_from old head)
still old new at list w None count n h = (h, refl)
still old new at list w (Some i) count n h =
    let same : list_at new i ≡ list_at old i =
    ap (λ (q : PoolRecord). list_at q i) w ∙ get_or-set_other old.lists at i list [] (λ e. n (ap Some e)) in
    ((h.0, ap length same ∙ h.1), same)

-- where one list is written over, the tracks of the others are still there
pub others_still : (old new : PoolRecord) (at : ℕ) (list : List Span) → new ≡ with_list old at list → (other : Track) → other.head ≢ Some at → Holds old other →
    IsStill old new other
others_still old new at list w other n h = still old new at list w other.head other.count n h

-- no track that the pool holds begins where no list does
pub not_there : (pool : PoolRecord) (at : ℕ) (track : Track) → list_at pool at ≡ [] → Holds pool track → track.head ≢ Some at
not_there pool at track none h e =
    let k = subst (λ o. IsHead pool o track.count) e h in
    omega (arith, k.0, k.1, ap length none)

pub push_keeps : (old new : PoolRecord) (before after : Track) (span : Span) → IsPushed old new before after span → KeepsOthers old new before.head
push_keeps old new before after span p other n h = others_still old new p.at _ p.pool other (differs before.head n p.same_head) h
  where
    differs : (head : Option ℕ) → other.head ≢ head → IsSameHead old head p.at → other.head ≢ Some p.at
    differs None m s = not_there old p.at other s h
    differs (Some at) m s = λ e. m (e ∙ ap Some s)

pub push_holds : (old new : PoolRecord) (before after : Track) (span : Span) → Holds old before → IsPushed old new before after span → Holds new after
push_holds old new before after span h p = subst (λ o. IsHead new o after.count) (sym p.head)
    (omega (arith, p.count), ap length p.list ∙ length_push (list_of old before) span ∙ omega (arith, length_held old before h, p.count))

pub release_keeps : (old new : PoolRecord) (track : Track) → IsReleased old new track → KeepsOthers old new track.head
release_keeps old new track r other n h = by_head track.head n r.gone
  where
    by_head : (head : Option ℕ) → other.head ≢ head → IsWithout old head new → IsStill old new other
    by_head None m w = subst (λ (q : PoolRecord). IsStill old q other) (sym w) (h, refl)
    by_head (Some at) m w = others_still old new at [] w other m h

pub nothing_moves : (old new : PoolRecord) (track : Track) → new ≡ old → Holds old track → IsStill old new track
nothing_moves old new track e h = subst (λ (q : PoolRecord). IsStill old q track) (sym e) (h, refl)
