-- A pool beside which a track grows, and what is left of it.
use Rattle.std.proofs.Common.{arith, ◌≡◌, ℕ, ◌<◌, List, [], ◌∷◌, ◌++◌, length, set, Option, None, Some, refl, sym, ap, subst, ◌∙◌}
use Rattle.std.proofs.lemmas.List.{set-set, set-get_or}
use Rattle.sgp4_model.specs.declared.span.Span.{Span}
use Rattle.span_pool.specs.Record.{PoolRecord}
use Rattle.span_pool.specs.Pool.{IsHead, IsPushed, IsReleased, IsSameHead, IsWithout, list_at, list_from, list_of, with_list}
use Rattle.span_pool.specs.declared.track.Track.{Track}
use Rattle.span_pool.proofs.HeldLemmas.{push_holds}
use Rattle.span_bisect.specs.Answer.{IsOneMore, IsPoolAfter}
use Rattle.span_bisect.specs.Reading.{IsBeside, IsGrown, said}
use Rattle.span_bisect.specs.declared.bisect.Stop.{Stop}
use Rattle.span_bisect.specs.declared.bisect.Stop.TheVariants.{Unresolved, Full, Decays}

-- nothing has grown yet
pub starts : (pool : PoolRecord) (track : Track) → track.head ≡ None → track.count ≡ 0 → IsGrown pool pool track
starts pool track head count = record {
  beside = subst (IsBeside pool pool) (sym head) refl;
  holds = subst (λ o. IsHead pool o track.count) (sym head) count;
  slots = refl;
  used = omega (arith, count);
}

pub no_list : (pool : PoolRecord) (track : Track) → track.head ≡ None → list_of pool track ≡ []
no_list pool track head = ap (list_from pool) head

-- writing a list twice is writing it once
twice : (pool : PoolRecord) (at : ℕ) (first second : List Span) → with_list (with_list pool at first) at second ≡ with_list pool at second
twice pool at first second = ap (λ (l : List (List Span)). record pool { lists = l }) (set-set pool.lists at first second)

-- and writing back what was there is writing nothing
back : (pool : PoolRecord) (at : ℕ) → list_at pool at ≡ [] → with_list pool at [] ≡ pool
back pool at none = ap (λ (l : List (List Span)). record pool { lists = l }) (sym (ap (set pool.lists at) none) ∙ set-get_or pool.lists at [])

-- one push more
pub pushes : (old now new : PoolRecord) (before after : Track) (span : Span) → IsGrown old now before → IsPushed now new before after span → IsGrown old new after
pushes old now new before after span g p = record {
  beside = subst (IsBeside old new) (sym p.head) (beside before.head g.beside p.same_head);
  holds = push_holds now new before after span g.holds p;
  slots = ap (λ (q : PoolRecord). q.slots) p.pool ∙ g.slots;
  used = omega (arith, p.used, g.used, p.count);
}
  where
    here : new ≡ with_list now p.at (list_at new p.at)
    here = p.pool ∙ ap (with_list now p.at) (sym p.list)

    beside : (head : Option ℕ) → IsBeside old now head → IsSameHead now head p.at → IsBeside old new (Some p.at)
    beside None b s = (ap (λ (q : PoolRecord). list_at q p.at) (sym b) ∙ s, here ∙ ap (λ (q : PoolRecord). with_list q p.at (list_at new p.at)) b)
    beside (Some at) b s = (
      ap (list_at old) s ∙ b.0,
      here ∙ ap (λ (q : PoolRecord). with_list q p.at (list_at new p.at)) (b.1 ∙ ap (λ i. with_list old i (list_at now at)) (sym s)) ∙ twice old p.at (list_at now at) (list_at new p.at),
    )

pub pushed_list : (now new : PoolRecord) (before after : Track) (span : Span) → IsPushed now new before after span → list_of new after ≡ list_of now before ++ span ∷ []
pushed_list now new before after span p = ap (list_from new) p.head ∙ p.list

-- a track that is released leaves the pool as it was
pub releases : (old now new : PoolRecord) (track : Track) → IsGrown old now track → IsReleased now new track → new ≡ old
releases old now new track g r = gone track.head g.beside r.gone
  where
    gone : (head : Option ℕ) → IsBeside old now head → IsWithout now head new → new ≡ old
    gone None b w = w ∙ b
    gone (Some at) b w = w ∙ ap (λ (q : PoolRecord). with_list q at []) b.1 ∙ twice old at (list_at now at) [] ∙ back old at b.0

-- a track that is not empty is one list more
pub one_more : (old new : PoolRecord) (track : Track) → IsGrown old new track → 0 < length (list_of new track) → IsOneMore old new track
one_more old new track g some = by_head track.head refl g.beside
  where
    by_head : (head : Option ℕ) → track.head ≡ head → IsBeside old new head → IsOneMore old new track
    by_head None e b = absurd (omega (arith, some, ap length (no_list new track e)))
    by_head (Some at) e b = record { at = at; head = e; none = b.0; others = b.1; holds = g.holds; used = g.used }

-- where there are no spans, the pool is as before
pub stopped : (old new : PoolRecord) (stop : Stop) → new ≡ old → IsPoolAfter old new (said stop)
stopped old new (Unresolved from to) e = e
stopped old new (Full at) e = e
stopped old new (Decays at) e = e
