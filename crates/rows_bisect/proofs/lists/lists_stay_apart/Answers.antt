use Rattle.std.proofs.Common.{sym, subst}
use Rattle.span_pool.specs.Record.{PoolRecord}
use Rattle.span_pool.specs.Pool.{Holds}
use Rattle.rows_bisect.proofs.lists.lists_stay_apart.Goals as goal

-- the second list outlives the first one, and the third one's coming
pub is_list-requires : goal.is_list-requires
is_list-requires g c =
    let apart = c.covered-2.ensures.apart c.covered.result.0 c.covered.ensures.more.holds in
    let kept = c.release.ensures.others c.covered-2.result.0 (λ e. apart (sym e)) c.covered-2.ensures.more.holds in
    (c.covered-3.ensures.others c.covered-2.result.0 kept.0).0

pub release-requires-2 : goal.release-requires-2
release-requires-2 g c =
    let apart = c.covered-2.ensures.apart c.covered.result.0 c.covered.ensures.more.holds in
    let kept = c.release.ensures.others c.covered-2.result.0 (λ e. apart (sym e)) c.covered-2.ensures.more.holds in
    subst (λ (p : PoolRecord). Holds p c.covered-2.result.0) (sym c.refused-answer.ensures) (c.covered-3.ensures.others c.covered-2.result.0 kept.0).0

-- the third list outlives the second one, and the fourth one's coming
pub is_list-requires-4 : goal.is_list-requires-4
is_list-requires-4 g c =
    let apart = c.covered-2.ensures.apart c.covered.result.0 c.covered.ensures.more.holds in
    let kept = c.release.ensures.others c.covered-2.result.0 (λ e. apart (sym e)) c.covered-2.ensures.more.holds in
    let apart_3 = c.covered-3.ensures.apart c.covered-2.result.0 kept.0 in
    let held = subst (λ (p : PoolRecord). Holds p c.covered-3.result.0) (sym c.refused-answer.ensures) c.covered-3.ensures.more.holds in
    let kept_3 = c.release-2.ensures.others c.covered-3.result.0 (λ e. apart_3 (sym e)) held in
    (c.covered-4.ensures.others c.covered-3.result.0 kept_3.0).0

pub release-requires-3 : goal.release-requires-3
release-requires-3 g c =
    let apart = c.covered-2.ensures.apart c.covered.result.0 c.covered.ensures.more.holds in
    let kept = c.release.ensures.others c.covered-2.result.0 (λ e. apart (sym e)) c.covered-2.ensures.more.holds in
    let apart_3 = c.covered-3.ensures.apart c.covered-2.result.0 kept.0 in
    let held = subst (λ (p : PoolRecord). Holds p c.covered-3.result.0) (sym c.refused-answer.ensures) c.covered-3.ensures.more.holds in
    let kept_3 = c.release-2.ensures.others c.covered-3.result.0 (λ e. apart_3 (sym e)) held in
    (c.covered-4.ensures.others c.covered-3.result.0 kept_3.0).0
