use Rattle.std.proofs.Common.{◌∙◌, refl, sym, arith}
use Rattle.std.proofs.lemmas.Result.{err_from_is_err_and}
use Rattle.omm_kvn.specs.Found.{places_in}
use Rattle.omm_kvn.proofs.ScanLemmas.{scan_is, scan-at, scan-whole}
use Rattle.omm_kvn.proofs.scan.scan.Goals as goal

pub loop-end-init : goal.loop-end-init
loop-end-init c = (rw c.none-found.ensures (scan_is c.args.text.now), omega arith, omega arith)

pub loop-end-preserved : goal.loop-end-preserved
loop-end-preserved c =
    let l = c.loop-end in (
      l.invariant.0
          ∙ (scan-at l.number l.from c.in-Some.end (places_in l.found) l.rest.now _ _ (sym c.line_end.ensures.value ∙ c.in-Some.is) c.in-Some.ensures.bound (c.kind_of.ensures ∙ rw (c.make.ensures, c.cut.ensures.before) refl) c.taken.ensures
          ∙ rw (c.in_ok-found.was, c.cut.ensures.behind) refl),
      omega arith,
      omega arith,
    )

pub returns-in_err-found : goal.returns-in_err-found
returns-in_err-found c =
    let l = c.loop-end in
    let p = err_from_is_err_and c.from_residual.result c.from_residual.ensures.1 in
    rw (p.1, p.2) (sym (l.invariant.0
    ∙ (scan-at l.number l.from c.in-Some.end (places_in l.found) l.rest.now _ _ (sym c.line_end.ensures.value ∙ c.in-Some.is) c.in-Some.ensures.bound (c.kind_of.ensures ∙ rw (c.make.ensures, c.cut.ensures.before) refl) c.taken.ensures
    ∙ rw c.in_err-found.was refl)))

pub returns : goal.returns
returns c =
    let l = c.loop-end in
    sym (l.invariant.0 ∙ scan-whole l.number l.from (places_in l.found) l.rest.now _ _ (sym c.line_end.ensures.value ∙ c.in_default.is) (c.kind_of-2.ensures ∙ rw c.make-2.ensures refl) c.taken-2.ensures)
