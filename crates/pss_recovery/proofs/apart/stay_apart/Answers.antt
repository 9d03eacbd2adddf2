use Rattle.std.proofs.Common.{List, sym, subst}
use Rattle.storage_home.specs.declared.change.Change.{Change}
use Rattle.storage_home.proofs.Holding.{if_ok}
use Rattle.pss_recovery.specs.inner.Claims.{Agrees, ComeApart, no_keys, releases}
use Rattle.pss_recovery.proofs.Takers.{apart_unique}
use Rattle.pss_recovery.proofs.apart.stay_apart.Goals as goal

pub returns : goal.returns
returns c =
    let changes = c.args.changes.now in
    let agrees = subst (λ (l : List Change). Agrees c.in_ok-released.released (releases l)) c.as_slice.ensures.items c.in_ok-released.ensures in
    if_ok c.come_apart.result
    (λ apart p S M kept steps are.
    let may = p S M kept (releases changes) agrees in
    let same = apart_unique S M c.args.homes.now kept changes c.as_slice.ensures.rising steps are in (
      (λ e. same.0 (subst (λ (l : List Change). ComeApart S M (releases changes) no_keys l) c.as_slice-2.ensures.items (may.0 e))),
      (λ q. may.1 (subst (λ (l : List Change). ComeApart S M (releases changes) no_keys l) (sym c.as_slice-2.ensures.items) (same.1 q))),
    ))
    c.come_apart.ensures
