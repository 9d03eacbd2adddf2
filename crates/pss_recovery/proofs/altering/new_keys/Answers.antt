use Rattle.std.proofs.Common.{Err, IsNone, IsSome, refl, sym, ap, subst}
use Rattle.pss_recovery.proofs.Alterings.{on_none}
use Rattle.pss_recovery.proofs.Rows.{no_state}
use Rattle.pss_recovery.proofs.altering.new_keys.Goals as goal

pub returns-in-Err-clause-none : goal.returns-in-Err-clause-none
returns-in-Err-clause-none c =
    on_none c.no_keys.result _ _ IsNone
    (λ w. λ state has. no_state c.args.schema.now c.args.next c.args.put.now w.0 state (subst IsSome (sym c.in-Some.is) refl) (c.in-Err.ensures.refused w.0 (ap Err w.1)) has) c.no_keys.ensures.wrong
