use Rattle.std.proofs.Common.{map, sym, subst, ◌∙◌}
use Rattle.std.proofs.lemmas.List.{length-map}
use Rattle.pss_copies.specs.Settling.{HasAmong}
use Rattle.pss_copies.proofs.Changed.{all_among}
use Rattle.owner_view.proofs.Outcomes.{if_ok}
use Rattle.commit_calls.specs.Ready.{pid_of}
use Rattle.commit_calls.proofs.objects.pids_of.Goals as goal

pub returns-then-changes-changed_count-clause-own : goal.returns-then-changes-changed_count-clause-own
returns-then-changes-changed_count-clause-own c =
    if_ok c.all_of.result
    (λ pids is S k o are there of. subst (HasAmong o) (sym is) (all_among k.catalog o (map pid_of c.args.changes.now) of (length-map c.args.changes.now pid_of ∙ c.if-changes-changed_count.true ∙ c.changed_count.ensures S k o are there)))
    c.all_of.ensures.own
