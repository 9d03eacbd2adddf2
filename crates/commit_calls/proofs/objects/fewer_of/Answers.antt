use Rattle.std.proofs.Common.{◌≡◌, subst, rules}
use Rattle.pss_copies.specs.Settling.{HasAmong}
use Rattle.commit_calls.proofs.Pids.{valued_among}
use Rattle.commit_calls.proofs.objects.fewer_of.Goals as goal

pub returns-clause-own : goal.returns-clause-own
returns-clause-own c S k o are there =
    let held : c.in_ok-own.own.items ≡ c.in_ok-pids.pids.value.own.items = search rules in
    subst (HasAmong o) held (valued_among o c.in_ok-own.own.items (c.in_ok-own.ensures S k o are there))
