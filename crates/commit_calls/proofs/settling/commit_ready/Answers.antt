use Rattle.std.proofs.Common.{List, sym, subst}
use Rattle.pss_base.specs.declared.pid.Pid.{Pid}
use Rattle.pss_copies.specs.Settling.{MayCommit}
use Rattle.pss_machine.specs.Moving.{settled}
use Rattle.commit_calls.proofs.Settlements.{commit_settles, gone_alike}
use Rattle.commit_calls.proofs.settling.commit_ready.Goals as goal

pub commit-requires : goal.commit-requires
commit-requires g c = record { schema = c.args.parts.now.schema; kept = c.requires.kept; owner = c.args.owner; are = c.requires.stands.accounts; is = c.requires.is.commit; commits = c.requires.commits }

pub returns-clause-committed : goal.returns-clause-committed
returns-clause-committed g c k stands ready may = record {
  accounts = gone_alike c.args.parts.now.schema c.leave.new.self k c.args.owner (c.leave.ensures c.args.parts.now.schema (settled k c.args.owner) (c.commit.ensures c.args.parts.now.schema k c.args.owner stands.accounts ready.commit));
  attended = c.commit-2.ensures k (subst (λ (l : List Pid). MayCommit k c.args.owner l) (sym c.as_slice.ensures) (commit_settles c.args.parts.now k c.args.owner c.args.ready ready may)) stands.attended;
}
