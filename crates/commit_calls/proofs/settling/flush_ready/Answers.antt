use Rattle.std.proofs.Common.{List, sym, subst}
use Rattle.pss_base.specs.declared.pid.Pid.{Pid}
use Rattle.pss_copies.specs.Settling.{MayFlush}
use Rattle.pss_machine.specs.Moving.{settled}
use Rattle.commit_calls.specs.Ready.{pids_in}
use Rattle.commit_calls.proofs.Settlements.{flush_settles, still_there}
use Rattle.commit_calls.proofs.settling.flush_ready.Goals as goal

pub commit-requires : goal.commit-requires
commit-requires g c = record { schema = c.args.parts.now.schema; kept = c.requires.kept; owner = c.args.owner; are = c.requires.stands.accounts; is = c.requires.is.commit; commits = c.requires.commits }

pub empty-requires : goal.empty-requires
empty-requires g c =
    (c.args.parts.now.schema, still_there c.args.parts.now.schema c.commit.new.self c.requires.kept c.args.owner c.requires.is.owner c.requires.is.there (c.commit.ensures c.args.parts.now.schema c.requires.kept c.args.owner c.requires.stands.accounts c.requires.is.commit))

pub returns-clause-flushed : goal.returns-clause-flushed
returns-clause-flushed g c k stands ready own = record {
  accounts = c.empty.ensures c.args.parts.now.schema (settled k c.args.owner) (c.commit.ensures c.args.parts.now.schema k c.args.owner stands.accounts ready.commit);
  attended = c.flush.ensures k (subst (λ (l : List Pid). MayFlush k c.args.owner l c.own.result.now) (sym c.as_slice.ensures)
      (subst (MayFlush k c.args.owner (pids_in c.args.ready.pids)) (sym c.own.ensures) (flush_settles c.args.parts.now k c.args.owner c.args.ready ready own))) stands.attended;
}
