use Rattle.std.proofs.Common.{take, refl}
use Rattle.psdl_members.specs.Bodies.{member_views}
use Rattle.psdl_rules.specs.inner.Scopes.{has_name, behind}
use Rattle.psdl_rules.proofs.Listed.{spelled_step, spelled_end, listed_step, listed_end}
use Rattle.psdl_rules.proofs.listed_members.listed_part.Goals as goal

pub loop-identifier-init : goal.loop-identifier-init
loop-identifier-init c = record { noted = λ earlier are. refl; names = λ earlier are. are }

pub loop-identifier-preserved : goal.loop-identifier-preserved
loop-identifier-preserved c =
    let xs = c.args.identifiers.now in
    let i = c.loop-identifier.identifier-index in
    let x = c.identifier-item.result in
    let before = c.loop-identifier.invariant in
    record {
      noted = λ earlier are.
          listed_step c.args.kind (member_views c.args.members.now) earlier xs i x (has_name c.loop-identifier.names) c.loop-identifier.least c.listed_identifier.new.least _ c.loop-identifier-test.true c.identifier-item.is
          (before.names earlier are) (before.noted earlier are) c.in_ok-listed_identifier.ensures.noted;
      names = λ earlier are.
          spelled_step earlier xs i x (has_name c.loop-identifier.names) (has_name c.listed_identifier.new.names) c.loop-identifier-test.true c.identifier-item.is (before.names earlier are) c.in_ok-listed_identifier.ensures.names;
    }

pub returns-clause-noted : goal.returns-clause-noted
returns-clause-noted c earlier are =
    let xs = c.args.identifiers.now in
    let i = c.loop-identifier.identifier-index in
    listed_end c.args.kind (member_views c.args.members.now) (behind earlier (take i xs)) xs i c.loop-identifier.least _ c.loop-identifier-test.false (c.loop-identifier.invariant.noted earlier are)

pub returns-clause-names : goal.returns-clause-names
returns-clause-names c earlier are = spelled_end earlier c.args.identifiers.now c.loop-identifier.identifier-index (has_name c.loop-identifier.names) c.loop-identifier-test.false (c.loop-identifier.invariant.names earlier are)
