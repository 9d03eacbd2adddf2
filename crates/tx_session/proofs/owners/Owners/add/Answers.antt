use Rattle.std.proofs.Common.{◌≡◌, None, OnOk, sym, subst}
use Rattle.std.specs.FinMap.{get, insert}
use Rattle.pss_machine.specs.Owners.{new_owner}
use Rattle.tx_session.specs.Owners.{owners_of, owners_in, Under}
use Rattle.tx_session.proofs.Coming.{came, each_under, each_counted, locks_there}
use Rattle.tx_session.proofs.owners.Owners.add.Goals as goal

pub invariant_of-self : goal.invariant_of-self
invariant_of-self c = record {
  locks = locks_there c.self.inside.parts.locks c.self.inside.parts.table c.add.new.table c.args.owner c.args.level c.begun-new.result c.begun-new.ensures c.add.result c.add.ensures.ok c.add.ensures.err c.self.invariant.locks;
  counted = each_counted c.self.inside.parts.locks c.self.inside.parts.table c.add.new.table c.args.owner c.args.level c.begun-new.result c.begun-new.ensures c.add.result c.add.ensures.ok c.add.ensures.err c.self.invariant.counted;
}

pub returns-clause-ok : goal.returns-clause-ok
returns-clause-ok c =
    subst (λ parts. OnOk c.add.result (owners_of c.self.inside.parts.locks c.add.new.table ≡ insert (owners_in parts) c.args.owner.0 (new_owner c.args.level))) c.self.view_is
    (came c.self.inside.parts.locks c.self.inside.parts.table c.add.new.table c.args.owner c.args.level c.begun-new.result c.begun-new.ensures c.add.result c.add.ensures.ok c.self.invariant.locks
    (subst (λ parts. get (owners_in parts) c.args.owner.0 ≡ None) (sym c.self.view_is) c.requires))

pub returns-clause-under : goal.returns-clause-under
returns-clause-under c S under =
    each_under c.self.inside.parts.locks c.self.inside.parts.table c.add.new.table c.args.owner c.args.level c.begun-new.result c.begun-new.ensures c.add.result c.add.ensures.ok c.add.ensures.err S (subst (Under S) (sym c.self.view_is) under)
