use Rattle.std.proofs.Common.{◌≡◌, ◌≤◌, length, refl, sym, ap, ◌∙◌, arith}
use Rattle.std.proofs.lemmas.Bool.{ltb-true, ltb-false}
use Rattle.storage_home.specs.Applied.{AreChanges}
use Rattle.owner_accounts.specs.Commits.{MayPrepare}
use Rattle.owner_accounts.proofs.May.{may_see}
use Rattle.owner_accounts.proofs.Naming.{named, as_many}
use Rattle.owner_accounts.proofs.Committing.{steps, weighed, few, unique_after, bounded_after, reserved_are}
use Rattle.owner_accounts.proofs.accounts.Accounts.prepare.Goals as goal

pub changes-requires : goal.changes-requires
changes-requires c = may_see c.requires.by

pub returns-then-is_too_much-clause-full : goal.returns-then-is_too_much-clause-full
returns-then-is_too_much-clause-full c m = (λ _. ltb-true c.args.most (weighed m) (sym (c.is_too_much.ensures m) ∙ c.if-is_too_much.true), λ _. refl)

pub reserve_for-requires : goal.reserve_for-requires
reserve_for-requires c T N other =
    named c.args.self.now.homes c.args.schema.now c.requires.by.kept.catalog c.requires.by.are.catalog T N other c.in_ok-changes.changes (steps c.requires) (c.in_ok-changes.ensures.wanted (may_see c.requires.by))

pub overflow_cast-as_slice : goal.overflow_cast-as_slice
overflow_cast-as_slice c =
    let same : length c.as_slice.result.now ≡ length (steps c.requires) = ap length c.as_slice.ensures.items ∙ as_many c.args.schema.now c.requires.by.kept.catalog c.in_ok-changes.changes (steps c.requires) (c.in_ok-changes.ensures.wanted (may_see c.requires.by)) in
    omega (arith, same, few c.requires)

wanted : (c : goal.In_ok-told) (m : MayPrepare c.args.schema.now c.args.self.now c.args.owner c.args.most) → AreChanges c.args.schema.now m.by.kept.catalog c.in_ok-changes.changes (steps m)
wanted c m = c.in_ok-changes.ensures.wanted (may_see m.by)

-- the objects would weigh no more than the limit
within : (c : goal.In_ok-told) (m : MayPrepare c.args.schema.now c.args.self.now c.args.owner c.args.most) → weighed m ≤ c.args.most
within c m = ltb-false c.args.most (weighed m) (sym (c.is_too_much.ensures m) ∙ c.if-is_too_much.false)

pub returns-clause-full : goal.returns-clause-full
returns-clause-full c m = (λ e. absurd (cc), λ less. absurd (omega (arith, less, within c m)))

pub returns-clause-prepared : goal.returns-clause-prepared
returns-clause-prepared c m = record {
  owner = m.by.owner;
  there = m.by.there;
  changes = wanted c m;
  homes = c.in_ok-changes.ensures.net (may_see m.by);
  reserved = c.in_ok-reserve_for.ensures.ok;
  unique = unique_after m;
  bounded = bounded_after m (within c m);
  told =
      c.in_ok-told.ensures c.args.schema.now m.by.kept m.by.owner (reserved_are c.args.schema.now c.args.self.now _ m.by.kept m.by.are (c.in_ok-reserve_for.ensures.kept c.args.schema.now m.by.kept.catalog m.by.are.catalog) refl refl refl refl) m.by.there
      (sym (ap length c.as_slice.ensures.items ∙ as_many c.args.schema.now m.by.kept.catalog c.in_ok-changes.changes (steps m) (wanted c m)));
}
