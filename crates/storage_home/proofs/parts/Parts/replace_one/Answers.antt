use Rattle.std.proofs.Common.{◌≡◌, true, false, sym, subst, arith}
use Rattle.pss_catalog.specs.Changes.{over}
use Rattle.storage_home.specs.Kept.{IsKept}
use Rattle.storage_home.specs.Applied.{MayApply}
use Rattle.storage_home.specs.inner.Replacements.{ReplacesOne}
use Rattle.storage_home.proofs.Replacements.{popped, has_one}
use Rattle.storage_home.proofs.parts.Parts.replace_one.Goals as goal

pub replace-requires-clause-may : goal.replace-requires-clause-may
replace-requires-clause-may c = subst (MayApply c.args.self.now) (popped c.args.self.now c.args.changes.items c.pop.new.self.items c.in-Some.change c.requires.one c.in-Some.ensures.items) c.requires.may

pub replace-requires-clause-replaces : goal.replace-requires-clause-replaces
replace-requires-clause-replaces c = subst (ReplacesOne c.args.self.now) (popped c.args.self.now c.args.changes.items c.pop.new.self.items c.in-Some.change c.requires.one c.in-Some.ensures.items) c.requires.one

pub returns-in-Some : goal.returns-in-Some
returns-in-Some c m =
    subst (λ l. (n : MayApply c.args.self.now l) → IsKept n.schema (over n.catalog n.steps) c.replace.new.self) (sym (popped c.args.self.now c.args.changes.items c.pop.new.self.items c.in-Some.change c.requires.one c.in-Some.ensures.items)) c.replace.ensures m

pub returns : goal.returns
returns c m =
    let more = has_one c.args.self.now c.args.changes.items c.requires.one in
    let long = c.args.changes.ok.0 in
    let never : false ≡ true = c.in_default.ensures.variant.1 (omega (arith, more, long)) in
    cc
