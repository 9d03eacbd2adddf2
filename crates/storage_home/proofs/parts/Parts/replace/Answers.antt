use Rattle.std.proofs.Common.{subst}
use Rattle.std.specs.FinMap.{insert}
use Rattle.storage_home.specs.declared.rows.Stored.{Stored}
use Rattle.storage_home.specs.Kept.{IsKept}
use Rattle.storage_home.specs.inner.Replacements.{MayReplace}
use Rattle.storage_home.proofs.Replacements.{may_replace, replaced_all}
use Rattle.storage_home.proofs.parts.Parts.replace.Goals as goal

pub replace_object-requires : goal.replace_object-requires
replace_object-requires c =
    rw (c.as_slice.ensures, c.as_slice-in-Some.ensures) (may_replace c.args.self.now c.args.change c.in-Some.bytes c.in-Some.is c.requires.may c.requires.replaces)

pub returns-in-Some : goal.returns-in-Some
returns-in-Some c m =
    let s = c.args.change.put.serial in
    let row : Stored = record { home = record { 0 = c.args.change.put.home }; bytes = c.in-Some.bytes } in
    let new = c.replace_object.new.self in
    replaced_all c.args.self.now c.args.change c.in-Some.bytes c.in-Some.is m c.requires.replaces new
    (subst (λ l. (p : MayReplace c.args.self.now s row c.args.change.old_keys l) → IsKept p.schema (insert p.catalog s p.object) new) c.as_slice-in-Some.ensures
    (subst (λ l. (p : MayReplace c.args.self.now s row l c.as_slice-in-Some.result.now) → IsKept p.schema (insert p.catalog s p.object) new) c.as_slice.ensures c.replace_object.ensures))
