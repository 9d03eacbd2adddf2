use Rattle.std.proofs.Common.{◌≡◌, List, sym, subst}
use Rattle.type_layout.specs.declared.schema.Schema.{Schema}
use Rattle.pss_catalog.specs.Catalog.{Catalog}
use Rattle.pss_catalog.specs.Changes.{over}
use Rattle.storage_home.specs.declared.change.Change.{Change}
use Rattle.storage_home.specs.declared.parts.Parts.{Parts}
use Rattle.storage_home.specs.Changes.{Rises}
use Rattle.storage_home.specs.Indexes.{KeepsKeysReserved}
use Rattle.storage_home.specs.Kept.{IsKept}
use Rattle.storage_home.specs.Applied.{AllStay, AreChanges, AreReserved, MayApply}
use Rattle.storage_home.specs.inner.Replacements.{ReplacesOne}
use Rattle.storage_home.specs.inner.Steps.{bare, MayTakeAll, MayPutAll}
use Rattle.storage_home.proofs.Stepping.{may_take_all, may_put_all}
use Rattle.storage_home.proofs.homes.Homes.apply_reserved.Goals as goal

-- what may be done to the value by the changes may be done to its parts by the list of them
abbrev within : (value parts : Parts) (changes list : List Change) → parts ≡ value → list ≡ changes → MayApply value changes → MayApply parts list
within value parts changes list is same m = record {
  schema = m.schema;
  catalog = m.catalog;
  steps = m.steps;
  kept = subst (IsKept m.schema m.catalog) (sym is) m.kept;
  are = subst (λ l. AreChanges m.schema m.catalog l m.steps) (sym same) m.are;
  unique = m.unique;
  bounded = m.bounded;
  reserved = subst (λ p. AreReserved p list) (sym is) (subst (AreReserved value) (sym same) m.reserved);
}

-- all is taken out, and then put
in_two : (parts middle after : Parts) (list : List Change) (rise : Rises 0 list) (m : MayApply parts list) → ((S : Schema) (F : Catalog) → MayTakeAll S F parts list → IsKept S F middle) → AllStay parts middle → KeepsKeysReserved parts.keys middle.keys
    → ((S : Schema) (F : Catalog) → MayPutAll S F middle list → IsKept S F after) → IsKept m.schema (over m.catalog m.steps) after
in_two parts middle after list rise m taken stay keys put =
    put m.schema (over m.catalog m.steps) (may_put_all parts list rise m middle (taken m.schema (bare m.catalog m.steps) (may_take_all parts list rise m)) stay keys)

pub replace_one-requires-clause-may : goal.replace_one-requires-clause-may
replace_one-requires-clause-may c = within c.args.self.now c.self.inside.parts c.args.changes c.into_vec-changes.result.items c.self.view_is c.into_vec-changes.ensures.items c.requires

pub replace_one-requires-clause-one : goal.replace_one-requires-clause-one
replace_one-requires-clause-one c = subst (ReplacesOne c.self.inside.parts) c.deref.ensures.value (c.replaces_one.ensures c.if-replaces_one.true)

pub invariant_of-self : goal.invariant_of-self
invariant_of-self c =
    (c.requires.schema, over c.requires.catalog c.requires.steps, c.replace_one.ensures (within c.args.self.now c.self.inside.parts c.args.changes c.into_vec-changes.result.items c.self.view_is c.into_vec-changes.ensures.items c.requires))

pub returns-then-replaces_one : goal.returns-then-replaces_one
returns-then-replaces_one c m = c.replace_one.ensures (within c.args.self.now c.self.inside.parts c.args.changes c.into_vec-changes.result.items c.self.view_is c.into_vec-changes.ensures.items m)

pub take_changed-requires : goal.take_changed-requires
take_changed-requires c =
    let m = within c.args.self.now c.self.inside.parts c.args.changes c.into_vec-changes.result.items c.self.view_is c.into_vec-changes.ensures.items c.requires in
    let rise = subst (Rises 0) (sym c.into_vec-changes.ensures.items) c.into_vec-changes.ensures.rising in
    (m.schema, bare m.catalog m.steps, subst (MayTakeAll m.schema (bare m.catalog m.steps) c.self.inside.parts) (sym c.deref-else-replaces_one.ensures.value) (may_take_all c.self.inside.parts c.into_vec-changes.result.items rise m))

pub put_changed-requires : goal.put_changed-requires
put_changed-requires c =
    let m = within c.args.self.now c.self.inside.parts c.args.changes c.into_vec-changes.result.items c.self.view_is c.into_vec-changes.ensures.items c.requires in
    let rise = subst (Rises 0) (sym c.into_vec-changes.ensures.items) c.into_vec-changes.ensures.rising in
    let kept = c.take_changed.ensures.kept m.schema (bare m.catalog m.steps)
    (subst (MayTakeAll m.schema (bare m.catalog m.steps) c.self.inside.parts) (sym c.deref-else-replaces_one.ensures.value) (may_take_all c.self.inside.parts c.into_vec-changes.result.items rise m)) in
    (m.schema, over m.catalog m.steps, may_put_all c.self.inside.parts c.into_vec-changes.result.items rise m c.take_changed.new.self kept c.take_changed.ensures.reserved c.take_changed.ensures.keys)

pub invariant_of-self-else-replaces_one : goal.invariant_of-self-else-replaces_one
invariant_of-self-else-replaces_one c =
    let m = within c.args.self.now c.self.inside.parts c.args.changes c.into_vec-changes.result.items c.self.view_is c.into_vec-changes.ensures.items c.requires in
    let rise = subst (Rises 0) (sym c.into_vec-changes.ensures.items) c.into_vec-changes.ensures.rising in
    let taken = subst (λ l. (S : Schema) (F : Catalog) → MayTakeAll S F c.self.inside.parts l → IsKept S F c.take_changed.new.self) c.deref-else-replaces_one.ensures.value c.take_changed.ensures.kept in (
      m.schema,
      over m.catalog m.steps,
      in_two c.self.inside.parts c.take_changed.new.self c.put_changed.new.self c.into_vec-changes.result.items rise m taken c.take_changed.ensures.reserved c.take_changed.ensures.keys c.put_changed.ensures,
    )

pub returns-else-replaces_one : goal.returns-else-replaces_one
returns-else-replaces_one c m =
    let rise = subst (Rises 0) (sym c.into_vec-changes.ensures.items) c.into_vec-changes.ensures.rising in
    let taken = subst (λ l. (S : Schema) (F : Catalog) → MayTakeAll S F c.self.inside.parts l → IsKept S F c.take_changed.new.self) c.deref-else-replaces_one.ensures.value c.take_changed.ensures.kept in
    in_two c.self.inside.parts c.take_changed.new.self c.put_changed.new.self c.into_vec-changes.result.items rise
    (within c.args.self.now c.self.inside.parts c.args.changes c.into_vec-changes.result.items c.self.view_is c.into_vec-changes.ensures.items m) taken c.take_changed.ensures.reserved c.take_changed.ensures.keys c.put_changed.ensures
