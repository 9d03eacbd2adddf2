use Rattle.std.proofs.Common.{◌≡◌, sym, ◌∙◌, subst}
use Rattle.std.specs.Option.{option_map}
use Rattle.std.specs.FinMap.{get}
use Rattle.type_layout.specs.declared.schema.Schema.{Schema}
use Rattle.pss_catalog.specs.Catalog.{Object}
use Rattle.pss_machine.specs.Owners.{view}
use Rattle.pss_machine.proofs.Logic.{none_some}
use Rattle.owner_accounts.specs.Steps.{IsOwner}
use Rattle.data_calls.proofs.Outdating.{owner_here, some_seen, sets_it}
use Rattle.data_calls.proofs.leaving.record_set.Goals as goal

pub record_of-requires : goal.record_of-requires
record_of-requires c = subst (λ (S : Schema). IsOwner S c.args.parts.now.accounts c.args.acting.owner) (sym c.schema.ensures) (owner_here c.requires)

pub unreachable-requires : goal.unreachable-requires
unreachable-requires c =
    let told = subst (λ (S : Schema). (m : IsOwner S c.args.parts.now.accounts c.args.acting.owner) → c.in_ok-values.field-0 ≡ option_map (λ (x : Object). x.values) (get (view m.kept.catalog m.owner) c.args.pid.serial)) c.schema.ensures c.in_ok-values.ensures in
    none_some (sym c.in-None.is ∙ some_seen c.requires _ (told (owner_here c.requires)))

pub returns : goal.returns
returns c m =
    let told = subst (λ (S : Schema). (m : IsOwner S c.args.parts.now.accounts c.args.acting.owner) → c.in_ok-values.field-0 ≡ option_map (λ (x : Object). x.values) (get (view m.kept.catalog m.owner) c.args.pid.serial)) c.schema.ensures c.in_ok-values.ensures in
    sets_it m c.in-Some.values (sym c.in-Some.is ∙ told (owner_here m))
