use Rattle.std.proofs.Common.{◌≡◌, sym, ◌∙◌, subst}
use Rattle.std.specs.Option.{option_map}
use Rattle.std.specs.FinMap.{get}
use Rattle.type_layout.specs.declared.schema.Schema.{Schema}
use Rattle.pss_catalog.specs.Catalog.{Object}
use Rattle.pss_machine.specs.Owners.{view}
use Rattle.owner_accounts.specs.Steps.{IsOwner}
use Rattle.data_calls.proofs.Seats.{owner_on, some_seen}
use Rattle.data_calls.proofs.seating.record_seen.Goals as goal

pub record_of-requires : goal.record_of-requires
record_of-requires c = subst (λ (S : Schema). IsOwner S c.args.parts.now.accounts c.args.acting.owner) (sym c.schema.ensures) (owner_on c.requires.on)

pub unreachable-requires : goal.unreachable-requires
unreachable-requires c =
    let told = subst (λ (S : Schema). (o : IsOwner S c.args.parts.now.accounts c.args.acting.owner) → c.in_ok-values.field-0 ≡ option_map (λ (x : Object). x.values) (get (view o.kept.catalog o.owner) c.args.pid.serial)) c.schema.ensures c.in_ok-values.ensures in
    some_seen c.requires (sym c.in-None.is ∙ told (owner_on c.requires.on))

pub returns : goal.returns
returns c m =
    let told = subst (λ (S : Schema). (o : IsOwner S c.args.parts.now.accounts c.args.acting.owner) → c.in_ok-values.field-0 ≡ option_map (λ (x : Object). x.values) (get (view o.kept.catalog o.owner) c.args.pid.serial)) c.schema.ensures c.in_ok-values.ensures in
    sym c.in-Some-2.is ∙ told (owner_on m.on)
