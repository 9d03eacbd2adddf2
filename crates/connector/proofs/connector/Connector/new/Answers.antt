use Rattle.std.proofs.Common.{refl, sym, subst}
use Rattle.type_layout.specs.declared.schema.Schema.{Schema}
use Rattle.type_layout.specs.Sound.{IsSoundSchema}
use Rattle.pss_catalog.specs.Catalog.{IsGood}
use Rattle.pss_machine.specs.Kept.{first_kept}
use Rattle.owner_accounts.specs.Accounts.{AreAccounts}
use Rattle.connector.proofs.Keepings.{first_keeps}
use Rattle.connector.proofs.connector.Connector.new.Goals as goal

pub returns-clause-kept : goal.returns-clause-kept
returns-clause-kept c M has =
    let next = c.args.mounted.next in
    first_keeps _ M next (subst IsSoundSchema (sym c.in_ok-schema.ensures) c.requires.sound) c.requires.limits
    (subst (λ (S : Schema). IsGood S M next) (sym c.in_ok-schema.ensures) has.good)
    (record {
      accounts = subst (λ (S : Schema). AreAccounts S c.in_ok-accounts.accounts (first_kept M next)) (sym c.in_ok-schema.ensures) (c.in_ok-accounts.ensures c.args.schema M has.kept);
      attended = c.new-3.ensures M next;
    })
    refl has.next_
