-- Accounts of the same objects and owners, and owners that go.
use Rattle.std.proofs.Common.{◌≡◌, sym, ◌∙◌, subst}
use Rattle.type_layout.specs.declared.schema.Schema.{Schema}
use Rattle.pss_machine.specs.Kept.{Kept}
use Rattle.storage_home.specs.Kept.{IsKept}
use Rattle.owner_titles.proofs.Follow.{same_follows}
use Rattle.owner_accounts.specs.declared.accounts.Accounts.{Accounts}
use Rattle.owner_accounts.specs.Accounts.{AreAccounts}

-- accounts of what is kept are so of all that is kept which differs in sessions and entries alone
pub accounts_alike : (S : Schema) (a : Accounts) (k j : Kept) → AreAccounts S a k → k.catalog ≡ j.catalog → k.owners ≡ j.owners → k.titles ≡ j.titles → k.next_owner ≡ j.next_owner → k.next ≡ j.next → k.commits ≡ j.commits → k.recent ≡ j.recent → AreAccounts S a j
accounts_alike S a k j are catalog owners titles next_owner next commits recent = record {
  catalog = subst (λ M. IsKept S M a.homes) catalog are.catalog;
  owners = are.owners ∙ owners;
  under = are.under;
  titles = same_follows a.titles k j are.titles (sym titles) (sym owners) (sym next_owner);
  next = are.next ∙ next;
  history = record { commits = are.history.commits ∙ commits; recent = are.history.recent ∙ recent };
}
