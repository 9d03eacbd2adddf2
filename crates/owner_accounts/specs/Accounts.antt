-- What accounts stand for of what the machine keeps.
use Rattle.std.specs.Prelude.{◌≡◌}
use Rattle.type_layout.specs.declared.schema.Schema.{Schema}
use Rattle.pss_machine.specs.Kept.{Kept}
use Rattle.storage_home.specs.Kept.{IsKept}
use Rattle.tx_session.specs.Owners.{owners_in, Under}
use Rattle.owner_titles.specs.Meaning.{AreTitles}
use Rattle.owner_titles.specs.History.{History}
use Rattle.owner_accounts.specs.declared.accounts.Accounts.{Accounts}

-- the commits and their texts are the machine's
pub record IsHistory (h : History) (k : Kept) : Type 0 where
  pub commits : h.commits ≡ k.commits
  pub recent : h.recent ≡ k.recent

-- everything that the machine keeps of objects and owners
pub record AreAccounts (S : Schema) (a : Accounts) (k : Kept) : Type 0 where
  pub catalog : IsKept S k.catalog a.homes
  pub owners : owners_in a.owners ≡ k.owners
  pub under : Under S a.owners
  pub titles : AreTitles a.titles k
  pub next : a.next ≡ k.next
  pub history : IsHistory a.history k
