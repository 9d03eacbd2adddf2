-- Owners that may come.
use Rattle.std.specs.Prelude.{ℕ, ◌≡◌, ◌<◌, ◌^◌, List, None, false}
use Rattle.type_layout.specs.declared.schema.Schema.{Schema}
use Rattle.pss_machine.specs.declared.level.Level.{Level}
use Rattle.pss_machine.specs.Owners.{is_basic}
use Rattle.pss_machine.specs.Kept.{Kept, transaction_named}
use Rattle.owner_accounts.specs.declared.accounts.Accounts.{Accounts}
use Rattle.owner_accounts.specs.Accounts.{AreAccounts}

-- a number is left
pub record MayCome (a : Accounts) : Type 0 where
  pub schema : Schema
  pub kept : Kept
  pub are : AreAccounts schema a kept
  pub number : kept.next_owner < 2 ^ 32

-- and the name is free for a transaction
pub record MayBegin (a : Accounts) (name : List ℕ) (level : Level) : Type 0 where
  pub come : MayCome a
  pub level_is : is_basic level ≡ false
  pub free : transaction_named come.kept name ≡ None
