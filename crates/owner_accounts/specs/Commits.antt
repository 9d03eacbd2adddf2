-- Commits that are made ready.
use Rattle.std.specs.Prelude.{ℕ, ◌≡◌, ◌≤◌, ◌<◌, ◌-◌, ◌^◌, List, Option, Some, None, if◌then◌else◌}
use Rattle.std.specs.Option.{option_map}
use Rattle.std.specs.FinMap.{get}
use Rattle.pss_base.specs.declared.owner.OwnerNo.{OwnerNo}
use Rattle.type_layout.specs.declared.schema.Schema.{Schema}
use Rattle.pss_catalog.specs.Catalog.{IsUnique, total}
use Rattle.pss_catalog.specs.Changes.{over}
use Rattle.pss_machine.specs.Owners.{Owner, net}
use Rattle.pss_machine.specs.Kept.{Kept}
use Rattle.pss_machine.specs.Moving.{joins, commit_text, title_of}
use Rattle.storage_home.specs.Kept.{most}
use Rattle.storage_home.specs.Applied.{AreChanges, AreReserved}
use Rattle.owner_view.specs.Net.{AreNet}
use Rattle.owner_titles.specs.Telling.{told_text}
use Rattle.owner_accounts.specs.declared.accounts.Accounts.{Accounts}
use Rattle.owner_accounts.specs.declared.commits.Commit.{Commit}
use Rattle.owner_accounts.specs.Accounts.{AreAccounts}
use Rattle.owner_accounts.specs.Steps.{IsOwner}

-- an owner that is there, under this limit
pub record MayPrepare (S : Schema) (a : Accounts) (n : OwnerNo) (limit : ℕ) : Type 0 where
  pub by : IsOwner S a n
  pub limit_is : by.limits.total ≡ limit

-- the text that the history will tell of it, where it will
abbrev pub text_of : Kept → OwnerNo → Owner → Option (List ℕ)
text_of k n owner = if joins owner.level (net k.catalog owner) then Some (commit_text (title_of k n) owner.level (net k.catalog owner)) else None

-- what the owner changed is made ready: its net changes, for which there is room, and what is told
pub record IsPrepared (S : Schema) (a : Accounts) (k : Kept) (n : OwnerNo) (commit : Commit) : Type 0 where
  pub owner : Owner
  pub there : get k.owners n.0 ≡ Some owner
  pub changes : AreChanges S k.catalog commit.changes (net k.catalog owner)
  -- each names the home of its object, also where that goes
  pub homes : AreNet S k.catalog (net k.catalog owner) commit.changes
  pub reserved : AreReserved a.homes commit.changes
  pub unique : IsUnique S (over k.catalog (net k.catalog owner))
  pub bounded : total S (over k.catalog (net k.catalog owner)) ≤ most
  pub told : option_map told_text commit.told ≡ text_of k n owner

-- some machine keeps what these accounts do, and the commit is made ready for it
pub record AnyPrepared (a : Accounts) (commit : Commit) : Type 0 where
  pub schema : Schema
  pub kept : Kept
  pub owner : OwnerNo
  pub are : AreAccounts schema a kept
  pub is : IsPrepared schema a kept owner commit
  pub commits : kept.commits < 2 ^ 64 - 1
