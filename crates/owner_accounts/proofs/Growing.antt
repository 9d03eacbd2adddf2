-- Each change adds at most what one object weighs.
use Rattle.std.proofs.Common.{ℕ, ◌+◌, ◌*◌, ◌≤◌, List, [], ◌∷◌, length, Option, Some, None, arith}
use Rattle.std.specs.FinMap.{len}
use Rattle.type_layout.specs.declared.schema.Schema.{Schema}
use Rattle.pss_base.specs.declared.owner.OwnerNo.{OwnerNo}
use Rattle.pss_catalog.specs.Catalog.{Object, Catalog, IsGiven, weight, total}
use Rattle.pss_catalog.specs.Changes.{Change, with_state, over}
use Rattle.pss_catalog.proofs.Listing.{total_with, total_without}
use Rattle.pss_machine.specs.Owners.{net}
use Rattle.pss_laws.specs.Storable.{EachChange, MayBecome}
use Rattle.pss_laws.proofs.Storing.{net_few, net_each}
use Rattle.owner_accounts.specs.declared.accounts.Accounts.{Accounts}
use Rattle.owner_accounts.specs.Steps.{IsOwner}
use Rattle.owner_accounts.proofs.Runs.{fine_at, keeping_at}

module _ (S : Schema) (next : ℕ) (K : Catalog) where
  one_adds : (M : Catalog) (s : ℕ) (state : Option Object) → MayBecome S next K s state → total S (with_state M s state) ≤ total S M + 8016
  one_adds M s None may = omega (arith, total_without (weight S) M s)
  one_adds M s (Some object) may = omega (arith, total_with (weight S) M s object, may.0.short)

  all_add : (M : Catalog) (cs : List Change) → EachChange (λ c. IsGiven next c.serial × MayBecome S next K c.serial c.state) cs → total S (over M cs) ≤ total S M + length cs * 8016
  all_add M [] each = omega arith
  all_add M (c ∷ cs) each = omega (arith, one_adds M c.serial c.state each.0.1, all_add (with_state M c.serial c.state) cs each.1)

-- the changes of an owner
pub changes_add : {S : Schema} {a : Accounts} {n : OwnerNo} (by : IsOwner S a n) → total S (over by.kept.catalog (net by.kept.catalog by.owner)) ≤ total S by.kept.catalog + len by.owner.changes * 8016
changes_add {S = S} {n = n} by =
    let fine = fine_at S by.limits by.kept by.reached in
    let each = net_each S by.kept.next by.kept.catalog by.owner fine.catalog (fine.views n.0 by.owner by.there) ((keeping_at S by.limits by.kept by.reached).homes n.0 by.owner by.there) in
    let few = net_few S by.kept.next by.kept.catalog by.owner (len by.owner.changes) (omega arith) in
    omega (arith, all_add S by.kept.next by.kept.catalog by.kept.catalog (net by.kept.catalog by.owner) each, few)
