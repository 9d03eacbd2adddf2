-- What stands behind a commit.
use Rattle.std.proofs.Common.{◌≡◌, Option, Some, refl, sym, ap, ◌∙◌}
use Rattle.std.specs.FinMap.{get}
use Rattle.pss_base.specs.declared.owner.OwnerNo.{OwnerNo}
use Rattle.type_layout.specs.declared.schema.Schema.{Schema}
use Rattle.type_layout.specs.Schemas.{given}
use Rattle.pss_machine.specs.Owners.{Owner, net, is_basic}
use Rattle.pss_machine.specs.Kept.{Kept}
use Rattle.pss_machine.specs.Effects.{Commits}
use Rattle.pss_machine.specs.Moving.{moved, settled, with_commit, title_of, without_owner}
use Rattle.pss_machine.proofs.Logic.{same_some}
use Rattle.owner_accounts.specs.declared.accounts.Accounts.{Accounts}
use Rattle.owner_accounts.specs.Accounts.{AreAccounts}
use Rattle.owner_accounts.specs.Steps.{IsThere}
use Rattle.pss_copies.specs.Ruled.{AreOwned}
use Rattle.pss_copies.specs.Settling.{MayFlush}
use Rattle.pss_copies.specs.Settling as copies
use Rattle.connector_parts.specs.declared.parts.Parts.{Parts}
use Rattle.connector_parts.proofs.Goings.{accounts_alike}
use Rattle.commit_calls.specs.declared.ready.Ready.{Ready}
use Rattle.commit_calls.specs.Ready.{pids_in, own_in, IsReady}
use Rattle.commit_calls.specs.Commits.{MayCommit}
use Rattle.commit_calls.proofs.Outcomes.{acts_of}

module _ (c : Parts) (k : Kept) (n : OwnerNo) (ready : Ready) (is : IsReady c k n ready) where
  pub commit_settles : (may : MayCommit k n) → copies.MayCommit k n (pids_in ready.pids)
  commit_settles may =
      let acts = acts_of k n may.transaction in
      record {
        settles = record { owner = is.owner; there = is.there; pids_are = is.pids; own = may.own };
        transaction = ap (λ (o : Owner). is_basic o.level) (same_some (sym is.there ∙ acts.there)) ∙ acts.level;
        closed = may.closed;
      }

  pub flush_settles : AreOwned k.owners k.sessions k.next_owner → MayFlush k n (pids_in ready.pids) (own_in ready.pids)
  flush_settles own = record { settles = record { owner = is.owner; there = is.there; pids_are = is.pids; own = own }; covered = is.own }

-- accounts whose owner has gone are those of the transaction that has gone
pub gone_alike : (S : Schema) (a : Accounts) (k : Kept) (n : OwnerNo) → AreAccounts S a (without_owner (settled k n) n) → AreAccounts S a (moved k (Commits n))
gone_alike S a k n are = accounts_alike S a (without_owner (settled k n) n) (moved k (Commits n)) are refl refl refl refl refl refl refl

-- an owner that commits is still there
pub still_there : (S : Schema) (a : Accounts) (k : Kept) (n : OwnerNo) (owner : Owner) → get k.owners n.0 ≡ Some owner → AreAccounts S a (settled k n) → IsThere S a n
still_there S a k n owner there are = record { kept = settled k n; are = are; owner = owner; there = ap (λ (j : Kept). get j.owners n.0) is ∙ there }
  where
    is : settled k n ≡ with_commit k n (title_of k n) owner.level (net k.catalog owner)
    is = ap (λ (o : Option Owner). given o k (λ owner. with_commit k n (title_of k n) owner.level (net k.catalog owner))) there
