-- Commits that are made ready, and made.
use Rattle.std.proofs.Common.{ℕ, ◌≡◌, ◌+◌, ◌≤◌, ◌<◌, ◌-◌, ◌^◌, List, [], ◌∷◌, ◌++◌, length, Option, Some, None, Bool, true, false, if◌then◌else◌, refl, sym, ap, ◌∙◌, subst, arith}
use Rattle.std.specs.Option.{option_map}
use Rattle.pss_base.specs.declared.owner.OwnerNo.{OwnerNo}
use Rattle.type_layout.specs.declared.schema.Schema.{Schema}
use Rattle.type_layout.specs.Schemas.{given}
use Rattle.pss_catalog.specs.Catalog.{IsUnique, total}
use Rattle.pss_catalog.specs.Changes.{Change as Step, over}
use Rattle.pss_machine.specs.Owners.{Owner, net}
use Rattle.pss_machine.specs.Kept.{Kept}
use Rattle.pss_machine.specs.Moving.{joins, commit_text, title_of, last_64, with_commit, settled}
use Rattle.pss_laws.proofs.Nets.{over_net}
use Rattle.pss_laws.proofs.Storing.{net_few}
use Rattle.storage_home.specs.Kept.{IsKept, most}
use Rattle.storage_home.specs.Applied.{MayApply}
use Rattle.tx_session.specs.Owners.{owners_in, Under}
use Rattle.owner_titles.specs.Meaning.{AreTitles}
use Rattle.owner_titles.specs.History.{told}
use Rattle.owner_titles.specs.declared.told.Told.{Told}
use Rattle.owner_titles.specs.Telling.{told_text}
use Rattle.owner_titles.proofs.Follow.{same_follows}
use Rattle.owner_accounts.specs.declared.accounts.Accounts.{Accounts}
use Rattle.owner_accounts.specs.declared.commits.Commit.{Commit}
use Rattle.owner_accounts.specs.Accounts.{AreAccounts, IsHistory}
use Rattle.owner_accounts.specs.Commits.{MayPrepare, IsPrepared}
use Rattle.owner_accounts.proofs.Runs.{keeping_at}
use Rattle.owner_accounts.proofs.May.{unique_at}

module _ {S : Schema} {a : Accounts} {n : OwnerNo} {limit : ℕ} (m : MayPrepare S a n limit) where
  abbrev pub steps : List Step
  steps = net m.by.kept.catalog m.by.owner

  -- what the objects would weigh
  abbrev pub weighed : ℕ
  weighed = total S (over m.by.kept.catalog steps)

  pub few : length steps < 2 ^ 32 - 1
  few = omega (arith, net_few S m.by.kept.next m.by.kept.catalog m.by.owner m.by.limits.changes ((keeping_at S m.by.limits m.by.kept m.by.reached).few n.0 m.by.owner m.by.there), m.by.reached.changes)

  pub unique_after : IsUnique S (over m.by.kept.catalog steps)
  unique_after = subst (IsUnique S) (sym (over_net m.by.kept.catalog m.by.owner)) (unique_at m.by)

  pub bounded_after : weighed ≤ limit → weighed ≤ most
  bounded_after within = omega (arith, within, m.limit_is, m.by.reached.total)

-- the homes have room for more, and all else is as it was
pub reserved_are : (S : Schema) (a b : Accounts) (k : Kept) → AreAccounts S a k → IsKept S k.catalog b.homes → b.owners ≡ a.owners → b.titles ≡ a.titles → b.next ≡ a.next → b.history ≡ a.history → AreAccounts S b k
reserved_are S a b k are kept owners titles next history = record {
  catalog = kept;
  owners = ap owners_in owners ∙ are.owners;
  under = subst (Under S) (sym owners) are.under;
  titles = subst (λ t. AreTitles t k) (sym titles) are.titles;
  next = next ∙ are.next;
  history = subst (λ h. IsHistory h k) (sym history) are.history;
}

module _ (S : Schema) (a b : Accounts) (k : Kept) (n : OwnerNo) (commit : Commit) (are : AreAccounts S a k) (p : IsPrepared S a k n commit) where
  abbrev changes : List Step
  changes = net k.catalog p.owner

  abbrev text : List ℕ
  text = commit_text (title_of k n) p.owner.level changes

  abbrev after : Kept
  after = with_commit k n (title_of k n) p.owner.level changes

  settled_is : settled k n ≡ after
  settled_is = ap (λ (o : Option Owner). given o k (λ owner. with_commit k n (title_of k n) owner.level (net k.catalog owner))) p.there

  abbrev pub may_apply : MayApply a.homes commit.changes
  may_apply = record { schema = S; catalog = k.catalog; steps = changes; kept = are.catalog; are = p.changes; unique = p.unique; bounded = p.bounded; reserved = p.reserved }

  module _ (homes : IsKept S (over k.catalog changes) b.homes) (owners : b.owners ≡ a.owners) (titles : b.titles ≡ a.titles) (next : b.next ≡ a.next) where
    made : IsHistory b.history after → AreAccounts S b (settled k n)
    made history =
        subst (AreAccounts S b) (sym settled_is)
        (record {
          catalog = homes;
          owners = ap owners_in owners ∙ are.owners;
          under = subst (Under S) (sym owners) are.under;
          titles = subst (λ t. AreTitles t after) (sym titles) (same_follows a.titles k after are.titles refl refl refl);
          next = next ∙ are.next;
          history = history;
        })

    is_some : (t : Bool) (x y : List ℕ) → (if t then Some x else None) ≡ Some y → (t ≡ true) × (x ≡ y)
    is_some true x y e = (refl, cc)
    is_some false x y e = absurd (cc)

    is_none : (t : Bool) (x : List ℕ) → (if t then Some x else None) ≡ None → t ≡ false
    is_none true x e = absurd (cc)
    is_none false x e = refl

    -- the history tells of it
    pub made_told : (one : Told) → commit.told ≡ Some one → b.history ≡ told a.history (told_text one) → AreAccounts S b (settled k n)
    made_told one is history =
        let joined = is_some (joins p.owner.level changes) text (told_text one) (sym p.told ∙ ap (option_map told_text) is) in
        made
        (subst (λ h. IsHistory h after) (sym history)
        (record {
          commits = ap (λ c. c + 1) are.history.commits ∙ sym (ap (λ (t : Bool). if t then k.commits + 1 else k.commits) joined.0);
          recent = (λ i. last_64 (are.history.recent i ++ sym joined.1 i ∷ [])) ∙ sym (ap (λ (t : Bool). if t then last_64 (k.recent ++ text ∷ []) else k.recent) joined.0);
        }))

    -- it does not
    pub made_silent : commit.told ≡ None → b.history ≡ a.history → AreAccounts S b (settled k n)
    made_silent is history =
        let not = is_none (joins p.owner.level changes) text (sym p.told ∙ ap (option_map told_text) is) in
        made
        (subst (λ h. IsHistory h after) (sym history)
        (record {
          commits = are.history.commits ∙ sym (ap (λ (t : Bool). if t then k.commits + 1 else k.commits) not);
          recent = are.history.recent ∙ sym (ap (λ (t : Bool). if t then last_64 (k.recent ++ text ∷ []) else k.recent) not);
        }))
