-- Accounts after owners came, went and began anew.
use Rattle.std.proofs.Common.{ℕ, ◌≡◌, ⊎_elim, List, Option, Some, None, Bool, true, false, cond, ◌==◌, refl, sym, ap, ◌∙◌, subst}
use Rattle.std.specs.Prelude.{unwrap_or}
use Rattle.std.specs.Option.{option_map}
use Rattle.std.proofs.lemmas.Bool.{eqb-true, eq-eqb}
use Rattle.std.specs.Ordering.{nat_cmp}
use Rattle.std.specs.FinMap.{FinMap, get, insert, remove}
use Rattle.std.specs.FinSet as set
use Rattle.pss_base.specs.declared.owner.OwnerNo.{OwnerNo}
use Rattle.type_layout.specs.declared.schema.Schema.{Schema}
use Rattle.pss_machine.specs.declared.level.Level.{Level}
use Rattle.pss_machine.specs.Maps.{with_at}
use Rattle.pss_machine.specs.Owners.{Owner, Owners, new_owner}
use Rattle.pss_machine.specs.Kept.{Kept}
use Rattle.pss_machine.specs.Moving.{with_owner, without_owner, emptied}
use Rattle.pss_machine.specs.Moving as machine
use Rattle.pss_machine.proofs.Maps.{get_with_at}
use Rattle.recent_table.proofs.Maps.{alike_maps, same_or_apart, remove_here, remove_apart}
use Rattle.storage_home.specs.Kept.{IsKept}
use Rattle.lock_table.specs.Agreement.{locks_of}
use Rattle.tx_session.specs.Owners.{owners_in, Under}
use Rattle.owner_titles.specs.Meaning.{AreTitles, come, gone, changed, unspent}
use Rattle.owner_titles.proofs.Tables.{nat_key}
use Rattle.owner_titles.proofs.Follow.{come_follows, gone_follows, changed_follows}
use Rattle.owner_accounts.specs.declared.accounts.Accounts.{Accounts}
use Rattle.owner_accounts.specs.Accounts.{AreAccounts, IsHistory}

abbrev pub anew : Owner → Owner
anew owner = new_owner owner.level

-- what was changed in a place goes with it
pub remove_changed : {A : Type 0} (m : FinMap nat_cmp A) (n : ℕ) (f : A → A) → remove (with_at m n f) n ≡ remove m n
remove_changed {A} m n f = alike_maps nat_key _ _ (λ q. ⊎_elim (λ e. ap (get (remove (with_at m n f) n)) e ∙ remove_here nat_key (with_at m n f) n ∙ sym (remove_here nat_key m n) ∙ ap (get (remove m n)) (sym e)) (λ ne. remove_apart nat_key (with_at m n f) n q ne ∙ get_with_at m n f q ∙ other q ne (q == n) refl ∙ sym (remove_apart nat_key m n q ne)) (same_or_apart nat_key q n))
  where
    other : (q : ℕ) → (q ≡ n → ⊥) → (b : Bool) → (q == n) ≡ b → cond b (option_map f (get m n)) (get m q) ≡ get m q
    other q ne true e = absurd (ne (eqb-true q n e))
    other q ne false e = refl

-- one that began anew has no lock
pub no_locks : (m n : Owners) (p : OwnerNo) → n ≡ with_at m p.0 anew → locks_of n p ≡ set.empty
no_locks m n p is = ap (λ (o : Owners). locks_of o p) is ∙ ap (λ (o : Option Owner). unwrap_or (option_map (λ owner. owner.locks) o) set.empty) (get_with_at m p.0 anew p.0 ∙ ap (λ b. cond b (option_map anew (get m p.0)) (get m p.0)) (eq-eqb p.0 p.0 refl)) ∙ by (get m p.0)
  where
    by : (o : Option Owner) → unwrap_or (option_map (λ (owner : Owner). owner.locks) (option_map anew o)) set.empty ≡ set.empty
    by None = refl
    by (Some owner) = refl

module _ (S : Schema) (a b : Accounts) (k : Kept) (are : AreAccounts S a k) (homes : b.homes ≡ a.homes) (under : Under S b.owners) (next : b.next ≡ a.next) (history : b.history ≡ a.history) where
  pub comes : (p : OwnerNo) (name : List ℕ) (level : Level) → p.0 ≡ a.titles.next → owners_in b.owners ≡ insert (owners_in a.owners) p.0 (new_owner level) → b.titles ≡ come a.titles name level → AreAccounts S b (with_owner k name level)
  comes p name level number owners titles = record {
    catalog = subst (IsKept S k.catalog) (sym homes) are.catalog;
    owners = owners ∙ (λ i. insert (are.owners i) ((number ∙ sym are.titles.next) i) (new_owner level));
    under = under;
    titles = subst (λ t. AreTitles t (with_owner k name level)) (sym titles) (come_follows a.titles k (with_owner k name level) are.titles name level refl refl refl);
    next = next ∙ are.next;
    history = subst (λ h. IsHistory h (with_owner k name level)) (sym history) (record { commits = are.history.commits; recent = are.history.recent });
  }

  pub leaves : (p : OwnerNo) → owners_in b.owners ≡ remove (with_at (owners_in a.owners) p.0 anew) p.0 → b.titles ≡ gone a.titles p → AreAccounts S b (without_owner k p)
  leaves p owners titles = record {
    catalog = subst (IsKept S k.catalog) (sym homes) are.catalog;
    owners = owners ∙ remove_changed (owners_in a.owners) p.0 anew ∙ ap (λ (o : Owners). remove o p.0) are.owners;
    under = under;
    titles = subst (λ t. AreTitles t (without_owner k p)) (sym titles) (gone_follows a.titles k (without_owner k p) are.titles p refl refl refl);
    next = next ∙ are.next;
    history = subst (λ h. IsHistory h (without_owner k p)) (sym history) (record { commits = are.history.commits; recent = are.history.recent });
  }

  pub empties : (p : OwnerNo) → owners_in b.owners ≡ with_at (owners_in a.owners) p.0 anew → b.titles ≡ changed unspent a.titles p → AreAccounts S b (emptied k p)
  empties p owners titles = record {
    catalog = subst (IsKept S k.catalog) (sym homes) are.catalog;
    owners = owners ∙ ap (λ (o : Owners). with_at o p.0 anew) are.owners;
    under = under;
    titles = subst (λ t. AreTitles t (emptied k p)) (sym titles) (changed_follows a.titles k (emptied k p) are.titles p unspent machine.unspent anew (λ _. refl) (λ _. refl) (λ _. refl) refl refl refl);
    next = next ∙ are.next;
    history = subst (λ h. IsHistory h (emptied k p)) (sym history) (record { commits = are.history.commits; recent = are.history.recent });
  }
