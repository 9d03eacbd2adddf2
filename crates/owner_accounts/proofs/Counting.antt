-- What is counted and marked changes neither objects nor owners.
use Rattle.std.proofs.Common.{◌≡◌, ◌||◌, [], Bool, true, false, refl, sym, ap, ◌∙◌, subst}
use Rattle.std.specs.FinSet as set
use Rattle.pss_base.specs.declared.owner.OwnerNo.{OwnerNo}
use Rattle.pss_base.specs.declared.session.SessionNo.{SessionNo}
use Rattle.type_layout.specs.declared.schema.Schema.{Schema}
use Rattle.pss_machine.specs.Operations.{PlainOp, PlainAnswer, Ask, Question}
use Rattle.pss_machine.specs.Needs.{Locks}
use Rattle.pss_machine.specs.Owners.{Owner, stepped}
use Rattle.pss_machine.specs.Kept.{Kept}
use Rattle.pss_machine.specs.Asking.{Asked}
use Rattle.pss_machine.specs.Stepping.{step_on_copy}
use Rattle.pss_machine.specs.Moving.{after_step, ended}
use Rattle.pss_machine.specs.Moving as machine
use Rattle.pss_machine.proofs.NeedSets.{need_total, need_apart}
use Rattle.pss_machine.proofs.Maps.{with_at_same}
use Rattle.owner_titles.specs.Meaning.{Meaning, AreTitles, changed, one_more, marked}
use Rattle.owner_titles.proofs.Follow.{changed_follows}
use Rattle.owner_accounts.specs.declared.accounts.Accounts.{Accounts}
use Rattle.owner_accounts.specs.Accounts.{AreAccounts}

-- no lock more
none_more : (locks : Locks) → set.union locks (set.from_list []) ≡ locks
none_more locks = set.same_set need_total need_apart _ _ (λ q. set.contains-union need_total locks (set.from_list []) q ∙ ap (λ b. set.contains locks q || b) (set.contains-from_list need_total [] q) ∙ by (set.contains locks q))
  where
    by : (b : Bool) → (b || false) ≡ b
    by true = refl
    by false = refl

module _ (S : Schema) (a : Accounts) (k : Kept) (are : AreAccounts S a k) (n : OwnerNo) where
  pub marks : (failed : Bool) (s : SessionNo) (titles : Meaning) → titles ≡ changed (marked failed) a.titles n → AreAccounts S (record { homes = a.homes; owners = a.owners; titles = titles; next = a.next; history = a.history }) (ended k s n failed)
  marks failed s titles is = record {
    catalog = are.catalog;
    owners = are.owners;
    under = are.under;
    titles = subst (λ t. AreTitles t (ended k s n failed)) (sym is)
        (changed_follows a.titles k (ended k s n failed) are.titles n (marked failed) (machine.marked failed) (λ x. x) (λ _. refl) (λ _. refl) (λ _. refl) refl (sym (with_at_same k.owners n.0 (λ x. x) (λ _ _. refl))) refl);
    next = are.next;
    history = record { commits = are.history.commits; recent = are.history.recent };
  }

same_owner : (op : PlainOp) (answer : PlainAnswer) (x : Owner) → stepped (step_on_copy op answer) x ≡ x
same_owner op answer x = λ i. record { level = x.level; locks = none_more x.locks i; changes = x.changes }

-- a question that a copy answers
pub counts : (S : Schema) (a : Accounts) (k : Kept) → AreAccounts S a k → (n : OwnerNo) (question : Question) (answer : PlainAnswer) (s : SessionNo) (asked : Asked) (titles : Meaning) → titles ≡ changed one_more a.titles n
    → AreAccounts S (record { homes = a.homes; owners = a.owners; titles = titles; next = a.next; history = a.history }) (after_step k n s (step_on_copy (Ask question) answer) asked)
counts S a k are n question answer s asked titles is = record {
  catalog = are.catalog;
  owners = are.owners ∙ sym (with_at_same k.owners n.0 (stepped (step_on_copy (Ask question) answer)) (λ x _. same_owner (Ask question) answer x));
  under = are.under;
  titles = subst (λ t. AreTitles t (after_step k n s (step_on_copy (Ask question) answer) asked)) (sym is)
      (changed_follows a.titles k (after_step k n s (step_on_copy (Ask question) answer) asked) are.titles n one_more machine.one_more (stepped (step_on_copy (Ask question) answer)) (λ _. refl) (λ _. refl) (λ _. refl) refl refl refl);
  next = are.next;
  history = record { commits = are.history.commits; recent = are.history.recent };
}
