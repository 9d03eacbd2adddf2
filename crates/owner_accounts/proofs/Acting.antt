-- Steps that were taken, or held up.
use Rattle.std.proofs.Common.{◌≡◌, ◌↔◌, ◌<◌, ◌-◌, ◌^◌, Option, Some, None, IsSome, refl, sym, ap, ◌∙◌, subst}
use Rattle.std.specs.Prelude.{IsSomeAnd}
use Rattle.std.specs.Option.{option_map}
use Rattle.std.specs.FinMap.{get}
use Rattle.pss_base.specs.declared.owner.OwnerNo.{OwnerNo}
use Rattle.pss_base.specs.declared.session.SessionNo.{SessionNo}
use Rattle.type_layout.specs.declared.schema.Schema.{Schema}
use Rattle.pss_machine.specs.declared.answer.Answer.{Answer}
use Rattle.pss_machine.specs.declared.answer.Answer.TheVariants as answer
use Rattle.pss_machine.specs.Maps.{with_at}
use Rattle.pss_machine.specs.Operations.{PlainOp}
use Rattle.pss_machine.specs.Owners.{Owner, Owners, blocker, stepped}
use Rattle.pss_machine.specs.Asking.{Asked}
use Rattle.pss_machine.specs.Moving.{after_step}
use Rattle.pss_machine.specs.Moving as machine
use Rattle.storage_home.specs.Kept.{IsKept}
use Rattle.tx_session.specs.Owners.{owners_in, Under}
use Rattle.owner_titles.specs.declared.called.Called.{Called}
use Rattle.owner_titles.specs.Meaning.{AreTitles, changed, one_more, title_of}
use Rattle.owner_titles.proofs.Follow.{changed_follows}
use Rattle.owner_accounts.specs.declared.accounts.Accounts.{Accounts}
use Rattle.owner_accounts.specs.Accounts.{AreAccounts, IsHistory}
use Rattle.owner_accounts.specs.Steps.{MayStep, HasSerial, busy_by, step_in}

pub no_some : {A B : Type 0} {x : A} → None ≡ Some x → B
no_some e = absurd (cc)

module _ {S : Schema} {a : Accounts} {n : OwnerNo} {op : PlainOp} (m : MayStep S a n op) where
  abbrev holder : Option OwnerNo
  holder = blocker m.by.kept.owners n (step_in m).needs

  module _ (told : Answer) (busy : (k : OwnerNo) → (told ≡ answer.Busy k) ↔ (blocker (owners_in a.owners) n (step_in m).needs ≡ Some k)) where
    pub busy_is : (k : OwnerNo) → (told ≡ answer.Busy k) ↔ (holder ≡ Some k)
    busy_is k = subst (λ (o : Owners). (told ≡ answer.Busy k) ↔ (blocker o n (step_in m).needs ≡ Some k)) m.by.are.owners (busy k)

    -- an answer that names an owner was held up by it
    pub held : (k : OwnerNo) → busy_by told ≡ Some k → holder ≡ Some k
    held k is = (busy_is k).0 (names told is)
      where
        names : (x : Answer) → busy_by x ≡ Some k → x ≡ answer.Busy k
        names answer.Done e = no_some e
        names (answer.Found p) e = no_some e
        names (answer.Truth b) e = no_some e
        names (answer.Val v) e = no_some e
        names (answer.Count c) e = no_some e
        names (answer.List c ps) e = no_some e
        names answer.NotFound e = no_some e
        names (answer.Gone p) e = no_some e
        names answer.Nil e = no_some e
        names (answer.Duplicate key) e = no_some e
        names answer.TooLarge e = no_some e
        names (answer.Busy j) e = let same : j ≡ k = cc in ap answer.Busy same

    -- any other answer was not held up
    pub free : busy_by told ≡ None → holder ≡ None
    free is = by holder refl
      where
        by : (o : Option OwnerNo) → holder ≡ o → o ≡ None
        by None e = refl
        by (Some k) e = no_some (sym is ∙ ap busy_by ((busy_is k).1 e))

  -- the machine's blocker, by the owners that are kept
  pub free_here : holder ≡ None → blocker (owners_in a.owners) n (step_in m).needs ≡ None
  free_here none = ap (λ (o : Owners). blocker o n (step_in m).needs) m.by.are.owners ∙ none

  pub held_here : IsSome holder → IsSome (blocker (owners_in a.owners) n (step_in m).needs)
  held_here some = subst IsSome (sym (ap (λ (o : Owners). blocker o n (step_in m).needs) m.by.are.owners)) some

  -- a serial is left
  pub serial_left : HasSerial a.next op
  serial_left = subst (λ next. HasSerial next op) (sym m.by.are.next) m.serials

  -- another command can be counted
  pub may_count : IsSomeAnd (get a.titles.called n.0) (λ c. c.commands < 2 ^ 32 - 1)
  may_count = by (get a.titles.called n.0) refl
    where
      few : (c : Called) → get a.titles.called n.0 ≡ Some c → c.commands < 2 ^ 32 - 1
      few c at = m.commands (title_of c) (m.by.are.titles.titles n.0 ∙ ap (option_map title_of) at)

      by : (o : Option Called) → get a.titles.called n.0 ≡ o → IsSomeAnd o (λ c. c.commands < 2 ^ 32 - 1)
      by None at = no_some (sym (sym (ap (option_map (λ (x : Owner). x.level)) m.by.there) ∙ m.by.are.titles.levels n.0 ∙ ap (option_map (λ (c : Called). c.level)) at))
      by (Some c) at = few c at

  -- where nobody was held up, the accounts are as after the step
  pub step_taken : (b : Accounts) → b.homes ≡ a.homes → owners_in b.owners ≡ with_at (owners_in a.owners) n.0 (stepped (step_in m)) → Under S b.owners → b.titles ≡ changed one_more a.titles n → b.next ≡ machine.next_after a.next op → b.history ≡ a.history
      → (s : SessionNo) (asked : Asked) → AreAccounts S b (after_step m.by.kept n s (step_in m) asked)
  step_taken b homes owners under titles next history s asked = record {
    catalog = subst (IsKept S m.by.kept.catalog) (sym homes) m.by.are.catalog;
    owners = owners ∙ ap (λ (o : Owners). with_at o n.0 (stepped (step_in m))) m.by.are.owners;
    under = under;
    titles = subst (λ t. AreTitles t (after_step m.by.kept n s (step_in m) asked)) (sym titles)
        (changed_follows a.titles m.by.kept (after_step m.by.kept n s (step_in m) asked) m.by.are.titles n one_more machine.one_more (stepped (step_in m)) (λ _. refl) (λ _. refl) (λ _. refl) refl refl refl);
    next = next ∙ ap (λ k. machine.next_after k op) m.by.are.next;
    history = subst (λ h. IsHistory h (after_step m.by.kept n s (step_in m) asked)) (sym history) (record { commits = m.by.are.history.commits; recent = m.by.are.history.recent });
  }

  -- where the owner was held up, they are as before
  pub step_held : (b : Accounts) → b.homes ≡ a.homes → owners_in b.owners ≡ owners_in a.owners → Under S b.owners → b.titles ≡ a.titles → b.next ≡ a.next → b.history ≡ a.history → AreAccounts S b m.by.kept
  step_held b homes owners under titles next history = record {
    catalog = subst (IsKept S m.by.kept.catalog) (sym homes) m.by.are.catalog;
    owners = owners ∙ m.by.are.owners;
    under = under;
    titles = subst (λ t. AreTitles t m.by.kept) (sym titles) m.by.are.titles;
    next = next ∙ m.by.are.next;
    history = subst (λ h. IsHistory h m.by.kept) (sym history) m.by.are.history;
  }

pub some_none : {A B : Type 0} {o : Option A} → IsSome o → o ≡ None → B
some_none {o = None} some is = absurd (cc)
some_none {o = Some x} some is = absurd (cc)
