-- What is known of the machine that the parts stand for: its owners and homes, its entries, and that numbers are left.
use Rattle.std.proofs.Common.{ℕ, ◌≡◌, ◌==◌, ◌<◌, ◌≤◌, ◌^◌, ◌-◌, Bool, true, false, cond, List, [], ◌∷◌, Option, Some, None, IsSome, refl, sym, ap, ◌∙◌, subst, arith}
use Rattle.std.specs.Prelude.{find, unwrap_or, is_some}
use Rattle.std.specs.FinMap.{get}
use Rattle.std.proofs.lemmas.Bool.{eqb-true}
use Rattle.pss_base.specs.declared.owner.OwnerNo.{OwnerNo}
use Rattle.pss_base.specs.declared.session.SessionNo.{SessionNo}
use Rattle.pss_machine.specs.Sessions.{Session}
use Rattle.pss_machine.specs.Copies.{Entry, Copies, no_copies, entry_numbered}
use Rattle.pss_machine.specs.Kept.{Kept, copies_of}
use Rattle.pss_machine.specs.Entries.{NumbersRise, AreOrderly}
use Rattle.pss_machine.proofs.Logic.{none_some, same_some}
use Rattle.pss_machine.proofs.Orderly.{entries_are_orderly}
use Rattle.pss_machine.proofs.Numbering.{PairedIn, run_paired}
use Rattle.owner_accounts.specs.Steps.{HasCommands}
use Rattle.pss_copies.specs.Ruled.{AreOwned}
use Rattle.pss_copies.proofs.Tying.{always_owned}
use Rattle.connector_parts.specs.declared.parts.Parts.{Parts}
use Rattle.connector_parts.specs.Few.{CountAtMost, AreFewEntries}
use Rattle.connector_parts.specs.Stands.{IsAt}

-- ---- entries that are found

found_at_most : (n low last : ℕ) (es : List Entry) (e : Entry) → NumbersRise low last es → find (λ x. x.number == n) es ≡ Some e → n ≤ last
found_at_most n low last [] e h is = absurd (none_some is)
found_at_most n low last (x ∷ es) e h is = by (x.number == n) refl is (found_at_most n x.number last es e h.2)
  where
    by : (t : Bool) → (x.number == n) ≡ t → cond t (Some x) (find (λ x. x.number == n) es) ≡ Some e → (find (λ x. x.number == n) es ≡ Some e → n ≤ last) → n ≤ last
    by true here is rest = omega (arith, eqb-true x.number n here, h.1)
    by false here is rest = rest is

found_counts : (p n : ℕ) (es : List Entry) (e : Entry) → CountAtMost p es → find (λ x. x.number == n) es ≡ Some e → e.count ≤ p
found_counts p n [] e h is = absurd (none_some is)
found_counts p n (x ∷ es) e h is = by (x.number == n) is (found_counts p n es e h.1)
  where
    by : (t : Bool) → cond t (Some x) (find (λ x. x.number == n) es) ≡ Some e → (find (λ x. x.number == n) es ≡ Some e → e.count ≤ p) → e.count ≤ p
    by true is rest = subst (λ (y : Entry). y.count ≤ p) (same_some is) h.0
    by false is rest = rest is

orderly_or : (o : Option Copies) → ((copies : Copies) → o ≡ Some copies → AreOrderly copies) → AreOrderly (unwrap_or o no_copies)
orderly_or None h = record { numbers = tt; pids = refl; counts = tt }
orderly_or (Some copies) h = h copies refl

few_or : (p : ℕ) (o : Option Copies) → ((copies : Copies) → o ≡ Some copies → AreFewEntries p copies) → AreFewEntries p (unwrap_or o no_copies)
few_or p None h = record { last = omega arith; counts = tt }
few_or p (Some copies) h = h copies refl

some_both : {A B : Type 0} (o : Option A) (q : Option B) (x : A) → o ≡ Some x → is_some o ≡ is_some q → IsSome q
some_both o None x is same = absurd (let e : true ≡ false = sym (ap is_some is) ∙ same in cc)
some_both o (Some y) x is same = refl

-- ---- where a run has come

module _ (c : Parts) (k : Kept) (at : IsAt c k) where
  pub own_at : AreOwned k.owners k.sessions k.next_owner
  own_at = subst (λ (j : Kept). AreOwned j.owners j.sessions j.next_owner) (sym at.reached.is) (always_owned c.schema c.limits at.reached.catalog at.reached.next at.reached.lines)

  -- the entries of each session are in order
  pub in_order_at : (s : ℕ) (copies : Copies) → get k.copies s ≡ Some copies → AreOrderly copies
  in_order_at = subst (λ (j : Kept). (s : ℕ) (copies : Copies) → get j.copies s ≡ Some copies → AreOrderly copies) (sym at.reached.is) (entries_are_orderly c.schema c.limits at.reached.catalog at.reached.next at.reached.lines)

  pub orderly_at : (s : SessionNo) → AreOrderly (copies_of k s)
  orderly_at s =
      subst (λ (j : Kept). AreOrderly (copies_of j s)) (sym at.reached.is)
      (orderly_or _ (λ copies there. entries_are_orderly c.schema c.limits at.reached.catalog at.reached.next at.reached.lines s.0 copies there))

  paired_at : PairedIn k
  paired_at = subst PairedIn (sym at.reached.is) (run_paired c.schema c.limits at.reached.catalog at.reached.next at.reached.lines)

  -- a session that is there has entries, maybe none
  pub copies_at : (s : SessionNo) (session : Session) → get k.sessions s.0 ≡ Some session → IsSome (get k.copies s.0)
  copies_at s session there = some_both (get k.sessions s.0) (get k.copies s.0) session there (paired_at.same s.0)

  few_at : (s : SessionNo) → AreFewEntries at.performed (copies_of k s)
  few_at s = few_or at.performed (get k.copies s.0) (at.few.entries s.0)

  -- numbers are left
  pub owners_left : k.next_owner < 2 ^ 32
  owners_left = omega (arith, at.few.owners, at.left)

  pub commits_left : k.commits < 2 ^ 64 - 1
  commits_left = omega (arith, at.few.commits, at.left)

  pub commands_left : (n : OwnerNo) → HasCommands k n
  commands_left n title there = (let few = at.few.commands n.0 title there in omega (arith, few, at.left))

  pub counts_left : (s : SessionNo) (n : ℕ) (e : Entry) → entry_numbered (copies_of k s) n ≡ Some e → e.count < 2 ^ 32 - 1
  counts_left s n e is = (let few = found_counts at.performed n (copies_of k s).entries e (few_at s).counts is in omega (arith, few, at.left))

  -- no entry has a number that is too high
  pub numbers_left : (s : SessionNo) (n : ℕ) → 2 ^ 32 ≤ n → entry_numbered (copies_of k s) n ≡ None
  numbers_left s n high = by (entry_numbered (copies_of k s) n) refl
    where
      by : (o : Option Entry) → entry_numbered (copies_of k s) n ≡ o → o ≡ None
      by None is = refl
      by (Some e) is =
          let most = found_at_most n 0 (copies_of k s).last (copies_of k s).entries e (orderly_at s).numbers is in
          let last = (few_at s).last in
          absurd (omega (arith, most, last, high, at.left))
