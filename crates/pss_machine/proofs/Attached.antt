-- Whether the entry of a number is attached, in the entries of one session.
use Rattle.std.proofs.Common.{◌≡◌, ℕ, ◌+◌, ◌==◌, Bool, true, false, ◌&&◌, cond, List, [], ◌∷◌, ◌++◌, map, Option, Some, None, refl, sym, ap, ◌∙◌, subst}
use Rattle.std.specs.Prelude.{find, if◌then◌else◌}
use Rattle.std.specs.Option.{option_map}
use Rattle.std.proofs.lemmas.Bool.{eqb-true}
use Rattle.std.specs.Cmp.{nat_eq_equiv}
use Rattle.pss_base.specs.declared.pid.Pid.{Pid}
use Rattle.type_layout.specs.Schemas.{given}
use Rattle.pss_catalog.specs.Catalog.{Catalog}
use Rattle.pss_machine.specs.declared.session.View.{View}
use Rattle.pss_machine.specs.Operations.{PlainAnswer, Done, Found, IsThere, Val, Number, Listing, NotFound, Gone, Nil, Duplicate, TooLarge, Busy}
use Rattle.pss_machine.specs.Same.{same_pid}
use Rattle.pss_machine.specs.Copies.{Loose, Entry, Copies, entry_numbered, entry_for, number_for, with_count, with_stand, at_entry, without_entry, obtained, is_attached, Body, attached, detached_from}
use Rattle.pss_machine.specs.Deciding.{counting}
use Rattle.pss_machine.specs.Moving.{with_named, with_found}
use Rattle.pss_machine.specs.Attaching.{attached_in}
use Rattle.pss_machine.proofs.Cases.{of_if}
use Rattle.pss_machine.proofs.Growing.{Keeps, keeps_if, keeps_count, keeps_stand, keeps_attached, numbered_map, still_there}

-- where the entry of a number is attached, it was before
abbrev pub AttachesNone : Copies → Copies → Type 0
AttachesNone old new = (n : ℕ) → attached_in new n ≡ true → attached_in old n ≡ true

-- ---- entries that change but for their numbers and objects

module _ (f : Entry → Entry) (keeps : Keeps f) where
  none_map : ((e : Entry) → is_attached (f e) ≡ true → is_attached e ≡ true) → (c : Copies) → AttachesNone c (record { last = c.last; entries = map f c.entries })
  none_map h c n e = by (entry_numbered c n) (ap (λ o. given o false is_attached) (sym (numbered_map f keeps n c.entries)) ∙ e)
    where
      by : (o : Option Entry) → given (option_map f o) false is_attached ≡ true → given o false is_attached ≡ true
      by None e = e
      by (Some x) e = h x e

  -- what loosens each entry leaves none attached
  loose_map : ((e : Entry) → is_attached (f e) ≡ false) → (c : Copies) (n : ℕ) → attached_in (record { last = c.last; entries = map f c.entries }) n ≡ false
  loose_map h c n = ap (λ o. given o false is_attached) (numbered_map f keeps n c.entries) ∙ by (entry_numbered c n)
    where
      by : (o : Option Entry) → given (option_map f o) false is_attached ≡ false
      by None = refl
      by (Some x) = h x

pub none_detached : (body : Pid → Body) (test : Body → Bool) (c : Copies) → AttachesNone c (detached_from body test c)
none_detached body test c =
    none_map (λ e. if is_attached e && test (body e.pid) then with_stand Loose e else e) (keeps_if (λ e. is_attached e && test (body e.pid)) (with_stand Loose) (keeps_stand (λ e. Loose)))
    (λ e. by e (is_attached e && test (body e.pid))) c
  where
    by : (e : Entry) (b : Bool) → is_attached (if b then with_stand Loose e else e) ≡ true → is_attached e ≡ true
    by e true is = absurd cc
    by e false is = is

-- where all bodies pass the test, none stays attached
pub all_detached : (body : Pid → Body) (test : Body → Bool) → ((x : Body) → test x ≡ true) → (c : Copies) (n : ℕ) → attached_in (detached_from body test c) n ≡ false
all_detached body test h c n =
    loose_map (λ e. if is_attached e && test (body e.pid) then with_stand Loose e else e) (keeps_if (λ e. is_attached e && test (body e.pid)) (with_stand Loose) (keeps_stand (λ e. Loose)))
    (λ e. by e (is_attached e) refl (test (body e.pid)) (h (body e.pid))) c n
  where
    by : (e : Entry) (a : Bool) → is_attached e ≡ a → (b : Bool) → b ≡ true → is_attached (if a && b then with_stand Loose e else e) ≡ false
    by e true is true pass = refl
    by e true is false pass = absurd cc
    by e false is b pass = is

-- ---- entries that go

pub none_emptied : (c : Copies) → AttachesNone c (record { last = c.last; entries = [] })
none_emptied c n e = absurd cc

none_without : (m : ℕ) (c : Copies) → AttachesNone c (without_entry m c)
none_without m c n e = by (entry_numbered (without_entry m c) n) refl e
  where
    by : (o : Option Entry) → entry_numbered (without_entry m c) n ≡ o → given o false is_attached ≡ true → attached_in c n ≡ true
    by None is e = absurd cc
    by (Some x) is e = ap (λ o. given o false is_attached) (still_there m n c.entries x is) ∙ e

pub none_counting : (n count : ℕ) (c : Copies) → AttachesNone c (counting n count c)
none_counting n count c =
    of_if (AttachesNone c) (count == 0) (without_entry n c) (at_entry n (with_count count) c) (none_without n c)
    (none_map (λ e. if e.number == n then with_count count e else e) (keeps_if (λ e. e.number == n) (with_count count) (keeps_count count)) (λ e. by e (e.number == n)) c)
  where
    by : (e : Entry) (b : Bool) → is_attached (if b then with_count count e else e) ≡ true → is_attached e ≡ true
    by e true is = is
    by e false is = is

-- ---- entries that a step attaches

-- the entry that is found has the number
pub has_number : (n : ℕ) (es : List Entry) (e : Entry) → find (λ e. e.number == n) es ≡ Some e → e.number ≡ n
has_number n [] e there = absurd cc
has_number n (x ∷ es) e there = by (x.number == n) refl there (has_number n es e)
  where
    by : (b : Bool) → (x.number == n) ≡ b → cond b (Some x) (find (λ e. e.number == n) es) ≡ Some e → (find (λ e. e.number == n) es ≡ Some e → e.number ≡ n) → e.number ≡ n
    by true is there rest = (let same : x ≡ e = cc in subst (λ (e : Entry). e.number ≡ n) same (eqb-true x.number n is))
    by false is there rest = rest there

back : (m n : ℕ) → (m == n) ≡ false → (n == m) ≡ false
back m n apart = nat_eq_equiv.symm n m ∙ apart

-- another entry stays as it was
at_other : (m n : ℕ) (f : Entry → Entry) → Keeps f → (c : Copies) → (n == m) ≡ false → attached_in (at_entry m f c) n ≡ attached_in c n
at_other m n f keeps c apart = ap (λ o. given o false is_attached) (numbered_map (λ e. if e.number == m then f e else e) (keeps_if (λ e. e.number == m) f keeps) n c.entries) ∙ by (entry_numbered c n) refl
  where
    by : (o : Option Entry) → entry_numbered c n ≡ o → given (option_map (λ e. if e.number == m then f e else e) o) false is_attached ≡ given o false is_attached
    by None is = refl
    by (Some e) is = ap (λ b. is_attached (if b then f e else e)) (ap (λ i. i == m) (has_number n c.entries e is) ∙ apart)

none_obtained : (pid : Pid) (c : Copies) → AttachesNone c (obtained pid c)
none_obtained pid c n e = by (entry_for c pid) e
  where
    new : Entry
    new = record { number = c.last + 1; pid = pid; count = 1; stand = Loose }

    pushed : (es : List Entry) → given (find (λ e. e.number == n) (es ++ new ∷ [])) false is_attached ≡ true → given (find (λ e. e.number == n) es) false is_attached ≡ true
    pushed [] e = by_number ((c.last + 1) == n) e
      where
        by_number : (b : Bool) → given (cond b (Some new) None) false is_attached ≡ true → false ≡ true
        by_number true e = e
        by_number false e = e
    pushed (x ∷ es) e = by_head (x.number == n) e (pushed es)
      where
        by_head : (b : Bool) → given (cond b (Some x) (find (λ e. e.number == n) (es ++ new ∷ []))) false is_attached ≡ true
            → (given (find (λ e. e.number == n) (es ++ new ∷ [])) false is_attached ≡ true → given (find (λ e. e.number == n) es) false is_attached ≡ true)
            → given (cond b (Some x) (find (λ e. e.number == n) es)) false is_attached ≡ true
        by_head true e rest = e
        by_head false e rest = rest e

    by : (o : Option Entry) → attached_in (given o (record { last = c.last + 1; entries = c.entries ++ new ∷ [] }) (λ e. at_entry e.number (with_count (e.count + 1)) c)) n ≡ true → attached_in c n ≡ true
    by None e = pushed c.entries e
    by (Some x) e =
        none_map (λ e. if e.number == x.number then with_count (x.count + 1) e else e) (keeps_if (λ e. e.number == x.number) (with_count (x.count + 1)) (keeps_count (x.count + 1)))
        (λ e. of_if (λ (y : Entry). is_attached y ≡ true → is_attached e ≡ true) (e.number == x.number) (with_count (x.count + 1) e) e (λ is. is) (λ is. is)) c n e

-- the number for an object rests on numbers and objects alone
pub same_number : (f : Entry → Entry) (keeps : Keeps f) (c : Copies) (p : Pid) → number_for (record { last = c.last; entries = map f c.entries }) p ≡ number_for c p
same_number f keeps c p = ap (λ o. given o (c.last + 1) (λ e. e.number)) (for_map c.entries) ∙ by (entry_for c p)
  where
    for_map : (es : List Entry) → find (λ e. same_pid e.pid p) (map f es) ≡ option_map f (find (λ e. same_pid e.pid p) es)
    for_map [] = refl
    for_map (e ∷ es) = ap (λ q. cond (same_pid q p) (Some (f e)) (find (λ e. same_pid e.pid p) (map f es))) (keeps.pid e) ∙ by_head (same_pid e.pid p) (for_map es)
      where
        by_head : (b : Bool) → find (λ e. same_pid e.pid p) (map f es) ≡ option_map f (find (λ e. same_pid e.pid p) es)
            → cond b (Some (f e)) (find (λ e. same_pid e.pid p) (map f es)) ≡ option_map f (cond b (Some e) (find (λ e. same_pid e.pid p) es))
        by_head true rest = refl
        by_head false rest = rest

    by : (o : Option Entry) → given (option_map f o) (c.last + 1) (λ e. e.number) ≡ given o (c.last + 1) (λ e. e.number)
    by None = refl
    by (Some e) = keeps.number e

-- the number of what was found
abbrev pub is_found : Bool → PlainAnswer → Copies → ℕ → Bool
is_found true (Found p) c n = number_for c p == n
is_found _ _ c n = false

abbrev pub is_named : Option ℕ → ℕ → Bool
is_named named n = given named false (λ m. m == n)

module _ (M : Catalog) (seen : Pid → View) where
  pub named_attaches : (named : Option ℕ) (c : Copies) (n : ℕ) → attached_in (with_named M seen named c) n ≡ true → is_named named n ≡ false → attached_in c n ≡ true
  named_attaches None c n e other = e
  named_attaches (Some m) c n e other = sym (at_other m n (attached M seen) (keeps_attached M seen) c (back m n other)) ∙ e

  pub found_attaches : (obtains : Bool) (answer : PlainAnswer) (c : Copies) (n : ℕ) → attached_in (with_found M seen obtains answer c) n ≡ true → is_found obtains answer c n ≡ false → attached_in c n ≡ true
  found_attaches false answer c n e other = e
  found_attaches true (Found p) c n e other = none_obtained p c n (sym (at_other (number_for c p) n (attached M seen) (keeps_attached M seen) (obtained p c) (back (number_for c p) n other)) ∙ e)
  found_attaches true Done c n e other = e
  found_attaches true (IsThere b) c n e other = e
  found_attaches true (Val v) c n e other = e
  found_attaches true (Number k) c n e other = e
  found_attaches true (Listing k pids) c n e other = e
  found_attaches true NotFound c n e other = e
  found_attaches true (Gone p) c n e other = e
  found_attaches true Nil c n e other = e
  found_attaches true (Duplicate key) c n e other = e
  found_attaches true TooLarge c n e other = e
  found_attaches true (Busy k) c n e other = e
