-- How the entries of one session go on: numbers rise, and each stays with its object.
use Rattle.std.proofs.Common.{arith, ◌≡◌, ℕ, ◌+◌, ◌==◌, ◌≤◌, Bool, true, false, not, ◌&&◌, cond, List, [], ◌∷◌, ◌++◌, map, Option, Some, None, refl, sym, ap, ◌∙◌, subst}
use Rattle.std.specs.Prelude.{filter, find, if◌then◌else◌}
use Rattle.std.specs.Option.{option_map}
use Rattle.std.proofs.lemmas.Bool.{eqb-true}
use Rattle.std.proofs.lemmas.Bool.Decides.{nat_tests}
use Rattle.pss_base.specs.declared.pid.Pid.{Pid}
use Rattle.type_layout.specs.Schemas.{given}
use Rattle.pss_catalog.specs.Catalog.{Catalog}
use Rattle.pss_machine.specs.declared.session.View.{View}
use Rattle.pss_machine.specs.Operations.{PlainAnswer, Done, Found, IsThere, Val, Number, Listing, NotFound, Gone, Nil, Duplicate, TooLarge, Busy}
use Rattle.pss_machine.specs.Copies.{Stand, Loose, Entry, Copies, entry_numbered, entry_for, number_for, with_count, with_stand, at_entry, without_entry, obtained, is_attached, Body, stand_in, attached, detached_from}
use Rattle.pss_machine.specs.Asking.{Asked}
use Rattle.pss_machine.specs.Deciding.{counting}
use Rattle.pss_machine.specs.Moving.{with_named, with_found, seated, is_done}
use Rattle.pss_machine.proofs.Cases.{of_if}
use Rattle.pss_machine.proofs.Logic.{none_some}

-- the entry of a number had it before, for the same object
pub record Had (old : Copies) (n : ℕ) (e : Entry) : Type 0 where
  pub was : Entry
  pub there : entry_numbered old n ≡ Some was
  pub pid : e.pid ≡ was.pid

-- the last number has not fallen, and the entries of numbers up to the old one were there
pub record Grown (old new : Copies) : Type 0 where
  pub last : old.last ≤ new.last
  pub had : (n : ℕ) (e : Entry) → n ≤ old.last → entry_numbered new n ≡ Some e → Had old n e

pub grown_none : (c : Copies) → Grown c c
grown_none c = record { last = omega arith; had = λ n e le there. record { was = e; there = there; pid = refl } }

pub grown_both : (a b c : Copies) → Grown a b → Grown b c → Grown a c
grown_both a b c g h = record { last = omega (arith, g.last, h.last); had = had }
  where
    had : (n : ℕ) (e : Entry) → n ≤ a.last → entry_numbered c n ≡ Some e → Had a n e
    had n e le there =
        let second : Had b n e = h.had n e (omega (arith, le, g.last)) there in
        let one : Had a n second.was = g.had n second.was le second.there in
        record { was = one.was; there = one.there; pid = second.pid ∙ one.pid }

-- ---- entries that change but for their numbers and objects

pub record Keeps (f : Entry → Entry) : Type 0 where
  pub number : (e : Entry) → (f e).number ≡ e.number
  pub pid : (e : Entry) → (f e).pid ≡ e.pid

pub keeps_if : (b : Entry → Bool) (f : Entry → Entry) → Keeps f → Keeps (λ e. if b e then f e else e)
keeps_if b f keeps = record { number = λ e. number e (b e); pid = λ e. pid e (b e) }
  where
    number : (e : Entry) (t : Bool) → (if t then f e else e).number ≡ e.number
    number e true = keeps.number e
    number e false = refl

    pid : (e : Entry) (t : Bool) → (if t then f e else e).pid ≡ e.pid
    pid e true = keeps.pid e
    pid e false = refl

pub keeps_count : (n : ℕ) → Keeps (with_count n)
keeps_count n = record { number = λ e. refl; pid = λ e. refl }

pub keeps_stand : (stand : Entry → Stand) → Keeps (λ e. with_stand (stand e) e)
keeps_stand stand = record { number = λ e. refl; pid = λ e. refl }

pub keeps_attached : (M : Catalog) (seen : Pid → View) → Keeps (attached M seen)
keeps_attached M seen = record { number = λ e. number e (is_attached e); pid = λ e. pid e (is_attached e) }
  where
    number : (e : Entry) (t : Bool) → (if t then e else with_stand (stand_in M e.pid (seen e.pid)) e).number ≡ e.number
    number e true = refl
    number e false = refl

    pid : (e : Entry) (t : Bool) → (if t then e else with_stand (stand_in M e.pid (seen e.pid)) e).pid ≡ e.pid
    pid e true = refl
    pid e false = refl

module _ (f : Entry → Entry) (keeps : Keeps f) where
  pub numbered_map : (n : ℕ) (es : List Entry) → find (λ e. e.number == n) (map f es) ≡ option_map f (find (λ e. e.number == n) es)
  numbered_map n [] = refl
  numbered_map n (e ∷ es) = ap (λ m. cond (m == n) (Some (f e)) (find (λ e. e.number == n) (map f es))) (keeps.number e) ∙ by (e.number == n) (numbered_map n es)
    where
      by : (b : Bool) → find (λ e. e.number == n) (map f es) ≡ option_map f (find (λ e. e.number == n) es)
          → cond b (Some (f e)) (find (λ e. e.number == n) (map f es)) ≡ option_map f (cond b (Some e) (find (λ e. e.number == n) es))
      by true rest = refl
      by false rest = rest

  pub grown_map : (c : Copies) → Grown c (record { last = c.last; entries = map f c.entries })
  grown_map c = record { last = omega arith; had = λ n e le there. by n e (entry_numbered c n) refl (sym (numbered_map n c.entries) ∙ there) }
    where
      by : (n : ℕ) (e : Entry) (o : Option Entry) → entry_numbered c n ≡ o → option_map f o ≡ Some e → Had c n e
      by n e None is there = absurd (none_some there)
      by n e (Some was) is there = let same : f was ≡ e = cc in record { was = was; there = is; pid = ap (λ (x : Entry). x.pid) (sym same) ∙ keeps.pid was }

pub grown_at : (n : ℕ) (f : Entry → Entry) (c : Copies) → Keeps f → Grown c (at_entry n f c)
grown_at n f c keeps = grown_map (λ e. if e.number == n then f e else e) (keeps_if (λ e. e.number == n) f keeps) c

pub grown_detached : (body : Pid → Body) (test : Body → Bool) (c : Copies) → Grown c (detached_from body test c)
grown_detached body test c =
    grown_map (λ e. if is_attached e && test (body e.pid) then with_stand Loose e else e) (keeps_if (λ e. is_attached e && test (body e.pid)) (with_stand Loose) (keeps_stand (λ e. Loose))) c

-- ---- entries that go

pub grown_emptied : (c : Copies) → Grown c (record { last = c.last; entries = [] })
grown_emptied c = record { last = omega arith; had = λ n e le there. absurd (none_some there) }

-- none that is left has the number that went
none_left : (m : ℕ) (e : Entry) (es : List Entry) → find (λ e. e.number == m) (filter (λ e. not (e.number == m)) es) ≡ Some e → ⊥
none_left m e [] there = none_some there
none_left m e (y ∷ es) there = by (y.number == m) refl there (none_left m e es)
  where
    by : (b : Bool) → (y.number == m) ≡ b → find (λ e. e.number == m) (cond (not b) (y ∷ filter (λ e. not (e.number == m)) es) (filter (λ e. not (e.number == m)) es)) ≡ Some e
        → (find (λ e. e.number == m) (filter (λ e. not (e.number == m)) es) ≡ Some e → ⊥) → ⊥
    by true is there rest = rest there
    by false is there rest = rest (ap (λ b. cond b (Some y) (find (λ e. e.number == m) (filter (λ e. not (e.number == m)) es))) (sym is) ∙ there)

pub still_there : (m n : ℕ) (es : List Entry) (e : Entry) → find (λ e. e.number == n) (filter (λ e. not (e.number == m)) es) ≡ Some e → find (λ e. e.number == n) es ≡ Some e
still_there m n [] e there = there
still_there m n (x ∷ es) e there = by (x.number == m) refl there (x.number == n) refl (still_there m n es e)
  where
    left : List Entry
    left = filter (λ e. not (e.number == m)) es

    by : (t : Bool) → (x.number == m) ≡ t → find (λ e. e.number == n) (cond (not t) (x ∷ filter (λ e. not (e.number == m)) es) (filter (λ e. not (e.number == m)) es)) ≡ Some e
        → (b : Bool) → (x.number == n) ≡ b → (find (λ e. e.number == n) (filter (λ e. not (e.number == m)) es) ≡ Some e → find (λ e. e.number == n) es ≡ Some e)
        → cond b (Some x) (find (λ e. e.number == n) es) ≡ Some e
    by true is there true at rest =
        let same : n ≡ m = sym (eqb-true x.number n at) ∙ eqb-true x.number m is in
        absurd (none_left m e es (subst (λ (r : ℕ). find (λ e. e.number == r) (filter (λ e. not (e.number == m)) es) ≡ Some e) same there))
    by true is there false at rest = rest there
    by false is there true at rest = ap (λ b. cond b (Some x) (find (λ e. e.number == n) left)) (sym at) ∙ there
    by false is there false at rest = rest (ap (λ b. cond b (Some x) (find (λ e. e.number == n) left)) (sym at) ∙ there)

grown_without : (m : ℕ) (c : Copies) → Grown c (without_entry m c)
grown_without m c = record { last = omega arith; had = λ n e le there. record { was = e; there = still_there m n c.entries e there; pid = refl } }

pub grown_counting : (n count : ℕ) (c : Copies) → Grown c (counting n count c)
grown_counting n count c = of_if (Grown c) (count == 0) (without_entry n c) (at_entry n (with_count count) c) (grown_without n c) (grown_at n (with_count count) c (keeps_count count))

-- ---- entries that come

numbered_push : (n : ℕ) (es : List Entry) (new : Entry) → (new.number == n) ≡ false → find (λ e. e.number == n) (es ++ new ∷ []) ≡ find (λ e. e.number == n) es
numbered_push n [] new apart = ap (λ b. cond b (Some new) None) apart
numbered_push n (e ∷ es) new apart = ap (cond (e.number == n) (Some e)) (numbered_push n es new apart)

pub grown_obtained : (pid : Pid) (c : Copies) → Grown c (obtained pid c)
grown_obtained pid c = by (entry_for c pid)
  where
    new : Entry
    new = record { number = c.last + 1; pid = pid; count = 1; stand = Loose }

    apart : (n : ℕ) → n ≤ c.last → ((c.last + 1) == n) ≡ false
    apart n le = grind (arith, nat_tests)

    by : (o : Option Entry) → Grown c (given o (record { last = c.last + 1; entries = c.entries ++ new ∷ [] }) (λ e. at_entry e.number (with_count (e.count + 1)) c))
    by None = record { last = omega arith; had = λ n e le there. record { was = e; there = sym (numbered_push n c.entries new (apart n le)) ∙ there; pid = refl } }
    by (Some e) = grown_at e.number (with_count (e.count + 1)) c (keeps_count (e.count + 1))

-- ---- the entries of the session that takes a step

module _ (M : Catalog) (seen : Pid → View) where
  pub grown_named : (named : Option ℕ) (c : Copies) → Grown c (with_named M seen named c)
  grown_named None c = grown_none c
  grown_named (Some n) c = grown_at n (attached M seen) c (keeps_attached M seen)

  grown_found : (obtains : Bool) (answer : PlainAnswer) (c : Copies) → Grown c (with_found M seen obtains answer c)
  grown_found false answer c = grown_none c
  grown_found true (Found p) c = grown_both c (obtained p c) (at_entry (number_for c p) (attached M seen) (obtained p c)) (grown_obtained p c) (grown_at (number_for c p) (attached M seen) (obtained p c) (keeps_attached M seen))
  grown_found true Done c = grown_none c
  grown_found true (IsThere b) c = grown_none c
  grown_found true (Val v) c = grown_none c
  grown_found true (Number n) c = grown_none c
  grown_found true (Listing n pids) c = grown_none c
  grown_found true NotFound c = grown_none c
  grown_found true (Gone p) c = grown_none c
  grown_found true Nil c = grown_none c
  grown_found true (Duplicate key) c = grown_none c
  grown_found true TooLarge c = grown_none c
  grown_found true (Busy n) c = grown_none c

  pub grown_seated : (asked : Asked) (answer : PlainAnswer) (c : Copies) → Grown c (seated M seen asked answer c)
  grown_seated asked answer c =
      of_if (Grown c) (is_done answer) (with_found M seen asked.obtains answer (with_named M seen asked.entry c)) c
      (grown_both c (with_named M seen asked.entry c) (with_found M seen asked.obtains answer (with_named M seen asked.entry c)) (grown_named asked.entry c) (grown_found asked.obtains answer (with_named M seen asked.entry c))) (grown_none c)
