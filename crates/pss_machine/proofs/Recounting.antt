-- What `dup` and `release` leave attached.
use Rattle.std.proofs.Common.{arith, ◌≡◌, ℕ, ◌+◌, ◌-◌, ◌==◌, Bool, true, false, not, ◌&&◌, cond, List, [], ◌∷◌, Option, Some, None, refl, sym, ap, ◌∙◌, inl, inr}
use Rattle.std.specs.Prelude.{◌⊎◌, filter, find, nat_le, unwrap_or, if◌then◌else◌}
use Rattle.std.specs.Option.{option_map}
use Rattle.std.specs.FinMap.{get, insert}
use Rattle.std.proofs.lemmas.Bool.{eqb-true, eq-eqb}
use Rattle.std.proofs.lemmas.Bool.Decides.{nat_tests}
use Rattle.pss_base.specs.declared.session.SessionNo.{SessionNo}
use Rattle.type_layout.specs.Schemas.{given}
use Rattle.pss_machine.specs.declared.reply.Reply.TheVariants as reply
use Rattle.pss_machine.specs.Sessions.{session_named}
use Rattle.pss_machine.specs.Copies.{Entry, Copies, no_copies, entry_numbered, with_count, at_entry, without_entry, is_attached}
use Rattle.pss_machine.specs.Kept.{Kept, copies_of}
use Rattle.pss_machine.specs.Effects.{Holds, Decision, does, says}
use Rattle.pss_machine.specs.Deciding.{counting, recounting}
use Rattle.pss_machine.specs.Moving.{moved}
use Rattle.pss_machine.specs.Attaching.{attached_in, is_attached_at, DupDetachesNone, ReleaseDetachesLast}
use Rattle.pss_machine.proofs.Cases.{of_given}
use Rattle.pss_machine.proofs.Maps.{same_or_apart, insert_here, insert_apart}
use Rattle.pss_machine.proofs.Growing.{keeps_if, keeps_count, numbered_map}

and_true : (b : Bool) → (b && true) ≡ b
and_true true = refl
and_true false = refl

-- ---- the entries of one session

count_keeps : (m count : ℕ) (c : Copies) (n : ℕ) → attached_in (at_entry m (with_count count) c) n ≡ attached_in c n
count_keeps m count c n = ap (λ o. given o false is_attached) (numbered_map counted (keeps_if (λ e. e.number == m) (with_count count) (keeps_count count)) n c.entries) ∙ by (entry_numbered c n)
  where
    counted : Entry → Entry
    counted e = if e.number == m then with_count count e else e

    by_number : (e : Entry) (b : Bool) → is_attached (if b then with_count count e else e) ≡ is_attached e
    by_number e true = refl
    by_number e false = refl

    by : (o : Option Entry) → given (option_map counted o) false is_attached ≡ given o false is_attached
    by None = refl
    by (Some e) = by_number e (e.number == m)

either : (b : Bool) (o : Option Entry) → o ≡ (if b then o else o)
either true o = refl
either false o = refl

-- what is found without the entry of a number
found_without : (m n : ℕ) (es : List Entry) → find (λ e. e.number == n) (filter (λ e. not (e.number == m)) es) ≡ (if n == m then None else find (λ e. e.number == n) es)
found_without m n [] = either (n == m) None
found_without m n (x ∷ es) = by (x.number == m) refl (x.number == n) refl (n == m) refl (found_without m n es)
  where
    left : List Entry
    left = filter (λ e. not (e.number == m)) es

    by : (a : Bool) → (x.number == m) ≡ a → (b : Bool) → (x.number == n) ≡ b → (t : Bool) → (n == m) ≡ t
        → find (λ e. e.number == n) (filter (λ e. not (e.number == m)) es) ≡ (if t then None else find (λ e. e.number == n) es)
        → find (λ e. e.number == n) (cond (not a) (x ∷ filter (λ e. not (e.number == m)) es) (filter (λ e. not (e.number == m)) es)) ≡ (if t then None else cond b (Some x) (find (λ e. e.number == n) es))
    by true is b at true same rest = rest
    by true is true at false same rest = absurd (apart same)
      where
        apart : (n == m) ≡ false → ⊥
        apart e = (let both : n ≡ m = sym (eqb-true x.number n at) ∙ eqb-true x.number m is in let wrong : true ≡ false = sym (eq-eqb n m both) ∙ e in cc)
    by true is false at false same rest = rest
    by false is true at true same rest = absurd (apart is)
      where
        apart : (x.number == m) ≡ false → ⊥
        apart e = (let both : x.number ≡ m = eqb-true x.number n at ∙ eqb-true n m same in let wrong : true ≡ false = sym (eq-eqb x.number m both) ∙ e in cc)
    by false is true at false same rest = ap (λ b. cond b (Some x) (find (λ e. e.number == n) left)) at
    by false is false at t same rest = ap (λ b. cond b (Some x) (find (λ e. e.number == n) left)) at ∙ rest

without_keeps : (m : ℕ) (c : Copies) (n : ℕ) → attached_in (without_entry m c) n ≡ (attached_in c n && not (n == m))
without_keeps m c n = ap (λ o. given o false is_attached) (found_without m n c.entries) ∙ by (n == m)
  where
    by : (b : Bool) → given (if b then None else entry_numbered c n) false is_attached ≡ (attached_in c n && not b)
    by true = by_test (attached_in c n)
      where
        by_test : (t : Bool) → false ≡ (t && false)
        by_test true = refl
        by_test false = refl
    by false = sym (and_true (attached_in c n))

counting_keeps : (m count : ℕ) (c : Copies) (n : ℕ) → attached_in (counting m count c) n ≡ (attached_in c n && not (count == 0 && n == m))
counting_keeps m count c n = by (count == 0)
  where
    by : (b : Bool) → attached_in (if b then without_entry m c else at_entry m (with_count count) c) n ≡ (attached_in c n && not (b && n == m))
    by true = without_keeps m c n
    by false = count_keeps m count c n ∙ sym (and_true (attached_in c n))

-- ---- all sessions

module _ (k : Kept) (t : SessionNo) (m count : ℕ) (s : SessionNo) (n : ℕ) where
  held_keeps : is_attached_at (moved k (Holds t (counting m count (copies_of k t)))) s n ≡ (is_attached_at k s n && not (count == 0 && (s.0 == t.0 && n == m)))
  held_keeps = by (same_or_apart s.0 t.0)
    where
      new : Copies
      new = counting m count (copies_of k t)

      by : ((s.0 ≡ t.0) ⊎ (s.0 ≡ t.0 → ⊥)) → attached_in (unwrap_or (get (insert k.copies t.0 (counting m count (copies_of k t))) s.0) no_copies) n ≡ (is_attached_at k s n && not (count == 0 && (s.0 == t.0 && n == m)))
      by (inl same) =
          ap (λ i. attached_in (unwrap_or (get (insert k.copies t.0 new) i) no_copies) n) same
          ∙ ap (λ o. attached_in (unwrap_or o no_copies) n) (insert_here k.copies t.0 new)
          ∙ counting_keeps m count (copies_of k t) n
          ∙ ap (λ i. attached_in (unwrap_or (get k.copies i) no_copies) n && not (count == 0 && n == m)) (sym same)
          ∙ ap (λ b. is_attached_at k s n && not (count == 0 && (b && n == m))) (sym (eq-eqb s.0 t.0 same))
      by (inr apart) =
          ap (λ o. attached_in (unwrap_or o no_copies) n) (insert_apart k.copies t.0 new s.0 apart)
          ∙ sym (and_true (is_attached_at k s n))
          ∙ by_other (s.0 == t.0) refl (count == 0)
        where
          by_other : (b : Bool) → (s.0 == t.0) ≡ b → (z : Bool) → (is_attached_at k s n && true) ≡ (is_attached_at k s n && not (z && (b && n == m)))
          by_other true is z = absurd (apart (eqb-true s.0 t.0 is))
          by_other false is true = refl
          by_other false is false = refl

pub dup_detaches : DupDetachesNone
dup_detaches S limits k name m s n =
    of_given Right (session_named k.sessions name) (says reply.NoSession) (λ e. recounting k (record { 0 = e.0 }) m (λ count. count + 1)) refl
    (λ e _. by_entry (record { 0 = e.0 }))
  where
    Right : Decision → Type 0
    Right d = is_attached_at (moved k d.effect) s n ≡ is_attached_at k s n

    by_entry : (t : SessionNo) → Right (recounting k t m (λ count. count + 1))
    by_entry t =
        of_given Right (entry_numbered (copies_of k t) m) (says reply.NoEntry) (λ e. does (Holds t (counting m (e.count + 1) (copies_of k t))) (reply.Count (e.count + 1))) refl
        (λ e _. held_keeps k t m (e.count + 1) s n ∙ by_count (e.count + 1 == 0) (more e.count))
      where
        more : (count : ℕ) → (count + 1 == 0) ≡ false
        more count = grind (arith, nat_tests)

        by_count : (b : Bool) → b ≡ false → (is_attached_at k s n && not (b && (s.0 == t.0 && n == m))) ≡ is_attached_at k s n
        by_count true e = absurd cc
        by_count false e = and_true (is_attached_at k s n)

pub release_detaches : ReleaseDetachesLast
release_detaches S limits k name m t session s n named =
    ap (λ o. is_attached_at (moved k (given o (says reply.NoSession) (λ e. recounting k (record { 0 = e.0 }) m (λ count. count - 1))).effect) s n) named
    ∙ by (entry_numbered (copies_of k t) m)
  where
    one_less : (count : ℕ) → (count - 1 == 0) ≡ nat_le count 1
    one_less count = grind (arith, nat_tests)

    by : (o : Option Entry) → is_attached_at (moved k (given o (says reply.NoEntry) (λ e. does (Holds t (counting m (e.count - 1) (copies_of k t))) (reply.Count (e.count - 1)))).effect) s n
        ≡ (is_attached_at k s n && not (given o false (λ e. nat_le e.count 1) && (s.0 == t.0 && n == m)))
    by None = sym (and_true (is_attached_at k s n))
    by (Some e) = held_keeps k t m (e.count - 1) s n ∙ ap (λ b. is_attached_at k s n && not (b && (s.0 == t.0 && n == m))) (one_less e.count)
