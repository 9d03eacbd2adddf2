-- Entries that leave their bodies in several turns.
use Rattle.std.proofs.Common.{ℕ, suc, zero, ◌≡◌, ◌<◌, List, [], ◌∷◌, Bool, true, false, cond, nat_lt, Option, Some, None, IsSome, refl, sym, ap, ◌∙◌, subst, arith, rules}
use Rattle.std.specs.Prelude.{◌||◌, ◌&&◌}
use Rattle.std.specs.Prelude.{take, slice_get, ◌==◌}
use Rattle.std.specs.List.{list_any}
use Rattle.std.specs.Ordering.{nat_cmp, is_lt, is_eq}
use Rattle.std.specs.declared.cmp.Ordering.{Ordering}
use Rattle.std.specs.declared.cmp.Ordering.TheVariants.{Less, Equal, Greater}
use Rattle.std.specs.Cmp.{unsigned_tied}
use Rattle.std.specs.FinMap.Entries.{below_all, is_sorted}
use Rattle.std.proofs.lemmas.Bool.{eqb-true}
use Rattle.pss_base.specs.declared.pid.Pid.{Pid}
use Rattle.pss_base.specs.declared.session.SessionNo.{SessionNo}
use Rattle.pss_machine.specs.declared.session.View.{View}
use Rattle.pss_machine.specs.declared.session.View.TheVariants.{Committed, Kept}
use Rattle.pss_machine.specs.Copies.{same_view}
use Rattle.pss_machine.specs.Same.{same_pid}
use Rattle.pss_machine.specs.Sessions.{Session}
use Rattle.type_layout.specs.Schemas.{given}
use Rattle.std.specs.Option.{option_map, option_and_then}
use Rattle.std.proofs.lemmas.Bool.{lt-ltb}
use Rattle.std.specs.FinMap.{get}
use Rattle.type_layout.specs.Types.{PlainValue}
use Rattle.incarnations.specs.declared.names.Slot.{Slot}
use Rattle.incarnations.specs.declared.names.BodyName.{BodyName}
use Rattle.incarnations.specs.declared.names.Entry.{Entry}
use Rattle.incarnations.specs.Meaning.{Meaning, AreCopies, Leaves, loosened, with_view, stands_on, entries_on, body, same_body, both as and, of_session, on_body}
use Rattle.incarnations.proofs.Seen.{leaves_alike}
use Rattle.pss_session.specs.declared.register.SessionRecord.{SessionRecord}
use Rattle.pss_session.specs.Meaning.{Meaning as Standing, of_sessions, is_unchanged, on_unchanged}
use Rattle.pss_session.specs.inner.Rows.{session_of, row_at}
use Rattle.pss_session.specs.inner.Register.{sessions_of}
use Rattle.pss_session.specs.inner.Walks.{numbered, some_row}
use Rattle.pss_session.proofs.Orders.{both_true}
use Rattle.pss_session.proofs.Fronts.{any_more}
use Rattle.pss_session.proofs.Registers.{get_session}
use Rattle.recent_table.proofs.Maps.{no_value, one_value, count_none, count_some}
use Rattle.incarnations.proofs.Keys.{slot_key}

unlike : {A : Type 0} {b : Bool} → b ≡ true → b ≡ false → A
unlike p q = absurd (cc)

-- nothing leaves
pub leaves_none : (test : Slot → Entry → Bool) (m : Meaning) → AreCopies m → ((x : Slot) (e : Entry) → test x e ≡ false) → Leaves (loosened test) m m
leaves_none test m are never = record { entries = λ x. entry x (get m.entries x); bodies = λ b. body b (get m.bodies b) refl }
  where
    entry : (x : Slot) (o : Option Entry) → o ≡ option_and_then (loosened test x) o
    entry x None = refl
    entry x (Some e) = ap (λ t. Some (cond t (with_view None e) e)) (sym (never x e))

    some : {A : Type 0} {v : A} (o : Option A) → o ≡ Some v → IsSome o
    some None e = no_value _ e
    some (Some v) e = search rules

    body : (b : BodyName) (o : Option (List PlainValue)) → get m.bodies b ≡ o → get m.bodies b ≡ cond (nat_lt 0 (entries_on m b)) (get m.bodies b) None
    body b None is = is ∙ sym (same (nat_lt 0 (entries_on m b))) ∙ ap (λ o. cond (nat_lt 0 (entries_on m b)) o None) (sym is)
      where
        same : (t : Bool) → cond {A = Option (List PlainValue)} t None None ≡ None
        same true = refl
        same false = refl
    body b (Some v) is = ap (λ t. cond t (get m.bodies b) None) (sym (lt-ltb 0 (entries_on m b) (are.stood_on b (some (get m.bodies b) is))))

module _ (g : Slot → Entry → Bool) (old new : Meaning) (left : Leaves (loosened g) old new) (y : BodyName) where
  off : entries_on old y ≡ 0 → (x : Slot) (e : Entry) → get old.entries x ≡ Some e → stands_on y (x, e) ≡ false
  off none x e at = by (stands_on y (x, e)) refl
    where
      by : (t : Bool) → stands_on y (x, e) ≡ t → t ≡ false
      by true on = let more : 0 < entries_on old y = count_some slot_key (stands_on y) old.entries x e at on in absurd (omega (arith, more, none))
      by false on = refl

  still_off : entries_on old y ≡ 0 → entries_on new y ≡ 0
  still_off none = count_none slot_key (stands_on y) new.entries (λ x v at. by x v (get old.entries x) refl (sym (left.entries x) ∙ at))
    where
      after : (x : Slot) (e v : Entry) (t : Bool) → get old.entries x ≡ Some e → cond t (with_view None e) e ≡ v → stands_on y (x, v) ≡ false
      after x e v true is same = ap (λ z. stands_on y (x, z)) (sym same)
      after x e v false is same = ap (λ z. stands_on y (x, z)) (sym same) ∙ off none x e is

      by : (x : Slot) (v : Entry) (o : Option Entry) → get old.entries x ≡ o → option_and_then (loosened g x) (get old.entries x) ≡ Some v → stands_on y (x, v) ≡ false
      by x v None is at = no_value v (sym (ap (option_and_then (loosened g x)) is) ∙ at)
      by x v (Some e) is at = after x e v (g x e) is (one_value (sym (ap (option_and_then (loosened g x)) is) ∙ at))

  -- a body on which one stands after it is one on which one stood before
  stood : nat_lt 0 (entries_on new y) ≡ true → nat_lt 0 (entries_on old y) ≡ true
  stood on = by (entries_on old y) refl
    where
      by : (n : ℕ) → entries_on old y ≡ n → nat_lt 0 n ≡ true
      by zero is = unlike on (ap (nat_lt 0) (still_off is))
      by (suc n) is = lt-ltb 0 (suc n) (omega arith)

-- one turn after the other
pub leaves_then : (f g : Slot → Entry → Bool) (a b c : Meaning) → Leaves (loosened f) a b → Leaves (loosened g) b c → Leaves (loosened (λ x e. f x e || g x e)) a c
leaves_then f g a b c first then = record {
  entries = λ x. then.entries x ∙ ap (option_and_then (loosened g x)) (first.entries x) ∙ both x (get a.entries x);
  bodies = λ y. then.bodies y ∙ ap (λ o. cond (nat_lt 0 (entries_on c y)) o None) (first.bodies y) ∙ once (nat_lt 0 (entries_on c y)) (nat_lt 0 (entries_on b y)) (get a.bodies y) (stood g b c then y);
}
  where
    twice : (x : Slot) (e : Entry) (s t : Bool) → cond (g x (cond s (with_view None e) e)) (with_view None (cond s (with_view None e) e)) (cond s (with_view None e) e) ≡ cond (s || g x e) (with_view None e) e
    twice x e true t = by (g x (with_view None e))
      where
        by : (u : Bool) → cond u (with_view None e) (with_view None e) ≡ with_view None e
        by true = refl
        by false = refl
    twice x e false t = refl

    both : (x : Slot) (o : Option Entry) → option_and_then (loosened g x) (option_and_then (loosened f x) o) ≡ option_and_then (loosened (λ z e. f z e || g z e) x) o
    both x None = refl
    both x (Some e) = ap Some (twice x e (f x e) true)

    once : (s t : Bool) (o : Option (List PlainValue)) → (s ≡ true → t ≡ true) → cond s (cond t o None) None ≡ cond s o None
    once false t o h = refl
    once true t o h = ap (λ u. cond u o None) (h refl)

-- ---- walks

one_test : (g a b : Bool) → ((a && g) || (b && g)) ≡ ((a || b) && g)
one_test true true b = refl
one_test true false b = refl
one_test false true true = refl
one_test false true false = refl
one_test false false b = refl

module _ (t : SessionRecord → Bool) (es : List (ℕ × SessionRecord)) (i k : ℕ) (next : k ≡ suc i) (a b c : Meaning) where
  -- the session in the next place
  pub walk_more : (n : ℕ) (r : SessionRecord) → slice_get es i ≡ Some (n, r) → Leaves (loosened (some_row t (take i es))) a b → Leaves (loosened (numbered n (t r))) b c → Leaves (loosened (some_row t (take k es))) a c
  walk_more n r at first then =
      leaves_alike _ _ a c
      (λ x e. ap (λ z. Some (cond z (with_view None e) e)) (sym (ap (λ m. some_row t (take m es) x e) next ∙ any_more (λ q. numbered q.0 (t q.1) x e) i es (n, r) at)))
      (leaves_then (some_row t (take i es)) (numbered n (t r)) a b c first then)

  pub walk_more_of : (g : Slot → Entry → Bool) (n : ℕ) (r : SessionRecord) → slice_get es i ≡ Some (n, r) → Leaves (loosened (and (some_row t (take i es)) g)) a b → Leaves (loosened (and (numbered n (t r)) g)) b c → Leaves (loosened (and (some_row t (take k es)) g)) a c
  walk_more_of g n r at first then =
      leaves_alike _ _ a c
      (λ x e. ap (λ z. Some (cond z (with_view None e) e)) (one_test (g x e) (some_row t (take i es) x e) (numbered n (t r) x e) ∙ ap (λ z. z && g x e) (sym (ap (λ m. some_row t (take m es) x e) next ∙ any_more (λ q. numbered q.0 (t q.1) x e) i es (n, r) at))))
      (leaves_then (and (some_row t (take i es)) g) (and (numbered n (t r)) g) a b c first then)

pub take_none : {A : Type 0} (i k : ℕ) → k ≡ suc i → (xs : List A) → slice_get xs i ≡ None → take i xs ≡ take k xs
take_none i k next xs none = by i xs none ∙ ap (λ n. take n xs) (sym next)
  where
    by : {A : Type 0} (i : ℕ) (xs : List A) → slice_get xs i ≡ None → take i xs ≡ take (suc i) xs
    by zero [] h = refl
    by (suc i) [] h = refl
    by zero (x ∷ xs) h = no_value x (sym h)
    by (suc i) (x ∷ xs) h = ap (λ l. x ∷ l) (by i xs h)

-- ---- a session's entry for an object

module _ (s : SessionNo) (pid : Pid) (x : Slot) (e : Entry) where
  pub unchanged_is : (and (of_session s) (on_body (body pid Committed)) x e || and (of_session s) (on_body (body pid (Kept s))) x e) ≡ and (of_session s) (on_unchanged pid) x e
  unchanged_is = by (x.session.0 == s.0) refl
    where
      none : (p : Bool) → false ≡ (p && false)
      none true = refl
      none false = refl

      some : (p c k : Bool) → ((p && c) || (p && k)) ≡ (p && (c || k))
      some true c k = refl
      some false c k = refl

      seen : (o : Option View) → x.session ≡ s
          → (given (option_map (body e.pid) o) false (same_body (body pid Committed)) || given (option_map (body e.pid) o) false (same_body (body pid (Kept s)))) ≡ (same_pid pid e.pid && given o false (is_unchanged x.session))
      seen None same = none (same_pid pid e.pid)
      seen (Some v) same = some (same_pid pid e.pid) (same_view Committed v) (same_view (Kept s) v) ∙ ap (λ z. same_pid pid e.pid && (same_view Committed v || same_view (Kept z) v)) (sym same)

      by : (t : Bool) → (x.session.0 == s.0) ≡ t → (and (of_session s) (on_body (body pid Committed)) x e || and (of_session s) (on_body (body pid (Kept s))) x e) ≡ and (of_session s) (on_unchanged pid) x e
      by true is =
          subst (λ t. ((t && on_body (body pid Committed) x e) || (t && on_body (body pid (Kept s)) x e)) ≡ (t && on_unchanged pid x e)) (sym is) (seen e.view (ap (λ n. record { 0 = n }) (eqb-true x.session.0 s.0 is)))
      by false is = subst (λ t. ((t && on_body (body pid Committed) x e) || (t && on_body (body pid (Kept s)) x e)) ≡ (t && on_unchanged pid x e)) (sym is) refl

pub unchanged_left : (s : SessionNo) (pid : Pid) (a b c : Meaning) → Leaves (loosened (and (of_session s) (on_body (body pid Committed)))) a b → Leaves (loosened (and (of_session s) (on_body (body pid (Kept s))))) b c
    → Leaves (loosened (and (of_session s) (on_unchanged pid))) a c
unchanged_left s pid a b c first then = leaves_alike _ _ a c (λ x e. ap (λ z. Some (cond z (with_view None e) e)) (unchanged_is s pid x e)) (leaves_then _ _ a b c first then)

-- ---- the sessions that pass

lt_apart : (o : Ordering) → is_lt o ≡ true → is_eq o ≡ false
lt_apart Less h = refl
lt_apart Equal h = absurd (cc)
lt_apart Greater h = refl

module _ (t : SessionRecord → Bool) (k : ℕ) where
  none_any : (es : List (ℕ × SessionRecord)) → below_all nat_cmp k es ≡ true → list_any (λ q. (k == q.0) && t q.1) es ≡ false
  none_any [] h = refl
  none_any (e ∷ es) h =
      let s = both_true (is_lt (nat_cmp k e.0)) (below_all nat_cmp k es) h in
      let apart : (k == e.0) ≡ false = sym (unsigned_tied k e.0) ∙ lt_apart (nat_cmp k e.0) s.0 in
      ap (λ b. (b && t e.1) || list_any (λ q. (k == q.0) && t q.1) es) apart ∙ none_any es s.1

  any_row : (es : List (ℕ × SessionRecord)) → is_sorted nat_cmp es ≡ true → list_any (λ q. (k == q.0) && t q.1) es ≡ given (row_at es k) false t
  any_row [] h = refl
  any_row (e ∷ es) h = let s = both_true (below_all nat_cmp e.0 es) (is_sorted nat_cmp es) h in by (k == e.0) refl s.0 (any_row es s.1)
    where
      last : (b : Bool) → (b || false) ≡ b
      last true = refl
      last false = refl

      by : (b : Bool) → (k == e.0) ≡ b → below_all nat_cmp e.0 es ≡ true → list_any (λ q. (k == q.0) && t q.1) es ≡ given (row_at es k) false t → ((b && t e.1) || list_any (λ q. (k == q.0) && t q.1) es) ≡ given (cond b (Some e.1) (row_at es k)) false t
      by true is below rest = ap (λ z. t e.1 || z) (none_any es (ap (λ n. below_all nat_cmp n es) (eqb-true k e.0 is) ∙ below)) ∙ last (t e.1)
      by false is below rest = rest

pub some_is : (t : Session → Bool) (es : List (ℕ × SessionRecord)) → is_sorted nat_cmp es ≡ true → (m : Standing) → sessions_of es ≡ m.sessions → (x : Slot) (e : Entry) → some_row (λ r. t (session_of r)) es x e ≡ of_sessions t m x e
some_is t es sorted m is x e = any_row (λ r. t (session_of r)) x.session.0 es sorted ∙ up (row_at es x.session.0) ∙ ap (λ o. given o false t) (sym (get_session es x.session.0) ∙ ap (λ z. get z x.session.0) is)
  where
    up : (o : Option SessionRecord) → given o false (λ r. t (session_of r)) ≡ given (option_map session_of o) false t
    up None = refl
    up (Some r) = refl

pub left_of : (t : Session → Bool) (es : List (ℕ × SessionRecord)) → is_sorted nat_cmp es ≡ true → (m : Standing) → sessions_of es ≡ m.sessions → (a b : Meaning) → Leaves (loosened (some_row (λ r. t (session_of r)) es)) a b → Leaves (loosened (of_sessions t m)) a b
left_of t es sorted m is a b left = leaves_alike _ _ a b (λ x e. ap (λ z. Some (cond z (with_view None e) e)) (some_is t es sorted m is x e)) left

pub left_both : (t : Session → Bool) (g : Slot → Entry → Bool) (es : List (ℕ × SessionRecord)) → is_sorted nat_cmp es ≡ true → (m : Standing) → sessions_of es ≡ m.sessions → (a b : Meaning) → Leaves (loosened (and (some_row (λ r. t (session_of r)) es) g)) a b → Leaves (loosened (and (of_sessions t m) g)) a b
left_both t g es sorted m is a b left = leaves_alike _ _ a b (λ x e. ap (λ z. Some (cond (z && g x e) (with_view None e) e)) (some_is t es sorted m is x e)) left
