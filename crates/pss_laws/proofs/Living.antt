-- Each value of an object was there at first, or a create or a set gave it; so is each reference that is followed.
use Rattle.std.proofs.Common.{◌≡◌, ℕ, zero, suc, Bool, true, false, cond, ◌==◌, List, [], ◌∷◌, ◌++◌, length, Option, Some, None, refl, sym, ap, subst, ◌∙◌, inl, inr}
use Rattle.std.proofs.lemmas.Bool.{eqb-true}
use Rattle.std.specs.Prelude.{◌⊎◌, slice_set, nat_lt, unwrap_or, if◌then◌else◌}
use Rattle.std.specs.List.{slice_get, flat_map}
use Rattle.std.specs.FinMap.{get}
use Rattle.pss_base.specs.declared.pid.Pid.{Pid}
use Rattle.type_layout.specs.declared.schema.Schema.{Schema}
use Rattle.type_layout.specs.Types.{PlainValue, Int, Character, Truth, Ordinal, Text, Items, Parts, Ref}
use Rattle.type_layout.specs.Schemas.{given}
use Rattle.pss_catalog.specs.Catalog.{Object, Catalog, has, references, object_spelling}
use Rattle.pss_catalog.specs.Changes.{Change, over, last_state}
use Rattle.pss_catalog.proofs.Uniqueness.{found_over}
use Rattle.pss_machine.specs.Operations.{FindKey, FindPid, FindShort, Exists, Get, Follow, Count, ListOf, PlainOp, Create, Set, Destroy, Ask, PlainAnswer, Done, Found, Gone, Duplicate, TooLarge}
use Rattle.pss_machine.specs.Alone.{Outcome, answers, pid_at, object_of, first_gone, first_taken, stored, with_member, followed, told, alone}
use Rattle.pss_machine.specs.Copies.{Copied, Entry, Copies, values_at}
use Rattle.pss_machine.specs.Asking.{Asked}
use Rattle.pss_machine.specs.Stepping.{copied_values, told_by_copy}
use Rattle.pss_machine.specs.Beside.{Traced}
use Rattle.pss_machine.specs.Live.{Gave, SomeGave, WasGiven, IsFollowed, IsLive, AreLive}
use Rattle.pss_machine.proofs.Cases.{of_given, of_if}
use Rattle.pss_laws.proofs.Footprint.{get_one, object_there}
use Rattle.pss_laws.proofs.Stands.{StandFrom, EntriesFrom, found_from}
use Rattle.pss_laws.proofs.Naming.{named_in, NamesIt, copied_is}

-- each value of each object was given
abbrev pub Sourced : Catalog → List Traced → Catalog → Type 0
Sourced M trace N = (t : ℕ) (object : Object) (i : ℕ) (v : PlainValue) → get N t ≡ Some object → slice_get object.values i ≡ Some v → WasGiven M trace (pid_at t object) i v

-- so of the values of a copy of an object
abbrev pub ValuesGiven : Catalog → List Traced → Pid → List PlainValue → Type 0
ValuesGiven M trace pid values = (i : ℕ) (v : PlainValue) → slice_get values i ≡ Some v → WasGiven M trace pid i v

some_more : (p : Pid) (i : ℕ) (v : PlainValue) (trace : List Traced) (e : Traced) → SomeGave p i v trace → SomeGave p i v (trace ++ e ∷ [])
some_more p i v [] e h = absurd h
some_more p i v (x ∷ trace) e (inl h) = inl h
some_more p i v (x ∷ trace) e (inr h) = inr (some_more p i v trace e h)

some_last : (p : Pid) (i : ℕ) (v : PlainValue) (trace : List Traced) (e : Traced) → Gave p i v e → SomeGave p i v (trace ++ e ∷ [])
some_last p i v [] e h = inl h
some_last p i v (x ∷ trace) e h = inr (some_last p i v trace e h)

pub given_more : (M : Catalog) (trace : List Traced) (e : Traced) (p : Pid) (i : ℕ) (v : PlainValue) → WasGiven M trace p i v → WasGiven M (trace ++ e ∷ []) p i v
given_more M trace e p i v (inl h) = inl h
given_more M trace e p i v (inr h) = inr (some_more p i v trace e h)

pub sourced_more : (M : Catalog) (trace : List Traced) (e : Traced) (N : Catalog) → Sourced M trace N → Sourced M (trace ++ e ∷ []) N
sourced_more M trace e N h t object i v there value = given_more M trace e (pid_at t object) i v (h t object i v there value)

set_gives : (values : List PlainValue) (i j : ℕ) (v w : PlainValue) → slice_get (slice_set values i v) j ≡ Some w → ((j ≡ i) × (v ≡ w)) ⊎ (slice_get values j ≡ Some w)
set_gives [] i j v w e = inr e
set_gives (x ∷ values) zero zero v w e = inl (refl, cc)
set_gives (x ∷ values) zero (suc j) v w e = inr e
set_gives (x ∷ values) (suc i) zero v w e = inr e
set_gives (x ∷ values) (suc i) (suc j) v w e = elim (set_gives values i j v w e) [ inl p ↦ inl (ap suc p.0, p.1) | inr q ↦ inr q ]

-- an object that is there is of the pid's home
pub home_of_it : (N : Catalog) (p : Pid) (object : Object) → object_of N p ≡ Some object → object.home.0 ≡ p.home
home_of_it N p object e = by_found (get N p.serial) e
  where
    by_home : (o : Object) (b : Bool) → (o.home.0 == p.home) ≡ b → cond b (Some o) None ≡ Some object → object.home.0 ≡ p.home
    by_home o true is e = (let same : o ≡ object = cc in ap (λ (x : Object). x.home.0) (sym same) ∙ eqb-true o.home.0 p.home is)
    by_home o false is e = absurd cc

    by_found : (o : Option Object) → given o None (λ object. cond (object.home.0 == p.home) (Some object) None) ≡ Some object → object.home.0 ≡ p.home
    by_found None e = absurd cc
    by_found (Some o) e = by_home o (o.home.0 == p.home) refl e

module _ (S : Schema) (M : Catalog) (trace : List Traced) (N : Catalog) (sourced : Sourced M trace N) where
  pub there_given : (p : Pid) (object : Object) (i : ℕ) (v : PlainValue) → object_of N p ≡ Some object → slice_get object.values i ≡ Some v → WasGiven M trace p i v
  there_given p object i v there value =
      let home : object.home.0 ≡ p.home = home_of_it N p object there in
      subst (λ (q : Pid). WasGiven M trace q i v) (λ n. record { home = home n; serial = p.serial }) (sourced p.serial object i v (object_there N p object there) value)

  -- what is copied from it was given
  pub copy_given : (p : Pid) (values : List PlainValue) → values_at N p ≡ Some values → ValuesGiven M trace p values
  copy_given p values e i v value = by_object (object_of N p) refl e
    where
      by_object : (o : Option Object) → object_of N p ≡ o → given o None (λ object. Some object.values) ≡ Some values → WasGiven M trace p i v
      by_object None there e = absurd cc
      by_object (Some object) there e = (let same : object.values ≡ values = cc in there_given p object i v there (ap (λ (vs : List PlainValue). slice_get vs i) same ∙ value))

  -- where a value that was given leads
  follow_given : (p : Pid) (i : ℕ) (v : PlainValue) → WasGiven M trace p i v → IsFollowed M trace p i (followed N p v)
  follow_given p i (Ref None) h = h
  follow_given p i (Ref (Some q)) h = by_has (has N q)
    where
      by_has : (b : Bool) → IsFollowed M trace p i (if b then Found q else Gone q)
      by_has true = h
      by_has false = λ other. h
  follow_given p i (Int z) h = λ other. absurd (other refl)
  follow_given p i (Character c) h = λ other. absurd (other refl)
  follow_given p i (Truth b) h = λ other. absurd (other refl)
  follow_given p i (Ordinal n) h = λ other. absurd (other refl)
  follow_given p i (Text bytes) h = λ other. absurd (other refl)
  follow_given p i (Items vs) h = λ other. absurd (other refl)
  follow_given p i (Parts vs) h = λ other. absurd (other refl)

  follow_live : (p : Pid) (i : ℕ) → IsFollowed M trace p i (alone S N (Ask (Follow p i))).answer
  follow_live p i = by_object (object_of N p) refl
    where
      by_value : (object : Object) (o : Option PlainValue) → object_of N p ≡ Some object → slice_get object.values i ≡ o → IsFollowed M trace p i (given o (Gone p) (followed N p))
      by_value object None there value = λ other. absurd (other refl)
      by_value object (Some v) there value = follow_given p i v (there_given p object i v there value)

      by_object : (o : Option Object) → object_of N p ≡ o → IsFollowed M trace p i (given o (Gone p) (λ object. given (slice_get object.values i) (Gone p) (followed N p)))
      by_object None there = λ other. absurd (other refl)
      by_object (Some object) there = by_value object (slice_get object.values i) there refl

  -- an answer from the view
  pub view_live : (op : PlainOp) → IsLive M trace op (alone S N op).answer
  view_live (Ask (Follow p i)) = follow_live p i
  view_live (Ask (FindKey h k bytes)) = tt
  view_live (Ask (FindPid p)) = tt
  view_live (Ask (FindShort h serial)) = tt
  view_live (Ask (Exists p)) = tt
  view_live (Ask (Get p i)) = tt
  view_live (Ask (Count h)) = tt
  view_live (Ask (ListOf h)) = tt
  view_live (Create serial object) = tt
  view_live (Set p i v) = tt
  view_live (Destroy p) = tt

  -- and one from a copy
  pub copy_live : (copies : Copies) (asked : Asked) (values : List PlainValue) (a : PlainAnswer) → EntriesFrom (ValuesGiven M trace) copies.entries → NamesIt copies asked.op asked.entry → copied_values copies asked.entry ≡ Some values → told_by_copy N values asked.op ≡ Some a
      → IsLive M trace asked.op a
  copy_live copies asked values a from names copied is = by_op asked.op names is
    where
      from_entry : (p : Pid) → ((e : Entry) → named_in copies asked.entry ≡ Some e → e.pid ≡ p) → ValuesGiven M trace p values
      from_entry p names =
          let entry = copied_is copies asked.entry values copied in
          subst (λ (q : Pid). ValuesGiven M trace q values) (names entry.0 entry.1) (given_values entry.0 entry.1 entry.2)
        where
          by_named : (o : Option ℕ) (e : Entry) → named_in copies o ≡ Some e → e.stand ≡ Copied values → ValuesGiven M trace e.pid values
          by_named None e at stands = absurd cc
          by_named (Some n) e at stands = subst (λ stand. StandFrom (ValuesGiven M trace) e.pid stand) stands (found_from (ValuesGiven M trace) (λ x. x.number == n) copies.entries e from at)

          given_values : (e : Entry) → named_in copies asked.entry ≡ Some e → e.stand ≡ Copied values → ValuesGiven M trace e.pid values
          given_values e at stands = by_named asked.entry e at stands

      by_value : (p : Pid) (i : ℕ) (o : Option PlainValue) → ValuesGiven M trace p values → slice_get values i ≡ o → given o None (λ v. Some (followed N p v)) ≡ Some a → IsFollowed M trace p i a
      by_value p i None h value is = absurd cc
      by_value p i (Some v) h value is = (let same : followed N p v ≡ a = cc in subst (IsFollowed M trace p i) same (follow_given p i v (h i v value)))

      by_op : (op : PlainOp) → NamesIt copies op asked.entry → told_by_copy N values op ≡ Some a → IsLive M trace op a
      by_op (Ask (Follow p i)) names is = by_value p i (slice_get values i) (from_entry p names) refl is
      by_op (Ask (FindKey h k bytes)) names is = tt
      by_op (Ask (FindPid p)) names is = tt
      by_op (Ask (FindShort h serial)) names is = tt
      by_op (Ask (Exists p)) names is = tt
      by_op (Ask (Get p i)) names is = tt
      by_op (Ask (Count h)) names is = tt
      by_op (Ask (ListOf h)) names is = tt
      by_op (Create serial object) names is = tt
      by_op (Set p i v) names is = tt
      by_op (Destroy p) names is = tt

  -- ---- what an operation leaves was given, once it stands in the trace

  module _ (e : Traced) where
    abbrev Leaves : Outcome → Type 0
    Leaves outcome = e.answer ≡ outcome.answer → Sourced M (trace ++ e ∷ []) (over N outcome.changes)

    unchanged : (a : PlainAnswer) → Leaves (answers a)
    unchanged a is = sourced_more M trace e N sourced

    one_put : (s : ℕ) (object : Object) (a : PlainAnswer) → (e.answer ≡ a → (i : ℕ) (v : PlainValue) → slice_get object.values i ≡ Some v → WasGiven M (trace ++ e ∷ []) (pid_at s object) i v)
        → Leaves (record { changes = record { serial = s; state = Some object } ∷ []; answer = a })
    one_put s object a gives is t x i v there value = by_place (s == t) refl (sym (get_one S N s (Some object) t) ∙ there)
      where
        by_place : (b : Bool) → (s == t) ≡ b → cond b (Some object) (get N t) ≡ Some x → WasGiven M (trace ++ e ∷ []) (pid_at t x) i v
        by_place false p here = given_more M trace e (pid_at t x) i v (sourced t x i v here value)
        by_place true p here =
            let same : object ≡ x = cc in
            subst (λ (s : ℕ). WasGiven M (trace ++ e ∷ []) (pid_at s x) i v) (eqb-true s t p)
            (subst (λ (y : Object). WasGiven M (trace ++ e ∷ []) (pid_at s y) i v) same (gives is i v (ap (λ (y : Object). slice_get y.values i) same ∙ value)))

    one_gone : (s : ℕ) (a : PlainAnswer) → Leaves (record { changes = record { serial = s; state = None } ∷ []; answer = a })
    one_gone s a is t x i v there value = by_place (s == t) (sym (get_one S N s None t) ∙ there)
      where
        by_place : (b : Bool) → cond b None (get N t) ≡ Some x → WasGiven M (trace ++ e ∷ []) (pid_at t x) i v
        by_place false here = given_more M trace e (pid_at t x) i v (sourced t x i v here value)
        by_place true here = absurd cc

    stored_leaves : (s : ℕ) (object : Object) (a : PlainAnswer) → (e.answer ≡ a → (i : ℕ) (v : PlainValue) → slice_get object.values i ≡ Some v → WasGiven M (trace ++ e ∷ []) (pid_at s object) i v) → Leaves (stored S N s object a)
    stored_leaves s object a gives =
        of_given Leaves (first_taken S N s object) _ _ (of_if Leaves (nat_lt 8000 (length (object_spelling S object))) _ _ (unchanged TooLarge) (one_put s object a gives)) (λ k f. unchanged (Duplicate k))

    pub leaves : (op : PlainOp) → e.op ≡ op → Leaves (alone S N op)
    leaves (Create s object) is =
        of_given Leaves (first_gone N (flat_map references object.values)) _ _
        (stored_leaves s object (Found (pid_at s object)) (λ a i v value. inr (some_last (pid_at s object) i v trace e (inl (record { serial = s; object = object; op = is; answer = a; there = value })))))
        (λ q f. unchanged (Gone q))
    leaves (Set p j w) is =
        of_given Leaves (object_of N p) _ _ (unchanged (Gone p))
        (λ object there. of_given Leaves (first_gone N (references w)) _ _ (stored_leaves p.serial (with_member object j w) Done (λ a i v value. same_pid object there i v (set_given object there a i v (set_gives object.values j i w v value)))) (λ q f. unchanged (Gone q)))
      where
        same_pid : (object : Object) → object_of N p ≡ Some object → (i : ℕ) (v : PlainValue) → WasGiven M (trace ++ e ∷ []) p i v → WasGiven M (trace ++ e ∷ []) (pid_at p.serial (with_member object j w)) i v
        same_pid object there i v h =
            let home : object.home.0 ≡ p.home = home_of_it N p object there in
            subst (λ (q : Pid). WasGiven M (trace ++ e ∷ []) q i v) (λ n. record { home = sym home n; serial = p.serial }) h

        set_given : (object : Object) → object_of N p ≡ Some object → e.answer ≡ Done → (i : ℕ) (v : PlainValue) → ((i ≡ j) × (w ≡ v)) ⊎ (slice_get object.values i ≡ Some v) → WasGiven M (trace ++ e ∷ []) p i v
        set_given object there a i v (inl q) = inr (some_last p i v trace e (inr (is ∙ ap (λ (k : ℕ). Set p k w) (sym q.0) ∙ ap (Set p i) q.1, a)))
        set_given object there a i v (inr q) = given_more M trace e p i v (there_given p object i v there q)
    leaves (Destroy p) is = of_given Leaves (object_of N p) _ _ (unchanged (Gone p)) (λ object there. one_gone p.serial Done)
    leaves (Ask q) is = unchanged (told S N q)

-- ---- lists

pub live_append : (M : Catalog) (before trace : List Traced) (e : Traced) → AreLive M before trace → IsLive M (before ++ trace) e.op e.answer → AreLive M before (trace ++ e ∷ [])
live_append M before [] e h here = (subst (λ (g : List Traced). IsLive M g e.op e.answer) (append_empty before) here, tt)
  where
    append_empty : (xs : List Traced) → xs ++ [] ≡ xs
    append_empty [] = refl
    append_empty (x ∷ xs) = ap (λ ys. x ∷ ys) (append_empty xs)
live_append M before (x ∷ trace) e h here = (h.0, live_append M (before ++ x ∷ []) trace e h.1 (subst (λ (g : List Traced). IsLive M g e.op e.answer) (sym (append_assoc before (x ∷ []) trace)) here))
  where
    append_assoc : (xs ys zs : List Traced) → (xs ++ ys) ++ zs ≡ xs ++ (ys ++ zs)
    append_assoc [] ys zs = refl
    append_assoc (x ∷ xs) ys zs = ap (λ zs. x ∷ zs) (append_assoc xs ys zs)

-- changes over what was given, that were given over another catalog
pub over_sourced : (M : Catalog) (trace : List Traced) (N O : Catalog) (cs : List Change) → Sourced M trace N → Sourced M trace (over O cs) → Sourced M trace (over N cs)
over_sourced M trace N O cs h k t x i v there value = by_last (last_state cs t) (found_over N cs t) (found_over O cs t)
  where
    by_last : (o : Option (Option Object)) → get (over N cs) t ≡ unwrap_or o (get N t) → get (over O cs) t ≡ unwrap_or o (get O t) → WasGiven M trace (pid_at t x) i v
    by_last None at_n at_o = h t x i v (sym at_n ∙ there) value
    by_last (Some state) at_n at_o = k t x i v (at_o ∙ sym at_n ∙ there) value
