-- What entries' own copies have, whatever becomes of the entries.
use Rattle.std.proofs.Common.{◌≡◌, ℕ, Bool, true, false, cond, not, ◌==◌, ◌&&◌, ◌+◌, List, [], ◌∷◌, ◌++◌, map, Option, Some, None, refl, sym, ap, subst, ◌∙◌, inl, inr}
use Rattle.std.specs.Prelude.{filter, find, ◌⊎◌, if◌then◌else◌, unwrap_or}
use Rattle.std.specs.Option.{option_map}
use Rattle.std.specs.FinMap.{get, insert, remove}
use Rattle.pss_base.specs.declared.pid.Pid.{Pid}
use Rattle.pss_base.specs.declared.session.SessionNo.{SessionNo}
use Rattle.type_layout.specs.Types.{PlainValue}
use Rattle.type_layout.specs.Schemas.{given}
use Rattle.pss_catalog.specs.Catalog.{Catalog}
use Rattle.pss_machine.specs.declared.session.View.{View}
use Rattle.pss_machine.specs.declared.session.View.TheVariants.{Committed, Own, Kept as InCopy}
use Rattle.pss_machine.specs.Operations.{PlainAnswer, Done, Found, IsThere, Val, Number, Listing, NotFound, Gone, Nil, Duplicate, TooLarge, Busy}
use Rattle.pss_machine.specs.Maps.{each, with_at}
use Rattle.pss_machine.specs.Owners.{Owners}
use Rattle.pss_machine.specs.Sessions.{Session, Sessions}
use Rattle.pss_machine.specs.Copies.{Stand, Loose, Shared, Copied, Entry, Copies, AllCopies, no_copies, entry_for, number_for, with_count, with_stand, at_entry, obtained, is_attached, Body, body_in, values_at, stand_in, attached, detached_from, detached}
use Rattle.pss_machine.specs.Asking.{Asked}
use Rattle.pss_machine.specs.Deciding.{counting}
use Rattle.pss_machine.specs.Moving.{is_done, with_named, with_found, seated}
use Rattle.pss_machine.proofs.Cases.{of_given, of_if}
use Rattle.pss_machine.proofs.Maps.{get_each, same_or_apart, insert_here, insert_apart, remove_here, remove_apart, with_here, with_apart}

abbrev pub StandFrom : (Pid → List PlainValue → Type 0) → Pid → Stand → Type 0
StandFrom Q pid Loose = Unit {0}
StandFrom Q pid Shared = Unit {0}
StandFrom Q pid (Copied values) = Q pid values

abbrev pub EntryFrom : (Pid → List PlainValue → Type 0) → Entry → Type 0
EntryFrom Q e = StandFrom Q e.pid e.stand

abbrev pub EntriesFrom : (Pid → List PlainValue → Type 0) → List Entry → Type 0
EntriesFrom Q [] = Unit {0}
EntriesFrom Q (e ∷ es) = EntryFrom Q e × EntriesFrom Q es

abbrev pub AllFrom : (Pid → List PlainValue → Type 0) → AllCopies → Type 0
AllFrom Q all = (s : ℕ) (copies : Copies) → get all s ≡ Some copies → EntriesFrom Q copies.entries

module _ (Q : Pid → List PlainValue → Type 0) where
  map_from : (f : Entry → Entry) → ((e : Entry) → EntryFrom Q e → EntryFrom Q (f e)) → (es : List Entry) → EntriesFrom Q es → EntriesFrom Q (map f es)
  map_from f h [] from = tt
  map_from f h (e ∷ es) from = (h e from.0, map_from f h es from.1)

  filter_from : (test : Entry → Bool) (es : List Entry) → EntriesFrom Q es → EntriesFrom Q (filter test es)
  filter_from test [] from = tt
  filter_from test (e ∷ es) from = by_test (test e) (filter_from test es from.1)
    where
      by_test : (b : Bool) → EntriesFrom Q (filter test es) → EntriesFrom Q (cond b (e ∷ filter test es) (filter test es))
      by_test true rest = (from.0, rest)
      by_test false rest = rest

  append_from : (xs ys : List Entry) → EntriesFrom Q xs → EntriesFrom Q ys → EntriesFrom Q (xs ++ ys)
  append_from [] ys h g = g
  append_from (x ∷ xs) ys h g = (h.0, append_from xs ys h.1 g)

  pub found_from : (test : Entry → Bool) (es : List Entry) (e : Entry) → EntriesFrom Q es → find test es ≡ Some e → EntryFrom Q e
  found_from test [] e from is = absurd cc
  found_from test (x ∷ es) e from is = by_test (test x) is (λ is. found_from test es e from.1 is)
    where
      by_test : (b : Bool) → cond b (Some x) (find test es) ≡ Some e → (find test es ≡ Some e → EntryFrom Q e) → EntryFrom Q e
      by_test true is rest = (let same : x ≡ e = cc in subst (EntryFrom Q) same from.0)
      by_test false is rest = rest is

  abbrev From : Copies → Type 0
  From copies = EntriesFrom Q copies.entries

  at_from : (n : ℕ) (f : Entry → Entry) → ((e : Entry) → EntryFrom Q e → EntryFrom Q (f e)) → (copies : Copies) → From copies → From (at_entry n f copies)
  at_from n f h copies from = map_from (λ e. if e.number == n then f e else e) (λ e one. of_if (EntryFrom Q) (e.number == n) (f e) e (h e one) one) copies.entries from

  pub counting_from : (n count : ℕ) (copies : Copies) → From copies → From (counting n count copies)
  counting_from n count copies from = of_if From (count == 0) _ _ (filter_from (λ e. not (e.number == n)) copies.entries from) (at_from n (with_count count) (λ e one. one) copies from)

  pub detached_one : (body : Pid → Body) (test : Body → Bool) (copies : Copies) → From copies → From (detached_from body test copies)
  detached_one body test copies from =
      map_from (λ e. if is_attached e && test (body e.pid) then with_stand Loose e else e) (λ e one. of_if (EntryFrom Q) (is_attached e && test (body e.pid)) (with_stand Loose e) e tt one) copies.entries from

  obtained_from : (pid : Pid) (copies : Copies) → From copies → From (obtained pid copies)
  obtained_from pid copies from =
      of_given From (entry_for copies pid) _ _ (append_from copies.entries _ from (tt, tt)) (λ e is. at_from e.number (with_count (e.count + 1)) (λ x one. one) copies from)

  -- ---- what comes to stand on a copy has what is committed

  module _ (M : Catalog) (committed : (pid : Pid) (values : List PlainValue) → values_at M pid ≡ Some values → Q pid values) where
    stand_from : (pid : Pid) (view : View) → StandFrom Q pid (stand_in M pid view)
    stand_from pid Committed = tt
    stand_from pid (Own n) = tt
    stand_from pid (InCopy s) = of_given (StandFrom Q pid) (values_at M pid) Loose Copied tt (λ values is. committed pid values is)

    attached_from : (seen : Pid → View) (e : Entry) → EntryFrom Q e → EntryFrom Q (attached M seen e)
    attached_from seen e one = of_if (EntryFrom Q) (is_attached e) e (with_stand (stand_in M e.pid (seen e.pid)) e) one (stand_from e.pid (seen e.pid))

    named_from : (seen : Pid → View) (named : Option ℕ) (copies : Copies) → From copies → From (with_named M seen named copies)
    named_from seen None copies from = from
    named_from seen (Some n) copies from = at_from n (attached M seen) (attached_from seen) copies from

    given_from : (seen : Pid → View) (obtains : Bool) (answer : PlainAnswer) (copies : Copies) → From copies → From (with_found M seen obtains answer copies)
    given_from seen true (Found p) copies from = at_from (number_for copies p) (attached M seen) (attached_from seen) (obtained p copies) (obtained_from p copies from)
    given_from seen true Done copies from = from
    given_from seen true (IsThere b) copies from = from
    given_from seen true (Val v) copies from = from
    given_from seen true (Number n) copies from = from
    given_from seen true (Listing n first) copies from = from
    given_from seen true NotFound copies from = from
    given_from seen true (Gone p) copies from = from
    given_from seen true Nil copies from = from
    given_from seen true (Duplicate k) copies from = from
    given_from seen true TooLarge copies from = from
    given_from seen true (Busy n) copies from = from
    given_from seen false answer copies from = from

    pub seated_from : (seen : Pid → View) (asked : Asked) (answer : PlainAnswer) (copies : Copies) → From copies → From (seated M seen asked answer copies)
    seated_from seen asked answer copies from =
        of_if From (is_done answer) _ _ (given_from seen asked.obtains answer (with_named M seen asked.entry copies) (named_from seen asked.entry copies from)) from

  -- ---- all sessions

  each_from : (f : ℕ → Copies → Copies) (all : AllCopies) → ((s : ℕ) (copies : Copies) → From copies → From (f s copies)) → AllFrom Q all → AllFrom Q (each f all)
  each_from f all h from s copies there = by_found (get all s) refl (sym (get_each f all s) ∙ there)
    where
      by_found : (o : Option Copies) → get all s ≡ o → option_map (f s) o ≡ Some copies → From copies
      by_found None at e = absurd cc
      by_found (Some old) at e = (let same : f s old ≡ copies = cc in subst From same (h s old (from s old at)))

  pub detached_all : (owners : Owners) (sessions : Sessions) (test : SessionNo → Session → Body → Bool) (all : AllCopies) → AllFrom Q all → AllFrom Q (detached owners sessions test all)
  detached_all owners sessions test all from =
      each_from (λ s copies. given (get sessions s) copies (λ session. detached_from (body_in owners (record { 0 = s }) session) (test (record { 0 = s }) session) copies)) all
      (λ s copies one. of_given From (get sessions s) copies (λ session. detached_from (body_in owners (record { 0 = s }) session) (test (record { 0 = s }) session) copies) one (λ session is. detached_one (body_in owners (record { 0 = s }) session) (test (record { 0 = s }) session) copies one)) from

  pub with_all : (all : AllCopies) (n : ℕ) (f : Copies → Copies) → ((copies : Copies) → From copies → From (f copies)) → AllFrom Q all → AllFrom Q (with_at all n f)
  with_all all n f h from s copies there = by_place (same_or_apart s n)
    where
      by_found : (o : Option Copies) → get all n ≡ o → option_map f o ≡ Some copies → From copies
      by_found None at e = absurd cc
      by_found (Some old) at e = (let same : f old ≡ copies = cc in subst From same (h old (from n old at)))

      by_place : ((s ≡ n) ⊎ (s ≡ n → ⊥)) → From copies
      by_place (inl same) = by_found (get all n) refl (sym (with_here all n f) ∙ ap (get (with_at all n f)) (sym same) ∙ there)
      by_place (inr apart) = from s copies (sym (with_apart all n f s apart) ∙ there)

  pub put_all : (all : AllCopies) (n : ℕ) (new : Copies) → From new → AllFrom Q all → AllFrom Q (insert all n new)
  put_all all n new one from s copies there = by_place (same_or_apart s n)
    where
      by_place : ((s ≡ n) ⊎ (s ≡ n → ⊥)) → From copies
      by_place (inl same) = (let e : Some new ≡ Some copies = sym (insert_here all n new) ∙ ap (get (insert all n new)) (sym same) ∙ there in let is : new ≡ copies = cc in subst From is one)
      by_place (inr apart) = from s copies (sym (insert_apart all n new s apart) ∙ there)

  pub left_all : (all : AllCopies) (n : ℕ) → AllFrom Q all → AllFrom Q (remove all n)
  left_all all n from s copies there = by_place (same_or_apart s n)
    where
      by_place : ((s ≡ n) ⊎ (s ≡ n → ⊥)) → From copies
      by_place (inl same) = absurd (no (sym (remove_here all n) ∙ ap (get (remove all n)) (sym same) ∙ there))
        where
          no : None ≡ Some copies → ⊥
          no e = cc
      by_place (inr apart) = from s copies (sym (remove_apart all n s apart) ∙ there)

  -- the entries of one session are among those of all
  pub one_of : (all : AllCopies) (s : ℕ) (o : Option Copies) → get all s ≡ o → AllFrom Q all → From (unwrap_or o no_copies)
  one_of all s None at from = tt
  one_of all s (Some copies) at from = from s copies at

-- what holds of all of them holds with a weaker property
pub weaker_entries : (Q R : Pid → List PlainValue → Type 0) → ((pid : Pid) (values : List PlainValue) → Q pid values → R pid values) → (es : List Entry) → EntriesFrom Q es → EntriesFrom R es
weaker_entries Q R h [] from = tt
weaker_entries Q R h (e ∷ es) from = (weaker_stand e.stand from.0, weaker_entries Q R h es from.1)
  where
    weaker_stand : (stand : Stand) → StandFrom Q e.pid stand → StandFrom R e.pid stand
    weaker_stand Loose one = tt
    weaker_stand Shared one = tt
    weaker_stand (Copied values) one = h e.pid values one
