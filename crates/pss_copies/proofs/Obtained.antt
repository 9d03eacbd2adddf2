-- Objects that a session obtains.
use Rattle.std.proofs.Common.{arith, ◌≡◌, ℕ, ◌+◌, ◌<◌, ◌==◌, Bool, true, false, cond, List, [], ◌∷◌, ◌++◌, Option, Some, None, IsSome, IsSomeAnd, MatchOption, refl, sym, ap, ◌∙◌, subst, inl, inr}
use Rattle.std.specs.Prelude.{◌⊎◌, is_some, unwrap_or, find, Result, Ok, Err, IfOk, OnErr}
use Rattle.std.specs.Option.{option_map}
use Rattle.std.specs.FinMap.{get, insert}
use Rattle.std.proofs.lemmas.Bool.{eq-eqb}
use Rattle.pss_base.specs.declared.pid.Pid.{Pid}
use Rattle.pss_base.specs.declared.session.SessionNo.{SessionNo}
use Rattle.type_layout.specs.Schemas.{given}
use Rattle.pss_machine.specs.declared.session.View.{View}
use Rattle.pss_machine.specs.declared.session.View.TheVariants.{Committed, Own}
use Rattle.pss_machine.specs.Maps.{with_at}
use Rattle.pss_machine.specs.Same.{same_pid}
use Rattle.pss_machine.specs.Copies.{Loose, Entry as PlainEntry, Copies, no_copies, entry_numbered, entry_for, number_for, at_entry, with_count, obtained}
use Rattle.pss_machine.specs.Entries.{NumbersRise, AreOrderly}
use Rattle.pss_machine.specs.Kept.{Kept, copies_of}
use Rattle.pss_machine.proofs.Maps.{same_or_apart}
use Rattle.pss_machine.proofs.Logic.{none_some, same_some, true_false}
use Rattle.pss_session.specs.Meaning.{Meaning as Standing, HaveSessions, session_at}
use Rattle.incarnations.specs.declared.names.Slot.{Slot}
use Rattle.incarnations.specs.declared.names.Entry.{Entry}
use Rattle.incarnations.specs.Meaning.{Meaning, AreCopies, IsNew, IsAgain, IsObtained, slot, body, entry_at}
use Rattle.incarnations.proofs.Keys.{session_key, slot_key, pid_told, pid_self}
use Rattle.recent_table.proofs.Maps as maps
use Rattle.pss_copies.specs.declared.parts.Parts.{Parts}
use Rattle.pss_copies.specs.Told.{entry_told, IsTold}
use Rattle.pss_copies.specs.Seats.{Attends, IsObtainedIn}
use Rattle.pss_copies.proofs.Numbered.{numbered, numbered_pushed}
use Rattle.pss_copies.proofs.Entered.{apart_test, told_put}
use Rattle.pss_copies.proofs.Held.{told_at, copies_there, stand_by, counted_attends}

-- ---- entries by their objects

-- what is found has its number, where numbers rise
above_all : (low last : ℕ) (es : List PlainEntry) → NumbersRise low last es → (test : PlainEntry → Bool) (e : PlainEntry) → find test es ≡ Some e → low < e.number
above_all low last [] rise test e is = absurd (none_some is)
above_all low last (x ∷ es) rise test e is = by (test x) is (λ is. above_all x.number last es rise.2 test e is)
  where
    by : (b : Bool) → cond b (Some x) (find test es) ≡ Some e → (find test es ≡ Some e → x.number < e.number) → low < e.number
    by true is rest = (let one : x ≡ e = same_some is in subst (λ (z : PlainEntry). low < z.number) one rise.0)
    by false is rest = (let more = rest is in omega (arith, rise.0, more))

found_numbered : (low last : ℕ) (es : List PlainEntry) → NumbersRise low last es → (test : PlainEntry → Bool) (e : PlainEntry) → find test es ≡ Some e → numbered e.number es ≡ Some e
found_numbered low last [] rise test e is = absurd (none_some is)
found_numbered low last (x ∷ es) rise test e is = by (test x) is (λ is. found_numbered x.number last es rise.2 test e is) (λ is. above_all x.number last es rise.2 test e is)
  where
    by : (b : Bool) → cond b (Some x) (find test es) ≡ Some e → (find test es ≡ Some e → numbered e.number es ≡ Some e) → (find test es ≡ Some e → x.number < e.number) → cond (x.number == e.number) (Some x) (numbered e.number es) ≡ Some e
    by true is rest up = (let one : x ≡ e = same_some is in ap (λ b. cond b (Some x) (numbered e.number es)) (eq-eqb x.number e.number (ap (λ (z : PlainEntry). z.number) one)) ∙ ap Some one)
    by false is rest up = (let more = up is in ap (λ b. cond b (Some x) (numbered e.number es)) (apart_test x.number e.number (λ same. omega (arith, more, same))) ∙ rest is)

-- what is found passes
passes : (test : PlainEntry → Bool) (es : List PlainEntry) (e : PlainEntry) → find test es ≡ Some e → test e ≡ true
passes test [] e is = absurd (none_some is)
passes test (x ∷ es) e is = by (test x) refl is (λ is. passes test es e is)
  where
    by : (b : Bool) → test x ≡ b → cond b (Some x) (find test es) ≡ Some e → (find test es ≡ Some e → test e ≡ true) → test e ≡ true
    by true at is rest = ap test (sym (same_some is)) ∙ at
    by false at is rest = rest is

-- what passes is found
not_missed : (one other : PlainEntry → Bool) (es : List PlainEntry) (e : PlainEntry) → find one es ≡ Some e → other e ≡ true → find other es ≡ None → ⊥
not_missed one other [] e is at none = none_some is
not_missed one other (x ∷ es) e is at none = by (one x) (other x) refl is none (λ is none. not_missed one other es e is at none)
  where
    by : (a b : Bool) → other x ≡ b → cond a (Some x) (find one es) ≡ Some e → cond b (Some x) (find other es) ≡ None → (find one es ≡ Some e → find other es ≡ None → ⊥) → ⊥
    by a true at_x is none rest = none_some (sym none)
    by true false at_x is none rest = true_false at (ap other (sym (same_some is)) ∙ at_x)
    by false false at_x is none rest = rest is none

-- ---- what obtaining leaves

module _ (k : Kept) (old new : Parts) (s : SessionNo) (pid : Pid) (n : ℕ) (are : AreCopies old.copies) (at : Attends k old) (orderly : AreOrderly (copies_of k s)) (stays : new.sessions ≡ old.sessions) where
  abbrev c : Copies
  c = copies_of k s

  told_here : (q : ℕ) → entry_numbered (copies_of k s) q ≡ option_map (entry_told old.copies q) (entry_at old.copies s q)
  told_here q = told_at old.copies k.copies are at.seats.told s q

  -- an entry for an object is kept under its number
  record Kept_for (e : PlainEntry) : Type 0 where
    entry : Entry
    there : entry_at old.copies s e.number ≡ Some entry
    pid_is : entry.pid ≡ pid
    count_is : e.count ≡ entry.count

  kept_for : (e : PlainEntry) → entry_for (copies_of k s) pid ≡ Some e → Kept_for e
  kept_for e is = by (entry_at old.copies s e.number) refl (sym (found_numbered 0 (copies_of k s).last (copies_of k s).entries orderly.numbers (λ e. same_pid e.pid pid) e is) ∙ told_here e.number)
    where
      by : (o : Option Entry) → entry_at old.copies s e.number ≡ o → Some e ≡ option_map (entry_told old.copies e.number) o → Kept_for e
      by None was told = absurd (none_some (sym told))
      by (Some f) was told =
          let one : e ≡ entry_told old.copies e.number f = same_some told in
          record { entry = f; there = was; pid_is = sym (ap (λ (z : PlainEntry). z.pid) one) ∙ pid_told e.pid pid (passes (λ e. same_pid e.pid pid) (copies_of k s).entries e is); count_is = ap (λ (z : PlainEntry). z.count) one }

  -- again
  again : (e : Entry) → entry_at old.copies s n ≡ Some e → IsAgain old.copies new.copies s pid n e → IsObtainedIn k s pid n new
  again e was is = by (entry_for (copies_of k s) pid) refl
    where
      has : get k.copies s.0 ≡ Some (copies_of k s)
      has = copies_there old.copies k.copies are at.seats.told s n e was

      told_n : entry_numbered (copies_of k s) n ≡ Some (entry_told old.copies n e)
      told_n = told_here n ∙ ap (option_map (entry_told old.copies n)) was

      by : (o : Option PlainEntry) → entry_for (copies_of k s) pid ≡ o → IsObtainedIn k s pid n new
      by None none = absurd (not_missed (λ e. e.number == n) (λ e. same_pid e.pid pid) (copies_of k s).entries (entry_told old.copies n e) told_n (ap (λ p. same_pid p pid) is.same ∙ pid_self pid) none)
      by (Some f) found =
          let h = kept_for f found in
          let slots : slot s f.number ≡ slot s n = are.objects (slot s f.number) (slot s n) h.entry e h.there was refl (h.pid_is ∙ sym is.same) in
          let number : f.number ≡ n = ap (λ (x : Slot). x.number) slots in
          let entry : h.entry ≡ e = same_some (sym h.there ∙ ap (entry_at old.copies s) number ∙ was) in
          let count : f.count + 1 ≡ e.count + 1 = ap (λ m. m + 1) (h.count_is ∙ ap (λ (z : Entry). z.count) entry) in
          let into : obtained pid (copies_of k s) ≡ at_entry n (with_count (e.count + 1)) (copies_of k s) =
          ap (λ o. given o (record { last = (copies_of k s).last + 1; entries = (copies_of k s).entries ++ record { number = (copies_of k s).last + 1; pid = pid; count = 1; stand = Loose } ∷ [] }) (λ g. at_entry g.number (with_count (g.count + 1)) (copies_of k s))) found
          ∙ ap (λ m. at_entry m (with_count (f.count + 1)) (copies_of k s)) number ∙ ap (λ m. at_entry n (with_count m) (copies_of k s)) count in
          let all : with_at k.copies s.0 (obtained pid) ≡ insert k.copies s.0 (at_entry n (with_count (e.count + 1)) (copies_of k s)) = ap (λ o. given o k.copies (λ c. insert k.copies s.0 (obtained pid c))) has ∙ ap (insert k.copies s.0) into in (
            sym (ap (λ o. given o ((copies_of k s).last + 1) (λ g. g.number)) found ∙ number),
            subst (λ all. Attends (record k { copies = all }) new) (sym all) (counted_attends k old new s n (e.count + 1) e are at was stays is.is),
          )

  -- for the first time
  first_time : (last : ℕ) → get old.copies.lasts s ≡ Some last → entry_at old.copies s n ≡ None → IsNew old.copies new.copies s pid n → IsObtainedIn k s pid n new
  first_time last last_is none is = (
    sym number,
    subst (λ all. Attends (record k { copies = all }) new) (sym all) (record {
      sessions = ap (λ (q : Standing). q.sessions) stays ∙ at.sessions;
      next = ap (λ (q : Standing). q.next) stays ∙ at.next;
      seats = record {
        told = told_put old.copies new.copies k.copies s pushed at.seats.told there one lasts_away others;
        seated = λ x e v here view. at.seats.seated x e v (before x e v here view (maps.same_or_apart slot_key x (slot s n))) view;
        valued = record {
          committed = λ pid values here. at.seats.valued.committed pid values (ap (λ b. get b (body pid Committed)) (sym bodies) ∙ here);
          own = λ pid m values here. at.seats.valued.own pid m values (ap (λ b. get b (body pid (Own m))) (sym bodies) ∙ here);
        };
      };
    }),
  )
    where
      bodies : new.copies.bodies ≡ old.copies.bodies
      bodies = ap (λ (m : Meaning). m.bodies) is.is

      entries_are : new.copies.entries ≡ insert old.copies.entries (slot s n) (record { pid = pid; count = 1; view = None })
      entries_are = ap (λ (m : Meaning). m.entries) is.is

      n_is : n ≡ last + 1
      n_is = by (get old.copies.lasts s) last_is is.next
        where
          by : (o : Option ℕ) → o ≡ Some last → IsSomeAnd o (λ last. n ≡ last + 1) → n ≡ last + 1
          by None e h = absurd h
          by (Some l) e h = h ∙ ap (λ m. m + 1) (same_some e)

      has : (o : Option Copies) → get k.copies s.0 ≡ o → get k.copies s.0 ≡ Some (unwrap_or o no_copies)
      has None e = absurd (true_false (at.seats.told.same s ∙ ap is_some last_is) (ap is_some e))
      has (Some c) e = e

      there_is : get k.copies s.0 ≡ Some (copies_of k s)
      there_is = has (get k.copies s.0) refl

      there : IsSome (get k.copies s.0)
      there = subst IsSome (sym there_is) refl

      was : IsTold old.copies s (copies_of k s)
      was = at.seats.told.each s (copies_of k s) there_is

      last_same : last ≡ (copies_of k s).last
      last_same = same_some (sym last_is ∙ was.last)

      nobody : entry_for (copies_of k s) pid ≡ None
      nobody = by (entry_for (copies_of k s) pid) refl
        where
          by : (o : Option PlainEntry) → entry_for (copies_of k s) pid ≡ o → o ≡ None
          by None e = refl
          by (Some f) e = (let h = kept_for f e in absurd (is.none f.number h.entry h.there h.pid_is))

      number : number_for (copies_of k s) pid ≡ n
      number = ap (λ o. given o ((copies_of k s).last + 1) (λ g. g.number)) nobody ∙ ap (λ m. m + 1) (sym last_same) ∙ sym n_is

      pushed : Copies
      pushed = record { last = (copies_of k s).last + 1; entries = (copies_of k s).entries ++ record { number = (copies_of k s).last + 1; pid = pid; count = 1; stand = Loose } ∷ [] }

      all : with_at k.copies s.0 (obtained pid) ≡ insert k.copies s.0 (record { last = (copies_of k s).last + 1; entries = (copies_of k s).entries ++ record { number = (copies_of k s).last + 1; pid = pid; count = 1; stand = Loose } ∷ [] })
      all = ap (λ o. given o k.copies (λ c. insert k.copies s.0 (obtained pid c))) there_is
          ∙ ap (λ o. insert k.copies s.0 (given o (record { last = (copies_of k s).last + 1; entries = (copies_of k s).entries ++ record { number = (copies_of k s).last + 1; pid = pid; count = 1; stand = Loose } ∷ [] }) (λ g. at_entry g.number (with_count (g.count + 1)) (copies_of k s)))) nobody

      lasts_away : (t : SessionNo) → (t.0 ≡ s.0 → ⊥) → get new.copies.lasts t ≡ get old.copies.lasts t
      lasts_away t ne = ap (λ (m : Meaning). get m.lasts t) is.is ∙ maps.insert_apart session_key old.copies.lasts s n t (λ e. ne (ap (λ (q : SessionNo). q.0) e))

      entry_away : (t : SessionNo) (q : ℕ) → (slot t q ≡ slot s n → ⊥) → entry_at new.copies t q ≡ entry_at old.copies t q
      entry_away t q ne = ap (λ m. get m (slot t q)) entries_are ∙ maps.insert_apart slot_key old.copies.entries (slot s n) _ (slot t q) ne

      entry_here : entry_at new.copies s n ≡ Some (record { pid = pid; count = 1; view = None })
      entry_here = ap (λ m. get m (slot s n)) entries_are ∙ maps.insert_here slot_key old.copies.entries (slot s n) _

      told_same : (q : ℕ) (o : Option Entry) → option_map (entry_told new.copies q) o ≡ option_map (entry_told old.copies q) o
      told_same q None = refl
      told_same q (Some f) = ap (λ d. Some (record { number = q; pid = f.pid; count = f.count; stand = d })) (stand_by new.copies old.copies bodies f.pid f.view)

      others : (t : SessionNo) → (t.0 ≡ s.0 → ⊥) → (q : ℕ) → option_map (entry_told new.copies q) (entry_at new.copies t q) ≡ option_map (entry_told old.copies q) (entry_at old.copies t q)
      others t ne q = ap (option_map (entry_told new.copies q)) (entry_away t q (λ e. ne (ap (λ (x : Slot). x.session.0) e))) ∙ told_same q (entry_at old.copies t q)

      before : (x : Slot) (e : Entry) (v : View) → get new.copies.entries x ≡ Some e → e.view ≡ Some v → ((x ≡ slot s n) ⊎ (x ≡ slot s n → ⊥)) → get old.copies.entries x ≡ Some e
      before x e v here view (inl same) = absurd (none_some (ap (λ (z : Entry). z.view) (same_some (sym entry_here ∙ ap (get new.copies.entries) (sym same) ∙ here)) ∙ view))
      before x e v here view (inr ne) = sym (ap (λ m. get m x) entries_are ∙ maps.insert_apart slot_key old.copies.entries (slot s n) _ x ne) ∙ here

      one : IsTold new.copies s (record { last = (copies_of k s).last + 1; entries = (copies_of k s).entries ++ record { number = (copies_of k s).last + 1; pid = pid; count = 1; stand = Loose } ∷ [] })
      one = record { last = ap (λ (m : Meaning). get m.lasts s) is.is ∙ maps.insert_here session_key old.copies.lasts s n ∙ ap Some (n_is ∙ ap (λ m. m + 1) last_same); entries = λ q. by q (same_or_apart q n) }
        where
          m_is : n ≡ (copies_of k s).last + 1
          m_is = n_is ∙ ap (λ m. m + 1) last_same

          by : (q : ℕ) → ((q ≡ n) ⊎ (q ≡ n → ⊥)) → numbered q ((copies_of k s).entries ++ record { number = (copies_of k s).last + 1; pid = pid; count = 1; stand = Loose } ∷ []) ≡ option_map (entry_told new.copies q) (entry_at new.copies s q)
          by q (inl same) =
              numbered_pushed q (record { number = (copies_of k s).last + 1; pid = pid; count = 1; stand = Loose }) (copies_of k s).entries
              ∙ ap (λ o. given o (cond (((copies_of k s).last + 1) == q) (Some (record { number = (copies_of k s).last + 1; pid = pid; count = 1; stand = Loose })) None) Some) (told_here q ∙ ap (λ r. option_map (entry_told old.copies r) (entry_at old.copies s r)) same ∙ ap (option_map (entry_told old.copies n)) none)
              ∙ ap (λ b. cond b (Some (record { number = (copies_of k s).last + 1; pid = pid; count = 1; stand = Loose })) None) (eq-eqb ((copies_of k s).last + 1) q (sym m_is ∙ sym same))
              ∙ ap (λ r. Some (record { number = r; pid = pid; count = 1; stand = Loose })) (sym m_is ∙ sym same)
              ∙ sym (ap (λ r. option_map (entry_told new.copies q) (entry_at new.copies s r)) same ∙ ap (option_map (entry_told new.copies q)) entry_here)
          by q (inr ne) =
              numbered_pushed q (record { number = (copies_of k s).last + 1; pid = pid; count = 1; stand = Loose }) (copies_of k s).entries
              ∙ ap (λ b. given (numbered q (copies_of k s).entries) (cond b (Some (record { number = (copies_of k s).last + 1; pid = pid; count = 1; stand = Loose })) None) Some) (apart_test ((copies_of k s).last + 1) q (λ e. ne (sym e ∙ sym m_is)))
              ∙ whole (numbered q (copies_of k s).entries)
              ∙ told_here q
              ∙ sym (ap (option_map (entry_told new.copies q)) (entry_away s q (λ e. ne (ap (λ (x : Slot). x.number) e))) ∙ told_same q (entry_at old.copies s q))
            where
              whole : (o : Option PlainEntry) → given o None Some ≡ o
              whole None = refl
              whole (Some e) = refl

  pub obtained_attends : IsSome (get old.copies.lasts s) → IsObtained old.copies new.copies s pid n → IsObtainedIn k s pid n new
  obtained_attends some is = by (entry_at old.copies s n) refl is
    where
      by_last : (o : Option ℕ) → get old.copies.lasts s ≡ o → IsSome o → entry_at old.copies s n ≡ None → IsNew old.copies new.copies s pid n → IsObtainedIn k s pid n new
      by_last None e h none new_is = absurd cc
      by_last (Some last) e h none new_is = first_time last e none new_is

      by : (o : Option Entry) → entry_at old.copies s n ≡ o → MatchOption o (IsNew old.copies new.copies s pid n) (IsAgain old.copies new.copies s pid n) → IsObtainedIn k s pid n new
      by None none is = by_last (get old.copies.lasts s) refl some none is
      by (Some e) was is = again e was is

pub obtained_where : {E : Type 0} (old new : Parts) (s : SessionNo) (pid : Pid) (result : Result ℕ E) → AreCopies old.copies → new.sessions ≡ old.sessions → IsSome (get old.copies.lasts s) → IfOk result (IsObtained old.copies new.copies s pid)
    → IfOk result (λ n. (k : Kept) → AreOrderly (copies_of k s) → Attends k old → IsObtainedIn k s pid n new)
obtained_where old new s pid (Ok n) are stays some is = λ k orderly at. obtained_attends k old new s pid n are at orderly stays some is
obtained_where old new s pid (Err e) are stays some is = tt

-- the copies have the sessions after it
pub obtained_have : {E : Type 0} (st : Standing) (old new : Meaning) (s : SessionNo) (pid : Pid) (result : Result ℕ E) → HaveSessions st old → IsSome (get old.lasts s) → IfOk result (IsObtained old new s pid) → OnErr result (new ≡ old) → HaveSessions st new
obtained_have st old new s pid (Err e) have some is same q = ap (λ (m : Meaning). is_some (get m.lasts q)) same ∙ have q
obtained_have st old new s pid (Ok n) have some is same q = by (entry_at old s n) is
  where
    inserted : new.lasts ≡ insert old.lasts s n → is_some (get new.lasts q) ≡ is_some (get old.lasts q)
    inserted e = ap (λ l. is_some (get l q)) e ∙ at (maps.same_or_apart session_key q s)
      where
        some_is : (o : Option ℕ) → IsSome o → is_some o ≡ true
        some_is None h = absurd cc
        some_is (Some x) h = refl

        at : ((q ≡ s) ⊎ (q ≡ s → ⊥)) → is_some (get (insert old.lasts s n) q) ≡ is_some (get old.lasts q)
        at (inl e) = ap is_some (ap (get (insert old.lasts s n)) e ∙ maps.insert_here session_key old.lasts s n) ∙ sym (ap (λ z. is_some (get old.lasts z)) e ∙ some_is (get old.lasts s) some)
        at (inr ne) = ap is_some (maps.insert_apart session_key old.lasts s n q ne)

    by : (o : Option Entry) → MatchOption o (IsNew old new s pid n) (IsAgain old new s pid n) → is_some (get new.lasts q) ≡ is_some (session_at st q)
    by None is = inserted (ap (λ (m : Meaning). m.lasts) is.is) ∙ have q
    by (Some e) is = ap (λ (m : Meaning). is_some (get m.lasts q)) is.is ∙ have q
