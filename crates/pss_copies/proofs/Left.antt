-- What is left where entries leave their bodies.
use Rattle.std.proofs.Common.{◌≡◌, ℕ, ◌&&◌, Bool, true, false, cond, nat_lt, List, Option, Some, None, IsSome, refl, sym, ap, ◌∙◌, subst}
use Rattle.std.specs.Prelude.{is_some, if◌then◌else◌}
use Rattle.std.specs.Option.{option_map, option_and_then}
use Rattle.std.specs.FinMap.{get}
use Rattle.std.proofs.lemmas.Bool.{lt-ltb}
use Rattle.pss_base.specs.declared.session.SessionNo.{SessionNo}
use Rattle.type_layout.specs.Types.{PlainValue}
use Rattle.type_layout.specs.Schemas.{given}
use Rattle.pss_catalog.specs.Catalog.{Catalog}
use Rattle.pss_machine.specs.declared.session.View.{View}
use Rattle.pss_machine.specs.declared.session.View.TheVariants.{Committed, Own, Kept}
use Rattle.pss_machine.specs.Owners.{Owners}
use Rattle.pss_machine.specs.Sessions.{Session, Sessions}
use Rattle.pss_machine.specs.Copies.{Loose, Copied, Entry as PlainEntry, Copies, AllCopies, entry_numbered, is_attached, with_stand, Body, body_in, detached_from, detached}
use Rattle.pss_machine.proofs.Maps.{get_each}
use Rattle.pss_machine.proofs.Logic.{none_some, same_some}
use Rattle.incarnations.specs.declared.names.Slot.{Slot}
use Rattle.incarnations.specs.declared.names.BodyName.{BodyName}
use Rattle.incarnations.specs.declared.names.Entry.{Entry}
use Rattle.incarnations.specs.Meaning.{Meaning, AreCopies, Leaves, loosened, with_view, stands_on, entries_on, slot, body, same_body, body_of, entry_at}
use Rattle.recent_table.proofs.Maps.{count_some}
use Rattle.incarnations.proofs.Keys.{slot_key, body_self}
use Rattle.pss_copies.specs.Told.{stand_told, entry_told, IsTold, AreTold}
use Rattle.pss_copies.specs.Seats.{AreSeated, AreValued}
use Rattle.pss_copies.proofs.Numbered.{let_go, numbered_detached}

-- an entry that stands on a body is told to be attached
pub stands_attached : (m : Meaning) → AreCopies m → (x : Slot) (n : ℕ) (e : Entry) (v : View) → get m.entries x ≡ Some e → e.view ≡ Some v → is_attached (entry_told m n e) ≡ true
stands_attached m are x n e v at view = ap (λ o. is_attached (record { number = n; pid = e.pid; count = e.count; stand = stand_told m e.pid o })) view ∙ by v (are.bodies x (body e.pid v) (ap (option_and_then body_of) at ∙ ap (option_map (body e.pid)) view))
  where
    by : (v : View) → IsSome (get m.bodies (body e.pid v)) → is_attached (record { number = n; pid = e.pid; count = e.count; stand = stand_told m e.pid (Some v) }) ≡ true
    by Committed some = refl
    by (Own q) some = refl
    by (Kept s) some = at_body (get m.bodies (body e.pid (Kept s))) some
      where
        at_body : (o : Option (List PlainValue)) → IsSome o → is_attached (record { number = n; pid = e.pid; count = e.count; stand = given o Loose Copied }) ≡ true
        at_body None some = absurd cc
        at_body (Some values) some = refl

module _ (f : Slot → Entry → Option Entry) (old new : Meaning) (left : Leaves f old new) where
  -- a body on which an entry stands is left as it was
  pub same_body_at : (x : Slot) (e : Entry) (v : View) → get new.entries x ≡ Some e → e.view ≡ Some v → get new.bodies (body e.pid v) ≡ get old.bodies (body e.pid v)
  same_body_at x e v at view =
      left.bodies (body e.pid v)
      ∙ ap (λ t. cond t (get old.bodies (body e.pid v)) None)
      (lt-ltb 0 (entries_on new (body e.pid v)) (count_some slot_key (stands_on (body e.pid v)) new.entries x e at (ap (λ o. given (option_map (body e.pid) o) false (same_body (body e.pid v))) view ∙ body_self (body e.pid v))))

  -- what an entry is told to stand on is as it was
  pub stand_same : (x : Slot) (e : Entry) → get new.entries x ≡ Some e → stand_told new e.pid e.view ≡ stand_told old e.pid e.view
  stand_same x e at = by e.view refl
    where
      by : (o : Option View) → e.view ≡ o → stand_told new e.pid o ≡ stand_told old e.pid o
      by None is = refl
      by (Some Committed) is = refl
      by (Some (Own n)) is = refl
      by (Some (Kept s)) is = ap (λ o. given o Loose Copied) (same_body_at x e (Kept s) at is)

  -- a body that is there was there before
  pub old_body : (b : BodyName) (values : List PlainValue) → get new.bodies b ≡ Some values → get old.bodies b ≡ Some values
  old_body b values at = by (nat_lt 0 (entries_on new b)) (sym (left.bodies b) ∙ at)
    where
      by : (t : Bool) → cond t (get old.bodies b) None ≡ Some values → get old.bodies b ≡ Some values
      by true e = e
      by false e = absurd (none_some e)

  -- one that was not there is not there
  pub none_left : (b : BodyName) → get old.bodies b ≡ None → get new.bodies b ≡ None
  none_left b none = by (get new.bodies b) refl
    where
      by : (o : Option (List PlainValue)) → get new.bodies b ≡ o → o ≡ None
      by None is = refl
      by (Some values) is = absurd (none_some (sym none ∙ old_body b values is))

  pub valued_less : (M : Catalog) (owners : Owners) → AreValued M owners old → AreValued M owners new
  valued_less M owners valued = record { committed = λ pid values at. valued.committed pid values (old_body (body pid Committed) values at); own = λ pid n values at. valued.own pid n values (old_body (body pid (Own n)) values at) }

module _ (g : Slot → Entry → Bool) (old new : Meaning) (left : Leaves (loosened g) old new) where
  -- an entry that stands on a body stood on it before
  pub kept_entry : (x : Slot) (e : Entry) (v : View) → get new.entries x ≡ Some e → e.view ≡ Some v → (get old.entries x ≡ Some e) × (g x e ≡ false)
  kept_entry x e v at view = by (get old.entries x) refl (sym (left.entries x) ∙ at)
    where
      by_test : (f : Entry) (b : Bool) → get old.entries x ≡ Some f → g x f ≡ b → cond b (with_view None f) f ≡ e → (get old.entries x ≡ Some e) × (g x e ≡ false)
      by_test f true was is same = absurd (none_some (ap (λ (y : Entry). y.view) same ∙ view))
      by_test f false was is same = (was ∙ ap Some same, sym (ap (g x) same) ∙ is)

      by : (o : Option Entry) → get old.entries x ≡ o → option_and_then (loosened g x) o ≡ Some e → (get old.entries x ≡ Some e) × (g x e ≡ false)
      by None was is = absurd (none_some is)
      by (Some f) was is = by_test f (g x f) was refl (same_some is)

  -- an entry that was not asked for stands as it did
  pub stand_stays : (x : Slot) (e : Entry) → get old.entries x ≡ Some e → g x e ≡ false → stand_told new e.pid e.view ≡ stand_told old e.pid e.view
  stand_stays x e was off = stand_same (loosened g) old new left x e (left.entries x ∙ ap (option_and_then (loosened g x)) was ∙ ap (λ b. Some (cond b (with_view None e) e)) off)

  pub seated_less : (owners : Owners) (sessions : Sessions) → AreSeated owners sessions old → AreSeated owners sessions new
  seated_less owners sessions seated x e v at view = seated x e v (kept_entry x e v at view).0 view

  module _ (owners : Owners) (sessions : Sessions) (test : SessionNo → Session → Body → Bool) where
    -- the entries that stand on a body and leave it are those whose session and body pass the test
    abbrev pub Agree : Type 0
    Agree = (x : Slot) (e : Entry) (v : View) (session : Session) → get old.entries x ≡ Some e → e.view ≡ Some v → get sessions x.session.0 ≡ Some session → g x e ≡ test x.session session (body_in owners x.session session e.pid)

    abbrev lets_go : SessionNo → PlainEntry → PlainEntry
    lets_go s e = given (get sessions s.0) e (λ session. let_go (body_in owners s session) (test s session) e)

    one_left : AreCopies old → AreSeated owners sessions old → Agree → (x : Slot) (e : Entry) → get old.entries x ≡ Some e → lets_go x.session (entry_told old x.number e) ≡ entry_told new x.number (cond (g x e) (with_view None e) e)
    one_left are seated agree x e at = by e.view refl
      where
        loose : (b : Bool) → e.view ≡ None → entry_told old x.number e ≡ entry_told new x.number (cond b (with_view None e) e)
        loose true is = ap (λ o. record { number = x.number; pid = e.pid; count = e.count; stand = stand_told old e.pid o }) is
        loose false is = ap (λ o. record { number = x.number; pid = e.pid; count = e.count; stand = stand_told old e.pid o }) is ∙ sym (ap (λ o. record { number = x.number; pid = e.pid; count = e.count; stand = stand_told new e.pid o }) is)

        not_attached : e.view ≡ None → (o : Option Session) → given o (entry_told old x.number e) (λ session. let_go (body_in owners x.session session) (test x.session session) (entry_told old x.number e)) ≡ entry_told old x.number e
        not_attached is None = refl
        not_attached is (Some session) =
            ap (λ (b : Bool). if b && test x.session session (body_in owners x.session session e.pid) then with_stand Loose (entry_told old x.number e) else entry_told old x.number e)
            (ap (λ o. is_attached (record { number = x.number; pid = e.pid; count = e.count; stand = stand_told old e.pid o })) is)

        both : (v : View) (session : Session) → e.view ≡ Some v → get sessions x.session.0 ≡ Some session → (b : Bool) → g x e ≡ b
            → lets_go x.session (entry_told old x.number e) ≡ entry_told new x.number (cond b (with_view None e) e)
        both v session is there b passes =
            ap (λ o. given o (entry_told old x.number e) (λ session. let_go (body_in owners x.session session) (test x.session session) (entry_told old x.number e))) there
            ∙ ap (λ (t : Bool). if t && test x.session session (body_in owners x.session session e.pid) then with_stand Loose (entry_told old x.number e) else entry_told old x.number e) (stands_attached old are x x.number e v at is)
            ∙ ap (λ (t : Bool). if t then with_stand Loose (entry_told old x.number e) else entry_told old x.number e) (sym (agree x e v session at is there) ∙ passes)
            ∙ last b passes
          where
            last : (b : Bool) → g x e ≡ b → (if b then with_stand Loose (entry_told old x.number e) else entry_told old x.number e) ≡ entry_told new x.number (cond b (with_view None e) e)
            last true passes = refl
            last false passes = ap (λ s. record { number = x.number; pid = e.pid; count = e.count; stand = s }) (sym (stand_stays x e at passes))

        by : (o : Option View) → e.view ≡ o → lets_go x.session (entry_told old x.number e) ≡ entry_told new x.number (cond (g x e) (with_view None e) e)
        by None is = not_attached is (get sessions x.session.0) ∙ loose (g x e) is
        by (Some v) is = (let seat = seated x e v at is in both v seat.session is seat.there (g x e) refl)

    pub told_left : AreCopies old → AreSeated owners sessions old → Agree → new.lasts ≡ old.lasts → (all : AllCopies) → AreTold old all → AreTold new (detached owners sessions test all)
    told_left are seated agree lasts all told = record { same = λ s. ap is_some (get_each in_session all s.0) ∙ some s.0 (get all s.0) ∙ told.same s ∙ sym (ap (λ l. is_some (get l s)) lasts); each = λ s copies there. one s copies (get all s.0) refl (sym (get_each in_session all s.0) ∙ there) }
      where
        in_session : ℕ → Copies → Copies
        in_session s copies = given (get sessions s) copies (λ session. detached_from (body_in owners (record { 0 = s }) session) (test (record { 0 = s }) session) copies)

        some : (s : ℕ) (o : Option Copies) → is_some (option_map (in_session s) o) ≡ is_some o
        some s None = refl
        some s (Some x) = refl

        last_of : (c : Copies) (o : Option Session) (s : SessionNo) → (given o c (λ session. detached_from (body_in owners s session) (test s session) c)).last ≡ c.last
        last_of c None s = refl
        last_of c (Some session) s = refl

        numbered_of : (c : Copies) (n : ℕ) (o : Option Session) (s : SessionNo)
            → entry_numbered (given o c (λ session. detached_from (body_in owners s session) (test s session) c)) n ≡ option_map (λ e. given o e (λ session. let_go (body_in owners s session) (test s session) e)) (entry_numbered c n)
        numbered_of c n None s = by (entry_numbered c n)
          where
            by : (o : Option PlainEntry) → o ≡ option_map (λ e. e) o
            by None = refl
            by (Some e) = refl
        numbered_of c n (Some session) s = numbered_detached (body_in owners s session) (test s session) n c

        entry_of : (s : SessionNo) (n : ℕ) (o : Option Entry) → entry_at old s n ≡ o → option_map (lets_go s) (option_map (entry_told old n) o) ≡ option_map (entry_told new n) (option_and_then (loosened g (slot s n)) o)
        entry_of s n None is = refl
        entry_of s n (Some e) is = ap Some (one_left are seated agree (slot s n) e is)

        one : (s : SessionNo) (copies : Copies) (o : Option Copies) → get all s.0 ≡ o → option_map (in_session s.0) o ≡ Some copies → IsTold new s copies
        one s copies None at is = absurd (none_some is)
        one s copies (Some c) at is =
            let before = told.each s c at in
            let same : in_session s.0 c ≡ copies = same_some is in
            subst (IsTold new s) same (record {
              last = ap (λ l. get l s) lasts ∙ before.last ∙ ap Some (sym (last_of c (get sessions s.0) s));
              entries = λ n. numbered_of c n (get sessions s.0) s ∙ ap (option_map (lets_go s)) (before.entries n) ∙ entry_of s n (entry_at old s n) refl ∙ sym (ap (option_map (entry_told new n)) (left.entries (slot s n)));
            })
