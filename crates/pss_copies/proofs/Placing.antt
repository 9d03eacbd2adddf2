-- Entries that come to stand on bodies.
use Rattle.std.proofs.Common.{◌≡◌, ℕ, Bool, true, false, List, Option, Some, None, IsSome, IsSomeAnd, refl, sym, ap, ◌∙◌, subst, inl, inr}
use Rattle.std.specs.Prelude.{◌⊎◌, Result, Ok, Err, OnOk, if◌then◌else◌}
use Rattle.std.specs.Option.{option_map, option_and_then}
use Rattle.std.specs.FinMap.{get, insert}
use Rattle.pss_base.specs.declared.pid.Pid.{Pid}
use Rattle.pss_base.specs.declared.owner.OwnerNo.{OwnerNo}
use Rattle.pss_base.specs.declared.session.SessionNo.{SessionNo}
use Rattle.type_layout.specs.Types.{PlainValue}
use Rattle.type_layout.specs.Schemas.{given}
use Rattle.pss_machine.specs.declared.session.View.{View}
use Rattle.pss_machine.specs.declared.session.View.TheVariants.{Committed, Own, Kept as InCopy}
use Rattle.pss_machine.specs.Maps.{with_at}
use Rattle.pss_machine.specs.Sessions.{Session}
use Rattle.pss_machine.specs.Copies.{Copied, Loose, Entry as PlainEntry, at_entry, with_stand, is_attached, view_in, values_at, stand_in, attached}
use Rattle.pss_machine.specs.Kept.{Kept, copies_of}
use Rattle.pss_machine.specs.Moving.{seen_in}
use Rattle.pss_machine.specs.Attaching.{is_open}
use Rattle.pss_machine.proofs.Logic.{none_some, same_some}
use Rattle.pss_session.specs.Meaning.{Meaning as Standing}
use Rattle.incarnations.specs.declared.names.Slot.{Slot}
use Rattle.incarnations.specs.declared.names.BodyName.{BodyName}
use Rattle.incarnations.specs.declared.names.Entry.{Entry}
use Rattle.incarnations.specs.Meaning as copy
use Rattle.incarnations.specs.Meaning.{Meaning, AreCopies, slot, body, body_of, entry_at, with_entry, with_view}
use Rattle.incarnations.proofs.Keys.{body_key}
use Rattle.recent_table.proofs.Maps as maps
use Rattle.pss_copies.specs.declared.parts.Parts.{Parts}
use Rattle.pss_copies.specs.Told.{stand_told, entry_told, AreTold}
use Rattle.pss_copies.specs.Seats.{OwnerSees, AreValued, Attends, IsShared, IsRecordIn, seated_at}
use Rattle.pss_copies.proofs.Entered.{Sets, set_told}
use Rattle.pss_copies.proofs.Held.{copies_there, stand_by, set_seated}

module _ (k : Kept) (old new : Parts) (s : SessionNo) (n : ℕ) (view : View) (e : Entry) (x : Session) (are : AreCopies old.copies) (at : Attends k old) (was : entry_at old.copies s n ≡ Some e) (loose : e.view ≡ None) (stays : new.sessions ≡ old.sessions)
    (there : get k.sessions s.0 ≡ Some x) (goes_on : is_open x ≡ true) (seen : view ≡ view_in k.owners s x e.pid) where
  has : get k.copies s.0 ≡ Some (copies_of k s)
  has = copies_there old.copies k.copies are at.seats.told s n e was

  -- the seats, where the entry stands on the view, which is told so
  placed : (next : Entry) → next ≡ with_view (Some view) e → Sets old.copies new.copies s n e next → stand_told new.copies e.pid (Some view) ≡ stand_in k.catalog e.pid view → AreValued k.catalog k.owners new.copies → Attends (seated_at k s n) new
  placed next is sets stand valued = record {
    sessions = ap (λ (q : Standing). q.sessions) stays ∙ at.sessions;
    next = ap (λ (q : Standing). q.next) stays ∙ at.next;
    seats = record {
      told = subst (AreTold new.copies) (sym inserted) (set_told old.copies new.copies s n e next sets f keeps makes k.copies (copies_of k s) has at.seats.told);
      seated = set_seated old.copies new.copies s n e next sets k.owners k.sessions at.seats.seated (ap (λ (z : Entry). z.pid) is)
          (λ v on. record { session = x; there = there; goes_on = goes_on; seen = sym (same_some (sym (ap (λ (z : Entry). z.view) is) ∙ on)) ∙ seen });
      valued = valued;
    };
  }
    where
      f : PlainEntry → PlainEntry
      f = attached k.catalog (seen_in k.owners k.sessions s)

      keeps : (y : PlainEntry) → (attached k.catalog (seen_in k.owners k.sessions s) y).number ≡ y.number
      keeps y = by (is_attached y)
        where
          by : (b : Bool) → (if b then y else with_stand (stand_in k.catalog y.pid (seen_in k.owners k.sessions s y.pid)) y).number ≡ y.number
          by true = refl
          by false = refl

      inserted : with_at k.copies s.0 (at_entry n (attached k.catalog (seen_in k.owners k.sessions s))) ≡ insert k.copies s.0 (at_entry n (attached k.catalog (seen_in k.owners k.sessions s)) (copies_of k s))
      inserted = ap (λ o. given o k.copies (λ c. insert k.copies s.0 (at_entry n (attached k.catalog (seen_in k.owners k.sessions s)) c))) has

      seen_is : seen_in k.owners k.sessions s e.pid ≡ view
      seen_is = ap (λ o. given o Committed (λ session. view_in k.owners s session e.pid)) there ∙ sym seen

      makes : attached k.catalog (seen_in k.owners k.sessions s) (entry_told old.copies n e) ≡ entry_told new.copies n next
      makes =
          ap (λ o. attached k.catalog (seen_in k.owners k.sessions s) (record { number = n; pid = e.pid; count = e.count; stand = stand_told old.copies e.pid o })) loose
          ∙ ap (λ v. record { number = n; pid = e.pid; count = e.count; stand = stand_in k.catalog e.pid v }) seen_is
          ∙ ap (λ d. record { number = n; pid = e.pid; count = e.count; stand = d }) (sym stand)
          ∙ sym (ap (entry_told new.copies n) is)

  -- a body that is there is shared
  pub shared_attends : IsShared view → new.copies ≡ with_entry old.copies (slot s n) (with_view (Some view) e) → Attends (seated_at k s n) new
  shared_attends shared is = placed (with_view (Some view) e) refl
      (record { there = was; lasts = ap (λ (m : Meaning). m.lasts) is; entries = ap (λ (m : Meaning). m.entries) is; stands = λ y g ne at. stand_by new.copies old.copies bodies g.pid g.view })
      (by view shared)
      (record {
        committed = λ pid values here. at.seats.valued.committed pid values (ap (λ b. get b (body pid Committed)) (sym bodies) ∙ here);
        own = λ pid m values here. at.seats.valued.own pid m values (ap (λ b. get b (body pid (Own m))) (sym bodies) ∙ here);
      })
    where
      bodies : new.copies.bodies ≡ old.copies.bodies
      bodies = ap (λ (m : Meaning). m.bodies) is

      by : (v : View) → IsShared v → stand_told new.copies e.pid (Some v) ≡ stand_in k.catalog e.pid v
      by Committed h = refl
      by (Own m) h = refl
      by (InCopy t) h = absurd h

  -- a new body has the record that the session sees
  pub attached_attends : (value : List PlainValue) → IsRecordIn k e.pid view value → get old.copies.bodies (body e.pid view) ≡ None → new.copies ≡ copy.attached old.copies (slot s n) view value e → Attends (seated_at k s n) new
  attached_attends value right free is = placed (with_view (Some view) e) refl
      (record { there = was; lasts = ap (λ (m : Meaning). m.lasts) is; entries = ap (λ (m : Meaning). m.entries) is; stands = λ y g ne at. other g.view y g at })
      (by view refl right)
      (record {
        committed = λ pid values here. committed pid values here (maps.same_or_apart body_key (body pid Committed) (body e.pid view));
        own = λ pid m values here. own pid m values here (maps.same_or_apart body_key (body pid (Own m)) (body e.pid view));
      })
    where
      bodies : new.copies.bodies ≡ insert old.copies.bodies (body e.pid view) value
      bodies = ap (λ (m : Meaning). m.bodies) is

      here_is : get new.copies.bodies (body e.pid view) ≡ Some value
      here_is = ap (λ b. get b (body e.pid view)) bodies ∙ maps.insert_here body_key old.copies.bodies (body e.pid view) value

      away : (b : BodyName) → (b ≡ body e.pid view → ⊥) → get new.copies.bodies b ≡ get old.copies.bodies b
      away b ne = ap (λ m. get m b) bodies ∙ maps.insert_apart body_key old.copies.bodies (body e.pid view) value b ne

      by : (v : View) → view ≡ v → IsRecordIn k e.pid v value → stand_told new.copies e.pid (Some v) ≡ stand_in k.catalog e.pid v
      by Committed same h = refl
      by (Own m) same h = refl
      by (InCopy t) same h = ap (λ o. given o Loose Copied) (ap (λ w. get new.copies.bodies (body e.pid w)) (sym same) ∙ here_is) ∙ sym (ap (λ o. given o Loose Copied) h)

      -- no entry stood on it
      nobody : (y : Slot) (g : Entry) (v : View) → get old.copies.entries y ≡ Some g → g.view ≡ Some v → body g.pid v ≡ body e.pid view → ⊥
      nobody y g v at on same = none (get old.copies.bodies (body g.pid v)) (ap (get old.copies.bodies) same ∙ free) (are.bodies y (body g.pid v) (ap (option_and_then body_of) at ∙ ap (option_map (body g.pid)) on))
        where
          none : (o : Option (List PlainValue)) → o ≡ None → IsSome o → ⊥
          none None is h = absurd cc
          none (Some v) is h = none_some (sym is)

      other : (o : Option View) (y : Slot) (g : Entry) → get old.copies.entries y ≡ Some g → stand_told new.copies g.pid g.view ≡ stand_told old.copies g.pid g.view
      other _ y g at = each g.view refl
        where
          each : (o : Option View) → g.view ≡ o → stand_told new.copies g.pid o ≡ stand_told old.copies g.pid o
          each None on = refl
          each (Some Committed) on = refl
          each (Some (Own m)) on = refl
          each (Some (InCopy t)) on = ap (λ o. given o Loose Copied) (away (body g.pid (InCopy t)) (nobody y g (InCopy t) at on))

      committed : (pid : Pid) (values : List PlainValue) → get new.copies.bodies (body pid Committed) ≡ Some values → ((body pid Committed ≡ body e.pid view) ⊎ (body pid Committed ≡ body e.pid view → ⊥)) → values_at k.catalog pid ≡ Some values
      committed pid values here (inr ne) = at.seats.valued.committed pid values (sym (away (body pid Committed) ne) ∙ here)
      committed pid values here (inl same) =
          let one : value ≡ values = same_some (sym here_is ∙ ap (get new.copies.bodies) (sym same) ∙ here) in
          let p : pid ≡ e.pid = ap (λ (b : BodyName). b.pid) same in
          let v : view ≡ Committed = sym (ap (λ (b : BodyName). b.view) same) in
          subst (λ q. values_at k.catalog q ≡ Some values) (sym p) (subst (λ w. values_at k.catalog e.pid ≡ Some w) one (subst (λ w. IsRecordIn k e.pid w value) v right))

      own : (pid : Pid) (m : OwnerNo) (values : List PlainValue) → get new.copies.bodies (body pid (Own m)) ≡ Some values → ((body pid (Own m) ≡ body e.pid view) ⊎ (body pid (Own m) ≡ body e.pid view → ⊥)) → OwnerSees k.catalog k.owners m pid values
      own pid m values here (inr ne) = at.seats.valued.own pid m values (sym (away (body pid (Own m)) ne) ∙ here)
      own pid m values here (inl same) =
          let one : value ≡ values = same_some (sym here_is ∙ ap (get new.copies.bodies) (sym same) ∙ here) in
          let p : pid ≡ e.pid = ap (λ (b : BodyName). b.pid) same in
          let v : view ≡ Own m = sym (ap (λ (b : BodyName). b.view) same) in
          subst (λ q. OwnerSees k.catalog k.owners m q values) (sym p) (subst (OwnerSees k.catalog k.owners m e.pid) one (subst (λ w. IsRecordIn k e.pid w value) v right))

-- ---- what the calls leave

pub share_attends : (old new : Parts) (s : SessionNo) (n : ℕ) (view : View) → AreCopies old.copies → new.sessions ≡ old.sessions
    → IsSomeAnd (entry_at old.copies s n) (λ e. (e.view ≡ None) × IsSome (get old.copies.bodies (body e.pid view))) → IsSomeAnd (entry_at old.copies s n) (λ e. new.copies ≡ with_entry old.copies (slot s n) (with_view (Some view) e))
    → (k : Kept) (x : Session) → get k.sessions s.0 ≡ Some x → is_open x ≡ true → IsSomeAnd (entry_at old.copies s n) (λ e. view ≡ view_in k.owners s x e.pid) → IsShared view → Attends k old → Attends (seated_at k s n) new
share_attends old new s n view are stays may is k x there goes_on seen shared at = by (entry_at old.copies s n) refl may is seen
  where
    by : (o : Option Entry) → entry_at old.copies s n ≡ o → IsSomeAnd o (λ e. (e.view ≡ None) × IsSome (get old.copies.bodies (body e.pid view))) → IsSomeAnd o (λ e. new.copies ≡ with_entry old.copies (slot s n) (with_view (Some view) e)) → IsSomeAnd o (λ e. view ≡ view_in k.owners s x e.pid)
        → Attends (seated_at k s n) new
    by None was may is seen = absurd may
    by (Some e) was may is seen = shared_attends k old new s n view e x are at was may.0 stays there goes_on seen shared is

pub attach_attends : (old new : Parts) (s : SessionNo) (n : ℕ) (view : View) (value : List PlainValue) → AreCopies old.copies → new.sessions ≡ old.sessions
    → IsSomeAnd (entry_at old.copies s n) (λ e. (e.view ≡ None) × (get old.copies.bodies (body e.pid view) ≡ None)) → IsSomeAnd (entry_at old.copies s n) (λ e. new.copies ≡ copy.attached old.copies (slot s n) view value e)
    → (k : Kept) (x : Session) → get k.sessions s.0 ≡ Some x → is_open x ≡ true → IsSomeAnd (entry_at old.copies s n) (λ e. (view ≡ view_in k.owners s x e.pid) × IsRecordIn k e.pid view value) → Attends k old → Attends (seated_at k s n) new
attach_attends old new s n view value are stays may is k x there goes_on seen at = by (entry_at old.copies s n) refl may is seen
  where
    by : (o : Option Entry) → entry_at old.copies s n ≡ o → IsSomeAnd o (λ e. (e.view ≡ None) × (get old.copies.bodies (body e.pid view) ≡ None)) → IsSomeAnd o (λ e. new.copies ≡ copy.attached old.copies (slot s n) view value e) → IsSomeAnd o (λ e. (view ≡ view_in k.owners s x e.pid) × IsRecordIn k e.pid view value)
        → Attends (seated_at k s n) new
    by None was may is seen = absurd may
    by (Some e) was may is seen = attached_attends k old new s n view e x are at was may.0 stays there goes_on seen.0 value seen.1 may.1 is

pub on_ok : {A E : Type 0} {P Q : Type 0} (result : Result A E) → OnOk result P → (P → Q) → OnOk result Q
on_ok (Ok x) p f = f p
on_ok (Err e) p f = tt
