-- What is read off a body that an entry shares is what its owner sees.
use Rattle.std.proofs.Common.{◌≡◌, ℕ, ◌==◌, Bool, true, false, List, [], Option, Some, None, refl, sym, ap, ◌∙◌, subst}
use Rattle.std.specs.Prelude.{IsSomeAnd, if◌then◌else◌}
use Rattle.std.specs.List.{slice_get}
use Rattle.std.specs.Option.{option_map, option_and_then}
use Rattle.std.specs.FinMap.{get}
use Rattle.pss_base.specs.declared.pid.Pid.{Pid}
use Rattle.pss_base.specs.declared.owner.OwnerNo.{OwnerNo}
use Rattle.pss_base.specs.declared.session.SessionNo.{SessionNo}
use Rattle.type_layout.specs.declared.schema.Schema.{Schema}
use Rattle.type_layout.specs.Types.{PlainValue, Ref}
use Rattle.type_layout.specs.Schemas.{given}
use Rattle.pss_catalog.specs.Catalog.{Object, Catalog}
use Rattle.pss_machine.specs.declared.level.Level.{Level}
use Rattle.pss_machine.specs.declared.level.Level.TheVariants as level
use Rattle.pss_machine.specs.declared.session.View.{View}
use Rattle.pss_machine.specs.declared.session.View.TheVariants.{Committed, Own, Kept as InCopy}
use Rattle.pss_machine.specs.Needs.{needs}
use Rattle.pss_machine.specs.Operations.{Follow, PlainOp, Get, Exists, Ask, PlainAnswer, Val, Gone}
use Rattle.pss_machine.specs.Alone.{object_of, member_told, followed}
use Rattle.pss_machine.specs.Owners.{Owner, view, has_changed, blocker, Step, step_on_view}
use Rattle.pss_machine.specs.Sessions.{Session}
use Rattle.pss_machine.specs.Copies.{Loose, Copied, Entry as Plain, view_in, values_at, entry_numbered}
use Rattle.pss_machine.specs.Kept.{Kept, copies_of, name_of}
use Rattle.pss_machine.specs.Asking.{Asked}
use Rattle.pss_machine.specs.Stepping.{copied_values, told_by_copy, copied_answer}
use Rattle.pss_machine.specs.Moving.{next_after, after_step}
use Rattle.pss_machine.specs.declared.reply.Reply.TheVariants as reply
use Rattle.pss_machine.proofs.Logic.{none_some, same_some}
use Rattle.pss_machine.proofs.Views.{view_unchanged}
use Rattle.incarnations.specs.declared.names.Entry.{Entry}
use Rattle.incarnations.specs.Meaning.{AreCopies, slot, body, body_of, body_under, entry_at}
use Rattle.pss_copies.specs.declared.parts.Parts.{Parts as Attending}
use Rattle.pss_copies.specs.Told.{stand_told, entry_told}
use Rattle.pss_copies.specs.Seats.{Attends, OwnerSees}
use Rattle.pss_copies.proofs.Held.{told_at}
use Rattle.owner_view.specs.Fitting.{FitsOp}
use Rattle.tx_session.specs.Following.{RefersTo}
use Rattle.owner_accounts.specs.Accounts.{AreAccounts}
use Rattle.owner_accounts.specs.Steps.{MayStep, MayFollow as OwnerMayFollow, step_in}
use Rattle.connector_parts.specs.declared.parts.Parts.{Parts}
use Rattle.connector_parts.specs.Stands.{StayAs}
use Rattle.connector_parts.proofs.Bounds.{commands_left}
use Rattle.data_calls.specs.declared.acting.Acting.{Acting}
use Rattle.data_calls.specs.Acting.{IsActing}
use Rattle.data_calls.specs.Asking.{MayTake, Takes, Follows, decision_on, object_in}
use Rattle.data_calls.specs.Copied.{MayAct, IsRead, MayLook, IsLed, MayFollow}
use Rattle.data_calls.proofs.Seats.{view_changed, view_kept, view_committed}
use Rattle.data_calls.proofs.Taking.{fair, is_owner, step_here, seen_is, busy_says, takes, stepped_same}

-- a look whether an object is there locks what a read of a member does
pub same_needs : (S : Schema) (l : Level) (M : Catalog) (p : Pid) (member : ℕ) → needs S l M (Ask (Exists p)) ≡ needs S l M (Ask (Get p member))
same_needs S level.Serializable M p member = refl
same_needs S level.ReadCommitted M p member = refl
same_needs S level.Basic M p member = refl

-- what is told of a member is told of the value that the object has there
pub told_seen : (M : Catalog) (owner : Owner) (p : Pid) (member : ℕ) (tell : PlainValue → PlainAnswer) (values : List PlainValue) (v : PlainValue) → values_at (view M owner) p ≡ Some values → slice_get values member ≡ Some v
    → member_told (view M owner) p member tell ≡ tell v
told_seen M owner p member tell values v seen there = by (object_of (view M owner) p) refl
  where
    by : (o : Option Object) → object_of (view M owner) p ≡ o → member_told (view M owner) p member tell ≡ tell v
    by None is = absurd (none_some (ap (λ o. given o None (λ (object : Object). Some object.values)) (sym is) ∙ seen))
    by (Some x) is =
        let same : x.values ≡ values = same_some (ap (λ o. given o None (λ (object : Object). Some object.values)) (sym is) ∙ seen) in
        ap (λ o. given o (Gone p) (λ (object : Object). given (slice_get object.values member) (Gone p) tell)) is
        ∙ ap (λ o. given o (Gone p) tell) (ap (λ vs. slice_get vs member) same ∙ there)

-- and refers to what that value refers to
refers_to : (M : Catalog) (p : Pid) (member : ℕ) (values : List PlainValue) (to : Option Pid) → values_at M p ≡ Some values → slice_get values member ≡ Some (Ref to) → RefersTo M p member to
refers_to M p member values to seen there = by (object_of M p) refl
  where
    by : (o : Option Object) → object_of M p ≡ o → RefersTo M p member to
    by None is = absurd (none_some (ap (λ o. given o None (λ (object : Object). Some object.values)) (sym is) ∙ seen))
    by (Some x) is =
        let same : x.values ≡ values = same_some (ap (λ o. given o None (λ (object : Object). Some object.values)) (sym is) ∙ seen) in
        record { object = x; there = is; refers = ap (λ vs. slice_get vs member) same ∙ there }

module _ (k : Kept) (acting : Acting) (is : IsActing k acting) (a : Attending) (at : Attends k a) (n : ℕ) (e : Entry) (there : entry_at a.copies acting.session n ≡ Some e) where
  -- the entry stands on the body of the view in which its session sees the object
  seat_in : (v : View) → e.view ≡ Some v → v ≡ view_in k.owners acting.session is.session e.pid
  seat_in v on =
      let seat = at.seats.seated (slot acting.session n) e v there on in
      seat.seen ∙ ap (λ (x : Session). view_in k.owners acting.session x e.pid) (same_some (sym seat.there ∙ is.there))

  unchanged_values : has_changed is.owner e.pid.serial ≡ false → values_at (view k.catalog is.owner) e.pid ≡ values_at k.catalog e.pid
  unchanged_values same =
      ap (λ (o : Option Object). given (given o None (λ (object : Object). if object.home.0 == e.pid.home then Some object else None)) None (λ (object : Object). Some object.values)) (view_unchanged k.catalog is.owner e.pid.serial same)

  -- on the committed body
  committed_seen : e.view ≡ Some Committed → (values : List PlainValue) → get a.copies.bodies (body e.pid Committed) ≡ Some values → values_at (view k.catalog is.owner) e.pid ≡ Some values
  committed_seen on values kept = by (has_changed is.owner e.pid.serial) refl
    where
      by : (b : Bool) → has_changed is.owner e.pid.serial ≡ b → values_at (view k.catalog is.owner) e.pid ≡ Some values
      by true changed = absurd (let no : Committed ≡ Own acting.owner = seat_in Committed on ∙ sym (view_changed k acting is e.pid changed) in cc)
      by false same = unchanged_values same ∙ at.seats.valued.committed e.pid values kept

  -- on an owner's own
  own_seen : (m : OwnerNo) → e.view ≡ Some (Own m) → (values : List PlainValue) → get a.copies.bodies (body e.pid (Own m)) ≡ Some values → values_at (view k.catalog is.owner) e.pid ≡ Some values
  own_seen m on values kept = by (has_changed is.owner e.pid.serial) refl acting.basic refl
    where
      seen : OwnerSees k.catalog k.owners m e.pid values
      seen = at.seats.valued.own e.pid m values kept

      by : (b : Bool) → has_changed is.owner e.pid.serial ≡ b → (basic : Bool) → acting.basic ≡ basic → values_at (view k.catalog is.owner) e.pid ≡ Some values
      by true changed basic kind =
          let own : Own m ≡ Own acting.owner = seat_in (Own m) on ∙ sym (view_changed k acting is e.pid changed) in
          let number : m ≡ acting.owner = cc in
          let owner : seen.owner ≡ is.owner = same_some (sym seen.there ∙ ap (λ (q : OwnerNo). get k.owners q.0) number ∙ is.owner_there) in
          ap (λ (w : Owner). values_at (view k.catalog w) e.pid) (sym owner) ∙ seen.seen
      by false same true kind = absurd (let no : Own m ≡ InCopy acting.session = seat_in (Own m) on ∙ sym (view_kept k acting is e.pid same kind) in cc)
      by false same false kind = absurd (let no : Own m ≡ Committed = seat_in (Own m) on ∙ sym (view_committed k acting is e.pid same kind) in cc)

  -- on the session's own copy, which a basic session alone has
  in_copy : (t : SessionNo) → e.view ≡ Some (InCopy t) → acting.basic ≡ true
  in_copy t on = by (has_changed is.owner e.pid.serial) refl acting.basic refl
    where
      by : (b : Bool) → has_changed is.owner e.pid.serial ≡ b → (basic : Bool) → acting.basic ≡ basic → acting.basic ≡ true
      by true changed basic kind = absurd (let no : InCopy t ≡ Own acting.owner = seat_in (InCopy t) on ∙ sym (view_changed k acting is e.pid changed) in cc)
      by false same true kind = kind
      by false same false kind = absurd (let no : InCopy t ≡ Committed = seat_in (InCopy t) on ∙ sym (view_committed k acting is e.pid same kind) in cc)

  module _ (are : AreCopies a.copies) (values : List PlainValue) (member : ℕ) (v : PlainValue) (has : slice_get values member ≡ Some v)
      (op : PlainOp) (tell : PlainValue → PlainAnswer) (tells : told_by_copy (view k.catalog is.owner) values op ≡ given (slice_get values member) None (λ v. Some (tell v))) where
    told : entry_numbered (copies_of k acting.session) n ≡ Some (entry_told a.copies n e)
    told = told_at a.copies k.copies are at.seats.told acting.session n ∙ ap (option_map (entry_told a.copies n)) there

    -- it would have told of the member itself
    copy_tells : (t : SessionNo) → e.view ≡ Some (InCopy t) → get a.copies.bodies (body e.pid (InCopy t)) ≡ Some values → (asked : Asked) → asked.entry ≡ Some n → asked.op ≡ op
        → copied_answer k.catalog is.owner (copies_of k acting.session) asked ≡ Some (tell v)
    copy_tells t on kept asked named op_is =
        let stand : stand_told a.copies e.pid e.view ≡ Copied values = ap (stand_told a.copies e.pid) on ∙ ap (λ o. given o Loose Copied) kept in
        let values_are : copied_values (copies_of k acting.session) (Some n) ≡ Some values = rw told (rw stand refl) in
        ap (λ (b : Bool). if b then given (copied_values (copies_of k acting.session) asked.entry) None (λ values. told_by_copy (view k.catalog is.owner) values asked.op) else None) (is.level ∙ in_copy t on)
        ∙ ap (λ o. given (copied_values (copies_of k acting.session) o) None (λ values. told_by_copy (view k.catalog is.owner) values asked.op)) named
        ∙ ap (λ o. given o None (λ values. told_by_copy (view k.catalog is.owner) values asked.op)) values_are
        ∙ ap (told_by_copy (view k.catalog is.owner) values) op_is
        ∙ tells ∙ ap (λ o. given o None (λ v. Some (tell v))) has

    -- what the body has is what the owner sees
    pub body_seen : (asked : Asked) → asked.entry ≡ Some n → asked.op ≡ op → copied_answer k.catalog is.owner (copies_of k acting.session) asked ≡ None
        → option_and_then (get a.copies.bodies) (body_under a.copies (slot acting.session n)) ≡ Some values → values_at (view k.catalog is.owner) e.pid ≡ Some values
    body_seen asked named op_is none kept = by e.view refl (sym (ap (λ o. option_and_then (get a.copies.bodies) (option_and_then body_of o)) there) ∙ kept)
      where
        by : (o : Option View) → e.view ≡ o → option_and_then (get a.copies.bodies) (option_map (body e.pid) o) ≡ Some values → values_at (view k.catalog is.owner) e.pid ≡ Some values
        by None on is_kept = absurd (none_some is_kept)
        by (Some Committed) on is_kept = committed_seen on values is_kept
        by (Some (Own m)) on is_kept = own_seen m on values is_kept
        by (Some (InCopy t)) on is_kept = absurd (none_some (sym none ∙ copy_tells t on is_kept asked named op_is))

-- ---- what comes of a look

module _ {c : Parts} {acting : Acting} {asked : Asked} {p : Pid} {answer : PlainAnswer} (m : MayLook c acting asked p answer) where
  abbrev take : MayTake c acting asked
  take = m.act.take

  abbrev pub may_look : MayStep c.schema c.accounts acting.owner (Ask (Exists p))
  may_look = record { by = is_owner m.act.take; fits = tt; serial = tt; serials = tt; commands = commands_left c m.act.take.asks.kept m.act.take.asks.at acting.owner }

  op_needs : (step_in may_look).needs ≡ (step_here take).needs
  op_needs =
      same_needs c.schema take.asks.is.owner.level (view take.asks.kept.catalog take.asks.is.owner) p m.read.member
      ∙ ap (needs c.schema take.asks.is.owner.level (view take.asks.kept.catalog take.asks.is.owner)) (sym m.read.op_is) ∙ ap (λ (t : Step). t.needs) (sym (seen_is m.act))

  here : blocker take.asks.kept.owners acting.owner (step_in may_look).needs ≡ blocker take.asks.kept.owners acting.owner (step_here take).needs
  here = ap (blocker take.asks.kept.owners acting.owner) op_needs

  own_here : [] ≡ (step_here take).own
  own_here = ap (λ (op : PlainOp). (step_on_view c.schema take.asks.kept.catalog take.asks.is.owner op).own) (sym m.read.op_is) ∙ ap (λ (t : Step). t.own) (sym (seen_is m.act))

  next_here : take.asks.kept.next ≡ next_after take.asks.kept.next (step_here take).op
  next_here = ap (next_after take.asks.kept.next) (sym m.read.op_is) ∙ ap (λ (t : Step). next_after take.asks.kept.next t.op) (sym (seen_is m.act))

  pub look_busy : (b : OwnerNo) (name : List ℕ) → blocker take.asks.kept.owners acting.owner (step_in may_look).needs ≡ Some b → name ≡ name_of take.asks.kept b → (new : Parts) → StayAs c new → new.attended ≡ c.attended → AreAccounts c.schema new.accounts take.asks.kept
      → Follows c take.asks.kept (decision_on take.asks) (reply.Busy name) new
  look_busy b name is named new stay attended accounts = busy_says take b name (sym here ∙ is) named new stay attended accounts

  pub look_takes : blocker take.asks.kept.owners acting.owner (step_in may_look).needs ≡ None → (new : Parts) → StayAs c new → new.attended ≡ c.attended
      → AreAccounts c.schema new.accounts (after_step take.asks.kept acting.owner acting.session (step_in may_look) asked) → Takes c take.asks.kept (decision_on take.asks) acting asked answer new
  look_takes none new stay attended accounts =
      takes take answer (sym here ∙ none) (ap (λ (t : Step). t.answer) (seen_is m.act) ∙ m.read.told) new stay attended
      (stepped_same c.schema new.accounts take.asks.kept acting.owner acting.session (step_in may_look) (step_here take) asked op_needs own_here next_here accounts)

-- ---- by the words

-- the object is that of the named entry
module _ {c : Parts} {acting : Acting} {asked : Asked} (m : MayAct c acting asked) (p : Pid) (object : object_in asked.op ≡ Some p) (n : ℕ) (named : asked.entry ≡ Some n) (are : AreCopies c.attended.copies) (values : List PlainValue)
    (kept : option_and_then (get c.attended.copies.bodies) (body_under c.attended.copies (slot acting.session n)) ≡ Some values) where
  pub entry_there : (e : Entry) × (entry_at c.attended.copies acting.session n ≡ Some e)
  entry_there = by (entry_at c.attended.copies acting.session n) refl kept
    where
      by : (o : Option Entry) → entry_at c.attended.copies acting.session n ≡ o → option_and_then (get c.attended.copies.bodies) (option_and_then body_of o) ≡ Some values → (e : Entry) × (entry_at c.attended.copies acting.session n ≡ Some e)
      by None is none = absurd (none_some none)
      by (Some e) is some = (e, is)

  pub same_object : entry_there.0.pid ≡ p
  same_object =
      let told = told_at c.attended.copies m.take.asks.kept.copies are m.take.asks.at.stands.attended.seats.told acting.session n ∙ ap (option_map (entry_told c.attended.copies n)) entry_there.1 in
      let of = subst (λ o. IsSomeAnd o (λ (e : Plain). object_in asked.op ≡ Some e.pid)) told ((fair m.take).named n named) in
      sym (same_some (sym object ∙ of))

  -- the owner sees these values of it, where a copy would tell of a member of theirs
  pub values_seen : (member : ℕ) (v : PlainValue) → slice_get values member ≡ Some v → (tell : PlainValue → PlainAnswer) → told_by_copy (view m.take.asks.kept.catalog m.take.asks.is.owner) values asked.op ≡ given (slice_get values member) None (λ v. Some (tell v))
      → values_at (view m.take.asks.kept.catalog m.take.asks.is.owner) p ≡ Some values
  values_seen member v has tell tells =
      subst (λ (q : Pid). values_at (view m.take.asks.kept.catalog m.take.asks.is.owner) q ≡ Some values) same_object
      (body_seen m.take.asks.kept acting m.take.asks.is c.attended m.take.asks.at.stands.attended n entry_there.0 entry_there.1 are values member v has asked.op tell tells asked named refl m.told kept)

-- a member is read
pub is_read_by : {c : Parts} {acting : Acting} {asked : Asked} (m : MayAct c acting asked) (p : Pid) (member : ℕ) → asked.op ≡ Ask (Get p member) → AreCopies c.attended.copies → (values : List PlainValue)
    → IsSomeAnd asked.entry (λ n. option_and_then (get c.attended.copies.bodies) (body_under c.attended.copies (slot acting.session n)) ≡ Some values) → (v : PlainValue) → slice_get values member ≡ Some v → IsRead m p (Val v)
is_read_by {c = c} {acting = acting} {asked = asked} m p member op_is are values kept v has = by asked.entry refl kept
  where
    by : (o : Option ℕ) → asked.entry ≡ o → IsSomeAnd o (λ n. option_and_then (get c.attended.copies.bodies) (body_under c.attended.copies (slot acting.session n)) ≡ Some values) → IsRead m p (Val v)
    by None named none = absurd none
    by (Some n) named some = record {
      member = member;
      op_is = op_is;
      told =
          ap (λ (op : PlainOp). (step_on_view c.schema m.take.asks.kept.catalog m.take.asks.is.owner op).answer) op_is
          ∙ told_seen m.take.asks.kept.catalog m.take.asks.is.owner p member Val values v
          (values_seen m p (ap object_in op_is) n named are values some member v has Val (ap (told_by_copy (view m.take.asks.kept.catalog m.take.asks.is.owner) values) op_is)) has;
    }

-- a member is followed
pub is_led_by : {c : Parts} {acting : Acting} {asked : Asked} (m : MayAct c acting asked) (p : Pid) (member : ℕ) → asked.op ≡ Ask (Follow p member) → AreCopies c.attended.copies → (values : List PlainValue)
    → IsSomeAnd asked.entry (λ n. option_and_then (get c.attended.copies.bodies) (body_under c.attended.copies (slot acting.session n)) ≡ Some values) → (to : Option Pid) → slice_get values member ≡ Some (Ref to) → IsLed m p to
is_led_by {c = c} {acting = acting} {asked = asked} m p member op_is are values kept to has = by asked.entry refl kept
  where
    by : (o : Option ℕ) → asked.entry ≡ o → IsSomeAnd o (λ n. option_and_then (get c.attended.copies.bodies) (body_under c.attended.copies (slot acting.session n)) ≡ Some values) → IsLed m p to
    by None named none = absurd none
    by (Some n) named some = record {
      member = member;
      op_is = op_is;
      refers =
          refers_to (view m.take.asks.kept.catalog m.take.asks.is.owner) p member values to
          (values_seen m p (ap object_in op_is) n named are values some member (Ref to) has (followed (view m.take.asks.kept.catalog m.take.asks.is.owner) p) (ap (told_by_copy (view m.take.asks.kept.catalog m.take.asks.is.owner) values) op_is)) has;
    }

-- ---- what comes of a member that is followed

module _ {c : Parts} {acting : Acting} {asked : Asked} {p : Pid} {to : Option Pid} (m : MayFollow c acting asked p to) where
  abbrev asks_it : MayTake c acting asked
  asks_it = m.act.take

  abbrev pub may_follow : OwnerMayFollow c.schema c.accounts acting.owner p to
  may_follow = record {
    member = m.led.member;
    step = record { by = is_owner m.act.take; fits = subst (FitsOp c.schema) m.led.op_is (fair m.act.take).fits; serial = tt; serials = tt; commands = commands_left c m.act.take.asks.kept m.act.take.asks.at acting.owner };
    refers = m.led.refers;
  }

  follow_is : step_here asks_it ≡ step_in may_follow.step
  follow_is = seen_is m.act ∙ ap (step_on_view c.schema asks_it.asks.kept.catalog asks_it.asks.is.owner) m.led.op_is

  held_by : blocker asks_it.asks.kept.owners acting.owner (step_here asks_it).needs ≡ blocker asks_it.asks.kept.owners acting.owner (step_in may_follow.step).needs
  held_by = ap (λ (t : Step). blocker asks_it.asks.kept.owners acting.owner t.needs) follow_is

  pub follow_busy : (b : OwnerNo) (name : List ℕ) → blocker asks_it.asks.kept.owners acting.owner (step_in may_follow.step).needs ≡ Some b → name ≡ name_of asks_it.asks.kept b → (new : Parts) → StayAs c new → new.attended ≡ c.attended
      → AreAccounts c.schema new.accounts asks_it.asks.kept → Follows c asks_it.asks.kept (decision_on asks_it.asks) (reply.Busy name) new
  follow_busy b name is named new stay attended accounts = busy_says asks_it b name (held_by ∙ is) named new stay attended accounts

  pub follow_takes : (answer : PlainAnswer) → blocker asks_it.asks.kept.owners acting.owner (step_in may_follow.step).needs ≡ None → answer ≡ (step_in may_follow.step).answer → (new : Parts) → StayAs c new → new.attended ≡ c.attended
      → AreAccounts c.schema new.accounts (after_step asks_it.asks.kept acting.owner acting.session (step_in may_follow.step) asked) → Takes c asks_it.asks.kept (decision_on asks_it.asks) acting asked answer new
  follow_takes answer none told new stay attended accounts =
      takes asks_it answer (held_by ∙ none) (ap (λ (t : Step). t.answer) follow_is ∙ sym told) new stay attended
      (subst (λ (t : Step). AreAccounts c.schema new.accounts (after_step asks_it.asks.kept acting.owner acting.session t asked)) (sym follow_is) accounts)
