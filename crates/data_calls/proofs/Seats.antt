-- Entries that come to stand on bodies.
use Rattle.std.proofs.Common.{◌≡◌, ℕ, ◌==◌, Bool, true, false, List, Option, Some, None, IsSome, refl, sym, ap, ◌∙◌, subst}
use Rattle.std.specs.Prelude.{IsSomeAnd, IfSome, is_some, if◌then◌else◌, unwrap_or}
use Rattle.std.specs.Option.{option_map, option_and_then}
use Rattle.std.specs.FinMap.{get}
use Rattle.pss_base.specs.declared.pid.Pid.{Pid}
use Rattle.pss_base.specs.declared.session.SessionNo.{SessionNo}
use Rattle.type_layout.specs.declared.schema.Schema.{Schema}
use Rattle.type_layout.specs.Types.{PlainValue}
use Rattle.type_layout.specs.Schemas.{given}
use Rattle.pss_catalog.specs.Catalog.{Object, Catalog}
use Rattle.pss_catalog.proofs.Uniqueness.{found_over}
use Rattle.pss_machine.specs.declared.session.View.{View}
use Rattle.pss_machine.specs.declared.session.View.TheVariants.{Committed, Own, Kept as InCopy}
use Rattle.pss_machine.specs.Changes.{listed}
use Rattle.pss_machine.specs.Alone.{object_of}
use Rattle.pss_machine.specs.Owners.{Owner, Owners, view, has_changed}
use Rattle.pss_machine.specs.Copies.{Loose, Copied, Entry as PlainEntry, is_attached, is_changed_by, unchanged_in, view_in, values_at}
use Rattle.pss_machine.specs.Kept.{Kept}
use Rattle.pss_machine.proofs.Logic.{none_some, same_some}
use Rattle.pss_laws.proofs.Footprint.{object_there}
use Rattle.pss_laws.proofs.Nets.{last_listed}
use Rattle.incarnations.specs.declared.names.Entry.{Entry}
use Rattle.incarnations.specs.Meaning.{Meaning, AreCopies, slot, body, body_under, body_of, entry_at}
use Rattle.owner_accounts.specs.declared.accounts.Accounts.{Accounts}
use Rattle.owner_accounts.specs.Accounts.{AreAccounts}
use Rattle.owner_accounts.specs.Reached.{IsReached}
use Rattle.owner_accounts.specs.Steps.{IsOwner}
use Rattle.pss_copies.specs.Told.{stand_told, entry_told}
use Rattle.pss_copies.specs.Seats.{IsShared, IsRecordIn, Attends, seated_at}
use Rattle.pss_copies.proofs.Held.{told_at}
use Rattle.connector_parts.specs.declared.parts.Parts.{Parts}
use Rattle.data_calls.specs.declared.acting.Acting.{Acting}
use Rattle.data_calls.specs.Acting.{IsActing}
use Rattle.data_calls.specs.Ways.{IsOnWay, OnWay, IsSeen, HasValues, MaySee, MaySeat, IsLoose}
use Rattle.data_calls.proofs.Own.{own_view, none_own}

-- ---- the view in which a session sees an object

module _ (k : Kept) (acting : Acting) (is : IsActing k acting) (pid : Pid) where
  changed_is : is_changed_by k.owners acting.owner pid ≡ has_changed is.owner pid.serial
  changed_is = ap (λ o. given o false (λ (owner : Owner). has_changed owner pid.serial)) is.owner_there

  view_is : view_in k.owners acting.session is.session pid ≡ (if has_changed is.owner pid.serial then Own acting.owner else (if acting.basic then InCopy acting.session else Committed))
  view_is =
      ap (λ o. given o (unchanged_in acting.session is.session) (λ n. if is_changed_by k.owners n pid then Own n else unchanged_in acting.session is.session)) is.of
      ∙ ap (λ (b : Bool). if b then Own acting.owner else unchanged_in acting.session is.session) changed_is
      ∙ ap (λ (b : Bool). if has_changed is.owner pid.serial then Own acting.owner else (if b then InCopy acting.session else Committed)) is.basic_is

  pub view_changed : has_changed is.owner pid.serial ≡ true → Own acting.owner ≡ view_in k.owners acting.session is.session pid
  view_changed e = sym (view_is ∙ ap (λ (b : Bool). if b then Own acting.owner else (if acting.basic then InCopy acting.session else Committed)) e)

  pub view_kept : has_changed is.owner pid.serial ≡ false → acting.basic ≡ true → InCopy acting.session ≡ view_in k.owners acting.session is.session pid
  view_kept e b =
      sym (view_is ∙ ap (λ (t : Bool). if t then Own acting.owner else (if acting.basic then InCopy acting.session else Committed)) e ∙ ap (λ (t : Bool). if t then InCopy acting.session else Committed) b)

  pub view_committed : has_changed is.owner pid.serial ≡ false → acting.basic ≡ false → Committed ≡ view_in k.owners acting.session is.session pid
  view_committed e b =
      sym (view_is ∙ ap (λ (t : Bool). if t then Own acting.owner else (if acting.basic then InCopy acting.session else Committed)) e ∙ ap (λ (t : Bool). if t then InCopy acting.session else Committed) b)

-- what an owner has not changed it sees as it is committed
unchanged_there : (M : Catalog) (owner : Owner) (t : ℕ) → has_changed owner t ≡ false → get (view M owner) t ≡ get M t
unchanged_there M owner t e = found_over M (listed owner.changes) t ∙ ap (λ o. unwrap_or o (get M t)) (last_listed owner.changes t) ∙ by (get owner.changes t) e
  where
    by : (o : Option (Option Object)) → is_some o ≡ false → unwrap_or o (get M t) ≡ get M t
    by None e = refl
    by (Some x) e = absurd (cc)

-- the values of an object that is seen
values_of_seen : (M : Catalog) (pid : Pid) (x : Object) → object_of M pid ≡ Some x → values_at M pid ≡ Some x.values
values_of_seen M pid x is = ap (λ o. given o None (λ (object : Object). Some object.values)) is

module _ (k : Kept) (acting : Acting) (is : IsActing k acting) (pid : Pid) (seen : IsSeen k acting is pid) (values : List PlainValue) (made : HasValues k acting is pid values) where
  values_are : seen.object.values ≡ values
  values_are = sym (same_some (made ∙ ap (option_map (λ (x : Object). x.values)) (object_there (view k.catalog is.owner) pid seen.object seen.there)))

  seen_values : values_at (view k.catalog is.owner) pid ≡ Some values
  seen_values = values_of_seen (view k.catalog is.owner) pid seen.object seen.there ∙ ap Some values_are

  committed_values : has_changed is.owner pid.serial ≡ false → values_at k.catalog pid ≡ Some values
  committed_values e =
      ap (λ (o : Option Object). given (given o None (λ (object : Object). if object.home.0 == pid.home then Some object else None)) None (λ (object : Object). Some object.values)) (sym (unchanged_there k.catalog is.owner pid.serial e)) ∙ seen_values

  -- the record that is read is the one in the view in which the session sees the object
  pub record_in : (v : View) → v ≡ view_in k.owners acting.session is.session pid → IsRecordIn k pid v values
  record_in v e = by (has_changed is.owner pid.serial) refl acting.basic refl
    where
      at : (w : View) → w ≡ view_in k.owners acting.session is.session pid → IsRecordIn k pid w values → IsRecordIn k pid v values
      at w is_w right = subst (λ (x : View). IsRecordIn k pid x values) (is_w ∙ sym e) right

      by : (c : Bool) → has_changed is.owner pid.serial ≡ c → (b : Bool) → acting.basic ≡ b → IsRecordIn k pid v values
      by true changed b basic = at (Own acting.owner) (view_changed k acting is pid changed) (record { owner = is.owner; there = is.owner_there; seen = seen_values })
      by false changed true basic = at (InCopy acting.session) (view_kept k acting is pid changed basic) (committed_values changed)
      by false changed false basic = at Committed (view_committed k acting is pid changed basic) (committed_values changed)

-- ---- the record as the owner sees it

abbrev pub owner_on : {c : Parts} {acting : Acting} (w : OnWay c acting) → IsOwner c.schema c.accounts acting.owner
owner_on {c} {acting} w = record {
  limits = w.limits;
  kept = w.to;
  reached = subst (λ (S : Schema). IsReached S w.limits w.to) (sym w.way.schema_is) w.way.reached;
  are = subst (λ (S : Schema). AreAccounts S c.accounts w.to) (sym w.way.schema_is) w.way.accounts;
  owner = w.is.owner;
  there = w.is.owner_there;
}

-- there is one
pub some_seen : {c : Parts} {acting : Acting} {pid : Pid} {made : Option (List PlainValue)} (m : MaySee c acting pid made) → None ≡ option_map (λ (x : Object). x.values) (get (view m.on.to.catalog m.on.is.owner) pid.serial) → ⊥
some_seen {pid = pid} m none = none_some (none ∙ ap (option_map (λ (x : Object). x.values)) (object_there (view m.on.to.catalog m.on.is.owner) pid m.seen.object m.seen.there))

-- ---- the entry

module _ {c : Parts} {acting : Acting} {n : ℕ} {made : Option (List PlainValue)} (m : MaySeat c acting n made) where
  -- as the tables have it
  pub record EntryHere : Type 0 where
    pub entry : Entry
    pub there : entry_at c.attended.copies acting.session n ≡ Some entry
    pub told : entry_told c.attended.copies n entry ≡ m.can.entry

  pub entry_here : AreCopies c.attended.copies → EntryHere
  entry_here are = by (entry_at c.attended.copies acting.session n) refl (sym m.can.there ∙ told_at c.attended.copies m.on.now.copies are m.on.way.attended.seats.told acting.session n)
    where
      by : (o : Option Entry) → entry_at c.attended.copies acting.session n ≡ o → Some m.can.entry ≡ option_map (entry_told c.attended.copies n) o → EntryHere
      by None is e = absurd (none_some (sym e))
      by (Some entry) is e = record { entry = entry; there = is; told = sym (same_some e) }

  pub session_now : get m.on.now.sessions acting.session.0 ≡ Some m.on.is.session
  session_now = ap (λ s. get s acting.session.0) m.on.way.sessions ∙ m.on.is.there

  pub view_now : (v : View) (pid : Pid) → v ≡ view_in m.on.to.owners acting.session m.on.is.session pid → v ≡ view_in m.on.now.owners acting.session m.on.is.session pid
  view_now v pid e = e ∙ ap (λ (o : Owners). view_in o acting.session m.on.is.session pid) (sym m.on.way.owners)

  -- the way goes on
  pub seated_now : (new : Parts) → new.schema ≡ c.schema → new.limits ≡ c.limits → new.accounts ≡ c.accounts → Attends (seated_at m.on.now acting.session n) new.attended → IsOnWay m.on.schema m.on.limits new m.on.to (seated_at m.on.now acting.session n)
  seated_now new schema limited accounts attended = record {
    schema_is = schema ∙ m.on.way.schema_is;
    limits_is = limited ∙ m.on.way.limits_is;
    reached = m.on.way.reached;
    accounts = subst (λ (a : Accounts). AreAccounts m.on.schema a m.on.to) (sym accounts) m.on.way.accounts;
    attended = attended;
    catalog = m.on.way.catalog;
    owners = m.on.way.owners;
    sessions = m.on.way.sessions;
  }

-- an entry that stands on a body is attached, and one that stands on none is not
pub attached_told : (m : Meaning) (n : ℕ) (e : Entry) → IsSome (option_and_then (get m.bodies) (option_map (body e.pid) e.view)) → is_attached (entry_told m n e) ≡ true
attached_told m n e = by e.view
  where
    own : (t : SessionNo) (o : Option (List PlainValue)) → IsSome o → is_attached (record { number = n; pid = e.pid; count = e.count; stand = given o Loose Copied }) ≡ true
    own t None h = absurd cc
    own t (Some values) h = refl

    by : (o : Option View) → IsSome (option_and_then (get m.bodies) (option_map (body e.pid) o)) → is_attached (record { number = n; pid = e.pid; count = e.count; stand = stand_told m e.pid o }) ≡ true
    by None h = absurd cc
    by (Some Committed) h = refl
    by (Some (Own q)) h = refl
    by (Some (InCopy t)) h = own t (get m.bodies (body e.pid (InCopy t))) h

pub loose_told : (m : Meaning) (n : ℕ) (e : Entry) → e.view ≡ None → is_attached (entry_told m n e) ≡ false
loose_told m n e is = ap (λ (o : Option View). is_attached (record { number = n; pid = e.pid; count = e.count; stand = stand_told m e.pid o })) is

-- a body of the session's own is shared by nobody
pub shared_where : (v : View) → ((s : SessionNo) → v ≡ InCopy s → ⊥) → IsShared v
shared_where Committed other = tt
shared_where (Own n) other = tt
shared_where (InCopy s) other = other s refl

no_some : {A : Type 0} (o : Option A) → IsSome o → o ≡ None → ⊥
no_some None h is = absurd cc
no_some (Some x) h is = none_some (sym is)

some_where : {A : Type 0} (o : Option A) → is_some o ≡ true → IsSome o
some_where None h = absurd (cc)
some_where (Some x) h = refl

pub none_where : {A : Type 0} (o : Option A) → is_some o ≡ false → o ≡ None
none_where None h = refl
none_where (Some x) h = absurd (cc)

-- ---- it comes to stand on a body, or stands there already

module _ {c : Parts} {acting : Acting} {n : ℕ} {made : Option (List PlainValue)} (m : MaySeat c acting n made) (are : AreCopies c.attended.copies) where
  abbrev here : EntryHere m
  here = entry_here m are

  -- the value of its body was found
  pub attached_here : (q : Meaning) → q ≡ c.attended.copies → (values : List PlainValue) → Some values ≡ option_and_then (get q.bodies) (body_under q (slot acting.session n)) → is_attached m.can.entry ≡ true
  attached_here q same values found = ap is_attached (sym here.told) ∙ attached_told c.attended.copies n here.entry has
    where
      at : Some values ≡ option_and_then (get c.attended.copies.bodies) (body_of here.entry)
      at = found ∙ ap (λ (x : Meaning). option_and_then (get x.bodies) (body_under x (slot acting.session n))) same ∙ ap (λ (o : Option Entry). option_and_then (get c.attended.copies.bodies) (option_and_then body_of o)) here.there

      has : IsSome (option_and_then (get c.attended.copies.bodies) (option_map (body here.entry.pid) here.entry.view))
      has = subst IsSome at refl

  pub pid_there : (q : Meaning) → q ≡ c.attended.copies → None ≡ option_map (λ (e : Entry). e.pid) (entry_at q acting.session n) → ⊥
  pid_there q same none = none_some (none ∙ ap (λ (x : Meaning). option_map (λ (e : Entry). e.pid) (entry_at x acting.session n)) same ∙ ap (option_map (λ (e : Entry). e.pid)) here.there)

  -- where none was, it stands on no body
  module _ (loose : IsLoose c acting.session n) where
    pub loose_view : here.entry.view ≡ None
    loose_view = by here.entry.view refl
      where
        by : (o : Option View) → here.entry.view ≡ o → o ≡ None
        by None is = refl
        by (Some v) is =
            let under : body_under c.attended.copies (slot acting.session n) ≡ Some (body here.entry.pid v) = ap (option_and_then body_of) here.there ∙ ap (option_map (body here.entry.pid)) is in
            absurd (no_some (get c.attended.copies.bodies (body here.entry.pid v)) (are.bodies (slot acting.session n) (body here.entry.pid v) under) (sym (ap (option_and_then (get c.attended.copies.bodies)) under) ∙ loose))

    module _ (q : Meaning) (same : q ≡ c.attended.copies) (pid : Pid) (named : Some pid ≡ option_map (λ (e : Entry). e.pid) (entry_at q acting.session n)) where
      pub pid_is : here.entry.pid ≡ pid
      pid_is = sym (same_some (named ∙ ap (λ (x : Meaning). option_map (λ (e : Entry). e.pid) (entry_at x acting.session n)) same ∙ ap (option_map (λ (e : Entry). e.pid)) here.there))

      body_is : (v : View) → get q.bodies (body pid v) ≡ get c.attended.copies.bodies (body here.entry.pid v)
      body_is v = ap (λ (x : Meaning). get x.bodies (body pid v)) same ∙ ap (λ (p : Pid). get c.attended.copies.bodies (body p v)) (sym pid_is)

      pub entry_is : m.can.entry.pid ≡ pid
      entry_is = sym (ap (λ (e : PlainEntry). e.pid) here.told) ∙ pid_is

      pub seen_object : IsSeen m.on.to acting m.on.is pid
      seen_object = subst (IsSeen m.on.to acting m.on.is) entry_is (m.can.seen (sym (ap is_attached here.told) ∙ loose_told c.attended.copies n here.entry loose_view))

      abbrev pub may_see : MaySee c acting pid made
      may_see = record { on = m.on; seen = seen_object; made_is = subst (λ (p : Pid). IfSome made (HasValues m.on.to acting m.on.is p)) entry_is m.made_is }

      module _ (v : View) (seen : v ≡ view_in m.on.to.owners acting.session m.on.is.session pid) where
        seen_now : v ≡ view_in m.on.now.owners acting.session m.on.is.session here.entry.pid
        seen_now = view_now m v here.entry.pid (seen ∙ ap (view_in m.on.to.owners acting.session m.on.is.session) (sym pid_is))

        pub may_share : is_some (get q.bodies (body pid v)) ≡ true → IsSomeAnd (entry_at c.attended.copies acting.session n) (λ e. (e.view ≡ None) × IsSome (get c.attended.copies.bodies (body e.pid v)))
        may_share has =
            subst (λ (o : Option Entry). IsSomeAnd o (λ e. (e.view ≡ None) × IsSome (get c.attended.copies.bodies (body e.pid v)))) (sym here.there)
            (loose_view, some_where (get c.attended.copies.bodies (body here.entry.pid v)) (ap is_some (sym (body_is v)) ∙ has))

        pub may_attach : is_some (get q.bodies (body pid v)) ≡ false → IsSomeAnd (entry_at c.attended.copies acting.session n) (λ e. (e.view ≡ None) × (get c.attended.copies.bodies (body e.pid v) ≡ None))
        may_attach has =
            subst (λ (o : Option Entry). IsSomeAnd o (λ e. (e.view ≡ None) × (get c.attended.copies.bodies (body e.pid v) ≡ None))) (sym here.there)
            (loose_view, none_where (get c.attended.copies.bodies (body here.entry.pid v)) (ap is_some (sym (body_is v)) ∙ has))

        -- a body that is there is shared: the session's own copy would have this entry on it
        pub shared_here : is_some (get q.bodies (body pid v)) ≡ true → IsShared v
        shared_here has = shared_where v by
          where
            by : (s : SessionNo) → v ≡ InCopy s → ⊥
            by s is =
                let one : s ≡ acting.session = own_view m.on.now.owners acting.session s m.on.is.session here.entry.pid (sym is ∙ seen_now) in
                no_some (get c.attended.copies.bodies (body here.entry.pid v)) (some_where (get c.attended.copies.bodies (body here.entry.pid v)) (ap is_some (sym (body_is v)) ∙ has))
                (ap (λ (w : View). get c.attended.copies.bodies (body here.entry.pid w)) (is ∙ ap InCopy one)
                ∙ none_own m.on.now.owners m.on.now.sessions c.attended.copies are m.on.way.attended.seats.seated acting.session n here.entry here.there loose_view)

        pub seen_entry : IsSomeAnd (entry_at c.attended.copies acting.session n) (λ e. v ≡ view_in m.on.now.owners acting.session m.on.is.session e.pid)
        seen_entry = subst (λ (o : Option Entry). IsSomeAnd o (λ e. v ≡ view_in m.on.now.owners acting.session m.on.is.session e.pid)) (sym here.there) seen_now

        pub record_entry : (values : List PlainValue) → HasValues m.on.to acting m.on.is pid values
            → IsSomeAnd (entry_at c.attended.copies acting.session n) (λ e. (v ≡ view_in m.on.now.owners acting.session m.on.is.session e.pid) × IsRecordIn m.on.now e.pid v values)
        record_entry values has =
            subst (λ (o : Option Entry). IsSomeAnd o (λ e. (v ≡ view_in m.on.now.owners acting.session m.on.is.session e.pid) × IsRecordIn m.on.now e.pid v values)) (sym here.there)
            (seen_now, subst (λ (p : Pid). IsRecordIn m.on.now p v values) (sym pid_is) (record_now v (record_in m.on.to acting m.on.is pid seen_object values has v seen)))
          where
            committed_now : values_at m.on.to.catalog pid ≡ Some values → values_at m.on.now.catalog pid ≡ Some values
            committed_now at = ap (λ (M : Catalog). values_at M pid) m.on.way.catalog ∙ at

            record_now : (w : View) → IsRecordIn m.on.to pid w values → IsRecordIn m.on.now pid w values
            record_now Committed h = committed_now h
            record_now (Own o) h = record { owner = h.owner; there = ap (λ (owners : Owners). get owners o.0) m.on.way.owners ∙ h.there; seen = ap (λ (M : Catalog). values_at (view M h.owner) pid) m.on.way.catalog ∙ h.seen }
            record_now (InCopy s) h = committed_now h
