-- What a commit leaves of entries and bodies.
use Rattle.std.proofs.Common.{◌≡◌, ℕ, zero, suc, ◌<◌, ◌≤◌, ◌==◌, ◌&&◌, Bool, true, false, cond, List, [], ◌∷◌, length, take, Option, Some, None, IsSome, refl, sym, ap, ◌∙◌, subst, arith}
use Rattle.std.specs.Prelude.{◌||◌, is_some, unwrap_or, if◌then◌else◌, find}
use Rattle.std.specs.List.{list_any}
use Rattle.std.specs.Option.{option_map, option_and_then}
use Rattle.std.specs.Ordering.{nat_cmp, eq_by_cmp}
use Rattle.std.specs.FinMap as finite
use Rattle.std.specs.FinMap.{FinMap, get, entries, get-entries}
use Rattle.std.proofs.Math.ListN.{get_or}
use Rattle.std.proofs.lemmas.Bool.{eqb-true, eq-eqb}
use Rattle.pss_base.specs.declared.pid.Pid.{Pid}
use Rattle.pss_base.specs.declared.owner.OwnerNo.{OwnerNo}
use Rattle.pss_base.specs.declared.session.SessionNo.{SessionNo}
use Rattle.type_layout.specs.Types.{PlainValue}
use Rattle.type_layout.specs.Schemas.{given}
use Rattle.pss_catalog.specs.Catalog.{Object, Catalog}
use Rattle.pss_catalog.specs.Changes.{Change, over}
use Rattle.pss_catalog.proofs.Uniqueness.{found_over}
use Rattle.pss_machine.specs.declared.session.View.{View}
use Rattle.pss_machine.specs.declared.session.View.TheVariants.{Committed, Own, Kept as InCopy}
use Rattle.pss_machine.specs.Changes.{listed}
use Rattle.pss_machine.specs.Same.{same_pid}
use Rattle.pss_machine.specs.Alone.{object_of}
use Rattle.pss_machine.specs.Owners.{Owner, view, net, has_changed}
use Rattle.pss_machine.specs.Sessions.{Session}
use Rattle.pss_machine.specs.Copies.{values_at, view_in, body_in, same_view}
use Rattle.pss_machine.specs.Kept.{Kept}
use Rattle.pss_machine.specs.Moving.{is_among, is_settled, with_commit, title_of, settled}
use Rattle.pss_machine.proofs.Maps.{tied}
use Rattle.pss_machine.proofs.Logic.{none_some, same_some}
use Rattle.pss_laws.proofs.Footprint.{object_there}
use Rattle.pss_laws.proofs.Living.{home_of_it}
use Rattle.pss_laws.proofs.Nets.{last_listed}
use Rattle.pss_laws.proofs.Overs.{unchanged_there}
use Rattle.pss_session.specs.Meaning.{Meaning as Standing}
use Rattle.pss_session.proofs.Leaving.{leaves_then, leaves_none}
use Rattle.incarnations.specs.declared.names.Slot.{Slot}
use Rattle.incarnations.specs.declared.names.BodyName.{BodyName}
use Rattle.incarnations.specs.declared.names.Entry.{Entry}
use Rattle.incarnations.specs.Meaning.{Meaning, AreCopies, Leaves, loosened, with_view, body, body_of, same_body, stands_on, on_body}
use Rattle.incarnations.proofs.Seen.{leaves_alike}
use Rattle.incarnations.proofs.Keys.{slot_key, body_told}
use Rattle.pss_copies.specs.declared.parts.Parts.{Parts}
use Rattle.pss_copies.specs.Seats.{OwnerSees, Attends}
use Rattle.pss_copies.specs.Settling.{AreOf, Settles, on_bodies, on_committed}
use Rattle.pss_copies.proofs.Holders.{Holder, holder}
use Rattle.pss_copies.proofs.Associated.{on_own}
use Rattle.pss_copies.proofs.Left.{kept_entry, old_body, seated_less, told_left}
use Rattle.pss_copies.proofs.Outdated.{values_there}

-- ---- the bodies of so many objects

-- of none
pub bodies_none : (v : View) (m : Meaning) → AreCopies m → Leaves (loosened (on_bodies v [])) m m
bodies_none v m are = leaves_none (on_bodies v []) m are (λ x e. refl)

-- of as many as there are
pub bodies_all : (v : View) (pids : List Pid) (i : ℕ) (a b : Meaning) → length pids ≤ i → Leaves (loosened (on_bodies v (take i pids))) a b → Leaves (loosened (on_bodies v pids)) a b
bodies_all v pids i a b all left = subst (λ (l : List Pid). Leaves (loosened (on_bodies v l)) a b) (whole pids i all) left
  where
    whole : (ps : List Pid) (i : ℕ) → length ps ≤ i → take i ps ≡ ps
    whole [] zero all = refl
    whole [] (suc i) all = refl
    whole (p ∷ ps) zero all = absurd (omega (arith, all))
    whole (p ∷ ps) (suc i) all = ap (λ l. p ∷ l) (whole ps i (omega (arith, all)))

-- those of one object more
pub bodies_more : (v : View) (pids : List Pid) (i k : ℕ) (pid d : Pid) (a b c : Meaning) → k ≡ suc i → i < length pids → pid ≡ get_or pids i d → Leaves (loosened (on_bodies v (take i pids))) a b → Leaves (loosened (on_body (body pid v))) b c
    → Leaves (loosened (on_bodies v (take k pids))) a c
bodies_more v pids i k pid d a b c next less is first second =
    leaves_alike _ _ a c
    (λ x e. ap (λ z. Some (cond z (with_view None e) e)) (sym (ap (λ m. on_bodies v (take m pids) x e) next ∙ more pids i pid less is x e)))
    (leaves_then (on_bodies v (take i pids)) (on_body (body pid v)) a b c first second)
  where
    last : (b : Bool) → (b || false) ≡ b
    last true = refl
    last false = refl

    or_more : (a b c d : Bool) → b ≡ (c || d) → (a || b) ≡ ((a || c) || d)
    or_more true b c d e = refl
    or_more false b c d e = e

    more : (ps : List Pid) (i : ℕ) (p : Pid) → i < length ps → p ≡ get_or ps i d → (x : Slot) (e : Entry) → on_bodies v (take (suc i) ps) x e ≡ (on_bodies v (take i ps) x e || on_body (body p v) x e)
    more [] i p less is x e = absurd (omega (arith, less))
    more (q ∷ ps) zero p less is x e = last (on_body (body q v) x e) ∙ ap (λ (r : Pid). on_body (body r v) x e) (sym is)
    more (q ∷ ps) (suc i) p less is x e = or_more (on_body (body q v) x e) (on_bodies v (take (suc i) ps) x e) (on_bodies v (take i ps) x e) (on_body (body p v) x e) (more ps i p (omega (arith, less)) is x e)

-- ---- what is found

-- where nothing is found, no thing passes
pub none_passes : {A : Type 0} (test : ℕ × A → Bool) (m : FinMap nat_cmp A) → find test (entries m) ≡ None → (k : ℕ) (x : A) → get m k ≡ Some x → test (k, x) ≡ false
none_passes {A} test m none k x there = all (entries m) none (sym (get-entries m k) ∙ there)
  where
    all : (es : List (ℕ × A)) → find test es ≡ None → finite.find nat_cmp k es ≡ Some x → test (k, x) ≡ false
    all [] none there = absurd (none_some there)
    all (e ∷ es) none there = by (test e) refl none (eq_by_cmp nat_cmp k e.0) refl there (all es)
      where
        by : (b : Bool) → test e ≡ b → cond b (Some e) (find test es) ≡ None → (t : Bool) → eq_by_cmp nat_cmp k e.0 ≡ t → cond t (Some e.1) (finite.find nat_cmp k es) ≡ Some x
            → (find test es ≡ None → finite.find nat_cmp k es ≡ Some x → test (k, x) ≡ false) → test (k, x) ≡ false
        by true is none t tie there rest = absurd (none_some (sym none))
        by false is none true tie there rest =
            let key : k ≡ e.0 = tied k e.0 tie in
            let value : x ≡ e.1 = sym (same_some there) in
            (λ i. test (key i, value i)) ∙ is
        by false is none false tie there rest = rest none there

-- ---- objects and their serials

pub and_false : (b : Bool) → (b && false) ≡ false
and_false true = refl
and_false false = refl

-- the object of a change is another's where it is of another serial
one_of : (M : Catalog) (c : Change) (p pid : Pid) (x : Object) → p.serial ≡ c.serial → ((y : Object) → get M c.serial ≡ Some y → y.home.0 ≡ p.home) → get M pid.serial ≡ Some x → x.home.0 ≡ pid.home → same_pid p pid ≡ (c.serial == pid.serial)
one_of M c p pid x serial home there of = ap (λ s. (p.home == pid.home) && (s == pid.serial)) serial ∙ by (c.serial == pid.serial) refl
  where
    by : (b : Bool) → (c.serial == pid.serial) ≡ b → ((p.home == pid.home) && b) ≡ b
    by false is = and_false (p.home == pid.home)
    by true is = (let same : p.home ≡ pid.home = sym (home x (ap (get M) (eqb-true c.serial pid.serial is) ∙ there)) ∙ of in ap (λ b. b && true) (eq-eqb p.home pid.home same))

-- an object that is committed is among those of the changes where its serial is
pub among_is : (M : Catalog) (cs : List Change) (ps : List Pid) → AreOf M cs ps → (pid : Pid) (x : Object) → get M pid.serial ≡ Some x → x.home.0 ≡ pid.home → list_any (λ p. same_pid p pid) ps ≡ is_among cs pid
among_is M [] [] are pid x there of = refl
among_is M [] (p ∷ ps) are pid x there of = absurd are
among_is M (c ∷ cs) [] are pid x there of = absurd are
among_is M (c ∷ cs) (p ∷ ps) are pid x there of =
    ap (λ b. b || list_any (λ p. same_pid p pid) ps) (one_of M c p pid x are.0 are.1 there of) ∙ ap (λ b. (c.serial == pid.serial) || b) (among_is M cs ps are.3 pid x there of)

-- what an owner changed it sees alike, whatever is committed
pub seen_alike : (M N : Catalog) (owner : Owner) (s : ℕ) → has_changed owner s ≡ true → get (view N owner) s ≡ get (view M owner) s
seen_alike M N owner s changed = one N ∙ by (get owner.changes s) changed ∙ sym (one M)
  where
    one : (L : Catalog) → get (view L owner) s ≡ unwrap_or (get owner.changes s) (get L s)
    one L = found_over L (listed owner.changes) s ∙ ap (λ o. unwrap_or o (get L s)) (last_listed owner.changes s)

    by : (o : Option (Option Object)) → is_some o ≡ true → unwrap_or o (get N s) ≡ unwrap_or o (get M s)
    by None e = absurd cc
    by (Some x) e = refl

-- ---- what leaves

-- which entries on bodies leave them: those on the committed bodies of the objects, and those on the owner's own
pub record Goes (m : Meaning) (n : OwnerNo) (pids : List Pid) (g : Slot → Entry → Bool) : Type 0 where
  pub committed : (x : Slot) (e : Entry) → e.view ≡ Some Committed → g x e ≡ list_any (λ p. same_pid p e.pid) pids
  pub own : (x : Slot) (e : Entry) (o : OwnerNo) → get m.entries x ≡ Some e → e.view ≡ Some (Own o) → g x e ≡ (o.0 == n.0)
  pub kept : (x : Slot) (e : Entry) (s : SessionNo) → e.view ≡ Some (InCopy s) → g x e ≡ false

module _ (k : Kept) (old new : Parts) (n : OwnerNo) (pids : List Pid) (may : Settles k n pids) (g : Slot → Entry → Bool) (goes : Goes old.copies n pids g) (are : AreCopies old.copies) (are_new : AreCopies new.copies) (at : Attends k old) (stays : new.sessions ≡ old.sessions) (lasts : new.copies.lasts ≡ old.copies.lasts)
    (left : Leaves (loosened g) old.copies new.copies) where
  -- the object of an entry on a committed body is committed
  committed_object : (x : Slot) (e : Entry) → get old.copies.entries x ≡ Some e → e.view ≡ Some Committed → (o : Object) × (object_of k.catalog e.pid ≡ Some o)
  committed_object x e was on = (let b = some_body (get old.copies.bodies (body e.pid Committed)) (are.bodies x (body e.pid Committed) (ap (option_and_then body_of) was ∙ ap (option_map (body e.pid)) on)) in values_there k.catalog e.pid b.0 (at.seats.valued.committed e.pid b.0 b.1))
    where
      some_body : (o : Option (List PlainValue)) → IsSome o → (values : List PlainValue) × (o ≡ Some values)
      some_body None h = absurd cc
      some_body (Some values) h = (values, refl)

  among_committed : (x : Slot) (e : Entry) → get old.copies.entries x ≡ Some e → e.view ≡ Some Committed → g x e ≡ is_among (net k.catalog may.owner) e.pid
  among_committed x e was on =
      let o = committed_object x e was on in
      goes.committed x e on ∙ among_is k.catalog (net k.catalog may.owner) pids may.pids_are e.pid o.0 (object_there k.catalog e.pid o.0 o.1) (home_of_it k.catalog e.pid o.0 o.1)

  agree : (x : Slot) (e : Entry) (v : View) (session : Session) → get old.copies.entries x ≡ Some e → e.view ≡ Some v → get k.sessions x.session.0 ≡ Some session → g x e ≡ is_settled n (net k.catalog may.owner) x.session session (body_in k.owners x.session session e.pid)
  agree x e v session was on in_it = by v on ∙ ap (λ w. is_settled n (net k.catalog may.owner) x.session session (record { pid = e.pid; view = w })) seen
    where
      seen : v ≡ view_in k.owners x.session session e.pid
      seen = (let seat = at.seats.seated x e v was on in seat.seen ∙ ap (λ z. view_in k.owners x.session z e.pid) (same_some (sym seat.there ∙ in_it)))

      by : (v : View) → e.view ≡ Some v → g x e ≡ is_settled n (net k.catalog may.owner) x.session session (record { pid = e.pid; view = v })
      by Committed on = among_committed x e was on
      by (Own o) on = goes.own x e o was on
      by (InCopy s) on = goes.kept x e s on

  -- an object on whose committed body an entry still stands is not changed
  not_among : (pid : Pid) → Holder _ (stands_on (body pid Committed)) new.copies.entries → is_among (net k.catalog may.owner) pid ≡ false
  not_among pid h = by h.thing.view refl h.passes
    where
      by : (o : Option View) → h.thing.view ≡ o → given (option_map (body h.thing.pid) o) false (same_body (body pid Committed)) ≡ true → is_among (net k.catalog may.owner) pid ≡ false
      by None on e = absurd cc
      by (Some v) on e =
          let same : body pid Committed ≡ body h.thing.pid v = body_told (body pid Committed) (body h.thing.pid v) e in
          let v_is : v ≡ Committed = sym (ap (λ (b : BodyName). b.view) same) in
          let p_is : pid ≡ h.thing.pid = ap (λ (b : BodyName). b.pid) same in
          let was = kept_entry g old.copies new.copies left h.at h.thing v h.there on in
          ap (is_among (net k.catalog may.owner)) p_is ∙ sym (among_committed h.at h.thing was.0 (on ∙ ap Some v_is)) ∙ was.1

  still_valued : (pid : Pid) (vs : List PlainValue) → get new.copies.bodies (body pid Committed) ≡ Some vs → values_at (over k.catalog (net k.catalog may.owner)) pid ≡ Some vs
  still_valued pid vs here =
      ap (λ q. given (given q None (λ object. if object.home.0 == pid.home then Some object else None)) None (λ object. Some object.values))
      (unchanged_there k.catalog (net k.catalog may.owner) pid.serial (not_among pid (holder slot_key (stands_on (body pid Committed)) new.copies.entries (are_new.stood_on (body pid Committed) (ap is_some here)))))
      ∙ at.seats.valued.committed pid vs (old_body (loosened g) old.copies new.copies left (body pid Committed) vs here)

  still_seen : (pid : Pid) (m : OwnerNo) (vs : List PlainValue) → get new.copies.bodies (body pid (Own m)) ≡ Some vs → OwnerSees (over k.catalog (net k.catalog may.owner)) k.owners m pid vs
  still_seen pid m vs here =
      let was = old_body (loosened g) old.copies new.copies left (body pid (Own m)) vs here in
      let o = at.seats.valued.own pid m vs was in
      let on = on_own k.owners k.sessions old.copies are at.seats.seated pid m vs was in
      let changed : has_changed o.owner pid.serial ≡ true = sym (ap (λ q. given q false (λ owner. has_changed owner pid.serial)) o.there) ∙ on.changed in
      record {
        owner = o.owner;
        there = o.there;
        seen = ap (λ q. given (given q None (λ object. if object.home.0 == pid.home then Some object else None)) None (λ object. Some object.values)) (seen_alike k.catalog (over k.catalog (net k.catalog may.owner)) o.owner pid.serial changed) ∙ o.seen;
      }

  pub settled_is : settled k n ≡ with_commit k n (title_of k n) may.owner.level (net k.catalog may.owner)
  settled_is = ap (λ (o : Option Owner). given o k (λ owner. with_commit k n (title_of k n) owner.level (net k.catalog owner))) may.there

  pub settled_attends : Attends (with_commit k n (title_of k n) may.owner.level (net k.catalog may.owner)) new
  settled_attends = record {
    sessions = ap (λ (q : Standing). q.sessions) stays ∙ at.sessions;
    next = ap (λ (q : Standing). q.next) stays ∙ at.next;
    seats = record {
      told = told_left g old.copies new.copies left k.owners k.sessions (is_settled n (net k.catalog may.owner)) are at.seats.seated agree lasts k.copies at.seats.told;
      seated = seated_less g old.copies new.copies left k.owners k.sessions at.seats.seated;
      valued = record { committed = still_valued; own = still_seen };
    };
  }

-- ---- tests of entries on committed bodies

pub and_true : (b : Bool) → (b && true) ≡ b
and_true true = refl
and_true false = refl

pub none_any : (f : Pid → Bool) (ps : List Pid) → list_any (λ p. f p && false) ps ≡ false
none_any f [] = refl
none_any f (p ∷ ps) = ap (λ b. b || list_any (λ p. f p && false) ps) (and_false (f p)) ∙ none_any f ps

-- an entry on a body, in this view or another
pub on_view_of : (w : View) (pids : List Pid) (x : Slot) (e : Entry) (v : View) → e.view ≡ Some v → on_bodies w pids x e ≡ list_any (λ p. same_pid p e.pid && same_view w v) pids
on_view_of w pids x e v on = ap (λ o. list_any (λ p. given (option_map (body e.pid) o) false (same_body (body p w))) pids) on

module _ (pids : List Pid) (x : Slot) (e : Entry) where
  on_view : (v : View) → e.view ≡ Some v → on_committed pids x e ≡ list_any (λ p. same_pid p e.pid && same_view Committed v) pids
  on_view = on_view_of Committed pids x e

  pub on_committed_is : e.view ≡ Some Committed → on_committed pids x e ≡ list_any (λ p. same_pid p e.pid) pids
  on_committed_is on = on_view Committed on ∙ (λ i. list_any (λ p. and_true (same_pid p e.pid) i) pids)

  pub on_committed_own : (o : OwnerNo) → e.view ≡ Some (Own o) → on_committed pids x e ≡ false
  on_committed_own o on = on_view (Own o) on ∙ none_any (λ p. same_pid p e.pid) pids

  pub on_committed_kept : (s : SessionNo) → e.view ≡ Some (InCopy s) → on_committed pids x e ≡ false
  on_committed_kept s on = on_view (InCopy s) on ∙ none_any (λ p. same_pid p e.pid) pids
