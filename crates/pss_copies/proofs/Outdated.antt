-- What a step that changes an object leaves of entries and bodies.
use Rattle.std.proofs.Common.{◌≡◌, ℕ, ◌==◌, true, false, cond, List, Option, Some, None, IsSome, refl, sym, ap, ◌∙◌, inl, inr}
use Rattle.std.specs.Prelude.{◌⊎◌, is_some, if◌then◌else◌}
use Rattle.std.specs.Option.{option_map, option_and_then}
use Rattle.std.specs.FinMap.{get, insert}
use Rattle.std.proofs.lemmas.Bool.{eq-eqb}
use Rattle.pss_base.specs.declared.pid.Pid.{Pid}
use Rattle.pss_base.specs.declared.owner.OwnerNo.{OwnerNo}
use Rattle.type_layout.specs.Types.{PlainValue}
use Rattle.type_layout.specs.Schemas.{given}
use Rattle.pss_catalog.specs.Catalog.{Object, Catalog}
use Rattle.pss_catalog.specs.Changes.{with_state, over}
use Rattle.pss_machine.specs.declared.session.View.{View}
use Rattle.pss_machine.specs.declared.session.View.TheVariants.{Committed, Own, Kept as InCopy}
use Rattle.pss_machine.specs.Changes.{with_changes}
use Rattle.pss_machine.specs.Owners.{Owner, Step, view, has_changed, stepped}
use Rattle.pss_machine.specs.Sessions.{Session, owner_of}
use Rattle.pss_machine.specs.Alone.{object_of}
use Rattle.pss_machine.specs.Copies.{Copied, Loose, values_at, is_changed_by}
use Rattle.pss_machine.specs.Kept.{Kept, copies_of}
use Rattle.pss_machine.specs.Moving.{owners_after}
use Rattle.pss_machine.proofs.Maps.{same_or_apart, insert_here, insert_apart, remove_apart, with_here, with_apart}
use Rattle.pss_machine.proofs.Logic.{none_some, same_some}
use Rattle.pss_laws.proofs.Footprint.{object_there}
use Rattle.pss_laws.proofs.Living.{home_of_it}
use Rattle.pss_laws.proofs.Nets.{view_stepped}
use Rattle.incarnations.specs.declared.names.Slot.{Slot}
use Rattle.incarnations.specs.declared.names.Entry.{Entry}
use Rattle.incarnations.specs.Meaning.{AreCopies, body, body_of}
use Rattle.pss_copies.specs.declared.parts.Parts.{Parts}
use Rattle.pss_copies.specs.Told.{stand_told, entry_told}
use Rattle.pss_copies.specs.Seats.{IsSeat, OwnerSees, Attends}
use Rattle.pss_copies.specs.Ruled.{HomesAgree}
use Rattle.pss_copies.specs.Stepped.{ChangesAt}
use Rattle.pss_copies.proofs.Seated.{seat_owned}
use Rattle.pss_copies.proofs.Held.{told_at, copies_there}

-- an object that is seen is there, in its pid's home
pub values_there : (M : Catalog) (p : Pid) (values : List PlainValue) → values_at M p ≡ Some values → (x : Object) × (object_of M p ≡ Some x)
values_there M p values e = by (object_of M p) refl e
  where
    by : (o : Option Object) → object_of M p ≡ o → given o None (λ object. Some object.values) ≡ Some values → (x : Object) × (object_of M p ≡ Some x)
    by None is e = absurd (none_some e)
    by (Some x) is e = (x, is)

module _ (k : Kept) (a : Parts) (homes : HomesAgree k) (are : AreCopies a.copies) (at : Attends k a) where
  -- an entry that stands on a body is for an object of the home of its serial
  pub home_of_entry : (x : Slot) (e : Entry) (v : View) → get a.copies.entries x ≡ Some e → e.view ≡ Some v → e.pid.home ≡ homes.home e.pid.serial
  home_of_entry x e v was on = by v on (are.bodies x (body e.pid v) (ap (option_and_then body_of) was ∙ ap (option_map (body e.pid)) on))
    where
      some_body : (o : Option (List PlainValue)) → IsSome o → (values : List PlainValue) × (o ≡ Some values)
      some_body None h = absurd cc
      some_body (Some values) h = (values, refl)

      in_catalog : (M : Catalog) (values : List PlainValue) → ((s : ℕ) (x : Object) → get M s ≡ Some x → x.home.0 ≡ homes.home s) → values_at M e.pid ≡ Some values → e.pid.home ≡ homes.home e.pid.serial
      in_catalog M values all seen = (let o = values_there M e.pid values seen in sym (home_of_it M e.pid o.0 o.1) ∙ all e.pid.serial o.0 (object_there M e.pid o.0 o.1))

      by : (v : View) → e.view ≡ Some v → IsSome (get a.copies.bodies (body e.pid v)) → e.pid.home ≡ homes.home e.pid.serial
      by Committed on some = (let b = some_body (get a.copies.bodies (body e.pid Committed)) some in in_catalog k.catalog b.0 homes.catalog (at.seats.valued.committed e.pid b.0 b.1))
      by (Own m) on some =
          let b = some_body (get a.copies.bodies (body e.pid (Own m))) some in
          let o = at.seats.valued.own e.pid m b.0 b.1 in
          in_catalog (view k.catalog o.owner) b.0 (λ s x there. homes.views m.0 o.owner s x o.there there) o.seen
      by (InCopy t) on some =
          let b = some_body (get a.copies.bodies (body e.pid (InCopy t))) some in
          let stand : stand_told a.copies e.pid e.view ≡ Copied b.0 = ap (stand_told a.copies e.pid) on ∙ ap (λ o. given o Loose Copied) b.1 in
          (homes.own x.session.0 x.number (copies_of k x.session) (entry_told a.copies x.number e) b.0 (copies_there a.copies k.copies are at.seats.told x.session x.number e was)
          (told_at a.copies k.copies are at.seats.told x.session x.number ∙ ap (option_map (entry_told a.copies x.number)) was) stand).0

  module _ (n : OwnerNo) (step : Step) (p : Pid) (state : Option Object) (changes : ChangesAt k n step p state) where
    pub p_home : p.home ≡ homes.home p.serial
    p_home = sym (home_of_it (view k.catalog changes.owner) p changes.before changes.seen) ∙ homes.views n.0 changes.owner p.serial changes.before changes.there (object_there (view k.catalog changes.owner) p changes.before changes.seen)

    -- so of its serial there are no entries for others
    pub only_for : (x : Slot) (e : Entry) (v : View) → get a.copies.entries x ≡ Some e → e.view ≡ Some v → e.pid.serial ≡ p.serial → e.pid ≡ p
    only_for x e v was on same = (let home : e.pid.home ≡ p.home = home_of_entry x e v was on ∙ ap homes.home same ∙ sym p_home in λ i. record { home = home i; serial = same i })

    owner_now : get (owners_after k n step) n.0 ≡ Some (stepped step changes.owner)
    owner_now = with_here k.owners n.0 (stepped step) ∙ ap (option_map (stepped step)) changes.there

    changes_now : (stepped step changes.owner).changes ≡ insert changes.owner.changes p.serial state
    changes_now = ap (with_changes changes.owner.changes) changes.own

    -- the owner has changed it now, and else what it had
    changed_else : (q : Pid) → (q.serial ≡ p.serial → ⊥) → is_changed_by (owners_after k n step) n q ≡ is_changed_by k.owners n q
    changed_else q ne =
        ap (λ o. given o false (λ owner. has_changed owner q.serial)) owner_now
        ∙ ap (λ c. is_some (get c q.serial)) changes_now
        ∙ ap is_some (insert_apart changes.owner.changes p.serial state q.serial ne)
        ∙ sym (ap (λ o. given o false (λ owner. has_changed owner q.serial)) changes.there)

    changed_it : is_changed_by (owners_after k n step) n p ≡ true
    changed_it =
        ap (λ o. given o false (λ owner. has_changed owner p.serial)) owner_now
        ∙ ap (λ c. is_some (get c p.serial)) changes_now
        ∙ ap is_some (insert_here changes.owner.changes p.serial state)

    changed_by_others : (m : OwnerNo) (q : Pid) → (m.0 ≡ n.0 → ⊥) → is_changed_by (owners_after k n step) m q ≡ is_changed_by k.owners m q
    changed_by_others m q ne = ap (λ o. given o false (λ owner. has_changed owner q.serial)) (with_apart k.owners n.0 (stepped step) m.0 ne)

    -- an entry that is left stands where its session sees the object, if the owner's own entries for it stand on its own body
    pub seat_after : (x : Slot) (e : Entry) (v : View) → get a.copies.entries x ≡ Some e → e.view ≡ Some v → ((session : Session) → get k.sessions x.session.0 ≡ Some session → owner_of session ≡ Some n → e.pid ≡ p → is_changed_by k.owners n p ≡ true)
        → IsSeat (owners_after k n step) k.sessions x.session e.pid v
    seat_after x e v was on own =
        let seat = at.seats.seated x e v was on in
        seat_owned k.owners (owners_after k n step) k.sessions x.session e.pid v seat (λ m of. by seat m of (same_or_apart m.0 n.0))
      where
        here : (seat : IsSeat k.owners k.sessions x.session e.pid v) → owner_of seat.session ≡ Some n → ((e.pid.serial ≡ p.serial) ⊎ (e.pid.serial ≡ p.serial → ⊥)) → is_changed_by (owners_after k n step) n e.pid ≡ is_changed_by k.owners n e.pid
        here seat of (inr ne) = changed_else e.pid ne
        here seat of (inl same) =
            let is : e.pid ≡ p = only_for x e v was on same in
            ap (is_changed_by (owners_after k n step) n) is ∙ changed_it ∙ sym (own seat.session seat.there of is) ∙ sym (ap (is_changed_by k.owners n) is)

        by : (seat : IsSeat k.owners k.sessions x.session e.pid v) (m : OwnerNo) → owner_of seat.session ≡ Some m → ((m.0 ≡ n.0) ⊎ (m.0 ≡ n.0 → ⊥)) → is_changed_by (owners_after k n step) m e.pid ≡ is_changed_by k.owners m e.pid
        by seat m of (inr ne) = changed_by_others m e.pid ne
        by seat m of (inl same) =
            let one : m ≡ n = ap (λ q. record { 0 = q }) same in
            ap (λ q. is_changed_by (owners_after k n step) q e.pid) one ∙ here seat (of ∙ ap Some one) (same_or_apart e.pid.serial p.serial) ∙ sym (ap (λ q. is_changed_by k.owners q e.pid) one)

    -- what the owner sees now
    pub view_now : view k.catalog (stepped step changes.owner) ≡ with_state (view k.catalog changes.owner) p.serial state
    view_now = view_stepped k.catalog changes.owner step ∙ ap (over (view k.catalog changes.owner)) changes.own

    view_else : (s : ℕ) → (s ≡ p.serial → ⊥) → get (view k.catalog (stepped step changes.owner)) s ≡ get (view k.catalog changes.owner) s
    view_else s ne = ap (λ N. get N s) view_now ∙ by state
      where
        by : (o : Option Object) → get (with_state (view k.catalog changes.owner) p.serial o) s ≡ get (view k.catalog changes.owner) s
        by None = remove_apart (view k.catalog changes.owner) p.serial s ne
        by (Some x) = insert_apart (view k.catalog changes.owner) p.serial x s ne

    -- what an owner sees of another object it saw before
    pub sees_after : (pid : Pid) (m : OwnerNo) (values : List PlainValue) → OwnerSees k.catalog k.owners m pid values → (m.0 ≡ n.0 → pid.serial ≡ p.serial → ⊥) → OwnerSees k.catalog (owners_after k n step) m pid values
    sees_after pid m values o other = by (same_or_apart m.0 n.0)
      where
        by : ((m.0 ≡ n.0) ⊎ (m.0 ≡ n.0 → ⊥)) → OwnerSees k.catalog (owners_after k n step) m pid values
        by (inr ne) = record { owner = o.owner; there = with_apart k.owners n.0 (stepped step) m.0 ne ∙ o.there; seen = o.seen }
        by (inl same) =
            let one : o.owner ≡ changes.owner = same_some (sym o.there ∙ ap (get k.owners) same ∙ changes.there) in
            record {
              owner = stepped step changes.owner;
              there = ap (get (owners_after k n step)) same ∙ owner_now;
              seen = ap (λ q. given (given q None (λ object. if object.home.0 == pid.home then Some object else None)) None (λ object. Some object.values)) (view_else pid.serial (other same)) ∙ ap (λ (z : Owner). values_at (view k.catalog z) pid) (sym one) ∙ o.seen;
            }

    -- the object that it was given
    pub sees_it : (object : Object) → state ≡ Some object → object.home ≡ changes.before.home → OwnerSees k.catalog (owners_after k n step) n p object.values
    sees_it object is home = record { owner = stepped step changes.owner; there = owner_now; seen = ap (λ q. given (given q None (λ x. if x.home.0 == p.home then Some x else None)) None (λ x. Some x.values)) here ∙ ap (λ b. given (cond b (Some object) None) None (λ x. Some x.values)) (eq-eqb object.home.0 p.home number) }
      where
        here : get (view k.catalog (stepped step changes.owner)) p.serial ≡ Some object
        here = ap (λ N. get N p.serial) view_now ∙ ap (λ o. get (with_state (view k.catalog changes.owner) p.serial o) p.serial) is ∙ insert_here (view k.catalog changes.owner) p.serial object

        number : object.home.0 ≡ p.home
        number = ap (λ h. h.0) home ∙ home_of_it (view k.catalog changes.owner) p changes.before changes.seen
