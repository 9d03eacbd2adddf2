-- A new object, for which no entry is attached yet.
use Rattle.std.proofs.Common.{◌≡◌, ℕ, false, List, [], ◌∷◌, Option, Some, None, IsSome, refl, sym, ap, ◌∙◌, inl, inr, arith}
use Rattle.std.specs.Prelude.{◌⊎◌, is_some, ◌==◌, if◌then◌else◌}
use Rattle.std.specs.Option.{option_map, option_and_then}
use Rattle.std.specs.FinMap.{get}
use Rattle.pss_base.specs.declared.pid.Pid.{Pid}
use Rattle.pss_base.specs.declared.owner.OwnerNo.{OwnerNo}
use Rattle.type_layout.specs.declared.schema.Schema.{Schema}
use Rattle.type_layout.specs.Types.{PlainValue}
use Rattle.type_layout.specs.Schemas.{given}
use Rattle.pss_catalog.specs.Catalog.{Object, Catalog}
use Rattle.pss_catalog.specs.Changes.{with_state, over}
use Rattle.pss_machine.specs.declared.session.View.{View}
use Rattle.pss_machine.specs.declared.session.View.TheVariants.{Committed, Own, Kept as InCopy}
use Rattle.pss_machine.specs.Changes.{with_changes}
use Rattle.pss_machine.specs.Owners.{Owner, Step, view, has_changed, stepped}
use Rattle.pss_machine.specs.Copies.{Copied, Loose, values_at, is_changed_by}
use Rattle.pss_machine.specs.Kept.{Kept, copies_of}
use Rattle.pss_machine.specs.Moving.{owners_after, is_outdated}
use Rattle.pss_machine.proofs.Maps.{same_or_apart, insert_apart, remove_apart, with_here, with_apart}
use Rattle.pss_machine.proofs.Logic.{none_some}
use Rattle.pss_laws.specs.Sound.{NoneFrom, IsSound}
use Rattle.pss_laws.proofs.Footprint.{object_there}
use Rattle.pss_laws.proofs.Nets.{view_stepped}
use Rattle.pss_session.proofs.Leaving.{leaves_none}
use Rattle.incarnations.specs.declared.names.Slot.{Slot}
use Rattle.incarnations.specs.declared.names.Entry.{Entry}
use Rattle.incarnations.specs.Meaning.{AreCopies, body, body_of}
use Rattle.pss_copies.specs.declared.parts.Parts.{Parts}
use Rattle.pss_copies.specs.Told.{stand_told, entry_told}
use Rattle.pss_copies.specs.Seats.{OwnerSees, Attends}
use Rattle.pss_copies.specs.Ruled.{HomesAgree}
use Rattle.pss_copies.specs.Stepped.{left_by, OutdatesNone}
use Rattle.pss_copies.proofs.Left.{told_left}
use Rattle.pss_copies.proofs.Seated.{seat_owned}
use Rattle.pss_copies.proofs.Held.{told_at, copies_there}
use Rattle.pss_copies.proofs.Outdated.{values_there}

-- what is seen has a serial that was given
not_next : (M : Catalog) (next : ℕ) (pid : Pid) (values : List PlainValue) → NoneFrom next M → values_at M pid ≡ Some values → pid.serial ≡ next → ⊥
not_next M next pid values none seen same = (let x = values_there M pid values seen in none_some (sym (none pid.serial (omega (arith, same))) ∙ object_there M pid x.0 x.1))

module _ (S : Schema) (k : Kept) (a : Parts) (n : OwnerNo) (step : Step) (state : Option Object) (own : step.own ≡ record { serial = k.next; state = state } ∷ []) (none : OutdatesNone n step) (sound : IsSound S k) (homes : HomesAgree k) (are : AreCopies a.copies) (at : Attends k a) where
  -- no entry for an object of the next serial is attached
  fresh : (x : Slot) (e : Entry) (v : View) → get a.copies.entries x ≡ Some e → e.view ≡ Some v → e.pid.serial ≡ k.next → ⊥
  fresh x e v was on same = by v on (are.bodies x (body e.pid v) (ap (option_and_then body_of) was ∙ ap (option_map (body e.pid)) on))
    where
      some_body : (o : Option (List PlainValue)) → IsSome o → (values : List PlainValue) × (o ≡ Some values)
      some_body None h = absurd cc
      some_body (Some values) h = (values, refl)

      by : (v : View) → e.view ≡ Some v → IsSome (get a.copies.bodies (body e.pid v)) → ⊥
      by Committed on some = (let b = some_body (get a.copies.bodies (body e.pid Committed)) some in not_next k.catalog k.next e.pid b.0 sound.given (at.seats.valued.committed e.pid b.0 b.1) same)
      by (Own m) on some =
          let b = some_body (get a.copies.bodies (body e.pid (Own m))) some in
          let o = at.seats.valued.own e.pid m b.0 b.1 in
          not_next (view k.catalog o.owner) k.next e.pid b.0 (sound.each m.0 o.owner o.there).given o.seen same
      by (InCopy t) on some =
          let b = some_body (get a.copies.bodies (body e.pid (InCopy t))) some in
          let stand : stand_told a.copies e.pid e.view ≡ Copied b.0 = ap (stand_told a.copies e.pid) on ∙ ap (λ o. given o Loose Copied) b.1 in
          let below = (homes.own x.session.0 x.number (copies_of k x.session) (entry_told a.copies x.number e) b.0 (copies_there a.copies k.copies are at.seats.told x.session x.number e was)
          (told_at a.copies k.copies are at.seats.told x.session x.number ∙ ap (option_map (entry_told a.copies x.number)) was) stand).1 in
          absurd (omega (arith, below, same))

  changed_else : (m : OwnerNo) (pid : Pid) → (pid.serial ≡ k.next → ⊥) → is_changed_by (owners_after k n step) m pid ≡ is_changed_by k.owners m pid
  changed_else m pid ne = by (same_or_apart m.0 n.0)
    where
      each : (o : Option Owner) → given (option_map (stepped step) o) false (λ owner. has_changed owner pid.serial) ≡ given o false (λ owner. has_changed owner pid.serial)
      each None = refl
      each (Some o) = ap (λ cs. is_some (get (with_changes o.changes cs) pid.serial)) own ∙ ap is_some (insert_apart o.changes k.next state pid.serial ne)

      by : ((m.0 ≡ n.0) ⊎ (m.0 ≡ n.0 → ⊥)) → is_changed_by (owners_after k n step) m pid ≡ is_changed_by k.owners m pid
      by (inr ne) = ap (λ o. given o false (λ owner. has_changed owner pid.serial)) (with_apart k.owners n.0 (stepped step) m.0 ne)
      by (inl same) =
          ap (λ o. given o false (λ owner. has_changed owner pid.serial)) (ap (get (owners_after k n step)) same ∙ with_here k.owners n.0 (stepped step))
          ∙ each (get k.owners n.0)
          ∙ ap (λ q. given (get k.owners q) false (λ owner. has_changed owner pid.serial)) (sym same)

  view_else : (o : Owner) (s : ℕ) → (s ≡ k.next → ⊥) → get (view k.catalog (stepped step o)) s ≡ get (view k.catalog o) s
  view_else o s ne = ap (λ N. get N s) (view_stepped k.catalog o step ∙ ap (over (view k.catalog o)) own) ∙ by state
    where
      by : (x : Option Object) → get (with_state (view k.catalog o) k.next x) s ≡ get (view k.catalog o) s
      by None = remove_apart (view k.catalog o) k.next s ne
      by (Some x) = insert_apart (view k.catalog o) k.next x s ne

  pub fresh_attends : Attends (left_by k n step) a
  fresh_attends = record {
    sessions = at.sessions;
    next = at.next;
    seats = record {
      told = told_left (λ x e. false) a.copies a.copies (leaves_none (λ x e. false) a.copies are (λ x e. refl)) k.owners k.sessions (is_outdated n step) are at.seats.seated (λ x e v session was on in_it. sym (none x.session session _)) refl k.copies at.seats.told;
      seated = λ x e v was on. seat_owned k.owners (owners_after k n step) k.sessions x.session e.pid v (at.seats.seated x e v was on) (λ m of. changed_else m e.pid (fresh x e v was on));
      valued = record { committed = at.seats.valued.committed; own = λ pid m values here. sees pid m values (at.seats.valued.own pid m values here) (same_or_apart m.0 n.0) };
    };
  }
    where
      sees : (pid : Pid) (m : OwnerNo) (values : List PlainValue) → OwnerSees k.catalog k.owners m pid values → ((m.0 ≡ n.0) ⊎ (m.0 ≡ n.0 → ⊥)) → OwnerSees k.catalog (owners_after k n step) m pid values
      sees pid m values o (inr ne) = record { owner = o.owner; there = with_apart k.owners n.0 (stepped step) m.0 ne ∙ o.there; seen = o.seen }
      sees pid m values o (inl same) = record {
        owner = stepped step o.owner;
        there = ap (get (owners_after k n step)) same ∙ with_here k.owners n.0 (stepped step) ∙ ap (option_map (stepped step)) (ap (get k.owners) (sym same) ∙ o.there);
        seen = ap (λ q. given (given q None (λ x. if x.home.0 == pid.home then Some x else None)) None (λ x. Some x.values)) (view_else o.owner pid.serial (not_next (view k.catalog o.owner) k.next pid values (sound.each m.0 o.owner o.there).given o.seen)) ∙ o.seen;
      }
