-- Steps that change no object leave all entries where they stand.
use Rattle.std.proofs.Common.{◌≡◌, false, List, [], Option, Some, None, refl, sym, ap, ◌∙◌, subst, inl, inr}
use Rattle.std.specs.Prelude.{◌⊎◌, is_some}
use Rattle.std.specs.Option.{option_map}
use Rattle.std.specs.FinMap.{get}
use Rattle.pss_base.specs.declared.pid.Pid.{Pid}
use Rattle.pss_base.specs.declared.owner.OwnerNo.{OwnerNo}
use Rattle.pss_base.specs.declared.session.SessionNo.{SessionNo}
use Rattle.type_layout.specs.Types.{PlainValue}
use Rattle.type_layout.specs.Schemas.{given}
use Rattle.pss_catalog.specs.Changes.{over}
use Rattle.pss_machine.specs.Changes.{listed, with_changes}
use Rattle.pss_machine.specs.Owners.{Owner, Step, has_changed, stepped}
use Rattle.pss_machine.specs.Sessions.{Session}
use Rattle.pss_machine.specs.Copies.{Body, values_at, is_changed_by}
use Rattle.pss_machine.specs.Kept.{Kept}
use Rattle.pss_machine.specs.Moving.{owners_after, is_outdated}
use Rattle.pss_machine.proofs.Maps.{same_or_apart, with_here, with_apart}
use Rattle.pss_session.proofs.Leaving.{leaves_none}
use Rattle.incarnations.specs.Meaning.{AreCopies}
use Rattle.pss_copies.specs.declared.parts.Parts.{Parts}
use Rattle.pss_copies.specs.Seats.{OwnerSees, Seats, Attends}
use Rattle.pss_copies.specs.Stepped.{left_by}
use Rattle.pss_copies.proofs.Left.{told_left}
use Rattle.pss_copies.proofs.Seated.{seat_owned}

module _ (k : Kept) (a : Parts) (n : OwnerNo) (step : Step) (own : step.own ≡ []) (none : (s : SessionNo) (session : Session) (body : Body) → is_outdated n step s session body ≡ false) (are : AreCopies a.copies) (at : Attends k a) where
  same_changes : (o : Owner) → (stepped step o).changes ≡ o.changes
  same_changes o = ap (with_changes o.changes) own

  changed_same : (m : OwnerNo) (pid : Pid) → is_changed_by (owners_after k n step) m pid ≡ is_changed_by k.owners m pid
  changed_same m pid = by (same_or_apart m.0 n.0)
    where
      each : (o : Option Owner) → given (option_map (stepped step) o) false (λ owner. has_changed owner pid.serial) ≡ given o false (λ owner. has_changed owner pid.serial)
      each None = refl
      each (Some o) = ap (λ c. is_some (get c pid.serial)) (same_changes o)

      by : ((m.0 ≡ n.0) ⊎ (m.0 ≡ n.0 → ⊥)) → is_changed_by (owners_after k n step) m pid ≡ is_changed_by k.owners m pid
      by (inr ne) = ap (λ o. given o false (λ owner. has_changed owner pid.serial)) (with_apart k.owners n.0 (stepped step) m.0 ne)
      by (inl same) =
          ap (λ o. given o false (λ owner. has_changed owner pid.serial)) (ap (get (owners_after k n step)) same ∙ with_here k.owners n.0 (stepped step))
          ∙ each (get k.owners n.0)
          ∙ ap (λ q. given (get k.owners q) false (λ owner. has_changed owner pid.serial)) (sym same)

  pub quiet_attends : Attends (left_by k n step) a
  quiet_attends = record {
    sessions = at.sessions;
    next = at.next;
    seats = record {
      told = told_left (λ x e. false) a.copies a.copies (leaves_none (λ x e. false) a.copies are (λ x e. refl)) k.owners k.sessions (is_outdated n step) are at.seats.seated (λ x e v session was on in_it. sym (none x.session session _)) refl k.copies at.seats.told;
      seated = λ x e v was on. seat_owned k.owners (owners_after k n step) k.sessions x.session e.pid v (at.seats.seated x e v was on) (λ m of. changed_same m e.pid);
      valued = record { committed = at.seats.valued.committed; own = λ pid m values here. sees pid m values (at.seats.valued.own pid m values here) (same_or_apart m.0 n.0) };
    };
  }
    where
      sees : (pid : Pid) (m : OwnerNo) (values : List PlainValue) → OwnerSees k.catalog k.owners m pid values → ((m.0 ≡ n.0) ⊎ (m.0 ≡ n.0 → ⊥)) → OwnerSees k.catalog (owners_after k n step) m pid values
      sees pid m values o (inr ne) = record { owner = o.owner; there = with_apart k.owners n.0 (stepped step) m.0 ne ∙ o.there; seen = o.seen }
      sees pid m values o (inl same) = record {
        owner = stepped step o.owner;
        there = ap (get (owners_after k n step)) same ∙ with_here k.owners n.0 (stepped step) ∙ ap (option_map (stepped step)) (ap (get k.owners) (sym same) ∙ o.there);
        seen = ap (λ c. values_at (over k.catalog (listed c)) pid) (same_changes o.owner) ∙ o.seen;
      }

-- it is so of all that the machine keeps which differs in other things alone
pub attends_alike : (k j : Kept) (a : Parts) → j.catalog ≡ k.catalog → j.owners ≡ k.owners → j.sessions ≡ k.sessions → j.copies ≡ k.copies → j.next_session ≡ k.next_session → Attends k a → Attends j a
attends_alike k j a catalog owners sessions copies next at = record {
  sessions = at.sessions ∙ sym sessions;
  next = at.next ∙ sym next;
  seats = subst (λ M. Seats M j.owners j.sessions j.copies a.copies) (sym catalog) (subst (λ o. Seats k.catalog o j.sessions j.copies a.copies) (sym owners) (subst (λ s. Seats k.catalog k.owners s j.copies a.copies) (sym sessions) (subst (λ c. Seats k.catalog k.owners k.sessions c a.copies) (sym copies) at.seats)));
}
