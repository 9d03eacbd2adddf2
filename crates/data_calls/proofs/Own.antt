-- A session's own copy of an object: its entry for the object stands on it, and no other one.
use Rattle.std.proofs.Common.{◌≡◌, ℕ, Bool, true, false, Option, Some, None, IsSome, refl, sym, ap, ◌∙◌}
use Rattle.std.specs.Prelude.{is_some, if◌then◌else◌}
use Rattle.std.specs.Option.{option_map}
use Rattle.std.specs.FinMap.{get}
use Rattle.pss_base.specs.declared.pid.Pid.{Pid}
use Rattle.pss_base.specs.declared.owner.OwnerNo.{OwnerNo}
use Rattle.pss_base.specs.declared.session.SessionNo.{SessionNo}
use Rattle.type_layout.specs.Schemas.{given}
use Rattle.pss_machine.specs.declared.session.View.{View}
use Rattle.pss_machine.specs.declared.session.View.TheVariants.{Committed, Own, Kept as InCopy}
use Rattle.pss_machine.specs.Owners.{Owners}
use Rattle.pss_machine.specs.Sessions.{Session, Sessions, owner_of, is_basic}
use Rattle.pss_machine.specs.Copies.{is_changed_by, unchanged_in, view_in}
use Rattle.pss_machine.proofs.Logic.{none_some, same_some}
use Rattle.incarnations.specs.declared.names.Entry.{Entry}
use Rattle.incarnations.specs.Meaning.{Meaning, AreCopies, slot, body, entry_at, stands_on, same_body}
use Rattle.incarnations.proofs.Keys.{slot_key, body_told}
use Rattle.pss_copies.specs.Seats.{AreSeated}
use Rattle.pss_copies.proofs.Holders.{Holder, holder}

-- a session sees objects in no other session's copies
pub own_view : (owners : Owners) (t s : SessionNo) (x : Session) (pid : Pid) → InCopy s ≡ view_in owners t x pid → s ≡ t
own_view owners t s x pid is = by (owner_of x) is
  where
    in_copy : (b : Bool) → InCopy s ≡ (if b then InCopy t else Committed) → s ≡ t
    in_copy true e = cc
    in_copy false e = absurd (cc)

    changed : (n : OwnerNo) (b : Bool) → InCopy s ≡ (if b then Own n else unchanged_in t x) → s ≡ t
    changed n true e = absurd (cc)
    changed n false e = in_copy (is_basic x) e

    by : (o : Option OwnerNo) → InCopy s ≡ given o (unchanged_in t x) (λ n. if is_changed_by owners n pid then Own n else unchanged_in t x) → s ≡ t
    by None e = in_copy (is_basic x) e
    by (Some n) e = changed n (is_changed_by owners n pid) e

module _ (owners : Owners) (sessions : Sessions) (m : Meaning) (are : AreCopies m) (seated : AreSeated owners sessions m) (s : SessionNo) (n : ℕ) (e : Entry) (there : entry_at m s n ≡ Some e) where
  -- where there is an own copy of the entry's object, the entry stands on it
  pub own_stands : IsSome (get m.bodies (body e.pid (InCopy s))) → e.view ≡ Some (InCopy s)
  own_stands has = by (holder slot_key (stands_on (body e.pid (InCopy s))) m.entries (are.stood_on (body e.pid (InCopy s)) has))
    where
      at : (h : Holder _ (stands_on (body e.pid (InCopy s))) m.entries) (o : Option View) → h.thing.view ≡ o → given (option_map (body h.thing.pid) o) false (same_body (body e.pid (InCopy s))) ≡ true → e.view ≡ Some (InCopy s)
      at h None view passes = absurd cc
      at h (Some v) view passes =
          let same : body e.pid (InCopy s) ≡ body h.thing.pid v = body_told (body e.pid (InCopy s)) (body h.thing.pid v) passes in
          let v_is : InCopy s ≡ v = ap (λ b. b.view) same in
          let p_is : e.pid ≡ h.thing.pid = ap (λ b. b.pid) same in
          let seat = seated h.at h.thing v h.there view in
          let session : s ≡ h.at.session = own_view owners h.at.session s seat.session h.thing.pid (v_is ∙ seat.seen) in
          let one : slot s n ≡ h.at = are.objects (slot s n) h.at e h.thing there h.there session p_is in
          let entry : e ≡ h.thing = same_some (sym there ∙ ap (get m.entries) one ∙ h.there) in
          ap (λ (x : Entry). x.view) entry ∙ view ∙ ap Some (sym v_is)

      by : Holder _ (stands_on (body e.pid (InCopy s))) m.entries → e.view ≡ Some (InCopy s)
      by h = at h h.thing.view refl h.passes

  -- an entry on no body has no own copy
  pub none_own : e.view ≡ None → get m.bodies (body e.pid (InCopy s)) ≡ None
  none_own loose = by (get m.bodies (body e.pid (InCopy s))) refl
    where
      by : (o : Option _) → get m.bodies (body e.pid (InCopy s)) ≡ o → o ≡ None
      by None is = refl
      by (Some values) is = absurd (none_some (sym loose ∙ own_stands (ap is_some is)))
