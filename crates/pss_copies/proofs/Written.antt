-- What a set leaves of entries and bodies.
use Rattle.std.proofs.Common.{◌≡◌, ℕ, ◌==◌, ◌&&◌, Bool, true, false, not, List, Option, Some, None, refl, sym, ap, ◌∙◌, subst, inl, inr}
use Rattle.std.specs.Prelude.{◌⊎◌, is_some, if◌then◌else◌}
use Rattle.std.specs.Option.{option_map}
use Rattle.std.specs.FinMap.{get, insert}
use Rattle.std.proofs.lemmas.Bool.{eq-eqb}
use Rattle.pss_base.specs.declared.pid.Pid.{Pid}
use Rattle.pss_base.specs.declared.owner.OwnerNo.{OwnerNo}
use Rattle.pss_base.specs.declared.session.SessionNo.{SessionNo}
use Rattle.type_layout.specs.Types.{PlainValue}
use Rattle.type_layout.specs.Schemas.{given}
use Rattle.pss_machine.specs.declared.session.View.{View}
use Rattle.pss_machine.specs.declared.session.View.TheVariants.{Committed, Own, Kept as InCopy}
use Rattle.pss_machine.specs.Operations.{Done}
use Rattle.pss_machine.specs.Same.{same_pid}
use Rattle.pss_machine.specs.Owners.{Owners, Step, view}
use Rattle.pss_machine.specs.Sessions.{Session, is_basic, owner_of, is_owner}
use Rattle.pss_machine.specs.Copies.{Copied, Loose, AllCopies, values_at, is_changed_by, unchanged_in, view_in, body_in, same_view, detached}
use Rattle.pss_machine.specs.Kept.{Kept}
use Rattle.pss_machine.specs.Moving.{owners_after, is_outdated}
use Rattle.pss_machine.proofs.Logic.{none_some, same_some, true_false}
use Rattle.pss_laws.proofs.Footprint.{object_there}
use Rattle.pss_laws.proofs.Living.{home_of_it}
use Rattle.pss_session.specs.Meaning.{Meaning as Standing, belongs_to, of_sessions, is_unchanged, on_unchanged}
use Rattle.incarnations.specs.declared.names.Slot.{Slot}
use Rattle.incarnations.specs.declared.names.BodyName.{BodyName}
use Rattle.incarnations.specs.declared.names.Entry.{Entry}
use Rattle.incarnations.specs.Meaning.{Meaning, AreCopies, Leaves, loosened, both, slot, body, entry_at, rewritten}
use Rattle.incarnations.proofs.Keys.{body_key, pid_self}
use Rattle.recent_table.proofs.Maps as maps
use Rattle.pss_copies.specs.declared.parts.Parts.{Parts}
use Rattle.pss_copies.specs.Told.{stand_told, entry_told, AreTold}
use Rattle.pss_copies.specs.Seats.{OwnerSees, Attends}
use Rattle.pss_copies.specs.Ruled.{HomesAgree}
use Rattle.pss_copies.specs.Stepped.{left_by, SetsAt}
use Rattle.pss_copies.proofs.Associated.{eq_back}
use Rattle.pss_copies.proofs.Left.{kept_entry, old_body, told_left}
use Rattle.pss_copies.proofs.Outdated.{values_there, p_home, seat_after, sees_after, sees_it}

pub pid_back : (p q : Pid) → same_pid p q ≡ same_pid q p
pid_back p q = ap (λ b. b && (p.serial == q.serial)) (eq_back p.home q.home) ∙ ap (λ b. (q.home == p.home) && b) (eq_back p.serial q.serial)

-- ---- views of the owner's sessions

unchanged_seen : (s : SessionNo) (x : Session) (n : OwnerNo) → is_unchanged s (unchanged_in s x) ≡ true
unchanged_seen s x n = by (is_basic x)
  where
    by : (b : Bool) → is_unchanged s (if b then InCopy s else Committed) ≡ true
    by true = eq-eqb s.0 s.0 refl
    by false = refl

unchanged_not_own : (s : SessionNo) (x : Session) (n : OwnerNo) → not (same_view (unchanged_in s x) (Own n)) ≡ true
unchanged_not_own s x n = by (is_basic x)
  where
    by : (b : Bool) → not (same_view (if b then InCopy s else Committed) (Own n)) ≡ true
    by true = refl
    by false = refl

-- of the owner's sessions, a view is the owner's own or one in which its change is not seen
pub own_or_unchanged : (owners : Owners) (s : SessionNo) (x : Session) (n : OwnerNo) (pid : Pid) → is_owner n (owner_of x) ≡ true → is_unchanged s (view_in owners s x pid) ≡ not (same_view (view_in owners s x pid) (Own n))
own_or_unchanged owners s x n pid of = by (owner_of x) of
  where
    one : (m : OwnerNo) → (m.0 == n.0) ≡ true → (b : Bool) → is_unchanged s (if b then Own m else unchanged_in s x) ≡ not (same_view (if b then Own m else unchanged_in s x) (Own n))
    one m same true = sym (ap not same)
    one m same false = unchanged_seen s x n ∙ sym (unchanged_not_own s x n)

    by : (o : Option OwnerNo) → is_owner n o ≡ true → is_unchanged s (given o (unchanged_in s x) (λ n. if is_changed_by owners n pid then Own n else unchanged_in s x)) ≡ not (same_view (given o (unchanged_in s x) (λ n. if is_changed_by owners n pid then Own n else unchanged_in s x)) (Own n))
    by None of = unchanged_seen s x n ∙ sym (unchanged_not_own s x n)
    by (Some m) of = one m of (is_changed_by owners m pid)

-- entries that are told alike
pub told_same : (old new : Meaning) → new.lasts ≡ old.lasts → new.entries ≡ old.entries → ((pid : Pid) (o : Option View) → stand_told new pid o ≡ stand_told old pid o) → (all : AllCopies) → AreTold old all → AreTold new all
told_same old new lasts entries stands all told = record {
  same = λ s. told.same s ∙ sym (ap (λ l. is_some (get l s)) lasts);
  each = λ s c at. let was = told.each s c at in record { last = ap (λ l. get l s) lasts ∙ was.last; entries = λ n. was.entries n ∙ sym (ap (λ m. option_map (entry_told new n) (get m (slot s n))) entries ∙ by n (entry_at old s n)) };
}
  where
    by : (n : ℕ) (o : Option Entry) → option_map (entry_told new n) o ≡ option_map (entry_told old n) o
    by n None = refl
    by n (Some e) = ap (λ d. Some (record { number = n; pid = e.pid; count = e.count; stand = d })) (stands e.pid e.view)

-- ---- a body that is rewritten

module _ (old new : Meaning) (p : Pid) (n : OwnerNo) (value : List PlainValue) (is : new ≡ rewritten old (body p (Own n)) value) where
  pub rewritten_away : (b : BodyName) → (b ≡ body p (Own n) → ⊥) → get new.bodies b ≡ get old.bodies b
  rewritten_away b ne = ap (λ (m : Meaning). get m.bodies b) is ∙ by (get old.bodies (body p (Own n)))
    where
      by : (o : Option (List PlainValue)) → get (given o old.bodies (λ v. insert old.bodies (body p (Own n)) value)) b ≡ get old.bodies b
      by None = refl
      by (Some v) = maps.insert_apart body_key old.bodies (body p (Own n)) value b ne

  pub rewritten_here : (values : List PlainValue) → get new.bodies (body p (Own n)) ≡ Some values → value ≡ values
  rewritten_here values at = by (get old.bodies (body p (Own n))) refl (sym (ap (λ (m : Meaning). get m.bodies (body p (Own n))) is) ∙ at)
    where
      by : (o : Option (List PlainValue)) → get old.bodies (body p (Own n)) ≡ o → get (given o old.bodies (λ v. insert old.bodies (body p (Own n)) value)) (body p (Own n)) ≡ Some values → value ≡ values
      by None was at = absurd (none_some (sym was ∙ at))
      by (Some v) was at = same_some (sym (maps.insert_here body_key old.bodies (body p (Own n)) value) ∙ at)

  pub rewritten_stands : (pid : Pid) (o : Option View) → stand_told new pid o ≡ stand_told old pid o
  rewritten_stands pid None = refl
  rewritten_stands pid (Some Committed) = refl
  rewritten_stands pid (Some (Own m)) = refl
  rewritten_stands pid (Some (InCopy s)) = ap (λ o. given o Loose Copied) (rewritten_away (body pid (InCopy s)) (λ e. unlike (ap (λ (b : BodyName). b.view) e)))
    where
      unlike : InCopy s ≡ Own n → ⊥
      unlike e = cc

-- one that is not there is not rewritten
pub unwritten : (m : Meaning) (b : BodyName) (value : List PlainValue) → get m.bodies b ≡ None → m ≡ rewritten m b value
unwritten m b value none = ap (λ (o : Option (List PlainValue)). record { lasts = m.lasts; entries = m.entries; bodies = given o m.bodies (λ v. insert m.bodies b value) }) (sym none)

-- ---- the set

module _ (k : Kept) (old new : Parts) (mid : Meaning) (n : OwnerNo) (step : Step) (p : Pid) (values : List PlainValue) (sets : SetsAt k n step p values) (homes : HomesAgree k) (are : AreCopies old.copies) (at : Attends k old) (stays : new.sessions ≡ old.sessions) (lasts : mid.lasts ≡ old.copies.lasts)
    (left : Leaves (loosened (both (of_sessions (belongs_to n) old.sessions) (on_unchanged p))) old.copies mid) (rewrites : new.copies ≡ rewritten mid (body p (Own n)) values) where
  abbrev g : Slot → Entry → Bool
  g = both (of_sessions (belongs_to n) old.sessions) (on_unchanged p)

  -- who leaves, by the view in which its session sees the object
  leaves_by : (x : Slot) (e : Entry) (v : View) (session : Session) → e.view ≡ Some v → get k.sessions x.session.0 ≡ Some session → g x e ≡ (is_owner n (owner_of session) && (same_pid p e.pid && is_unchanged x.session v))
  leaves_by x e v session on in_it =
      ap (λ o. given o false (belongs_to n) && on_unchanged p x e) (ap (λ m. get m x.session.0) at.sessions ∙ in_it)
      ∙ ap (λ o. is_owner n (owner_of session) && (same_pid p e.pid && given o false (is_unchanged x.session))) on

  outdated_by : (s : SessionNo) (session : Session) (pid : Pid) → is_outdated n step s session (body_in k.owners s session pid) ≡ (is_owner n (owner_of session) && (same_pid pid p && not (same_view (view_in k.owners s session pid) (Own n))))
  outdated_by s session pid =
      ap (λ a. is_outdated n (record { op = step.op; answer = a; needs = step.needs; own = step.own }) s session (body_in k.owners s session pid)) sets.changes.answer
      ∙ ap (λ o. is_outdated n (record { op = o; answer = Done; needs = step.needs; own = step.own }) s session (body_in k.owners s session pid)) sets.op

  agree : (x : Slot) (e : Entry) (v : View) (session : Session) → get old.copies.entries x ≡ Some e → e.view ≡ Some v → get k.sessions x.session.0 ≡ Some session → g x e ≡ is_outdated n step x.session session (body_in k.owners x.session session e.pid)
  agree x e v session was on in_it = leaves_by x e v session on in_it ∙ by (is_owner n (owner_of session)) refl ∙ sym (outdated_by x.session session e.pid)
    where
      seen : v ≡ view_in k.owners x.session session e.pid
      seen = (let seat = at.seats.seated x e v was on in seat.seen ∙ ap (λ z. view_in k.owners x.session z e.pid) (same_some (sym seat.there ∙ in_it)))

      by : (b : Bool) → is_owner n (owner_of session) ≡ b → (b && (same_pid p e.pid && is_unchanged x.session v)) ≡ (b && (same_pid e.pid p && not (same_view (view_in k.owners x.session session e.pid) (Own n))))
      by false is = refl
      by true is = ap (λ b. b && is_unchanged x.session v) (pid_back p e.pid) ∙ ap (λ b. same_pid e.pid p && b) (ap (is_unchanged x.session) seen ∙ own_or_unchanged k.owners x.session session n e.pid is)

  entries_same : new.copies.entries ≡ mid.entries
  entries_same = ap (λ (m : Meaning). m.entries) rewrites

  -- an entry of the owner for the object that is left stands on its own body
  stands_own : (x : Slot) (e : Entry) (v : View) → get old.copies.entries x ≡ Some e → e.view ≡ Some v → g x e ≡ false → (session : Session) → get k.sessions x.session.0 ≡ Some session → owner_of session ≡ Some n → e.pid ≡ p → is_changed_by k.owners n p ≡ true
  stands_own x e v was on off session in_it of is = by (is_changed_by k.owners n p) refl
    where
      by : (b : Bool) → is_changed_by k.owners n p ≡ b → b ≡ true
      by true c = refl
      by false c =
          let seat = at.seats.seated x e v was on in
          let seen : v ≡ unchanged_in x.session session =
          seat.seen ∙ ap (λ z. view_in k.owners x.session z e.pid) (same_some (sym seat.there ∙ in_it))
          ∙ ap (λ o. given o (unchanged_in x.session session) (λ n. if is_changed_by k.owners n e.pid then Own n else unchanged_in x.session session)) of
          ∙ ap (λ b. if b then Own n else unchanged_in x.session session) (ap (is_changed_by k.owners n) is ∙ c) in
          let passes : g x e ≡ true =
          leaves_by x e v session on in_it
          ∙ ap (λ o. is_owner n o && (same_pid p e.pid && is_unchanged x.session v)) of
          ∙ ap (λ b. b && (same_pid p e.pid && is_unchanged x.session v)) (eq-eqb n.0 n.0 refl)
          ∙ ap (λ q. same_pid p q && is_unchanged x.session v) is
          ∙ ap (λ b. b && is_unchanged x.session v) (pid_self p)
          ∙ ap (is_unchanged x.session) seen ∙ unchanged_seen x.session session n in
          absurd (true_false passes off)

  pub set_attends : Attends (left_by k n step) new
  set_attends = record {
    sessions = ap (λ (q : Standing). q.sessions) stays ∙ at.sessions;
    next = ap (λ (q : Standing). q.next) stays ∙ at.next;
    seats = record {
      told = told_same mid new.copies (ap (λ (m : Meaning). m.lasts) rewrites) entries_same (rewritten_stands mid new.copies p n values rewrites) (detached k.owners k.sessions (is_outdated n step) k.copies)
          (told_left g old.copies mid left k.owners k.sessions (is_outdated n step) are at.seats.seated agree lasts k.copies at.seats.told);
      seated = λ x e v here on. let was = kept_entry g old.copies mid left x e v (ap (λ m. get m x) (sym entries_same) ∙ here) on in
          seat_after k old homes are at n step p (Some sets.object) sets.changes x e v was.0 on (stands_own x e v was.0 on was.1);
      valued = record { committed = committed; own = λ pid m vs here. own pid m vs here (maps.same_or_apart body_key (body pid (Own m)) (body p (Own n))) };
    };
  }
    where
      committed : (pid : Pid) (vs : List PlainValue) → get new.copies.bodies (body pid Committed) ≡ Some vs → values_at k.catalog pid ≡ Some vs
      committed pid vs here = at.seats.valued.committed pid vs (old_body (loosened g) old.copies mid left (body pid Committed) vs (sym (rewritten_away mid new.copies p n values rewrites (body pid Committed) (λ e. unlike (ap (λ (b : BodyName). b.view) e))) ∙ here))
        where
          unlike : Committed ≡ Own n → ⊥
          unlike e = cc

      own : (pid : Pid) (m : OwnerNo) (vs : List PlainValue) → get new.copies.bodies (body pid (Own m)) ≡ Some vs → ((body pid (Own m) ≡ body p (Own n)) ⊎ (body pid (Own m) ≡ body p (Own n) → ⊥)) → OwnerSees k.catalog (owners_after k n step) m pid vs
      own pid m vs here (inl same) =
          let q : pid ≡ p = ap (λ (b : BodyName). b.pid) same in
          let o : m ≡ n = number (ap (λ (b : BodyName). b.view) same) in
          let v : sets.object.values ≡ vs = sets.values_are ∙ rewritten_here mid new.copies p n values rewrites vs (ap (get new.copies.bodies) (sym same) ∙ here) in
          subst (λ z. OwnerSees k.catalog (owners_after k n step) z pid vs) (sym o) (subst (λ z. OwnerSees k.catalog (owners_after k n step) n z vs) (sym q) (subst (OwnerSees k.catalog (owners_after k n step) n p) v (sees_it k old homes are at n step p (Some sets.object) sets.changes sets.object refl sets.home)))
        where
          number : Own m ≡ Own n → m ≡ n
          number e = cc
      own pid m vs here (inr ne) =
          let before = at.seats.valued.own pid m vs (old_body (loosened g) old.copies mid left (body pid (Own m)) vs (sym (rewritten_away mid new.copies p n values rewrites (body pid (Own m)) ne) ∙ here)) in
          sees_after k old homes are at n step p (Some sets.object) sets.changes pid m vs before (λ same serial. ne (both_same before same serial))
        where
          both_same : OwnerSees k.catalog k.owners m pid vs → m.0 ≡ n.0 → pid.serial ≡ p.serial → body pid (Own m) ≡ body p (Own n)
          both_same o same serial =
              let x = values_there (view k.catalog o.owner) pid vs o.seen in
              let home : pid.home ≡ p.home = sym (home_of_it (view k.catalog o.owner) pid x.0 x.1) ∙ homes.views m.0 o.owner pid.serial x.0 o.there (object_there (view k.catalog o.owner) pid x.0 x.1) ∙ ap homes.home serial ∙ sym (p_home k old homes are at n step p (Some sets.object) sets.changes) in
              λ i. body (record { home = home i; serial = serial i }) (Own (record { 0 = same i }))
