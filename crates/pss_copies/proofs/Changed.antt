-- The objects to which an owner gave values, among those of its net changes and of its own bodies.
use Rattle.std.proofs.Common.{◌≡◌, ◌==◌, ◌≤◌, Bool, true, false, cond, List, [], ◌∷◌, length, filter, not, Option, Some, None, IsSome, refl, sym, ap, ◌∙◌, subst, arith}
use Rattle.std.specs.Prelude.{◌||◌, ◌&&◌, is_some, unwrap_or, if◌then◌else◌}
use Rattle.std.specs.List.{list_any}
use Rattle.std.specs.Option.{option_map, option_and_then}
use Rattle.std.specs.FinMap.{get, len, entries, len-entries}
use Rattle.std.proofs.lemmas.Bool.{eqb-true, eq-eqb}
use Rattle.std.proofs.lemmas.List.{length-map}
use Rattle.pss_base.specs.declared.pid.Pid.{Pid}
use Rattle.pss_base.specs.declared.owner.OwnerNo.{OwnerNo}
use Rattle.type_layout.specs.Types.{PlainValue}
use Rattle.type_layout.specs.Schemas.{given}
use Rattle.pss_catalog.specs.Catalog.{Object, Catalog}
use Rattle.pss_catalog.specs.Changes.{Change, last_state}
use Rattle.pss_catalog.proofs.Uniqueness.{found_over}
use Rattle.pss_machine.specs.declared.session.View.TheVariants.{Own}
use Rattle.pss_machine.specs.Changes.{listed, change_of}
use Rattle.pss_machine.specs.Same.{same_pid, same_state}
use Rattle.pss_machine.specs.Owners.{Owner, view, net, has_changed}
use Rattle.pss_machine.specs.Kept.{Kept}
use Rattle.pss_machine.proofs.Logic.{none_some, same_some}
use Rattle.pss_laws.proofs.Footprint.{object_there}
use Rattle.pss_laws.proofs.Living.{home_of_it}
use Rattle.pss_laws.proofs.Nets.{last_listed}
use Rattle.incarnations.specs.declared.names.Slot.{Slot}
use Rattle.incarnations.specs.declared.names.Entry.{Entry}
use Rattle.incarnations.specs.Meaning.{AreCopies, body, body_of}
use Rattle.pss_copies.specs.declared.parts.Parts.{Parts}
use Rattle.pss_copies.specs.Seats.{Attends}
use Rattle.pss_copies.specs.Settling.{AreOf, HasAmong}
use Rattle.pss_copies.proofs.Associated.{on_own}
use Rattle.pss_copies.proofs.Outdated.{values_there}

or_true : (b : Bool) → (b || true) ≡ true
or_true true = refl
or_true false = refl

-- an object that changes leave there is among theirs
pub among_left : (M : Catalog) (cs : List Change) (ps : List Pid) → AreOf M cs ps → (pid : Pid) (x : Object) → last_state cs pid.serial ≡ Some (Some x) → x.home.0 ≡ pid.home → list_any (λ p. same_pid p pid) ps ≡ true
among_left M [] [] are pid x last of = absurd (none_some last)
among_left M [] (p ∷ ps) are pid x last of = absurd are
among_left M (c ∷ cs) [] are pid x last of = absurd are
among_left M (c ∷ cs) (p ∷ ps) are pid x last of = by (last_state cs pid.serial) last (among_left M cs ps are.3 pid x)
  where
    here : (c.serial == pid.serial) ≡ true → c.state ≡ Some x → same_pid p pid ≡ true
    here same state =
        let serial : p.serial ≡ pid.serial = are.0 ∙ eqb-true c.serial pid.serial same in
        let home : p.home ≡ pid.home = sym (are.2 x state) ∙ of in
        ap (λ h. (h == pid.home) && (p.serial == pid.serial)) home ∙ ap (λ z. (pid.home == pid.home) && (z == pid.serial)) serial ∙ ap (λ b. b && (pid.serial == pid.serial)) (eq-eqb pid.home pid.home refl) ∙ eq-eqb pid.serial pid.serial refl

    by_here : (b : Bool) → (c.serial == pid.serial) ≡ b → (if b then Some c.state else None) ≡ Some (Some x) → (same_pid p pid || list_any (λ q. same_pid q pid) ps) ≡ true
    by_here true same e = ap (λ b. b || list_any (λ q. same_pid q pid) ps) (here same (same_some e))
    by_here false same e = absurd (none_some e)

    by : (o : Option (Option Object)) → given o (if c.serial == pid.serial then Some c.state else None) Some ≡ Some (Some x) → (o ≡ Some (Some x) → x.home.0 ≡ pid.home → list_any (λ q. same_pid q pid) ps ≡ true) → (same_pid p pid || list_any (λ q. same_pid q pid) ps) ≡ true
    by None e rest = by_here (c.serial == pid.serial) refl e
    by (Some state) e rest = ap (λ b. same_pid p pid || b) (rest e of) ∙ or_true (same_pid p pid)

-- ---- as many net changes as changes

length_filter : {A : Type 0} (test : A → Bool) (xs : List A) → length (filter test xs) ≤ length xs
length_filter test [] = omega arith
length_filter test (x ∷ xs) = by (test x) (length_filter test xs)
  where
    by : (b : Bool) → length (filter test xs) ≤ length xs → length (cond b (x ∷ filter test xs) (filter test xs)) ≤ length (x ∷ xs)
    by true h = omega (arith, h)
    by false h = omega (arith, h)

-- where none is left out, all pass
all_pass : {A : Type 0} (test : A → Bool) (xs : List A) → length (filter test xs) ≡ length xs → filter test xs ≡ xs
all_pass test [] e = refl
all_pass test (x ∷ xs) e = by (test x) e (all_pass test xs)
  where
    by : (b : Bool) → length (cond b (x ∷ filter test xs) (filter test xs)) ≡ length (x ∷ xs) → (length (filter test xs) ≡ length xs → filter test xs ≡ xs) → cond b (x ∷ filter test xs) (filter test xs) ≡ x ∷ xs
    by true e rest = ap (λ l. x ∷ l) (rest (omega (arith, e)))
    by false e rest = absurd (omega (arith, e, length_filter test xs))

as_many : (M : Catalog) (cs : List Change) (ps : List Pid) → AreOf M cs ps → length ps ≡ length cs
as_many M [] [] are = refl
as_many M [] (p ∷ ps) are = absurd are
as_many M (c ∷ cs) [] are = absurd are
as_many M (c ∷ cs) (p ∷ ps) are = omega (arith, as_many M cs ps are.3)

-- where they are as many, each object to which the owner gave a value is among theirs
pub all_among : (M : Catalog) (owner : Owner) (pids : List Pid) → AreOf M (net M owner) pids → length pids ≡ len owner.changes → HasAmong owner pids
all_among M owner pids are all pid x gave of =
    let whole : net M owner ≡ listed owner.changes =
    all_pass (λ c. not (same_state c.state (get M c.serial))) (listed owner.changes) (omega (arith, as_many M (net M owner) pids are, all, length-map (entries owner.changes) change_of, len-entries owner.changes)) in
    among_left M (net M owner) pids are pid x (ap (λ cs. last_state cs pid.serial) whole ∙ last_listed owner.changes pid.serial ∙ gave) of

-- an entry on an owner's own body is for an object to which the owner gave a value
pub own_among : (k : Kept) (a : Parts) (n : OwnerNo) (owner : Owner) (pids : List Pid) → get k.owners n.0 ≡ Some owner → HasAmong owner pids → AreCopies a.copies → Attends k a
    → (x : Slot) (e : Entry) (m : OwnerNo) → get a.copies.entries x ≡ Some e → e.view ≡ Some (Own m) → m.0 ≡ n.0 → list_any (λ p. same_pid p e.pid) pids ≡ true
own_among k a n owner pids there_is all are at x e m was on same =
    let b = some_body (get a.copies.bodies (body e.pid (Own m))) (are.bodies x (body e.pid (Own m)) (ap (option_and_then body_of) was ∙ ap (option_map (body e.pid)) on)) in
    let sees = at.seats.valued.own e.pid m b.0 b.1 in
    let owner_is : sees.owner ≡ owner = same_some (sym sees.there ∙ ap (get k.owners) same ∙ there_is) in
    let o = values_there (view k.catalog sees.owner) e.pid b.0 sees.seen in
    let there : get (view k.catalog owner) e.pid.serial ≡ Some o.0 = subst (λ (w : Owner). get (view k.catalog w) e.pid.serial ≡ Some o.0) owner_is (object_there (view k.catalog sees.owner) e.pid o.0 o.1) in
    let changed_it = (on_own k.owners k.sessions a.copies are at.seats.seated e.pid m b.0 b.1).changed in
    let has : has_changed owner e.pid.serial ≡ true = sym (ap (λ q. given q false (λ owner. has_changed owner e.pid.serial)) (ap (get k.owners) same ∙ there_is)) ∙ changed_it in
    all e.pid o.0
    (state_of (get owner.changes e.pid.serial) o.0 has (sym (found_over k.catalog (listed owner.changes) e.pid.serial ∙ ap (λ z. unwrap_or z (get k.catalog e.pid.serial)) (last_listed owner.changes e.pid.serial)) ∙ there))
    (home_of_it (view k.catalog sees.owner) e.pid o.0 o.1)
  where
    some_body : (o : Option (List PlainValue)) → IsSome o → (values : List PlainValue) × (o ≡ Some values)
    some_body None h = absurd cc
    some_body (Some values) h = (values, refl)

    state_of : (s : Option (Option Object)) (z : Object) → is_some s ≡ true → unwrap_or s (get k.catalog e.pid.serial) ≡ Some z → s ≡ Some (Some z)
    state_of None z h e' = absurd cc
    state_of (Some state) z h e' = ap Some e'
