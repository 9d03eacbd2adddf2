-- What owners changed may be stored: few changes, by rising serials, of homes that stay.
use Rattle.std.proofs.Common.{◌≡◌, ℕ, ◌<◌, ◌≤◌, ◌+◌, Bool, true, false, cond, not, ◌==◌, ◌&&◌, List, [], ◌∷◌, length, map, Option, Some, None, refl, sym, ap, subst, ◌∙◌, inl, inr, arith}
use Rattle.std.proofs.lemmas.Bool.{eqb-true, eq-eqb}
use Rattle.std.proofs.lemmas.Bool.Decides.{nat_tests}
use Rattle.std.specs.Prelude.{◌⊎◌, T, filter, nat_lt, nat_le, IsSome, Ok, unwrap_or}
use Rattle.std.specs.List.{flat_map}
use Rattle.std.specs.Ordering.{nat_cmp, eq_by_cmp, is_lt}
use Rattle.std.specs.Cmp.{nat_cmp_total}
use Rattle.std.proofs.lemmas.List.{length-map}
use Rattle.std.specs.FinMap as finite
use Rattle.std.specs.FinMap.{get, insert, remove, get-empty, entries, get-entries, entries_sorted, is_sorted, contains_key, len, len-entries, len-insert, len-empty}
use Rattle.std.specs.FinMap.Entries.{below_all}
use Rattle.type_layout.specs.declared.schema.Schema.{Schema}
use Rattle.pss_catalog.specs.Catalog.{Object, Catalog, references, object_spelling, IsGiven, IsUnique}
use Rattle.pss_catalog.specs.Changes.{Change, over, last_state}
use Rattle.pss_catalog.proofs.Uniqueness.{found_over}
use Rattle.pss_machine.specs.declared.limits.Limits.{Limits}
use Rattle.pss_machine.specs.declared.level.Level.{Level}
use Rattle.pss_machine.specs.declared.level.Level.TheVariants.{Basic}
use Rattle.pss_machine.specs.Operations.{PlainOp, Create, Set, Destroy, Ask, PlainAnswer, Done, Found}
use Rattle.pss_machine.specs.Alone.{Outcome, pid_at, object_of, first_gone, first_taken, stored, with_member, alone}
use Rattle.pss_machine.specs.Changes.{Changes, with_changes, change_of, listed}
use Rattle.pss_machine.specs.Same.{same_state}
use Rattle.pss_machine.specs.Needs.{object_need}
use Rattle.pss_machine.specs.declared.lock.Mode.TheVariants.{X as Write}
use Rattle.pss_machine.specs.Owners.{Owner, Owners, new_owner, view, net, has_changed, Step, stepped}
use Rattle.pss_machine.specs.Kept.{Kept, copies_of}
use Rattle.pss_machine.specs.Copies.{Copies}
use Rattle.pss_machine.specs.Asking.{Asked}
use Rattle.pss_machine.specs.Effects.{Effect, Stays, OpensBasic, OpensTransactional, ClosesBasic, ClosesTransactional, Begins, Associates, Ends, Holds as Seats, Steps, Commits, Flushes, RollsBack}
use Rattle.pss_machine.specs.Stepping.{changes_further, within}
use Rattle.pss_machine.specs.Deciding.{decision}
use Rattle.pss_machine.specs.Moving.{emptied, without_transaction_of, moved}
use Rattle.pss_machine.specs.Run.{Said, Silent, Says, Wrong, Machine, first, turn, run}
use Rattle.pss_machine.specs.Allowed.{TakesNext, May, IsStepOf}
use Rattle.pss_machine.proofs.Cases.{of_given, of_if}
use Rattle.pss_machine.proofs.Allowing.{decision_right, step_is}
use Rattle.pss_machine.proofs.Maps.{tie}
use Rattle.pss_machine.proofs.Parting.{clash_back}
use Rattle.pss_laws.specs.Within.{is_changed}
use Rattle.pss_laws.specs.Sound.{NoneFrom, IsSoundOwner, IsSound}
use Rattle.pss_laws.specs.Storable.{RiseFrom, EachChange, MayBecome, AreStorable, NothingOrStorable, OwnersAreStorable}
use Rattle.pss_laws.proofs.Logic.{unlike}
use Rattle.pss_laws.proofs.Footprint.{get_one, object_there}
use Rattle.pss_laws.proofs.Overs.{unchanged_there}
use Rattle.pss_laws.proofs.Nets.{last_listed, view_stepped, view_new, over_net}
use Rattle.pss_laws.proofs.Standing.{Apart, locked_alike}
use Rattle.pss_laws.proofs.Turns.{put_back, left_back, put_again, with_there, settled_there, command_sound, first_sound, run_sound, good_given}
use Rattle.pss_laws.proofs.Fine.{AllFine, all_fine}

-- ---- homes stay

abbrev pub KeepsHomes : Catalog → Catalog → Type 0
KeepsHomes M N = (s : ℕ) (x y : Object) → get M s ≡ Some x → get N s ≡ Some y → x.home ≡ y.home

itself_keeps : (M : Catalog) → KeepsHomes M M
itself_keeps M s x y at there = (let e : Some x ≡ Some y = sym at ∙ there in let same : x ≡ y = cc in ap (λ (o : Object). o.home) same)

module _ (S : Schema) (M N : Catalog) (keeps : KeepsHomes M N) where
  abbrev Keeps : Outcome → Type 0
  Keeps outcome = KeepsHomes M (over N outcome.changes)

  one_keeps : (s : ℕ) (o : Option Object) → ((x y : Object) → get M s ≡ Some x → o ≡ Some y → x.home ≡ y.home) → KeepsHomes M (over N (record { serial = s; state = o } ∷ []))
  one_keeps s o new t x y at there = by_place (s == t) refl (sym (get_one S N s o t) ∙ there)
    where
      by_place : (b : Bool) → (s == t) ≡ b → cond b o (get N t) ≡ Some y → x.home ≡ y.home
      by_place false p here = keeps t x y at here
      by_place true p here = new x y (ap (get M) (eqb-true s t p) ∙ at) here

  stored_keeps : (s : ℕ) (object : Object) (a : PlainAnswer) → ((x : Object) → get M s ≡ Some x → x.home ≡ object.home) → Keeps (stored S N s object a)
  stored_keeps s object a new =
      of_given Keeps (first_taken S N s object) _ _ (of_if Keeps (nat_lt 8000 (length (object_spelling S object))) _ _ keeps (one_keeps s (Some object) (λ x y at is. (let same : object ≡ y = cc in new x at ∙ ap (λ (o : Object). o.home) same)))) (λ k e. keeps)

  op_keeps : (next : ℕ) → NoneFrom next M → (op : PlainOp) → TakesNext next op → Keeps (alone S N op)
  op_keeps next none (Create serial object) takes =
      of_given Keeps (first_gone N (flat_map references object.values)) _ _ (stored_keeps serial object (Found (pid_at serial object)) (λ x at. absurd (no x (sym (none serial (omega (arith, takes))) ∙ at)))) (λ q e. keeps)
    where
      no : (x : Object) → None ≡ Some x → ⊥
      no x e = cc
  op_keeps next none (Set p member value) takes =
      of_given Keeps (object_of N p) _ _ keeps
      (λ object there. of_given Keeps (first_gone N (references value)) _ _ (stored_keeps p.serial (with_member object member value) Done (λ x at. keeps p.serial x object at (object_there N p object there))) (λ q e. keeps))
  op_keeps next none (Destroy p) takes = of_given Keeps (object_of N p) _ _ keeps (λ object there. one_keeps p.serial None (λ x y at is. absurd cc))
  op_keeps next none (Ask question) takes = keeps

-- ---- changes are few

-- the object of a serial is changed already, or one more may be
abbrev Room : Changes → ℕ → ℕ → Type 0
Room changes most s = (contains_key changes s ≡ true) ⊎ (len changes < most)

module _ (S : Schema) (N : Catalog) (changes : Changes) (most : ℕ) (few : len changes ≤ most) where
  abbrev Few : Outcome → Type 0
  Few outcome = len (with_changes changes outcome.changes) ≤ most

  one_more : (s : ℕ) (o : Option Object) → Room changes most s → len (insert changes s o) ≤ most
  one_more s o room = subst (λ (n : ℕ). n ≤ most) (sym (len-insert nat_cmp_total changes s o)) (by_room room)
    where
      by_key : (b : Bool) → b ≡ true → cond b (len changes) (len changes + 1) ≤ most
      by_key true e = few
      by_key false e = unlike e

      by_any : (b : Bool) → len changes < most → cond b (len changes) (len changes + 1) ≤ most
      by_any true lt = few
      by_any false lt = omega arith

      by_room : Room changes most s → cond (contains_key changes s) (len changes) (len changes + 1) ≤ most
      by_room (inl e) = by_key (contains_key changes s) e
      by_room (inr lt) = by_any (contains_key changes s) lt

  stored_few : (s : ℕ) (object : Object) (a : PlainAnswer) → Room changes most s → Few (stored S N s object a)
  stored_few s object a room = of_given Few (first_taken S N s object) _ _ (of_if Few (nat_lt 8000 (length (object_spelling S object))) _ _ few (one_more s (Some object) room)) (λ k e. few)

  abbrev RoomFor : PlainOp → Type 0
  RoomFor (Create serial object) = Room changes most serial
  RoomFor (Set p member value) = Room changes most p.serial
  RoomFor (Destroy p) = Room changes most p.serial
  RoomFor (Ask question) = Unit {0}

  op_few : (op : PlainOp) → RoomFor op → Few (alone S N op)
  op_few (Create serial object) room = of_given Few (first_gone N (flat_map references object.values)) _ _ (stored_few serial object (Found (pid_at serial object)) room) (λ q e. few)
  op_few (Set p member value) room =
      of_given Few (object_of N p) _ _ few (λ object there. of_given Few (first_gone N (references value)) _ _ (stored_few p.serial (with_member object member value) Done room) (λ q e. few))
  op_few (Destroy p) room = of_given Few (object_of N p) _ _ few (λ object there. one_more p.serial None room)
  op_few (Ask question) room = few

-- within the limits there is room
room_by : (owner : Owner) (most s : ℕ) → (not (has_changed owner s) && nat_le most (len owner.changes)) ≡ false → Room owner.changes most s
room_by owner most s e = by_both (has_changed owner s) refl e
  where
    less : (most n : ℕ) → nat_le most n ≡ false → n < most
    less most n e = grind (arith, nat_tests)

    by_both : (b : Bool) → has_changed owner s ≡ b → (not b && nat_le most (len owner.changes)) ≡ false → Room owner.changes most s
    by_both true is e = inl is
    by_both false is e = inr (less most (len owner.changes) e)

room_for : (limits : Limits) (owner : Owner) (few : len owner.changes ≤ limits.changes) (S : Schema) (N : Catalog) (op : PlainOp) → (changes_further owner op && nat_le limits.changes (len owner.changes)) ≡ false → RoomFor S N owner.changes limits.changes few op
room_for limits owner few S N (Create serial object) e = room_by owner limits.changes serial e
room_for limits owner few S N (Set p member value) e = room_by owner limits.changes p.serial e
room_for limits owner few S N (Destroy p) e = room_by owner limits.changes p.serial e
room_for limits owner few S N (Ask question) e = tt

within_room : (limits : Limits) (next : ℕ) (owner : Owner) (copies : Copies) (asked : Asked) → within limits next owner copies asked ≡ Ok asked → (changes_further owner asked.op && nat_le limits.changes (len owner.changes)) ≡ false
within_room limits next owner copies asked e = grind arith

-- ---- the machine

pub record Keeping (limits : Limits) (M : Catalog) (owners : Owners) : Type 0 where
  pub homes : (n : ℕ) (owner : Owner) → get owners n ≡ Some owner → KeepsHomes M (view M owner)
  pub few : (n : ℕ) (owner : Owner) → get owners n ≡ Some owner → len owner.changes ≤ limits.changes

module _ (S : Schema) (limits : Limits) (M : Catalog) (owners : Owners) (inv : Keeping limits M owners) where
  comes_keeping : (n : ℕ) (level : Level) → Keeping limits M (insert owners n (new_owner level))
  comes_keeping n level = record { homes = homes; few = few }
    where
      homes : (i : ℕ) (owner : Owner) → get (insert owners n (new_owner level)) i ≡ Some owner → KeepsHomes M (view M owner)
      homes i owner e =
          elim (put_back owners n (new_owner level) i owner e) [
            | inl p ↦ subst (λ (x : Owner). KeepsHomes M (view M x)) p.1 (subst (KeepsHomes M) (sym (view_new M level)) (itself_keeps M))
            | inr p ↦ inv.homes i owner p.1
          ]

      new_few : len (new_owner level).changes ≤ limits.changes
      new_few = subst (λ (n : ℕ). n ≤ limits.changes) (sym (len-empty nat_cmp (Option Object))) (omega arith)

      few : (i : ℕ) (owner : Owner) → get (insert owners n (new_owner level)) i ≡ Some owner → len owner.changes ≤ limits.changes
      few i owner e = elim (put_back owners n (new_owner level) i owner e) [ inl p ↦ subst (λ (x : Owner). len x.changes ≤ limits.changes) p.1 new_few | inr p ↦ inv.few i owner p.1 ]

  leaves_keeping : (n : ℕ) → Keeping limits M (remove owners n)
  leaves_keeping n = record { homes = λ i owner e. inv.homes i owner (left_back owners n i owner e).1; few = λ i owner e. inv.few i owner (left_back owners n i owner e).1 }

  steps_keeping : (n : ℕ) (owner : Owner) (step : Step) → KeepsHomes M (over (view M owner) step.own) → len (with_changes owner.changes step.own) ≤ limits.changes → Keeping limits M (insert owners n (stepped step owner))
  steps_keeping n owner step keeps less = record { homes = homes; few = few }
    where
      homes : (i : ℕ) (x : Owner) → get (insert owners n (stepped step owner)) i ≡ Some x → KeepsHomes M (view M x)
      homes i x e =
          elim (put_back owners n (stepped step owner) i x e) [
            | inl p ↦ subst (λ (y : Owner). KeepsHomes M (view M y)) p.1 (subst (KeepsHomes M) (sym (view_stepped M owner step)) keeps)
            | inr p ↦ inv.homes i x p.1
          ]

      few : (i : ℕ) (x : Owner) → get (insert owners n (stepped step owner)) i ≡ Some x → len x.changes ≤ limits.changes
      few i x e = elim (put_back owners n (stepped step owner) i x e) [ inl p ↦ subst (λ (y : Owner). len y.changes ≤ limits.changes) p.1 less | inr p ↦ inv.few i x p.1 ]

  -- an owner beside one that commits
  beside : (next : ℕ) (a p : Owner) → IsSoundOwner S M next a → IsSoundOwner S M next p → Apart p a → KeepsHomes M (view M p) → KeepsHomes (view M a) (over (view M a) (listed p.changes))
  beside next a p by_a by_p apart keeps s x y at there = by_change (is_changed (listed p.changes) s) refl
    where
      by_change : (b : Bool) → is_changed (listed p.changes) s ≡ b → x.home ≡ y.home
      by_change false is = (let e : Some x ≡ Some y = sym at ∙ sym (unchanged_there (view M a) (listed p.changes) s is) ∙ there in let same : x ≡ y = cc in ap (λ (o : Object). o.home) same)
      by_change true is =
          let locked = by_p.within.objects s is in
          let alike : get M s ≡ get (view M a) s = locked_alike S M next a by_a (object_need Write s) (λ z has. clash_back z (object_need Write s) ∙ apart (object_need Write s) z locked has) in
          keeps s x y (alike ∙ at) (found_over M (listed p.changes) s ∙ ap (unwrap_or (last_state (listed p.changes) s)) alike ∙ sym (found_over (view M a) (listed p.changes) s) ∙ there)

  settles_keeping : (next n : ℕ) (owner : Owner) → get owners n ≡ Some owner → IsSoundOwner S M next owner → ((i : ℕ) (x : Owner) → get owners i ≡ Some x → (i ≡ n → ⊥) → IsSoundOwner S M next x × Apart x owner) → Keeping limits (over M (net M owner)) (remove owners n)
  settles_keeping next n owner there by others =
      subst (λ (N : Catalog). Keeping limits N (remove owners n)) (sym (over_net M owner))
      (record {
        homes = λ i x e. (let back = left_back owners n i x e in let other = others i x back.1 back.0 in beside next owner x by other.0 other.1 (inv.homes i x back.1));
        few = λ i x e. inv.few i x (left_back owners n i x e).1;
      })

module _ (S : Schema) (limits : Limits) where
  -- of the view, or from a copy
  step_keeps : (M : Catalog) (next : ℕ) (owner : Owner) (step : Step) → NoneFrom next M → KeepsHomes M (view M owner) → IsStepOf S M owner step → TakesNext next step.op → KeepsHomes M (over (view M owner) step.own)
  step_keeps M next owner step none keeps (inl e) takes = subst (λ cs. KeepsHomes M (over (view M owner) cs)) (sym (ap (λ (t : Step). t.own) e)) (op_keeps S M (view M owner) keeps next none step.op takes)
  step_keeps M next owner step none keeps (inr from) takes = subst (λ cs. KeepsHomes M (over (view M owner) cs)) (sym (ap (λ (t : Step). t.own) from.1.1)) keeps

  step_few : (M : Catalog) (owner : Owner) (step : Step) → len owner.changes ≤ limits.changes → IsStepOf S M owner step → (changes_further owner step.op && nat_le limits.changes (len owner.changes)) ≡ false → len (with_changes owner.changes step.own) ≤ limits.changes
  step_few M owner step few (inl e) room =
      subst (λ cs. len (with_changes owner.changes cs) ≤ limits.changes) (sym (ap (λ (t : Step). t.own) e)) (op_few S (view M owner) owner.changes limits.changes few step.op (room_for limits owner few S (view M owner) step.op room))
  step_few M owner step few (inr from) room = subst (λ cs. len (with_changes owner.changes cs) ≤ limits.changes) (sym (ap (λ (t : Step). t.own) from.1.1)) few

  settle_others : (k : Kept) → IsSound S k → (n : ℕ) (owner : Owner) → get k.owners n ≡ Some owner → (i : ℕ) (x : Owner) → get k.owners i ≡ Some x → (i ≡ n → ⊥) → IsSoundOwner S k.catalog k.next x × Apart x owner
  settle_others k sound n owner there i x at other = (sound.each i x at, λ u v has_u has_v. sound.apart i n x owner u v at there other has_u has_v)

  effect_keeping : (k : Kept) → IsSound S k → Keeping limits k.catalog k.owners → (effect : Effect) → May S limits k effect → Keeping limits (moved k effect).catalog (moved k effect).owners
  effect_keeping k sound inv Stays may = inv
  effect_keeping k sound inv (OpensBasic name access) may = comes_keeping S limits k.catalog k.owners inv k.next_owner Basic
  effect_keeping k sound inv (OpensTransactional name access) may = inv
  effect_keeping k sound inv (ClosesBasic s n) may = leaves_keeping S limits k.catalog k.owners inv n.0
  effect_keeping k sound inv (ClosesTransactional s) may = inv
  effect_keeping k sound inv (Begins name level) may = comes_keeping S limits k.catalog k.owners inv k.next_owner level
  effect_keeping k sound inv (Associates s association) may = inv
  effect_keeping k sound inv (Ends s n failed) may = inv
  effect_keeping k sound inv (Seats s copies) may = inv
  effect_keeping k sound inv (Steps n s step asked) may =
      let is = step_is S k.catalog may.owner (copies_of k s) asked in
      let is_step : IsStepOf S k.catalog may.owner step = subst (IsStepOf S k.catalog may.owner) (sym may.taken) is.0 in
      let op : step.op ≡ asked.op = ap (λ (t : Step). t.op) may.taken ∙ is.1 in
      let room = subst (λ (o : PlainOp). (changes_further may.owner o && nat_le limits.changes (len may.owner.changes)) ≡ false) (sym op) (within_room limits k.next may.owner (copies_of k s) asked may.limited) in
      subst (Keeping limits k.catalog) (sym (with_there k.owners n.0 (stepped step) may.owner may.there))
      (steps_keeping S limits k.catalog k.owners inv n.0 may.owner step (step_keeps k.catalog k.next may.owner step sound.given (inv.homes n.0 may.owner may.there) is_step (subst (TakesNext k.next) (sym op) may.serial))
      (step_few k.catalog may.owner step (inv.few n.0 may.owner may.there) is_step room))
  effect_keeping k sound inv (Commits n) may =
      subst (λ (j : Kept). Keeping limits (without_transaction_of j n).catalog (without_transaction_of j n).owners) (sym (settled_there k n may.owner may.there))
      (settles_keeping S limits k.catalog k.owners inv k.next n.0 may.owner may.there (sound.each n.0 may.owner may.there) (settle_others k sound n.0 may.owner may.there))
  effect_keeping k sound inv (Flushes n) may =
      subst (λ (j : Kept). Keeping limits (emptied j n).catalog (emptied j n).owners) (sym (settled_there k n may.owner may.there))
      (subst (Keeping limits (over k.catalog (net k.catalog may.owner))) (put_again k.owners n.0 (new_owner may.owner.level) ∙ sym (with_there k.owners n.0 (λ owner. new_owner owner.level) may.owner may.there))
      (comes_keeping S limits (over k.catalog (net k.catalog may.owner)) (remove k.owners n.0) (settles_keeping S limits k.catalog k.owners inv k.next n.0 may.owner may.there (sound.each n.0 may.owner may.there) (settle_others k sound n.0 may.owner may.there)) n.0 may.owner.level))
  effect_keeping k sound inv (RollsBack n) may = leaves_keeping S limits k.catalog k.owners inv n.0

  turn_keeping : (q : Machine) (x : Said) → IsSound S q.kept → Keeping limits q.kept.catalog q.kept.owners → Keeping limits (turn S limits q x).kept.catalog (turn S limits q x).kept.owners
  turn_keeping q Silent sound h = h
  turn_keeping q (Wrong column) sound h = h
  turn_keeping q (Says command) sound h = effect_keeping q.kept sound h (decision S limits q.kept command).effect (decision_right S limits q.kept command)

  turn_sound : (q : Machine) (x : Said) → IsSound S q.kept → IsSound S (turn S limits q x).kept
  turn_sound q Silent sound = sound
  turn_sound q (Wrong column) sound = sound
  turn_sound q (Says command) sound = command_sound S limits q.kept command sound

  pub run_keeping : (lines : List Said) (q : Machine) → IsSound S q.kept → Keeping limits q.kept.catalog q.kept.owners → Keeping limits (run S limits q lines).kept.catalog (run S limits q lines).kept.owners
  run_keeping [] q sound h = h
  run_keeping (x ∷ lines) q sound h = run_keeping lines (turn S limits q x) (turn_sound q x sound) (turn_keeping q x sound h)

-- ---- net changes

abbrev Entries : Type 0
Entries = List (ℕ × Option Object)

first_true : (a b : Bool) → T (a && b) → T a
first_true true b p = tt
first_true false b p = p

second_true : (a b : Bool) → T (a && b) → T b
second_true true b p = p
second_true false b p = absurd p

abbrev AllFrom : ℕ → Entries → Type 0
AllFrom low [] = Unit {0}
AllFrom low (e ∷ es) = (low ≤ e.0) × AllFrom low es

all_behind : (x : ℕ) (es : Entries) → T (below_all nat_cmp x es) → AllFrom (x + 1) es
all_behind x [] h = tt
all_behind x (e ∷ es) h = (less x e.0 (first_true _ _ h), all_behind x es (second_true _ _ h))
  where
    less : (a b : ℕ) → T (is_lt (nat_cmp a b)) → a + 1 ≤ b
    less a b e = grind (arith, nat_tests)

module _ (test : Change → Bool) where
  all_rise : (low : ℕ) (es : Entries) → T (is_sorted nat_cmp es) → AllFrom low es → RiseFrom low (filter test (map change_of es))
  all_rise low [] sorted from = tt
  all_rise low (e ∷ es) sorted from =
      by_test (test (change_of e)) (all_rise low es (second_true (below_all nat_cmp e.0 es) (is_sorted nat_cmp es) sorted) from.1)
      (all_rise (e.0 + 1) es (second_true (below_all nat_cmp e.0 es) (is_sorted nat_cmp es) sorted) (all_behind e.0 es (first_true (below_all nat_cmp e.0 es) (is_sorted nat_cmp es) sorted)))
    where
      by_test : (b : Bool) → RiseFrom low (filter test (map change_of es)) → RiseFrom (e.0 + 1) (filter test (map change_of es)) → RiseFrom low (cond b (change_of e ∷ filter test (map change_of es)) (filter test (map change_of es)))
      by_test false skipped taken = skipped
      by_test true skipped taken = (from.0, taken)

  found_behind : (s : ℕ) (state : Option Object) (e : ℕ × Option Object) (es : Entries) → T (is_sorted nat_cmp (e ∷ es)) → finite.find nat_cmp s es ≡ Some state → finite.find nat_cmp s (e ∷ es) ≡ Some state
  found_behind s state e es sorted found = by_place (s == e.0) refl
    where
      missed : (x t : ℕ) (es : Entries) → (t == x) ≡ true → T (below_all nat_cmp x es) → finite.find nat_cmp t es ≡ None
      missed x t [] same h = refl
      missed x t (y ∷ es) same h =
          let lower : T (is_lt (nat_cmp x y.0)) = first_true _ _ h in
          let apart : eq_by_cmp nat_cmp t y.0 ≡ false = grind (arith, nat_tests) in
          rw apart (missed x t es same (second_true _ _ h))

      by_place : (b : Bool) → (s == e.0) ≡ b → finite.find nat_cmp s (e ∷ es) ≡ Some state
      by_place true p = absurd (no (sym (missed e.0 s es p (first_true (below_all nat_cmp e.0 es) (is_sorted nat_cmp es) sorted)) ∙ found))
        where
          no : None ≡ Some state → ⊥
          no e = cc
      by_place false p = ap (λ (b : Bool). cond b (Some e.1) (finite.find nat_cmp s es)) (tie s e.0 ∙ p) ∙ found

  each_of : (P : Change → Type 0) (es : Entries) → T (is_sorted nat_cmp es) → ((s : ℕ) (state : Option Object) → finite.find nat_cmp s es ≡ Some state → test (record { serial = s; state = state }) ≡ true → P (record { serial = s; state = state })) → EachChange P (filter test (map change_of es))
  each_of P [] sorted h = tt
  each_of P (e ∷ es) sorted h =
      by_test (test (change_of e)) refl (each_of P es (second_true (below_all nat_cmp e.0 es) (is_sorted nat_cmp es) sorted) (λ s state found passes. h s state (found_behind s state e es sorted found) passes))
    where
      here : finite.find nat_cmp e.0 (e ∷ es) ≡ Some e.1
      here = ap (λ (b : Bool). cond b (Some e.1) (finite.find nat_cmp e.0 es)) (tie e.0 e.0 ∙ eq-eqb e.0 e.0 refl)

      by_test : (b : Bool) → test (change_of e) ≡ b → EachChange P (filter test (map change_of es)) → EachChange P (cond b (change_of e ∷ filter test (map change_of es)) (filter test (map change_of es)))
      by_test false is rest = rest
      by_test true is rest = (h e.0 e.1 here is, rest)

  fewer : (cs : List Change) → length (filter test cs) ≤ length cs
  fewer [] = omega arith
  fewer (c ∷ cs) = by_test (test c) (fewer cs)
    where
      by_test : (b : Bool) → length (filter test cs) ≤ length cs → length (cond b (c ∷ filter test cs) (filter test cs)) ≤ length (c ∷ cs)
      by_test true rest = omega arith
      by_test false rest = omega arith

module _ (S : Schema) (next : ℕ) (M : Catalog) (owner : Owner) where
  pub net_few : (most : ℕ) → len owner.changes ≤ most → length (net M owner) ≤ most
  net_few most few = (let less = fewer (λ c. not (same_state c.state (get M c.serial))) (listed owner.changes) in let all : length (listed owner.changes) ≡ len owner.changes = length-map (entries owner.changes) change_of ∙ sym (len-entries owner.changes) in omega arith)

  pub net_rise : RiseFrom 0 (net M owner)
  net_rise = all_rise (λ c. not (same_state c.state (get M c.serial))) 0 (entries owner.changes) (entries_sorted owner.changes) (from_none (entries owner.changes))
    where
      from_none : (es : Entries) → AllFrom 0 es
      from_none [] = tt
      from_none (e ∷ es) = (omega arith, from_none es)

  pub net_each : AllFine S next M → AllFine S next (view M owner) → KeepsHomes M (view M owner) → EachChange (λ c. IsGiven next c.serial × MayBecome S next M c.serial c.state) (net M owner)
  net_each fine view_fine keeps = each_of (λ c. not (same_state c.state (get M c.serial))) (λ c. IsGiven next c.serial × MayBecome S next M c.serial c.state) (entries owner.changes) (entries_sorted owner.changes) each
    where
      seen : (s : ℕ) (state : Option Object) → finite.find nat_cmp s (entries owner.changes) ≡ Some state → get (view M owner) s ≡ state
      seen s state found = found_over M (listed owner.changes) s ∙ ap (λ o. unwrap_or o (get M s)) (last_listed owner.changes s ∙ get-entries owner.changes s ∙ found)

      removed : (s : ℕ) (o : Option Object) → get M s ≡ o → not (same_state None o) ≡ true → IsGiven next s × IsSome (get M s)
      removed s None at differ = unlike differ
      removed s (Some x) at differ = ((fine s x at).serial_given, rw at refl)

      each : (s : ℕ) (state : Option Object) → finite.find nat_cmp s (entries owner.changes) ≡ Some state → not (same_state state (get M s)) ≡ true → IsGiven next s × MayBecome S next M s state
      each s None found differ = removed s (get M s) refl differ
      each s (Some object) found differ =
          let there : get (view M owner) s ≡ Some object = seen s (Some object) found in
          let by = view_fine s object there in
          (by.serial_given, (by, λ old at. keeps s old object at there))

-- ---- every run

-- changes are none, or one at least
none_or_some : (S : Schema) (most next : ℕ) (M : Catalog) (cs : List Change) → (0 < length cs → AreStorable S most next M cs) → NothingOrStorable S most next M cs
none_or_some S most next M [] may = inl refl
none_or_some S most next M (c ∷ cs) may = inr (may (omega arith))

pub owners_storable : OwnersAreStorable
owners_storable S limits M next lines sound within good n owner there =
    let first_is : IsSound S (first M next).kept = first_sound S M next good.unique (good_given S M next good) in
    let after : IsSound S (run S limits (first M next) lines).kept = run_sound S limits lines (first M next) first_is in
    let keeping : Keeping limits (run S limits (first M next) lines).kept.catalog (run S limits (first M next) lines).kept.owners = run_keeping S limits lines (first M next) first_is (record {
      homes = λ i x e. absurd (no x (sym (get-empty nat_cmp i) ∙ e));
      few = λ i x e. absurd (no x (sym (get-empty nat_cmp i) ∙ e));
    }) in
    let fine = all_fine S limits M next lines sound within good in
    none_or_some S limits.changes (run S limits (first M next) lines).kept.next (run S limits (first M next) lines).kept.catalog (net (run S limits (first M next) lines).kept.catalog owner)
    (λ some. record {
      some = some;
      few = net_few S (run S limits (first M next) lines).kept.next (run S limits (first M next) lines).kept.catalog owner limits.changes (keeping.few n owner there);
      rise = net_rise S (run S limits (first M next) lines).kept.next (run S limits (first M next) lines).kept.catalog owner;
      each = net_each S (run S limits (first M next) lines).kept.next (run S limits (first M next) lines).kept.catalog owner fine.catalog (fine.views n owner there) (keeping.homes n owner there);
      unique = subst (IsUnique S) (sym (over_net (run S limits (first M next) lines).kept.catalog owner)) (after.each n owner there).unique;
    })
  where
    no : (x : Owner) → None ≡ Some x → ⊥
    no x e = cc
