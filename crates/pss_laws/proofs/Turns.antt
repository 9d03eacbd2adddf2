-- Each command keeps the catalog and all owners sound.
use Rattle.std.proofs.Common.{◌≡◌, ℕ, ◌≤◌, ◌<◌, Bool, true, false, cond, ◌==◌, List, [], ◌∷◌, Option, Some, None, refl, sym, ap, subst, ◌∙◌, inl, inr, arith}
use Rattle.std.specs.Prelude.{◌⊎◌}
use Rattle.std.specs.Ordering.{nat_cmp, eq_by_cmp}
use Rattle.std.specs.Cmp.{nat_cmp_total}
use Rattle.std.specs.FinMap.{get, insert, remove, get-empty, get-insert, get-remove, same_map, nat_cmp-IsAntisymmetric}
use Rattle.std.proofs.lemmas.Bool.Decides.{nat_tests}
use Rattle.pss_base.specs.declared.owner.OwnerNo.{OwnerNo}
use Rattle.type_layout.specs.declared.schema.Schema.{Schema}
use Rattle.type_layout.specs.Schemas.{given}
use Rattle.pss_catalog.specs.Catalog.{Object, Catalog, IsUnique, IsGood}
use Rattle.pss_catalog.specs.Changes.{over}
use Rattle.pss_machine.specs.declared.limits.Limits.{Limits}
use Rattle.pss_machine.specs.declared.level.Level.{Level}
use Rattle.pss_machine.specs.declared.level.Level.TheVariants.{Basic}
use Rattle.pss_machine.specs.declared.command.Command.{Command}
use Rattle.pss_machine.specs.declared.lock.Need.{Need}
use Rattle.pss_machine.specs.Operations.{Question, PlainOp, Create, Set, Destroy, Ask}
use Rattle.pss_machine.specs.Maps.{with_at}
use Rattle.pss_machine.specs.Needs.{clash}
use Rattle.pss_machine.specs.Owners.{Owner, Owners, new_owner, view, net, Step, step_on_view, stepped}
use Rattle.pss_machine.specs.Kept.{Kept, first_kept, copies_of}
use Rattle.pss_machine.specs.Effects.{Effect, Stays, OpensBasic, OpensTransactional, ClosesBasic, ClosesTransactional, Begins, Associates, Ends, Holds as Seats, Steps, Commits, Flushes, RollsBack}
use Rattle.pss_machine.specs.Stepping.{step_on_copy}
use Rattle.pss_machine.specs.Deciding.{decision}
use Rattle.pss_machine.specs.Moving.{next_after, title_of, with_commit, settled, emptied, without_transaction_of, moved}
use Rattle.pss_machine.specs.Run.{Said, Silent, Says, Wrong, Machine, turn, run}
use Rattle.pss_machine.specs.Allowed.{TakesNext, May, IsStepOf}
use Rattle.pss_machine.proofs.Allowing.{decision_right, step_is}
use Rattle.pss_machine.proofs.Maps.{same_or_apart, insert_here, insert_apart, remove_here, remove_apart}
use Rattle.pss_machine.proofs.Parting.{clash_back}
use Rattle.pss_laws.specs.Within.{Among}
use Rattle.pss_laws.specs.Operations.{IsNewIn, IsApartFrom}
use Rattle.pss_laws.specs.Sound.{Holds, NoneFrom, IsSoundOwner, NoneClash, AreSound, IsSound}
use Rattle.pss_laws.proofs.Footprint.{nothing_changes, footprint}
use Rattle.pss_laws.proofs.Unique.{stays_unique, stays_none}
use Rattle.pss_laws.proofs.Nets.{over_net}
use Rattle.pss_laws.proofs.Locks.{holds_either, holds_none, unblocked}
use Rattle.pss_laws.proofs.Standing.{Apart, new_stands, stands_beside, Suits, stands_after}

-- ---- owners by number

abbrev pub Put : Owners → ℕ → Owner → ℕ → Owner → Type 0
Put owners n owner i x = ((i ≡ n) × (owner ≡ x)) ⊎ ((i ≡ n → ⊥) × (get owners i ≡ Some x))

some_is : {A : Type 0} (a b : A) → Some a ≡ Some b → a ≡ b
some_is a b e = grind arith

pub put_back : (owners : Owners) (n : ℕ) (owner : Owner) (i : ℕ) (x : Owner) → get (insert owners n owner) i ≡ Some x → Put owners n owner i x
put_back owners n owner i x e = by_place (same_or_apart i n)
  where
    by_place : ((i ≡ n) ⊎ (i ≡ n → ⊥)) → ((i ≡ n) × (owner ≡ x)) ⊎ ((i ≡ n → ⊥) × (get owners i ≡ Some x))
    by_place (inl same) = inl (same, some_is owner x (sym (insert_here owners n owner) ∙ ap (get (insert owners n owner)) (sym same) ∙ e))
    by_place (inr apart) = inr (apart, sym (insert_apart owners n owner i apart) ∙ e)

pub left_back : (owners : Owners) (n i : ℕ) (x : Owner) → get (remove owners n) i ≡ Some x → (i ≡ n → ⊥) × (get owners i ≡ Some x)
left_back owners n i x e = by_place (same_or_apart i n)
  where
    by_place : ((i ≡ n) ⊎ (i ≡ n → ⊥)) → (i ≡ n → ⊥) × (get owners i ≡ Some x)
    by_place (inl same) = absurd (no (sym (remove_here owners n) ∙ ap (get (remove owners n)) (sym same) ∙ e))
      where
        no : None ≡ Some x → ⊥
        no e = cc
    by_place (inr apart) = (apart, sym (remove_apart owners n i apart) ∙ e)

pub put_again : (owners : Owners) (n : ℕ) (x : Owner) → insert (remove owners n) n x ≡ insert owners n x
put_again owners n x = same_map nat_cmp_total nat_cmp-IsAntisymmetric (insert (remove owners n) n x) (insert owners n x) (λ q.
    get-insert nat_cmp_total (remove owners n) n x q
    ∙ ap (cond (eq_by_cmp nat_cmp q n) (Some x)) (get-remove nat_cmp_total owners n q)
    ∙ by_tie q (eq_by_cmp nat_cmp q n)
    ∙ sym (get-insert nat_cmp_total owners n x q))
  where
    by_tie : (q : ℕ) (b : Bool) → cond b (Some x) (cond b None (get owners q)) ≡ cond b (Some x) (get owners q)
    by_tie q true = refl
    by_tie q false = refl

pub with_there : (owners : Owners) (n : ℕ) (f : Owner → Owner) (owner : Owner) → get owners n ≡ Some owner → with_at owners n f ≡ insert owners n (f owner)
with_there owners n f owner there = ap (λ (o : Option Owner). given o owners (λ x. insert owners n (f x))) there

-- ---- what owners that come, step, commit and go leave sound

module _ (S : Schema) (M : Catalog) where
  put_sound : (next after n : ℕ) (owners : Owners) (owner : Owner) → AreSound S M next owners → next ≤ after → IsSoundOwner S M after owner
      → ((i : ℕ) (x : Owner) → get owners i ≡ Some x → (i ≡ n → ⊥) → Apart x owner)
      → AreSound S M after (insert owners n owner)
  put_sound next after n owners owner sound later stands beside = record { unique = sound.unique; given = λ t le. sound.given t (omega arith); each = each; apart = apart }
    where
      risen : (x : Owner) → IsSoundOwner S M next x → IsSoundOwner S M after x
      risen x by = record { unique = by.unique; within = by.within; given = λ t le. by.given t (omega arith) }

      each : (i : ℕ) (x : Owner) → get (insert owners n owner) i ≡ Some x → IsSoundOwner S M after x
      each i x e = elim (put_back owners n owner i x e) [ inl p ↦ subst (IsSoundOwner S M after) p.1 stands | inr p ↦ risen x (sound.each i x p.1) ]

      by_both : (i j : ℕ) (a b : Owner) (u v : Need) → Put owners n owner i a → Put owners n owner j b → (i ≡ j → ⊥) → Holds a u → Holds b v → clash u v ≡ false
      by_both i j a b u v (inl p) (inl q) differ has_u has_v = absurd (differ (p.0 ∙ sym q.0))
      by_both i j a b u v (inl p) (inr q) differ has_u has_v = clash_back u v ∙ beside j b q.1 q.0 v u has_v (subst (λ (x : Owner). Holds x u) (sym p.1) has_u)
      by_both i j a b u v (inr p) (inl q) differ has_u has_v = beside i a p.1 p.0 u v has_u (subst (λ (x : Owner). Holds x v) (sym q.1) has_v)
      by_both i j a b u v (inr p) (inr q) differ has_u has_v = sound.apart i j a b u v p.1 q.1 differ has_u has_v

      apart : NoneClash (insert owners n owner)
      apart i j a b u v at_i at_j differ has_u has_v = by_both i j a b u v (put_back owners n owner i a at_i) (put_back owners n owner j b at_j) differ has_u has_v

  left_sound : (next n : ℕ) (owners : Owners) → AreSound S M next owners → AreSound S M next (remove owners n)
  left_sound next n owners sound = record {
    unique = sound.unique;
    given = sound.given;
    each = λ i x e. sound.each i x (left_back owners n i x e).1;
    apart = λ i j a b u v at_i at_j differ has_u has_v. sound.apart i j a b u v (left_back owners n i a at_i).1 (left_back owners n j b at_j).1 differ has_u has_v;
  }

  new_sound : (next n : ℕ) (owners : Owners) (level : Level) → AreSound S M next owners → AreSound S M next (insert owners n (new_owner level))
  new_sound next n owners level sound =
      put_sound next next n owners (new_owner level) sound (omega arith) (new_stands S M next level sound.unique sound.given) (λ i x e other u v has_u has_v. absurd (holds_none level v has_v))

  step_sound : (next after : ℕ) (n : OwnerNo) (owners : Owners) (owner : Owner) (step : Step) → AreSound S M next owners → get owners n.0 ≡ Some owner → next ≤ after → Suits S M next owner after step
      → ((i : ℕ) (x : Owner) (u v : Need) → get owners i ≡ Some x → (i ≡ n.0 → ⊥) → Holds x u → Among step.needs v → clash u v ≡ false)
      → AreSound S M after (insert owners n.0 (stepped step owner))
  step_sound next after n owners owner step sound there later suits free =
      put_sound next after n.0 owners (stepped step owner) sound later (stands_after S M next owner after step (sound.each n.0 owner there) suits)
      (λ i x e other u v has_u has_v. elim (holds_either step owner v has_v) [ inl p ↦ sound.apart i n.0 x owner u v e there other has_u p | inr p ↦ free i x u v e other has_u p ])

  settle_sound : (next n : ℕ) (owners : Owners) (owner : Owner) → AreSound S M next owners → get owners n ≡ Some owner → AreSound S (over M (net M owner)) next (remove owners n)
  settle_sound next n owners owner sound there =
      subst (λ (N : Catalog). AreSound S N next (remove owners n)) (sym (over_net M owner))
      (record {
        unique = by.unique;
        given = by.given;
        each = λ i x e. (let back = left_back owners n i x e in stands_beside S M next owner by x (λ u v has_u has_v. sound.apart i n x owner u v back.1 there back.0 has_u has_v) (sound.each i x back.1) sound.given);
        apart = λ i j a b u v at_i at_j differ has_u has_v. sound.apart i j a b u v (left_back owners n i a at_i).1 (left_back owners n j b at_j).1 differ has_u has_v;
      })
    where
      by : IsSoundOwner S M next owner
      by = sound.each n owner there

-- ---- what a step is

new_in : (M : Catalog) (next : ℕ) (op : PlainOp) → NoneFrom next M → TakesNext next op → IsNewIn M op
new_in M next (Create serial object) none takes = none serial (omega (arith, takes))
new_in M next (Set p member value) none takes = tt
new_in M next (Destroy p) none takes = tt
new_in M next (Ask question) none takes = tt

pub goes_up : (next : ℕ) (op : PlainOp) → next ≤ next_after next op
goes_up next (Create serial object) = omega arith
goes_up next (Set p member value) = omega arith
goes_up next (Destroy p) = omega arith
goes_up next (Ask question) = omega arith

apart_from : (next t : ℕ) (op : PlainOp) → TakesNext next op → next_after next op ≤ t → IsApartFrom t op
apart_from next t (Create serial object) takes le = by_numbers serial takes
  where
    by_numbers : (serial : ℕ) → serial ≡ next → (t == serial) ≡ false
    by_numbers serial e = grind (arith, nat_tests)
apart_from next t (Set p member value) takes le = tt
apart_from next t (Destroy p) takes le = tt
apart_from next t (Ask question) takes le = tt

module _ (S : Schema) (M : Catalog) (next : ℕ) (owner : Owner) (by : IsSoundOwner S M next owner) where
  view_suits : (op : PlainOp) → TakesNext next op → Suits S M next owner (next_after next op) (step_on_view S M owner op)
  view_suits op takes = record {
    within = footprint S (view M owner) owner.level op (new_in (view M owner) next op by.given takes);
    unique = stays_unique S (view M owner) op by.unique;
    given = λ t le. stays_none S (view M owner) t (by.given t (later t le)) op (apart_from next t op takes le);
  }
    where
      later : (t : ℕ) → next_after next op ≤ t → next ≤ t
      later t le = (let up = goes_up next op in omega arith)

  step_suits : (step : Step) → IsStepOf S M owner step → TakesNext next step.op → Suits S M next owner (next_after next step.op) step
  step_suits step (inl e) takes = subst (λ (s : Step). Suits S M next owner (next_after next step.op) s) (sym e) (view_suits step.op takes)
  step_suits step (inr from) takes =
      let question : Question = from.1.0 in
      let is : step ≡ step_on_copy (Ask question) step.answer = from.1.1 in
      subst (λ (s : Step). Suits S M next owner (next_after next s.op) s) (sym is)
      (record {
        within = nothing_changes S (view M owner) (Among []);
        unique = by.unique;
        given = by.given;
      })

-- ---- effects

pub settled_there : (k : Kept) (n : OwnerNo) (owner : Owner) → get k.owners n.0 ≡ Some owner → settled k n ≡ with_commit k n (title_of k n) owner.level (net k.catalog owner)
settled_there k n owner there = ap (λ (o : Option Owner). given o k (λ owner. with_commit k n (title_of k n) owner.level (net k.catalog owner))) there

module _ (S : Schema) (limits : Limits) (k : Kept) (sound : IsSound S k) where
  pub effect_sound : (effect : Effect) → May S limits k effect → IsSound S (moved k effect)
  effect_sound Stays may = sound
  effect_sound (OpensBasic name access) may = new_sound S k.catalog k.next k.next_owner k.owners Basic sound
  effect_sound (OpensTransactional name access) may = sound
  effect_sound (ClosesBasic s n) may = left_sound S k.catalog k.next n.0 k.owners sound
  effect_sound (ClosesTransactional s) may = sound
  effect_sound (Begins name level) may = new_sound S k.catalog k.next k.next_owner k.owners level sound
  effect_sound (Associates s association) may = sound
  effect_sound (Ends s n failed) may = sound
  effect_sound (Seats s copies) may = sound
  effect_sound (Steps n s step asked) may =
      let owner : Owner = may.owner in
      let is = step_is S k.catalog may.owner (copies_of k s) asked in
      let is_step : IsStepOf S k.catalog may.owner step = subst (IsStepOf S k.catalog may.owner) (sym may.taken) is.0 in
      let op : step.op ≡ asked.op = ap (λ (t : Step). t.op) may.taken ∙ is.1 in
      let takes : TakesNext k.next step.op = subst (TakesNext k.next) (sym op) may.serial in
      subst (AreSound S k.catalog (next_after k.next step.op)) (sym (with_there k.owners n.0 (stepped step) may.owner may.there))
      (step_sound S k.catalog k.next (next_after k.next step.op) n k.owners may.owner step sound may.there (goes_up k.next step.op) (step_suits S k.catalog k.next may.owner (sound.each n.0 may.owner may.there) step is_step takes)
      (λ i x u v at other has among. unblocked k.owners n step.needs may.free i x u v at other has among))
  effect_sound (Commits n) may =
      subst (λ (j : Kept). IsSound S (without_transaction_of j n)) (sym (settled_there k n may.owner may.there)) (settle_sound S k.catalog k.next n.0 k.owners may.owner sound may.there)
  effect_sound (Flushes n) may =
      subst (λ (j : Kept). IsSound S (emptied j n)) (sym (settled_there k n may.owner may.there))
      (subst (AreSound S (over k.catalog (net k.catalog may.owner)) k.next) (put_again k.owners n.0 (new_owner may.owner.level) ∙ sym (with_there k.owners n.0 (λ owner. new_owner owner.level) may.owner may.there))
      (new_sound S (over k.catalog (net k.catalog may.owner)) k.next n.0 (remove k.owners n.0) may.owner.level (settle_sound S k.catalog k.next n.0 k.owners may.owner sound may.there)))
  effect_sound (RollsBack n) may = left_sound S k.catalog k.next n.0 k.owners sound

pub command_sound : (S : Schema) (limits : Limits) (k : Kept) (command : Command) → IsSound S k → IsSound S (moved k (decision S limits k command).effect)
command_sound S limits k command sound = effect_sound S limits k sound (decision S limits k command).effect (decision_right S limits k command)

-- ---- runs

turn_sound : (S : Schema) (limits : Limits) (q : Machine) (x : Said) → IsSound S q.kept → IsSound S (turn S limits q x).kept
turn_sound S limits q Silent sound = sound
turn_sound S limits q (Wrong column) sound = sound
turn_sound S limits q (Says command) sound = command_sound S limits q.kept command sound

pub run_sound : (S : Schema) (limits : Limits) (lines : List Said) (q : Machine) → IsSound S q.kept → IsSound S (run S limits q lines).kept
run_sound S limits [] q sound = sound
run_sound S limits (x ∷ lines) q sound = run_sound S limits lines (turn S limits q x) (turn_sound S limits q x sound)

pub first_sound : (S : Schema) (M : Catalog) (next : ℕ) → IsUnique S M → NoneFrom next M → IsSound S (first_kept M next)
first_sound S M next unique none = record {
  unique = unique;
  given = none;
  each = λ n owner e. absurd (no owner (sym (get-empty nat_cmp n) ∙ e));
  apart = λ m n a b x y at_m at_n differ has_x has_y. absurd (no a (sym (get-empty nat_cmp m) ∙ at_m));
}
  where
    no : (owner : Owner) → None ≡ Some owner → ⊥
    no owner e = cc

pub good_given : (S : Schema) (M : Catalog) (next : ℕ) → IsGood S M next → NoneFrom next M
good_given S M next good s le = by_found (get M s) refl
  where
    by_found : (o : Option Object) → get M s ≡ o → o ≡ None
    by_found None e = refl
    by_found (Some object) e = (let below : s < next = (good.serials s object e).1 in absurd (omega arith))
