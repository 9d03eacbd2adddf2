-- Every object of the catalog and of each view is fine, turn by turn, and the catalog good.
use Rattle.std.proofs.Common.{◌≡◌, ℕ, zero, suc, ◌<◌, ◌≤◌, ◌+◌, Bool, true, false, cond, not, ◌==◌, List, [], ◌∷◌, ◌++◌, length, Option, Some, None, refl, sym, ap, subst, ◌∙◌, inl, inr, arith}
use Rattle.std.proofs.lemmas.Bool.{eqb-true}
use Rattle.std.proofs.lemmas.Bool.Decides.{nat_tests}
use Rattle.std.specs.Prelude.{slice_set, nat_lt, IsSome, unwrap_or, if◌then◌else◌, map, sum}
use Rattle.std.specs.List.{slice_get, flat_map}
use Rattle.std.specs.Ordering.{nat_cmp}
use Rattle.std.specs.FinMap.{get, insert, remove, get-empty, entries, len-entries, len-empty, empty}
use Rattle.pss_base.specs.declared.pid.Pid.{Pid}
use Rattle.type_layout.specs.declared.schema.Schema.{Schema}
use Rattle.type_layout.specs.declared.home.HomeNo.{HomeNo}
use Rattle.type_layout.specs.Types.{PlainValue}
use Rattle.type_layout.specs.Sound.{IsSoundSchema}
use Rattle.type_layout.specs.Schemas.{given, home_at, members_at}
use Rattle.pss_catalog.specs.Catalog.{Object, Catalog, has, references, object_spelling, total, IsGiven, AreGiven, IsGood, weight}
use Rattle.pss_catalog.specs.Changes.{Change, over, last_state}
use Rattle.pss_catalog.proofs.Uniqueness.{found_over}
use Rattle.pss_machine.specs.declared.limits.Limits.{Limits}
use Rattle.pss_machine.specs.declared.level.Level.{Level}
use Rattle.pss_machine.specs.declared.level.Level.TheVariants.{Basic}
use Rattle.pss_machine.specs.Operations.{PlainOp, Create, Set, Destroy, Ask, PlainAnswer, Done, Found, Gone, TooLarge}
use Rattle.pss_machine.specs.Homes.{home_of}
use Rattle.pss_machine.specs.Alone.{Outcome, answers, pid_at, object_of, first_gone, first_taken, stored, unless_gone, with_member, alone}
use Rattle.pss_machine.specs.Changes.{listed}
use Rattle.pss_machine.specs.Owners.{Owner, Owners, new_owner, view, net, Step, stepped}
use Rattle.pss_machine.specs.Kept.{Kept, copies_of}
use Rattle.pss_machine.specs.Effects.{Effect, Stays, OpensBasic, OpensTransactional, ClosesBasic, ClosesTransactional, Begins, Associates, Ends, Holds as Seats, Steps, Commits, Flushes, RollsBack}
use Rattle.pss_machine.specs.Deciding.{decision}
use Rattle.pss_machine.specs.Moving.{next_after, emptied, without_transaction_of, moved}
use Rattle.pss_machine.specs.Run.{Said, Silent, Says, Wrong, Machine, first, turn, run}
use Rattle.pss_machine.specs.Allowed.{TakesNext, May, IsStepOf}
use Rattle.pss_machine.proofs.Cases.{of_given}
use Rattle.pss_machine.proofs.Allowing.{decision_right, step_is}
use Rattle.pss_laws.specs.Good.{IsFine, FitsSchema, EmptyIsGood}
use Rattle.pss_laws.proofs.Logic.{unlike}
use Rattle.pss_laws.proofs.Footprint.{get_one, object_there}
use Rattle.pss_laws.proofs.Nets.{view_stepped, view_new, over_net}
use Rattle.pss_laws.proofs.Turns.{put_back, left_back, put_again, with_there, settled_there, goes_up, run_sound, first_sound, good_given}
use Rattle.pss_laws.proofs.Living.{home_of_it}
use Rattle.pss_laws.proofs.Records.{set_record}
use Rattle.pss_laws.proofs.Fitting.{StepFits, steps_fit}

-- ---- references

given_both : (next : ℕ) (ps qs : List Pid) → AreGiven next ps → AreGiven next qs → AreGiven next (ps ++ qs)
given_both next [] qs h g = g
given_both next (p ∷ ps) qs h g = (h.0, given_both next ps qs h.1 g)

given_first : (next : ℕ) (ps qs : List Pid) → AreGiven next (ps ++ qs) → AreGiven next ps
given_first next [] qs h = tt
given_first next (p ∷ ps) qs h = (h.0, given_first next ps qs h.1)

given_second : (next : ℕ) (ps qs : List Pid) → AreGiven next (ps ++ qs) → AreGiven next qs
given_second next [] qs h = h
given_second next (p ∷ ps) qs h = given_second next ps qs h.1

given_later : (next later : ℕ) (ps : List Pid) → next ≤ later → AreGiven next ps → AreGiven later ps
given_later next later [] le h = tt
given_later next later (p ∷ ps) le h = ((h.0.0, below p.serial h.0.1), given_later next later ps le h.1)
  where
    below : (s : ℕ) → s < next → s < later
    below s lt = omega arith

-- a member that is set refers to what the value does, the others to what they did
given_set : (next : ℕ) (values : List PlainValue) (i : ℕ) (v : PlainValue) → AreGiven next (flat_map references values) → AreGiven next (references v) → AreGiven next (flat_map references (slice_set values i v))
given_set next [] i v h g = tt
given_set next (x ∷ values) zero v h g = given_both next (references v) (flat_map references values) g (given_second next (references x) (flat_map references values) h)
given_set next (x ∷ values) (suc i) v h g =
    given_both next (references x) (flat_map references (slice_set values i v)) (given_first next (references x) (flat_map references values) h) (given_set next values i v (given_second next (references x) (flat_map references values) h) g)

-- ---- catalogs in which all objects are fine

abbrev pub AllFine : Schema → ℕ → Catalog → Type 0
AllFine S next M = (serial : ℕ) (object : Object) → get M serial ≡ Some object → IsFine S next serial object

fine_later : (S : Schema) (next later : ℕ) (M : Catalog) → next ≤ later → AllFine S next M → AllFine S later M
fine_later S next later M le h serial object there =
    let by = h serial object there in
    record { home = by.home; fits = by.fits; short = by.short; serial_given = (by.serial_given.0, below serial by.serial_given.1); targets = given_later next later (flat_map references object.values) le by.targets }
  where
    below : (s : ℕ) → s < next → s < later
    below s lt = omega arith

-- changes over what is fine, that are fine over another catalog
over_fine : (S : Schema) (next : ℕ) (N O : Catalog) (cs : List Change) → AllFine S next N → AllFine S next (over O cs) → AllFine S next (over N cs)
over_fine S next N O cs h k t x there = by_last (last_state cs t) (found_over N cs t) (found_over O cs t)
  where
    by_last : (o : Option (Option Object)) → get (over N cs) t ≡ unwrap_or o (get N t) → get (over O cs) t ≡ unwrap_or o (get O t) → IsFine S next t x
    by_last None at_n at_o = h t x (sym at_n ∙ there)
    by_last (Some state) at_n at_o = k t x (at_o ∙ sym at_n ∙ there)

module _ (S : Schema) (next : ℕ) (N : Catalog) (fine : AllFine S next N) where
  -- what is there was given
  none_gone : (qs : List Pid) → first_gone N qs ≡ None → AreGiven next qs
  none_gone [] e = tt
  none_gone (q ∷ qs) e = by_has (has N q) refl e (none_gone qs)
    where
      by_object : (o : Option Object) → get N q.serial ≡ o → given o false (λ object. object.home.0 == q.home) ≡ true → IsGiven next q.serial
      by_object None there is = unlike is
      by_object (Some object) there is = (fine q.serial object there).serial_given

      by_has : (b : Bool) → has N q ≡ b → cond (not b) (Some q) (first_gone N qs) ≡ None → (first_gone N qs ≡ None → AreGiven next qs) → AreGiven next (q ∷ qs)
      by_has true is e rest = (by_object (get N q.serial) refl is, rest e)
      by_has false is e rest = absurd cc

  module _ (after : ℕ) (later : next ≤ after) where
    abbrev LeavesFine : Outcome → Type 0
    LeavesFine outcome = AllFine S after (over N outcome.changes)

    same : AllFine S after N
    same = fine_later S next after N later fine

    one_put : (s : ℕ) (object : Object) → IsFine S after s object → AllFine S after (over N (record { serial = s; state = Some object } ∷ []))
    one_put s object new t x there = by_place (s == t) refl (sym (get_one S N s (Some object) t) ∙ there)
      where
        by_place : (b : Bool) → (s == t) ≡ b → cond b (Some object) (get N t) ≡ Some x → IsFine S after t x
        by_place false p here = same t x here
        by_place true p here = (let one : object ≡ x = cc in subst (λ (t : ℕ). IsFine S after t x) (eqb-true s t p) (subst (IsFine S after s) one new))

    one_gone : (s : ℕ) → AllFine S after (over N (record { serial = s; state = None } ∷ []))
    one_gone s t x there = by_place (s == t) (sym (get_one S N s None t) ∙ there)
      where
        by_place : (b : Bool) → cond b None (get N t) ≡ Some x → IsFine S after t x
        by_place false here = same t x here
        by_place true here = absurd cc

    stored_fine : (s : ℕ) (object : Object) (a : PlainAnswer) → (length (object_spelling S object) ≤ 8000 → IsFine S after s object) → LeavesFine (stored S N s object a)
    stored_fine s object a new = of_given LeavesFine (first_taken S N s object) _ _ (by_length (nat_lt 8000 (length (object_spelling S object))) refl) (λ k e. same)
      where
        at_most : (n : ℕ) → nat_lt 8000 n ≡ false → n ≤ 8000
        at_most n e = grind (arith, nat_tests)

        by_length : (b : Bool) → nat_lt 8000 (length (object_spelling S object)) ≡ b → LeavesFine (if b then answers TooLarge else record { changes = record { serial = s; state = Some object } ∷ []; answer = a })
        by_length true e = same
        by_length false e = one_put s object (new (at_most (length (object_spelling S object)) e))

    unless_fine : (qs : List Pid) (outcome : Outcome) → (AreGiven next qs → LeavesFine outcome) → LeavesFine (unless_gone N qs outcome)
    unless_fine qs outcome h = by_gone (first_gone N qs) refl
      where
        by_gone : (o : Option Pid) → first_gone N qs ≡ o → LeavesFine (given o outcome (λ q. answers (Gone q)))
        by_gone None e = h (none_gone qs e)
        by_gone (Some q) e = same

  -- an operation that fits the schema leaves fine objects
  pub op_fine : 0 < next → (op : PlainOp) → TakesNext next op → FitsSchema S op → AllFine S (next_after next op) (over N (alone S N op).changes)
  op_fine positive (Create serial object) takes fits =
      unless_fine (next + 1) (omega arith) (flat_map references object.values) _ (λ targets. stored_fine (next + 1) (omega arith) serial object (Found (pid_at serial object))
      (λ short. record { home = fits.0; fits = fits.1; short = short; serial_given = is_given serial takes; targets = given_later next (next + 1) (flat_map references object.values) (omega arith) targets }))
    where
      is_given : (serial : ℕ) → serial ≡ next → IsGiven (next + 1) serial
      is_given serial e = (omega (arith, e, positive), omega (arith, e))
  op_fine positive (Set p i v) takes fits =
      of_given (LeavesFine next (omega arith)) (object_of N p) _ _ (same next (omega arith))
      (λ object there. unless_fine next (omega arith) (references v) _ (λ targets. stored_fine next (omega arith) p.serial (with_member object i v) Done (λ short. new object there targets short)))
    where
      new : (object : Object) → object_of N p ≡ Some object → AreGiven next (references v) → length (object_spelling S (with_member object i v)) ≤ 8000 → IsFine S next p.serial (with_member object i v)
      new object there targets short =
          let by : IsFine S next p.serial object = fine p.serial object (object_there N p object there) in
          let number : object.home.0 ≡ p.home = home_of_it N p object there in
          let home : home_of p ≡ object.home = λ n. record { 0 = sym number n } in
          let at : slice_get (members_at S object.home) i ≡ Some fits.0 = subst (λ (h : HomeNo). slice_get (members_at S h) i ≡ Some fits.0) home fits.1 in
          record {
            home = by.home;
            fits = set_record (members_at S object.home) object.values i fits.0 v by.fits at fits.2;
            short = short;
            serial_given = by.serial_given;
            targets = given_set next object.values i v by.targets targets;
          }
  op_fine positive (Destroy p) takes fits = of_given (LeavesFine next (omega arith)) (object_of N p) _ _ (same next (omega arith)) (λ object there. one_gone next (omega arith) p.serial)
  op_fine positive (Ask q) takes fits = same next (omega arith)

-- ---- the machine

pub record Fine (S : Schema) (limits : Limits) (M : Catalog) (next : ℕ) (owners : Owners) : Type 0 where
  pub positive : 0 < next
  pub catalog : AllFine S next M
  pub views : (n : ℕ) (owner : Owner) → get owners n ≡ Some owner → AllFine S next (view M owner)
  pub bounded : total S M ≤ 67108864

module _ (S : Schema) (limits : Limits) (within : limits.total ≤ 67108864) where
  module _ (M : Catalog) (next : ℕ) (owners : Owners) (inv : Fine S limits M next owners) where
    comes_fine : (n : ℕ) (level : Level) → Fine S limits M next (insert owners n (new_owner level))
    comes_fine n level = record { positive = inv.positive; catalog = inv.catalog; views = views; bounded = inv.bounded }
      where
        views : (i : ℕ) (owner : Owner) → get (insert owners n (new_owner level)) i ≡ Some owner → AllFine S next (view M owner)
        views i owner e =
            elim (put_back owners n (new_owner level) i owner e) [
              | inl p ↦ subst (λ (x : Owner). AllFine S next (view M x)) p.1 (subst (AllFine S next) (sym (view_new M level)) inv.catalog)
              | inr p ↦ inv.views i owner p.1
            ]

    leaves_fine : (n : ℕ) → Fine S limits M next (remove owners n)
    leaves_fine n = record { positive = inv.positive; catalog = inv.catalog; views = λ i owner e. inv.views i owner (left_back owners n i owner e).1; bounded = inv.bounded }

    settles_fine : (n : ℕ) (owner : Owner) → get owners n ≡ Some owner → total S (over M (net M owner)) ≤ limits.total → Fine S limits (over M (net M owner)) next (remove owners n)
    settles_fine n owner there room = record { positive = inv.positive; catalog = here; views = views; bounded = omega (arith, room, within) }
      where
        here : AllFine S next (over M (net M owner))
        here = subst (AllFine S next) (sym (over_net M owner)) (inv.views n owner there)

        views : (i : ℕ) (x : Owner) → get (remove owners n) i ≡ Some x → AllFine S next (over (over M (net M owner)) (listed x.changes))
        views i x e = over_fine S next (over M (net M owner)) M (listed x.changes) here (inv.views i x (left_back owners n i x e).1)

    steps_fine : (after n : ℕ) (owner : Owner) (step : Step) → next ≤ after → AllFine S after (over (view M owner) step.own) → Fine S limits M after (insert owners n (stepped step owner))
    steps_fine after n owner step later own = record { positive = omega (arith, later, inv.positive); catalog = fine_later S next after M later inv.catalog; views = views; bounded = inv.bounded }
      where
        views : (i : ℕ) (x : Owner) → get (insert owners n (stepped step owner)) i ≡ Some x → AllFine S after (view M x)
        views i x e =
            elim (put_back owners n (stepped step owner) i x e) [
              | inl p ↦ subst (λ (y : Owner). AllFine S after (view M y)) p.1 (subst (AllFine S after) (sym (view_stepped M owner step)) own)
              | inr p ↦ fine_later S next after (view M x) later (inv.views i x p.1)
            ]

    -- of the view, or from a copy
    step_leaves : (owner : Owner) (step : Step) → AllFine S next (view M owner) → IsStepOf S M owner step → TakesNext next step.op → FitsSchema S step.op → AllFine S (next_after next step.op) (over (view M owner) step.own)
    step_leaves owner step fine (inl e) takes fits =
        subst (λ cs. AllFine S (next_after next step.op) (over (view M owner) cs)) (sym (ap (λ (t : Step). t.own) e)) (op_fine S next (view M owner) fine inv.positive step.op takes fits)
    step_leaves owner step fine (inr from) takes fits =
        subst (λ cs. AllFine S (next_after next step.op) (over (view M owner) cs)) (sym (ap (λ (t : Step). t.own) from.1.1)) (fine_later S next (next_after next step.op) (view M owner) (goes_up next step.op) fine)

  effect_fine : (sound : IsSoundSchema S) (k : Kept) → Fine S limits k.catalog k.next k.owners → (effect : Effect) → May S limits k effect → StepFits S sound limits k effect → Fine S limits (moved k effect).catalog (moved k effect).next (moved k effect).owners
  effect_fine sound k inv Stays may fits = inv
  effect_fine sound k inv (OpensBasic name access) may fits = comes_fine k.catalog k.next k.owners inv k.next_owner Basic
  effect_fine sound k inv (OpensTransactional name access) may fits = inv
  effect_fine sound k inv (ClosesBasic s n) may fits = leaves_fine k.catalog k.next k.owners inv n.0
  effect_fine sound k inv (ClosesTransactional s) may fits = inv
  effect_fine sound k inv (Begins name level) may fits = comes_fine k.catalog k.next k.owners inv k.next_owner level
  effect_fine sound k inv (Associates s association) may fits = inv
  effect_fine sound k inv (Ends s n failed) may fits = inv
  effect_fine sound k inv (Seats s copies) may fits = inv
  effect_fine sound k inv (Steps n s step asked) may fits =
      let is = step_is S k.catalog may.owner (copies_of k s) asked in
      let is_step : IsStepOf S k.catalog may.owner step = subst (IsStepOf S k.catalog may.owner) (sym may.taken) is.0 in
      let op : step.op ≡ asked.op = ap (λ (t : Step). t.op) may.taken ∙ is.1 in
      subst (Fine S limits k.catalog (next_after k.next step.op)) (sym (with_there k.owners n.0 (stepped step) may.owner may.there))
      (steps_fine k.catalog k.next k.owners inv (next_after k.next step.op) n.0 may.owner step (goes_up k.next step.op)
      (step_leaves k.catalog k.next k.owners inv may.owner step (inv.views n.0 may.owner may.there) is_step (subst (TakesNext k.next) (sym op) may.serial) (subst (FitsSchema S) (sym op) fits)))
  effect_fine sound k inv (Commits n) may fits =
      subst (λ (j : Kept). Fine S limits (without_transaction_of j n).catalog (without_transaction_of j n).next (without_transaction_of j n).owners) (sym (settled_there k n may.owner may.there))
      (settles_fine k.catalog k.next k.owners inv n.0 may.owner may.there may.room)
  effect_fine sound k inv (Flushes n) may fits =
      subst (λ (j : Kept). Fine S limits (emptied j n).catalog (emptied j n).next (emptied j n).owners) (sym (settled_there k n may.owner may.there))
      (subst (Fine S limits (over k.catalog (net k.catalog may.owner)) k.next) (put_again k.owners n.0 (new_owner may.owner.level) ∙ sym (with_there k.owners n.0 (λ owner. new_owner owner.level) may.owner may.there))
      (comes_fine (over k.catalog (net k.catalog may.owner)) k.next (remove k.owners n.0) (settles_fine k.catalog k.next k.owners inv n.0 may.owner may.there may.room) n.0 may.owner.level))
  effect_fine sound k inv (RollsBack n) may fits = leaves_fine k.catalog k.next k.owners inv n.0

  turn_fine : (sound : IsSoundSchema S) (q : Machine) (x : Said) → Fine S limits q.kept.catalog q.kept.next q.kept.owners → Fine S limits (turn S limits q x).kept.catalog (turn S limits q x).kept.next (turn S limits q x).kept.owners
  turn_fine sound q Silent h = h
  turn_fine sound q (Wrong column) h = h
  turn_fine sound q (Says command) h = effect_fine sound q.kept h (decision S limits q.kept command).effect (decision_right S limits q.kept command) (steps_fit S sound limits q.kept command)

  run_fine : (sound : IsSoundSchema S) (lines : List Said) (q : Machine) → Fine S limits q.kept.catalog q.kept.next q.kept.owners → Fine S limits (run S limits q lines).kept.catalog (run S limits q lines).kept.next (run S limits q lines).kept.owners
  run_fine sound [] q h = h
  run_fine sound (x ∷ lines) q h = run_fine sound lines (turn S limits q x) (turn_fine sound q x h)

-- ---- good catalogs

there_some : {A : Type 0} (o : Option A) (x : A) → o ≡ Some x → IsSome o
there_some None x e = absurd cc
there_some (Some y) x e = refl

some_there : {A : Type 0} (o : Option A) → IsSome o → (x : A) × (o ≡ Some x)
some_there None e = unlike e
some_there (Some x) e = (x, refl)

good_fine : (S : Schema) (M : Catalog) (next : ℕ) → IsGood S M next → AllFine S next M
good_fine S M next good serial object there = record {
  home = (let home = good.homes serial object there in there_some (home_at S object.home) home.0 home.1);
  fits = good.records serial object there;
  short = good.short serial object there;
  serial_given = good.serials serial object there;
  targets = good.targets serial object there;
}

-- at any time in a run from a good catalog
pub all_fine : (S : Schema) (limits : Limits) (M : Catalog) (next : ℕ) (lines : List Said) → IsSoundSchema S → limits.total ≤ 67108864 → IsGood S M next
    → Fine S limits (run S limits (first M next) lines).kept.catalog (run S limits (first M next) lines).kept.next (run S limits (first M next) lines).kept.owners
all_fine S limits M next lines sound within good =
    run_fine S limits within sound lines (first M next) (record { positive = good.positive; catalog = good_fine S M next good; views = λ n owner e. absurd (no owner (sym (get-empty nat_cmp n) ∙ e)); bounded = good.bounded })
  where
    no : (owner : Owner) → None ≡ Some owner → ⊥
    no owner e = cc

pub stays_good : (S : Schema) (limits : Limits) (M : Catalog) (next : ℕ) (lines : List Said) → IsSoundSchema S → limits.total ≤ 67108864 → IsGood S M next → IsGood S (run S limits (first M next) lines).kept.catalog (run S limits (first M next) lines).kept.next
stays_good S limits M next lines sound within good =
    let fine = all_fine S limits M next lines sound within good in
    let sound_after = run_sound S limits lines (first M next) (first_sound S M next good.unique (good_given S M next good)) in
    record {
      homes = λ serial object there. some_there (home_at S object.home) (fine.catalog serial object there).home;
      records = λ serial object there. (fine.catalog serial object there).fits;
      short = λ serial object there. (fine.catalog serial object there).short;
      positive = fine.positive;
      serials = λ serial object there. (fine.catalog serial object there).serial_given;
      targets = λ serial object there. (fine.catalog serial object there).targets;
      unique = sound_after.unique;
      bounded = fine.bounded;
    }

pub empty_good : EmptyIsGood
empty_good S = record {
  homes = λ s object e. absurd (no object (sym (get-empty nat_cmp s) ∙ e));
  records = λ s object e. absurd (no object (sym (get-empty nat_cmp s) ∙ e));
  short = λ s object e. absurd (no object (sym (get-empty nat_cmp s) ∙ e));
  positive = omega arith;
  serials = λ s object e. absurd (no object (sym (get-empty nat_cmp s) ∙ e));
  targets = λ s object e. absurd (no object (sym (get-empty nat_cmp s) ∙ e));
  unique = λ k bytes s t x y at_s at_t holds_x holds_y. absurd (no x (sym (get-empty nat_cmp s) ∙ at_s));
  bounded = (let none : total S empty ≡ 0 = ap (λ es. sum (map (λ e. weight S e.1) es)) no_entries in omega (arith, none));
}
  where
    no : (object : Object) → None ≡ Some object → ⊥
    no object e = cc

    by_length : (es : List (ℕ × Object)) → length es ≡ 0 → es ≡ []
    by_length [] e = refl
    by_length (x ∷ es) e = absurd (omega arith)

    no_entries : entries (empty {X = Object} {R = nat_cmp}) ≡ []
    no_entries = by_length (entries empty) (sym (len-entries (empty {X = Object} {R = nat_cmp})) ∙ len-empty nat_cmp Object)
