-- The next serial that is stored lies above each serial of an object that was stored, and not above the machine's.
use Rattle.std.proofs.Common.{ℕ, ◌≡◌, ◌⊎◌, inl, inr, ◌<◌, ◌≤◌, le_refl, arith, Bool, true, false, List, [], ◌∷◌, ◌++◌, map, length, Option, Some, None, IfSome, IsSomeAnd, refl, sym, ap, ◌∙◌, subst}
use Rattle.std.specs.Prelude.{if◌then◌else◌, unwrap_or}
use Rattle.std.specs.FinMap.{get, get-empty, insert, remove}
use Rattle.std.specs.Ordering.{nat_cmp}
use Rattle.std.specs.List.{AllByRecursion}
use Rattle.pss_base.specs.declared.lines.LineStep.{LineStep}
use Rattle.pss_base.specs.declared.owner.OwnerNo.{OwnerNo}
use Rattle.type_layout.specs.declared.schema.Schema.{Schema}
use Rattle.type_layout.specs.Schemas.{given}
use Rattle.pss_catalog.specs.Catalog.{Catalog, IsGood}
use Rattle.pss_catalog.specs.Changes.{Change, over}
use Rattle.pss_machine.specs.declared.limits.Limits.{Limits}
use Rattle.pss_machine.specs.Operations.{PlainOp, Create, Set, Destroy, Ask, PlainAnswer, Found}
use Rattle.pss_machine.specs.Owners.{Owner, Step, net}
use Rattle.pss_machine.specs.Kept.{Kept, copies_of}
use Rattle.pss_machine.specs.Effects.{Effect, Stays, OpensBasic, OpensTransactional, ClosesBasic, ClosesTransactional, Begins, Associates, Ends, Holds as Seats, Steps, Commits, Flushes, RollsBack}
use Rattle.pss_machine.specs.Deciding.{decision}
use Rattle.pss_machine.specs.Moving.{joins, next_after, moved}
use Rattle.pss_machine.specs.Beside.{Answered, Lists, Member, answered_in, grown, member_of, no_lists, steps_of, with_member, with_settled}
use Rattle.pss_machine.specs.Run.{Said, Silent, Says, Wrong, Machine, first, turn, run}
use Rattle.pss_machine.specs.Allowed.{TakesNext, May, MaySettle}
use Rattle.pss_machine.proofs.Allowing.{decision_right, step_is}
use Rattle.pss_machine.proofs.Logic.{same_some}
use Rattle.pss_machine.proofs.Maps.{same_or_apart, insert_here, insert_apart, remove_here, remove_apart}
use Rattle.pss_laws.specs.Good.{GoodStaysGood}
use Rattle.pss_laws.proofs.Turns.{goes_up, settled_there}
use Rattle.pss_laws.proofs.History.{with_settled_there, with_step_there}
use Rattle.commit_saving.specs.Saving.{changed_by, saved_by, saved_next}
use Rattle.line_service.specs.Turns.{after}
use Rattle.script_service.specs.Turns.{Running, told_by, effect_of, turn_from}
use Rattle.script_service.specs.Bounds.{IsBetween, MadeBelow, StoredIsBetween, made_by}
use Rattle.script_service.proofs.Runs.{keeping, turn_kept}

-- ---- lists

-- each object that was made has a serial below this
abbrev IsBelow : ℕ → Answered → Type 0
IsBelow next a = IfSome (made_by a.op a.answer) (λ serial. serial < next)

all_weaker : {X : Type 0} (P Q : X → Type 0) (xs : List X) → ((x : X) → P x → Q x) → AllByRecursion P xs → AllByRecursion Q xs
all_weaker P Q [] f all = tt
all_weaker P Q (x ∷ xs) f all = (f x all.0, all_weaker P Q xs f all.1)

all_joined : {X : Type 0} (P : X → Type 0) (xs : List X) (x : X) → AllByRecursion P xs → P x → AllByRecursion P (xs ++ x ∷ [])
all_joined P [] x all p = (p, tt)
all_joined P (y ∷ xs) x all p = (all.0, all_joined P xs x all.1 p)

below_later : (low high : ℕ) → low ≤ high → (a : Answered) → IsBelow low a → IsBelow high a
below_later low high le a = by (made_by a.op a.answer)
  where
    by : (o : Option ℕ) → IfSome o (λ serial. serial < low) → IfSome o (λ serial. serial < high)
    by None is = tt
    by (Some serial) is = omega (arith, is, le)

all_later : (low high : ℕ) → low ≤ high → (xs : List Answered) → AllByRecursion (IsBelow low) xs → AllByRecursion (IsBelow high) xs
all_later low high le xs = all_weaker (IsBelow low) (IsBelow high) xs (below_later low high le)

members_later : (low high : ℕ) → low ≤ high → (history : List Member) → AllByRecursion (MadeBelow low) history → AllByRecursion (MadeBelow high) history
members_later low high le history = all_weaker (MadeBelow low) (MadeBelow high) history (λ x is some. all_later low high le x.done (is some))

-- ---- what holds all the time

-- what was done by an owner that is there
abbrev AreBelow : ℕ → List Step → Type 0
AreBelow next steps = AllByRecursion (IsBelow next) (map answered_in steps)

record At (S : Schema) (M : Catalog) (next : ℕ) (lists : Lists) (saved : ℕ) : Type 0 where
  pub given : saved ≤ next
  pub above : AllByRecursion (MadeBelow saved) lists.history
  pub good : IsGood S M saved
  pub steps : (n : ℕ) (steps : List Step) → get lists.steps n ≡ Some steps → AreBelow next steps

-- the steps of an owner, which may have done none
all_steps : (next : ℕ) (o : Option (List Step)) → ((steps : List Step) → o ≡ Some steps → AreBelow next steps) → AreBelow next (unwrap_or o [])
all_steps next None all = tt
all_steps next (Some steps) all = all steps refl

module _ (S : Schema) (M : Catalog) (next saved : ℕ) (lists : Lists) (h : At S M next lists saved) where
  owned : (n : ℕ) → AreBelow next (steps_of lists n)
  owned n = all_steps next (get lists.steps n) (h.steps n)

  -- the steps of an owner go
  left : (n i : ℕ) (steps : List Step) → get (remove lists.steps n) i ≡ Some steps → AreBelow next steps
  left n i steps there = by_place (same_or_apart i n)
    where
      by_place : ((i ≡ n) ⊎ (i ≡ n → ⊥)) → AreBelow next steps
      by_place (inl same) = absurd (no (sym (remove_here lists.steps n) ∙ ap (get (remove lists.steps n)) (sym same) ∙ there))
        where
          no : None ≡ Some steps → ⊥
          no e = absurd cc
      by_place (inr apart) = h.steps i steps (sym (remove_apart lists.steps n i apart) ∙ there)

  -- an owner takes a step
  made_next : (op : PlainOp) (answer : PlainAnswer) → TakesNext next op → IfSome (made_by op answer) (λ serial. serial < next_after next op)
  made_next (Create serial object) (Found p) takes = omega (arith, takes)
  made_next (Create serial object) _ takes = tt
  made_next (Set p member value) answer takes = tt
  made_next (Destroy p) answer takes = tt
  made_next (Ask question) answer takes = tt

  joined : (low : ℕ) (steps : List Step) (step : Step) → AreBelow low steps → IsBelow low (answered_in step) → AreBelow low (steps ++ step ∷ [])
  joined low [] step all is = (is, tt)
  joined low (x ∷ steps) step all is = (all.0, joined low steps step all.1 is)

  abbrev with : ℕ → Step → List Step
  with n step = steps_of lists n ++ step ∷ []

  taken : (n : ℕ) (step : Step) → TakesNext next step.op → (i : ℕ) (steps : List Step) → get (insert lists.steps n (with n step)) i ≡ Some steps → AreBelow (next_after next step.op) steps
  taken n step takes i steps there = by_place (same_or_apart i n)
    where
      up : next ≤ next_after next step.op
      up = goes_up next step.op

      by_place : ((i ≡ n) ⊎ (i ≡ n → ⊥)) → AreBelow (next_after next step.op) steps
      by_place (inl same) = subst (AreBelow (next_after next step.op)) (same_some (sym (insert_here lists.steps n (with n step)) ∙ ap (get (insert lists.steps n (with n step))) (sym same) ∙ there))
          (joined (next_after next step.op) (steps_of lists n) step (all_later next (next_after next step.op) up (map answered_in (steps_of lists n)) (owned n)) (made_next step.op step.answer takes))
      by_place (inr apart) = all_later next (next_after next step.op) up (map answered_in steps) (h.steps i steps (sym (insert_apart lists.steps n (with n step) i apart) ∙ there))

  -- what an owner changed is committed
  settled_at : (n : ℕ) (x : Member) (changes : List Change) → x.changes ≡ changes → x.done ≡ map answered_in (steps_of lists n) → IsGood S (over M changes) next
      → At S (over M changes) next (record { steps = remove lists.steps n; history = with_member lists.history x; trace = lists.trace }) (saved_next saved next changes)
  settled_at n x [] none done good = record { given = h.given; above = by (joins x.level x.changes); good = h.good; steps = left n }
    where
      by : (b : Bool) → AllByRecursion (MadeBelow saved) (if b then lists.history ++ x ∷ [] else lists.history)
      by true = all_joined (MadeBelow saved) lists.history x h.above (λ some. absurd (no (subst (λ (cs : List Change). 0 < length cs) none some)))
        where
          no : 0 < 0 → ⊥
          no less = absurd (omega (arith, less))
      by false = h.above
  settled_at n x (c ∷ changes) some done good = record { given = le_refl next; above = by (joins x.level x.changes); good = good; steps = left n }
    where
      before : AllByRecursion (MadeBelow next) lists.history
      before = members_later saved next h.given lists.history h.above

      by : (b : Bool) → AllByRecursion (MadeBelow next) (if b then lists.history ++ x ∷ [] else lists.history)
      by true = all_joined (MadeBelow next) lists.history x before (λ changed. subst (AllByRecursion (IsBelow next)) (sym done) (owned n))
      by false = before

-- ---- effects and lines

module _ (S : Schema) (limits : Limits) where
  abbrev Holds : Machine → ℕ → Type 0
  Holds q saved = At S q.kept.catalog q.kept.next q.lists saved

  abbrev Then : Machine → ℕ → Effect → Type 0
  Then q saved e = At S (moved q.kept e).catalog (moved q.kept e).next (grown q.kept q.lists e) (saved_by q.kept saved e)

  settles : (q : Machine) (saved : ℕ) (m : OwnerNo) → MaySettle S limits q.kept m → IsGood S (moved q.kept (Commits m)).catalog q.kept.next → Holds q saved
      → At S (moved q.kept (Commits m)).catalog q.kept.next (with_settled q.kept q.lists m) (saved_next saved q.kept.next (changed_by q.kept m))
  settles q saved m may good h =
      let changes : List Change = net q.kept.catalog may.owner in
      let x : Member = member_of q.kept q.lists m may.owner in
      let lists : Lists = record { steps = remove q.lists.steps m.0; history = with_member q.lists.history x; trace = q.lists.trace } in
      let changed_is : changed_by q.kept m ≡ changes = ap (λ (o : Option Owner). given o [] (λ owner. net q.kept.catalog owner)) may.there in
      let over_is : (moved q.kept (Commits m)).catalog ≡ over q.kept.catalog changes = ap (λ (k : Kept). k.catalog) (settled_there q.kept m may.owner may.there) in
      subst (λ (l : Lists). At S (moved q.kept (Commits m)).catalog q.kept.next l (saved_next saved q.kept.next (changed_by q.kept m))) (sym (with_settled_there q.kept q.lists m may.owner may.there))
      (subst (λ (N : Catalog). At S N q.kept.next lists (saved_next saved q.kept.next (changed_by q.kept m))) (sym over_is)
      (subst (λ (cs : List Change). At S (over q.kept.catalog changes) q.kept.next lists (saved_next saved q.kept.next cs)) (sym changed_is)
      (settled_at S q.kept.catalog q.kept.next saved q.lists h m.0 x changes refl refl (subst (λ (N : Catalog). IsGood S N q.kept.next) over_is good))))

  effect_at : (q : Machine) (saved : ℕ) (e : Effect) → May S limits q.kept e → IsGood S (moved q.kept e).catalog (moved q.kept e).next → Holds q saved → Then q saved e
  effect_at q saved Stays may good h = h
  effect_at q saved (OpensBasic name access) may good h = h
  effect_at q saved (OpensTransactional name access) may good h = h
  effect_at q saved (ClosesBasic s m) may good h = record { given = h.given; above = h.above; good = h.good; steps = left S q.kept.catalog q.kept.next saved q.lists h m.0 }
  effect_at q saved (ClosesTransactional s) may good h = h
  effect_at q saved (Begins name level) may good h = h
  effect_at q saved (Associates s association) may good h = h
  effect_at q saved (Ends s m failed) may good h = h
  effect_at q saved (Seats s copies) may good h = h
  effect_at q saved (Steps m s step asked) may good h =
      let op : step.op ≡ asked.op = ap (λ (t : Step). t.op) may.taken ∙ (step_is S q.kept.catalog may.owner (copies_of q.kept s) asked).1 in
      let up : q.kept.next ≤ next_after q.kept.next step.op = goes_up q.kept.next step.op in
      subst (λ (lists : Lists). At S q.kept.catalog (next_after q.kept.next step.op) lists saved) (sym (with_step_there q.kept q.lists m step may.owner may.there))
      (record { given = omega (arith, h.given, up); above = h.above; good = h.good; steps = taken S q.kept.catalog q.kept.next saved q.lists h m.0 step (subst (TakesNext q.kept.next) (sym op) may.serial) })
  effect_at q saved (Commits m) may good h =
      let next_is : (moved q.kept (Commits m)).next ≡ q.kept.next = ap (λ (k : Kept). k.next) (settled_there q.kept m may.owner may.there) in
      subst (λ (next : ℕ). At S (moved q.kept (Commits m)).catalog next (with_settled q.kept q.lists m) (saved_next saved q.kept.next (changed_by q.kept m))) (sym next_is)
      (settles q saved m may (subst (IsGood S (moved q.kept (Commits m)).catalog) next_is good) h)
  effect_at q saved (Flushes m) may good h =
      let next_is : (moved q.kept (Flushes m)).next ≡ q.kept.next = ap (λ (k : Kept). k.next) (settled_there q.kept m may.owner may.there) in
      subst (λ (next : ℕ). At S (moved q.kept (Flushes m)).catalog next (with_settled q.kept q.lists m) (saved_next saved q.kept.next (changed_by q.kept m))) (sym next_is)
      (settles q saved m may (subst (IsGood S (moved q.kept (Flushes m)).catalog) next_is good) h)
  effect_at q saved (RollsBack m) may good h = record { given = h.given; above = h.above; good = h.good; steps = left S q.kept.catalog q.kept.next saved q.lists h m.0 }

  -- the next serial that is stored after a line
  abbrev saved_then : Machine → ℕ → Said → ℕ
  saved_then q saved told = saved_by q.kept saved (effect_of S limits q.kept told)

  line_at : (q : Machine) (saved : ℕ) (told : Said) → IsGood S (turn S limits q told).kept.catalog (turn S limits q told).kept.next → Holds q saved → Holds (turn S limits q told) (saved_then q saved told)
  line_at q saved Silent good h = h
  line_at q saved (Wrong column) good h = h
  line_at q saved (Says command) good h = effect_at q saved (decision S limits q.kept command).effect (decision_right S limits q.kept command) good h

  -- and after lines
  abbrev saved_run : Machine → ℕ → List Said → ℕ
  saved_run q saved [] = saved
  saved_run q saved (x ∷ xs) = saved_run (turn S limits q x) (saved_then q saved x) xs

  lines_at : (xs : List Said) (q : Machine) (saved : ℕ) → ((ys : List Said) → IsGood S (run S limits q ys).kept.catalog (run S limits q ys).kept.next) → Holds q saved → Holds (run S limits q xs) (saved_run q saved xs)
  lines_at [] q saved good h = h
  lines_at (x ∷ xs) q saved good h = lines_at xs (turn S limits q x) (saved_then q saved x) (λ ys. good (x ∷ ys)) (line_at q saved x (good (x ∷ [])) h)

  -- what is kept and stored after lines that are served
  served_is : (lines : List LineStep) (q : Machine) (saved : ℕ) (cleared : Bool)
      → (b : Bool) × (after turn_from (keeping S limits q.kept (Some saved) cleared) lines ≡ keeping S limits (run S limits q (map told_by lines)).kept (Some (saved_run q saved (map told_by lines))) b)
  served_is [] q saved cleared = (cleared, refl)
  served_is (line ∷ lines) q saved cleared =
      let told : Said = told_by line in
      let now : Running = (turn_from (keeping S limits q.kept (Some saved) cleared) line).0 in
      let rest : (b : Bool) × (after turn_from (keeping S limits (turn S limits q told).kept (Some (saved_then q saved told)) now.cleared) lines ≡ keeping S limits (run S limits q (map told_by (line ∷ lines))).kept (Some (saved_run q saved (map told_by (line ∷ lines)))) b)
      = served_is lines (turn S limits q told) (saved_then q saved told) now.cleared in
      (rest.0, ap (λ k. after turn_from (keeping S limits k (Some (saved_then q saved told)) now.cleared) lines) (sym (turn_kept S limits q told)) ∙ rest.1)

pub stored_between : GoodStaysGood → StoredIsBetween
stored_between stays S limits M next lines sound total good =
    let told : List Said = map told_by lines in
    let q : Machine = first M next in
    let held : At S (run S limits q told).kept.catalog (run S limits q told).kept.next (run S limits q told).lists (saved_run S limits q next told)
    = lines_at S limits told q next (λ ys. stays S limits M next ys sound total good) (record { given = le_refl next; above = tt; good = good; steps = λ n steps there. absurd (none n steps there) }) in
    let is = served_is S limits lines q next false in
    subst (λ (r : Running). IsSomeAnd r.saved (IsBetween S r (run S limits q told).lists.history)) (sym is.1) (record { given = held.given; above = held.above; good = held.good })
  where
    none : (n : ℕ) (steps : List Step) → get no_lists.steps n ≡ Some steps → ⊥
    none n steps there = no (sym (get-empty nat_cmp n) ∙ there)
      where
        no : None ≡ Some steps → ⊥
        no e = absurd cc
