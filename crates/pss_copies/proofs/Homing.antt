-- That all objects under one serial are of one home, command by command.
use Rattle.std.proofs.Common.{arith, ◌≡◌, ℕ, ◌<◌, ◌≤◌, Bool, true, false, cond, ◌==◌, List, [], ◌∷◌, length, Option, Some, None, refl, sym, ap, subst, ◌∙◌, inl, inr}
use Rattle.std.proofs.lemmas.Bool.{eqb-true, eq-eqb}
use Rattle.std.proofs.lemmas.Bool.Decides.{nat_tests}
use Rattle.std.specs.Prelude.{◌⊎◌, IsTrue, nat_lt, unwrap_or, if◌then◌else◌}
use Rattle.std.specs.List.{flat_map}
use Rattle.std.specs.Ordering.{nat_cmp}
use Rattle.std.specs.FinMap.{get, insert, remove, get-empty}
use Rattle.pss_base.specs.declared.pid.Pid.{Pid}
use Rattle.pss_base.specs.declared.owner.OwnerNo.{OwnerNo}
use Rattle.pss_base.specs.declared.session.SessionNo.{SessionNo}
use Rattle.type_layout.specs.declared.schema.Schema.{Schema}
use Rattle.type_layout.specs.Types.{PlainValue}
use Rattle.type_layout.specs.Schemas.{given}
use Rattle.pss_catalog.specs.Catalog.{Object, Catalog, references, object_spelling}
use Rattle.pss_catalog.specs.Changes.{Change, over, last_state}
use Rattle.pss_catalog.proofs.Uniqueness.{found_over}
use Rattle.pss_machine.specs.declared.limits.Limits.{Limits}
use Rattle.pss_machine.specs.declared.level.Level.{Level}
use Rattle.pss_machine.specs.declared.level.Level.TheVariants.{Basic}
use Rattle.pss_machine.specs.Operations.{PlainOp, Create, Set, Destroy, Ask, PlainAnswer, Done, Found, TooLarge}
use Rattle.pss_machine.specs.Alone.{Outcome, answers, pid_at, object_of, first_gone, first_taken, stored, unless_gone, with_member, alone}
use Rattle.pss_machine.specs.Changes.{listed}
use Rattle.pss_machine.specs.Owners.{Owner, Owners, new_owner, is_basic, view, net, Step, step_on_view, stepped}
use Rattle.pss_machine.specs.Copies.{Copies, AllCopies, no_copies, Body, detached, values_at}
use Rattle.pss_machine.specs.Sessions.{Session}
use Rattle.pss_machine.specs.Asking.{Asked}
use Rattle.pss_machine.specs.Kept.{Kept, copies_of}
use Rattle.pss_machine.specs.Effects.{Effect, Stays, OpensBasic, OpensTransactional, ClosesBasic, ClosesTransactional, Begins, Associates, Ends, Holds as Keeps, Steps, Commits, Flushes, RollsBack}
use Rattle.pss_machine.specs.Deciding.{decision}
use Rattle.pss_machine.specs.Moving.{next_after, emptied, without_transaction_of, is_outdated, is_settled, is_in, is_session, seen_in, owners_after, seated, copies_after, moved}
use Rattle.pss_machine.specs.Run.{Said, Silent, Says, Wrong, Machine, first, turn, run}
use Rattle.pss_machine.specs.Allowed.{TakesNext, May, IsStepOf, IsFromCopy}
use Rattle.pss_machine.proofs.Cases.{of_given}
use Rattle.pss_machine.proofs.Allowing.{decision_right, step_is}
use Rattle.pss_machine.proofs.Logic.{none_some, same_some}
use Rattle.pss_laws.specs.Sound.{NoneFrom, IsSound}
use Rattle.pss_laws.proofs.Footprint.{get_one, object_there}
use Rattle.pss_laws.proofs.Living.{home_of_it}
use Rattle.pss_laws.proofs.Nets.{view_stepped, view_new, over_net}
use Rattle.pss_laws.proofs.Turns.{put_back, left_back, put_again, with_there, settled_there, goes_up, command_sound, first_sound}
use Rattle.pss_laws.proofs.Stands.{StandFrom, AllFrom, found_from, seated_from, detached_all, with_all, put_all, left_all, weaker_entries}
use Rattle.pss_laws.proofs.Naming.{Goes, goes}
use Rattle.pss_copies.specs.Ruled.{HomesAgree, HomesAlwaysAgree}

-- ---- catalogs

-- each object is of the home of its serial
abbrev pub AtHome : (ℕ → ℕ) → Catalog → Type 0
AtHome home M = (s : ℕ) (x : Object) → get M s ≡ Some x → x.home.0 ≡ home s

-- a serial that was given has its home
abbrev pub InHome : (ℕ → ℕ) → ℕ → Pid → List PlainValue → Type 0
InHome home next pid values = (pid.home ≡ home pid.serial) × (pid.serial < next)

-- changes over objects at home, which are at home over another catalog
over_home : (home : ℕ → ℕ) (N O : Catalog) (cs : List Change) → AtHome home N → AtHome home (over O cs) → AtHome home (over N cs)
over_home home N O cs h k t x there = by_last (last_state cs t) (found_over N cs t) (found_over O cs t)
  where
    by_last : (o : Option (Option Object)) → get (over N cs) t ≡ unwrap_or o (get N t) → get (over O cs) t ≡ unwrap_or o (get O t) → x.home.0 ≡ home t
    by_last None at_n at_o = h t x (sym at_n ∙ there)
    by_last (Some state) at_n at_o = k t x (at_o ∙ sym at_n ∙ there)

-- the homes, with that of a new object
abbrev pub home_after : PlainOp → (ℕ → ℕ) → ℕ → ℕ
home_after (Create serial object) home s = if s == serial then object.home.0 else home s
home_after _ home s = home s

-- below the next serial they are as before
home_stays : (next : ℕ) (op : PlainOp) → TakesNext next op → (home : ℕ → ℕ) (s : ℕ) → s < next → home s ≡ home_after op home s
home_stays next (Create serial object) takes home s lt = by (s == serial) refl
  where
    by : (b : Bool) → (s == serial) ≡ b → home s ≡ (if b then object.home.0 else home s)
    by true is = let same : s ≡ serial = eqb-true s serial is in absurd (omega (arith, lt, takes, same))
    by false is = refl
home_stays next (Set p member value) takes home s lt = refl
home_stays next (Destroy p) takes home s lt = refl
home_stays next (Ask q) takes home s lt = refl

given_below : (M : Catalog) (next s : ℕ) (x : Object) → NoneFrom next M → get M s ≡ Some x → s < next
given_below M next s x none there = below (nat_lt s next) refl
  where
    below : (b : Bool) → nat_lt s next ≡ b → s < next
    below true e = grind (arith, nat_tests)
    below false e = (let above : next ≤ s = grind (arith, nat_tests) in absurd (none_some (sym (none s above) ∙ there)))

stay_home : (next : ℕ) (op : PlainOp) → TakesNext next op → (home : ℕ → ℕ) (M : Catalog) → NoneFrom next M → AtHome home M → AtHome (home_after op home) M
stay_home next op takes home M none at s x there = at s x there ∙ home_stays next op takes home s (given_below M next s x none there)

module _ (S : Schema) (N : Catalog) (home : ℕ → ℕ) (at : AtHome home N) where
  abbrev Leaves : Outcome → Type 0
  Leaves outcome = AtHome home (over N outcome.changes)

  one_put : (s : ℕ) (object : Object) → object.home.0 ≡ home s → AtHome home (over N (record { serial = s; state = Some object } ∷ []))
  one_put s object new t x there = by (s == t) refl (sym (get_one S N s (Some object) t) ∙ there)
    where
      by : (b : Bool) → (s == t) ≡ b → cond b (Some object) (get N t) ≡ Some x → x.home.0 ≡ home t
      by false p here = at t x here
      by true p here = ap (λ (o : Object). o.home.0) (sym (same_some here)) ∙ new ∙ ap home (eqb-true s t p)

  one_gone : (s : ℕ) → AtHome home (over N (record { serial = s; state = None } ∷ []))
  one_gone s t x there = by (s == t) (sym (get_one S N s None t) ∙ there)
    where
      by : (b : Bool) → cond b None (get N t) ≡ Some x → x.home.0 ≡ home t
      by false here = at t x here
      by true here = absurd (none_some here)

  stored_home : (s : ℕ) (object : Object) (a : PlainAnswer) → object.home.0 ≡ home s → Leaves (stored S N s object a)
  stored_home s object a new = of_given Leaves (first_taken S N s object) _ _ (by (nat_lt 8000 (length (object_spelling S object)))) (λ k e. at)
    where
      by : (b : Bool) → Leaves (if b then answers TooLarge else record { changes = record { serial = s; state = Some object } ∷ []; answer = a })
      by true = at
      by false = one_put s object new

  unless_home : (qs : List Pid) (outcome : Outcome) → Leaves outcome → Leaves (unless_gone N qs outcome)
  unless_home qs outcome h = of_given Leaves (first_gone N qs) outcome _ h (λ q e. at)

  -- an operation that takes no new serial
  pub old_home : (op : PlainOp) → ((serial : ℕ) (object : Object) → op ≡ Create serial object → object.home.0 ≡ home serial) → AtHome home (over N (alone S N op).changes)
  old_home (Create serial object) new = unless_home (flat_map references object.values) _ (stored_home serial object (Found (pid_at serial object)) (new serial object refl))
  old_home (Set p i v) new =
      of_given Leaves (object_of N p) _ _ at (λ object there. unless_home (references v) _ (stored_home p.serial (with_member object i v) Done (at p.serial object (object_there N p object there))))
  old_home (Destroy p) new = of_given Leaves (object_of N p) _ _ at (λ object there. one_gone p.serial)
  old_home (Ask q) new = at

op_home : (S : Schema) (N : Catalog) (home : ℕ → ℕ) (next : ℕ) (op : PlainOp) → TakesNext next op → NoneFrom next N → AtHome home N → AtHome (home_after op home) (over N (alone S N op).changes)
op_home S N home next op takes none at = old_home S N (home_after op home) (stay_home next op takes home N none at) op (λ serial object is. new serial object is)
  where
    new : (serial : ℕ) (object : Object) → op ≡ Create serial object → object.home.0 ≡ home_after op home serial
    new serial object is = sym (ap (λ (b : Bool). if b then object.home.0 else home serial) (eq-eqb serial serial refl)) ∙ ap (λ o. home_after o home serial) (sym is)

-- ---- what effects leave

pub record Homed (home : ℕ → ℕ) (M : Catalog) (owners : Owners) (all : AllCopies) (next : ℕ) : Type 0 where
  pub catalog : AtHome home M
  pub views : (n : ℕ) (owner : Owner) → get owners n ≡ Some owner → AtHome home (view M owner)
  pub entries : AllFrom (InHome home next) all

module _ (home : ℕ → ℕ) (M : Catalog) (owners : Owners) (all : AllCopies) (next : ℕ) (inv : Homed home M owners all next) where
  with_copies : (new : AllCopies) → AllFrom (InHome home next) new → Homed home M owners new next
  with_copies new from = record { catalog = inv.catalog; views = inv.views; entries = from }

  comes_homed : (n : ℕ) (level : Level) → Homed home M (insert owners n (new_owner level)) all next
  comes_homed n level = record { catalog = inv.catalog; views = views; entries = inv.entries }
    where
      views : (i : ℕ) (owner : Owner) → get (insert owners n (new_owner level)) i ≡ Some owner → AtHome home (view M owner)
      views i owner e =
          elim (put_back owners n (new_owner level) i owner e) [
            | inl p ↦ subst (λ (x : Owner). AtHome home (view M x)) p.1 (subst (AtHome home) (sym (view_new M level)) inv.catalog)
            | inr p ↦ inv.views i owner p.1
          ]

  leaves_homed : (n : ℕ) → Homed home M (remove owners n) all next
  leaves_homed n = record { catalog = inv.catalog; views = λ i owner e. inv.views i owner (left_back owners n i owner e).1; entries = inv.entries }

  settles_homed : (n : ℕ) (owner : Owner) → get owners n ≡ Some owner → Homed home (over M (net M owner)) (remove owners n) all next
  settles_homed n owner there = record { catalog = here; views = views; entries = inv.entries }
    where
      here : AtHome home (over M (net M owner))
      here = subst (AtHome home) (sym (over_net M owner)) (inv.views n owner there)

      views : (i : ℕ) (x : Owner) → get (remove owners n) i ≡ Some x → AtHome home (over (over M (net M owner)) (listed x.changes))
      views i x e = over_home home (over M (net M owner)) M (listed x.changes) here (inv.views i x (left_back owners n i x e).1)

module _ (S : Schema) (limits : Limits) (home : ℕ → ℕ) (k : Kept) (sound : IsSound S k) (inv : Homed home k.catalog k.owners k.copies k.next) where
  abbrev HomedAfter : (ℕ → ℕ) → Effect → Type 0
  HomedAfter now effect = Homed now (moved k effect).catalog (moved k effect).owners (moved k effect).copies (moved k effect).next

  loosened : (test : SessionNo → Session → Body → Bool) → Homed home k.catalog k.owners (detached k.owners k.sessions test k.copies) k.next
  loosened test = with_copies home k.catalog k.owners k.copies k.next inv (detached k.owners k.sessions test k.copies) (detached_all (InHome home k.next) k.owners k.sessions test k.copies inv.entries)

  -- the entries after a step
  module _ (n : OwnerNo) (s : SessionNo) (step : Step) (asked : Asked) (takes : TakesNext k.next step.op) where
    abbrev now : ℕ → ℕ
    now = home_after step.op home

    later : (pid : Pid) (values : List PlainValue) → InHome home k.next pid values → InHome now (next_after k.next step.op) pid values
    later pid values h = (h.0 ∙ home_stays k.next step.op takes home pid.serial h.1, below pid.serial h.1)
      where
        up : k.next ≤ next_after k.next step.op
        up = goes_up k.next step.op

        below : (s : ℕ) → s < k.next → s < next_after k.next step.op
        below s lt = omega (arith, lt, up)

    committed : (pid : Pid) (values : List PlainValue) → values_at k.catalog pid ≡ Some values → InHome now (next_after k.next step.op) pid values
    committed pid values e = by_object (object_of k.catalog pid) refl e
      where
        by_object : (o : Option Object) → object_of k.catalog pid ≡ o → given o None (λ object. Some object.values) ≡ Some values → InHome now (next_after k.next step.op) pid values
        by_object None at e = absurd (none_some e)
        by_object (Some object) at e =
            let there : get k.catalog pid.serial ≡ Some object = object_there k.catalog pid object at in
            later pid values (sym (home_of_it k.catalog pid object at) ∙ inv.catalog pid.serial object there, given_below k.catalog k.next pid.serial object sound.given there)

    from : AllFrom (InHome now (next_after k.next step.op)) (copies_after k n s step asked)
    from =
        with_all (InHome now (next_after k.next step.op)) (detached k.owners k.sessions (is_outdated n step) k.copies) s.0 (seated k.catalog (seen_in (owners_after k n step) k.sessions s) asked step.answer)
        (λ copies one. seated_from (InHome now (next_after k.next step.op)) k.catalog committed (seen_in (owners_after k n step) k.sessions s) asked step.answer copies one)
        (detached_all (InHome now (next_after k.next step.op)) k.owners k.sessions (is_outdated n step) k.copies (λ t one at. weaker_entries (InHome home k.next) (InHome now (next_after k.next step.op)) later one.entries (inv.entries t one at)))

    module _ (owner : Owner) (there : get k.owners n.0 ≡ Some owner) (is_step : IsStepOf S k.catalog owner step) where
      given_in : NoneFrom k.next (view k.catalog owner)
      given_in = (sound.each n.0 owner there).given

      own_home : AtHome now (over (view k.catalog owner) step.own)
      own_home = by is_step
        where
          by : (step ≡ step_on_view S k.catalog owner step.op) ⊎ (IsTrue (is_basic owner.level) × IsFromCopy step) → AtHome (home_after step.op home) (over (view k.catalog owner) step.own)
          by (inl e) = subst (λ cs. AtHome (home_after step.op home) (over (view k.catalog owner) cs)) (sym (ap (λ (t : Step). t.own) e)) (op_home S (view k.catalog owner) home k.next step.op takes given_in (inv.views n.0 owner there))
          by (inr e) = subst (λ cs. AtHome (home_after step.op home) (over (view k.catalog owner) cs)) (sym (ap (λ (t : Step). t.own) e.1.1)) (stay_home k.next step.op takes home (view k.catalog owner) given_in (inv.views n.0 owner there))

      step_homed : Homed now k.catalog (insert k.owners n.0 (stepped step owner)) (copies_after k n s step asked) (next_after k.next step.op)
      step_homed = record { catalog = stay_home k.next step.op takes home k.catalog sound.given inv.catalog; views = views; entries = from }
        where
          views : (i : ℕ) (x : Owner) → get (insert k.owners n.0 (stepped step owner)) i ≡ Some x → AtHome (home_after step.op home) (view k.catalog x)
          views i x e =
              elim (put_back k.owners n.0 (stepped step owner) i x e) [
                | inl p ↦ subst (λ (y : Owner). AtHome (home_after step.op home) (view k.catalog y)) p.1 (subst (AtHome (home_after step.op home)) (sym (view_stepped k.catalog owner step)) own_home)
                | inr p ↦ stay_home k.next step.op takes home (view k.catalog x) (sound.each i x p.1).given (inv.views i x p.1)
              ]

  effect_homed : (effect : Effect) → May S limits k effect → Goes S limits k (InHome home k.next) inv.entries effect → (now : ℕ → ℕ) × HomedAfter now effect
  effect_homed Stays may go = (home, inv)
  effect_homed (OpensBasic name access) may go = (
    home,
    comes_homed home k.catalog k.owners (insert k.copies k.next_session no_copies) k.next
        (with_copies home k.catalog k.owners k.copies k.next inv (insert k.copies k.next_session no_copies) (put_all (InHome home k.next) k.copies k.next_session no_copies tt inv.entries)) k.next_owner Basic,
  )
  effect_homed (OpensTransactional name access) may go = (home, with_copies home k.catalog k.owners k.copies k.next inv (insert k.copies k.next_session no_copies) (put_all (InHome home k.next) k.copies k.next_session no_copies tt inv.entries))
  effect_homed (ClosesBasic s n) may go = (home, leaves_homed home k.catalog k.owners (remove k.copies s.0) k.next (with_copies home k.catalog k.owners k.copies k.next inv (remove k.copies s.0) (left_all (InHome home k.next) k.copies s.0 inv.entries)) n.0)
  effect_homed (ClosesTransactional s) may go = (home, with_copies home k.catalog k.owners k.copies k.next inv (remove k.copies s.0) (left_all (InHome home k.next) k.copies s.0 inv.entries))
  effect_homed (Begins name level) may go = (home, comes_homed home k.catalog k.owners k.copies k.next inv k.next_owner level)
  effect_homed (Associates s association) may go = (home, inv)
  effect_homed (Ends s n failed) may go = (home, loosened (λ t session body. is_session s t))
  effect_homed (Keeps s copies) may go = (home, with_copies home k.catalog k.owners k.copies k.next inv (insert k.copies s.0 copies) (put_all (InHome home k.next) k.copies s.0 copies go inv.entries))
  effect_homed (Steps n s step asked) may go =
      let is = step_is S k.catalog may.owner (copies_of k s) asked in
      let is_step : IsStepOf S k.catalog may.owner step = subst (IsStepOf S k.catalog may.owner) (sym may.taken) is.0 in
      let op : step.op ≡ asked.op = ap (λ (t : Step). t.op) may.taken ∙ is.1 in
      let takes : TakesNext k.next step.op = subst (TakesNext k.next) (sym op) may.serial in
      (home_after step.op home, subst (λ owners. Homed (home_after step.op home) k.catalog owners (copies_after k n s step asked) (next_after k.next step.op)) (sym (with_there k.owners n.0 (stepped step) may.owner may.there)) (step_homed n s step asked takes may.owner may.there is_step))
  effect_homed (Commits n) may go = (
    home,
    subst (λ (j : Kept). Homed home (without_transaction_of j n).catalog (without_transaction_of j n).owners (without_transaction_of j n).copies (without_transaction_of j n).next) (sym (settled_there k n may.owner may.there))
        (settles_homed home k.catalog k.owners (detached k.owners k.sessions (λ s session body. is_in n session) (detached k.owners k.sessions (is_settled n (net k.catalog may.owner)) k.copies)) k.next
        (with_copies home k.catalog k.owners k.copies k.next inv (detached k.owners k.sessions (λ s session body. is_in n session) (detached k.owners k.sessions (is_settled n (net k.catalog may.owner)) k.copies))
        (detached_all (InHome home k.next) k.owners k.sessions (λ s session body. is_in n session) (detached k.owners k.sessions (is_settled n (net k.catalog may.owner)) k.copies)
        (detached_all (InHome home k.next) k.owners k.sessions (is_settled n (net k.catalog may.owner)) k.copies inv.entries))) n.0 may.owner may.there),
  )
  effect_homed (Flushes n) may go = (
    home,
    subst (λ (j : Kept). Homed home (emptied j n).catalog (emptied j n).owners (emptied j n).copies (emptied j n).next) (sym (settled_there k n may.owner may.there))
        (subst (λ owners. Homed home (over k.catalog (net k.catalog may.owner)) owners (detached k.owners k.sessions (is_settled n (net k.catalog may.owner)) k.copies) k.next) (put_again k.owners n.0 (new_owner may.owner.level) ∙ sym (with_there k.owners n.0 (λ owner. new_owner owner.level) may.owner may.there))
        (comes_homed home (over k.catalog (net k.catalog may.owner)) (remove k.owners n.0) (detached k.owners k.sessions (is_settled n (net k.catalog may.owner)) k.copies) k.next
        (settles_homed home k.catalog k.owners (detached k.owners k.sessions (is_settled n (net k.catalog may.owner)) k.copies) k.next (loosened (is_settled n (net k.catalog may.owner))) n.0 may.owner may.there) n.0 may.owner.level)),
  )
  effect_homed (RollsBack n) may go = (home, leaves_homed home k.catalog k.owners (detached k.owners k.sessions (λ s session body. is_in n session) k.copies) k.next (loosened (λ s session body. is_in n session)) n.0)

-- ---- runs

abbrev SomeHome : Kept → Type 0
SomeHome k = (home : ℕ → ℕ) × Homed home k.catalog k.owners k.copies k.next

module _ (S : Schema) (limits : Limits) where
  turn_homed : (q : Machine) (x : Said) → IsSound S q.kept → SomeHome q.kept → IsSound S (turn S limits q x).kept × SomeHome (turn S limits q x).kept
  turn_homed q Silent sound h = (sound, h)
  turn_homed q (Wrong column) sound h = (sound, h)
  turn_homed q (Says command) sound h =
      (command_sound S limits q.kept command sound, effect_homed S limits h.0 q.kept sound h.1 (decision S limits q.kept command).effect (decision_right S limits q.kept command) (goes S limits q.kept (InHome h.0 q.kept.next) h.1.entries command))

  run_homed : (lines : List Said) (q : Machine) → IsSound S q.kept → SomeHome q.kept → SomeHome (run S limits q lines).kept
  run_homed [] q sound h = h
  run_homed (x ∷ lines) q sound h = (let next = turn_homed q x sound h in run_homed lines (turn S limits q x) next.0 next.1)

pub homed_agree : (k : Kept) → SomeHome k → HomesAgree k
homed_agree k h = record {
  home = h.0;
  catalog = h.1.catalog;
  views = λ n owner s x there. h.1.views n owner there s x;
  own = λ t n copies e values there at stand. subst (StandFrom (InHome h.0 k.next) e.pid) stand (found_from (InHome h.0 k.next) (λ e. e.number == n) copies.entries e (h.1.entries t copies there) at);
}

pub always_agree : HomesAlwaysAgree
always_agree S limits M next lines unique none = homed_agree (run S limits (first M next) lines).kept (run_homed S limits lines (first M next) (first_sound S M next unique none) (
  home,
  record {
    catalog = λ s x there. ap (λ (o : Option Object). given o 0 (λ x. x.home.0)) (sym there);
    views = λ n owner e. absurd (none_some (sym (get-empty {X = Owner} nat_cmp n) ∙ e));
    entries = λ s copies e. absurd (none_some (sym (get-empty {X = Copies} nat_cmp s) ∙ e));
  },
))
  where
    home : ℕ → ℕ
    home s = given (get M s) 0 (λ x. x.home.0)
