-- Where values come from, turn by turn.
use Rattle.std.proofs.Common.{◌≡◌, ℕ, Bool, true, false, cond, ◌==◌, List, [], ◌∷◌, ◌++◌, Option, Some, None, refl, sym, ap, subst, ◌∙◌, inl, inr}
use Rattle.std.proofs.lemmas.Bool.{eq-eqb}
use Rattle.std.specs.Prelude.{◌⊎◌, if◌then◌else◌}
use Rattle.std.specs.Ordering.{nat_cmp}
use Rattle.std.specs.FinMap.{get, insert, remove, get-empty}
use Rattle.pss_base.specs.declared.pid.Pid.{Pid}
use Rattle.pss_base.specs.declared.owner.OwnerNo.{OwnerNo}
use Rattle.pss_base.specs.declared.session.SessionNo.{SessionNo}
use Rattle.type_layout.specs.declared.schema.Schema.{Schema}
use Rattle.type_layout.specs.Types.{PlainValue}
use Rattle.type_layout.specs.Schemas.{given}
use Rattle.pss_catalog.specs.Catalog.{Object, Catalog}
use Rattle.pss_catalog.specs.Changes.{over}
use Rattle.pss_machine.specs.declared.limits.Limits.{Limits}
use Rattle.pss_machine.specs.declared.level.Level.{Level}
use Rattle.pss_machine.specs.declared.level.Level.TheVariants.{Basic}
use Rattle.pss_machine.specs.Operations.{PlainAnswer}
use Rattle.pss_machine.specs.Changes.{listed}
use Rattle.pss_machine.specs.Maps.{with_at}
use Rattle.pss_machine.specs.Owners.{Owner, Owners, new_owner, is_basic, view, net, Step, step_on_view, stepped}
use Rattle.pss_machine.specs.Sessions.{Session, Sessions}
use Rattle.pss_machine.specs.Copies.{Copies, AllCopies, no_copies, detached, Body, values_at}
use Rattle.pss_machine.specs.Kept.{Kept, copies_of}
use Rattle.pss_machine.specs.Asking.{Asked}
use Rattle.pss_machine.specs.Effects.{Effect, Stays, OpensBasic, OpensTransactional, ClosesBasic, ClosesTransactional, Begins, Associates, Ends, Holds as Seats, Steps, Commits, Flushes, RollsBack}
use Rattle.pss_machine.specs.Stepping.{copied_values, told_by_copy, step_on_copy, copied_answer, step_of}
use Rattle.pss_machine.specs.Deciding.{decision}
use Rattle.pss_machine.specs.Moving.{emptied, without_transaction_of, is_outdated, is_settled, is_in, is_session, seen_in, owners_after, seated, copies_after, moved}
use Rattle.pss_machine.specs.Beside.{Traced, Lists, traced, with_step, with_settled, grown}
use Rattle.pss_machine.specs.Run.{Said, Silent, Says, Wrong, Machine, first, turn, run}
use Rattle.pss_machine.specs.Allowed.{May}
use Rattle.pss_machine.specs.Live.{IsLive, AreLive}
use Rattle.pss_machine.proofs.Allowing.{decision_right}
use Rattle.pss_laws.proofs.Nets.{view_stepped, view_new, over_net}
use Rattle.pss_laws.proofs.Turns.{put_back, left_back, put_again, with_there, settled_there}
use Rattle.pss_laws.proofs.History.{with_step_there, with_settled_there}
use Rattle.pss_laws.proofs.Stands.{EntriesFrom, AllFrom, seated_from, detached_all, with_all, put_all, left_all, one_of, weaker_entries}
use Rattle.pss_laws.proofs.Naming.{NamesIt, Goes, goes}
use Rattle.pss_laws.proofs.Living.{Sourced, ValuesGiven, given_more, sourced_more, copy_given, view_live, copy_live, leaves, live_append, over_sourced}

pub record Sourcing (start M : Catalog) (owners : Owners) (all : AllCopies) (trace : List Traced) : Type 0 where
  pub catalog : Sourced start trace M
  pub views : (n : ℕ) (owner : Owner) → get owners n ≡ Some owner → Sourced start trace (view M owner)
  pub entries : AllFrom (ValuesGiven start trace) all
  pub live : AreLive start [] trace

-- ---- what a step is

-- an answer from a copy
record FromCopy (M : Catalog) (owner : Owner) (copies : Copies) (asked : Asked) (step : Step) : Type 0 where
  values : List PlainValue
  answer : PlainAnswer
  copied : copied_values copies asked.entry ≡ Some values
  told : told_by_copy (view M owner) values asked.op ≡ Some answer
  is : step ≡ step_on_copy asked.op answer

step_cases : (S : Schema) (M : Catalog) (owner : Owner) (copies : Copies) (asked : Asked) → (step_of S M owner copies asked ≡ step_on_view S M owner asked.op) ⊎ FromCopy M owner copies asked (step_of S M owner copies asked)
step_cases S M owner copies asked = by_answer (copied_answer M owner copies asked) refl
  where
    by_values : (a : PlainAnswer) (o : Option (List PlainValue)) → copied_values copies asked.entry ≡ o → given o None (λ values. told_by_copy (view M owner) values asked.op) ≡ Some a → step_of S M owner copies asked ≡ step_on_copy asked.op a → FromCopy M owner copies asked (step_of S M owner copies asked)
    by_values a None copied told is = absurd cc
    by_values a (Some values) copied told is = record { values = values; answer = a; copied = copied; told = told; is = is }

    by_basic : (a : PlainAnswer) (b : Bool) → (if b then given (copied_values copies asked.entry) None (λ values. told_by_copy (view M owner) values asked.op) else None) ≡ Some a → step_of S M owner copies asked ≡ step_on_copy asked.op a → FromCopy M owner copies asked (step_of S M owner copies asked)
    by_basic a true told is = by_values a (copied_values copies asked.entry) refl told is
    by_basic a false told is = absurd cc

    by_answer : (o : Option PlainAnswer) → copied_answer M owner copies asked ≡ o → (step_of S M owner copies asked ≡ step_on_view S M owner asked.op) ⊎ FromCopy M owner copies asked (step_of S M owner copies asked)
    by_answer None e = inl (ap (λ (o : Option PlainAnswer). given o (step_on_view S M owner asked.op) (step_on_copy asked.op)) e)
    by_answer (Some a) e = inr (by_basic a (is_basic owner.level) e (ap (λ (o : Option PlainAnswer). given o (step_on_view S M owner asked.op) (step_on_copy asked.op)) e))

-- ---- what effects leave

module _ (S : Schema) (start M : Catalog) (owners : Owners) (copies : AllCopies) (trace : List Traced) (inv : Sourcing start M owners copies trace) where
  with_copies : (new : AllCopies) → AllFrom (ValuesGiven start trace) new → Sourcing start M owners new trace
  with_copies new from = record { catalog = inv.catalog; views = inv.views; entries = from; live = inv.live }

  comes_sourcing : (n : ℕ) (level : Level) → Sourcing start M (insert owners n (new_owner level)) copies trace
  comes_sourcing n level = record { catalog = inv.catalog; views = views; entries = inv.entries; live = inv.live }
    where
      views : (i : ℕ) (owner : Owner) → get (insert owners n (new_owner level)) i ≡ Some owner → Sourced start trace (view M owner)
      views i owner e =
          elim (put_back owners n (new_owner level) i owner e) [
            | inl p ↦ subst (λ (x : Owner). Sourced start trace (view M x)) p.1 (subst (Sourced start trace) (sym (view_new M level)) inv.catalog)
            | inr p ↦ inv.views i owner p.1
          ]

  leaves_sourcing : (n : ℕ) → Sourcing start M (remove owners n) copies trace
  leaves_sourcing n = record { catalog = inv.catalog; views = λ i owner e. inv.views i owner (left_back owners n i owner e).1; entries = inv.entries; live = inv.live }

  settles_sourcing : (n : ℕ) (owner : Owner) → get owners n ≡ Some owner → Sourcing start (over M (net M owner)) (remove owners n) copies trace
  settles_sourcing n owner there = record { catalog = here; views = views; entries = inv.entries; live = inv.live }
    where
      here : Sourced start trace (over M (net M owner))
      here = subst (Sourced start trace) (sym (over_net M owner)) (inv.views n owner there)

      views : (i : ℕ) (x : Owner) → get (remove owners n) i ≡ Some x → Sourced start trace (over (over M (net M owner)) (listed x.changes))
      views i x e = over_sourced start trace (over M (net M owner)) M (listed x.changes) here (inv.views i x (left_back owners n i x e).1)

  -- a step, by what it leaves and by where its answer comes from
  steps_sourcing : (n : ℕ) (owner : Owner) (step : Step) (e : Traced) (new : AllCopies) → get owners n ≡ Some owner → Sourced start (trace ++ e ∷ []) (over (view M owner) step.own) → IsLive start trace e.op e.answer
      → AllFrom (ValuesGiven start (trace ++ e ∷ [])) new → Sourcing start M (insert owners n (stepped step owner)) new (trace ++ e ∷ [])
  steps_sourcing n owner step e new there own live from = record { catalog = sourced_more start trace e M inv.catalog; views = views; entries = from; live = live_append start [] trace e inv.live live }
    where
      views : (i : ℕ) (x : Owner) → get (insert owners n (stepped step owner)) i ≡ Some x → Sourced start (trace ++ e ∷ []) (view M x)
      views i x f =
          elim (put_back owners n (stepped step owner) i x f) [
            | inl p ↦ subst (λ (y : Owner). Sourced start (trace ++ e ∷ []) (view M y)) p.1 (subst (Sourced start (trace ++ e ∷ [])) (sym (view_stepped M owner step)) own)
            | inr p ↦ sourced_more start trace e (view M x) (inv.views i x p.1)
          ]

  -- the entries after a step
  copies_more : (e : Traced) → AllFrom (ValuesGiven start (trace ++ e ∷ [])) copies
  copies_more e s one at = weaker_entries (ValuesGiven start trace) (ValuesGiven start (trace ++ e ∷ [])) (λ pid values h i v value. given_more start trace e pid i v (h i v value)) one.entries (inv.entries s one at)

module _ (S : Schema) (limits : Limits) (start : Catalog) (k : Kept) (lists : Lists) (inv : Sourcing start k.catalog k.owners k.copies lists.trace) where
  abbrev Leads : Effect → Type 0
  Leads effect = Sourcing start (moved k effect).catalog (moved k effect).owners (moved k effect).copies (grown k lists effect).trace

  step_leads : (n : OwnerNo) (s : SessionNo) (step : Step) (asked : Asked) (owner : Owner) → get k.owners n.0 ≡ Some owner → step ≡ step_of S k.catalog owner (copies_of k s) asked → NamesIt (copies_of k s) asked.op asked.entry
      → Sourcing start k.catalog (insert k.owners n.0 (stepped step owner)) (copies_after k n s step asked) (lists.trace ++ traced lists n owner step ∷ [])
  step_leads n s step asked owner there taken names =
      steps_sourcing S start k.catalog k.owners k.copies lists.trace inv n.0 owner step (traced lists n owner step) (copies_after k n s step asked) there (by_case (step_cases S k.catalog owner (copies_of k s) asked)) (live_by (step_cases S k.catalog owner (copies_of k s) asked)) from
    where
      before : Sourced start lists.trace (view k.catalog owner)
      before = inv.views n.0 owner there

      here : EntriesFrom (ValuesGiven start lists.trace) (copies_of k s).entries
      here = one_of (ValuesGiven start lists.trace) k.copies s.0 (get k.copies s.0) refl inv.entries

      on_view : step_of S k.catalog owner (copies_of k s) asked ≡ step_on_view S k.catalog owner asked.op → step ≡ step_on_view S k.catalog owner asked.op
      on_view is = taken ∙ is

      by_case : (step_of S k.catalog owner (copies_of k s) asked ≡ step_on_view S k.catalog owner asked.op) ⊎ FromCopy k.catalog owner (copies_of k s) asked (step_of S k.catalog owner (copies_of k s) asked)
          → Sourced start (lists.trace ++ traced lists n owner step ∷ []) (over (view k.catalog owner) step.own)
      by_case (inl is) =
          let one : step ≡ step_on_view S k.catalog owner asked.op = on_view is in
          subst (λ cs. Sourced start (lists.trace ++ traced lists n owner step ∷ []) (over (view k.catalog owner) cs)) (sym (ap (λ (t : Step). t.own) one))
          (leaves S start lists.trace (view k.catalog owner) before (traced lists n owner step) asked.op (ap (λ (t : Step). t.op) one) (ap (λ (t : Step). t.answer) one))
      by_case (inr from) =
          let one : step ≡ step_on_copy asked.op from.answer = taken ∙ from.is in
          subst (λ cs. Sourced start (lists.trace ++ traced lists n owner step ∷ []) (over (view k.catalog owner) cs)) (sym (ap (λ (t : Step). t.own) one)) (sourced_more start lists.trace (traced lists n owner step) (view k.catalog owner) before)

      live_by : (step_of S k.catalog owner (copies_of k s) asked ≡ step_on_view S k.catalog owner asked.op) ⊎ FromCopy k.catalog owner (copies_of k s) asked (step_of S k.catalog owner (copies_of k s) asked) → IsLive start lists.trace step.op step.answer
      live_by (inl is) =
          let one : step ≡ step_on_view S k.catalog owner asked.op = on_view is in
          subst (λ (t : Step). IsLive start lists.trace t.op t.answer) (sym one) (view_live S start lists.trace (view k.catalog owner) before asked.op)
      live_by (inr from) =
          let one : step ≡ step_on_copy asked.op from.answer = taken ∙ from.is in
          subst (λ (t : Step). IsLive start lists.trace t.op t.answer) (sym one) (copy_live S start lists.trace (view k.catalog owner) before (copies_of k s) asked from.values from.answer here names from.copied from.told)

      committed : (pid : Pid) (values : List PlainValue) → values_at k.catalog pid ≡ Some values → ValuesGiven start (lists.trace ++ traced lists n owner step ∷ []) pid values
      committed pid values there i v value = given_more start lists.trace (traced lists n owner step) pid i v (copy_given S start lists.trace k.catalog inv.catalog pid values there i v value)

      from : AllFrom (ValuesGiven start (lists.trace ++ traced lists n owner step ∷ [])) (copies_after k n s step asked)
      from =
          with_all (ValuesGiven start (lists.trace ++ traced lists n owner step ∷ [])) (detached k.owners k.sessions (is_outdated n step) k.copies) s.0 (seated k.catalog (seen_in (owners_after k n step) k.sessions s) asked step.answer)
          (λ copies one. seated_from (ValuesGiven start (lists.trace ++ traced lists n owner step ∷ [])) k.catalog committed (seen_in (owners_after k n step) k.sessions s) asked step.answer copies one)
          (detached_all (ValuesGiven start (lists.trace ++ traced lists n owner step ∷ [])) k.owners k.sessions (is_outdated n step) k.copies (copies_more S start k.catalog k.owners k.copies lists.trace inv (traced lists n owner step)))

  loosened : (owners : Owners) (sessions : Sessions) (test : SessionNo → Session → Body → Bool) → Sourcing start k.catalog k.owners (detached owners sessions test k.copies) lists.trace
  loosened owners sessions test = with_copies S start k.catalog k.owners k.copies lists.trace inv (detached owners sessions test k.copies) (detached_all (ValuesGiven start lists.trace) owners sessions test k.copies inv.entries)

  effect_leads : (effect : Effect) → May S limits k effect → Goes S limits k (ValuesGiven start lists.trace) inv.entries effect → Leads effect
  effect_leads Stays may go = inv
  effect_leads (OpensBasic name access) may go =
      comes_sourcing S start k.catalog k.owners (insert k.copies k.next_session no_copies) lists.trace
      (with_copies S start k.catalog k.owners k.copies lists.trace inv (insert k.copies k.next_session no_copies) (put_all (ValuesGiven start lists.trace) k.copies k.next_session no_copies tt inv.entries)) k.next_owner Basic
  effect_leads (OpensTransactional name access) may go =
      with_copies S start k.catalog k.owners k.copies lists.trace inv (insert k.copies k.next_session no_copies) (put_all (ValuesGiven start lists.trace) k.copies k.next_session no_copies tt inv.entries)
  effect_leads (ClosesBasic s n) may go =
      leaves_sourcing S start k.catalog k.owners (remove k.copies s.0) lists.trace (with_copies S start k.catalog k.owners k.copies lists.trace inv (remove k.copies s.0) (left_all (ValuesGiven start lists.trace) k.copies s.0 inv.entries)) n.0
  effect_leads (ClosesTransactional s) may go = with_copies S start k.catalog k.owners k.copies lists.trace inv (remove k.copies s.0) (left_all (ValuesGiven start lists.trace) k.copies s.0 inv.entries)
  effect_leads (Begins name level) may go = comes_sourcing S start k.catalog k.owners k.copies lists.trace inv k.next_owner level
  effect_leads (Associates s association) may go = inv
  effect_leads (Ends s n failed) may go = loosened k.owners k.sessions (λ t session body. is_session s t)
  effect_leads (Seats s copies) may go = with_copies S start k.catalog k.owners k.copies lists.trace inv (insert k.copies s.0 copies) (put_all (ValuesGiven start lists.trace) k.copies s.0 copies go inv.entries)
  effect_leads (Steps n s step asked) may go =
      subst (λ owners. Sourcing start k.catalog owners (copies_after k n s step asked) (with_step k lists n step).trace) (sym (with_there k.owners n.0 (stepped step) may.owner may.there))
      (subst (λ (l : Lists). Sourcing start k.catalog (insert k.owners n.0 (stepped step may.owner)) (copies_after k n s step asked) l.trace) (sym (with_step_there k lists n step may.owner may.there))
      (step_leads n s step asked may.owner may.there may.taken go))
  effect_leads (Commits n) may go =
      subst (λ (j : Kept). Sourcing start (without_transaction_of j n).catalog (without_transaction_of j n).owners (without_transaction_of j n).copies (with_settled k lists n).trace) (sym (settled_there k n may.owner may.there))
      (subst (λ (l : Lists). Sourcing start (over k.catalog (net k.catalog may.owner)) (remove k.owners n.0) (detached k.owners k.sessions (λ s session body. is_in n session) (detached k.owners k.sessions (is_settled n (net k.catalog may.owner)) k.copies)) l.trace) (sym (with_settled_there k lists n may.owner may.there))
      (settles_sourcing S start k.catalog k.owners (detached k.owners k.sessions (λ s session body. is_in n session) (detached k.owners k.sessions (is_settled n (net k.catalog may.owner)) k.copies)) lists.trace
      (with_copies S start k.catalog k.owners k.copies lists.trace inv (detached k.owners k.sessions (λ s session body. is_in n session) (detached k.owners k.sessions (is_settled n (net k.catalog may.owner)) k.copies))
      (detached_all (ValuesGiven start lists.trace) k.owners k.sessions (λ s session body. is_in n session) (detached k.owners k.sessions (is_settled n (net k.catalog may.owner)) k.copies)
      (detached_all (ValuesGiven start lists.trace) k.owners k.sessions (is_settled n (net k.catalog may.owner)) k.copies inv.entries))) n.0 may.owner may.there))
  effect_leads (Flushes n) may go =
      subst (λ (j : Kept). Sourcing start (emptied j n).catalog (emptied j n).owners (emptied j n).copies (with_settled k lists n).trace) (sym (settled_there k n may.owner may.there))
      (subst (λ (l : Lists). Sourcing start (over k.catalog (net k.catalog may.owner)) (with_at k.owners n.0 (λ owner. new_owner owner.level)) (detached k.owners k.sessions (is_settled n (net k.catalog may.owner)) k.copies) l.trace) (sym (with_settled_there k lists n may.owner may.there))
      (subst (λ owners. Sourcing start (over k.catalog (net k.catalog may.owner)) owners (detached k.owners k.sessions (is_settled n (net k.catalog may.owner)) k.copies) lists.trace) (put_again k.owners n.0 (new_owner may.owner.level) ∙ sym (with_there k.owners n.0 (λ owner. new_owner owner.level) may.owner may.there))
      (comes_sourcing S start (over k.catalog (net k.catalog may.owner)) (remove k.owners n.0) (detached k.owners k.sessions (is_settled n (net k.catalog may.owner)) k.copies) lists.trace
      (settles_sourcing S start k.catalog k.owners (detached k.owners k.sessions (is_settled n (net k.catalog may.owner)) k.copies) lists.trace (loosened k.owners k.sessions (is_settled n (net k.catalog may.owner))) n.0 may.owner may.there) n.0 may.owner.level)))
  effect_leads (RollsBack n) may go =
      leaves_sourcing S start k.catalog k.owners (detached k.owners k.sessions (λ s session body. is_in n session) k.copies) lists.trace (loosened k.owners k.sessions (λ s session body. is_in n session)) n.0

-- ---- runs

module _ (S : Schema) (limits : Limits) (start : Catalog) where
  abbrev Sources : Machine → Type 0
  Sources q = Sourcing start q.kept.catalog q.kept.owners q.kept.copies q.lists.trace

  turn_sources : (q : Machine) (x : Said) → Sources q → Sources (turn S limits q x)
  turn_sources q Silent h = h
  turn_sources q (Wrong column) h = h
  turn_sources q (Says command) h =
      effect_leads S limits start q.kept q.lists h (decision S limits q.kept command).effect (decision_right S limits q.kept command) (goes S limits q.kept (ValuesGiven start q.lists.trace) h.entries command)

  run_sources : (lines : List Said) (q : Machine) → Sources q → Sources (run S limits q lines)
  run_sources [] q h = h
  run_sources (x ∷ lines) q h = run_sources lines (turn S limits q x) (turn_sources q x h)

start_sourced : (M : Catalog) → Sourced M [] M
start_sourced M t object i v there value = inl (object, (ap (λ (o : Option Object). given o None (λ x. if x.home.0 == object.home.0 then Some x else None)) there ∙ ap (λ (b : Bool). cond b (Some object) None) (eq-eqb object.home.0 object.home.0 refl)), value)

pub always_live : (S : Schema) (limits : Limits) (M : Catalog) (next : ℕ) (lines : List Said) → AreLive M [] (run S limits (first M next) lines).lists.trace
always_live S limits M next lines = (run_sources S limits M lines (first M next) (record { catalog = start_sourced M; views = λ n owner e. absurd (no_owner owner (sym (get-empty nat_cmp n) ∙ e)); entries = λ s copies e. absurd (no_copies_there copies (sym (get-empty nat_cmp s) ∙ e)); live = tt })).live
  where
    no_owner : (owner : Owner) → None ≡ Some owner → ⊥
    no_owner owner e = cc

    no_copies_there : (copies : Copies) → None ≡ Some copies → ⊥
    no_copies_there copies e = cc
