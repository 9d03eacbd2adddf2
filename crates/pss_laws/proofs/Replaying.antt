-- Steps that replay from a catalog: each answers, needs and changes by itself as it did.
use Rattle.std.proofs.Common.{◌≡◌, ℕ, true, List, [], ◌∷◌, ◌++◌, map, Option, Some, None, refl, sym, ap, subst, ◌∙◌, inl, inr}
use Rattle.std.specs.Prelude.{unwrap_or}
use Rattle.std.specs.Ordering.{nat_cmp}
use Rattle.std.specs.FinMap.{get, empty, get-empty}
use Rattle.std.specs.FinSet as set
use Rattle.type_layout.specs.declared.schema.Schema.{Schema}
use Rattle.type_layout.specs.Schemas.{given}
use Rattle.pss_catalog.specs.Catalog.{Object, Catalog, IsUnique}
use Rattle.pss_catalog.specs.Changes.{Change, over, last_state}
use Rattle.pss_catalog.proofs.Uniqueness.{found_over, over_both}
use Rattle.pss_machine.specs.declared.level.Level.TheVariants.{Serializable}
use Rattle.pss_machine.specs.declared.lock.Resource.{Resource}
use Rattle.pss_machine.specs.declared.lock.Mode.{Mode}
use Rattle.pss_machine.specs.declared.lock.Mode.TheVariants.{S as Read, M as Many, X as Write}
use Rattle.pss_machine.specs.declared.lock.Need.{Need}
use Rattle.pss_machine.specs.Alone.{Outcome, alone}
use Rattle.pss_machine.specs.Changes.{with_changes, listed}
use Rattle.pss_machine.specs.Needs.{needs}
use Rattle.pss_machine.specs.Owners.{Owner, view, Step}
use Rattle.pss_machine.specs.Beside.{answered_in}
use Rattle.pss_machine.specs.Owning.{needed, changed_by, IsToldBy}
use Rattle.pss_machine.specs.Serial.{after_alone, AnswerAlone}
use Rattle.pss_laws.specs.Alike.{AlikeIn, AllAlike}
use Rattle.pss_laws.specs.Within.{Among}
use Rattle.pss_laws.specs.Operations.{AsksOfHomes}
use Rattle.pss_laws.specs.Sound.{Holds}
use Rattle.pss_laws.proofs.Footprint.{among_left, among_right}
use Rattle.pss_laws.proofs.Unique.{stays_unique}
use Rattle.pss_laws.proofs.Answering.{answering}
use Rattle.pss_laws.proofs.Overs.{alike_after}
use Rattle.pss_laws.proofs.Nets.{last_listed, found_changes, same_over}
use Rattle.pss_laws.proofs.Locks.{listed_holds}

-- a step is that of its operation by itself
pub record IsReplayed (S : Schema) (M : Catalog) (step : Step) : Type 0 where
  pub homes : AsksOfHomes S step.op
  pub does : alone S M step.op ≡ record { changes = step.own; answer = step.answer }
  pub needs : needs S Serializable M step.op ≡ step.needs

abbrev pub Replays : Schema → Catalog → List Step → Type 0
Replays S M [] = Unit {0}
Replays S M (step ∷ steps) = IsReplayed S M step × Replays S (over M step.own) steps

module _ (S : Schema) where
  all_alike : (M N : Catalog) (xs : List Need) → ((x : Need) → Among xs x → AlikeIn S M N x.mode x.resource) → AllAlike S M N xs
  all_alike M N [] h = tt
  all_alike M N (x ∷ xs) h = (h x (inl refl), all_alike M N xs (λ y p. h y (inr p)))

  alike_in_after : (M N : Catalog) (cs : List Change) (mode : Mode) (r : Resource) → AlikeIn S M N mode r → AlikeIn S (over M cs) (over N cs) mode r
  alike_in_after M N cs Read r h = alike_after S M N cs r h
  alike_in_after M N cs Many r h = tt
  alike_in_after M N cs Write r h = alike_after S M N cs r h

  -- what is locked stays alike, so the steps replay from the later catalog
  pub replays_move : (steps : List Step) (M N : Catalog) → IsUnique S M → IsUnique S N → ((x : Need) → Among (needed steps) x → AlikeIn S M N x.mode x.resource) → Replays S M steps → Replays S N steps
  replays_move [] M N unique_m unique_n alike h = tt
  replays_move (step ∷ steps) M N unique_m unique_n alike h =
      let by : IsReplayed S M step = h.0 in
      let here : AllAlike S M N step.needs = all_alike M N step.needs (λ x p. alike x (among_left step.needs (needed steps) x p)) in
      let both = answering S M N unique_m unique_n step.op by.homes (subst (AllAlike S M N) (sym by.needs) here) in
      let again : alone S N step.op ≡ record { changes = step.own; answer = step.answer } = sym both.0 ∙ by.does in
      let unique_m_then : IsUnique S (over M step.own) = subst (λ (o : Outcome). IsUnique S (over M o.changes)) by.does (stays_unique S M step.op unique_m) in
      let unique_n_then : IsUnique S (over N step.own) = subst (λ (o : Outcome). IsUnique S (over N o.changes)) again (stays_unique S N step.op unique_n) in
      let rest = replays_move steps (over M step.own) (over N step.own) unique_m_then unique_n_then (λ x p. alike_in_after M N step.own x.mode x.resource (alike x (among_right step.needs (needed steps) x p))) h.1 in
      (record { homes = by.homes; does = again; needs = sym both.1 ∙ by.needs }, rest)

  -- what a member of the history owes
  pub replays_answer : (steps : List Step) (M : Catalog) → Replays S M steps → AnswerAlone S M (map answered_in steps) × (after_alone S M (map answered_in steps) ≡ over M (changed_by steps))
  replays_answer [] M h = (tt, refl)
  replays_answer (step ∷ steps) M h =
      let by : IsReplayed S M step = h.0 in
      let rest = replays_answer steps (over M step.own) h.1 in
      let to : over M step.own ≡ over M (alone S M step.op).changes = ap (λ (o : Outcome). over M o.changes) (sym by.does) in (
        (ap (λ (o : Outcome). o.answer) by.does, subst (λ (N : Catalog). AnswerAlone S N (map answered_in steps)) to rest.0),
        ap (λ (N : Catalog). after_alone S N (map answered_in steps)) (sym to) ∙ rest.1 ∙ sym (over_both M step.own (changed_by steps)),
      )

  pub replays_more : (steps : List Step) (M : Catalog) (step : Step) → Replays S M steps → IsReplayed S (over M (changed_by steps)) step → Replays S M (steps ++ step ∷ [])
  replays_more [] M step h last = (last, tt)
  replays_more (first ∷ steps) M step h last = (h.0, replays_more steps (over M first.own) step h.1 (subst (λ (N : Catalog). IsReplayed S N step) (over_both M first.own (changed_by steps)) last))

-- ---- an owner that is told by its steps

module _ (owner : Owner) (steps : List Step) (told : IsToldBy steps owner) where
  pub steps_view : (M : Catalog) → over M (changed_by steps) ≡ view M owner
  steps_view M = same_over _ _ (λ t.
      found_over M (changed_by steps) t
      ∙ by_last t (last_state (changed_by steps) t)
      ∙ ap (λ o. unwrap_or o (get M t)) (ap (λ o. given (last_state (changed_by steps) t) o Some) (sym (get-empty nat_cmp t)) ∙ sym (found_changes (changed_by steps) empty t) ∙ sym (last_listed (with_changes empty (changed_by steps)) t) ∙ ap (λ c. last_state (listed c) t) (sym told.changes))
      ∙ sym (found_over M (listed owner.changes) t))
    where
      by_last : (t : ℕ) (o : Option (Option Object)) → unwrap_or o (get M t) ≡ unwrap_or (given o None Some) (get M t)
      by_last t None = refl
      by_last t (Some x) = refl

  pub steps_locked : (x : Need) → Among (needed steps) x → Holds owner x
  steps_locked x h = subst (λ locks. set.contains locks x ≡ true) (sym told.locks) (listed_holds (needed steps) x h)
