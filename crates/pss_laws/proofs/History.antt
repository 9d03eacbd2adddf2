-- The history is serial, and reads are own or last, turn by turn.
use Rattle.std.proofs.Common.{◌≡◌, ℕ, ◌≤◌, Bool, true, false, List, [], ◌∷◌, ◌++◌, length, Option, Some, None, refl, sym, ap, subst, ◌∙◌, inl, inr, arith}
use Rattle.std.specs.Prelude.{take, unwrap_or, if◌then◌else◌}
use Rattle.std.proofs.lemmas.List.{take-append-le, take_all}
use Rattle.std.specs.FinMap.{get, insert, remove, get-empty}
use Rattle.std.specs.Ordering.{nat_cmp}
use Rattle.pss_base.specs.declared.owner.OwnerNo.{OwnerNo}
use Rattle.type_layout.specs.declared.schema.Schema.{Schema}
use Rattle.type_layout.specs.Sound.{IsSoundSchema}
use Rattle.type_layout.specs.Schemas.{given}
use Rattle.pss_catalog.specs.Catalog.{Catalog, IsUnique}
use Rattle.pss_catalog.specs.Changes.{Change, over}
use Rattle.pss_machine.specs.declared.limits.Limits.{Limits}
use Rattle.pss_machine.specs.declared.level.Level.{Level}
use Rattle.pss_machine.specs.declared.level.Level.TheVariants.{Serializable, ReadCommitted, Basic}
use Rattle.pss_machine.specs.Alone.{alone}
use Rattle.pss_machine.specs.Changes.{listed}
use Rattle.pss_machine.specs.Needs.{needs}
use Rattle.pss_machine.specs.Owners.{Owner, Owners, new_owner, is_basic, view, net, Step, step_on_view, stepped}
use Rattle.pss_machine.specs.Kept.{Kept, copies_of}
use Rattle.pss_machine.specs.Effects.{Effect, Stays, OpensBasic, OpensTransactional, ClosesBasic, ClosesTransactional, Begins, Associates, Ends, Holds as Seats, Steps, Commits, Flushes, RollsBack}
use Rattle.pss_machine.specs.Deciding.{decision}
use Rattle.pss_machine.specs.Moving.{new_title, joins, emptied, without_transaction_of, moved}
use Rattle.pss_machine.specs.Beside.{Member, Traced, Lists, steps_of, member_of, with_member, traced, with_step, with_settled, grown}
use Rattle.pss_machine.specs.Run.{Said, Silent, Says, Wrong, Machine, first, after, turn, run}
use Rattle.pss_machine.specs.Allowed.{May, IsStepOf}
use Rattle.pss_machine.specs.Owning.{IsToldBy, OwnersAreTold}
use Rattle.pss_machine.specs.Serial.{Serial, IsAsAlone, catalog_after, AllUnique, AnsweredAsCommitted, OwnOrLast}
use Rattle.pss_machine.proofs.Allowing.{decision_right, step_is}
use Rattle.pss_machine.proofs.Maps.{insert_here, insert_apart, remove_here, remove_apart}
use Rattle.pss_machine.proofs.Parting.{clash_back}
use Rattle.pss_machine.proofs.Running.{run_append}
use Rattle.pss_machine.proofs.Telling.{always_told}
use Rattle.pss_laws.specs.Operations.{AsksOfHomes}
use Rattle.pss_laws.specs.Sound.{NoneFrom, IsSoundOwner, IsSound}
use Rattle.pss_laws.specs.Asked.{StepsOfHomes}
use Rattle.pss_laws.proofs.Logic.{unlike}
use Rattle.pss_laws.proofs.Asking.{asks_of_homes}
use Rattle.pss_laws.proofs.Nets.{over_net}
use Rattle.pss_laws.proofs.Standing.{locked_alike}
use Rattle.pss_laws.proofs.Turns.{put_back, left_back, put_again, with_there, settled_there, command_sound, first_sound}
use Rattle.pss_laws.proofs.Replaying.{IsReplayed, Replays, replays_move, replays_answer, replays_more, steps_view, steps_locked}

-- a serializable owner's steps replay
abbrev pub Replaying : Schema → Catalog → Level → List Step → Type 0
Replaying S M Serializable steps = Replays S M steps
Replaying S M ReadCommitted steps = Unit {0}
Replaying S M Basic steps = Unit {0}

abbrev pub Counted : ℕ → List Traced → Type 0
Counted n [] = Unit {0}
Counted n (e ∷ es) = (e.commits ≤ n) × Counted n es

pub record Listed (S : Schema) (start M : Catalog) (owners : Owners) (lists : Lists) : Type 0 where
  pub replays : (n : ℕ) (owner : Owner) → get owners n ≡ Some owner → Replaying S M owner.level (steps_of lists n)
  pub now : catalog_after start lists.history ≡ M
  pub serial : Serial S start lists.history
  pub all_unique : AllUnique S start lists.history
  pub counted : Counted (length lists.history) lists.trace
  pub committed : OwnOrLast S start lists.history lists.trace

none_replays : (S : Schema) (M : Catalog) (level : Level) → Replaying S M level []
none_replays S M Serializable = tt
none_replays S M ReadCommitted = tt
none_replays S M Basic = tt

-- ---- steps by owner

abbrev Told : Owners → Lists → Type 0
Told owners lists = (n : ℕ) (owner : Owner) → get owners n ≡ Some owner → IsToldBy (steps_of lists n) owner

cleared : (lists : Lists) (n i : ℕ) → (i ≡ n → ⊥) → unwrap_or (get (remove lists.steps n) i) [] ≡ steps_of lists i
cleared lists n i other = ap (λ o. unwrap_or o []) (remove_apart lists.steps n i other)

gone : (lists : Lists) (n i : ℕ) → i ≡ n → unwrap_or (get (remove lists.steps n) i) [] ≡ []
gone lists n i same = ap (λ o. unwrap_or o []) (ap (get (remove lists.steps n)) same ∙ remove_here lists.steps n)

written : (lists : Lists) (n i : ℕ) (steps : List Step) → i ≡ n → unwrap_or (get (insert lists.steps n steps) i) [] ≡ steps
written lists n i steps same = ap (λ o. unwrap_or o []) (ap (get (insert lists.steps n steps)) same ∙ insert_here lists.steps n steps)

passed : (lists : Lists) (n i : ℕ) (steps : List Step) → (i ≡ n → ⊥) → unwrap_or (get (insert lists.steps n steps) i) [] ≡ steps_of lists i
passed lists n i steps other = ap (λ o. unwrap_or o []) (insert_apart lists.steps n steps i other)

-- ---- what grows

module _ (S : Schema) (start : Catalog) where
  serial_more : (M : Catalog) (history : List Member) (x : Member) → Serial S M history → IsAsAlone S (catalog_after M history) x x.level → Serial S M (history ++ x ∷ [])
  serial_more M [] x h here = (here, tt)
  serial_more M (y ∷ history) x h here = (h.0, serial_more (over M y.changes) history x h.1 here)

  unique_more : (M : Catalog) (history : List Member) (x : Member) → AllUnique S M history → IsUnique S (over (catalog_after M history) x.changes) → AllUnique S M (history ++ x ∷ [])
  unique_more M [] x h here = (h, here)
  unique_more M (y ∷ history) x h here = (h.0, unique_more (over M y.changes) history x h.1 here)

  after_more : (M : Catalog) (history : List Member) (x : Member) → catalog_after M (history ++ x ∷ []) ≡ over (catalog_after M history) x.changes
  after_more M [] x = refl
  after_more M (y ∷ history) x = after_more (over M y.changes) history x

  counted_more : (n m : ℕ) (es : List Traced) → n ≤ m → Counted n es → Counted m es
  counted_more n m [] le h = tt
  counted_more n m (e ∷ es) le h = (let here : e.commits ≤ n = h.0 in omega arith, counted_more n m es le h.1)

  counted_append : (n : ℕ) (es : List Traced) (e : Traced) → Counted n es → e.commits ≤ n → Counted n (es ++ e ∷ [])
  counted_append n [] e h le = (le, tt)
  counted_append n (x ∷ es) e h le = (h.0, counted_append n es e h.1 le)

  answered_more : (history : List Member) (x : Member) (e : Traced) (level : Level) → e.commits ≤ length history → AnsweredAsCommitted S start history e level → AnsweredAsCommitted S start (history ++ x ∷ []) e level
  answered_more history x e ReadCommitted le h = h ∙ ap (λ (g : List Member). (alone S (over (catalog_after start g) e.before) e.op).answer) (sym (take-append-le e.commits history (x ∷ []) le))
  answered_more history x e Serializable le h = tt
  answered_more history x e Basic le h = tt

  committed_more : (history : List Member) (x : Member) (es : List Traced) → Counted (length history) es → OwnOrLast S start history es → OwnOrLast S start (history ++ x ∷ []) es
  committed_more history x [] n h = tt
  committed_more history x (e ∷ es) n h = (answered_more history x e e.level n.0 h.0, committed_more history x es n.1 h.1)

  committed_append : (history : List Member) (es : List Traced) (e : Traced) → OwnOrLast S start history es → AnsweredAsCommitted S start history e e.level → OwnOrLast S start history (es ++ e ∷ [])
  committed_append history [] e h here = (here, tt)
  committed_append history (x ∷ es) e h here = (h.0, committed_append history es e h.1 here)

  length_more : (history : List Member) (x : Member) → length history ≤ length (history ++ x ∷ [])
  length_more [] x = omega arith
  length_more (y ∷ history) x = (let rest = length_more history x in omega arith)

  no_net : (level : Level) (cs : List Change) → joins level cs ≡ false → cs ≡ []
  no_net Serializable cs e = absurd cc
  no_net ReadCommitted [] e = refl
  no_net ReadCommitted (c ∷ cs) e = absurd cc
  no_net Basic [] e = refl
  no_net Basic (c ∷ cs) e = absurd cc

  -- ---- what effects leave

  module _ (M : Catalog) (owners : Owners) (lists : Lists) (inv : Listed S start M owners lists) where
    comes_listed : (n : ℕ) (level : Level) → steps_of lists n ≡ [] → Listed S start M (insert owners n (new_owner level)) lists
    comes_listed n level none = record { replays = replays; now = inv.now; serial = inv.serial; all_unique = inv.all_unique; counted = inv.counted; committed = inv.committed }
      where
        new_replays : Replaying S M (new_owner level).level (steps_of lists n)
        new_replays = subst (Replaying S M level) (sym none) (none_replays S M level)

        replays : (i : ℕ) (owner : Owner) → get (insert owners n (new_owner level)) i ≡ Some owner → Replaying S M owner.level (steps_of lists i)
        replays i owner e =
            elim (put_back owners n (new_owner level) i owner e) [
              | inl p ↦ subst (λ (j : ℕ). Replaying S M owner.level (steps_of lists j)) (sym p.0) (subst (λ (x : Owner). Replaying S M x.level (steps_of lists n)) p.1 new_replays)
              | inr p ↦ inv.replays i owner p.1
            ]

    leaves_listed : (n : ℕ) → Listed S start M (remove owners n) (record { steps = remove lists.steps n; history = lists.history; trace = lists.trace })
    leaves_listed n = record { replays = replays; now = inv.now; serial = inv.serial; all_unique = inv.all_unique; counted = inv.counted; committed = inv.committed }
      where
        replays : (i : ℕ) (owner : Owner) → get (remove owners n) i ≡ Some owner → Replaying S M owner.level (unwrap_or (get (remove lists.steps n) i) [])
        replays i owner e = (let back = left_back owners n i owner e in subst (Replaying S M owner.level) (sym (cleared lists n i back.0)) (inv.replays i owner back.1))

    steps_listed : (n : OwnerNo) (owner : Owner) (step : Step) → get owners n.0 ≡ Some owner → IsToldBy (steps_of lists n.0) owner
        → (owner.level ≡ Serializable → IsReplayed S (view M owner) step) → (owner.level ≡ ReadCommitted → step.answer ≡ (alone S (view M owner) step.op).answer)
        → Listed S start M (insert owners n.0 (stepped step owner)) (record { steps = insert lists.steps n.0 (steps_of lists n.0 ++ step ∷ []); history = lists.history; trace = lists.trace ++ traced lists n owner step ∷ [] })
    steps_listed n owner step there told again current = record {
      replays = replays;
      now = inv.now;
      serial = inv.serial;
      all_unique = inv.all_unique;
      counted = counted_append (length lists.history) lists.trace (traced lists n owner step) inv.counted (omega arith);
      committed = committed_append lists.history lists.trace (traced lists n owner step) inv.committed (answered owner.level refl);
    }
      where
        same_view : (alone S (view M owner) step.op).answer ≡ (alone S (over (catalog_after start (take (length lists.history) lists.history)) (listed owner.changes)) step.op).answer
        same_view = ap (λ (N : Catalog). (alone S (over N (listed owner.changes)) step.op).answer) (sym inv.now ∙ ap (catalog_after start) (sym (take_all (length lists.history) lists.history (omega arith))))

        answered : (level : Level) → owner.level ≡ level → AnsweredAsCommitted S start lists.history (traced lists n owner step) level
        answered ReadCommitted e = current e ∙ same_view
        answered Serializable e = tt
        answered Basic e = tt

        more : (level : Level) → owner.level ≡ level → Replaying S M level (steps_of lists n.0) → Replaying S M level (steps_of lists n.0 ++ step ∷ [])
        more Serializable e h = replays_more S (steps_of lists n.0) M step h (subst (λ (N : Catalog). IsReplayed S N step) (sym (steps_view owner (steps_of lists n.0) told M)) (again e))
        more ReadCommitted e h = tt
        more Basic e h = tt

        own_replays : Replaying S M (stepped step owner).level (steps_of lists n.0 ++ step ∷ [])
        own_replays = more owner.level refl (inv.replays n.0 owner there)

        replays : (i : ℕ) (x : Owner) → get (insert owners n.0 (stepped step owner)) i ≡ Some x → Replaying S M x.level (unwrap_or (get (insert lists.steps n.0 (steps_of lists n.0 ++ step ∷ [])) i) [])
        replays i x e =
            elim (put_back owners n.0 (stepped step owner) i x e) [
              | inl p ↦ subst (Replaying S M x.level) (sym (written lists n.0 i (steps_of lists n.0 ++ step ∷ []) p.0)) (subst (λ (y : Owner). Replaying S M y.level (steps_of lists n.0 ++ step ∷ [])) p.1 own_replays)
              | inr p ↦ subst (Replaying S M x.level) (sym (passed lists n.0 i (steps_of lists n.0 ++ step ∷ []) p.0)) (inv.replays i x p.1)
            ]

-- ---- commits

module _ (S : Schema) (start : Catalog) (k : Kept) (lists : Lists) (n : OwnerNo) (owner : Owner) (sound : IsSound S k) (told : Told k.owners lists) (there : get k.owners n.0 ≡ Some owner) (inv : Listed S start k.catalog k.owners lists) where
  by : IsSoundOwner S k.catalog k.next owner
  by = sound.each n.0 owner there

  -- another owner's steps replay from what is committed
  moves : (i : ℕ) (x : Owner) → get k.owners i ≡ Some x → (i ≡ n.0 → ⊥) → (level : Level) → Replaying S k.catalog level (steps_of lists i) → Replaying S (view k.catalog owner) level (steps_of lists i)
  moves i x at other Serializable h =
      replays_move S (steps_of lists i) k.catalog (view k.catalog owner) sound.unique by.unique
      (λ need among. locked_alike S k.catalog k.next owner by need (λ y has. clash_back y need ∙ sound.apart i n.0 x owner need y at there other (steps_locked x (steps_of lists i) (told i x at) need among) has)) h
  moves i x at other ReadCommitted h = tt
  moves i x at other Basic h = tt

  replays_left : (i : ℕ) (x : Owner) → get (remove k.owners n.0) i ≡ Some x → Replaying S (view k.catalog owner) x.level (unwrap_or (get (remove lists.steps n.0) i) [])
  replays_left i x e = (let back = left_back k.owners n.0 i x e in subst (Replaying S (view k.catalog owner) x.level) (sym (cleared lists n.0 i back.0)) (moves i x back.1 back.0 x.level (inv.replays i x back.1)))

  as_alone : (level : Level) → Replaying S k.catalog level (steps_of lists n.0) → IsAsAlone S k.catalog (member_of k lists n owner) level
  as_alone Serializable h =
      let owed = replays_answer S (steps_of lists n.0) k.catalog h in
      (owed.0, owed.1 ∙ steps_view owner (steps_of lists n.0) (told n.0 owner there) k.catalog ∙ sym (over_net k.catalog owner))
  as_alone ReadCommitted h = tt
  as_alone Basic h = tt

  abbrev left_lists : List Member → Lists
  left_lists history = record { steps = remove lists.steps n.0; history = history; trace = lists.trace }

  with_history : (history : List Member) → catalog_after start history ≡ view k.catalog owner → Serial S start history → AllUnique S start history → Counted (length history) lists.trace → OwnOrLast S start history lists.trace
      → Listed S start (view k.catalog owner) (remove k.owners n.0) (left_lists history)
  with_history history now serial all_unique counted committed = record { replays = replays_left; now = now; serial = serial; all_unique = all_unique; counted = counted; committed = committed }

  by_joins : (b : Bool) → joins owner.level (net k.catalog owner) ≡ b
      → Listed S start (view k.catalog owner) (remove k.owners n.0) (left_lists (if b then lists.history ++ member_of k lists n owner ∷ [] else lists.history))
  by_joins true e =
      with_history (lists.history ++ member_of k lists n owner ∷ [])
      (after_more S start start lists.history (member_of k lists n owner) ∙ ap (λ (M : Catalog). over M (net k.catalog owner)) inv.now ∙ over_net k.catalog owner)
      (serial_more S start start lists.history (member_of k lists n owner) inv.serial (subst (λ (M : Catalog). IsAsAlone S M (member_of k lists n owner) owner.level) (sym inv.now) (as_alone owner.level (inv.replays n.0 owner there))))
      (unique_more S start start lists.history (member_of k lists n owner) inv.all_unique (subst (λ (M : Catalog). IsUnique S (over M (net k.catalog owner))) (sym inv.now) (subst (IsUnique S) (sym (over_net k.catalog owner)) by.unique)))
      (counted_more S start (length lists.history) (length (lists.history ++ member_of k lists n owner ∷ [])) lists.trace (length_more S start lists.history (member_of k lists n owner)) inv.counted)
      (committed_more S start lists.history (member_of k lists n owner) lists.trace inv.counted inv.committed)
  by_joins false e =
      with_history lists.history
      (inv.now ∙ ap (over k.catalog) (sym (no_net S start owner.level (net k.catalog owner) e)) ∙ over_net k.catalog owner)
      inv.serial inv.all_unique inv.counted inv.committed

  settled_listed : Listed S start (over k.catalog (net k.catalog owner)) (remove k.owners n.0) (left_lists (with_member lists.history (member_of k lists n owner)))
  settled_listed = subst (λ (M : Catalog). Listed S start M (remove k.owners n.0) (left_lists (with_member lists.history (member_of k lists n owner)))) (sym (over_net k.catalog owner)) (by_joins (joins owner.level (net k.catalog owner)) refl)

-- ---- effects

-- a step of the owner that is no basic one is of its view
viewed : (S : Schema) (M : Catalog) (owner : Owner) (step : Step) → IsStepOf S M owner step → is_basic owner.level ≡ false → step ≡ step_on_view S M owner step.op
viewed S M owner step (inl e) basic = e
viewed S M owner step (inr from) basic = unlike (sym basic ∙ from.0)

replayed : (S : Schema) (M : Catalog) (owner : Owner) (step : Step) → step ≡ step_on_view S M owner step.op → AsksOfHomes S step.op → owner.level ≡ Serializable → IsReplayed S (view M owner) step
replayed S M owner step e homes level = record {
  homes = homes;
  does = λ i. record { changes = (sym e i).own; answer = (sym e i).answer };
  needs = ap (λ (l : Level). needs S l (view M owner) step.op) (sym level) ∙ ap (λ (s : Step). s.needs) (sym e);
}

-- steps are none where commands are none
no_steps : (q : Machine) (n : ℕ) (name : List ℕ) → OwnersAreTold q → get q.kept.titles n ≡ Some (new_title name) → steps_of q.lists n ≡ []
no_steps q n name told there = none (steps_of q.lists n) (told.commands n (new_title name) there)
  where
    none : (steps : List Step) → 0 ≡ length steps → steps ≡ []
    none [] e = refl
    none (x ∷ xs) e = absurd (omega arith)

pub with_step_there : (k : Kept) (lists : Lists) (n : OwnerNo) (step : Step) (owner : Owner) → get k.owners n.0 ≡ Some owner
    → with_step k lists n step ≡ record { steps = insert lists.steps n.0 (steps_of lists n.0 ++ step ∷ []); history = lists.history; trace = lists.trace ++ traced lists n owner step ∷ [] }
with_step_there k lists n step owner there =
    ap (λ (o : Option Owner). given o lists (λ owner. record { steps = insert lists.steps n.0 (steps_of lists n.0 ++ step ∷ []); history = lists.history; trace = lists.trace ++ traced lists n owner step ∷ [] })) there

pub with_settled_there : (k : Kept) (lists : Lists) (n : OwnerNo) (owner : Owner) → get k.owners n.0 ≡ Some owner
    → with_settled k lists n ≡ record { steps = remove lists.steps n.0; history = with_member lists.history (member_of k lists n owner); trace = lists.trace }
with_settled_there k lists n owner there =
    ap (λ (o : Option Owner). given o lists (λ owner. record { steps = remove lists.steps n.0; history = with_member lists.history (member_of k lists n owner); trace = lists.trace })) there

module _ (S : Schema) (limits : Limits) (start : Catalog) (q : Machine) (sound : IsSound S q.kept) (told : OwnersAreTold q) (inv : Listed S start q.kept.catalog q.kept.owners q.lists) where
  abbrev Goes : Effect → Type 0
  Goes effect = Listed S start (moved q.kept effect).catalog (moved q.kept effect).owners (grown q.kept q.lists effect)

  basic_not : (level : Level) → level ≡ Serializable → is_basic level ≡ false
  basic_not level e = ap is_basic e

  read_not : (level : Level) → level ≡ ReadCommitted → is_basic level ≡ false
  read_not level e = ap is_basic e

  effect_listed : (effect : Effect) → May S limits q.kept effect → StepsOfHomes S effect → OwnersAreTold (after q effect) → Goes effect
  effect_listed Stays may homes told_after = inv
  effect_listed (OpensBasic name access) may homes told_after =
      comes_listed S start q.kept.catalog q.kept.owners q.lists inv q.kept.next_owner Basic (no_steps (after q (OpensBasic name access)) q.kept.next_owner name told_after (insert_here q.kept.titles q.kept.next_owner (new_title name)))
  effect_listed (OpensTransactional name access) may homes told_after = inv
  effect_listed (ClosesBasic s n) may homes told_after = leaves_listed S start q.kept.catalog q.kept.owners q.lists inv n.0
  effect_listed (ClosesTransactional s) may homes told_after = inv
  effect_listed (Begins name level) may homes told_after =
      comes_listed S start q.kept.catalog q.kept.owners q.lists inv q.kept.next_owner level (no_steps (after q (Begins name level)) q.kept.next_owner name told_after (insert_here q.kept.titles q.kept.next_owner (new_title name)))
  effect_listed (Associates s association) may homes told_after = inv
  effect_listed (Ends s n failed) may homes told_after = inv
  effect_listed (Seats s copies) may homes told_after = inv
  effect_listed (Steps n s step asked) may homes told_after =
      let is = step_is S q.kept.catalog may.owner (copies_of q.kept s) asked in
      let is_step : IsStepOf S q.kept.catalog may.owner step = subst (IsStepOf S q.kept.catalog may.owner) (sym may.taken) is.0 in
      let op : step.op ≡ asked.op = ap (λ (t : Step). t.op) may.taken ∙ is.1 in
      let of_homes : AsksOfHomes S step.op = subst (AsksOfHomes S) (sym op) homes in
      subst (λ owners. Listed S start q.kept.catalog owners (with_step q.kept q.lists n step)) (sym (with_there q.kept.owners n.0 (stepped step) may.owner may.there))
      (subst (Listed S start q.kept.catalog (insert q.kept.owners n.0 (stepped step may.owner))) (sym (with_step_there q.kept q.lists n step may.owner may.there))
      (steps_listed S start q.kept.catalog q.kept.owners q.lists inv n may.owner step may.there (told.owners n.0 may.owner may.there)
      (λ level. replayed S q.kept.catalog may.owner step (viewed S q.kept.catalog may.owner step is_step (basic_not may.owner.level level)) of_homes level)
      (λ level. ap (λ (t : Step). t.answer) (viewed S q.kept.catalog may.owner step is_step (read_not may.owner.level level)))))
  effect_listed (Commits n) may homes told_after =
      subst (λ (j : Kept). Listed S start (without_transaction_of j n).catalog (without_transaction_of j n).owners (with_settled q.kept q.lists n)) (sym (settled_there q.kept n may.owner may.there))
      (subst (Listed S start (over q.kept.catalog (net q.kept.catalog may.owner)) (remove q.kept.owners n.0)) (sym (with_settled_there q.kept q.lists n may.owner may.there))
      (settled_listed S start q.kept q.lists n may.owner sound told.owners may.there inv))
  effect_listed (Flushes n) may homes told_after =
      subst (λ (j : Kept). Listed S start (emptied j n).catalog (emptied j n).owners (with_settled q.kept q.lists n)) (sym (settled_there q.kept n may.owner may.there))
      (subst (λ owners. Listed S start (over q.kept.catalog (net q.kept.catalog may.owner)) owners (with_settled q.kept q.lists n)) (put_again q.kept.owners n.0 (new_owner may.owner.level) ∙ sym (with_there q.kept.owners n.0 (λ owner. new_owner owner.level) may.owner may.there))
      (subst (Listed S start (over q.kept.catalog (net q.kept.catalog may.owner)) (insert (remove q.kept.owners n.0) n.0 (new_owner may.owner.level))) (sym (with_settled_there q.kept q.lists n may.owner may.there))
      (comes_listed S start (over q.kept.catalog (net q.kept.catalog may.owner)) (remove q.kept.owners n.0) _ (settled_listed S start q.kept q.lists n may.owner sound told.owners may.there inv) n.0 may.owner.level (gone q.lists n.0 n.0 refl))))
  effect_listed (RollsBack n) may homes told_after = leaves_listed S start q.kept.catalog q.kept.owners q.lists inv n.0

-- ---- runs

pub record Standing (S : Schema) (start : Catalog) (q : Machine) : Type 0 where
  pub sound : IsSound S q.kept
  pub listed : Listed S start q.kept.catalog q.kept.owners q.lists

module _ (S : Schema) (sound_schema : IsSoundSchema S) (limits : Limits) (start : Catalog) where
  turn_standing : (q : Machine) (x : Said) → OwnersAreTold q → OwnersAreTold (turn S limits q x) → Standing S start q → Standing S start (turn S limits q x)
  turn_standing q Silent told told_after h = h
  turn_standing q (Wrong column) told told_after h = h
  turn_standing q (Says command) told told_after h = record {
    sound = command_sound S limits q.kept command h.sound;
    listed = effect_listed S limits start q h.sound told h.listed (decision S limits q.kept command).effect (decision_right S limits q.kept command) (asks_of_homes S limits q.kept sound_schema command) told_after;
  }

  -- over further lines, from where the first ones lead
  run_standing : (next : ℕ) (ys xs : List Said) → Standing S start (run S limits (first start next) ys) → Standing S start (run S limits (run S limits (first start next) ys) xs)
  run_standing next ys [] h = h
  run_standing next ys (x ∷ xs) h =
      let more : run S limits (first start next) (ys ++ x ∷ []) ≡ turn S limits (run S limits (first start next) ys) x = run_append S limits (first start next) ys (x ∷ []) in
      let told : OwnersAreTold (run S limits (first start next) ys) = always_told S limits start next ys in
      let told_after : OwnersAreTold (turn S limits (run S limits (first start next) ys) x) = subst OwnersAreTold more (always_told S limits start next (ys ++ x ∷ [])) in
      let here : Standing S start (turn S limits (run S limits (first start next) ys) x) = turn_standing (run S limits (first start next) ys) x told told_after h in
      subst (λ (q : Machine). Standing S start (run S limits q xs)) more (run_standing next (ys ++ x ∷ []) xs (subst (Standing S start) (sym more) here))

  pub each_run : (next : ℕ) (lines : List Said) → IsUnique S start → NoneFrom next start → Standing S start (run S limits (first start next) lines)
  each_run next lines unique none = run_standing next [] lines (record {
    sound = first_sound S start next unique none;
    listed = record { replays = λ n owner e. absurd (no owner (sym (get-empty nat_cmp n) ∙ e)); now = refl; serial = tt; all_unique = unique; counted = tt; committed = tt };
  })
    where
      no : (owner : Owner) → None ≡ Some owner → ⊥
      no owner e = cc
