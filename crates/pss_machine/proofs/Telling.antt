-- Each owner is told by its steps, turn by turn.
use Rattle.std.proofs.Common.{arith, ◌≡◌, ℕ, ◌+◌, ◌≤◌, Bool, List, [], ◌∷◌, ◌++◌, length, length-append, Option, Some, None, refl, sym, ap, ◌∙◌, inl, inr, subst}
use Rattle.std.specs.Prelude.{◌⊎◌, unwrap_or}
use Rattle.std.specs.Option.{option_map}
use Rattle.std.specs.List.{flat_map}
use Rattle.std.specs.Ordering.{nat_cmp}
use Rattle.std.specs.FinMap.{FinMap, get, insert, remove, empty, get-empty}
use Rattle.std.specs.FinSet as set
use Rattle.pss_base.specs.declared.owner.OwnerNo.{OwnerNo}
use Rattle.type_layout.specs.declared.schema.Schema.{Schema}
use Rattle.type_layout.specs.Schemas.{given}
use Rattle.pss_catalog.specs.Catalog.{Catalog}
use Rattle.pss_machine.specs.declared.limits.Limits.{Limits}
use Rattle.pss_machine.specs.declared.level.Level.{Level}
use Rattle.pss_machine.specs.declared.level.Level.TheVariants.{Basic}
use Rattle.pss_catalog.specs.Changes.{Change}
use Rattle.pss_machine.specs.Changes.{Changes, with_changes}
use Rattle.pss_machine.specs.Maps.{with_at}
use Rattle.pss_machine.specs.Owners.{Owner, Owners, new_owner, net, Step, stepped}
use Rattle.pss_machine.specs.Kept.{Kept, Title}
use Rattle.pss_machine.specs.Effects.{Effect, Stays, OpensBasic, OpensTransactional, ClosesBasic, ClosesTransactional, Begins, Associates, Ends, Holds, Steps, Commits, Flushes, RollsBack}
use Rattle.pss_machine.specs.Deciding.{decision}
use Rattle.pss_machine.specs.Moving.{moved, settled, with_commit, title_of, marked, one_more, unspent, new_title}
use Rattle.pss_machine.specs.Beside.{Lists, steps_of, traced, member_of, with_member, with_step, with_settled, grown}
use Rattle.pss_machine.specs.Run.{Said, Silent, Says, Wrong, Machine, first, turn, run}
use Rattle.pss_machine.specs.Allowed.{May}
use Rattle.pss_machine.specs.Owning.{needed, changed_by, IsToldBy, OwnersAreAlwaysTold}
use Rattle.pss_machine.proofs.Maps.{same_or_apart, insert_here, insert_apart, remove_here, remove_apart, with_here, with_apart}
use Rattle.pss_machine.proofs.NeedSets.{union_of_lists}
use Rattle.pss_machine.proofs.Allowing.{decision_right}

-- ---- one owner

append_empty : {A : Type 0} (xs : List A) → xs ++ [] ≡ xs
append_empty [] = refl
append_empty (x ∷ xs) = ap (λ ys. x ∷ ys) (append_empty xs)

append_assoc : {A : Type 0} (xs ys zs : List A) → (xs ++ ys) ++ zs ≡ xs ++ (ys ++ zs)
append_assoc [] ys zs = refl
append_assoc (x ∷ xs) ys zs = ap (λ zs. x ∷ zs) (append_assoc xs ys zs)

flat_more : {X A : Type 0} (f : X → List A) (xs : List X) (x : X) → flat_map f (xs ++ x ∷ []) ≡ flat_map f xs ++ f x
flat_more f [] x = append_empty (f x)
flat_more f (y ∷ xs) x = ap (λ ys. f y ++ ys) (flat_more f xs x) ∙ sym (append_assoc (f y) (flat_map f xs) (f x))

with_both : (changes : Changes) (cs ds : List Change) → with_changes changes (cs ++ ds) ≡ with_changes (with_changes changes cs) ds
with_both changes [] ds = refl
with_both changes (c ∷ cs) ds = with_both (insert changes c.serial c.state) cs ds

length_more : {A : Type 0} (xs : List A) (x : A) → length (xs ++ x ∷ []) ≡ length xs + 1
length_more xs x = grind (arith, length-append)

told_new : (level : Level) → IsToldBy [] (new_owner level)
told_new level = record { locks = refl; changes = refl }

told_more : (steps : List Step) (step : Step) (owner : Owner) → IsToldBy steps owner → IsToldBy (steps ++ step ∷ []) (stepped step owner)
told_more steps step owner told = record {
  locks = ap (λ locks. set.union locks (set.from_list step.needs)) told.locks ∙ union_of_lists (needed steps) step.needs ∙ ap set.from_list (sym (flat_more (λ s. s.needs) steps step));
  changes = ap (λ changes. with_changes changes step.own) told.changes ∙ sym (with_both empty (changed_by steps) step.own) ∙ ap (with_changes empty) (sym (flat_more (λ s. s.own) steps step));
}

-- ---- all owners

abbrev OwnerTold : List Step → Option Owner → Type 0
OwnerTold steps None = Unit {0}
OwnerTold steps (Some owner) = IsToldBy steps owner

abbrev TitleTold : List Step → Option Title → Type 0
TitleTold steps None = Unit {0}
TitleTold steps (Some title) = title.commands ≡ length steps

-- in one place of the maps
record ToldAt (steps : List Step) (owner : Option Owner) (title : Option Title) : Type 0 where
  of_owner : OwnerTold steps owner
  of_title : TitleTold steps title

-- nothing is there
record Vacant (steps : List Step) (owner : Option Owner) : Type 0 where
  no_owner : owner ≡ None
  no_steps : steps ≡ []

abbrev StepLists : Type 0
StepLists = FinMap nat_cmp (List Step)

abbrev at_place : StepLists → ℕ → List Step
at_place lists n = unwrap_or (get lists n) []

-- everywhere, and nothing from the next number on
record Told (owners : Owners) (titles : FinMap nat_cmp Title) (next : ℕ) (lists : StepLists) : Type 0 where
  at : (n : ℕ) → ToldAt (at_place lists n) (get owners n) (get titles n)
  later : (n : ℕ) → next ≤ n → Vacant (at_place lists n) (get owners n)

module _ (owners : Owners) (titles : FinMap nat_cmp Title) (next : ℕ) (lists : StepLists) (told : Told owners titles next lists) where
  arrives : (level : Level) (name : List ℕ) → Told (insert owners next (new_owner level)) (insert titles next (new_title name)) (next + 1) lists
  arrives level name = record { at = λ n. by_place n (same_or_apart n next); later = λ n le. still_vacant n le }
    where
      here : ToldAt (at_place lists next) (get (insert owners next (new_owner level)) next) (get (insert titles next (new_title name)) next)
      here =
          rw ((told.later next (omega arith)).no_steps, insert_here owners next (new_owner level), insert_here titles next (new_title name))
          (record { of_owner = told_new level; of_title = refl })

      by_place : (n : ℕ) → ((n ≡ next) ⊎ (n ≡ next → ⊥)) → ToldAt (at_place lists n) (get (insert owners next (new_owner level)) n) (get (insert titles next (new_title name)) n)
      by_place n (inl same) = rw same here
      by_place n (inr apart) = rw (insert_apart owners next (new_owner level) n apart, insert_apart titles next (new_title name) n apart) (told.at n)

      still_vacant : (n : ℕ) → next + 1 ≤ n → Vacant (at_place lists n) (get (insert owners next (new_owner level)) n)
      still_vacant n le = rw (insert_apart owners next (new_owner level) n (λ same. omega (arith, same))) (told.later n (omega arith))

  leaves : (n : ℕ) → Told (remove owners n) (remove titles n) next (remove lists n)
  leaves n = record { at = λ q. by_place q (same_or_apart q n); later = λ q le. by_later q le (same_or_apart q n) }
    where
      by_place : (q : ℕ) → ((q ≡ n) ⊎ (q ≡ n → ⊥)) → ToldAt (at_place (remove lists n) q) (get (remove owners n) q) (get (remove titles n) q)
      by_place q (inl same) = rw same (rw (remove_here owners n, remove_here titles n) (record { of_owner = tt; of_title = tt }))
      by_place q (inr apart) = rw (remove_apart owners n q apart, remove_apart titles n q apart, remove_apart lists n q apart) (told.at q)

      by_later : (q : ℕ) → next ≤ q → ((q ≡ n) ⊎ (q ≡ n → ⊥)) → Vacant (at_place (remove lists n) q) (get (remove owners n) q)
      by_later q le (inl same) = rw same (rw (remove_here owners n, remove_here lists n) (record { no_owner = refl; no_steps = refl }))
      by_later q le (inr apart) = rw (remove_apart owners n q apart, remove_apart lists n q apart) (told.later q le)

  marks : (n : ℕ) (failed : Bool) → Told owners (with_at titles n (marked failed)) next lists
  marks n failed = record { at = λ q. by_place q (same_or_apart q n); later = told.later }
    where
      by_title : (steps : List Step) (owner : Option Owner) (title : Option Title) → ToldAt steps owner title → ToldAt steps owner (option_map (marked failed) title)
      by_title steps owner None h = h
      by_title steps owner (Some title) h = record { of_owner = h.of_owner; of_title = h.of_title }

      by_place : (q : ℕ) → ((q ≡ n) ⊎ (q ≡ n → ⊥)) → ToldAt (at_place lists q) (get owners q) (get (with_at titles n (marked failed)) q)
      by_place q (inl same) = rw same (rw (with_here titles n (marked failed)) (by_title (at_place lists n) (get owners n) (get titles n) (told.at n)))
      by_place q (inr apart) = rw (with_apart titles n (marked failed) q apart) (told.at q)

  takes : (n : ℕ) (owner : Owner) (step : Step) → get owners n ≡ Some owner → Told (with_at owners n (stepped step)) (with_at titles n one_more) next (insert lists n (at_place lists n ++ step ∷ []))
  takes n owner step there = record { at = λ q. by_place q (same_or_apart q n); later = λ q le. by_later q le (same_or_apart q n) }
    where
      more : StepLists
      more = insert lists n (at_place lists n ++ step ∷ [])

      by_both : (o : Option Owner) (title : Option Title) → ToldAt (at_place lists n) o title → ToldAt (at_place lists n ++ step ∷ []) (option_map (stepped step) o) (option_map one_more title)
      by_both o title h = record { of_owner = by_owner o h.of_owner; of_title = by_title title h.of_title }
        where
          by_owner : (o : Option Owner) → OwnerTold (at_place lists n) o → OwnerTold (at_place lists n ++ step ∷ []) (option_map (stepped step) o)
          by_owner None h = tt
          by_owner (Some owner) h = told_more (at_place lists n) step owner h

          by_title : (title : Option Title) → TitleTold (at_place lists n) title → TitleTold (at_place lists n ++ step ∷ []) (option_map one_more title)
          by_title None h = tt
          by_title (Some title) h = ap (λ c. c + 1) h ∙ sym (length_more (at_place lists n) step)

      by_place : (q : ℕ) → ((q ≡ n) ⊎ (q ≡ n → ⊥)) → ToldAt (at_place (insert lists n (at_place lists n ++ step ∷ [])) q) (get (with_at owners n (stepped step)) q) (get (with_at titles n one_more) q)
      by_place q (inl same) =
          rw same
          (rw (with_here owners n (stepped step), with_here titles n one_more, insert_here lists n (at_place lists n ++ step ∷ [])) (by_both (get owners n) (get titles n) (told.at n)))
      by_place q (inr apart) =
          rw (with_apart owners n (stepped step) q apart, with_apart titles n one_more q apart, insert_apart lists n (at_place lists n ++ step ∷ []) q apart) (told.at q)

      by_later : (q : ℕ) → next ≤ q → ((q ≡ n) ⊎ (q ≡ n → ⊥)) → Vacant (at_place (insert lists n (at_place lists n ++ step ∷ [])) q) (get (with_at owners n (stepped step)) q)
      by_later q le (inl same) = absurd (none_some (sym (told.later q le).no_owner ∙ ap (get owners) same ∙ there))
        where
          none_some : None ≡ Some owner → ⊥
          none_some e = cc
      by_later q le (inr apart) = rw (with_apart owners n (stepped step) q apart, insert_apart lists n (at_place lists n ++ step ∷ []) q apart) (told.later q le)

  empties : (n : ℕ) → Told (with_at owners n (λ owner. new_owner owner.level)) (with_at titles n unspent) next (remove lists n)
  empties n = record { at = λ q. by_place q (same_or_apart q n); later = λ q le. by_later q le (same_or_apart q n) }
    where
      by_both : (o : Option Owner) (title : Option Title) → ToldAt [] (option_map (λ owner. new_owner owner.level) o) (option_map unspent title)
      by_both None None = record { of_owner = tt; of_title = tt }
      by_both None (Some title) = record { of_owner = tt; of_title = refl }
      by_both (Some owner) None = record { of_owner = told_new owner.level; of_title = tt }
      by_both (Some owner) (Some title) = record { of_owner = told_new owner.level; of_title = refl }

      by_place : (q : ℕ) → ((q ≡ n) ⊎ (q ≡ n → ⊥)) → ToldAt (at_place (remove lists n) q) (get (with_at owners n (λ owner. new_owner owner.level)) q) (get (with_at titles n unspent) q)
      by_place q (inl same) =
          rw same (rw (with_here owners n (λ owner. new_owner owner.level), with_here titles n unspent, remove_here lists n) (by_both (get owners n) (get titles n)))
      by_place q (inr apart) = rw (with_apart owners n (λ owner. new_owner owner.level) q apart, with_apart titles n unspent q apart, remove_apart lists n q apart) (told.at q)

      still_none : (o : Option Owner) → o ≡ None → option_map (λ (owner : Owner). new_owner owner.level) o ≡ None
      still_none None e = refl
      still_none (Some owner) e = absurd cc

      by_later : (q : ℕ) → next ≤ q → ((q ≡ n) ⊎ (q ≡ n → ⊥)) → Vacant (at_place (remove lists n) q) (get (with_at owners n (λ owner. new_owner owner.level)) q)
      by_later q le (inl same) =
          rw same
          (rw (with_here owners n (λ owner. new_owner owner.level), remove_here lists n) (record { no_owner = still_none (get owners n) (ap (get owners) (sym same) ∙ (told.later q le).no_owner); no_steps = refl }))
      by_later q le (inr apart) = rw (with_apart owners n (λ owner. new_owner owner.level) q apart, remove_apart lists n q apart) (told.later q le)

-- ---- turns

abbrev ToldIn : Machine → Type 0
ToldIn q = Told q.kept.owners q.kept.titles q.kept.next_owner q.lists.steps

abbrev Effected : Kept → Lists → Effect → Type 0
Effected k lists effect = Told (moved k effect).owners (moved k effect).titles (moved k effect).next_owner (grown k lists effect).steps

-- what a commit leaves of owners is as before
pub settled_kept : (k : Kept) (n : OwnerNo) → ((settled k n).owners ≡ k.owners) × ((settled k n).titles ≡ k.titles) × ((settled k n).next_owner ≡ k.next_owner)
settled_kept k n = by_owner (get k.owners n.0)
  where
    by_owner : (o : Option Owner)
        → ((given o k (λ owner. with_commit k n (title_of k n) owner.level (net k.catalog owner))).owners ≡ k.owners)
        × ((given o k (λ owner. with_commit k n (title_of k n) owner.level (net k.catalog owner))).titles ≡ k.titles)
        × ((given o k (λ owner. with_commit k n (title_of k n) owner.level (net k.catalog owner))).next_owner ≡ k.next_owner)
    by_owner None = (refl, refl, refl)
    by_owner (Some owner) = (refl, refl, refl)

stepped_lists : (k : Kept) (lists : Lists) (n : OwnerNo) (step : Step) (owner : Owner) → get k.owners n.0 ≡ Some owner → (with_step k lists n step).steps ≡ insert lists.steps n.0 (steps_of lists n.0 ++ step ∷ [])
stepped_lists k lists n step owner there = by_owner (get k.owners n.0) there
  where
    by_owner : (o : Option Owner) → o ≡ Some owner
        → (given o lists (λ owner. record { steps = insert lists.steps n.0 (steps_of lists n.0 ++ step ∷ []); history = lists.history; trace = lists.trace ++ traced lists n owner step ∷ [] })).steps ≡ insert lists.steps n.0 (steps_of lists n.0 ++ step ∷ [])
    by_owner None e = absurd cc
    by_owner (Some other) e = refl

settled_lists : (k : Kept) (lists : Lists) (n : OwnerNo) (owner : Owner) → get k.owners n.0 ≡ Some owner → (with_settled k lists n).steps ≡ remove lists.steps n.0
settled_lists k lists n owner there = by_owner (get k.owners n.0) there
  where
    by_owner : (o : Option Owner) → o ≡ Some owner
        → (given o lists (λ owner. record { steps = remove lists.steps n.0; history = with_member lists.history (member_of k lists n owner); trace = lists.trace })).steps ≡ remove lists.steps n.0
    by_owner None e = absurd cc
    by_owner (Some other) e = refl

told_as : (owners others : Owners) (titles called : FinMap nat_cmp Title) (next later : ℕ) (lists steps : StepLists) → owners ≡ others → titles ≡ called → next ≡ later → lists ≡ steps → Told owners titles next lists → Told others called later steps
told_as owners others titles called next later lists steps o t n l told = subst (λ x. Told x called later steps) o (subst (λ x. Told owners x later steps) t (subst (λ x. Told owners titles x steps) n (subst (λ x. Told owners titles next x) l told)))

effect_told : (S : Schema) (limits : Limits) (k : Kept) (lists : Lists) → Told k.owners k.titles k.next_owner lists.steps → (effect : Effect) → May S limits k effect → Effected k lists effect
effect_told S limits k lists t Stays may = t
effect_told S limits k lists t (OpensBasic name access) may = arrives k.owners k.titles k.next_owner lists.steps t Basic name
effect_told S limits k lists t (OpensTransactional name access) may = t
effect_told S limits k lists t (ClosesBasic s n) may = leaves k.owners k.titles k.next_owner lists.steps t n.0
effect_told S limits k lists t (ClosesTransactional s) may = t
effect_told S limits k lists t (Begins name level) may = arrives k.owners k.titles k.next_owner lists.steps t level name
effect_told S limits k lists t (Associates s association) may = t
effect_told S limits k lists t (Ends s n failed) may = marks k.owners k.titles k.next_owner lists.steps t n.0 failed
effect_told S limits k lists t (Holds s copies) may = t
effect_told S limits k lists t (Steps n s step asked) may =
    told_as (with_at k.owners n.0 (stepped step)) (with_at k.owners n.0 (stepped step)) (with_at k.titles n.0 one_more) (with_at k.titles n.0 one_more) k.next_owner k.next_owner (insert lists.steps n.0 (steps_of lists n.0 ++ step ∷ [])) (with_step k lists n step).steps refl refl refl
    (sym (stepped_lists k lists n step may.owner may.there))
    (takes k.owners k.titles k.next_owner lists.steps t n.0 may.owner step may.there)
effect_told S limits k lists t (Commits n) may =
    let kept = settled_kept k n in
    told_as (remove k.owners n.0) (remove (settled k n).owners n.0) (remove k.titles n.0) (remove (settled k n).titles n.0) k.next_owner (settled k n).next_owner (remove lists.steps n.0) (with_settled k lists n).steps
    (ap (λ x. remove x n.0) (sym kept.0))
    (ap (λ x. remove x n.0) (sym kept.1))
    (sym kept.2)
    (sym (settled_lists k lists n may.owner may.there))
    (leaves k.owners k.titles k.next_owner lists.steps t n.0)
effect_told S limits k lists t (Flushes n) may =
    let kept = settled_kept k n in
    told_as (with_at k.owners n.0 (λ owner. new_owner owner.level)) (with_at (settled k n).owners n.0 (λ owner. new_owner owner.level)) (with_at k.titles n.0 unspent) (with_at (settled k n).titles n.0 unspent) k.next_owner (settled k n).next_owner (remove lists.steps n.0) (with_settled k lists n).steps
    (ap (λ x. with_at x n.0 (λ owner. new_owner owner.level)) (sym kept.0))
    (ap (λ x. with_at x n.0 unspent) (sym kept.1))
    (sym kept.2)
    (sym (settled_lists k lists n may.owner may.there))
    (empties k.owners k.titles k.next_owner lists.steps t n.0)
effect_told S limits k lists t (RollsBack n) may = leaves k.owners k.titles k.next_owner lists.steps t n.0

turn_told : (S : Schema) (limits : Limits) (q : Machine) (x : Said) → ToldIn q → ToldIn (turn S limits q x)
turn_told S limits q Silent t = t
turn_told S limits q (Wrong column) t = t
turn_told S limits q (Says command) t = effect_told S limits q.kept q.lists t (decision S limits q.kept command).effect (decision_right S limits q.kept command)

run_told : (S : Schema) (limits : Limits) (lines : List Said) (q : Machine) → ToldIn q → ToldIn (run S limits q lines)
run_told S limits [] q t = t
run_told S limits (x ∷ lines) q t = run_told S limits lines (turn S limits q x) (turn_told S limits q x t)

first_told : (M : Catalog) (next : ℕ) → ToldIn (first M next)
first_told M next = record {
  at = λ n. rw (get-empty {X = Owner} nat_cmp n, get-empty {X = Title} nat_cmp n) (record { of_owner = tt; of_title = tt });
  later = λ n le. rw (get-empty {X = Owner} nat_cmp n, get-empty {X = List Step} nat_cmp n) (record { no_owner = refl; no_steps = refl });
}

pub always_told : OwnersAreAlwaysTold
always_told S limits M next lines = record {
  owners = λ n owner there. subst (OwnerTold (steps_of q.lists n)) there (told.at n).of_owner;
  commands = λ n title there. subst (TitleTold (steps_of q.lists n)) there (told.at n).of_title;
}
  where
    q : Machine
    q = run S limits (first M next) lines

    told : ToldIn (run S limits (first M next) lines)
    told = run_told S limits lines (first M next) (first_told M next)
