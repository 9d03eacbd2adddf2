-- The puts of a body are made into changes, one behind the other.
use Rattle.std.proofs.Common.{ℕ, ◌≡◌, ◌+◌, ◌≤◌, List, [], ◌∷◌, ◌++◌, Option, None, Some, IsSome, refl, sym, ap, ◌∙◌, subst, arith, append_assoc, append-nil}
use Rattle.pss_base.specs.declared.put.Put.{Put}
use Rattle.std.specs.FinMap.{get}
use Rattle.type_layout.specs.declared.schema.Schema.{Schema}
use Rattle.pss_catalog.specs.Catalog.{Catalog, IsUnique, Object, total}
use Rattle.pss_catalog.specs.Changes.{Change as Step, over}
use Rattle.storage_home.specs.declared.change.Change.{Change}
use Rattle.storage_home.specs.declared.homes.Homes.{Homes}
use Rattle.storage_home.specs.Applied.{AreChanges, AreKeysOf, AreNamed, IsChange, IsNamed, IsState, IsStep}
use Rattle.storage_home.specs.Changes.{least_next}
use Rattle.storage_home.specs.Kept.{IsKept}
use Rattle.pss_recovery.specs.Loading.{most_octets}
use Rattle.pss_recovery.specs.Replaying.{AreMade, IsChanged, IsMade, Rise}
use Rattle.pss_recovery.specs.declared.body.Body.{Body}
use Rattle.pss_recovery.specs.inner.Adding.{MayMake}
use Rattle.pss_recovery.specs.inner.Altering.{HasNewKeys, IsKeptSound, MayAlter}
use Rattle.pss_recovery.specs.inner.Remaking.{AreApplied, AreJoined, IsMadeOf, IsOrdered, MakeSteps, MakesStep, StaysWithin}
use Rattle.pss_recovery.proofs.Additions.{home_there}
use Rattle.pss_recovery.proofs.Rows.{one_object}

abbrev pub kept_sound : (S : Schema) (M : Catalog) (homes : Homes) → IsKept S M homes → IsKeptSound S M homes
kept_sound S M homes kept = record { kept = kept; sound = kept.each }

-- ---- one put

abbrev pub makes_step : (S : Schema) (M : Catalog) (next : ℕ) (change : Change) → AreKeysOf S (get M change.put.serial) change.old_keys → MayAlter M change.put → HasNewKeys S next change.put change.new_keys → MakesStep S M next change.put change
makes_step S M next change old may new = record {
  step = record { serial = change.put.serial; state = new.state };
  is = record { step_is = (refl, new.has.stored); old_keys = old; new_keys = new.keys_ };
  made = record { step_ = (refl, new.has.stored); home = may.home; there = may.there; short = new.has.short; refers = new.has.refers };
}

-- a put gives one state
one_state : (S : Schema) (put : Put) (x y : Option Object) → IsState S put.home put.bytes x → IsState S put.home put.bytes y → x ≡ y
one_state S put None None a b = refl
one_state S put (Some x) (Some y) a b = ap Some (one_object S put x y a b)
one_state S put None (Some y) a b = absurd (by put.bytes a b)
  where
    by : (bytes : Option (List ℕ)) → IsState S put.home bytes None → IsState S put.home bytes (Some y) → ⊥
    by None a b = b
    by (Some octets) a b = a
one_state S put (Some x) None a b = absurd (by put.bytes a b)
  where
    by : (bytes : Option (List ℕ)) → IsState S put.home bytes (Some x) → IsState S put.home bytes None → ⊥
    by None a b = a
    by (Some octets) a b = b

one_step : (S : Schema) (M : Catalog) (next : ℕ) (put : Put) (a b : Step) → IsMade S M next put a → IsMade S M next put b → a ≡ b
one_step S M next put a b p q =
    let serial : a.serial ≡ b.serial = sym p.step_.0 ∙ q.step_.0 in
    let state : a.state ≡ b.state = one_state S put a.state b.state p.step_.1 q.step_.1 in
    λ i. record { serial = serial i; state = state i }

-- so do all puts together
pub made_one : (S : Schema) (M : Catalog) (next : ℕ) (puts : List Put) (a b : List Step) → AreMade S M next puts a → AreMade S M next puts b → a ≡ b
made_one S M next [] [] [] p q = refl
made_one S M next [] [] (y ∷ b) p q = absurd q
made_one S M next [] (x ∷ a) b p q = absurd p
made_one S M next (put ∷ puts) [] b p q = absurd p
made_one S M next (put ∷ puts) (x ∷ a) [] p q = absurd q
made_one S M next (put ∷ puts) (x ∷ a) (y ∷ b) p q = ap (λ (s : Step). s ∷ a) (one_step S M next put x y p.0 q.0) ∙ ap (λ (l : List Step). y ∷ l) (made_one S M next puts a b p.1 q.1)

-- ---- one put more

are_push : (S : Schema) (M : Catalog) (cs : List Change) (ds : List Step) (c : Change) (d : Step) → AreChanges S M cs ds → IsChange S M c d → AreChanges S M (cs ++ c ∷ []) (ds ++ d ∷ [])
are_push S M [] [] c d are is = (is, tt)
are_push S M [] (y ∷ ds) c d are is = absurd are
are_push S M (x ∷ cs) [] c d are is = absurd are
are_push S M (x ∷ cs) (y ∷ ds) c d are is = (are.0, are_push S M cs ds c d are.1 is)

made_push : (S : Schema) (M : Catalog) (next : ℕ) (puts : List Put) (ds : List Step) (put : Put) (d : Step) → AreMade S M next puts ds → IsMade S M next put d → AreMade S M next (puts ++ put ∷ []) (ds ++ d ∷ [])
made_push S M next [] [] put d made is = (is, tt)
made_push S M next [] (y ∷ ds) put d made is = absurd made
made_push S M next (x ∷ puts) [] put d made is = absurd made
made_push S M next (x ∷ puts) (y ∷ ds) put d made is = (made.0, made_push S M next puts ds put d made.1 is)

pub made_at : (S : Schema) (M : Catalog) (next : ℕ) (front : List Put) (put : Put) (rest : List Put) (steps : List Step) → AreMade S M next (front ++ put ∷ rest) steps → (step : Step) × IsMade S M next put step
made_at S M next [] put rest [] made = absurd made
made_at S M next [] put rest (d ∷ ds) made = (d, made.0)
made_at S M next (x ∷ front) put rest [] made = absurd made
made_at S M next (x ∷ front) put rest (d ∷ ds) made = made_at S M next front put rest ds made.1

least_push : (least : ℕ) (cs : List Change) (c : Change) → least_next least (cs ++ c ∷ []) ≡ c.put.serial + 1
least_push least [] c = refl
least_push least (x ∷ cs) c = least_push (x.put.serial + 1) cs c

abbrev pub none_joined : (S : Schema) (homes : Homes) (next : ℕ) (all : List Put) → Rise 0 next all → AreJoined S homes next all all []
none_joined S homes next all rise = record { front = []; split = refl; made = λ M kept. record { steps = []; are = tt; made = tt }; last = 0; rise = rise; least = omega arith }

module _ (S : Schema) (homes : Homes) (next : ℕ) (all : List Put) (put : Put) (rest : List Put) (changes : List Change) (so_far : AreJoined S homes next all (put ∷ rest) changes) where
  pub may_push : (change : Change) → change.put ≡ put → least_next 0 changes ≤ change.put.serial
  may_push change is = omega (arith, so_far.least, so_far.rise.0, ap (λ (p : Put). p.serial) is)

  pub joined_on : (change : Change) (more : List Change) → change.put ≡ put → ((M : Catalog) → IsKept S M homes → MakesStep S M next put change) → more ≡ changes ++ change ∷ [] → AreJoined S homes next all rest more
  joined_on change more is makes e = record {
    front = so_far.front ++ put ∷ [];
    split = append_assoc so_far.front (put ∷ []) rest ∙ so_far.split;
    made = λ M kept.
        let one = makes M kept in
        let before = so_far.made M kept in
        record {
          steps = before.steps ++ one.step ∷ [];
          are = subst (λ (cs : List Change). AreChanges S M cs (before.steps ++ one.step ∷ [])) (sym e) (are_push S M changes before.steps change one.step before.are one.is);
          made = made_push S M next so_far.front before.steps put one.step before.made one.made;
        };
    last = put.serial;
    rise = so_far.rise.2;
    least = omega (arith, ap (least_next 0) e, least_push 0 changes change, ap (λ (p : Put). p.serial) is);
  }

  pub none_here : ((M : Catalog) (step : Step) → IsKept S M homes → IsMade S M next put step → ⊥) → (M : Catalog) (steps : List Step) → IsKept S M homes → AreMade S M next all steps → ⊥
  none_here none M steps kept made =
      let at = made_at S M next so_far.front put rest steps (subst (λ (l : List Put). AreMade S M next l steps) (sym so_far.split) made) in
      none M at.0 kept at.1

pub all_joined : (S : Schema) (homes : Homes) (next : ℕ) (all rest : List Put) (changes : List Change) → rest ≡ [] → AreJoined S homes next all rest changes → (M : Catalog) → IsKept S M homes → MakeSteps S M next all changes
all_joined S homes next all rest changes none so_far M kept =
    subst (λ (l : List Put). MakeSteps S M next l changes) (sym (append-nil so_far.front) ∙ ap (λ l. so_far.front ++ l) (sym none) ∙ so_far.split) (so_far.made M kept)

-- ---- their homes are those of the schema

module _ (S : Schema) (M : Catalog) where
  is_named : (change : Change) (step : Step) → IsStep S change.put step → IsNamed S change
  is_named change step is = by step.state is.1
    where
      by : (state : Option Object) → IsState S change.put.home change.put.bytes state → IsNamed S change
      by (Some x) told some = home_there S change.put x told
      by None told some = absurd (removed change.put.bytes told some)
        where
          removed : (bytes : Option (List ℕ)) → IsState S change.put.home bytes None → IsSome bytes → ⊥
          removed None told some = cc
          removed (Some octets) told some = told

  pub are_named : (changes : List Change) (steps : List Step) → AreChanges S M changes steps → AreNamed S changes
  are_named [] [] are = tt
  are_named [] (d ∷ ds) are = absurd are
  are_named (c ∷ cs) [] are = absurd are
  are_named (c ∷ cs) (d ∷ ds) are = (is_named c d are.0.step_is, are_named cs ds are.1)

-- what stays within its limits may be made
abbrev pub may_make_all : (S : Schema) (M : Catalog) (homes : Homes) (changes : List Change) (steps : List Step) → IsKept S M homes → AreChanges S M changes steps → StaysWithin S M steps → MayMake homes changes
may_make_all S M homes changes steps kept are within = record {
  schema = S;
  catalog = M;
  steps = steps;
  kept = kept;
  named = are_named S M changes steps are;
  are = are;
  unique = within.unique;
  bounded = omega (arith, within.bounded);
}

-- a body whose changes were found may come, and makes this of a catalog
abbrev pub is_made_of : (S : Schema) (M : Catalog) (next : ℕ) (body : Body) (changes : List Change) (homes : Homes) → IsOrdered next body → (made : MakeSteps S M body.next body.puts changes) → AreApplied S M made.steps homes → IsMadeOf S M next body homes
is_made_of S M next body changes homes ordered made applied = record {
  catalog = over M made.steps;
  changed = record {
    some = ordered.some;
    few = ordered.few;
    later = ordered.later;
    rise = ordered.rise;
    steps = made.steps;
    made = made.made;
    result = refl;
    unique = applied.within.unique;
    bounded = applied.within.bounded;
  };
  kept = applied.kept;
}

-- what a body makes stays within its limits
pub stays_of : (S : Schema) (M : Catalog) (next : ℕ) (body : Body) (N : Catalog) (steps : List Step) → AreMade S M body.next body.puts steps → IsChanged S M next body N → StaysWithin S M steps
stays_of S M next body N steps made changed =
    let same : steps ≡ changed.steps = made_one S M body.next body.puts steps changed.steps made changed.made in
    subst (λ (l : List Step). StaysWithin S M l) (sym same)
    (record { unique = subst (IsUnique S) changed.result changed.unique; bounded = subst (λ (K : Catalog). total S K ≤ most_octets) changed.result changed.bounded })
