-- The objects that have a value, from the slots in which they stand.
use Rattle.std.proofs.Common.{ℕ, ◌≡◌, ◌==◌, Bool, true, false, not, cond, List, [], ◌∷◌, ◌++◌, Option, Some, None, refl, sym, ap, ◌∙◌, arith}
use Rattle.std.specs.Prelude.{nat_eq, ◌||◌, ◌&&◌}
use Rattle.std.specs.List.{list_any, IsDistinct, AllByRecursion}
use Rattle.std.specs.Map.{keys_of}
use Rattle.std.specs.Option.{option_to_list}
use Rattle.std.proofs.lemmas.Bool.Decides.{nat_tests}
use Rattle.std.proofs.lemmas.Map.Keys.{IsDistinct-head, IsDistinct-tail}
use Rattle.pss_base.specs.declared.pid.Pid.{Pid}
use Rattle.type_layout.specs.Schemas.{given}
use Rattle.type_layout.specs.Sound.{are_distinct}
use Rattle.pss_catalog.specs.Catalog.{Object}
use Rattle.pss_machine.specs.Same.{same_pid}
use Rattle.owner_view.specs.declared.states.Slot.{Slot}
use Rattle.owner_view.specs.declared.states.Slot.TheVariants as slot
use Rattle.owner_view.specs.States.{slot_at, slot_state, slot_pid, pids_in, state_at, changes_of, AreValued}
use Rattle.owner_view.proofs.Stating.{get-changes_of}

-- a state is a value in this home
abbrev is_value : ℕ → Option (Option Object) → Bool
is_value home state = given state false (λ s. given s false (λ x. x.home.0 == home))

abbrev is_listed : Pid → List Pid → Bool
is_listed pid pids = list_any (λ p. same_pid p pid) pids

-- ---- what stands behind a slot has another serial

pub none_behind : (s : ℕ) (es : List (ℕ × Slot)) → AllByRecursion (λ t. nat_eq s t ≡ false) (keys_of es) → slot_at s es ≡ None
none_behind s [] apart = refl
none_behind s (e ∷ es) apart = ap (λ (b : Bool). cond b (Some e.1) (slot_at s es)) apart.0 ∙ none_behind s es apart.1

is_it : (s t : ℕ) → (s == t) ≡ true → s ≡ t
is_it s t e = grind (arith, nat_tests)

turned : (s t : ℕ) → (s == t) ≡ (t == s)
turned s t = grind (arith, nat_tests)

and_false : (b : Bool) → (b && false) ≡ false
and_false true = refl
and_false false = refl

-- ---- slot by slot

module _ (pid : Pid) (e : ℕ × Slot) (es : List (ℕ × Slot)) where
  -- its own serial
  here : (pid.serial == e.0) ≡ true → slot_at pid.serial es ≡ None → is_listed pid (pids_in es) ≡ is_value pid.home (state_at pid.serial es) → is_listed pid (option_to_list (slot_pid e.0 e.1) ++ pids_in es) ≡ is_value pid.home (slot_state e.1)
  here same none rest = by e.1
    where
      no_more : is_listed pid (pids_in es) ≡ false
      no_more = rest ∙ ap (λ (o : Option Slot). is_value pid.home (given o None slot_state)) none

      either : (b : Bool) → ((b && true) || false) ≡ b
      either true = refl
      either false = refl

      by : (at : Slot) → is_listed pid (option_to_list (slot_pid e.0 at) ++ pids_in es) ≡ is_value pid.home (slot_state at)
      by slot.Reserved = no_more
      by slot.Gone = no_more
      by (slot.There object) =
          ap (λ (c : Bool). ((object.home.0 == pid.home) && c) || is_listed pid (pids_in es)) (turned e.0 pid.serial ∙ same) ∙ ap (λ (c : Bool). ((object.home.0 == pid.home) && true) || c) no_more ∙ either (object.home.0 == pid.home)

  -- another serial
  apart : (pid.serial == e.0) ≡ false → is_listed pid (option_to_list (slot_pid e.0 e.1) ++ pids_in es) ≡ is_listed pid (pids_in es)
  apart other = by e.1
    where
      by : (at : Slot) → is_listed pid (option_to_list (slot_pid e.0 at) ++ pids_in es) ≡ is_listed pid (pids_in es)
      by slot.Reserved = refl
      by slot.Gone = refl
      by (slot.There object) =
          ap (λ (c : Bool). ((object.home.0 == pid.home) && c) || is_listed pid (pids_in es)) (turned e.0 pid.serial ∙ other) ∙ ap (λ (c : Bool). c || is_listed pid (pids_in es)) (and_false (object.home.0 == pid.home))

listed : (pid : Pid) (es : List (ℕ × Slot)) → IsDistinct nat_eq (keys_of es) → is_listed pid (pids_in es) ≡ is_value pid.home (state_at pid.serial es)
listed pid [] distinct = refl
listed pid (e ∷ es) distinct = by (pid.serial == e.0) refl (listed pid es (IsDistinct-tail nat_eq e.0 (keys_of es) distinct))
  where
    none : (pid.serial == e.0) ≡ true → slot_at pid.serial es ≡ None
    none same = ap (λ (s : ℕ). slot_at s es) (is_it pid.serial e.0 same) ∙ none_behind e.0 es (IsDistinct-head nat_eq e.0 (keys_of es) distinct)

    by : (b : Bool) → (pid.serial == e.0) ≡ b → is_listed pid (pids_in es) ≡ is_value pid.home (state_at pid.serial es) → is_listed pid (pids_in (e ∷ es)) ≡ is_value pid.home (given (cond b (Some e.1) (slot_at pid.serial es)) None slot_state)
    by true same rest = here pid e es same (none same) rest
    by false other rest = apart pid e es other ∙ rest

-- ---- each once

-- none that stands behind has the serial of this one
fresh : (p : Pid) (es : List (ℕ × Slot)) → AllByRecursion (λ t. nat_eq p.serial t ≡ false) (keys_of es) → list_any (same_pid p) (pids_in es) ≡ false
fresh p [] others = refl
fresh p (e ∷ es) others = by e.1 (fresh p es others.1)
  where
    by : (at : Slot) → list_any (same_pid p) (pids_in es) ≡ false → list_any (same_pid p) (option_to_list (slot_pid e.0 at) ++ pids_in es) ≡ false
    by slot.Reserved rest = rest
    by slot.Gone rest = rest
    by (slot.There object) rest =
        ap (λ (c : Bool). ((p.home == object.home.0) && c) || list_any (same_pid p) (pids_in es)) others.0 ∙ ap (λ (c : Bool). c || list_any (same_pid p) (pids_in es)) (and_false (p.home == object.home.0)) ∙ rest

once : (es : List (ℕ × Slot)) → IsDistinct nat_eq (keys_of es) → are_distinct same_pid (pids_in es) ≡ true
once [] distinct = refl
once (e ∷ es) distinct = by e.1 (once es (IsDistinct-tail nat_eq e.0 (keys_of es) distinct))
  where
    by : (at : Slot) → are_distinct same_pid (pids_in es) ≡ true → are_distinct same_pid (option_to_list (slot_pid e.0 at) ++ pids_in es) ≡ true
    by slot.Reserved rest = rest
    by slot.Gone rest = rest
    by (slot.There object) rest =
        ap (λ (c : Bool). not c && are_distinct same_pid (pids_in es)) (fresh (record { home = object.home.0; serial = e.0 }) es (IsDistinct-head nat_eq e.0 (keys_of es) distinct)) ∙ rest

pub valued : (es : List (ℕ × Slot)) (pids : List Pid) → pids ≡ pids_in es → IsDistinct nat_eq (keys_of es) → AreValued (changes_of es) pids
valued es pids are distinct = record {
  all = λ pid. ap (is_listed pid) are ∙ listed pid es distinct ∙ ap (is_value pid.home) (sym (get-changes_of es pid.serial));
  once = ap (are_distinct same_pid) are ∙ once es distinct;
}
