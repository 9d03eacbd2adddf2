-- What slots stand for, in the order of their serials.
use Rattle.std.proofs.Common.{◌≡◌, ◌<◌, ◌≤◌, ℕ, suc, ◌+◌, ◌==◌, Bool, true, false, cond, List, [], ◌∷◌, ◌++◌, length, map, take, Option, Some, None, refl, sym, ap, subst, ◌∙◌, arith, Less}
use Rattle.std.specs.Ordering.{nat_cmp, eq_by_cmp}
use Rattle.std.specs.Cmp.{nat_cmp_total}
use Rattle.std.specs.FinMap.{get, entries, empty, remove, put, len-empty, len-entries, entries-insert, get-remove, same_map, nat_cmp-IsAntisymmetric}
use Rattle.std.specs.Option.{option_map, option_to_list}
use Rattle.std.proofs.lemmas.Bool.Decides.{nat_tests}
use Rattle.pss_base.specs.declared.pid.Pid.{Pid}
use Rattle.type_layout.specs.Schemas.{given}
use Rattle.pss_catalog.specs.Catalog.{Object}
use Rattle.pss_catalog.specs.Changes.{Change}
use Rattle.pss_machine.specs.Changes.{Changes, change_of, listed}
use Rattle.owner_view.specs.declared.states.Slot.{Slot}
use Rattle.owner_view.specs.Merging.{before, onward, past, passing_at, merged}
use Rattle.owner_view.specs.States.{slot_at, slot_state, state_at, with_told, changes_of}
use Rattle.owner_view.proofs.Merging.{Rises, change_put}
use Rattle.owner_view.proofs.Stating.{get-changes_of}

abbrev Slots : Type 0
Slots = List (ℕ × Slot)

-- the changes in slots, without the places that are only reserved
abbrev pub told_in : Slots → List Change
told_in [] = []
told_in (e ∷ es) = given (slot_state e.1) (told_in es) (λ state. record { serial = e.0; state = state } ∷ told_in es)

-- the serials rise, from this one on
abbrev pub SlotsRise : ℕ → Slots → Type 0
SlotsRise least [] = Unit {0}
SlotsRise least (e ∷ es) = (least ≤ e.0) × SlotsRise (e.0 + 1) es

rises_lower : (n m : ℕ) (cs : List Change) → n ≤ m → Rises m cs → Rises n cs
rises_lower n m [] le h = tt
rises_lower n m (c ∷ cs) le h = (omega (arith, le, h.0), h.1)

pub told_rise : (n : ℕ) (es : Slots) → SlotsRise n es → Rises n (told_in es)
told_rise n [] h = tt
told_rise n (e ∷ es) h = by (slot_state e.1) (told_rise (e.0 + 1) es h.1)
  where
    by : (o : Option (Option Object)) → Rises (e.0 + 1) (told_in es) → Rises n (given o (told_in es) (λ state. record { serial = e.0; state = state } ∷ told_in es))
    by None rest = (let le = h.0 in rises_lower n (e.0 + 1) (told_in es) (omega (arith, le)) rest)
    by (Some state) rest = (h.0, rest)

-- ---- they are the changes that the slots stand for

pub apart : (q s : ℕ) → q + 1 ≤ s → eq_by_cmp nat_cmp q s ≡ false
apart q s lt = grind (arith, nat_tests)

pub same_place : (q s : ℕ) → eq_by_cmp nat_cmp q s ≡ true → q ≡ s
same_place q s e = grind (arith, nat_tests)

below_it : (q s : ℕ) → q + 1 ≤ s → (q == s) ≡ false
below_it q s lt = grind (arith, nat_tests)

none_at : (s n : ℕ) (es : Slots) → s < n → SlotsRise n es → state_at s es ≡ None
none_at s n [] lt h = refl
none_at s n (e ∷ es) lt h = ap (λ (b : Bool). given (cond b (Some e.1) (slot_at s es)) None slot_state) (below_it s e.0 (let le = h.0 in omega (arith, lt, le))) ∙ none_at s (e.0 + 1) es (let le = h.0 in omega (arith, lt, le)) h.1

none_changed : (s : ℕ) (es : Slots) → SlotsRise (s + 1) es → get (changes_of es) s ≡ None
none_changed s es h = get-changes_of es s ∙ none_at s (s + 1) es (omega arith) h

-- what is not there is not taken away
pub nothing_goes : (s : ℕ) (changes : Changes) → get changes s ≡ None → remove changes s ≡ changes
nothing_goes s changes none = same_map nat_cmp_total nat_cmp-IsAntisymmetric (remove changes s) changes (λ q. get-remove nat_cmp_total changes s q ∙ by q (eq_by_cmp nat_cmp q s) refl)
  where
    by : (q : ℕ) (b : Bool) → eq_by_cmp nat_cmp q s ≡ b → cond b None (get changes q) ≡ get changes q
    by q true is = sym (ap (get changes) (same_place q s is) ∙ none)
    by q false is = refl

is_below : (a b : ℕ) → a + 1 ≤ b → nat_cmp a b ≡ Less
is_below a b lt = grind (arith, nat_tests)

no_entries : {A : Type 0} (es : List A) → length es ≡ 0 → es ≡ []
no_entries [] e = refl
no_entries (x ∷ es) e = absurd (omega (arith, e))

-- what is below all is put first
put_first : (s n : ℕ) (state : Option Object) (es : List (ℕ × Option Object)) → s < n → Rises n (map change_of es) → put nat_cmp s state es ≡ (s, state) ∷ es
put_first s n state [] lt h = refl
put_first s n state (e ∷ es) lt h = rw (is_below s e.0 (let le = h.0 in omega (arith, lt, le))) refl

pub listed_told : (n : ℕ) (es : Slots) → SlotsRise n es → listed (changes_of es) ≡ told_in es
listed_told n [] h = ap (map change_of) (no_entries (entries (empty {X = Option Object} {R = nat_cmp})) (sym (len-entries (empty {X = Option Object} {R = nat_cmp})) ∙ len-empty nat_cmp (Option Object)))
listed_told n (e ∷ es) h = by (slot_state e.1) (listed_told (e.0 + 1) es h.1)
  where
    by : (o : Option (Option Object)) → listed (changes_of es) ≡ told_in es → listed (with_told o e.0 (changes_of es)) ≡ given o (told_in es) (λ state. record { serial = e.0; state = state } ∷ told_in es)
    by None rest = ap listed (nothing_goes e.0 (changes_of es) (none_changed e.0 es h.1)) ∙ rest
    by (Some state) rest =
        ap (map change_of) (entries-insert nat_cmp_total (changes_of es) e.0 state ∙ put_first e.0 (e.0 + 1) state (entries (changes_of es)) (omega arith) (subst (Rises (e.0 + 1)) (sym rest) (told_rise (e.0 + 1) es h.1)))
        ∙ ap (λ (l : List Change). record { serial = e.0; state = state } ∷ l) rest

pub fewer_told : (es : Slots) → length (told_in es) ≤ length es
fewer_told [] = omega arith
fewer_told (e ∷ es) = by (slot_state e.1) (fewer_told es)
  where
    by : (o : Option (Option Object)) → length (told_in es) ≤ length es → length (given o (told_in es) (λ state. record { serial = e.0; state = state } ∷ told_in es)) ≤ suc (length es)
    by None rest = omega (arith, rest)
    by (Some state) rest = omega (arith, rest)

-- ---- what they leave of an extent

module _ (test : Object → Bool) (e : ℕ × Slot) (es fs : Slots) (is : es ≡ e ∷ fs) where
  pub told_put : (put : Option Pid) (pids rest now left all : List Pid) → Some put ≡ option_map (passing_at test e.0) (slot_state e.1) → now ≡ take 256 (pids ++ (before e.0 rest ++ option_to_list put)) → left ≡ past e.0 (onward e.0 rest) → take 256 (pids ++ merged test (told_in es) rest) ≡ all → take 256 (now ++ merged test (told_in fs) left) ≡ all
  told_put put pids rest now left all one is_put is_left so_far = by (slot_state e.1) one (ap (λ (l : Slots). take 256 (pids ++ merged test (told_in l) rest)) (sym is) ∙ so_far)
    where
      by : (o : Option (Option Object)) → Some put ≡ option_map (passing_at test e.0) o → take 256 (pids ++ merged test (given o (told_in fs) (λ state. record { serial = e.0; state = state } ∷ told_in fs)) rest) ≡ all → take 256 (now ++ merged test (told_in fs) left) ≡ all
      by None one so_far = absurd cc
      by (Some state) one so_far =
          let same : put ≡ passing_at test e.0 state = cc in
          change_put test 256 (record { serial = e.0; state = state }) (told_in fs) pids rest now left all (is_put ∙ ap (λ (o : Option Pid). take 256 (pids ++ (before e.0 rest ++ option_to_list o))) same) is_left so_far

  pub none_told : (result : Option (Option Pid)) → result ≡ option_map (passing_at test e.0) (slot_state e.1) → result ≡ None → told_in es ≡ told_in fs
  none_told result told none = ap told_in is ∙ by (slot_state e.1) (sym none ∙ told)
    where
      by : (o : Option (Option Object)) → None ≡ option_map (passing_at test e.0) o → given o (told_in fs) (λ state. record { serial = e.0; state = state } ∷ told_in fs) ≡ told_in fs
      by None one = refl
      by (Some state) one = absurd cc
