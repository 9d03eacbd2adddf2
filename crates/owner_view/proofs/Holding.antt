-- Who holds a key in a view.
use Rattle.std.proofs.Common.{◌≡◌, ℕ, Bool, true, false, cond, not, ◌==◌, List, [], ◌∷◌, Option, Some, None, refl, sym, ap, ◌∙◌, arith, ◌+◌}
use Rattle.std.proofs.lemmas.Bool.{eqb-true}
use Rattle.std.specs.Prelude.{unwrap_or, is_some}
use Rattle.std.specs.List.{list_any}
use Rattle.std.specs.Prelude.{◌||◌, find}
use Rattle.std.specs.Option.{option_map}
use Rattle.type_layout.specs.Keys.{key_bytes}
use Rattle.pss_machine.specs.Alone.{is_taken}
use Rattle.owner_view.specs.Keyed.{keyed}
use Rattle.std.specs.FinMap.{get}
use Rattle.type_layout.specs.declared.key.KeyNo.{KeyNo}
use Rattle.type_layout.specs.declared.schema.Schema.{Schema}
use Rattle.type_layout.specs.Schemas.{given}
use Rattle.pss_base.specs.declared.pid.Pid.{Pid}
use Rattle.pss_catalog.specs.Catalog.{Object, Catalog, holds, holders, without, pid_of, IsUnique}
use Rattle.pss_catalog.proofs.Uniqueness.{found_over, holder_is_one}
use Rattle.pss_catalog.proofs.Listing.{only_listed}
use Rattle.pss_machine.specs.Changes.{Changes, listed}
use Rattle.pss_laws.proofs.Nets.{last_listed}
use Rattle.owner_view.specs.Views.{seen_with, IsHolder, IsOwnHolder, holder_of, is_held_by_other}

-- what was changed is seen as it is now, and all else as it was committed
pub seen_at : (M : Catalog) (c : Changes) (s : ℕ) → get (seen_with M c) s ≡ unwrap_or (get c s) (get M s)
seen_at M c s = found_over M (listed c) s ∙ ap (λ o. unwrap_or o (get M s)) (last_listed c s)

no_bool : {A : Type 0} (b : Bool) → b ≡ true → b ≡ false → A
no_bool b p q = absurd cc

-- a list without any serial is empty
none_of : (ps : List Pid) → ((s : ℕ) → without s ps ≡ []) → ps ≡ []
none_of [] none = refl
none_of (p ∷ ps) none = by (p.serial == (p.serial + 1)) refl
  where
    by : (b : Bool) → (p.serial == (p.serial + 1)) ≡ b → p ∷ ps ≡ []
    by true is = absurd (omega (arith, eqb-true p.serial (p.serial + 1) is))
    by false is = (let no : p ∷ without (p.serial + 1) ps ≡ [] = ap (λ (b : Bool). cond (not b) (p ∷ without (p.serial + 1) ps) (without (p.serial + 1) ps)) (sym is) ∙ none (p.serial + 1) in absurd cc)

module _ (S : Schema) (M : Catalog) (c : Changes) (k : KeyNo) (bytes : List ℕ) where
  -- where no changed object holds the key, a holder is one that was committed and stays
  stays : IsOwnHolder S c k bytes None → (s : ℕ) (x : Object) → get (seen_with M c) s ≡ Some x → holds S k bytes x ≡ true → (get c s ≡ None) × (get M s ≡ Some x)
  stays none s x there holds_it = by (get c s) refl
    where
      by : (o : Option (Option Object)) → get c s ≡ o → (get c s ≡ None) × (get M s ≡ Some x)
      by None is = (is, sym (seen_at M c s ∙ ap (λ o. unwrap_or o (get M s)) is) ∙ there)
      by (Some None) is = (let no : None ≡ Some x = sym (seen_at M c s ∙ ap (λ o. unwrap_or o (get M s)) is) ∙ there in absurd cc)
      by (Some (Some y)) is =
          let one : Some y ≡ Some x = sym (seen_at M c s ∙ ap (λ o. unwrap_or o (get M s)) is) ∙ there in
          no_bool (holds S k bytes x) holds_it (none s x (is ∙ ap Some one))

  -- the holder in the view
  pub holder_seen : IsUnique S M → (own committed : Option ℕ) → IsOwnHolder S c k bytes own → IsHolder S M k bytes committed → IsHolder S (seen_with M c) k bytes (holder_of c own committed)
  holder_seen unique (Some s) committed own base = (own.0, seen_at M c s ∙ ap (λ o. unwrap_or o (get M s)) own.1, own.2)
  holder_seen unique None None own base = λ s x there. by s x there (holds S k bytes x) refl
    where
      by : (s : ℕ) (x : Object) → get (seen_with M c) s ≡ Some x → (b : Bool) → holds S k bytes x ≡ b → b ≡ false
      by s x there false is = refl
      by s x there true is = no_bool (holds S k bytes x) is (base s x (stays own s x there is).1)
  holder_seen unique None (Some s) own base = by (get c s) refl
    where
      gone : (o : Option Object) → get c s ≡ Some o → IsHolder S (seen_with M c) k bytes None
      gone o is t x there = at (holds S k bytes x) refl
        where
          at : (b : Bool) → holds S k bytes x ≡ b → b ≡ false
          at false other = refl
          at true holds_it =
              let left = stays own t x there holds_it in
              let one : t ≡ s = unique k bytes t s x base.0 left.1 base.1 holds_it base.2 in
              let no : Some o ≡ None = sym is ∙ ap (get c) (sym one) ∙ left.0 in
              absurd cc

      by : (o : Option (Option Object)) → get c s ≡ o → IsHolder S (seen_with M c) k bytes (cond (is_some o) None (Some s))
      by None is = (base.0, seen_at M c s ∙ ap (λ o. unwrap_or o (get M s)) is ∙ base.1, base.2)
      by (Some o) is = gone o is

-- ---- what a holder says of the objects that hold a key

module _ (S : Schema) (M : Catalog) (k : KeyNo) (bytes : List ℕ) where
  none_listed : IsHolder S M k bytes None → (s : ℕ) → without s (holders S M k bytes) ≡ []
  none_listed none s = (only_listed (holds S k bytes) M s).1 (λ t x there yes. no_bool (holds S k bytes x) yes (none t x there))

  -- they are the holder alone, or none
  pub listed_holder : IsUnique S M → (holder : Option ℕ) → IsHolder S M k bytes holder → holders S M k bytes ≡ given holder [] (λ s. given (get M s) [] (λ x. pid_of (s, x) ∷ []))
  listed_holder unique None none = none_of (holders S M k bytes) (none_listed none)
  listed_holder unique (Some s) one = holder_is_one S M unique k bytes s one.0 one.1 one.2 ∙ ap (λ o. given o [] (λ x. pid_of (s, x) ∷ [])) (sym one.1)

-- some other than that with a serial holds the key exactly where the holder is another
pub other_holds : (S : Schema) (M : Catalog) (k : KeyNo) (bytes : List ℕ) (s : ℕ) → IsUnique S M → (holder : Option ℕ) → IsHolder S M k bytes holder → list_any (λ p. not (p.serial == s)) (holders S M k bytes) ≡ given holder false (λ t. not (t == s))
other_holds S M k bytes s unique None none = ap (list_any (λ p. not (p.serial == s))) (listed_holder S M k bytes unique None none)
other_holds S M k bytes s unique (Some t) one =
    ap (list_any (λ p. not (p.serial == s))) (holder_is_one S M unique k bytes t one.0 one.1 one.2) ∙ by (not (t == s))
  where
    by : (b : Bool) → (b || false) ≡ b
    by true = refl
    by false = refl

-- the first of an object's keys that is taken, found among its pairs
pub first_of_pairs : (S : Schema) (M : Catalog) (s : ℕ) (object : Object) (keys : List KeyNo) → option_map (λ p. p.0) (find (is_held_by_other S M s) (keyed S object.values keys)) ≡ find (is_taken S M s object) keys
first_of_pairs S M s object [] = refl
first_of_pairs S M s object (k ∷ keys) = by (is_taken S M s object k) (first_of_pairs S M s object keys)
  where
    by : (b : Bool) → option_map (λ p. p.0) (find (is_held_by_other S M s) (keyed S object.values keys)) ≡ find (is_taken S M s object) keys
        → option_map (λ p. p.0) (cond b (Some (k, key_bytes S k object.values)) (find (is_held_by_other S M s) (keyed S object.values keys))) ≡ cond b (Some k) (find (is_taken S M s object) keys)
    by true rest = refl
    by false rest = rest
