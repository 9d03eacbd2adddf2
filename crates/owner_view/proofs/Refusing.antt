-- An object that is stored unless it is refused.
use Rattle.std.proofs.Common.{◌≡◌, ℕ, Bool, true, false, cond, List, [], ◌∷◌, length, Option, Some, None, refl, sym, ap, ◌∙◌}
use Rattle.std.specs.Prelude.{find, nat_lt, if◌then◌else◌}
use Rattle.std.specs.Option.{option_map}
use Rattle.type_layout.specs.declared.key.KeyNo.{KeyNo}
use Rattle.type_layout.specs.declared.schema.Schema.{Schema}
use Rattle.type_layout.specs.Schemas.{given, keys_at}
use Rattle.pss_catalog.specs.Catalog.{Object, Catalog, object_spelling}
use Rattle.pss_machine.specs.Operations.{PlainAnswer, Duplicate, TooLarge}
use Rattle.pss_machine.specs.Alone.{Outcome, answers, first_taken, stored}
use Rattle.owner_view.specs.declared.refusal.Refusal.{Refusal}
use Rattle.owner_view.specs.declared.refusal.Refusal.TheVariants as refusal
use Rattle.owner_view.specs.Keyed.{Pair, all_keyed}
use Rattle.owner_view.specs.Views.{is_held_by_other}
use Rattle.owner_view.specs.Refusal.{unless_refused}
use Rattle.owner_view.proofs.Holding.{first_of_pairs}

module _ (S : Schema) (V : Catalog) (serial : ℕ) (object : Object) (pairs : List Pair) (all : pairs ≡ all_keyed S object) (done : PlainAnswer) where
  taken_is : (r : Option KeyNo) → r ≡ option_map (λ p. p.0) (find (is_held_by_other S V serial) pairs) → first_taken S V serial object ≡ r
  taken_is r is = sym (is ∙ ap (λ (l : List Pair). option_map (λ p. p.0) (find (is_held_by_other S V serial) l)) all ∙ first_of_pairs S V serial object (keys_at S object.home))

  abbrev behind : Option KeyNo → Outcome
  behind o = given o (if nat_lt 8000 (length (object_spelling S object)) then answers TooLarge else record { changes = record { serial = serial; state = Some object } ∷ []; answer = done }) (λ k. answers (Duplicate k))

  pub refused_key : (key : KeyNo) → Some key ≡ option_map (λ p. p.0) (find (is_held_by_other S V serial) pairs) → answers (Duplicate key) ≡ stored S V serial object done
  refused_key key is = sym (ap behind (taken_is (Some key) is))

  pub refused_size : (r : Option Refusal) → None ≡ option_map (λ p. p.0) (find (is_held_by_other S V serial) pairs) → r ≡ (if nat_lt 8000 (length (object_spelling S object)) then Some refusal.TooLarge else None) → unless_refused r serial object done ≡ stored S V serial object done
  refused_size r is size = ap (λ o. unless_refused o serial object done) size ∙ by (nat_lt 8000 (length (object_spelling S object))) ∙ sym (ap behind (taken_is None is))
    where
      by : (b : Bool) → unless_refused (cond b (Some refusal.TooLarge) None) serial object done ≡ cond b (answers TooLarge) (record { changes = record { serial = serial; state = Some object } ∷ []; answer = done })
      by true = refl
      by false = refl
