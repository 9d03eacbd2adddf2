-- A thing is put behind a name.
use Rattle.std.proofs.Common.{ℕ, ◌≡◌, List, Option, Some, None, Bool, true, false, cond, refl, sym, ap, ◌∙◌}
use Rattle.std.specs.Option.{option_or}
use Rattle.std.specs.Str.{bytes_eq}
use Rattle.std.specs.Map.{KeepsOthers}
use Rattle.std.proofs.lemmas.Slice.Eq.{bytes_eq-Decides}
use Rattle.std.specs.declared.vec.Vec.{Vec}
use Rattle.schema_names.specs.Tables.{value_at, IsEntered}

same_bytes : (xs ys : List ℕ) → bytes_eq xs ys ≡ true → xs ≡ ys
same_bytes xs ys h = (bytes_eq-Decides xs ys).0 h

by_test : (P : Bool → Type 0) (b : Bool) → (b ≡ true → P true) → (b ≡ false → P false) → P b
by_test P true f g = f refl
by_test P false f g = g refl

or_none : {T : Type 0} (o : Option T) → o ≡ option_or o None
or_none None = refl
or_none (Some x) = refl

none_or : {T : Type 0} (o : Option T) (x : T) → o ≡ None → Some x ≡ option_or o (Some x)
none_or None x e = refl
none_or (Some y) x e = cc

module _ {Z T : Type 0} where
  pub entered : (name : List ℕ) (value : T) (old new : List (Vec ℕ Z × T)) → value_at old name ≡ None → value_at new name ≡ Some value → KeepsOthers (λ x y. bytes_eq x.items y.items) (λ k. bytes_eq name k.items) old new → IsEntered old new name value
  unfolding KeepsOthers
  entered name value old new absent here others q =
      by_test (λ b. bytes_eq q name ≡ b → value_at new q ≡ option_or (value_at old q) (cond b (Some value) None)) (bytes_eq q name)
      (λ e same. ap (λ (l : List ℕ). value_at new l) (same_bytes q name same) ∙ here ∙ none_or (value_at old q) value (ap (λ (l : List ℕ). value_at old l) (same_bytes q name same) ∙ absent))
      (λ e apart. others (λ k. bytes_eq q k.items) (λ x y at. ap (λ (l : List ℕ). bytes_eq l y.items) (same_bytes q x.items at)) (λ k at. ap (bytes_eq q) (sym (same_bytes name k.items at)) ∙ apart) ∙ or_none (value_at old q))
      refl
