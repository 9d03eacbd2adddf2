-- The extents of all homes, where that of one home changes.
use Rattle.std.proofs.Common.{ℕ, zero, suc, ◌-◌, ◌≡◌, ◌<◌, ◌≤◌, ◌==◌, List, length, Some, None, Bool, true, false, inl, inr, cond, set, get_or, refl, sym, ap, ◌∙◌, arith}
use Rattle.std.specs.Prelude.{◌&&◌}
use Rattle.std.specs.BTreeMap.{BTreeMap}
use Rattle.std.proofs.lemmas.Option.{slice_get_past}
use Rattle.type_layout.specs.Schemas.{given, nth}
use Rattle.pss_catalog.proofs.Forest.{Compared, compared}
use Rattle.storage_home.specs.declared.extents.Block.{Block}
use Rattle.storage_home.specs.Extents.{is_entered_at, is_entered_in}
use Rattle.storage_home.proofs.Places.{by_test, same_number}
use Rattle.storage_home.proofs.Raising.{nth_set, nth_here}

module _ {X : Type 0} (part : X → ℕ → Bool) (xs : List X) (home : ℕ) (pos : 0 < home) (there : home ≤ length xs) (d new : X) where
  here : (h : ℕ) → (home == h) ≡ true → (s : ℕ) → given (nth xs h) false (λ e. part e s) ≡ part (get_or xs (home - 1) d) s
  here h same s = ap (λ (n : ℕ). given (nth xs n) false (λ e. part e s)) (sym (same_number home h same)) ∙ ap (λ o. given o false (λ e. part e s)) (nth_here xs home d pos there)

  pub home_turned :
      (serial : ℕ) (b : Bool) → ((s : ℕ) → part new s ≡ cond (serial == s) b (part (get_or xs (home - 1) d) s)) → (h s : ℕ)
      → given (nth (set xs (home - 1) new) h) false (λ e. part e s) ≡ cond ((home == h) && (serial == s)) b (given (nth xs h) false (λ e. part e s))
  home_turned serial b turns h s =
      ap (λ o. given o false (λ e. part e s)) (nth_set xs home h new pos there)
      ∙ by_test (λ t. (home == h) ≡ t → given (cond t (Some new) (nth xs h)) false (λ e. part e s) ≡ cond (t && (serial == s)) b (given (nth xs h) false (λ e. part e s))) (home == h)
      (λ _ same. turns s ∙ ap (cond (serial == s) b) (sym (here h same s)))
      (λ _ _. refl)
      refl

  pub home_kept : ((s : ℕ) → part new s ≡ part (get_or xs (home - 1) d) s) → (h s : ℕ) → given (nth (set xs (home - 1) new) h) false (λ e. part e s) ≡ given (nth xs h) false (λ e. part e s)
  home_kept same h s =
      ap (λ o. given o false (λ e. part e s)) (nth_set xs home h new pos there)
      ∙ by_test (λ t. (home == h) ≡ t → given (cond t (Some new) (nth xs h)) false (λ e. part e s) ≡ given (nth xs h) false (λ e. part e s)) (home == h)
      (λ _ is. same s ∙ sym (here h is s))
      (λ _ _. refl)
      refl

nth_past : {X : Type 0} (xs : List X) (home : ℕ) → length xs < home → nth xs home ≡ None
nth_past xs zero over = absurd (omega (arith, over))
nth_past xs (suc h) over = slice_get_past xs h (omega (arith, over))

module _ (extents : List (BTreeMap ℕ Block)) where
  pub entered_some : (home s : ℕ) → is_entered_in extents home s ≡ true → 0 < home
  entered_some zero s has = cc
  entered_some (suc h) s has = omega arith

  pub entered_within : (home s : ℕ) → is_entered_in extents home s ≡ true → home ≤ length extents
  entered_within home s has = by (compared home (length extents))
    where
      by : Compared home (length extents) → home ≤ length extents
      by (inl less) = omega (arith, less)
      by (inr (inl is)) = omega (arith, is)
      by (inr (inr more)) = let none = sym has ∙ ap (λ o. given o false (λ (e : BTreeMap ℕ Block). is_entered_at s e.entries)) (nth_past extents home more) in cc
