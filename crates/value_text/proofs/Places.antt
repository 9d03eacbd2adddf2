-- The place of a name.
use Rattle.std.proofs.Common.{ℕ, ◌≡◌, ◌∙◌, List, Bool, true, false, refl, sym}
use Rattle.std.specs.List.{position, position_from}
use Rattle.std.specs.Str.{bytes_eq}
use Rattle.std.proofs.lemmas.Iterator.Adapters.{position_from-zero}
use Rattle.std.proofs.lemmas.Slice.Eq.{bytes_eq-Decides}
use Rattle.type_layout.specs.NamePlaces.{place_among}

either_way : (xs ys : List ℕ) → bytes_eq xs ys ≡ bytes_eq ys xs
either_way xs ys = by (bytes_eq xs ys) (bytes_eq ys xs) refl refl
  where
    turned : (ns ms : List ℕ) → bytes_eq ns ms ≡ true → bytes_eq ms ns ≡ true
    turned ns ms h = (bytes_eq-Decides ms ns).1 (sym ((bytes_eq-Decides ns ms).0 h))

    by : (one other : Bool) → bytes_eq xs ys ≡ one → bytes_eq ys xs ≡ other → one ≡ other
    by true other e f = sym (turned xs ys e) ∙ f
    by false true e f = sym e ∙ turned ys xs f
    by false false e f = refl

-- the name first or the word
pub place_is : (names : List (List ℕ)) (word : List ℕ) → position (λ name. bytes_eq name word) names ≡ place_among names word
place_is names word = position_from-zero (λ name. bytes_eq name word) names ∙ (λ i. position_from (λ name. either_way name word i) 0 names)
