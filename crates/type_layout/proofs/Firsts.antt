-- The first declarations that declare factories of names.
use Rattle.std.proofs.Common.{ℕ, zero, suc, ◌+◌, ◌≡◌, ◌<◌, List, [], ◌∷◌, ◌++◌, length, map, take, find, get_or, Option, Some, None, Bool, true, false, cond, refl, sym, ap, subst, ◌∙◌, arith, is_some}
use Rattle.std.specs.BTreeMap.{BTreeMap}
use Rattle.std.specs.List.{position_from}
use Rattle.std.specs.Option.{option_or}
use Rattle.std.specs.Str.{bytes_eq}
use Rattle.std.specs.declared.vec.Vec.{Vec}
use Rattle.std.proofs.lemmas.List.Folds.{find-append}
use Rattle.type_layout.specs.declared.factories.DeclaredFactory.{DeclaredFactory}
use Rattle.type_layout.specs.Factories.{FactoryLines, declared_by}
use Rattle.type_layout.specs.NamePlaces.{place_in, IsEntered}
use Rattle.type_layout.specs.Schemas.{given}
use Rattle.type_layout.specs.inner.Searches.{declares, FindsFirsts, AreEntered}
use Rattle.type_layout.proofs.Named.{one_further}

-- ---- names are entered

nothing_more : {T : Type 0} (o : Option T) → option_or o None ≡ o
nothing_more None = refl
nothing_more (Some x) = refl

either : (o : Option ℕ) (number : ℕ) (d : Option DeclaredFactory) (b : Bool) (x : DeclaredFactory)
    → option_or (option_or o (cond (is_some d) (Some number) None)) (cond b (Some number) None) ≡ option_or o (cond (is_some (option_or d (cond b (Some x) None))) (Some number) None)
either None number None true x = refl
either None number None false x = refl
either None number (Some d) b x = refl
either (Some n) number d b x = refl

module _ {Z : Type 0} (old mid new : BTreeMap (Vec ℕ Z) ℕ) (number : ℕ) where
  pub one_entered : (fs gs : List DeclaredFactory) (f : DeclaredFactory) → gs ≡ fs ++ f ∷ [] → AreEntered old mid fs number → IsEntered mid new f.name number → AreEntered old new gs number
  one_entered fs gs f more are is word =
      let test : DeclaredFactory → Bool = λ g. bytes_eq word g.name in
      is word ∙ ap (λ o. option_or o (cond (bytes_eq word f.name) (Some number) None)) (are word)
      ∙ either (place_in old word) number (find test fs) (bytes_eq word f.name) f
      ∙ ap (λ o. option_or (place_in old word) (cond (is_some o) (Some number) None)) (sym (ap (find test) more ∙ find-append test fs (f ∷ [])))

module _ {X Z : Type 0} (made : X → List DeclaredFactory) (old new : BTreeMap (Vec ℕ Z) ℕ) (xs : List X) (i : ℕ) (x : X) where
  -- those of one more declaration
  pub one_list_more : i < length xs → get_or xs i x ≡ x → FindsFirsts old (map made (take i xs)) → AreEntered old new (made x) i → FindsFirsts new (map made (take (i + 1) xs))
  one_list_more within there finds are word =
      are word ∙ ap (λ o. option_or o (cond (declares word (made x)) (Some i) None)) (finds word) ∙ one_further made (declares word) xs i x within there

-- ---- in front of the first there is none

not_some : {T : Type 0} (o : Option T) → is_some o ≡ false → o ≡ None
not_some None h = refl
not_some (Some x) h = absurd (cc)

-- how far one looks in vain
abbrev bound : Option ℕ → ℕ → ℕ
bound o n = given o (suc n) (λ p. p)

in_front : {X : Type 0} (test : X → Bool) (other : X) → test other ≡ false → (xs : List X) (i n k : ℕ) → k ≡ n + i → k < bound (position_from test i xs) k → test (get_or xs n other) ≡ false
in_front test other off [] i n k e lt = off
in_front test other off (x ∷ xs) i n k e lt = by (test x) refl lt n e (λ m is behind. in_front test other off xs (i + 1) m k is behind)
  where
    by : (b : Bool) → test x ≡ b → k < bound (cond b (Some i) (position_from test (i + 1) xs)) k → (n : ℕ) → k ≡ n + i
        → ((m : ℕ) → k ≡ m + (i + 1) → k < bound (position_from test (i + 1) xs) k → test (get_or xs m other) ≡ false) → test (get_or (x ∷ xs) n other) ≡ false
    by true t lt n e rest = absurd (omega (arith, lt, e))
    by false t lt zero e rest = t
    by false t lt (suc n) e rest = rest n (omega (arith, e)) lt

-- the same of what a table has
pub none_in_front : {Z : Type 0} (names : BTreeMap (Vec ℕ Z) ℕ) (lines : FactoryLines) (lists : List (List DeclaredFactory)) (word : List ℕ) (place : Option ℕ) → FindsFirsts names lists → lists ≡ lines.declared
    → place ≡ place_in names word → (n : ℕ) → n < bound place n → find (λ f. bytes_eq word f.name) (declared_by lines n) ≡ None
none_in_front names lines lists word place finds same has n lt =
    not_some (find (λ f. bytes_eq word f.name) (declared_by lines n))
    (in_front (declares word) [] refl lines.declared 0 n n (omega arith) (subst (λ o. n < bound o n) (has ∙ finds word ∙ ap (position_from (declares word) 0) same) lt))
