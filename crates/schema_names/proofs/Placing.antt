-- The names of a home by its number.
use Rattle.std.proofs.Common.{ℕ, zero, suc, ◌≡◌, List, [], ◌∷◌, ◌++◌, length, find, position, slice_get, Option, Some, None, refl, sym, ◌∙◌, ap, subst, arith, ◌+◌, ◌-◌, IsSomeAnd, MatchOption, false, nat_lt, ltb-false, ltb-true, get_or, is_some, IfSome}
use Rattle.std.specs.Option.{option_map}
use Rattle.std.proofs.lemmas.Option.{slice_get_past, slice_get-get_or}
use Rattle.std.specs.Str.{bytes_eq}
use Rattle.type_layout.specs.declared.home.HomeNo.{HomeNo}
use Rattle.type_layout.specs.declared.key.Key.{Key}
use Rattle.type_layout.specs.declared.schema.Home.{Home}
use Rattle.type_layout.specs.declared.schema.Schema.{Schema}
use Rattle.type_layout.specs.Schemas.{given, nth, home_at}
use Rattle.pss_machine.specs.Names.{key_named, member_named}
use Rattle.schema_names.specs.Tables.{value_at}
use Rattle.schema_names.specs.declared.named.HomeNames.{HomeNames}
use Rattle.schema_names.specs.inner.Homes.{AreNamesOf, AreNamesOfAll, AreNamesAt}

-- a home without names is not there
pub none_at : (keys : List Key) (homes : List Home) (names : List HomeNames) (i : ℕ) → AreNamesOfAll keys homes names → slice_get names i ≡ None → slice_get homes i ≡ None
none_at keys [] [] i all e = refl
none_at keys (h ∷ hs) (n ∷ ns) zero all e = cc
none_at keys (h ∷ hs) (n ∷ ns) (suc i) all e = none_at keys hs ns i all.1 e
none_at keys [] (n ∷ ns) i all e = absurd all
none_at keys (h ∷ hs) [] i all e = absurd all

pub some_at : (keys : List Key) (homes : List Home) (names : List HomeNames) (i : ℕ) (n : HomeNames) → AreNamesOfAll keys homes names → slice_get names i ≡ Some n → IsSomeAnd (slice_get homes i) (λ home. AreNamesOf keys home n)
some_at keys [] [] i n all e = cc
some_at keys (h ∷ hs) (m ∷ ns) zero n all e = subst (λ (x : HomeNames). AreNamesOf keys h x) (of_some m n e) all.0
  where
    of_some : (a b : HomeNames) → Some a ≡ Some b → a ≡ b
    of_some a b e = cc
some_at keys (h ∷ hs) (m ∷ ns) (suc i) n all e = some_at keys hs ns i n all.1 e
some_at keys [] (m ∷ ns) i n all e = absurd all
some_at keys (h ∷ hs) [] i n all e = absurd all

-- the n-th of a list, from 1, is the one at the place before
pub nth_at : {A : Type 0} (xs : List A) (n : ℕ) → (n ≡ 0 → ⊥) → nth xs n ≡ slice_get xs (n - 1)
nth_at xs zero some = absurd (some refl)
nth_at xs (suc n) some = ap (slice_get xs) (let e : n ≡ suc n - 1 = omega arith in e)

pub matched : {A : Type 0} (f : A → HomeNames) (S : Schema) (names : List HomeNames) (h : HomeNo) → (h.0 ≡ 0 → ⊥) → AreNamesOfAll S.keys S.homes names → (o : Option A) → option_map f o ≡ slice_get names (h.0 - 1)
    → MatchOption o (home_at S h ≡ None) (λ a. AreNamesAt S h (f a))
matched f S names h some all None e = nth_at S.homes h.0 some ∙ none_at S.keys S.homes names (h.0 - 1) all (sym e)
matched f S names h some all (Some a) e = subst (λ (o : Option Home). IsSomeAnd o (λ home. AreNamesOf S.keys home (f a))) (sym (nth_at S.homes h.0 some)) (some_at S.keys S.homes names (h.0 - 1) (f a) all (sym e))

-- the home behind a number
pub home_behind : (homes : List Home) (i : ℕ) (home : Home) → slice_get homes i ≡ Some home → nth homes (i + 1) ≡ Some home
home_behind homes i home e = nth_at homes (i + 1) (λ z. omega (arith, z)) ∙ ap (slice_get homes) (let same : i + 1 - 1 ≡ i = omega arith in same) ∙ e

-- one home more
pub push_names : (keys : List Key) (homes : List Home) (names : List HomeNames) (home : Home) (n : HomeNames) → AreNamesOfAll keys homes names → AreNamesOf keys home n → AreNamesOfAll keys (homes ++ home ∷ []) (names ++ n ∷ [])
push_names keys [] [] home n all one = (one, tt)
push_names keys (h ∷ hs) (m ∷ ns) home n all one = (all.0, push_names keys hs ns home n all.1 one)
push_names keys [] (m ∷ ns) home n all one = absurd all
push_names keys (h ∷ hs) [] home n all one = absurd all

-- what a look-up gives
pub looked : {A B : Type 0} (f : A → B) (xs : List B) (i : ℕ) (o : Option A) → is_some o ≡ nat_lt i (length xs) → IfSome o (λ a. f a ≡ get_or xs i (f a)) → option_map f o ≡ slice_get xs i
looked f xs i None has is = sym (slice_get_past xs i (ltb-false i (length xs) (sym has)))
looked f xs i (Some a) has is = sym (slice_get-get_or xs i (f a) (ltb-true i (length xs) (sym has)) ∙ ap Some (sym is))

-- ---- what is found at a home

module _ (S : Schema) (h : HomeNo) (word : List ℕ) where
  module _ (names : HomeNames) where
    pub the_member : AreNamesAt S h names → value_at names.members.entries word ≡ member_named S h word
    the_member = by (home_at S h)
      where
        by : (o : Option Home) → IsSomeAnd o (λ home. AreNamesOf S.keys home names) → value_at names.members.entries word ≡ position (λ member. bytes_eq word member.name) (given o [] (λ home. home.layout.members))
        by None are = absurd are
        by (Some home) are = are.members word

    pub the_key : AreNamesAt S h names → value_at names.keys.entries word ≡ key_named S h word
    the_key = by (home_at S h)
      where
        by : (o : Option Home) → IsSomeAnd o (λ home. AreNamesOf S.keys home names) → value_at names.keys.entries word ≡ find (λ k. given (slice_get S.keys k.0) false (λ key. bytes_eq word key.name)) (given o [] (λ home. home.keys))
        by None are = absurd are
        by (Some home) are = are.keys_ word
