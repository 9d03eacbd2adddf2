-- Scoped names by number.
use Rattle.std.proofs.Common.{ℕ, zero, suc, nat_lt, ◌+◌, ◌≡◌, ◌<◌, ◌≤◌, List, [], ◌∷◌, ◌++◌, length, get_or, Option, Some, None, Bool, true, false, cond, codes, refl, sym, ap, ◌∙◌, arith, length-append, IfSome}
use Rattle.std.specs.List.{slice_get}
use Rattle.std.specs.Option.{option_map, option_and_then}
use Rattle.std.proofs.lemmas.Option.{slice_get_within, slice_get-get_or, slice_get_past, slice_get_read, get_or_from_slice_get}
use Rattle.std.proofs.Math.ListN.{get_or-append}
use Rattle.std.proofs.lemmas.List.{get_or_past}
use Rattle.type_layout.specs.declared.scopes.Scope.{Scope}
use Rattle.type_layout.specs.declared.scopes.ScopeNo.{ScopeNo}
use Rattle.type_layout.specs.Scopes.{behind, name_at, names_after, scoped_names, IsBehind}
use Rattle.type_layout.specs.inner.Lower.{lower}

abbrev name_of : List (List ℕ) → Scope → List ℕ
name_of names s = behind (option_and_then (λ o. slice_get names o.0) s.outer) s.name

longer : (names : List (List ℕ)) (s : Scope) → length (names ++ name_of names s ∷ []) ≡ length names + 1
longer names s = length-append names (name_of names s ∷ [])

length-names_after : (names : List (List ℕ)) (scopes : List Scope) → length (names_after names scopes) ≡ length names + length scopes
length-names_after names [] = omega arith
length-names_after names (s ∷ rest) = omega (arith, length-names_after (names ++ name_of names s ∷ []) rest, longer names s)

pub length-scoped_names : (scopes : List Scope) → length (scoped_names scopes) ≡ length scopes
unfolding scoped_names
length-scoped_names scopes = omega (arith, length-names_after [] scopes)

-- what is there stays
kept : (names : List (List ℕ)) (scopes : List Scope) (n : ℕ) → n < length names → get_or (names_after names scopes) n [] ≡ get_or names n []
kept names [] n within = refl
kept names (s ∷ rest) n within = kept (names ++ name_of names s ∷ []) rest n (omega (arith, within, longer names s)) ∙ get_or-append names _ [] n within

-- ---- one more

after-append : (names : List (List ℕ)) (scopes : List Scope) (s : Scope) → names_after names (scopes ++ s ∷ []) ≡ names_after names scopes ++ name_of (names_after names scopes) s ∷ []
after-append names [] s = refl
after-append names (x ∷ xs) s = after-append (names ++ name_of names x ∷ []) xs s

pub scoped_names-push : (scopes : List Scope) (s : Scope) → scoped_names (scopes ++ s ∷ []) ≡ scoped_names scopes ++ name_of (scoped_names scopes) s ∷ []
unfolding scoped_names
scoped_names-push scopes s = after-append [] scopes s

-- ---- each by the one that it stands in

-- the scope round one, of those that are there, has the name that it has in the end
round : (names all : List (List ℕ)) (outer : Option ScopeNo) → ((n : ℕ) → n < length names → get_or all n [] ≡ get_or names n []) → (n : ScopeNo) → n.0 ≡ length names
    → option_and_then (λ o. slice_get names o.0) outer ≡ option_map (name_at all) (lower outer n)
round names all None stays n is = refl
round names all (Some o) stays n is = by_test (nat_lt o.0 n.0) refl
  where
    by_test : (b : Bool) → nat_lt o.0 n.0 ≡ b → slice_get names o.0 ≡ option_map (name_at all) (cond b (Some o) None)
    by_test true lt =
        let within : o.0 < length names = grind (arith, lt, is) in
        slice_get-get_or names o.0 [] within ∙ ap Some (sym (stays o.0 within))
    by_test false ge = slice_get_past names o.0 (grind (arith, ge, is))

named : (names : List (List ℕ)) (scopes : List Scope) (i : ℕ) (s : Scope) (n : ScopeNo) → slice_get scopes i ≡ Some s → n.0 ≡ length names + i
    → get_or (names_after names scopes) n.0 [] ≡ behind (option_map (name_at (names_after names scopes)) (lower s.outer n)) s.name
named names [] i s n there is = absurd (none there)
  where
    none : slice_get [] i ≡ Some s → ⊥
    none e = cc
named names (x ∷ xs) zero s n there is =
    let all = names_after names (x ∷ xs) in
    let here : n.0 ≡ length names = omega (arith, is) in
    let same : x ≡ s = some_is there in
    let at : get_or all n.0 [] ≡ name_of names x = rw here (kept (names ++ name_of names x ∷ []) xs (length names) (omega (arith, longer names x)) ∙ last names (name_of names x)) in
    at ∙ ap (λ (s : Scope). name_of names s) same ∙ ap (λ o. behind o s.name) (round names all s.outer (λ k within. kept names (x ∷ xs) k within) n here)
  where
    some_is : {X : Type 0} {a b : X} → Some a ≡ Some b → a ≡ b
    some_is e = cc

    last : (xs : List (List ℕ)) (y : List ℕ) → get_or (xs ++ y ∷ []) (length xs) [] ≡ y
    last [] y = refl
    last (x ∷ xs) y = last xs y
named names (x ∷ xs) (suc i) s n there is = named (names ++ name_of names x ∷ []) xs i s n there (omega (arith, is, longer names x))

pub is_behind : (scopes : List Scope) (s : Scope) (n : ScopeNo) → slice_get scopes n.0 ≡ Some s → IsBehind (scoped_names scopes) n (lower s.outer n) s.name
unfolding scoped_names
is_behind scopes s n there = record {
  is = slice_get-get_or (names_after [] scopes) n.0 [] (omega (arith, slice_get_within scopes n.0 s there, length-names_after [] scopes)) ∙ ap Some (named [] scopes n.0 s n there (omega arith));
  before = is_before s.outer;
}
  where
    is_before : (outer : Option ScopeNo) → IfSome (lower outer n) (λ o. o.0 < n.0)
    is_before None = tt
    is_before (Some o) = by_test (nat_lt o.0 n.0) refl
      where
        by_test : (b : Bool) → nat_lt o.0 n.0 ≡ b → IfSome (cond b (Some o) None) (λ o. o.0 < n.0)
        by_test true lt = grind (arith, lt)
        by_test false ge = tt

pub is_there : {X : Type 0} (xs : List X) (n : ℕ) (x : X) → true ≡ nat_lt n (length xs) → x ≡ get_or xs n x → slice_get xs n ≡ Some x
is_there xs n x lt is = slice_get_read xs (length xs) n x refl (grind (arith, lt)) is

pub is_not_there : {X : Type 0} (xs : List X) (n : ℕ) → false ≡ nat_lt n (length xs) → slice_get xs n ≡ None
is_not_there xs n ge = slice_get_past xs n (grind (arith, ge))

pub none_there : (scopes : List Scope) (n : ℕ) → slice_get scopes n ≡ None → slice_get (scoped_names scopes) n ≡ None
none_there scopes n none = by_cases (nat_lt n (length scopes)) refl
  where
    by_cases : (b : Bool) → nat_lt n (length scopes) ≡ b → slice_get (scoped_names scopes) n ≡ None
    by_cases true lt = absurd (past scopes n (grind (arith, lt)) none)
      where
        past : (xs : List Scope) (n : ℕ) → n < length xs → slice_get xs n ≡ None → ⊥
        past [] n within e = omega (arith, within)
        past (x ∷ xs) zero within e = cc
        past (x ∷ xs) (suc n) within e = past xs n (omega (arith, within)) e
    by_cases false ge = slice_get_past (scoped_names scopes) n (let e : length scopes ≤ n = grind (arith, ge) in omega (arith, e, length-scoped_names scopes))

-- a scope that is not there has no name
pub no_name : (names : List (List ℕ)) (n : ScopeNo) → slice_get names n.0 ≡ None → name_at names n ≡ []
no_name names n none = by_cases (nat_lt n.0 (length names)) refl
  where
    by_cases : (b : Bool) → nat_lt n.0 (length names) ≡ b → get_or names n.0 [] ≡ []
    by_cases true lt = absurd (never (sym (slice_get-get_or names n.0 [] (grind (arith, lt))) ∙ none))
      where
        never : {x : List ℕ} → Some x ≡ None → ⊥
        never e = cc
    by_cases false ge = get_or_past names n.0 [] (grind (arith, ge))

-- the name of a scope that is there
pub its_name : (names : List (List ℕ)) (n : ScopeNo) (name : List ℕ) → slice_get names n.0 ≡ Some name → name_at names n ≡ name
its_name names n name there = get_or_from_slice_get names n.0 name [] there

-- the name of one that stands in another
pub within : (names : List (List ℕ)) (n : ScopeNo) (outer : Option ScopeNo) (o : ScopeNo) (name : List ℕ) → IsBehind names n outer name → outer ≡ Some o → name_at names n ≡ name_at names o ++ codes "::" ++ name
within names n outer o name b is = its_name names n _ b.is ∙ ap (λ (x : Option ScopeNo). behind (option_map (name_at names) x) name) is
