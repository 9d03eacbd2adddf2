-- Provisions are found by the hashes of what they are called.
use Rattle.std.proofs.Common.{ℕ, zero, suc, ◌+◌, ◌≡◌, ◌<◌, inl, inr, List, [], ◌∷◌, ◌++◌, length, map, take, find, position, get_or, Option, Some, None, Bool, true, false, cond, eqb, is_some, IsSome, nat_lt, refl, sym, ap, subst, ◌∙◌, arith, length-take-le, eqb-true, eq-eqb, true≢false, take-append-drop, drop}
use Rattle.std.specs.List.{slice_get, position_or_len, position_from}
use Rattle.std.specs.Map.{lookup}
use Rattle.std.specs.Option.{option_map, option_and_then, option_or, unwrap_or}
use Rattle.std.proofs.lemmas.List.Folds.{find_at}
use Rattle.std.proofs.lemmas.Option.{slice_get_past, slice_get-map, slice_get-get_or, get_or_from_slice_get}
use Rattle.std.proofs.lemmas.Iterator.Adapters.{position_from-zero}
use Rattle.std.proofs.lemmas.Slice.Eq.{bytes_eq-Decides}
use Rattle.type_layout.specs.declared.provided.Provision.{Provision}
use Rattle.type_layout.specs.Scopes.{Provided, full_name, provided_in}
use Rattle.schema_names.specs.Found.{home_provided}
use Rattle.schema_names.specs.inner.Hashed.{hash_of, is_called, is_called_at, under, IsPut, AreFound}
use Rattle.schema_names.proofs.Hashing.{length-map}
use Rattle.schema_names.proofs.Finding.{position-push, find-push, taken_one_more}

not_there : (list : List Provided) (i : ℕ) → i < length list → slice_get list i ≡ None → ⊥
not_there [] i within e = omega (arith, within)
not_there (x ∷ xs) zero within e = cc
not_there (x ∷ xs) (suc i) within e = not_there xs i (omega (arith, within)) e

of_slice : (list : List Provided) (i : ℕ) (p : Provided) → slice_get list i ≡ Some p → get_or list i p ≡ p
of_slice list i p e = get_or_from_slice_get list i p p e

by_test : (P : Bool → Type 0) (b : Bool) → (b ≡ true → P true) → (b ≡ false → P false) → P b
by_test P true f g = f refl
by_test P false f g = g refl

some_none : {T : Type 0} {x : T} → Some x ≡ None → ⊥
some_none e = cc

not_some : {T : Type 0} {o : Option T} → IsSome o → o ≡ None → ⊥
not_some {T} {o} is none = no (sym is ∙ ap is_some none)
  where
    no : true ≡ false → ⊥
    no e = cc

or_none : {T : Type 0} (o : Option T) → option_or o None ≡ o
or_none None = refl
or_none (Some x) = refl

or_or : {T : Type 0} (a b c : Option T) → option_or a (option_or b c) ≡ option_or (option_or a b) c
or_or None b c = refl
or_or (Some x) b c = refl

lookup-push : (test : ℕ → Bool) (es : List (ℕ × ℕ)) (k v : ℕ) → lookup test (es ++ (k, v) ∷ []) ≡ option_or (lookup test es) (cond (test k) (Some v) None)
lookup-push test [] k v = by (test k)
  where
    by : (b : Bool) → cond b (Some v) None ≡ option_or None (cond b (Some v) None)
    by b = refl
lookup-push test (e ∷ es) k v = by (test e.0) (lookup-push test es k v)
  where
    by : (b : Bool) → lookup test (es ++ (k, v) ∷ []) ≡ option_or (lookup test es) (cond (test k) (Some v) None) → cond b (Some e.1) (lookup test (es ++ (k, v) ∷ [])) ≡ option_or (cond b (Some e.1) (lookup test es)) (cond (test k) (Some v) None)
    by true h = refl
    by false h = h

-- a word that the provision is called has its hash
same_hash : (word : List ℕ) (p : Provided) → is_called word p ≡ true → hash_of word ≡ hash_of (full_name p)
same_hash word p e = ap hash_of ((bytes_eq-Decides word (full_name p)).0 e)

module _ (list : List Provided) where
  at : (word : List ℕ) (place : ℕ) (p : Provided) → slice_get list place ≡ Some p → is_called_at list word place ≡ is_called word p
  at word place p there = ap (λ o. unwrap_or (option_map (is_called word) o) false) there

  -- one more provision
  module _ (i : ℕ) (p : Provided) (firsts firsts_new : List (ℕ × ℕ)) (others others_new : List ℕ) (within : i < length list) (there : slice_get list i ≡ Some p) (all : AreFound i list firsts others) where
    abbrev before : List ℕ → Option ℕ
    before word = position (is_called word) (take i list)

    grown : (word : List ℕ) → position (is_called word) (take (i + 1) list) ≡ option_or (before word) (cond (is_called word p) (Some i) None)
    grown word =
        ap (position (is_called word)) (taken_one_more list i p within (of_slice list i p there)) ∙ position-push (is_called word) (take i list) p
        ∙ ap (λ n. option_or (before word) (cond (is_called word p) (Some n) None)) (length-take-le i list (omega (arith, within)))

    abbrev c : List ℕ → Option ℕ
    c word = cond (is_called word p) (Some i) None

    otherwise : (word : List ℕ) → (hash_of word ≡ hash_of (full_name p) → ⊥) → c word ≡ None
    otherwise word apart = by_test (λ b. is_called word p ≡ b → cond b (Some i) None ≡ None) (is_called word p) (λ e _. absurd (apart (same_hash word p e))) (λ e _. refl) refl

    stays : (word : List ℕ) → c word ≡ None → position (is_called word) (take (i + 1) list) ≡ before word
    stays word none = grown word ∙ ap (option_or (before word)) none ∙ or_none (before word)

    -- under a new hash
    module _ (new : lookup (eqb (hash_of (full_name p))) firsts ≡ None) (put : firsts_new ≡ firsts ++ (hash_of (full_name p), i) ∷ []) (same : others_new ≡ others) where
      abbrev is_new : List ℕ → Bool
      is_new word = eqb (hash_of word) (hash_of (full_name p))

      looked : (word : List ℕ) (b : Bool) → is_new word ≡ b → lookup (eqb (hash_of word)) firsts_new ≡ option_or (lookup (eqb (hash_of word)) firsts) (cond b (Some i) None)
      looked word b e = ap (lookup (eqb (hash_of word))) put ∙ lookup-push (eqb (hash_of word)) firsts (hash_of (full_name p)) i ∙ ap (λ b. option_or (lookup (eqb (hash_of word)) firsts) (cond b (Some i) None)) e

      -- a word with the new hash named none before
      fresh : (word : List ℕ) → is_new word ≡ true → lookup (eqb (hash_of word)) firsts ≡ None
      fresh word e = ap (λ h. lookup (eqb h) firsts) (eqb-true (hash_of word) (hash_of (full_name p)) e) ∙ new

      apart : (word : List ℕ) → is_new word ≡ false → hash_of word ≡ hash_of (full_name p) → ⊥
      apart word e is = true≢false (sym (eq-eqb (hash_of word) (hash_of (full_name p)) is) ∙ e)

      abbrev among : List ℕ → Option ℕ
      among word = find (is_called_at list word) others

      with_new : (word : List ℕ) → is_new word ≡ true → option_or (under list word (lookup (eqb (hash_of word)) firsts_new)) (among word) ≡ position (is_called word) (take (i + 1) list)
      with_new word e =
          let none_before : before word ≡ None = all.hashed word (fresh word e) in
          let none_among : among word ≡ None = ap (λ o. option_or (under list word o) (among word)) (sym (fresh word e)) ∙ all.found word ∙ none_before in
          ap (λ o. option_or (under list word o) (among word)) (looked word true e ∙ ap (λ o. option_or o (Some i)) (fresh word e))
          ∙ ap (λ b. option_or (cond b (Some i) None) (among word)) (at word i p there) ∙ ap (option_or (c word)) none_among ∙ or_none (c word) ∙ ap (λ o. option_or o (c word)) (sym none_before) ∙ sym (grown word)

      without : (word : List ℕ) → is_new word ≡ false → option_or (under list word (lookup (eqb (hash_of word)) firsts_new)) (among word) ≡ position (is_called word) (take (i + 1) list)
      without word e =
          ap (λ o. option_or (under list word o) (among word)) (looked word false e ∙ or_none (lookup (eqb (hash_of word)) firsts)) ∙ all.found word ∙ sym (stays word (otherwise word (apart word e)))

      pub under_new : AreFound (i + 1) list firsts_new others_new
      under_new = record {
        found = λ word.
            ap (λ (l : List ℕ). option_or (under list word (lookup (eqb (hash_of word)) firsts_new)) (find (is_called_at list word) l)) same
            ∙ by_test (λ b. option_or (under list word (lookup (eqb (hash_of word)) firsts_new)) (among word) ≡ position (is_called word) (take (i + 1) list)) (is_new word) (with_new word) (without word);
        hashed = λ word none.
            by_test (λ b. position (is_called word) (take (i + 1) list) ≡ None) (is_new word)
            (λ e. absurd (some_none (sym (looked word true e ∙ ap (λ o. option_or o (Some i)) (fresh word e)) ∙ none)))
            (λ e. stays word (otherwise word (apart word e)) ∙ all.hashed word (sym (looked word false e ∙ or_none (lookup (eqb (hash_of word)) firsts)) ∙ none));
      }

    -- with the others
    module _ (some : IsSome (lookup (eqb (hash_of (full_name p))) firsts)) (same : firsts_new ≡ firsts) (put : others_new ≡ others ++ i ∷ []) where
      pub with_others : AreFound (i + 1) list firsts_new others_new
      with_others = record {
        found = λ word.
            ap (λ (l : List (ℕ × ℕ)). option_or (under list word (lookup (eqb (hash_of word)) l)) (find (is_called_at list word) others_new)) same
            ∙ ap (λ (l : List ℕ). option_or (under list word (lookup (eqb (hash_of word)) firsts)) (find (is_called_at list word) l)) put
            ∙ ap (option_or (under list word (lookup (eqb (hash_of word)) firsts))) (find-push (is_called_at list word) others i ∙ ap (λ b. option_or (find (is_called_at list word) others) (cond b (Some i) None)) (at word i p there))
            ∙ or_or (under list word (lookup (eqb (hash_of word)) firsts)) (find (is_called_at list word) others) (c word) ∙ ap (λ o. option_or o (c word)) (all.found word) ∙ sym (grown word);
        hashed = λ word none.
            let none_old : lookup (eqb (hash_of word)) firsts ≡ None = ap (λ (l : List (ℕ × ℕ)). lookup (eqb (hash_of word)) l) (sym same) ∙ none in
            stays word (otherwise word (λ e. not_some (subst (λ h. IsSome (lookup (eqb h) firsts)) (sym e) some) none_old)) ∙ all.hashed word none_old;
      }

    pub one_more : IsPut firsts firsts_new others others_new (hash_of (full_name p)) i → AreFound (i + 1) list firsts_new others_new
    one_more (inl x) = under_new x.0 x.1 x.2
    one_more (inr x) = with_others x.0 x.1 x.2

-- ---- what is found

-- a home by the place of its provision
pub home_at_place : (list : List Provided) (word : List ℕ) → option_and_then (λ place. option_map (λ (p : Provided). p.home) (slice_get list place)) (position (is_called word) list) ≡ home_provided list word
home_at_place list word = by (position_or_len (is_called word) list) (nat_lt (position_or_len (is_called word) list) (length list)) refl (find_at (is_called word) list)
  where
    by : (n : ℕ) (b : Bool) → nat_lt n (length list) ≡ b → find (is_called word) list ≡ slice_get list n
        → option_and_then (λ place. option_map (λ (p : Provided). p.home) (slice_get list place)) (cond b (Some n) None) ≡ option_map (λ (p : Provided). p.home) (find (is_called word) list)
    by n true lt e = ap (option_map (λ (p : Provided). p.home)) (sym e)
    by n false ge e = ap (option_map (λ (p : Provided). p.home)) (sym (e ∙ slice_get_past list n (grind (arith, ge))))

-- ---- by a walk

pub not_yet : (list : List Provided) (word : List ℕ) (i : ℕ) → i < length list → position (is_called word) (take i list) ≡ None → is_called_at list word i ≡ false → position (is_called word) (take (i + 1) list) ≡ None
not_yet list word i within none other = by (slice_get list i) refl
  where
    by : (o : Option Provided) → slice_get list i ≡ o → position (is_called word) (take (i + 1) list) ≡ None
    by None e = absurd (not_there list i within e)
    by (Some p) e =
        let called : is_called word p ≡ false = ap (λ o. unwrap_or (option_map (is_called word) o) false) (sym e) ∙ other in
        ap (position (is_called word)) (taken_one_more list i p within (of_slice list i p e)) ∙ position-push (is_called word) (take i list) p
        ∙ ap (λ o. option_or o (cond (is_called word p) (Some (length (take i list))) None)) none ∙ ap (λ b. cond b (Some (length (take i list))) None) called

-- the first of a list is that of its front
from_front : (test : Provided → Bool) (i n : ℕ) (xs ys : List Provided) → position_from test i xs ≡ Some n → position_from test i (xs ++ ys) ≡ Some n
from_front test i n [] ys e = absurd (some_none (sym e))
from_front test i n (x ∷ xs) ys e = by (test x) e (from_front test (i + 1) n xs ys)
  where
    by : (b : Bool) → cond b (Some i) (position_from test (i + 1) xs) ≡ Some n → (position_from test (i + 1) xs ≡ Some n → position_from test (i + 1) (xs ++ ys) ≡ Some n) → cond b (Some i) (position_from test (i + 1) (xs ++ ys)) ≡ Some n
    by true e rest = e
    by false e rest = rest e

of_front : (test : Provided → Bool) (n : ℕ) (xs ys : List Provided) → position test xs ≡ Some n → position test (xs ++ ys) ≡ Some n
of_front test n xs ys e = position_from-zero test (xs ++ ys) ∙ from_front test 0 n xs ys (sym (position_from-zero test xs) ∙ e)

-- the first that is called so
pub at_last : (list : List Provided) (word : List ℕ) (i : ℕ) → i < length list → position (is_called word) (take i list) ≡ None → is_called_at list word i ≡ true → Some i ≡ position (is_called word) list
at_last list word i within none so = by (slice_get list i) refl
  where
    by : (o : Option Provided) → slice_get list i ≡ o → Some i ≡ position (is_called word) list
    by None e = absurd (not_there list i within e)
    by (Some p) e =
        let called : is_called word p ≡ true = ap (λ o. unwrap_or (option_map (is_called word) o) false) (sym e) ∙ so in
        let first : position (is_called word) (take (i + 1) list) ≡ Some i =
        ap (position (is_called word)) (taken_one_more list i p within (of_slice list i p e)) ∙ position-push (is_called word) (take i list) p
        ∙ ap (λ o. option_or o (cond (is_called word p) (Some (length (take i list))) None)) none ∙ ap (λ b. cond b (Some (length (take i list))) None) called ∙ ap Some (length-take-le i list (omega (arith, within))) in
        sym (ap (position (is_called word)) (sym (take-append-drop (i + 1) list)) ∙ of_front (is_called word) i (take (i + 1) list) (drop (i + 1) list) first)

-- a hash that is not there leads nowhere
pub absent : (test : ℕ → Bool) (es : List (ℕ × ℕ)) → is_some (lookup test es) ≡ false → lookup test es ≡ None
absent test es missing = by (lookup test es) missing
  where
    by : (o : Option ℕ) → is_some o ≡ false → o ≡ None
    by None e = refl
    by (Some x) e = cc

-- as many are provided as there are provisions
pub as_long : (names : List (List ℕ)) (ps : List Provision) (i : ℕ) → i < length ps → i < length (map (provided_in names) ps)
as_long names ps i within = omega (arith, within, length-map (provided_in names) ps)

pub provided_at : (names : List (List ℕ)) (ps : List Provision) (i : ℕ) (p : Provision) → i < length ps → p ≡ get_or ps i p → slice_get (map (provided_in names) ps) i ≡ Some (provided_in names p)
provided_at names ps i p within is = slice_get-map (provided_in names) ps i ∙ ap (option_map (provided_in names)) (slice_get-get_or ps i p within ∙ ap Some (sym is))

-- a provision more was put
pub next : (list : List Provided) (names : List (List ℕ)) (ps : List Provision) (i hash : ℕ) (p : Provision) (firsts firsts_new : List (ℕ × ℕ)) (others others_new : List ℕ) → list ≡ map (provided_in names) ps → i < length ps → p ≡ get_or ps i p
    → hash ≡ hash_of (full_name (provided_in names p)) → AreFound i list firsts others → IsPut firsts firsts_new others others_new hash i → AreFound (i + 1) list firsts_new others_new
next list names ps i hash p firsts firsts_new others others_new are within is hashed all put =
    one_more list i (provided_in names p) firsts firsts_new others others_new (rw are (as_long names ps i within)) (rw are (provided_at names ps i p within is)) all (subst (λ h. IsPut firsts firsts_new others others_new h i) hashed put)
