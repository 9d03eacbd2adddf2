-- The numbers of a home's keys, by those that are introduced so far.
use Rattle.std.proofs.Common.{◌≡◌, ℕ, zero, suc, ◌+◌, ◌<◌, ◌≤◌, List, [], ◌∷◌, ◌++◌, Bool, true, false, cond, ◌&&◌, Option, Some, None, length, map, nat_lt, refl, sym, ap, ◌∙◌, arith, length-append, ltb-false}
use Rattle.std.specs.List.{flat_map, position_from, slice_get}
use Rattle.std.specs.Option.{is_some, option_map, option_to_list}
use Rattle.std.specs.Prelude.{codes}
use Rattle.std.specs.Fmt.{decimal}
use Rattle.std.proofs.lemmas.List.{map-append, append-nil, length-map}
use Rattle.std.proofs.lemmas.List.Concat.{flat_map-append}
use Rattle.std.proofs.lemmas.Option.{slice_get-map}
use Rattle.type_layout.specs.declared.key.Key.{Key}
use Rattle.type_layout.specs.declared.key.KeyNo.{KeyNo}
use Rattle.type_layout.specs.Schemas.{given}
use Rattle.type_layout.specs.ShapeText.{key_line, key_text, listed}
use Rattle.psdl_directory.specs.Declarations.{Declaration}
use Rattle.psdl_lineage.specs.Descent.{Listed, has, ancestry, same_listed}
use Rattle.psdl_rules.specs.Faults.Limit.{most_shape}
use Rattle.psdl_standings.specs.Standings.{standings}
use Rattle.psdl_standings.specs.TextLengths.{cut}
use Rattle.psdl_check.specs.Schemas.{Introduced, all_introduced, key_number, key_of, schema}
use Rattle.psdl_check.specs.declared.key_rows.KeyIds.{KeyIds}
use Rattle.psdl_check.specs.declared.keys.Introducing.{Introducing}
use Rattle.psdl_check.specs.declared.keys.Keys.{Keys}
use Rattle.psdl_check.specs.declared.numbering.Numbered.{Numbered}
use Rattle.psdl_check.specs.inner.Keyed.{keyed}
use Rattle.psdl_check.specs.inner.Keys.{AreKeys, number_among}
use Rattle.psdl_check.specs.inner.KeysMade.{new_one}
use Rattle.psdl_check.specs.inner.Numbering.{AreNumbered, HasNumber, numbers_of}
use Rattle.psdl_check.proofs.KeyedBases.{own_numbered}

-- ---- what stands in front

position_front : {A : Type 0} (test : A → Bool) (i : ℕ) (xs ys : List A) (n : ℕ) → position_from test i xs ≡ Some n → position_from test i (xs ++ ys) ≡ Some n
position_front test i [] ys n e = absurd (cc)
position_front test i (x ∷ xs) ys n e = by (test x) (λ is. position_front test (i + 1) xs ys n is) e
  where
    by : (b : Bool) → (position_from test (i + 1) xs ≡ Some n → position_from test (i + 1) (xs ++ ys) ≡ Some n)
        → cond b (Some i) (position_from test (i + 1) xs) ≡ Some n → cond b (Some i) (position_from test (i + 1) (xs ++ ys)) ≡ Some n
    by true rest e = e
    by false rest e = rest e

pub position_within : {A : Type 0} (test : A → Bool) (i : ℕ) (xs : List A) (n : ℕ) → position_from test i xs ≡ Some n → n < i + length xs
position_within test i [] n e = absurd (cc)
position_within test i (x ∷ xs) n e = by (test x) (λ is. position_within test (i + 1) xs n is) e
  where
    by : (b : Bool) → (position_from test (i + 1) xs ≡ Some n → n < i + 1 + length xs) → cond b (Some i) (position_from test (i + 1) xs) ≡ Some n → n < i + suc (length xs)
    by true rest e = let same : i ≡ n = cc in omega (arith, same)
    by false rest e = omega (arith, rest e)

slice_front : {A : Type 0} (xs ys : List A) (i : ℕ) → i < length xs → slice_get (xs ++ ys) i ≡ slice_get xs i
slice_front [] ys i lt = absurd (omega (arith, lt))
slice_front (x ∷ xs) ys zero lt = refl
slice_front (x ∷ xs) ys (suc i) lt = slice_front xs ys i (omega (arith, lt))

some_at : {A : Type 0} (xs : List A) (i : ℕ) → i < length xs → (x : A) × (slice_get xs i ≡ Some x)
some_at [] i lt = absurd (omega (arith, lt))
some_at (x ∷ xs) zero lt = (x, refl)
some_at (x ∷ xs) (suc i) lt = some_at xs i (omega (arith, lt))

text_there : (k : Key) → 1 ≤ length (key_text k)
text_there k =
    let rest : List ℕ = k.name ++ codes " " ++ decimal k.home.0 ++ codes " " ++ listed (map decimal k.members) ++ 10 ∷ [] in
    omega (arith, length-append (codes "key ") rest)

-- ---- one key

-- its number among all keys is that among those in front
pub number_is : (all : List Declaration) (home : ℕ) (front more : List Introduced) (l : Listed) (n : ℕ) → all_introduced all ≡ front ++ more → number_among all home front l ≡ Some n → key_number all home l ≡ Some n
number_is all home front more l n whole is =
    let test : Introduced → Bool = λ i. has (ancestry all home) i.home && same_listed l i.listed in
    ap (position_from test 0) whole ∙ position_front test 0 front more n is

keys_are : (all : List Declaration) → (schema all).keys ≡ map (key_of all (standings all)) (all_introduced all)
unfolding schema
keys_are all = refl

-- its line among all keys is that among those in front
pub line_is : (all : List Declaration) (ids : KeyIds) (front more : List Introduced) (keys : Keys) (n : KeyNo) → all_introduced all ≡ front ++ more → AreKeys all ids front keys → n.0 < length front
    → key_line (keyed keys.list) n ≡ key_line (schema all) n
line_is all ids front more keys n whole are lt =
    let f = key_of all (standings all) in
    let there : slice_get keys.list n.0 ≡ slice_get (schema all).keys n.0 =
    ap (λ (l : List Key). slice_get l n.0) are.list
    ∙ sym (ap (λ (l : List Key). slice_get l n.0) (keys_are all ∙ ap (map f) whole ∙ map-append f front more)
    ∙ slice_front (map f front) (map f more) n.0 (omega (arith, lt, length-map front f))) in
    ap (λ (o : Option Key). given o [] key_text) there

numbers_more : (all : List Declaration) (home : ℕ) (views : List Listed) (l : Listed) (n : KeyNo) → key_number all home l ≡ Some n.0 → numbers_of all home (views ++ l ∷ []) ≡ numbers_of all home views ++ n ∷ []
numbers_more all home views l n is =
    let f : Listed → List ℕ = λ k. option_to_list (key_number all home k) in
    let made : ℕ → KeyNo = λ n. record { 0 = n } in
    ap (map made) (flat_map-append f views (l ∷ [])) ∙ map-append made (flat_map f views) (flat_map f (l ∷ []))
    ∙ ap (λ (o : Option ℕ). numbers_of all home views ++ map made (option_to_list o ++ [])) is

-- a key that has a number has a line
pub line_there : (all : List Declaration) (n : KeyNo) → n.0 < length (all_introduced all) → 1 ≤ length (key_line (schema all) n)
line_there all n lt =
    let f = key_of all (standings all) in
    let there = some_at (all_introduced all) n.0 lt in
    let is : slice_get (schema all).keys n.0 ≡ Some (f there.0) = ap (λ (l : List Key). slice_get l n.0) (keys_are all) ∙ slice_get-map f (all_introduced all) n.0 ∙ ap (option_map f) there.1 in
    let line : key_line (schema all) n ≡ key_text (f there.0) = ap (λ (o : Option Key). given o [] key_text) is in
    omega (arith, ap length line, text_there (f there.0))

-- no more keys are introduced so far than the shape may have octets
pub few_so_far : (all : List Declaration) (ids : KeyIds) (front : List Introduced) (home : ℕ) (views : List Listed) (reach : ℕ) (keys : Keys) (numbered : Numbered)
    → AreNumbered all ids front home views reach keys numbered → nat_lt most_shape numbered.length.0 ≡ false → length front ≤ most_shape + most_shape
few_so_far all ids front home views reach keys numbered are fits = omega (arith, are.few, are.reached, ltb-false most_shape numbered.length.0 fits)

pub one_at_most : (b : Bool) (home : Introducing) (l : Listed) → length (new_one b home l) ≤ 1
one_at_most true home l = omega arith
one_at_most false home l = omega arith

-- a number among those in front is one among more
pub number_later : (all : List Declaration) (home : ℕ) (front more : List Introduced) (l : Listed) → HasNumber all home front l → HasNumber all home (front ++ more) l
number_later all home front more l numbered = by (number_among all home front l) refl numbered
  where
    by : (o : Option ℕ) → number_among all home front l ≡ o → is_some o ≡ true → HasNumber all home (front ++ more) l
    by None e h = absurd (cc)
    by (Some n) e h = ap (λ (o : Option ℕ). is_some o) (position_front (λ (i : Introduced). has (ancestry all home) i.home && same_listed l i.listed) 0 front more n e)

next_numbered : (all : List Declaration) (home : Introducing) (b : Bool) (front : List Introduced) (l : Listed) → (b ≡ true → HasNumber all home.home front l) → HasNumber all home.home (front ++ new_one b home l) l
next_numbered all home true front l of_base = number_later all home.home front [] l (of_base refl)
next_numbered all home false front l of_base = own_numbered all home.home l front

-- the number that is told is that among the keys so far
pub number_told : (all : List Declaration) (home : Introducing) (b : Bool) (front : List Introduced) (l : Listed) (first : Option ℕ) (told : ℕ) → length front ≤ most_shape + most_shape → (b ≡ true → HasNumber all home.home front l)
    → first ≡ number_among all home.home (front ++ new_one b home l) l → ((n : ℕ) → first ≡ Some n → n ≤ most_shape + most_shape → told ≡ n) → number_among all home.home (front ++ new_one b home l) l ≡ Some told
number_told all home b front l first told few of_base is tells = by (number_among all home.home (front ++ new_one b home l) l) refl (next_numbered all home b front l of_base)
  where
    by : (o : Option ℕ) → number_among all home.home (front ++ new_one b home l) l ≡ o → is_some o ≡ true → number_among all home.home (front ++ new_one b home l) l ≡ Some told
    by None e h = absurd (cc)
    by (Some n) e h =
        let within = position_within (λ (i : Introduced). has (ancestry all home.home) i.home && same_listed l i.listed) 0 (front ++ new_one b home l) n e in
        let size : length (front ++ new_one b home l) ≡ length front + length (new_one b home l) = length-append front (new_one b home l) in
        e ∙ ap (λ (k : ℕ). Some k) (sym (tells n (is ∙ e) (omega (arith, within, size, one_at_most b home l, few))))

-- one key more is numbered
pub one_more : (all : List Declaration) (ids : KeyIds) (front new more : List Introduced) (home : ℕ) (views : List Listed) (l : Listed) (reach : ℕ) (old_keys new_keys : Keys) (old next : Numbered) (n : KeyNo)
    → AreNumbered all ids front home views reach old_keys old → all_introduced all ≡ (front ++ new) ++ more → length new ≤ 1 → AreKeys all ids (front ++ new) new_keys → number_among all home (front ++ new) l ≡ Some n.0
    → next.numbers ≡ old.numbers ++ n ∷ [] → next.length.0 ≡ cut (old.length.0 + length (key_line (keyed new_keys.list) n)) → AreNumbered all ids (front ++ new) home (views ++ l ∷ []) reach new_keys next
one_more all ids front new more home views l reach old_keys new_keys old next n are whole one keys number pushed longer =
    let within : n.0 < length (front ++ new) = omega (arith, position_within (λ (i : Introduced). has (ancestry all home) i.home && same_listed l i.listed) 0 (front ++ new) n.0 number) in
    let line = line_is all ids (front ++ new) more new_keys n whole keys within in
    let numbers = numbers_more all home views l n (number_is all home (front ++ new) more l n.0 whole number) in
    let a : List ℕ = flat_map (key_line (schema all)) (numbers_of all home views) in
    let lines : flat_map (key_line (schema all)) (numbers_of all home (views ++ l ∷ [])) ≡ a ++ key_line (schema all) n =
    ap (flat_map (key_line (schema all))) numbers ∙ flat_map-append (key_line (schema all)) (numbers_of all home views) (n ∷ []) ∙ ap (λ x. a ++ x) (append-nil (key_line (schema all) n)) in
    let size : length (flat_map (key_line (schema all)) (numbers_of all home (views ++ l ∷ []))) ≡ length a + length (key_line (schema all) n) = ap length lines ∙ length-append a (key_line (schema all) n) in
    record {
      known = keys;
      counted = pushed ∙ ap (λ ns. ns ++ n ∷ []) are.counted ∙ sym numbers;
      reached = omega (arith, longer, are.reached, ap length line, size);
      few = omega (arith, are.few, one, length-append front new, size, line_there all n (omega (arith, within, ap length whole, length-append (front ++ new) more)));
    }
