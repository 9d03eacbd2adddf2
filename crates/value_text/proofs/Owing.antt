-- What a reader owes to the texts that write a value.
use Rattle.std.proofs.Common.{◌≡◌, ℕ, suc, ◌+◌, Bool, true, false, cond, List, [], ◌∷◌, ◌++◌, length, take, drop, Option, Some, None, refl, sym, ap, subst, ◌∙◌, arith}
use Rattle.std.specs.Prelude.{not, ◌&&◌}
use Rattle.std.specs.List.{list_all, prefix_len, take_while}
use Rattle.std.proofs.lemmas.List.{take-append-drop, take_at, drop_at}
use Rattle.value_text.specs.Reading.{◌>>=◌, Reader, seen, is_part, word_at}

-- a reader took a text from the front that writes the value
pub record Took {A : Type 0} (W : A → List ℕ → Type 0) (text : List ℕ) (x : A) (rest : List ℕ) : Type 0 where
  pub front : List ℕ
  pub written : W x front
  pub split : text ≡ front ++ rest

abbrev pub Takes : {A : Type 0} → Reader A → (A → List ℕ → Type 0) → Type 0
Takes {A} read W = (text : List ℕ) (x : A) (rest : List ℕ) → read text ≡ Some (x, rest) → Took W text x rest

-- it reads the value whatever follows
abbrev pub ReadsAnywhere : {A : Type 0} → Reader A → (A → List ℕ → Type 0) → Type 0
ReadsAnywhere {A} read W = (x : A) (front rest : List ℕ) → W x front → read (front ++ rest) ≡ Some (x, rest)

-- what follows begins no part of a word
abbrev pub stops : List ℕ → Bool
stops [] = true
stops (b ∷ rest) = not (is_part b)

-- it reads the value where no word goes on
abbrev pub Reads : {A : Type 0} → Reader A → (A → List ℕ → Type 0) → Type 0
Reads {A} read W = (x : A) (front rest : List ℕ) → W x front → stops rest ≡ true → read (front ++ rest) ≡ Some (x, rest)

abbrev pub done : {A : Type 0} → A → Option A
done x = Some x

pub some_is : {A : Type 0} (x y : A) → done x ≡ done y → x ≡ y
some_is x y e = cc

pub pair_is : {A B : Type 0} (x u : A) (y v : B) → done {A = A × B} (x, y) ≡ done (u, v) → (x ≡ u) × (y ≡ v)
pair_is {A} {B} x u y v e =
    let one : A × B = (x, y) in
    let other : A × B = (u, v) in
    let same = some_is one other e in
    (ap (λ (p : A × B). p.0) same, ap (λ (p : A × B). p.1) same)

pub bind_some : {A B : Type 0} (r : Option A) (f : A → Option B) (y : B) → (r >>= f) ≡ Some y → (x : A) × (r ≡ Some x) × (f x ≡ Some y)
bind_some (Some x) f y e = (x, refl, e)
bind_some None f y e = absurd cc

-- a value that a test let through
pub let_through : {A : Type 0} (b : Bool) (x y : A) → cond b (done x) None ≡ Some y → (b ≡ true) × (x ≡ y)
let_through true x y e = (refl, cc)
let_through false x y e = absurd cc

pub both_true : (a b : Bool) → (a && b) ≡ true → (a ≡ true) × (b ≡ true)
both_true true b h = (refl, h)
both_true false b h = absurd cc

-- what was read, seen as another thing
pub seen_takes : {A B : Type 0} (f : A → B) (read : Reader A) (W : A → List ℕ → Type 0) (V : B → List ℕ → Type 0) → ((x : A) (text : List ℕ) → W x text → V (f x) text) → Takes read W → Takes (seen f read) V
seen_takes {A} {B} f read W V to takes text y rest e =
    let b = bind_some (read text) (λ x. Some (f x.0, x.1)) (y, rest) e in
    let t = takes text b.0.0 b.0.1 b.1 in
    let made : B × List ℕ = (f b.0.0, b.0.1) in
    subst (λ (m : B × List ℕ). Took V text m.0 m.1) (some_is made (y, rest) b.2) (record { front = t.front; written = to b.0.0 t.front t.written; split = t.split })

-- ---- words

pub all_weaker : (p q : ℕ → Bool) → ((b : ℕ) → p b ≡ true → q b ≡ true) → (xs : List ℕ) → list_all p xs ≡ true → list_all q xs ≡ true
all_weaker p q weaker [] h = refl
all_weaker p q weaker (x ∷ xs) h =
    let t = both_true (p x) (list_all p xs) h in
    rw (weaker x t.0) (all_weaker p q weaker xs t.1)

-- a word goes to where it stops
word_ends : (front rest : List ℕ) → list_all is_part front ≡ true → stops rest ≡ true → prefix_len is_part (front ++ rest) ≡ length front
word_ends [] [] parts ends = refl
word_ends [] (b ∷ rest) parts ends = by_test (is_part b) ends
  where
    by_test : (t : Bool) → not t ≡ true → cond t (1 + prefix_len is_part rest) 0 ≡ 0
    by_test true e = absurd cc
    by_test false e = refl
word_ends (c ∷ front) rest parts ends =
    let t = both_true (is_part c) (list_all is_part front) parts in
    let later : 1 + prefix_len is_part (front ++ rest) ≡ suc (length front) = omega (arith, word_ends front rest t.1 ends) in
    rw t.0 later

pub word_takes : {A : Type 0} (meaning : List ℕ → Option A) (W : A → List ℕ → Type 0) → ((word : List ℕ) (x : A) → meaning word ≡ Some x → W x word) → Takes (word_at meaning) W
word_takes {A} meaning W means text x rest e =
    let b = bind_some (meaning (take_while is_part text)) (λ y. Some (y, drop (prefix_len is_part text) text)) (x, rest) e in
    let made : A × List ℕ = (b.0, drop (prefix_len is_part text) text) in
    subst (λ (m : A × List ℕ). Took W text m.0 m.1) (some_is made (x, rest) b.2) (record {
      front = take_while is_part text;
      written = means (take_while is_part text) b.0 b.1;
      split = sym (take-append-drop (prefix_len is_part text) text);
    })

pub word_reads : {A : Type 0} (meaning : List ℕ → Option A) (W : A → List ℕ → Type 0) → ((x : A) (word : List ℕ) → W x word → (list_all is_part word ≡ true) × (meaning word ≡ Some x)) → Reads (word_at meaning) W
word_reads {A} meaning W means x front rest w ends =
    let m = means x front w in
    let size = word_ends front rest m.0 ends in
    let word : take_while is_part (front ++ rest) ≡ front = ap (λ (n : ℕ). take n (front ++ rest)) size ∙ take_at front rest (length front) refl in
    let behind : drop (prefix_len is_part (front ++ rest)) (front ++ rest) ≡ rest = ap (λ (n : ℕ). drop n (front ++ rest)) size ∙ drop_at front rest (length front) refl in
    rw (word, m.1, behind) refl
