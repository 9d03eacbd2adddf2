-- What stands in a list, and lists in which nothing comes twice.
use Rattle.std.proofs.Common.{◌≡◌, ℕ, zero, suc, List, [], ◌∷◌, ◌++◌, map, filter, Bool, true, false, cond, not, ◌||◌, ◌⊎◌, inl, inr, Option, Some, None, refl, sym, ap, ◌∙◌, ⊎_elim}
use Rattle.std.specs.List.{slice_get, flat_map, list_any, list_all, find}
use Rattle.std.specs.Option.{option_to_list}
use Rattle.std.proofs.lemmas.Bool.{and_from, and_parts, or_left, or_right, false_from_ne_true, not-true}
use Rattle.std.proofs.lemmas.List.{map-append}
use Rattle.type_layout.specs.Sound.{are_distinct}
use Rattle.psdl_lineage.specs.Descent.{without_known, without_repeats}

-- ---- what stands in a list

-- one of a list
abbrev pub Among : {A : Type 0} → A → List A → Type 0
Among x [] = ⊥
Among x (y ∷ ys) = (y ≡ x) ⊎ Among x ys

-- what stands at a place stands in the list
pub at_among : {A : Type 0} (xs : List A) (i : ℕ) (x : A) → slice_get xs i ≡ Some x → Among x xs
at_among [] i x is = absurd (cc)
at_among (y ∷ ys) zero x is = inl (cc)
at_among (y ∷ ys) (suc i) x is = inr (at_among ys i x is)

-- what stands in the list stands at a place
pub among_at : {A : Type 0} (xs : List A) (x : A) → Among x xs → (i : ℕ) × (slice_get xs i ≡ Some x)
among_at [] x a = absurd a
among_at (y ∷ ys) x (inl e) = (0, ap (λ z. Some z) e)
among_at (y ∷ ys) x (inr a) = let r = among_at ys x a in (suc r.0, r.1)

-- in the first part
pub among_front : {A : Type 0} (x : A) (xs ys : List A) → Among x xs → Among x (xs ++ ys)
among_front x [] ys a = absurd a
among_front x (z ∷ zs) ys (inl e) = inl e
among_front x (z ∷ zs) ys (inr a) = inr (among_front x zs ys a)

-- in the second part
pub among_behind : {A : Type 0} (x : A) (xs ys : List A) → Among x ys → Among x (xs ++ ys)
among_behind x [] ys a = a
among_behind x (z ∷ zs) ys a = inr (among_behind x zs ys a)

-- in one of both
pub among_parts : {A : Type 0} (x : A) (xs ys : List A) → Among x (xs ++ ys) → Among x xs ⊎ Among x ys
among_parts x [] ys a = inr a
among_parts x (z ∷ zs) ys (inl e) = inl (inl e)
among_parts x (z ∷ zs) ys (inr a) = ⊎_elim (λ b. inl (inr b)) (λ b. inr b) (among_parts x zs ys a)

-- what comes of one of a list
pub among_flat : {A B : Type 0} (f : A → List B) (xs : List A) (x : A) (y : B) → Among x xs → Among y (f x) → Among y (flat_map f xs)
among_flat f [] x y a b = absurd a
among_flat f (z ∷ zs) x y (inl e) b = among_front y (f z) (flat_map f zs) (rw e b)
among_flat f (z ∷ zs) x y (inr a) b = among_behind y (f z) (flat_map f zs) (among_flat f zs x y a b)

-- whence it comes
pub among_from : {A B : Type 0} (f : A → List B) (xs : List A) (y : B) → Among y (flat_map f xs) → (x : A) × Among x xs × Among y (f x)
among_from f [] y a = absurd a
among_from f (z ∷ zs) y a =
    ⊎_elim (λ b. (z, inl refl, b)) (λ b. let r = among_from f zs y b in (r.0, inr r.1, r.2)) (among_parts y (f z) (flat_map f zs) a)

-- the image of one of a list
pub among_image : {A B : Type 0} (f : A → B) (xs : List A) (x : A) → Among x xs → Among (f x) (map f xs)
among_image f [] x a = absurd a
among_image f (z ∷ zs) x (inl e) = inl (ap f e)
among_image f (z ∷ zs) x (inr a) = inr (among_image f zs x a)

-- of what it is the image
pub among_map : {A B : Type 0} (f : A → B) (xs : List A) (y : B) → Among y (map f xs) → (x : A) × Among x xs × (f x ≡ y)
among_map f [] y a = absurd a
among_map f (z ∷ zs) y (inl e) = (z, inl refl, e)
among_map f (z ∷ zs) y (inr a) = let r = among_map f zs y a in (r.0, inr r.1, r.2)

-- what is chosen passes
pub among_chosen : {A : Type 0} (test : A → Bool) (xs : List A) (x : A) → Among x (filter test xs) → Among x xs × (test x ≡ true)
among_chosen test [] x a = absurd a
among_chosen {A} test (z ∷ zs) x a = by (test z) refl (λ c. among_chosen test zs x c) a
  where
    by : (b : Bool) → test z ≡ b → (Among x (filter test zs) → Among x zs × (test x ≡ true)) → Among x (cond b (z ∷ filter test zs) (filter test zs)) → Among x (z ∷ zs) × (test x ≡ true)
    by true e later (inl s) = (inl s, sym (ap test s) ∙ e)
    by true e later (inr a) = let r = later a in (inr r.0, r.1)
    by false e later a = let r = later a in (inr r.0, r.1)

-- what passes is chosen
pub among_passing : {A : Type 0} (test : A → Bool) (xs : List A) (x : A) → Among x xs → test x ≡ true → Among x (filter test xs)
among_passing test [] x a on = absurd a
among_passing {A} test (z ∷ zs) x a on = by (test z) refl (λ c. among_passing test zs x c on) a
  where
    by : (b : Bool) → test z ≡ b → (Among x zs → Among x (filter test zs)) → Among x (z ∷ zs) → Among x (cond b (z ∷ filter test zs) (filter test zs))
    by true e later (inl s) = inl s
    by true e later (inr a) = inr (later a)
    by false e later (inl s) = let both : true ≡ false = sym on ∙ sym (ap test s) ∙ e in absurd (cc)
    by false e later (inr a) = later a

-- what is there stands in its list
pub among_some : {A : Type 0} (o : Option A) (x : A) → Among x (option_to_list o) → o ≡ Some x
among_some None x a = absurd a
among_some (Some y) x (inl e) = ap (λ z. Some z) e
among_some (Some y) x (inr a) = absurd a

-- what is found stands in the list
pub among_found : {A : Type 0} (test : A → Bool) (xs : List A) (x : A) → find test xs ≡ Some x → Among x xs × (test x ≡ true)
among_found test [] x is = absurd (cc)
among_found {A} test (z ∷ zs) x is = by (test z) refl (λ c. among_found test zs x c) is
  where
    by : (b : Bool) → test z ≡ b → (find test zs ≡ Some x → Among x zs × (test x ≡ true)) → cond b (Some z) (find test zs) ≡ Some x → Among x (z ∷ zs) × (test x ≡ true)
    by true e later is = let same : z ≡ x = cc in (inl same, sym (ap test same) ∙ e)
    by false e later is = let r = later is in (inr r.0, r.1)

-- one that passes is enough
pub any_among : {A : Type 0} (test : A → Bool) (xs : List A) (x : A) → Among x xs → test x ≡ true → list_any test xs ≡ true
any_among test [] x a on = absurd a
any_among test (z ∷ zs) x (inl e) on = or_left (test z) (list_any test zs) (ap test e ∙ on)
any_among test (z ∷ zs) x (inr a) on = or_right (test z) (list_any test zs) (any_among test zs x a on)

-- the one that passes
pub among_any : {A : Type 0} (test : A → Bool) (xs : List A) → list_any test xs ≡ true → (x : A) × Among x xs × (test x ≡ true)
among_any test [] on = absurd (cc)
among_any {A} test (z ∷ zs) on = by (test z) refl (λ c. among_any test zs c) on
  where
    by : (b : Bool) → test z ≡ b → (list_any test zs ≡ true → (x : A) × Among x zs × (test x ≡ true)) → b || list_any test zs ≡ true → (x : A) × Among x (z ∷ zs) × (test x ≡ true)
    by true e later on = (z, inl refl, e)
    by false e later on = let r = later on in (r.0, inr r.1, r.2)

-- all pass where each does
pub all_among : {A : Type 0} (test : A → Bool) (xs : List A) → ((x : A) → Among x xs → test x ≡ true) → list_all test xs ≡ true
all_among test [] each = refl
all_among test (z ∷ zs) each = and_from (test z) (list_all test zs) (each z (inl refl)) (all_among test zs (λ x a. each x (inr a)))

-- where all pass each does
pub each_of_all : {A : Type 0} (test : A → Bool) (xs : List A) → list_all test xs ≡ true → (x : A) → Among x xs → test x ≡ true
each_of_all test [] on x a = absurd a
each_of_all test (z ∷ zs) on x (inl e) = ap test (sym e) ∙ (and_parts (test z) (list_all test zs) on).0
each_of_all test (z ∷ zs) on x (inr a) = each_of_all test zs (and_parts (test z) (list_all test zs) on).1 x a

-- ---- lists in which nothing comes twice

-- nothing comes twice
abbrev pub Differ : {A : Type 0} → List A → Type 0
Differ [] = Unit {0}
Differ (x ∷ xs) = (Among x xs → ⊥) × Differ xs

-- of two lists that have nothing together
pub differ_append : {A : Type 0} (xs ys : List A) → Differ xs → Differ ys → ((x : A) → Among x xs → Among x ys → ⊥) → Differ (xs ++ ys)
differ_append [] ys d e apart = e
differ_append (x ∷ xs) ys d e apart =
    (λ a. ⊎_elim (λ b. d.0 b) (λ b. apart x (inl refl) b) (among_parts x xs ys a), differ_append xs ys d.1 e (λ z a b. apart z (inr a) b))

-- of what comes of each of a list, where it tells whence it comes
pub differ_flat : {A B : Type 0} (f : A → List B) (xs : List A) → Differ xs → ((x : A) → Among x xs → Differ (f x))
    → ((x z : A) (y : B) → Among x xs → Among z xs → Among y (f x) → Among y (f z) → x ≡ z) → Differ (flat_map f xs)
differ_flat f [] d each tells = tt
differ_flat f (x ∷ xs) d each tells =
    differ_append (f x) (flat_map f xs) (each x (inl refl)) (differ_flat f xs d.1 (λ z a. each z (inr a)) (λ u v y a b. tells u v y (inr a) (inr b)))
    (λ y a b.
    let r = among_from f xs y b in
    let same : r.0 ≡ x = tells r.0 x y (inr r.1) (inl refl) r.2 a in
    d.0 (rw same at r.1))

-- of images that tell what they are of
pub differ_map : {A B : Type 0} (f : A → B) (xs : List A) → Differ xs → ((x z : A) → Among x xs → Among z xs → f x ≡ f z → x ≡ z) → Differ (map f xs)
differ_map f [] d tells = tt
differ_map f (x ∷ xs) d tells = (
  λ a.
      let r = among_map f xs (f x) a in
      let same : r.0 ≡ x = tells r.0 x (inr r.1) (inl refl) r.2 in
      d.0 (rw same at r.1),
  differ_map f xs d.1 (λ u v a b. tells u v (inr a) (inr b)),
)

-- where images differ, what they are of differs
pub differ_under : {A B : Type 0} (f : A → B) (xs : List A) → Differ (map f xs) → Differ xs
differ_under f [] d = tt
differ_under f (x ∷ xs) d = (λ a. d.0 (among_image f xs x a), differ_under f xs d.1)

-- and the images tell what they are of
pub map_tells : {A B : Type 0} (f : A → B) (xs : List A) → Differ (map f xs) → (x z : A) → Among x xs → Among z xs → f x ≡ f z → x ≡ z
map_tells f [] d x z a b e = absurd a
map_tells f (y ∷ ys) d x z (inl s) (inl t) e = sym s ∙ t
map_tells {A} {B} f (y ∷ ys) d x z (inl s) (inr b) e =
    let there : Among (f z) (map f ys) = among_image f ys z b in
    let same : f z ≡ f y = sym e ∙ sym (ap f s) in
    absurd (d.0 (rw same at there))
map_tells {A} {B} f (y ∷ ys) d x z (inr a) (inl t) e =
    let there : Among (f x) (map f ys) = among_image f ys x a in
    let same : f x ≡ f y = e ∙ sym (ap f t) in
    absurd (d.0 (rw same at there))
map_tells f (y ∷ ys) d x z (inr a) (inr b) e = map_tells f ys d.1 x z a b e

-- at most one differs
pub differ_option : {A : Type 0} (o : Option A) → Differ (option_to_list o)
differ_option None = tt
differ_option (Some x) = (λ a. a, tt)

-- images of what comes of each
pub map_flat : {A B C : Type 0} (g : B → C) (f : A → List B) (xs : List A) → map g (flat_map f xs) ≡ flat_map (λ x. map g (f x)) xs
map_flat g f [] = refl
map_flat g f (x ∷ xs) = map-append g (f x) (flat_map f xs) ∙ ap (λ l. map g (f x) ++ l) (map_flat g f xs)

-- by a test that tells what is told of each
pub distinct_told : {A B : Type 0} (told : A → B) (same : A → A → Bool) → ((x y : A) → same x y ≡ true → told x ≡ told y) → (xs : List A) → Differ (map told xs) → are_distinct same xs ≡ true
distinct_told told same decides [] d = refl
distinct_told told same decides (x ∷ xs) d =
    let none : list_any (same x) xs ≡ false =
    false_from_ne_true (list_any (same x) xs)
    (λ on.
    let r = among_any (same x) xs on in
    let e : told r.0 ≡ told x = sym (decides x r.0 r.2) in
    let a : Among (told r.0) (map told xs) = among_image told xs r.0 r.1 in
    d.0 (rw e at a)) in
    and_from (not (list_any (same x) xs)) (are_distinct same xs) (ap not none) (distinct_told told same decides xs d.1)

-- of two of a list in which no two are alike, the one is the other, or one is not like the other
pub pair_unlike : {A : Type 0} (like : A → A → Bool) (xs : List A) → are_distinct like xs ≡ true → (x y : A) → Among x xs → Among y xs → (x ≡ y) ⊎ ((like x y ≡ false) ⊎ (like y x ≡ false))
pair_unlike like [] d x y a b = absurd a
pair_unlike {A} like (z ∷ zs) d x y a b = by a b (λ c f. pair_unlike like zs (and_parts (not (list_any (like z) zs)) (are_distinct like zs) d).1 x y c f)
  where
    parts : (not (list_any (like z) zs) ≡ true) × (are_distinct like zs ≡ true)
    parts = and_parts (not (list_any (like z) zs)) (are_distinct like zs) d

    unlike : (w : A) → Among w zs → like z w ≡ false
    unlike w c = false_from_ne_true (like z w) (λ on. cc (any_among (like z) zs w c on, not-true (list_any (like z) zs) parts.0))

    by : Among x (z ∷ zs) → Among y (z ∷ zs) → (Among x zs → Among y zs → (x ≡ y) ⊎ ((like x y ≡ false) ⊎ (like y x ≡ false))) → (x ≡ y) ⊎ ((like x y ≡ false) ⊎ (like y x ≡ false))
    by (inl e) (inl f) later = inl (sym e ∙ f)
    by (inl e) (inr b) later = inr (inl (ap (λ (w : A). like w y) (sym e) ∙ unlike y b))
    by (inr a) (inl f) later = inr (inr (ap (λ (w : A). like w x) (sym f) ∙ unlike x a))
    by (inr a) (inr b) later = later a b

-- of those that are chosen
pub differ_chosen : {A : Type 0} (test : A → Bool) (xs : List A) → Differ xs → Differ (filter test xs)
differ_chosen test [] d = tt
differ_chosen {A} test (x ∷ xs) d = by (test x) (differ_chosen test xs d.1)
  where
    by : (b : Bool) → Differ (filter test xs) → Differ (cond b (x ∷ filter test xs) (filter test xs))
    by true rest = (λ a. d.0 (among_chosen test xs x a).0, rest)
    by false rest = rest

-- what differs has one place
pub one_place : {A : Type 0} (xs : List A) → Differ xs → (m n : ℕ) (x : A) → slice_get xs m ≡ Some x → slice_get xs n ≡ Some x → m ≡ n
one_place [] d m n x a b = absurd (cc)
one_place (y ∷ ys) d zero zero x a b = refl
one_place (y ∷ ys) d zero (suc n) x a b = let same : y ≡ x = cc in absurd (d.0 (at_among ys n y (b ∙ ap (λ z. Some z) (sym same))))
one_place (y ∷ ys) d (suc m) zero x a b = let same : y ≡ x = cc in absurd (d.0 (at_among ys m y (a ∙ ap (λ z. Some z) (sym same))))
one_place (y ∷ ys) d (suc m) (suc n) x a b = ap suc (one_place ys d.1 m n x a b)

-- ---- lists without repeats

-- what is not known differs, and from what is known
fresh_differ : {A : Type 0} (same : A → A → Bool) → ((x : A) → same x x ≡ true) → (known xs : List A) → Differ (without_known same known xs) × ((x : A) → Among x (without_known same known xs) → Among x known → ⊥)
fresh_differ same itself known [] = (tt, λ x a b. a)
fresh_differ {A} same itself known (x ∷ xs) = by (list_any (same x) known) refl (fresh_differ same itself known xs) (fresh_differ same itself (x ∷ known) xs)
  where
    by : (b : Bool) → list_any (same x) known ≡ b → Differ (without_known same known xs) × ((z : A) → Among z (without_known same known xs) → Among z known → ⊥)
        → Differ (without_known same (x ∷ known) xs) × ((z : A) → Among z (without_known same (x ∷ known) xs) → Among z (x ∷ known) → ⊥)
        → Differ (cond b (without_known same known xs) (x ∷ without_known same (x ∷ known) xs)) × ((z : A) → Among z (cond b (without_known same known xs) (x ∷ without_known same (x ∷ known) xs)) → Among z known → ⊥)
    by true e old new = old
    by false e old new = ((λ a. new.1 x a (inl refl), new.0), apart)
      where
        apart : (z : A) → Among z (x ∷ without_known same (x ∷ known) xs) → Among z known → ⊥
        apart z (inl s) k = let on : list_any (same x) known ≡ true = any_among (same x) known z k (ap (same x) (sym s) ∙ itself x) in let both : true ≡ false = sym on ∙ e in cc
        apart z (inr a) k = new.1 z a (inr k)

-- a list without repeats has nothing twice
pub once_differ : {A : Type 0} (same : A → A → Bool) → ((x : A) → same x x ≡ true) → (xs : List A) → Differ (without_repeats same xs)
once_differ same itself xs = (fresh_differ same itself [] xs).0

-- what is left is of the list
pub among_fresh : {A : Type 0} (same : A → A → Bool) (known xs : List A) (x : A) → Among x (without_known same known xs) → Among x xs
among_fresh same known [] x a = a
among_fresh {A} same known (z ∷ zs) x a = by (list_any (same z) known) (λ c. among_fresh same known zs x c) (λ c. among_fresh same (z ∷ known) zs x c) a
  where
    by : (b : Bool) → (Among x (without_known same known zs) → Among x zs) → (Among x (without_known same (z ∷ known) zs) → Among x zs)
        → Among x (cond b (without_known same known zs) (z ∷ without_known same (z ∷ known) zs)) → Among x (z ∷ zs)
    by true old new a = inr (old a)
    by false old new (inl e) = inl e
    by false old new (inr a) = inr (new a)

-- what is of the list is left or known
among_left : {A : Type 0} (same : A → A → Bool) → ((x y : A) → same x y ≡ true → x ≡ y) → (known xs : List A) (x : A) → Among x xs → Among x (without_known same known xs) ⊎ Among x known
among_left same decides known [] x a = absurd a
among_left {A} same decides known (z ∷ zs) x a = by (list_any (same z) known) refl (λ c. among_left same decides known zs x c) (λ c. among_left same decides (z ∷ known) zs x c) a
  where
    by : (b : Bool) → list_any (same z) known ≡ b → (Among x zs → Among x (without_known same known zs) ⊎ Among x known) → (Among x zs → Among x (without_known same (z ∷ known) zs) ⊎ Among x (z ∷ known))
        → Among x (z ∷ zs) → Among x (cond b (without_known same known zs) (z ∷ without_known same (z ∷ known) zs)) ⊎ Among x known
    by true e old new (inl s) =
        let r = among_any (same z) known e in
        let one : r.0 ≡ x = sym (decides z r.0 r.2) ∙ s in
        inr (rw one at r.1)
    by true e old new (inr a) = old a
    by false e old new (inl s) = inl (inl s)
    by false e old new (inr a) = ⊎_elim (λ c. inl (inr c)) (λ c. ⊎_elim (λ s. inl (inl s)) (λ k. inr k) c) (new a)

-- nothing of the list is lost
pub among_once : {A : Type 0} (same : A → A → Bool) → ((x y : A) → same x y ≡ true → x ≡ y) → (xs : List A) (x : A) → Among x xs → Among x (without_repeats same xs)
among_once same decides xs x a = ⊎_elim (λ c. c) (λ c. absurd c) (among_left same decides [] xs x a)
