-- Whether two of a list clash does not depend on its order, on repeats, or on what clashes with nothing.
use Rattle.std.proofs.Common.{◌≡◌, ℕ, List, [], ◌∷◌, ◌++◌, Bool, true, false, cond, not, ◌&&◌, ◌||◌, filter, refl, sym, ap, ◌∙◌, ⊎_elim}
use Rattle.std.specs.List.{list_any, list_all, flat_map}
use Rattle.std.proofs.lemmas.Bool.{cases_Bool}
use Rattle.std.proofs.lemmas.List.Elements.{filter-append}
use Rattle.std.proofs.lemmas.List.Folds.{list_any-append}
use Rattle.type_layout.specs.Sound.{are_distinct}
use Rattle.psdl_lineage.specs.Descent.{without_known, without_repeats}
use Rattle.psdl_members.specs.inner.Clashing.{some_clash}

pub any_same : {A : Type 0} (f g : A → Bool) → ((x : A) → f x ≡ g x) → (xs : List A) → list_any f xs ≡ list_any g xs
any_same f g h [] = refl
any_same f g h (x ∷ xs) = ap (λ (b : Bool). b || list_any f xs) (h x) ∙ ap (λ (b : Bool). g x || b) (any_same f g h xs)

swap_mid : (a b c d : Bool) → (a || b) || (c || d) ≡ (a || c) || (b || d)
swap_mid true b c d = refl
swap_mid false true true d = refl
swap_mid false true false d = refl
swap_mid false false c d = refl

any_or : {A : Type 0} (f g : A → Bool) (xs : List A) → list_any (λ x. f x || g x) xs ≡ list_any f xs || list_any g xs
any_or f g [] = refl
any_or f g (x ∷ xs) = ap (λ (b : Bool). (f x || g x) || b) (any_or f g xs) ∙ swap_mid (f x) (g x) (list_any f xs) (list_any g xs)

or_self : (a b : Bool) → a || (a || b) ≡ a || b
or_self true b = refl
or_self false b = refl

not_and : (a d s : Bool) → not d ≡ s → not (not a && d) ≡ a || s
not_and true d s e = refl
not_and false d s e = e

-- for clashes that go both ways, and of nothing with itself
pub clash_is : {A : Type 0} (clash : A → A → Bool) → ((a : A) → clash a a ≡ false) → ((a b : A) → clash a b ≡ clash b a) → (xs : List A) → not (are_distinct clash xs) ≡ some_clash clash xs
clash_is clash self turned [] = refl
clash_is {A} clash self turned (x ∷ xs) =
    let here : Bool = list_any (clash x) xs in
    not_and here (are_distinct clash xs) (some_clash clash xs) (clash_is clash self turned xs)
    ∙ sym (or_self here (some_clash clash xs))
    ∙ ap (λ (b : Bool). here || (b || some_clash clash xs)) (any_same (clash x) (λ a. clash a x) (λ a. turned x a) xs)
    ∙ ap (λ (b : Bool). here || b) (sym (any_or (λ a. clash a x) (λ a. list_any (clash a) xs) xs))
    ∙ ap (λ (b : Bool). (b || here) || list_any (λ a. clash a x || list_any (clash a) xs) xs) (sym (self x))

-- ---- repeats

any_known : {A : Type 0} (same : A → A → Bool) → ((a b : A) → same a b ≡ true → a ≡ b) → (p : A → Bool) (known : List A) (x : A) → list_any (same x) known ≡ true → p x ≡ true → list_any p known ≡ true
any_known same one p [] x h t = absurd (cc)
any_known {A} same one p (k ∷ known) x h t =
    ⊎_elim
    (λ u. ap (λ (b : Bool). b || list_any p known) (ap p (sym (one x k u)) ∙ t))
    (λ u. ap (λ (b : Bool). p k || b) (any_known same one p known x (sym (ap (λ (b : Bool). b || list_any (same x) known) u) ∙ h) t) ∙ or_true (p k))
    (cases_Bool (same x k))
  where
    or_true : (b : Bool) → b || true ≡ true
    or_true true = refl
    or_true false = refl

taken_in : (p r k : Bool) → (p ≡ true → k ≡ true) → r || k ≡ (p || r) || k
taken_in true true k h = refl
taken_in true false k h = h refl
taken_in false r k h = refl

to_back : (p r k : Bool) → p || (r || k) ≡ r || (p || k)
to_back true true k = refl
to_back true false k = refl
to_back false r k = refl

or_assoc : (p r k : Bool) → (p || r) || k ≡ p || (r || k)
or_assoc true r k = refl
or_assoc false r k = refl

any_fresh : {A : Type 0} (same : A → A → Bool) → ((a b : A) → same a b ≡ true → a ≡ b) → (p : A → Bool) (known xs : List A) → list_any p (without_known same known xs) || list_any p known ≡ list_any p xs || list_any p known
any_fresh same one p known [] = refl
any_fresh {A} same one p known (x ∷ xs) =
    ⊎_elim
    (λ u.
    ap (λ (b : Bool). list_any p (cond b (without_known same known xs) (x ∷ without_known same (x ∷ known) xs)) || list_any p known) u
    ∙ any_fresh same one p known xs
    ∙ taken_in (p x) (list_any p xs) (list_any p known) (any_known same one p known x u))
    (λ u.
    ap (λ (b : Bool). list_any p (cond b (without_known same known xs) (x ∷ without_known same (x ∷ known) xs)) || list_any p known) u
    ∙ or_assoc (p x) (list_any p (without_known same (x ∷ known) xs)) (list_any p known)
    ∙ to_back (p x) (list_any p (without_known same (x ∷ known) xs)) (list_any p known)
    ∙ any_fresh same one p (x ∷ known) xs
    ∙ sym (to_back (p x) (list_any p xs) (list_any p known))
    ∙ sym (or_assoc (p x) (list_any p xs) (list_any p known)))
    (cases_Bool (list_any (same x) known))

or_false : (b : Bool) → b || false ≡ b
or_false true = refl
or_false false = refl

pub any_once : {A : Type 0} (same : A → A → Bool) → ((a b : A) → same a b ≡ true → a ≡ b) → (p : A → Bool) (xs : List A) → list_any p (without_repeats same xs) ≡ list_any p xs
any_once same one p xs = sym (or_false (list_any p (without_repeats same xs))) ∙ any_fresh same one p [] xs ∙ or_false (list_any p xs)

pub repeats_clash : {A : Type 0} (same : A → A → Bool) → ((a b : A) → same a b ≡ true → a ≡ b) → (clash : A → A → Bool) (xs : List A) → some_clash clash (without_repeats same xs) ≡ some_clash clash xs
repeats_clash same one clash xs =
    any_once same one (λ a. list_any (clash a) (without_repeats same xs)) xs
    ∙ any_same (λ a. list_any (clash a) (without_repeats same xs)) (λ a. list_any (clash a) xs) (λ a. any_once same one (clash a) xs) xs

-- ---- what clashes with nothing

pub both : (a b : Bool) → a && b ≡ true → (a ≡ true) × (b ≡ true)
both true true h = (refl, refl)
both true false h = absurd (cc)
both false b h = absurd (cc)

pub and_false : (b : Bool) → b && false ≡ false
and_false true = refl
and_false false = refl

any_on : {A : Type 0} (of f g : A → Bool) → ((x : A) → of x ≡ true → f x ≡ g x) → (xs : List A) → list_all of xs ≡ true → list_any f xs ≡ list_any g xs
any_on of f g h [] e = refl
any_on of f g h (x ∷ xs) e =
    ap (λ (b : Bool). b || list_any f xs) (h x ((both (of x) (list_all of xs) e).0))
    ∙ ap (λ (b : Bool). g x || b) (any_on of f g h xs ((both (of x) (list_all of xs) e).1))

kept_or : (b p rest kept : Bool) (f : Bool → Bool) → f true ≡ p || kept → f false ≡ kept → kept ≡ rest → f b ≡ (b && p) || rest
kept_or true p rest kept f on off e = on ∙ ap (λ (r : Bool). p || r) e
kept_or false p rest kept f on off e = off ∙ e

pub any_kept : {A : Type 0} (test p : A → Bool) (xs : List A) → list_any p (filter test xs) ≡ list_any (λ x. test x && p x) xs
any_kept test p [] = refl
any_kept test p (x ∷ xs) =
    kept_or (test x) (p x) (list_any (λ y. test y && p y) xs) (list_any p (filter test xs)) (λ (b : Bool). list_any p (cond b (x ∷ filter test xs) (filter test xs))) refl refl (any_kept test p xs)

all_three : (a b c : Bool) → (c ≡ true → (a ≡ true) × (b ≡ true)) → a && (b && c) ≡ c
all_three true true c h = refl
all_three true false true h = (h refl).1
all_three true false false h = refl
all_three false b true h = (h refl).0
all_three false b false h = refl

and_any : {A : Type 0} (a : Bool) (f : A → Bool) (xs : List A) → a && list_any f xs ≡ list_any (λ x. a && f x) xs
and_any true f xs = refl
and_any false f [] = refl
and_any false f (x ∷ xs) = and_any false f xs

pub kept_clash : {A : Type 0} (of test : A → Bool) (clash : A → A → Bool) → ((a b : A) → of a ≡ true → of b ≡ true → clash a b ≡ true → (test a ≡ true) × (test b ≡ true)) → (xs : List A) → list_all of xs ≡ true
    → some_clash clash (filter test xs) ≡ some_clash clash xs
kept_clash of test clash h xs e =
    any_kept test (λ a. list_any (clash a) (filter test xs)) xs
    ∙ any_on of (λ a. test a && list_any (clash a) (filter test xs)) (λ a. list_any (clash a) xs)
    (λ a pa.
    ap (λ (b : Bool). test a && b) (any_kept test (clash a) xs)
    ∙ and_any (test a) (λ b. test b && clash a b) xs
    ∙ any_on of (λ b. test a && (test b && clash a b)) (clash a) (λ b pb. all_three (test a) (test b) (clash a b) (h a b pa pb)) xs e)
    xs e

pub filter_flat : {A : Type 0} (test : A → Bool) (g : ℕ → List A) (xs : List ℕ) → filter test (flat_map g xs) ≡ flat_map (λ x. filter test (g x)) xs
filter_flat test g [] = refl
filter_flat test g (x ∷ xs) = filter-append test (g x) (flat_map g xs) ∙ ap (λ l. filter test (g x) ++ l) (filter_flat test g xs)

-- ---- one more

any_later : {A : Type 0} (p : A → Bool) (xs ys : List A) → list_any p xs ≡ true → list_any p (xs ++ ys) ≡ true
any_later p xs ys h = list_any-append p xs ys ∙ ap (λ (b : Bool). b || list_any p ys) h

any_here : {A : Type 0} (p : A → Bool) (xs ys : List A) (x : A) → p x ≡ true → list_any p (xs ++ x ∷ ys) ≡ true
any_here p xs ys x h = list_any-append p xs (x ∷ ys) ∙ ap (λ (b : Bool). list_any p xs || (b || list_any p ys)) h ∙ or_true (list_any p xs)
  where
    or_true : (b : Bool) → b || true ≡ true
    or_true true = refl
    or_true false = refl

-- it clashes with one in front
pub clash_in : {A : Type 0} (clash : A → A → Bool) (front back : List A) (x : A) → list_any (clash x) front ≡ true → some_clash clash (front ++ x ∷ back) ≡ true
clash_in clash front back x h = any_here (λ a. list_any (clash a) (front ++ x ∷ back)) front back x (any_later (clash x) front (x ∷ back) h)

or_on : (b : Bool) → b || true ≡ true
or_on true = refl
or_on false = refl

weaker : {A : Type 0} (clash : A → A → Bool) (front back xs : List A) → list_any (λ a. list_any (clash a) front) xs ≡ true → list_any (λ a. list_any (clash a) (front ++ back)) xs ≡ true
weaker clash front back [] e = absurd (cc)
weaker clash front back (x ∷ xs) e =
    ⊎_elim
    (λ t. ap (λ (b : Bool). b || list_any (λ a. list_any (clash a) (front ++ back)) xs) (any_later (clash x) front back t))
    (λ f.
    let rest : list_any (λ a. list_any (clash a) front) xs ≡ true = sym (ap (λ (b : Bool). b || list_any (λ a. list_any (clash a) front) xs) f) ∙ e in
    ap (λ (b : Bool). list_any (clash x) (front ++ back) || b) (weaker clash front back xs rest) ∙ or_on (list_any (clash x) (front ++ back)))
    (cases_Bool (list_any (clash x) front))

pub clash_front : {A : Type 0} (clash : A → A → Bool) (front back : List A) → some_clash clash front ≡ true → some_clash clash (front ++ back) ≡ true
clash_front clash front back h = any_later (λ a. list_any (clash a) (front ++ back)) front back (weaker clash front back front h)

-- nothing clashes where no two of some kind clash
pub no_clash : {A : Type 0} (of : A → Bool) (clash : A → A → Bool) → ((a b : A) → of a ≡ true → of b ≡ true → clash a b ≡ false) → (xs : List A) → list_all of xs ≡ true → some_clash clash xs ≡ false
no_clash {A} of clash h xs e = any_on of (λ a. list_any (clash a) xs) (λ _. false) (λ a t. any_on of (clash a) (λ _. false) (λ b u. h a b t u) xs e ∙ none xs) xs e ∙ none xs
  where
    none : (ys : List A) → list_any (λ _. false) ys ≡ false
    none [] = refl
    none (y ∷ ys) = none ys
