-- Numbers with their repeats left out.
use Rattle.std.proofs.Common.{◌≡◌, ℕ, ◌+◌, ◌≤◌, List, [], ◌∷◌, ◌++◌, Bool, true, false, cond, filter, ◌==◌, ◌||◌, refl, sym, ap, ◌∙◌, arith, ⊎_elim}
use Rattle.std.specs.List.{list_any}
use Rattle.std.proofs.lemmas.Bool.{eqb-true, eq-eqb, cases_Bool, or_parts}
use Rattle.std.proofs.lemmas.List.Folds.{list_any-append}
use Rattle.psdl_lineage.specs.Descent.{has, without_known, without_repeats}
use Rattle.psdl_lineage.specs.inner.Walking.{occurs}

-- those of xs that are not known, each once
abbrev pub fresh : List ℕ → List ℕ → List ℕ
fresh known xs = without_known (λ a b. a == b) known xs

abbrev pub once : List ℕ → List ℕ
once xs = without_repeats (λ a b. a == b) xs

abbrev pub Within : List ℕ → List ℕ → Type 0
Within xs ys = (n : ℕ) → has xs n ≡ true → has ys n ≡ true

-- ---- whether a number is there

pub has-append : (xs ys : List ℕ) (n : ℕ) → has (xs ++ ys) n ≡ (has xs n || has ys n)
has-append xs ys n = list_any-append (λ m. m == n) xs ys

same_as : (a b : ℕ) (x y : Bool) → (a == b) ≡ x → (b == a) ≡ y → x ≡ y
same_as a b true true p q = refl
same_as a b false false p q = refl
same_as a b true false p q = absurd (cc (eq-eqb b a (sym (eqb-true a b p))))
same_as a b false true p q = absurd (cc (eq-eqb a b (sym (eqb-true b a q))))

pub turned : (a b : ℕ) → (a == b) ≡ (b == a)
turned a b = same_as a b (a == b) (b == a) refl refl

known_has : (known : List ℕ) (x : ℕ) → list_any (λ b. x == b) known ≡ has known x
known_has [] x = refl
known_has (k ∷ known) x = ap (λ v. v || list_any (λ b. x == b) known) (turned x k) ∙ ap (λ v. (k == x) || v) (known_has known x)

or_true : (b : Bool) → (b || true) ≡ true
or_true true = refl
or_true false = refl

pub or_false : (b : Bool) → (b || false) ≡ b
or_false true = refl
or_false false = refl

or_swap : (a b c : Bool) → ((a || b) || c) ≡ (b || (a || c))
or_swap true true c = refl
or_swap true false c = refl
or_swap false true c = refl
or_swap false false c = refl

pub has_here : (x : ℕ) (xs : List ℕ) → has (x ∷ xs) x ≡ true
has_here x xs = ap (λ v. v || has xs x) (eq-eqb x x refl)

pub has_later : (x n : ℕ) (xs : List ℕ) → has xs n ≡ true → has (x ∷ xs) n ≡ true
has_later x n xs h = ap (λ v. (x == n) || v) h ∙ or_true (x == n)

pub has_kept : (test : ℕ → Bool) (xs : List ℕ) (n : ℕ) → has (filter test xs) n ≡ true → has xs n ≡ true
has_kept test [] n h = h
has_kept test (x ∷ xs) n h =
    ⊎_elim
    (λ t.
    let kept : has (x ∷ filter test xs) n ≡ true = sym (ap (λ v. has (cond v (x ∷ filter test xs) (filter test xs)) n) t) ∙ h in
    ⊎_elim (λ u. ap (λ v. v || has xs n) u)
    (λ u. has_later x n xs (has_kept test xs n (sym (ap (λ v. v || has (filter test xs) n) u) ∙ kept)))
    (cases_Bool (x == n)))
    (λ f. has_later x n xs (has_kept test xs n (sym (ap (λ v. has (cond v (x ∷ filter test xs) (filter test xs)) n) f) ∙ h)))
    (cases_Bool (test x))

-- where x is known, it adds nothing
absorbed : (known : List ℕ) (x n : ℕ) (rest : Bool) → has known x ≡ true → (rest || has known n) ≡ (((x == n) || rest) || has known n)
absorbed known x n rest h =
    ⊎_elim
    (λ t.
    let there : has known n ≡ true = ap (λ m. has known m) (sym (eqb-true x n t)) ∙ h in
    ap (λ v. rest || v) there ∙ or_true rest ∙ sym (ap (λ v. (v || rest) || has known n) t))
    (λ f. sym (ap (λ v. (v || rest) || has known n) f))
    (cases_Bool (x == n))

-- ---- what is left out

pub fresh_old : (known : List ℕ) (x : ℕ) (xs : List ℕ) → has known x ≡ true → fresh known (x ∷ xs) ≡ fresh known xs
fresh_old known x xs h = ap (λ v. cond v (fresh known xs) (x ∷ fresh (x ∷ known) xs)) (known_has known x ∙ h)

pub fresh_new : (known : List ℕ) (x : ℕ) (xs : List ℕ) → has known x ≡ false → fresh known (x ∷ xs) ≡ x ∷ fresh (x ∷ known) xs
fresh_new known x xs h = ap (λ v. cond v (fresh known xs) (x ∷ fresh (x ∷ known) xs)) (known_has known x ∙ h)

pub fresh_alike : (xs a b : List ℕ) → ((n : ℕ) → has a n ≡ has b n) → fresh a xs ≡ fresh b xs
fresh_alike [] a b h = refl
fresh_alike (x ∷ xs) a b h =
    ⊎_elim
    (λ t. fresh_old a x xs t ∙ fresh_alike xs a b h ∙ sym (fresh_old b x xs (sym (h x) ∙ t)))
    (λ f.
    fresh_new a x xs f
    ∙ ap (λ l. x ∷ l) (fresh_alike xs (x ∷ a) (x ∷ b) (λ n. ap (λ v. (x == n) || v) (h n)))
    ∙ sym (fresh_new b x xs (sym (h x) ∙ f)))
    (cases_Bool (has a x))

pub fresh-append : (xs ys known after : List ℕ) → ((n : ℕ) → has after n ≡ (has xs n || has known n)) → fresh known (xs ++ ys) ≡ fresh known xs ++ fresh after ys
fresh-append [] ys known after h = fresh_alike ys known after (λ n. sym (h n))
fresh-append (x ∷ xs) ys known after h =
    ⊎_elim
    (λ t.
    fresh_old known x (xs ++ ys) t
    ∙ fresh-append xs ys known after (λ n. h n ∙ sym (absorbed known x n (has xs n) t))
    ∙ ap (λ l. l ++ fresh after ys) (sym (fresh_old known x xs t)))
    (λ f.
    fresh_new known x (xs ++ ys) f
    ∙ ap (λ l. x ∷ l) (fresh-append xs ys (x ∷ known) after (λ n. h n ∙ or_swap (x == n) (has xs n) (has known n)))
    ∙ ap (λ l. l ++ fresh after ys) (sym (fresh_new known x xs f)))
    (cases_Bool (has known x))

pub has_fresh : (xs known : List ℕ) (n : ℕ) → (has (fresh known xs) n || has known n) ≡ (has xs n || has known n)
has_fresh [] known n = refl
has_fresh (x ∷ xs) known n =
    ⊎_elim
    (λ t. ap (λ l. has l n || has known n) (fresh_old known x xs t) ∙ has_fresh xs known n ∙ absorbed known x n (has xs n) t)
    (λ f.
    ap (λ l. has l n || has known n) (fresh_new known x xs f)
    ∙ or_swap (x == n) (has (fresh (x ∷ known) xs) n) (has known n)
    ∙ has_fresh xs (x ∷ known) n
    ∙ sym (or_swap (x == n) (has xs n) (has known n)))
    (cases_Bool (has known x))

pub has_once : (xs : List ℕ) (n : ℕ) → has (once xs) n ≡ has xs n
has_once xs n = sym (or_false (has (once xs) n)) ∙ has_fresh xs [] n ∙ or_false (has xs n)

within_both : (x : ℕ) (a b : List ℕ) → Within a b → Within (x ∷ a) (x ∷ b)
within_both x a b w n h =
    ⊎_elim (λ t. ap (λ v. v || has b n) t) (λ f. has_later x n b (w n (sym (ap (λ v. v || has a n) f) ∙ h))) (cases_Bool (x == n))

within_more : (x : ℕ) (a b : List ℕ) → has b x ≡ true → Within a b → Within (x ∷ a) b
within_more x a b there w n h =
    ⊎_elim (λ t. ap (λ m. has b m) (sym (eqb-true x n t)) ∙ there) (λ f. w n (sym (ap (λ v. v || has a n) f) ∙ h)) (cases_Bool (x == n))

-- leaving out less before changes nothing
pub fresh_fresh : (xs before known : List ℕ) → Within before known → fresh known (fresh before xs) ≡ fresh known xs
fresh_fresh [] before known w = refl
fresh_fresh (x ∷ xs) before known w =
    ⊎_elim
    (λ t. ap (λ l. fresh known l) (fresh_old before x xs t) ∙ fresh_fresh xs before known w ∙ sym (fresh_old known x xs (w x t)))
    (λ f.
    ap (λ l. fresh known l) (fresh_new before x xs f)
    ∙ ⊎_elim
    (λ u. fresh_old known x (fresh (x ∷ before) xs) u ∙ fresh_fresh xs (x ∷ before) known (within_more x before known u w) ∙ sym (fresh_old known x xs u))
    (λ u.
    fresh_new known x (fresh (x ∷ before) xs) u
    ∙ ap (λ l. x ∷ l) (fresh_fresh xs (x ∷ before) (x ∷ known) (within_both x before known w))
    ∙ sym (fresh_new known x xs u))
    (cases_Bool (has known x)))
    (cases_Bool (has before x))

pub fresh_none : (xs known : List ℕ) → Within xs known → fresh known xs ≡ []
fresh_none [] known w = refl
fresh_none (x ∷ xs) known w = fresh_old known x xs (w x (has_here x xs)) ∙ fresh_none xs known (λ n h. w n (has_later x n xs h))

-- ---- behind what was found

pub once-append : (xs ys : List ℕ) → once (xs ++ ys) ≡ once xs ++ fresh xs ys
once-append xs ys = fresh-append xs ys [] xs (λ n. sym (or_false (has xs n)))

-- what is left out later need not be left out before
pub once_absorbs : (found xs ys : List ℕ) → once (found ++ (once xs ++ ys)) ≡ once (found ++ (xs ++ ys))
once_absorbs found xs ys =
    let same : fresh found (once xs ++ ys) ≡ fresh found (xs ++ ys) =
    fresh-append (once xs) ys found (xs ++ found) (λ n. has-append xs found n ∙ ap (λ v. v || has found n) (sym (has_once xs n)))
    ∙ ap (λ l. l ++ fresh (xs ++ found) ys) (fresh_fresh xs [] found (λ n h. absurd (cc)))
    ∙ sym (fresh-append xs ys found (xs ++ found) (λ n. has-append xs found n)) in
    once-append found (once xs ++ ys) ∙ ap (λ l. once found ++ l) same ∙ sym (once-append found (xs ++ ys))

-- what was found adds nothing
pub once_skips : (found xs ys : List ℕ) → Within xs found → once (found ++ (xs ++ ys)) ≡ once (found ++ ys)
once_skips found xs ys w =
    let alike : (n : ℕ) → has found n ≡ (has xs n || has found n) =
    λ n. ⊎_elim (λ t. w n t ∙ sym (ap (λ v. v || has found n) t)) (λ f. sym (ap (λ v. v || has found n) f)) (cases_Bool (has xs n)) in
    let same : fresh found (xs ++ ys) ≡ fresh found ys =
    fresh-append xs ys found found alike ∙ ap (λ l. l ++ fresh found ys) (fresh_none xs found w) in
    once-append found (xs ++ ys) ∙ ap (λ l. once found ++ l) same ∙ sym (once-append found ys)

-- ---- where nothing comes twice

pub occurs_none : (xs : List ℕ) (n : ℕ) → has xs n ≡ false → occurs n xs ≡ 0
occurs_none [] n h = refl
occurs_none (x ∷ xs) n h =
    let parts = or_parts (x == n) (has xs n) h in
    let rest : occurs n xs ≡ 0 = occurs_none xs n parts.1 in
    ap (λ v. cond v 1 0 + occurs n xs) parts.0 ∙ ap (λ m. 0 + m) rest

pub occurs_some : (xs : List ℕ) (n : ℕ) → has xs n ≡ true → 1 ≤ occurs n xs
occurs_some [] n h = absurd (cc)
occurs_some (x ∷ xs) n h =
    ⊎_elim
    (λ t. let e : occurs n (x ∷ xs) ≡ 1 + occurs n xs = ap (λ v. cond v 1 0 + occurs n xs) t in omega (arith, e))
    (λ f.
    let e : occurs n (x ∷ xs) ≡ 0 + occurs n xs = ap (λ v. cond v 1 0 + occurs n xs) f in
    let more : 1 ≤ occurs n xs = occurs_some xs n (sym (ap (λ v. v || has xs n) f) ∙ h) in
    omega (arith, e))
    (cases_Bool (x == n))

occurs_here : (x : ℕ) (xs : List ℕ) → occurs x (x ∷ xs) ≡ 1 + occurs x xs
occurs_here x xs = ap (λ v. cond v 1 0 + occurs x xs) (eq-eqb x x refl)

fresh_all : (xs known : List ℕ) → ((n : ℕ) → occurs n known + occurs n xs ≤ 1) → fresh known xs ≡ xs
fresh_all [] known h = refl
fresh_all (x ∷ xs) known h =
    ⊎_elim
    (λ t. absurd (omega (arith, h x, occurs_here x xs, occurs_some known x t)))
    (λ f. fresh_new known x xs f ∙ ap (λ l. x ∷ l) (fresh_all xs (x ∷ known) (λ n. omega (arith, h n))))
    (cases_Bool (has known x))

pub once_distinct : (xs : List ℕ) → ((n : ℕ) → occurs n xs ≤ 1) → once xs ≡ xs
once_distinct xs h = fresh_all xs [] (λ n. omega (arith, h n))
