-- The first descendants, root by root.
use Rattle.std.proofs.Common.{◌≡◌, ℕ, zero, suc, ◌+◌, ◌≤◌, ◌<◌, List, [], ◌∷◌, ◌++◌, Bool, true, false, cond, ◌==◌, ◌||◌, length, take, drop, get_or, Option, Some, None, refl, sym, ap, ◌∙◌, arith, ⊎_elim, get_or-set_same, get_or-set_other, length-append}
use Rattle.std.specs.List.{find}
use Rattle.std.specs.Option.{is_some}
use Rattle.std.proofs.Math.ListN.{set, replicate}
use Rattle.std.proofs.lemmas.List.{length-replicate}
use Rattle.std.proofs.Math.Seq.{drop-append_seam}
use Rattle.std.proofs.lemmas.Bool.{eqb-true, eq-eqb, cases_Bool}
use Rattle.std.proofs.lemmas.List.Folds.{list_any_at, list_any_more}
use Rattle.psdl_lineage.specs.Descent.{has}
use Rattle.psdl_lineage.specs.Graph.{ancestry_in, first_descendant}
use Rattle.psdl_lineage.specs.inner.Walks.{AreFirst}
use Rattle.psdl_lineage.proofs.Listing.{take_more}
use Rattle.psdl_lineage.proofs.Repeats.{once, fresh, fresh_old, fresh_new, or_false, has-append, has_once, has_later, once-append, has_fresh}

pub there_at : (xs : List ℕ) (i : ℕ) → i < length xs → has xs (get_or xs i 0) ≡ true
there_at xs i lt = list_any_at (λ m. m == get_or xs i 0) xs i 0 lt (eq-eqb (get_or xs i 0) (get_or xs i 0) refl)

-- one more is set
set_more : (firsts : List (Option ℕ)) (i root n : ℕ) → i < length firsts → (b : Bool) → (i == n) ≡ b → get_or (set firsts i (Some root)) n None ≡ cond b (Some root) (get_or firsts n None)
set_more firsts i root n lt true h = ap (λ m. get_or (set firsts i (Some root)) m None) (sym (eqb-true i n h)) ∙ get_or-set_same firsts i (Some root) None lt
set_more firsts i root n lt false h = get_or-set_other firsts i n (Some root) None (λ e. cc (eq-eqb i n (sym e)))

joined : {A : Type 0} (a b : Bool) (x y : A) → cond b x (cond a x y) ≡ cond (a || b) x y
joined true true x y = refl
joined true false x y = refl
joined false true x y = refl
joined false false x y = refl

pub given_more : (firsts old : List (Option ℕ)) (numbers : List ℕ) (k root : ℕ) → k < length numbers → get_or numbers k 0 < length firsts
    → ((n : ℕ) → get_or firsts n None ≡ cond (has (take k numbers) n) (Some root) (get_or old n None))
    → (n : ℕ) → get_or (set firsts (get_or numbers k 0) (Some root)) n None ≡ cond (has (take (k + 1) numbers) n) (Some root) (get_or old n None)
given_more firsts old numbers k root within lt so_far n =
    let i : ℕ = get_or numbers k 0 in
    let more : has (take (k + 1) numbers) n ≡ (has (take k numbers) n || (i == n)) = list_any_more (λ m. m == n) numbers k 0 within in
    set_more firsts i root n lt (i == n) refl
    ∙ ap (λ o. cond (i == n) (Some root) o) (so_far n)
    ∙ joined (has (take k numbers) n) (i == n) (Some root) (get_or old n None)
    ∙ sym (ap (λ v. cond v (Some root) (get_or old n None)) more)

-- ---- one root more

fresh_unknown : (known xs : List ℕ) (n : ℕ) → has known n ≡ true → has (fresh known xs) n ≡ false
fresh_unknown known [] n h = refl
fresh_unknown known (x ∷ xs) n h =
    ⊎_elim
    (λ t. ap (λ l. has l n) (fresh_old known x xs t) ∙ fresh_unknown known xs n h)
    (λ f.
    ap (λ l. has l n) (fresh_new known x xs f)
    ∙ ⊎_elim (λ u. absurd (cc (ap (λ m. has known m) (eqb-true x n u)))) (λ u. ap (λ v. v || has (fresh (x ∷ known) xs) n) u ∙ fresh_unknown (x ∷ known) xs n (has_later x n known h)) (cases_Bool (x == n)))
    (cases_Bool (has known x))

fresh_others : (known xs : List ℕ) (n : ℕ) → has known n ≡ false → has (fresh known xs) n ≡ has xs n
fresh_others known xs n h =
    sym (or_false (has (fresh known xs) n)) ∙ ap (λ v. has (fresh known xs) n || v) (sym h) ∙ has_fresh xs known n ∙ ap (λ v. has xs n || v) h ∙ or_false (has xs n)

find_kept : (test : ℕ → Bool) (xs ys : List ℕ) → is_some (find test xs) ≡ true → find test (xs ++ ys) ≡ find test xs
find_kept test [] ys h = absurd (cc)
find_kept test (x ∷ xs) ys h =
    ⊎_elim (λ t. ap (λ v. cond v (Some x) (find test (xs ++ ys))) t ∙ sym (ap (λ v. cond v (Some x) (find test xs)) t))
    (λ f.
    ap (λ v. cond v (Some x) (find test (xs ++ ys))) f
    ∙ find_kept test xs ys (sym (ap (λ v. is_some (cond v (Some x) (find test xs))) f) ∙ h)
    ∙ sym (ap (λ v. cond v (Some x) (find test xs)) f))
    (cases_Bool (test x))

find_next : (test : ℕ → Bool) (xs ys : List ℕ) → is_some (find test xs) ≡ false → find test (xs ++ ys) ≡ find test ys
find_next test [] ys h = refl
find_next test (x ∷ xs) ys h =
    ⊎_elim (λ t. absurd (cc (ap (λ v. is_some (cond v (Some x) (find test xs))) t)))
    (λ f. ap (λ v. cond v (Some x) (find test (xs ++ ys))) f ∙ find_next test xs ys (sym (ap (λ v. is_some (cond v (Some x) (find test xs))) f) ∙ h))
    (cases_Bool (test x))

none_there : (o : Option ℕ) → is_some o ≡ false → o ≡ None
none_there None h = refl
none_there (Some x) h = absurd (cc)

some_of : (b : Bool) (x : ℕ) → is_some (cond b (Some x) None) ≡ b
some_of true x = refl
some_of false x = refl

found_then : (found anc found' : List ℕ) → once found ≡ found → found' ≡ once (found ++ anc) → found' ≡ found ++ fresh found anc
found_then found anc found' distinct e = e ∙ once-append found anc ∙ ap (λ l. l ++ fresh found anc) distinct

since : (found anc found' : List ℕ) → once found ≡ found → found' ≡ once (found ++ anc) → drop (length found) found' ≡ fresh found anc
since found anc found' distinct e = ap (λ l. drop (length found) l) (found_then found anc found' distinct e) ∙ drop-append_seam found (fresh found anc)

reached_more : (graph : List (List ℕ)) (roots : List ℕ) (found found' : List ℕ) (r n : ℕ) → has found n ≡ is_some (first_descendant graph roots n)
    → found' ≡ once (found ++ ancestry_in graph r) → has found' n ≡ is_some (first_descendant graph (roots ++ r ∷ []) n)
reached_more graph roots found found' r n so_far e =
    let anc : List ℕ = ancestry_in graph r in
    let test : ℕ → Bool = λ h. has (ancestry_in graph h) n in
    let all : has found' n ≡ (has found n || has anc n) = ap (λ l. has l n) e ∙ has_once (found ++ anc) n ∙ has-append found anc n in
    ⊎_elim
    (λ t. all ∙ ap (λ v. v || has anc n) t ∙ sym (ap (λ o. is_some o) (find_kept test roots (r ∷ []) (sym so_far ∙ t)) ∙ sym so_far ∙ t))
    (λ f. all ∙ ap (λ v. v || has anc n) f ∙ sym (ap (λ o. is_some o) (find_next test roots (r ∷ []) (sym so_far ∙ f)) ∙ some_of (has anc n) r))
    (cases_Bool (has found n))

given_first : (graph : List (List ℕ)) (roots : List ℕ) (found found' : List ℕ) (firsts firsts' : List (Option ℕ)) (r n : ℕ) → has found n ≡ is_some (first_descendant graph roots n)
    → get_or firsts n None ≡ first_descendant graph roots n → once found ≡ found → found' ≡ once (found ++ ancestry_in graph r)
    → get_or firsts' n None ≡ cond (has (drop (length found) found') n) (Some r) (get_or firsts n None)
    → get_or firsts' n None ≡ first_descendant graph (roots ++ r ∷ []) n
given_first graph roots found found' firsts firsts' r n so_far each distinct e given =
    let anc : List ℕ = ancestry_in graph r in
    let test : ℕ → Bool = λ h. has (ancestry_in graph h) n in
    let now : get_or firsts' n None ≡ cond (has (fresh found anc) n) (Some r) (get_or firsts n None) =
    given ∙ ap (λ l. cond (has l n) (Some r) (get_or firsts n None)) (since found anc found' distinct e) in
    ⊎_elim
    (λ t. now ∙ ap (λ v. cond v (Some r) (get_or firsts n None)) (fresh_unknown found anc n t) ∙ each ∙ sym (find_kept test roots (r ∷ []) (sym so_far ∙ t)))
    (λ f.
    now
    ∙ ap (λ v. cond v (Some r) (get_or firsts n None)) (fresh_others found anc n f)
    ∙ ap (λ o. cond (has anc n) (Some r) o) (each ∙ none_there (first_descendant graph roots n) (sym so_far ∙ f))
    ∙ sym (find_next test roots (r ∷ []) (sym so_far ∙ f)))
    (cases_Bool (has found n))

pub one_root_more : (graph : List (List ℕ)) (roots : List ℕ) (i : ℕ) (found found' : List ℕ) (firsts firsts' : List (Option ℕ)) → i < length roots
    → AreFirst graph (take i roots) found firsts → once found ≡ found → found' ≡ once (found ++ ancestry_in graph (get_or roots i 0)) → length firsts' ≡ length firsts
    → ((n : ℕ) → get_or firsts' n None ≡ cond (has (drop (length found) found') n) (Some (get_or roots i 0)) (get_or firsts n None))
    → AreFirst graph (take (i + 1) roots) found' firsts'
one_root_more graph roots i found found' firsts firsts' lt so_far distinct e len given =
    let r : ℕ = get_or roots i 0 in
    rw (take_more roots i 0 lt)
    (record {
      sized = len ∙ so_far.sized;
      reached = λ n. reached_more graph (take i roots) found found' r n (so_far.reached n) e;
      each = λ n below. given_first graph (take i roots) found found' firsts firsts' r n (so_far.reached n) (so_far.each n below) distinct e (given n);
    })

-- ---- the first of all

get_or-replicate : (k n : ℕ) → (o : Option ℕ) → get_or (replicate k o) n o ≡ o
get_or-replicate zero n o = refl
get_or-replicate (suc k) zero o = refl
get_or-replicate (suc k) (suc n) o = get_or-replicate k n o

pub none_first : (graph : List (List ℕ)) (found : List ℕ) (firsts : List (Option ℕ)) → found ≡ [] → firsts ≡ replicate (length graph) None → AreFirst graph [] found firsts
none_first graph found firsts none e =
    record {
      sized = ap (λ l. length l) e ∙ length-replicate (length graph) None;
      reached = λ n. ap (λ l. has l n) none;
      each = λ n below. ap (λ l. get_or l n None) e ∙ get_or-replicate (length graph) n None;
    }

pub longer : (found anc found' : List ℕ) → once found ≡ found → found' ≡ once (found ++ anc) → length found ≤ length found'
longer found anc found' distinct e = omega (arith, ap (λ l. length l) (found_then found anc found' distinct e), length-append found (fresh found anc))
