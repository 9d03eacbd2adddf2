-- Lists that are kept, and those that are joined from them.
use Rattle.std.proofs.Common.{◌≡◌, ℕ, zero, suc, ◌+◌, ◌≤◌, ◌<◌, List, [], ◌∷◌, ◌++◌, Bool, true, false, cond, ◌==◌, ◌||◌, length, filter, take, get_or, length-set, length-append, Option, Some, None, refl, sym, ap, ◌∙◌, arith, ⊎_elim, append-nil, get_or-set_same, get_or-set_other}
use Rattle.std.proofs.Math.ListN.{set}
use Rattle.std.specs.List.{flat_map, range_with_len}
use Rattle.std.specs.Option.{is_some, option_map, IfSome, OnSome}
use Rattle.std.specs.declared.vec.Vec.{Vec}
use Rattle.std.proofs.lemmas.Bool.{eqb-true, eq-eqb, cases_Bool}
use Rattle.std.proofs.lemmas.List.{take_all, map-append, map-set}
use Rattle.std.proofs.lemmas.List.Folds.{list_any_more}
use Rattle.std.proofs.lemmas.Grind.{flat_map-append}
use Rattle.psdl_lineage.proofs.Listing.{take_more}
use Rattle.psdl_lineage.proofs.Upwards.{lines_within}
use Rattle.std.proofs.lemmas.List.Elements.{filter-append}
use Rattle.psdl_lineage.specs.Descent.{has}
use Rattle.psdl_lineage.specs.Graph.{parents_in, ancestry_in, IsGraph}
use Rattle.psdl_lineage.specs.Sources.{is_own, sources_in}
use Rattle.psdl_lineage.specs.inner.KeptSources.{list_at, lists_of, counted, AreKept, NamesKept}
use Rattle.psdl_lineage.proofs.Repeats.{once, fresh, fresh_old, fresh_new, once_absorbs, has_later, has_kept}
use Rattle.psdl_lineage.proofs.Low.{AreLow, joined_of}

-- ---- only some are wanted

kept_if : (test : ℕ → Bool) (x : ℕ) (xs : List ℕ) → test x ≡ true → filter test (x ∷ xs) ≡ x ∷ filter test xs
kept_if test x xs h = ap (λ v. cond v (x ∷ filter test xs) (filter test xs)) h

dropped_if : (test : ℕ → Bool) (x : ℕ) (xs : List ℕ) → test x ≡ false → filter test (x ∷ xs) ≡ filter test xs
dropped_if test x xs h = ap (λ v. cond v (x ∷ filter test xs) (filter test xs)) h

unwanted : (test : ℕ → Bool) (x n : ℕ) (known : List ℕ) → test x ≡ false → test n ≡ true → has (x ∷ known) n ≡ has known n
unwanted test x n known off on =
    ⊎_elim (λ t. absurd (cc (ap test (eqb-true x n t)))) (λ f. ap (λ v. v || has known n) f) (cases_Bool (x == n))

-- leaving out repeats and leaving out what is not wanted go in either order
filter_fresh : (test : ℕ → Bool) (xs known known' : List ℕ) → ((n : ℕ) → test n ≡ true → has known n ≡ has known' n) → filter test (fresh known xs) ≡ fresh known' (filter test xs)
filter_fresh test [] known known' alike = refl
filter_fresh test (x ∷ xs) known known' alike =
    ⊎_elim
    (λ t.
    ⊎_elim
    (λ u.
    ap (λ l. filter test l) (fresh_old known x xs u) ∙ filter_fresh test xs known known' alike
    ∙ sym (ap (λ l. fresh known' l) (kept_if test x xs t) ∙ fresh_old known' x (filter test xs) (sym (alike x t) ∙ u)))
    (λ u.
    ap (λ l. filter test l) (fresh_new known x xs u)
    ∙ kept_if test x (fresh (x ∷ known) xs) t
    ∙ ap (λ l. x ∷ l) (filter_fresh test xs (x ∷ known) (x ∷ known') (λ n h. ap (λ v. (x == n) || v) (alike n h)))
    ∙ sym (ap (λ l. fresh known' l) (kept_if test x xs t) ∙ fresh_new known' x (filter test xs) (sym (alike x t) ∙ u)))
    (cases_Bool (has known x)))
    (λ t.
    ⊎_elim
    (λ u.
    ap (λ l. filter test l) (fresh_old known x xs u) ∙ filter_fresh test xs known known' alike
    ∙ sym (ap (λ l. fresh known' l) (dropped_if test x xs t)))
    (λ u.
    ap (λ l. filter test l) (fresh_new known x xs u)
    ∙ dropped_if test x (fresh (x ∷ known) xs) t
    ∙ filter_fresh test xs (x ∷ known) known' (λ n h. unwanted test x n known t h ∙ alike n h)
    ∙ sym (ap (λ l. fresh known' l) (dropped_if test x xs t)))
    (cases_Bool (has known x)))
    (cases_Bool (test x))

pub filter_once : (test : ℕ → Bool) (xs : List ℕ) → filter test (once xs) ≡ once (filter test xs)
filter_once test xs = filter_fresh test xs [] [] (λ n h. refl)

filter_flat : (test : ℕ → Bool) (g : ℕ → List ℕ) (xs : List ℕ) → filter test (flat_map g xs) ≡ flat_map (λ x. filter test (g x)) xs
filter_flat test g [] = refl
filter_flat test g (x ∷ xs) = filter-append test (g x) (flat_map g xs) ∙ ap (λ l. filter test (g x) ++ l) (filter_flat test g xs)

-- ---- how many are kept

pub counted_within : {A : Type 0} (lists : List (Option A)) → counted lists ≤ length lists
counted_within [] = omega arith
counted_within (None ∷ lists) = omega (arith, counted_within lists)
counted_within (Some x ∷ lists) = omega (arith, counted_within lists)

counted_set : {A : Type 0} (lists : List (Option A)) (n : ℕ) (x : A) → n < length lists → is_some (get_or lists n None) ≡ false → counted (set lists n (Some x)) ≡ counted lists + 1
counted_set [] n x lt off = absurd (omega (arith, lt))
counted_set (None ∷ lists) zero x lt off = omega arith
counted_set (Some y ∷ lists) zero x lt off = absurd (cc (off))
counted_set (None ∷ lists) (suc n) x lt off = omega (arith, counted_set lists n x (omega (arith, lt)) off)
counted_set (Some y ∷ lists) (suc n) x lt off = omega (arith, counted_set lists n x (omega (arith, lt)) off)

-- ---- one rank more

abbrev with_rank : (ℕ → ℕ) → ℕ → ℕ → ℕ → ℕ
with_rank rank n r m = cond (m == n) r (rank m)

rank_here : (rank : ℕ → ℕ) (n r : ℕ) → with_rank rank n r n ≡ r
rank_here rank n r = ap (λ v. cond v r (rank n)) (eq-eqb n n refl)

rank_other : (rank : ℕ → ℕ) (n r m : ℕ) → (m == n) ≡ false → with_rank rank n r m ≡ rank m
rank_other rank n r m h = ap (λ v. cond v r (rank m)) h

-- what is kept is another than what is not
another : (lists : List (Option (List ℕ))) (n m : ℕ) → is_some (list_at lists n) ≡ false → is_some (list_at lists m) ≡ true → (m == n) ≡ false
another lists n m off on = ⊎_elim (λ t. absurd (cc (off, on, ap (λ k. is_some (list_at lists k)) (eqb-true m n t)))) (λ f. f) (cases_Bool (m == n))

still_low : (graph : List (List ℕ)) (own : List Bool) (lists : List (Option (List ℕ))) (n r : ℕ) → (are : AreKept graph own lists) → is_some (list_at lists n) ≡ false
    → AreLow graph (with_rank are.rank n r) (λ m. is_some (list_at lists m))
still_low graph own lists n r are off m p here named =
    let both = are.low m p here named in
    (omega (arith, both.0, rank_other are.rank n r m (another lists n m off here), rank_other are.rank n r p (another lists n p off both.1)), both.1)

-- ---- what is joined from lists that are kept

pub sources_joined : (graph : List (List ℕ)) (own : List Bool) (lists : List (Option (List ℕ))) (n : ℕ) → AreKept graph own lists → is_some (list_at lists n) ≡ false → n < length graph → NamesKept graph lists n
    → sources_in graph own n ≡ once (flat_map (sources_in graph own) (parents_in graph n) ++ filter (is_own own) (n ∷ []))
sources_joined graph own lists n are off lt named =
    let test : ℕ → Bool = is_own own in
    let all : List ℕ = flat_map (ancestry_in graph) (parents_in graph n) in
    let rank : ℕ → ℕ = with_rank are.rank n (length graph) in
    let here : rank n ≡ length graph = rank_here are.rank n (length graph) in
    let lower : (p : ℕ) → has (parents_in graph n) p ≡ true → (rank p < rank n) × (is_some (list_at lists p) ≡ true) =
    λ p h.
    let on : is_some (list_at lists p) ≡ true = named p h in
    (omega (arith, here, are.below p on, counted_within lists, are.sized, rank_other are.rank n (length graph) p (another lists n p off on)), on) in
    ap (λ l. filter test l) (joined_of graph rank (λ m. is_some (list_at lists m)) n (still_low graph own lists n (length graph) are off) lt (omega (arith, here)) lower)
    ∙ filter_once test (all ++ n ∷ [])
    ∙ ap (λ l. once l) (filter-append test all (n ∷ []) ∙ ap (λ l. l ++ filter test (n ∷ [])) (filter_flat test (ancestry_in graph) (parents_in graph n)))

-- ---- what is joined is in the graph

pub has_range : (a k n : ℕ) → a ≤ n → n < a + k → has (range_with_len a k) n ≡ true
has_range a zero n low high = absurd (omega arith)
has_range a (suc k) n low high =
    ⊎_elim (λ t. ap (λ v. v || has (range_with_len (a + 1) k) n) t)
    (λ f.
    let other : a ≡ n → ⊥ = λ e. cc (eq-eqb a n e) in
    has_later a n (range_with_len (a + 1) k) (has_range (a + 1) k n (omega arith) (omega arith)))
    (cases_Bool (a == n))

pub range_has : (a k n : ℕ) → has (range_with_len a k) n ≡ true → n < a + k
range_has a zero n h = absurd (cc)
range_has a (suc k) n h =
    ⊎_elim (λ t. let e : a ≡ n = eqb-true a n t in omega arith)
    (λ f. omega (arith, range_has (a + 1) k n (sym (ap (λ v. v || has (range_with_len (a + 1) k) n) f) ∙ h)))
    (cases_Bool (a == n))

pub ancestry_below : (graph : List (List ℕ)) (n m : ℕ) → IsGraph graph → n < length graph → has (ancestry_in graph n) m ≡ true → m < length graph
unfolding ancestry_in
ancestry_below graph n m inside lt h =
    let all : List ℕ = range_with_len 0 (length graph) in
    omega (
      arith,
      range_has 0 (length graph) m
          (lines_within (length graph) graph (n ∷ []) all n (λ q p there named off. has_range 0 (length graph) p (omega arith) (omega (arith, inside q p named))) (has_range 0 (length graph) n (omega arith) (omega arith)) m h),
    )

pub sources_below : (graph : List (List ℕ)) (own : List Bool) (n : ℕ) → IsGraph graph → n < length graph → (m : ℕ) → has (sources_in graph own n) m ≡ true → m < length graph
sources_below graph own n inside lt m h = ancestry_below graph n m inside lt (has_kept (is_own own) (ancestry_in graph n) m h)

-- ---- parent by parent

pub one_parent_more : (each : ℕ → List ℕ) (ps : List ℕ) (i : ℕ) (joined list joined' : List ℕ) → i < length ps → joined ≡ once (flat_map each (take i ps)) → list ≡ each (get_or ps i 0)
    → joined' ≡ once (joined ++ list) → joined' ≡ once (flat_map each (take (i + 1) ps))
one_parent_more each ps i joined list joined' lt e el e' =
    let p : ℕ = get_or ps i 0 in
    let front : List ℕ = flat_map each (take i ps) in
    e' ∙ ap (λ l. once (l ++ list)) e ∙ once_absorbs [] front list ∙ ap (λ l. once (front ++ l)) (el ∙ sym (append-nil (each p)))
    ∙ sym (ap (λ l. once (flat_map each l)) (take_more ps i 0 lt) ∙ ap (λ l. once l) (flat_map-append each (take i ps) (p ∷ [])))

pub named_more : (lists : List (Option (List ℕ))) (ps : List ℕ) (i : ℕ) (list : List ℕ) → i < length ps → Some list ≡ list_at lists (get_or ps i 0)
    → ((p : ℕ) → has (take i ps) p ≡ true → is_some (list_at lists p) ≡ true) → (p : ℕ) → has (take (i + 1) ps) p ≡ true → is_some (list_at lists p) ≡ true
named_more lists ps i list lt e so_far p h =
    let x : ℕ = get_or ps i 0 in
    let parts : (has (take i ps) p || (x == p)) ≡ true = sym (list_any_more (λ m. m == p) ps i 0 lt) ∙ h in
    ⊎_elim (λ t. so_far p t)
    (λ f.
    let same : x ≡ p = eqb-true x p (sym (ap (λ v. v || (x == p)) f) ∙ parts) in
    ap (λ m. is_some (list_at lists m)) (sym same) ∙ sym (ap (λ o. is_some o) e))
    (cases_Bool (has (take i ps) p))

pub all_joined : (graph : List (List ℕ)) (own : List Bool) (lists : List (Option (List ℕ))) (n i : ℕ) (joined : List ℕ) → AreKept graph own lists → is_some (list_at lists n) ≡ false → n < length graph
    → length (parents_in graph n) ≤ i → joined ≡ once (flat_map (sources_in graph own) (take i (parents_in graph n)))
    → ((p : ℕ) → has (take i (parents_in graph n)) p ≡ true → is_some (list_at lists p) ≡ true)
    → sources_in graph own n ≡ once (joined ++ filter (is_own own) (n ∷ []))
all_joined graph own lists n i joined are off lt past e named =
    let ps : List ℕ = parents_in graph n in
    let all : take i ps ≡ ps = take_all i ps past in
    let each : ℕ → List ℕ = sources_in graph own in
    sources_joined graph own lists n are off lt (λ p h. named p (ap (λ l. has l p) all ∙ h))
    ∙ sym (ap (λ l. once (l ++ filter (is_own own) (n ∷ []))) (e ∙ ap (λ l. once (flat_map each l)) all) ∙ once_absorbs [] (flat_map each ps) (filter (is_own own) (n ∷ [])))

pub without_own : (own : List Bool) (n : ℕ) (joined result : List ℕ) → is_own own n ≡ false → once joined ≡ joined → result ≡ once (joined ++ filter (is_own own) (n ∷ [])) → joined ≡ result
without_own own n joined result h distinct e =
    sym (e ∙ ap (λ l. once (joined ++ l)) (dropped_if (is_own own) n [] h) ∙ ap (λ l. once l) (append-nil joined) ∙ distinct)

pub with_own : (own : List Bool) (n : ℕ) (joined result joined' : List ℕ) → is_own own n ≡ true → result ≡ once (joined ++ filter (is_own own) (n ∷ [])) → joined' ≡ once (joined ++ n ∷ []) → joined' ≡ result
with_own own n joined result joined' h e e' = e' ∙ sym (e ∙ ap (λ l. once (joined ++ l)) (kept_if (is_own own) n [] h))

-- ---- one more is kept

pub none_kept : (graph : List (List ℕ)) (own : List Bool) (lists : List (Option (List ℕ))) → length lists ≡ length graph → ((n : ℕ) → list_at lists n ≡ None) → AreKept graph own lists
none_kept graph own lists sized none =
    let off : (n : ℕ) → is_some (list_at lists n) ≡ false = λ n. ap (λ o. is_some o) (none n) in
    record {
      rank = λ n. 0;
      sized = sized;
      list = λ n xs h. absurd (cc (none n, h));
      low = λ n p h named. absurd (cc (off n, h));
      below = λ n h. absurd (cc (off n, h));
    }

list_here : (lists : List (Option (List ℕ))) (n : ℕ) (o : Option (List ℕ)) → n < length lists → list_at (set lists n o) n ≡ o
list_here lists n o lt = get_or-set_same lists n o None lt

list_other : (lists : List (Option (List ℕ))) (n m : ℕ) (o : Option (List ℕ)) → (m == n) ≡ false → list_at (set lists n o) m ≡ list_at lists m
list_other lists n m o h = get_or-set_other lists n m o None (λ e. cc (eq-eqb m n e, h))

-- another that is kept now was kept before
was_kept : (lists : List (Option (List ℕ))) (n m : ℕ) (o : Option (List ℕ)) → (m == n) ≡ false → is_some (list_at (set lists n o) m) ≡ true → is_some (list_at lists m) ≡ true
was_kept lists n m o h on = ap (λ x. is_some x) (sym (list_other lists n m o h)) ∙ on

stays : (lists : List (Option (List ℕ))) (n m : ℕ) (o : Option (List ℕ)) → is_some (list_at lists n) ≡ false → is_some (list_at lists m) ≡ true → is_some (list_at (set lists n o) m) ≡ true
stays lists n m o off on = ap (λ x. is_some x) (list_other lists n m o (another lists n m off on)) ∙ on

pub kept_more : (graph : List (List ℕ)) (own : List Bool) (lists : List (Option (List ℕ))) (n : ℕ) (list : List ℕ) → (are : AreKept graph own lists) → is_some (list_at lists n) ≡ false → n < length graph
    → list ≡ sources_in graph own n → NamesKept graph lists n → AreKept graph own (set lists n (Some list))
kept_more graph own lists n list are off lt e named =
    let all : List (Option (List ℕ)) = set lists n (Some list) in
    let inside : n < length lists = omega (arith, lt, are.sized) in
    let rank : ℕ → ℕ = with_rank are.rank n (counted lists) in
    let here : rank n ≡ counted lists = rank_here are.rank n (counted lists) in
    let other : (m : ℕ) → (m == n) ≡ false → rank m ≡ are.rank m = λ m h. rank_other are.rank n (counted lists) m h in
    let more : counted all ≡ counted lists + 1 = counted_set lists n list inside off in
    record {
      rank = rank;
      sized = length-set lists n (Some list) ∙ are.sized;
      list = λ m xs h.
          ⊎_elim
          (λ t.
          let same : m ≡ n = eqb-true m n t in
          let some : Some list ≡ Some xs = sym (ap (λ k. list_at all k) same ∙ list_here lists n (Some list) inside) ∙ h in
          let equal : xs ≡ list = cc in
          equal ∙ e ∙ ap (λ k. sources_in graph own k) (sym same))
          (λ f. are.list m xs (sym (list_other lists n m (Some list) f) ∙ h))
          (cases_Bool (m == n));
      low = λ m p on there.
          ⊎_elim
          (λ t.
          let same : m ≡ n = eqb-true m n t in
          let of_n : is_some (list_at lists p) ≡ true = named p (ap (λ k. has (parents_in graph k) p) (sym same) ∙ there) in
          let equal : rank m ≡ rank n = ap rank same in
          (omega (arith, equal, here, other p (another lists n p off of_n), are.below p of_n), stays lists n p (Some list) off of_n))
          (λ f.
          let both = are.low m p (was_kept lists n m (Some list) f on) there in
          (omega (arith, both.0, other m f, other p (another lists n p off both.1)), stays lists n p (Some list) off both.1))
          (cases_Bool (m == n));
      below = λ m on.
          ⊎_elim (λ t. let equal : rank m ≡ rank n = ap rank (eqb-true m n t) in omega (arith, equal, here, more))
          (λ f. omega (arith, are.below m (was_kept lists n m (Some list) f on), other m f, more))
          (cases_Bool (m == n));
    }

-- what is kept of the next, where all that it names is kept
pub one_more : {Z : Type 0} (graph : List (List ℕ)) (own : List Bool) (lists : List (Option (List ℕ))) (n : ℕ) (found : Option (Vec ℕ Z)) (kept : Vec ℕ Z) → AreKept graph own lists → is_some (list_at lists n) ≡ false → n < length graph
    → IfSome found (λ v. v.items ≡ sources_in graph own n) → OnSome found (NamesKept graph lists n) → found ≡ Some kept → AreKept graph own (set lists n (Some kept.items))
one_more graph own lists n None kept are off lt list named same = absurd (cc (same))
one_more {Z} graph own lists n (Some w) kept are off lt list named same =
    let equal : w ≡ kept = cc in
    kept_more graph own lists n kept.items are off lt (ap (λ (x : Vec ℕ Z). x.items) (sym equal) ∙ list) named

pub short_is : {Z : Type 0} (found short : Option (Vec ℕ Z)) (kept : Vec ℕ Z) → Some kept ≡ short → IfSome short (λ k. found ≡ Some k) → found ≡ Some kept
short_is found None kept e h = absurd (cc (e))
short_is {Z} found (Some k) kept e h =
    let same : kept ≡ k = cc in
    h ∙ ap (λ (v : Vec ℕ Z). Some v) (sym same)

-- ---- none is kept yet

none_too : (lists : List (Option (List ℕ))) → ((n : ℕ) → list_at lists n ≡ None) → (n : ℕ) → list_at (lists ++ None ∷ []) n ≡ None
none_too [] h zero = refl
none_too [] h (suc n) = refl
none_too (o ∷ lists) h zero = h 0
none_too (o ∷ lists) h (suc n) = none_too lists (λ k. h (suc k)) n

lists_more : {A : Type 0} (kept : List (Option (Vec ℕ A))) → lists_of (kept ++ None ∷ []) ≡ lists_of kept ++ None ∷ []
lists_more {A} kept = map-append (λ (o : Option (Vec ℕ A)). option_map (λ v. v.items) o) kept (None ∷ [])

pub one_none_more : {A : Type 0} (kept more : List (Option (Vec ℕ A))) → more ≡ kept ++ None ∷ [] → ((n : ℕ) → list_at (lists_of kept) n ≡ None) → (n : ℕ) → list_at (lists_of more) n ≡ None
one_none_more {A} kept more e h n = ap (λ (l : List (Option (Vec ℕ A))). list_at (lists_of l) n) e ∙ ap (λ l. list_at l n) (lists_more kept) ∙ none_too (lists_of kept) h n

pub one_none_longer : {A : Type 0} (kept more : List (Option (Vec ℕ A))) → more ≡ kept ++ None ∷ [] → length (lists_of more) ≡ length (lists_of kept) + 1
one_none_longer {A} kept more e =
    ap (λ (l : List (Option (Vec ℕ A))). length (lists_of l)) e ∙ ap (λ l. length l) (lists_more kept) ∙ length-append (lists_of kept) (None ∷ [])

-- ---- a list is kept

pub lists_set : {A : Type 0} (kept : List (Option (Vec ℕ A))) (n : ℕ) (v : Vec ℕ A) → lists_of (set kept n (Some v)) ≡ set (lists_of kept) n (Some v.items)
lists_set {A} kept n v = map-set (λ (o : Option (Vec ℕ A)). option_map (λ w. w.items) o) kept n (Some v)
