-- Numbered nodes, each below one with a lower number and all below 0: the places at which they and what is below them stand together.
use Rattle.std.proofs.Common.{ℕ, zero, suc, ◌≡◌, ◌+◌, ◌-◌, ◌<◌, ◌≤◌, Bool, cond, ◌==◌, ◌⊎◌, inl, inr, refl, sym, ap, subst, ◌∙◌, arith}
use Rattle.std.proofs.lemmas.Bool.{eq-eqb, ne_eqb}
use Rattle.pss_catalog.specs.inner.Table.{IsPlaced, AreLower}
use Rattle.pss_catalog.specs.inner.Sizes.{kids, upto, Counted, Placing}

-- one of three
abbrev pub Compared : ℕ → ℕ → Type 0
Compared a b = (a < b) ⊎ ((a ≡ b) ⊎ (b < a))

pub compared : (a b : ℕ) → Compared a b
compared zero zero = inr (inl refl)
compared zero (suc b) = inl (omega arith)
compared (suc a) zero = inr (inr (omega arith))
compared (suc a) (suc b) = by (compared a b)
  where
    by : Compared a b → Compared (suc a) (suc b)
    by (inl lt) = inl (omega arith)
    by (inr (inl is)) = inr (inl (omega (arith, is)))
    by (inr (inr lt)) = inr (inr (omega arith))

-- what stands at another place after a change at one
pub other_place : {A : Type 0} (i j : ℕ) (x y : A) → (j ≡ i → ⊥) → cond (j == i) x y ≡ y
other_place i j x y never = ap (λ (b : Bool). cond b x y) (ne_eqb j i never)

pub same_place : {A : Type 0} (i j : ℕ) (x y : A) → j ≡ i → cond (j == i) x y ≡ x
same_place i j x y is = ap (λ (b : Bool). cond b x y) (eq-eqb j i is)

-- ---- sizes

kids_same : (p s t : ℕ → ℕ) (b k m : ℕ) → ((j : ℕ) → k ≤ j → s j ≡ t j) → kids p s b k m ≡ kids p t b k m
kids_same p s t b k zero same = refl
kids_same p s t b k (suc m) same =
    λ i. cond (p k == b) (same k (omega arith) i) 0 + kids_same p s t b (k + 1) m (λ j le. same j (omega (arith, le))) i

kids_first : (p s : ℕ → ℕ) (b k n : ℕ) → k ≤ n → kids p s b k (n + 1 - k) ≡ cond (p k == b) (s k) 0 + kids p s b (k + 1) (n + 1 - (k + 1))
kids_first p s b k n le = (let more : n + 1 - k ≡ suc (n + 1 - (k + 1)) = omega arith in ap (kids p s b k) more)

nothing : (x : ℕ) → 0 + x ≡ x
nothing x = omega arith

-- the first c are not directly below b
kids_skip : (p s : ℕ → ℕ) (b k m c : ℕ) → ((j : ℕ) → k ≤ j → j < k + c → p j ≡ b → ⊥) → kids p s b k (c + m) ≡ kids p s b (k + c) m
kids_skip p s b k m zero never = (let k0 : k ≡ k + 0 = omega arith in let m0 : 0 + m ≡ m = omega arith in λ i. kids p s b (k0 i) (m0 i))
kids_skip p s b k m (suc c) never =
    let more : suc c + m ≡ suc (c + m) = omega arith in
    let place : k + 1 + c ≡ k + suc c = omega arith in
    let first : cond (p k == b) (s k) 0 ≡ 0 = other_place b (p k) (s k) 0 (never k (omega arith) (omega arith)) in
    ap (kids p s b k) more
    ∙ ap (λ (x : ℕ). x + kids p s b (k + 1) (c + m)) first
    ∙ nothing (kids p s b (k + 1) (c + m))
    ∙ kids_skip p s b (k + 1) m c (λ j le lt. never j (omega (arith, le)) (omega (arith, lt)))
    ∙ ap (λ (x : ℕ). kids p s b x m) place

upto_same : (s t : ℕ → ℕ) (m : ℕ) → ((j : ℕ) → j ≤ m → s j ≡ t j) → upto s m ≡ upto t m
upto_same s t zero same = same 0 (omega arith)
upto_same s t (suc m) same = λ i. same (suc m) (omega arith) i + upto_same s t m (λ j le. same j (omega (arith, le))) i

upto_ones : (s : ℕ → ℕ) (m : ℕ) → ((j : ℕ) → j ≤ m → s j ≡ 1) → upto s m ≡ m + 1
upto_ones s zero ones = ones 0 (omega arith)
upto_ones s (suc m) ones = omega (arith, ones (suc m) (omega arith), upto_ones s m (λ j le. ones j (omega (arith, le))))

upto_least : (s : ℕ → ℕ) (m j : ℕ) → j ≤ m → s j ≤ upto s m
upto_least s zero j le = (let is : j ≡ 0 = omega arith in let e : s j ≡ s 0 = ap s is in omega (arith, e))
upto_least s (suc m) j le = by (compared j (suc m)) (λ low. upto_least s m j low)
  where
    by : Compared j (suc m) → (j ≤ m → s j ≤ upto s m) → s j ≤ s (suc m) + upto s m
    by (inl lt) before = (let low = before (omega (arith, lt)) in omega (arith, low))
    by (inr (inl is)) before = (let e : s j ≡ s (suc m) = ap s is in omega (arith, e))
    by (inr (inr gt)) before = absurd (omega (arith, gt, le))

upto_more : (s t : ℕ → ℕ) (b x m : ℕ) → b ≤ m → t b ≡ s b + x → ((j : ℕ) → (j ≡ b → ⊥) → t j ≡ s j) → upto t m ≡ upto s m + x
upto_more s t b x zero le it others = (let is : b ≡ 0 = omega arith in let e = subst (λ (k : ℕ). t k ≡ s k + x) is it in e)
upto_more s t b x (suc m) le it others = by (compared b (suc m)) (λ low. upto_more s t b x m low it others)
  where
    by : Compared b (suc m) → (b ≤ m → upto t m ≡ upto s m + x) → t (suc m) + upto t m ≡ s (suc m) + upto s m + x
    by (inl lt) before =
        let new : t (suc m) ≡ s (suc m) = others (suc m) (λ e. omega (arith, e, lt)) in
        let rest = before (omega (arith, lt)) in
        omega (arith, new, rest)
    by (inr (inl is)) before =
        let new = subst (λ (k : ℕ). t k ≡ s k + x) is it in
        let rest : upto t m ≡ upto s m = upto_same t s m (λ j low. others j (λ e. omega (arith, e, low, is))) in
        omega (arith, new, rest)
    by (inr (inr gt)) before = absurd (omega (arith, gt, le))

pub none_counted : (n : ℕ) (p s : ℕ → ℕ) → ((j : ℕ) → j ≤ n → s j ≡ 1) → Counted n p s n
none_counted n p s ones = record {
  total = upto_ones s n ones;
  sizes = λ b le. (let none : n - n ≡ 0 = omega arith in ones b le ∙ sym (ap (λ (m : ℕ). 1 + kids p s b (n + 1) m) none));
}

pub one_counted : (n : ℕ) (p s t : ℕ → ℕ) (m : ℕ) → AreLower n p → suc m ≤ n → Counted n p s (suc m) → ((j : ℕ) → t j ≡ cond (j == p (suc m)) (s j + s (suc m)) (s j)) → Counted n p t m
one_counted n p s t m lower le counted changed = record { total = total; sizes = sizes }
  where
    b : ℕ
    b = p (suc m)

    low : p (suc m) < suc m
    low = lower (suc m) (omega arith) le

    it : t (p (suc m)) ≡ s (p (suc m)) + s (suc m)
    it = changed (p (suc m)) ∙ same_place (p (suc m)) (p (suc m)) _ _ refl

    others : (j : ℕ) → (j ≡ p (suc m) → ⊥) → t j ≡ s j
    others j never = changed j ∙ other_place (p (suc m)) j _ _ never

    total : upto t m ≡ n + 1
    total = (let more = upto_more s t (p (suc m)) (s (suc m)) m (omega (arith, low)) it others in let all = counted.total in omega (arith, more, all))

    -- those below b, one more in front
    behind : (c : ℕ) → kids p t c (m + 1) (n - m) ≡ cond (p (suc m) == c) (s (suc m)) 0 + kids p s c (suc m + 1) (n - suc m)
    behind c =
        let more : n - m ≡ suc (n - suc m) = omega (arith, le) in
        let first : m + 1 ≡ suc m = omega arith in
        (λ i. kids p t c (first i) (more i))
        ∙ (λ i. cond (p (suc m) == c) (others (suc m) (λ e. omega (arith, e, low)) i) 0 + kids_same p t s c (suc m + 1) (n - suc m) (λ j high. others j (λ e. omega (arith, e, low, high))) i)

    sizes : (c : ℕ) → c ≤ n → t c ≡ 1 + kids p t c (m + 1) (n - m)
    sizes c within = by (compared c (p (suc m)))
      where
        before : s c ≡ 1 + kids p s c (suc m + 1) (n - suc m)
        before = counted.sizes c within

        apart : (c ≡ p (suc m) → ⊥) → t c ≡ 1 + kids p t c (m + 1) (n - m)
        apart never =
            let none : cond (p (suc m) == c) (s (suc m)) 0 ≡ 0 = other_place c (p (suc m)) (s (suc m)) 0 (λ e. never (sym e)) in
            let same = others c never in
            let all = behind c in
            let was = before in
            omega (arith, none, same, all, was)

        by : Compared c (p (suc m)) → t c ≡ 1 + kids p t c (m + 1) (n - m)
        by (inl lt) = apart (λ e. omega (arith, e, lt))
        by (inr (inl is)) =
            let one : cond (p (suc m) == c) (s (suc m)) 0 ≡ s (suc m) = same_place c (p (suc m)) (s (suc m)) 0 (sym is) in
            let more : t c ≡ s c + s (suc m) = subst (λ (k : ℕ). t k ≡ s k + s (suc m)) (sym is) it in
            let all = behind c in
            let was = before in
            omega (arith, one, more, all, was)
        by (inr (inr gt)) = apart (λ e. omega (arith, e, gt))

-- so a size never passes the number of all
pub sum_fits : (n : ℕ) (p s : ℕ → ℕ) (m : ℕ) → AreLower n p → suc m ≤ n → Counted n p s (suc m) → s (p (suc m)) + s (suc m) ≤ n + 1
sum_fits n p s m lower le counted =
    let low = lower (suc m) (omega arith) le in
    let least = upto_least s m (p (suc m)) (omega (arith, low)) in
    let all = counted.total in
    omega (arith, least, all)

-- ---- places

pub one_placed : (n : ℕ) (p s pl en ql fn : ℕ → ℕ) (h : ℕ) → AreLower n p → 0 < h → h ≤ n → ((b : ℕ) → b ≤ n → s b ≡ 1 + kids p s b 1 n) → Placing n p s h pl en
    → ((j : ℕ) → ql j ≡ cond (j == h) (en (p h)) (pl j)) → ((j : ℕ) → fn j ≡ cond (j == h) (en (p h) + 1) (cond (j == p h) (en (p h) + s h) (en j))) → Placing n p s (h + 1) ql fn
one_placed n p s pl en ql fn h lower pos le sized placing places stops = record {
  first = other 0 (λ e. omega (arith, e, pos)) ∙ placing.first;
  ends = λ b lt. by_ends b lt (compared b h);
  starts = λ b lt. by_starts b lt (compared b h);
  bound = λ b lt. by_bound b lt (compared b h);
  inside = λ k posk lt. by_inside k posk lt (compared k h);
  apart = λ j k posj less lt same. by_apart j k posj less lt same (compared k h);
  filled = λ b q lt low high. by_filled b q lt low high (compared b h) (compared b (p h));
}
  where
    low : p h < h
    low = lower h pos le

    -- the new one
    it : ql h ≡ en (p h)
    it = places h ∙ same_place h h _ _ refl

    it_stops : fn h ≡ en (p h) + 1
    it_stops = stops h ∙ same_place h h _ _ refl

    other : (j : ℕ) → (j ≡ h → ⊥) → ql j ≡ pl j
    other j never = places j ∙ other_place h j _ _ never

    above_stops : fn (p h) ≡ en (p h) + s h
    above_stops = stops (p h) ∙ other_place h (p h) _ _ (λ e. omega (arith, e, low)) ∙ same_place (p h) (p h) _ _ refl

    other_stops : (j : ℕ) → (j ≡ h → ⊥) → (j ≡ p h → ⊥) → fn j ≡ en j
    other_stops j never not_above = stops j ∙ other_place h j _ _ never ∙ other_place (p h) j _ _ not_above

    front : (b : ℕ) → kids p s b h (n + 1 - h) ≡ cond (p h == b) (s h) 0 + kids p s b (h + 1) (n + 1 - (h + 1))
    front b = kids_first p s b h n le

    -- where the one above it ended so far, there is room for it
    room : en (p h) + s h + kids p s (p h) (h + 1) (n + 1 - (h + 1)) ≡ pl (p h) + s (p h)
    room =
        let one : cond (p h == p h) (s h) 0 ≡ s h = same_place (p h) (p h) (s h) 0 refl in
        let all = front (p h) in
        let end = placing.ends (p h) low in
        omega (arith, one, all, end)

    -- all that are below it come behind it
    later : s h ≡ 1 + kids p s h (h + 1) (n + 1 - (h + 1))
    later =
        let parts : n ≡ h + (n + 1 - (h + 1)) = omega (arith, le) in
        let place : 1 + h ≡ h + 1 = omega arith in
        let skip = kids_skip p s h 1 (n + 1 - (h + 1)) h (λ j from to e. (let l = lower j (omega (arith, from)) (omega (arith, to, le)) in omega (arith, l, e, to))) in
        let same : kids p s h 1 n ≡ kids p s h (h + 1) (n + 1 - (h + 1)) = ap (kids p s h 1) parts ∙ skip ∙ ap (λ (k : ℕ). kids p s h k (n + 1 - (h + 1))) place in
        let size = sized h le in
        omega (arith, same, size)

    by_ends : (b : ℕ) → b < h + 1 → Compared b h → fn b + kids p s b (h + 1) (n + 1 - (h + 1)) ≡ ql b + s b
    by_ends b lt (inl less) = at (compared b (p h))
      where
        place : ql b ≡ pl b
        place = other b (λ e. omega (arith, e, less))

        apart_from : (b ≡ p h → ⊥) → fn b + kids p s b (h + 1) (n + 1 - (h + 1)) ≡ ql b + s b
        apart_from never =
            let none : cond (p h == b) (s h) 0 ≡ 0 = other_place b (p h) (s h) 0 (λ e. never (sym e)) in
            let all = front b in
            let end = placing.ends b less in
            let stop = other_stops b (λ e. omega (arith, e, less)) never in
            let at = place in
            omega (arith, none, all, end, stop, at)

        at : Compared b (p h) → fn b + kids p s b (h + 1) (n + 1 - (h + 1)) ≡ ql b + s b
        at (inl l) = apart_from (λ e. omega (arith, e, l))
        at (inr (inl is)) =
            let e : fn (p h) + kids p s (p h) (h + 1) (n + 1 - (h + 1)) ≡ ql (p h) + s (p h) =
            (let stop = above_stops in let all = room in let at = other (p h) (λ e. omega (arith, e, low)) in omega (arith, stop, all, at)) in
            subst (λ (c : ℕ). fn c + kids p s c (h + 1) (n + 1 - (h + 1)) ≡ ql c + s c) (sym is) e
        at (inr (inr g)) = apart_from (λ e. omega (arith, e, g))
    by_ends b lt (inr (inl is)) =
        let e : fn h + kids p s h (h + 1) (n + 1 - (h + 1)) ≡ ql h + s h = (let size = later in let stop = it_stops in let at = it in omega (arith, size, stop, at)) in
        subst (λ (c : ℕ). fn c + kids p s c (h + 1) (n + 1 - (h + 1)) ≡ ql c + s c) (sym is) e
    by_ends b lt (inr (inr g)) = absurd (omega (arith, lt, g))

    -- ends only move up
    not_less : (b : ℕ) → b < h → en b ≤ fn b
    not_less b less = at (compared b (p h))
      where
        same : (b ≡ p h → ⊥) → en b ≤ fn b
        same never = (let stop = other_stops b (λ e. omega (arith, e, less)) never in omega (arith, stop))

        at : Compared b (p h) → en b ≤ fn b
        at (inl l) = same (λ e. omega (arith, e, l))
        at (inr (inl is)) = subst (λ (c : ℕ). en c ≤ fn c) (sym is) (let stop = above_stops in omega (arith, stop))
        at (inr (inr g)) = same (λ e. omega (arith, e, g))

    by_starts : (b : ℕ) → b < h + 1 → Compared b h → ql b < fn b
    by_starts b lt (inl less) =
        let at = other b (λ e. omega (arith, e, less)) in
        let more = not_less b less in
        let was = placing.starts b less in
        omega (arith, at, more, was)
    by_starts b lt (inr (inl is)) = (let e : ql h < fn h = (let at = it in let stop = it_stops in omega (arith, at, stop)) in subst (λ (c : ℕ). ql c < fn c) (sym is) e)
    by_starts b lt (inr (inr g)) = absurd (omega (arith, lt, g))

    by_bound : (b : ℕ) → b < h + 1 → Compared b h → ql b + s b ≤ n + 1
    by_bound b lt (inl less) = (let at = other b (λ e. omega (arith, e, less)) in let was = placing.bound b less in omega (arith, at, was))
    by_bound b lt (inr (inl is)) =
        let e : ql h + s h ≤ n + 1 = (let at = it in let all = room in let was = placing.bound (p h) low in omega (arith, at, all, was)) in
        subst (λ (c : ℕ). ql c + s c ≤ n + 1) (sym is) e
    by_bound b lt (inr (inr g)) = absurd (omega (arith, lt, g))

    by_inside : (k : ℕ) → 0 < k → k < h + 1 → Compared k h → (ql (p k) < ql k) × (ql k + s k ≤ fn (p k))
    by_inside k posk lt (inl less) =
        let lowk = lower k posk (omega (arith, less, le)) in
        let was = placing.inside k posk less in
        let at = other k (λ e. omega (arith, e, less)) in
        let at_above = other (p k) (λ e. omega (arith, e, lowk, less)) in
        let more = not_less (p k) (omega (arith, lowk, less)) in
        (omega (arith, was.0, at, at_above), omega (arith, was.1, at, more))
    by_inside k posk lt (inr (inl is)) =
        let start = placing.starts (p h) low in
        let at = it in
        let at_above = other (p h) (λ e. omega (arith, e, low)) in
        let stop = above_stops in
        let both : (ql (p h) < ql h) × (ql h + s h ≤ fn (p h)) = (omega (arith, start, at, at_above), omega (arith, at, stop)) in
        subst (λ (c : ℕ). (ql (p c) < ql c) × (ql c + s c ≤ fn (p c))) (sym is) both
    by_inside k posk lt (inr (inr g)) = absurd (omega (arith, lt, g))

    by_apart : (j k : ℕ) → 0 < j → j < k → k < h + 1 → p j ≡ p k → Compared k h → ql j + s j ≤ ql k
    by_apart j k posj less lt same (inl lessk) =
        let was = placing.apart j k posj less lessk same in
        let at = other k (λ e. omega (arith, e, lessk)) in
        let at_j = other j (λ e. omega (arith, e, lessk, less)) in
        omega (arith, was, at, at_j)
    by_apart j k posj less lt same (inr (inl is)) =
        let lessj : j < h = omega (arith, less, is) in
        let was = (placing.inside j posj lessj).1 in
        let above : p j ≡ p h = same ∙ ap p is in
        let there : pl j + s j ≤ en (p h) = subst (λ (c : ℕ). pl j + s j ≤ en c) above was in
        let at_j = other j (λ e. omega (arith, e, lessj)) in
        let at : ql k ≡ en (p h) = ap ql is ∙ it in
        omega (arith, there, at, at_j)
    by_apart j k posj less lt same (inr (inr g)) = absurd (omega (arith, lt, g))

    by_filled : (b q : ℕ) → b < h + 1 → ql b < q → q < fn b → Compared b h → Compared b (p h) → (k : ℕ) × (0 < k) × (k < h + 1) × (p k ≡ b) × (ql k ≤ q) × (q < ql k + s k)
    by_filled b q lt from to (inr (inl is)) c =
        let place : ql b ≡ en (p h) = ap ql is ∙ it in
        let stop : fn b ≡ en (p h) + 1 = ap fn is ∙ it_stops in
        absurd (omega (arith, from, to, place, stop))
    by_filled b q lt from to (inr (inr g)) c = absurd (omega (arith, lt, g))
    by_filled b q lt from to (inl less) c = at c
      where
        place : ql b ≡ pl b
        place = other b (λ e. omega (arith, e, less))

        -- one that was there
        old : q < en b → (k : ℕ) × (0 < k) × (k < h + 1) × (p k ≡ b) × (ql k ≤ q) × (q < ql k + s k)
        old high =
            let at = place in
            let found = placing.filled b q less (omega (arith, from, at)) high in
            let same = other found.0 (λ e. (let l = found.2 in omega (arith, e, l))) in
            let l = found.2 in
            let f = found.4 in
            let t = found.5 in
            (found.0, found.1, omega (arith, l), found.3, omega (arith, f, same), omega (arith, t, same))

        elsewhere : (b ≡ p h → ⊥) → (k : ℕ) × (0 < k) × (k < h + 1) × (p k ≡ b) × (ql k ≤ q) × (q < ql k + s k)
        elsewhere never = (let stop = other_stops b (λ e. omega (arith, e, less)) never in old (omega (arith, to, stop)))

        at : Compared b (p h) → (k : ℕ) × (0 < k) × (k < h + 1) × (p k ≡ b) × (ql k ≤ q) × (q < ql k + s k)
        at (inl l) = elsewhere (λ e. omega (arith, e, l))
        at (inr (inr g)) = elsewhere (λ e. omega (arith, e, g))
        at (inr (inl is)) = in_it (compared q (en b))
          where
            in_it : Compared q (en b) → (k : ℕ) × (0 < k) × (k < h + 1) × (p k ≡ b) × (ql k ≤ q) × (q < ql k + s k)
            in_it (inl high) = old high
            in_it (inr rest) =
                let above : en b ≡ en (p h) = ap en is in
                let stop : fn b ≡ en (p h) + s h = ap fn is ∙ above_stops in
                let new = it in
                let from_here : en b ≤ q = not_before rest in
                (h, pos, omega arith, sym is, omega (arith, new, above, from_here), omega (arith, to, stop, new))
              where
                not_before : ((q ≡ en b) ⊎ (en b < q)) → en b ≤ q
                not_before (inl e) = omega (arith, e)
                not_before (inr e) = omega (arith, e)

-- the size of a node fits behind what its base had
pub has_room : (n : ℕ) (p s : ℕ → ℕ) (h : ℕ) → h ≤ n → s h ≤ kids p s (p h) h (n + 1 - h)
has_room n p s h le =
    let one : cond (p h == p h) (s h) 0 ≡ s h = same_place (p h) (p h) (s h) 0 refl in
    let all = kids_first p s (p h) h n le in
    omega (arith, one, all)

-- with all placed, each has its end
pub all_placed : (n : ℕ) (p s pl en : ℕ → ℕ) → Counted n p s 0 → Placing n p s (n + 1) pl en → IsPlaced n p pl en
all_placed n p s pl en counted placing = record {
  first = placing.first;
  whole = (let all = counted.total in let end = ends 0 (omega arith) in let zero_place = placing.first in omega (arith, all, end, zero_place));
  proper = λ k le. placing.starts k (omega (arith, le));
  inside = λ k pos le.
      (let was = placing.inside k pos (omega (arith, le)) in let end = ends k le in (was.0, omega (arith, was.1, end)));
  apart = λ j k pos less le same.
      (let was = placing.apart j k pos less (omega (arith, le)) same in let end = ends j (omega (arith, less, le)) in omega (arith, was, end));
  filled = λ b q le from to.
      (let found = placing.filled b q (omega (arith, le)) from to in
      let low = found.2 in
      let within : found.0 ≤ n = omega (arith, low) in
      let end = ends found.0 within in
      let t = found.5 in
      record { number = found.0; positive = found.1; within = within; below = found.3; begins = found.4; stops = omega (arith, t, end) });
}
  where
    ends : (b : ℕ) → b ≤ n → en b ≡ pl b + s b
    ends b le =
        let none : n + 1 - (n + 1) ≡ 0 = omega arith in
        let end : en b + kids p s b (n + 1) 0 ≡ pl b + s b = ap (λ (m : ℕ). en b + kids p s b (n + 1) m) (sym none) ∙ placing.ends b (omega (arith, le)) in
        omega (arith, end)
