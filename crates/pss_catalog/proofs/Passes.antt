-- What the passes over the rows of homes do.
use Rattle.std.proofs.Common.{ℕ, zero, suc, ◌≡◌, ◌+◌, ◌-◌, ◌<◌, ◌≤◌, Bool, true, false, inl, inr, cond, ◌==◌, List, length, get_or, set, refl, sym, ap, subst, ◌∙◌, arith}
use Rattle.std.proofs.lemmas.List.{length-set, get_or-set_same, get_or-set_other}
use Rattle.std.proofs.Math.ListN.{get_or-map}
use Rattle.std.proofs.Math.Seq.{map-set_same}
use Rattle.type_layout.specs.declared.home.HomeNo.{HomeNo}
use Rattle.pss_catalog.specs.declared.row.Row.{Row}
use Rattle.pss_catalog.specs.inner.Table.{AreLower, IsPlaced, IsOrdered, IsTop}
use Rattle.pss_catalog.specs.inner.Sizes.{kids, Counted, Placing}
use Rattle.pss_catalog.specs.inner.Rows.{no_row, row_at, size_of, place_of, end_of, root_of, bases_in, above, counted, placed, IsFresh, AreCounted, ArePlaced, home_at_place, HaveOrder}
use Rattle.pss_catalog.proofs.Forest.{has_room, Compared, compared, same_place, other_place, none_counted, one_counted, sum_fits, one_placed, all_placed}
use Rattle.pss_catalog.proofs.Descent.{one_ordered, one_topped, positive_place, place_within}

-- ---- one place of a list

set_at : {A : Type 0} (xs : List A) (i j : ℕ) (x d : A) → i < length xs → get_or (set xs i x) j d ≡ cond (j == i) x (get_or xs j d)
set_at xs i j x d within = by (compared j i)
  where
    other : (j ≡ i → ⊥) → get_or (set xs i x) j d ≡ cond (j == i) x (get_or xs j d)
    other never = get_or-set_other xs i j x d never ∙ sym (other_place i j x (get_or xs j d) never)

    by : Compared j i → get_or (set xs i x) j d ≡ cond (j == i) x (get_or xs j d)
    by (inl less) = other (λ e. omega (arith, e, less))
    by (inr (inl is)) = subst (λ (k : ℕ). get_or (set xs i x) k d ≡ cond (k == i) x (get_or xs k d)) (sym is) (get_or-set_same xs i x d within ∙ sym (same_place i i x (get_or xs i d) refl))
    by (inr (inr more)) = other (λ e. omega (arith, e, more))

-- what is not changed at a place is changed nowhere
kept_field : {A : Type 0} (f : Row → A) (rows : List Row) (i j : ℕ) (row : Row) → i < length rows → f row ≡ f (row_at rows i) → f (row_at (set rows i row) j) ≡ f (row_at rows j)
kept_field f rows i j row within same = ap f (set_at rows i j row no_row within) ∙ by (compared j i)
  where
    other : (j ≡ i → ⊥) → f (cond (j == i) row (row_at rows j)) ≡ f (row_at rows j)
    other never = ap f (other_place i j row (row_at rows j) never)

    by : Compared j i → f (cond (j == i) row (row_at rows j)) ≡ f (row_at rows j)
    by (inl less) = other (λ e. omega (arith, e, less))
    by (inr (inl is)) = ap f (same_place i j row (row_at rows j) is) ∙ same ∙ ap (λ (k : ℕ). f (row_at rows k)) (sym is)
    by (inr (inr more)) = other (λ e. omega (arith, e, more))

base_is : (rows : List Row) (bases : List ℕ) (k : ℕ) → bases_in rows ≡ bases → (row_at rows k).base ≡ above bases k
base_is rows bases k are = sym (get_or-map (λ (r : Row). r.base) rows k no_row) ∙ ap (λ (l : List ℕ). above l k) are

field_of : {A : Type 0} (f : Row → A) (b : Bool) (x y : Row) → f (cond b x y) ≡ cond b (f x) (f y)
field_of f true x y = refl
field_of f false x y = refl

-- ---- counting

pub fresh_counted : (n : ℕ) (rows : List Row) → IsFresh n rows → AreCounted n (bases_in rows) n rows
fresh_counted n rows fresh = record {
  bases_are = refl;
  size = fresh.size;
  few = fresh.few;
  lower = fresh.lower;
  sizes = none_counted n (above (bases_in rows)) (size_of rows) fresh.ones;
  place = fresh.place;
  end = fresh.end;
}

-- the base of a home is there, and may take its size
pub record MayCount (rows : List Row) (h : ℕ) : Type 0 where
  pub there : (row_at rows h).base < length rows
  pub fits : size_of rows (row_at rows h).base + size_of rows h ≤ 4294967295

pub may_count : (n : ℕ) (bases : List ℕ) (h : ℕ) (rows : List Row) → AreCounted n bases h rows → 0 < h → h ≤ n → MayCount rows h
may_count n bases zero rows are pos within = absurd (omega (arith, pos))
may_count n bases (suc m) rows are pos within =
    let base = base_is rows bases (suc m) are.bases_are in
    let low = are.lower (suc m) pos within in
    let size = are.size in
    let few = are.few in
    let sum = sum_fits n (above bases) (size_of rows) m are.lower within are.sizes in
    let moved : size_of rows (row_at rows (suc m)).base ≡ size_of rows (above bases (suc m)) = ap (size_of rows) base in
    record { there = omega (arith, base, low, size, within); fits = omega (arith, sum, moved, few) }

pub count_one : (n : ℕ) (bases : List ℕ) (h : ℕ) (rows : List Row) → AreCounted n bases h rows → 0 < h → h ≤ n → AreCounted n bases (h - 1) (counted rows h)
count_one n bases zero rows are pos within = absurd (omega (arith, pos))
count_one n bases (suc m) rows are pos within =
    let less : m ≡ suc m - 1 = omega arith in
    subst (λ (k : ℕ). AreCounted n bases k (counted rows (suc m))) less (record {
      bases_are = map-set_same (λ (r : Row). r.base) rows b _ no_row refl ∙ are.bases_are;
      size = length-set rows b _ ∙ are.size;
      few = are.few;
      lower = are.lower;
      sizes = one_counted n (above bases) (size_of rows) (size_of (counted rows (suc m))) m are.lower within are.sizes changed;
      place = kept_field (λ (r : Row). r.place) rows b 0 _ there refl ∙ are.place;
      end = kept_field (λ (r : Row). r.end) rows b 0 _ there refl ∙ are.end;
    })
  where
    b : ℕ
    b = (row_at rows (suc m)).base

    there : (row_at rows (suc m)).base < length rows
    there = (may_count n bases (suc m) rows are pos within).there

    changed : (j : ℕ) → size_of (counted rows (suc m)) j ≡ cond (j == above bases (suc m)) (size_of rows j + size_of rows (suc m)) (size_of rows j)
    changed j =
        let base : (row_at rows (suc m)).base ≡ above bases (suc m) = base_is rows bases (suc m) are.bases_are in
        ap (λ (r : Row). r.size) (set_at rows (row_at rows (suc m)).base j _ no_row there)
        ∙ field_of (λ (r : Row). r.size) (j == (row_at rows (suc m)).base) _ (row_at rows j)
        ∙ by (compared j (row_at rows (suc m)).base)
        ∙ ap (λ (k : ℕ). cond (j == k) (size_of rows j + size_of rows (suc m)) (size_of rows j)) base
      where
        other : (j ≡ (row_at rows (suc m)).base → ⊥) → (x y : ℕ) → cond (j == (row_at rows (suc m)).base) x (size_of rows j) ≡ cond (j == (row_at rows (suc m)).base) y (size_of rows j)
        other never x y = other_place (row_at rows (suc m)).base j x (size_of rows j) never ∙ sym (other_place (row_at rows (suc m)).base j y (size_of rows j) never)

        by : Compared j (row_at rows (suc m)).base → cond (j == (row_at rows (suc m)).base) (size_of rows (row_at rows (suc m)).base + size_of rows (suc m)) (size_of rows j) ≡ cond (j == (row_at rows (suc m)).base) (size_of rows j + size_of rows (suc m)) (size_of rows j)
        by (inl less) = other (λ e. omega (arith, e, less)) _ _
        by (inr (inl is)) = ap (λ (k : ℕ). cond (j == (row_at rows (suc m)).base) (size_of rows k + size_of rows (suc m)) (size_of rows j)) (sym is)
        by (inr (inr more)) = other (λ e. omega (arith, e, more)) _ _

-- ---- placing

whole : (n : ℕ) → n - 0 ≡ n
whole n = omega arith

pub record MayPlace (rows : List Row) (h : ℕ) : Type 0 where
  pub there : (row_at rows h).base < length rows
  pub fits : end_of rows (row_at rows h).base + size_of rows h ≤ 4294967295
  pub more : end_of rows (row_at rows h).base < 4294967295

pub may_place : (n : ℕ) (bases : List ℕ) (h : ℕ) (rows : List Row) → ArePlaced n bases h rows → 0 < h → h ≤ n → MayPlace rows h
may_place n bases h rows are pos within =
    let base = base_is rows bases h are.bases_are in
    let low = are.lower h pos within in
    let size = are.size in
    let few = are.few in
    let b = above bases h in
    let bound = are.places.bound b low in
    let end = are.places.ends b low in
    let room = has_room n (above bases) (size_of rows) h within in
    let moved : end_of rows (row_at rows h).base ≡ end_of rows b = ap (end_of rows) base in
    record {
      there = omega (arith, base, low, size, within);
      fits = omega (arith, bound, end, room, moved, few);
      more = omega (arith, bound, end, moved, few);
    }

pub place_one : (n : ℕ) (bases : List ℕ) (h : ℕ) (rows : List Row) → ArePlaced n bases h rows → 0 < h → h ≤ n → ArePlaced n bases (h + 1) (placed rows h)
place_one n bases h rows are pos within = record {
  bases_are = map-set_same (λ (r : Row). r.base) first h _ no_row (sym (kept_field (λ (r : Row). r.base) rows b h raised there refl)) ∙ map-set_same (λ (r : Row). r.base) rows b raised no_row refl ∙ are.bases_are;
  size = length-set first h _ ∙ length-set rows b raised ∙ are.size;
  few = are.few;
  lower = are.lower;
  sizes = subst (λ (f : ℕ → ℕ). Counted n (above bases) f 0) (sym same_sizes) are.sizes;
  places = subst (λ (f : ℕ → ℕ). Placing n (above bases) f (h + 1) (place_of (placed rows h)) (end_of (placed rows h))) (sym same_sizes)
      (one_placed n (above bases) (size_of rows) (place_of rows) (end_of rows) (place_of (placed rows h)) (end_of (placed rows h)) h are.lower pos within
      (λ c le. are.sizes.sizes c le ∙ ap (λ (m : ℕ). 1 + kids (above bases) (size_of rows) c 1 m) (whole n)) are.places places stops);
  tops = one_topped n (above bases) are.lower (root_of rows) (root_of (placed rows h)) h pos within are.tops roots;
}
  where
    b : ℕ
    b = (row_at rows h).base

    raised : Row
    raised = record { base = (row_at rows (row_at rows h).base).base; root = (row_at rows (row_at rows h).base).root; size = (row_at rows (row_at rows h).base).size; place = (row_at rows (row_at rows h).base).place; end = end_of rows (row_at rows h).base + size_of rows h }

    first : List Row
    first = set rows (row_at rows h).base raised

    there : (row_at rows h).base < length rows
    there = (may_place n bases h rows are pos within).there

    here_there : h < length (set rows (row_at rows h).base raised)
    here_there = (let size = are.size in let same = length-set rows (row_at rows h).base raised in omega (arith, size, same, within))

    base : (row_at rows h).base ≡ above bases h
    base = base_is rows bases h are.bases_are

    last : Row
    last = record {
      base = (row_at rows h).base;
      root = cond ((row_at rows h).base == 0) h (root_of rows (row_at rows h).base);
      size = size_of rows h;
      place = end_of rows (row_at rows h).base;
      end = end_of rows (row_at rows h).base + 1;
    }

    is_set : (j : ℕ) → row_at (placed rows h) j ≡ cond (j == h) last (row_at first j)
    is_set j = set_at first h j last no_row here_there

    same_size : (j : ℕ) → size_of (placed rows h) j ≡ size_of rows j
    same_size j = kept_field (λ (r : Row). r.size) first h j last here_there (sym (kept_field (λ (r : Row). r.size) rows b h raised there refl)) ∙ kept_field (λ (r : Row). r.size) rows b j raised there refl

    same_sizes : size_of (placed rows h) ≡ size_of rows
    same_sizes = λ i j. same_size j i

    places : (j : ℕ) → place_of (placed rows h) j ≡ cond (j == h) (end_of rows (above bases h)) (place_of rows j)
    places j =
        let below = kept_field (λ (r : Row). r.place) rows b j raised there refl in
        ap (λ (r : Row). r.place) (is_set j) ∙ field_of (λ (r : Row). r.place) (j == h) last (row_at first j) ∙ (λ i. cond (j == h) (end_of rows (base i)) (below i))

    stops : (j : ℕ) → end_of (placed rows h) j ≡ cond (j == h) (end_of rows (above bases h) + 1) (cond (j == above bases h) (end_of rows (above bases h) + size_of rows h) (end_of rows j))
    stops j =
        let below : end_of first j ≡ cond (j == above bases h) (end_of rows (above bases h) + size_of rows h) (end_of rows j)
        = ap (λ (r : Row). r.end) (set_at rows b j raised no_row there) ∙ field_of (λ (r : Row). r.end) (j == b) raised (row_at rows j) ∙ (λ i. cond (j == base i) (end_of rows (base i) + size_of rows h) (end_of rows j)) in
        ap (λ (r : Row). r.end) (is_set j) ∙ field_of (λ (r : Row). r.end) (j == h) last (row_at first j) ∙ (λ i. cond (j == h) (end_of rows (base i) + 1) (below i))

    roots : (j : ℕ) → root_of (placed rows h) j ≡ cond (j == h) (cond (above bases h == 0) h (root_of rows (above bases h))) (root_of rows j)
    roots j =
        let below = kept_field (λ (r : Row). r.root) rows b j raised there refl in
        ap (λ (r : Row). r.root) (is_set j) ∙ field_of (λ (r : Row). r.root) (j == h) last (row_at first j) ∙ (λ i. cond (j == h) (cond (base i == 0) h (root_of rows (base i))) (below i))

-- ---- the order

-- what is known once all are placed
pub record AllPlaced (n : ℕ) (rows : List Row) : Type 0 where
  pub size : length rows ≡ n + 1
  pub few : n ≤ 4096
  pub lower : AreLower n (above (bases_in rows))
  pub placed : IsPlaced n (above (bases_in rows)) (place_of rows) (end_of rows)
  pub tops : (k : ℕ) → 0 < k → k ≤ n → IsTop (above (bases_in rows)) k (root_of rows k)

pub all_in_place : (rows : List Row) → ArePlaced (length rows - 1) (bases_in rows) (length rows) rows → AllPlaced (length rows - 1) rows
all_in_place rows are =
    let size = are.size in
    let places = subst (λ (h : ℕ). Placing (length rows - 1) (above (bases_in rows)) (size_of rows) h (place_of rows) (end_of rows)) size are.places in
    record {
      size = size;
      few = are.few;
      lower = are.lower;
      placed = all_placed (length rows - 1) (above (bases_in rows)) (size_of rows) (place_of rows) (end_of rows) are.sizes places;
      tops = λ k pos le. are.tops k pos (omega (arith, le, size));
    }

-- the place of a home is one of the order
pub record MayPut (n : ℕ) (rows : List Row) (h : ℕ) : Type 0 where
  pub positive : 0 < place_of rows h
  pub within : place_of rows h ≤ n

pub may_put : (n : ℕ) (rows : List Row) (h : ℕ) → AllPlaced n rows → 0 < h → h ≤ n → MayPut n rows h
may_put n rows h all pos le = record {
  positive = positive_place n (above (bases_in rows)) (place_of rows) (end_of rows) all.lower all.placed h pos le;
  within = place_within n (above (bases_in rows)) (place_of rows) (end_of rows) all.lower all.placed h le;
}

pub put_one : (n : ℕ) (rows : List Row) (order : List HomeNo) (h : ℕ) → AllPlaced n rows → length order ≡ n → 0 < h → h ≤ n → IsOrdered h (place_of rows) (home_at_place order)
    → IsOrdered (h + 1) (place_of rows) (home_at_place (set order (place_of rows h - 1) (record { 0 = h })))
put_one n rows order h all size pos le ordered =
    one_ordered n (above (bases_in rows)) (place_of rows) (end_of rows) all.lower all.placed (home_at_place order) (home_at_place (set order (place_of rows h - 1) (record { 0 = h }))) h pos le ordered changed
  where
    number_of : (b : Bool) (x y : HomeNo) → (cond b x y).0 ≡ cond b x.0 y.0
    number_of true x y = refl
    number_of false x y = refl

    changed : (j : ℕ) → home_at_place (set order (place_of rows h - 1) (record { 0 = h })) j ≡ cond (j == place_of rows h - 1) h (home_at_place order j)
    changed j =
        let may = may_put n rows h all pos le in
        let low = may.positive in
        let high = may.within in
        let none : HomeNo = record { 0 = 0 } in
        ap (λ (x : HomeNo). x.0) (set_at order (place_of rows h - 1) j (record { 0 = h }) none (omega (arith, low, high, size))) ∙ number_of (j == place_of rows h - 1) (record { 0 = h }) (get_or order j none)

pub in_order : (n : ℕ) (rows : List Row) (order : List HomeNo) → AllPlaced n rows → length order ≡ n → IsOrdered (n + 1) (place_of rows) (home_at_place order) → HaveOrder rows order
in_order n rows order all size ordered = subst (λ (m : ℕ). AllPlaced m rows → IsOrdered (m + 1) (place_of rows) (home_at_place order) → HaveOrder rows order) size by all ordered
  where
    by : AllPlaced (length order) rows → IsOrdered (length order + 1) (place_of rows) (home_at_place order) → HaveOrder rows order
    by all ordered = record { size = all.size; few = all.few; lower = all.lower; placed = all.placed; ordered = ordered; tops = all.tops }

-- ---- one pass behind the other

-- what is counted, by its own bases
pub own_counts : (n : ℕ) (bases : List ℕ) (rows : List Row) → AreCounted n bases 0 rows → AreCounted (length rows - 1) (bases_in rows) 0 rows
own_counts n bases rows are =
    let size = are.size in
    let number : n ≡ length rows - 1 = omega (arith, size) in
    subst (λ (m : ℕ). AreCounted m (bases_in rows) 0 rows) number (subst (λ (l : List ℕ). AreCounted n l 0 rows) (sym are.bases_are) are)

pub both_passes : (old mid new : List Row) → AreCounted (length old - 1) (bases_in old) 0 mid → length mid ≡ length old → ArePlaced (length mid - 1) (bases_in mid) (length mid) new → ArePlaced (length old - 1) (bases_in old) (length old) new
both_passes old mid new counts same places =
    subst (λ (k : ℕ). ArePlaced (k - 1) (bases_in old) k new) same (subst (λ (l : List ℕ). ArePlaced (length mid - 1) l (length mid) new) counts.bases_are places)
