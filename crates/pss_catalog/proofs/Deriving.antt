-- What the table of families says of the homes of a schema.
use Rattle.std.proofs.Common.{ℕ, zero, suc, ◌≡◌, ◌+◌, ◌-◌, ◌<◌, ◌≤◌, Bool, true, false, ◌⊎◌, inl, inr, cond, ◌==◌, List, [], ◌∷◌, length, map, take, drop, get_or, Option, Some, None, refl, sym, ap, subst, ◌∙◌, arith}
use Rattle.std.specs.Prelude.{◌↔◌, ◌&&◌, nat_le, nat_lt, IsSome}
use Rattle.std.specs.List.{slice_get}
use Rattle.std.specs.Option.{is_some}
use Rattle.std.proofs.lemmas.List.{length-map, length-drop, length-take, get_or-drop, get_or-take}
use Rattle.std.proofs.lemmas.Bool.{eqb-true, eq-eqb, ne_eqb}
use Rattle.std.proofs.lemmas.Bool.Decides.{nat_tests}
use Rattle.std.proofs.lemmas.Option.{slice_get-get_or, slice_get_within}
use Rattle.type_layout.specs.declared.home.HomeNo.{HomeNo}
use Rattle.type_layout.specs.declared.schema.Home.{Home}
use Rattle.type_layout.specs.declared.schema.Schema.{Schema}
use Rattle.type_layout.specs.Schemas.{nth, given, home_at, base_of, DescendsFrom, itself, by_base, descends}
use Rattle.type_layout.specs.ShapeText.{base_number}
use Rattle.type_layout.specs.Sound.{IsSoundSchema, IsLower}
use Rattle.type_layout.proofs.Bases.{reached, found}
use Rattle.pss_catalog.specs.declared.row.Row.{Row}
use Rattle.pss_catalog.specs.Families.{bases_of, IsRootOf, AreHeirs}
use Rattle.pss_catalog.specs.inner.Table.{Up, here, up}
use Rattle.pss_catalog.specs.inner.Rows.{no_row, row_at, size_of, place_of, end_of, root_of, bases_in, above, home_row, rows_for, IsFresh, home_at_place, HaveOrder, row_in, tells}
use Rattle.pss_catalog.proofs.Forest.{Compared, compared}
use Rattle.pss_catalog.proofs.Descent.{falls, below_is, someone, positive_place, end_within}

-- ---- the rows that are made of a sound schema

-- the number of a home's base, found in the list of these
base_found : (homes : List Home) (k : ℕ) → get_or (map (λ home. base_number home.base) homes) k 0 ≡ given (slice_get homes k) 0 (λ home. base_number home.base)
base_found [] zero = refl
base_found [] (suc k) = refl
base_found (x ∷ homes) zero = refl
base_found (x ∷ homes) (suc k) = base_found homes k

bases_made : (homes : List Home) → bases_in (map home_row homes) ≡ map (λ home. base_number home.base) homes
bases_made [] = refl
bases_made (x ∷ homes) = ap (λ (l : List ℕ). base_number x.base ∷ l) (bases_made homes)

pub view_made : (homes : List Home) → drop 1 (bases_in (rows_for homes)) ≡ map (λ home. base_number home.base) homes
view_made homes = bases_made homes

-- the base of a home that is there is lower, or none
low_base : (S : Schema) → IsSoundSchema S → (k : ℕ) (home : Home) → slice_get S.homes k ≡ Some home → base_number home.base < suc k
low_base S sound k home at = by home.base (sound.bases (record { 0 = suc k }) home at)
  where
    by : (o : Option HomeNo) → IsLower o (record { 0 = suc k }) → base_number o < suc k
    by None l = omega arith
    by (Some b) l = l.1

lower_bases : (S : Schema) → IsSoundSchema S → (k : ℕ) → 0 < k → k ≤ length S.homes → above (0 ∷ bases_of S) k < k
lower_bases S sound zero pos le = absurd (omega (arith, pos))
lower_bases S sound (suc k) pos le = by (slice_get S.homes k) refl
  where
    by : (o : Option Home) → slice_get S.homes k ≡ o → get_or (bases_of S) k 0 < suc k
    by None at = (let e = base_found S.homes k ∙ ap (λ (o : Option Home). given o 0 (λ home. base_number home.base)) at in omega (arith, e))
    by (Some home) at = (let e = base_found S.homes k ∙ ap (λ (o : Option Home). given o 0 (λ home. base_number home.base)) at in let low = low_base S sound k home at in omega (arith, e, low))

ones : (homes : List Home) (k : ℕ) → k < length homes → (get_or (map home_row homes) k no_row).size ≡ 1
ones [] k less = absurd (omega (arith, less))
ones (x ∷ homes) zero less = refl
ones (x ∷ homes) (suc k) less = ones homes k (omega (arith, less))

pub made_fresh : (S : Schema) → IsSoundSchema S → IsFresh (length (rows_for S.homes) - 1) (rows_for S.homes)
made_fresh S sound =
    let count : length (map home_row S.homes) ≡ length S.homes = length-map S.homes home_row in
    let size : length (rows_for S.homes) - 1 ≡ length S.homes = omega (arith, count) in
    let few = sound.few_homes in
    record {
      size = omega arith;
      few = omega (arith, size, few);
      lower = λ k pos le. subst (λ (l : List ℕ). above (0 ∷ l) k < k) (sym (bases_made S.homes)) (lower_bases S sound k pos (omega (arith, le, size)));
      ones = one size;
      place = refl;
      end = refl;
    }
  where
    one : length (rows_for S.homes) - 1 ≡ length S.homes → (k : ℕ) → k ≤ length (rows_for S.homes) - 1 → size_of (rows_for S.homes) k ≡ 1
    one size zero le = refl
    one size (suc k) le = ones S.homes k (omega (arith, le, size))

-- ---- rows that are there

module _ (rows : List Row) (order : List HomeNo) (have : HaveOrder rows order) where
  row_there : (k : ℕ) → 0 < k → k ≤ length order → row_in rows k ≡ Some (row_at rows k)
  row_there k pos le =
      let size = have.size in
      ap (λ (b : Bool). cond b None (slice_get rows k)) (ne_eqb k 0 (λ e. omega (arith, e, pos))) ∙ slice_get-get_or rows k no_row (omega (arith, size, le))

  row_missing : (k : ℕ) → length order < k → row_in rows k ≡ None
  row_missing k more =
      let size = have.size in
      ap (λ (b : Bool). cond b None (slice_get rows k)) (ne_eqb k 0 (λ e. omega (arith, e, more))) ∙ nothing_there rows k (omega (arith, size, more))
    where
      nothing_there : (xs : List Row) (i : ℕ) → length xs ≤ i → slice_get xs i ≡ None
      nothing_there [] i le = refl
      nothing_there (x ∷ xs) zero le = absurd (omega (arith, le))
      nothing_there (x ∷ xs) (suc i) le = nothing_there xs i (omega (arith, le))

  -- a number is that of a home, or of none
  abbrev Inside : ℕ → Type 0
  Inside k = ((0 < k) × (k ≤ length order)) ⊎ ((k ≡ 0) ⊎ (length order < k))

  inside : (k : ℕ) → Inside k
  inside zero = inr (inl refl)
  inside (suc k) = by (compared (length order) (suc k))
    where
      by : Compared (length order) (suc k) → ((0 < suc k) × (suc k ≤ length order)) ⊎ ((suc k ≡ 0) ⊎ (length order < suc k))
      by (inl less) = inr (inr less)
      by (inr (inl is)) = inl (omega arith, omega (arith, is))
      by (inr (inr more)) = inl (omega arith, omega (arith, more))

  row_none : (k : ℕ) → ((k ≡ 0) ⊎ (length order < k)) → row_in rows k ≡ None
  row_none k (inl is) = ap (row_in rows) is
  row_none k (inr more) = row_missing k more

  -- the row of a home that is there
  row_is : (of : HomeNo) (row : Row) → row_in rows of.0 ≡ Some row → (0 < of.0) × (of.0 ≤ length order) × (row_at rows of.0 ≡ row)
  row_is of row is = by (inside of.0)
    where
      by : ((0 < of.0) × (of.0 ≤ length order)) ⊎ ((of.0 ≡ 0) ⊎ (length order < of.0)) → (0 < of.0) × (of.0 ≤ length order) × (row_at rows of.0 ≡ row)
      by (inl a) = (let both : Some (row_at rows of.0) ≡ Some row = sym (row_there of.0 a.0 a.1) ∙ is in (a.0, a.1, cc))
      by (inr out) = absurd (let wrong : None ≡ Some row = sym (row_none of.0 out) ∙ is in cc)

  pub row_fits : (of : HomeNo) (row : Row) → row_in rows of.0 ≡ Some row → (1 ≤ row.place) × (row.place ≤ row.end) × (row.end ≤ length order + 1)
  row_fits of row is =
      let r = row_is of row is in
      subst (λ (x : Row). (1 ≤ x.place) × (x.place ≤ x.end) × (x.end ≤ length order + 1)) r.2 (
        (let first = positive_place (length order) (above (bases_in rows)) (place_of rows) (end_of rows) have.lower have.placed of.0 r.0 r.1 in omega (arith, first)),
        (let own = have.placed.proper of.0 r.1 in omega (arith, own)),
        end_within (length order) (above (bases_in rows)) (place_of rows) (end_of rows) have.lower have.placed of.0 r.1,
      )

-- ---- the rows of a table, and the schemas with the same bases

-- a home that is there, by its number
there_is : (S : Schema) (k : ℕ) → 0 < k → k ≤ length S.homes → (home : Home) × (nth S.homes k ≡ Some home)
there_is S zero pos le = absurd (omega (arith, pos))
there_is S (suc k) pos le = by (slice_get S.homes k) refl
  where
    by : (o : Option Home) → slice_get S.homes k ≡ o → (home : Home) × (slice_get S.homes k ≡ Some home)
    by (Some home) at = (home, at)
    by None at = absurd (no_hole S.homes k (omega (arith, le)) at)
      where
        no_hole : (xs : List Home) (i : ℕ) → i < length xs → slice_get xs i ≡ None → ⊥
        no_hole [] i less at = omega (arith, less)
        no_hole (x ∷ xs) zero less at = cc
        no_hole (x ∷ xs) (suc i) less at = no_hole xs i (omega (arith, less)) at

-- one that is found is there
number_is : (S : Schema) (k : ℕ) (home : Home) → nth S.homes k ≡ Some home → (0 < k) × (k ≤ length S.homes)
number_is S zero home at = absurd cc
number_is S (suc k) home at = (let within = slice_get_within S.homes k home at in (omega arith, omega (arith, within)))

both_test : (a b c : ℕ) → ((nat_le a b && nat_lt b c) ≡ true → (a ≤ b) × (b < c)) × ((a ≤ b) × (b < c) → (nat_le a b && nat_lt b c) ≡ true)
both_test a b c = (λ h. (grind (arith, nat_tests), grind (arith, nat_tests)), λ h. grind (arith, nat_tests))

module _ (rows : List Row) (order : List HomeNo) (have : HaveOrder rows order) (S : Schema) (sound : IsSoundSchema S) (are : drop 1 (bases_in rows) ≡ bases_of S) where
  abbrev p : ℕ → ℕ
  p = above (bases_in rows)

  abbrev n : ℕ
  n = length order

  pub as_many : n ≡ length S.homes
  as_many =
      let size = have.size in
      let in_rows = length-map rows (λ (r : Row). r.base) in
      let rest = length-drop 1 (bases_in rows) in
      let homes = length-map S.homes (λ (home : Home). base_number home.base) in
      omega (arith, size, in_rows, rest, homes, ap length are)

  base_in : (k : ℕ) → p (suc k) ≡ given (slice_get S.homes k) 0 (λ home. base_number home.base)
  base_in k = sym (get_or-drop 1 (bases_in rows) k 0 ∙ ap (λ (i : ℕ). get_or (bases_in rows) i 0) (one_more k)) ∙ ap (λ (l : List ℕ). get_or l k 0) are ∙ base_found S.homes k
    where
      one_more : (k : ℕ) → 1 + k ≡ suc k
      one_more k = omega arith

  -- the base of a home, by number
  based : (h b : HomeNo) → base_of S h ≡ Some b → (0 < h.0) × (h.0 ≤ n) × (p h.0 ≡ b.0) × (0 < b.0)
  based h b is = by h.0 (home_at S h) refl is
    where
      by : (k : ℕ) (o : Option Home) → nth S.homes k ≡ o → given o None (λ home. home.base) ≡ Some b → (0 < k) × (k ≤ n) × (p k ≡ b.0) × (0 < b.0)
      by k None at is = absurd cc
      by zero (Some home) at is = absurd cc
      by (suc k) (Some home) at is =
          let low : IsLower (Some b) (record { 0 = suc k }) = subst (λ (o : Option HomeNo). IsLower o (record { 0 = suc k })) is (sound.bases (record { 0 = suc k }) home at) in
          let within = (number_is S (suc k) home at).1 in
          let many = as_many in
          (omega arith, omega (arith, within, many), base_in k ∙ ap (λ (o : Option Home). given o 0 (λ home. base_number home.base)) at ∙ ap base_number is, low.0)

  -- with a number, a base
  base_given : (k : ℕ) → 0 < k → k ≤ n → 0 < p k → base_of S (record { 0 = k }) ≡ Some (record { 0 = p k })
  base_given zero pos le some = absurd (omega (arith, pos))
  base_given (suc k) pos le some =
      let many = as_many in
      let it = there_is S (suc k) pos (omega (arith, le, many)) in
      let number : p (suc k) ≡ base_number it.0.base = base_in k ∙ ap (λ (o : Option Home). given o 0 (λ home. base_number home.base)) it.1 in
      ap (λ (o : Option Home). given o None (λ home. home.base)) it.1 ∙ by it.0.base number
    where
      by : (o : Option HomeNo) → p (suc k) ≡ base_number o → o ≡ Some (record { 0 = p (suc k) })
      by None number = absurd (omega (arith, number, some))
      by (Some b) number = ap (λ (m : ℕ). Some (record { 0 = m })) (sym number)

  -- without one, none
  no_base : (k : ℕ) → p k ≡ 0 → base_of S (record { 0 = k }) ≡ None
  no_base k zero_base = by (base_of S (record { 0 = k })) refl
    where
      by : (o : Option HomeNo) → base_of S (record { 0 = k }) ≡ o → base_of S (record { 0 = k }) ≡ None
      by None is = is
      by (Some b) is = (let bs = based (record { 0 = k }) b is in let same = bs.2 in let some = bs.3 in absurd (omega (arith, same, some, zero_base)))

  pub up_derives : (k a : ℕ) → Up p k a → 0 < a → k ≤ n → DescendsFrom S (record { 0 = k }) (record { 0 = a })
  up_derives k a (here _) pos le = itself (record { 0 = k })
  up_derives k a (up _ _ posk rest) pos le =
      let low = have.lower k posk le in
      by (compared (p k) 0) rest (up_derives (p k) a rest pos (omega (arith, low, le)))
    where
      stuck : (b : ℕ) → b ≡ 0 → Up p b a → ⊥
      stuck b is (here _) = omega (arith, is, pos)
      stuck b is (up _ _ posb rest) = omega (arith, is, posb)

      by : Compared (p k) 0 → Up p (p k) a → DescendsFrom S (record { 0 = p k }) (record { 0 = a }) → DescendsFrom S (record { 0 = k }) (record { 0 = a })
      by (inl less) rest more = absurd (omega (arith, less))
      by (inr (inl is)) rest more = absurd (stuck (p k) is rest)
      by (inr (inr some)) rest more = by_base (record { 0 = k }) (record { 0 = p k }) (record { 0 = a }) (base_given k posk le some) more

  pub derives_up : (h of : HomeNo) → DescendsFrom S h of → Up p h.0 of.0
  derives_up h of (itself _) = here h.0
  derives_up h of (by_base _ b _ is rest) = (let bs = based h b is in up h.0 of.0 bs.0 (subst (λ (k : ℕ). Up p k of.0) (sym bs.2) (derives_up b of rest)))

  positive_of : (h of : HomeNo) → DescendsFrom S h of → 0 < h.0 → 0 < of.0
  positive_of h of (itself _) pos = pos
  positive_of h of (by_base _ b _ is rest) pos = positive_of b of rest (based h b is).3

  -- ---- whether one derives from another

  -- one that is not there derives from itself alone
  alone : (h of : HomeNo) → ((h.0 ≡ 0) ⊎ (n < h.0)) → DescendsFrom S h of → h.0 ≡ of.0
  alone h of out (itself _) = refl
  alone h of out (by_base _ b _ is rest) = by out (based h b is)
    where
      by : ((h.0 ≡ 0) ⊎ (n < h.0)) → (0 < h.0) × (h.0 ≤ n) × (p h.0 ≡ b.0) × (0 < b.0) → h.0 ≡ of.0
      by (inl zero_home) bs = (let some = bs.0 in absurd (omega (arith, some, zero_home)))
      by (inr more) bs = (let within = bs.1 in absurd (omega (arith, within, more)))

  same_home : (h of : HomeNo) → h.0 ≡ of.0 → DescendsFrom S h of
  same_home h of e = subst (DescendsFrom S h) same (itself h)
    where
      same : h ≡ of
      same = λ i. record { 0 = e i }

  -- nothing derives from one that is not there, but itself
  not_of : (h of : HomeNo) → ((of.0 ≡ 0) ⊎ (n < of.0)) → 0 < h.0 → h.0 ≤ n → DescendsFrom S h of → ⊥
  not_of h of (inl zero_home) pos le d = (let some = positive_of h of d pos in omega (arith, some, zero_home))
  not_of h of (inr more) pos le d = (let low = falls n p have.lower h.0 of.0 (derives_up h of d) le in omega (arith, low, more, le))

  told_alone : (x y : Option Row) (h of : HomeNo) → ((x ≡ None) ⊎ (y ≡ None)) → tells x y h of ≡ (h.0 == of.0)
  told_alone None y h of e = refl
  told_alone (Some x) None h of e = refl
  told_alone (Some x) (Some y) h of (inl e) = absurd cc
  told_alone (Some x) (Some y) h of (inr e) = absurd cc

  pub heir_told : (h of : HomeNo) → (tells (row_in rows h.0) (row_in rows of.0) h of ≡ true) ↔ DescendsFrom S h of
  heir_told h of = by (inside rows order have h.0) (inside rows order have of.0)
    where
      -- neither nor
      apart : ((row_in rows h.0 ≡ None) ⊎ (row_in rows of.0 ≡ None)) → (DescendsFrom S h of → h.0 ≡ of.0) → (tells (row_in rows h.0) (row_in rows of.0) h of ≡ true) ↔ DescendsFrom S h of
      apart none one = (
        λ t. same_home h of (eqb-true h.0 of.0 (sym (told_alone (row_in rows h.0) (row_in rows of.0) h of none) ∙ t)),
        λ d. told_alone (row_in rows h.0) (row_in rows of.0) h of none ∙ eq-eqb h.0 of.0 (one d),
      )

      by : ((0 < h.0) × (h.0 ≤ n)) ⊎ ((h.0 ≡ 0) ⊎ (n < h.0)) → ((0 < of.0) × (of.0 ≤ n)) ⊎ ((of.0 ≡ 0) ⊎ (n < of.0)) → (tells (row_in rows h.0) (row_in rows of.0) h of ≡ true) ↔ DescendsFrom S h of
      by (inl a) (inl b) =
          let places = below_is n p (place_of rows) (end_of rows) have.lower have.placed h.0 of.0 a.1 b.1 in
          let told : tells (row_in rows h.0) (row_in rows of.0) h of ≡ (nat_le (place_of rows of.0) (place_of rows h.0) && nat_lt (place_of rows h.0) (end_of rows of.0))
          = (λ i. tells (row_there rows order have h.0 a.0 a.1 i) (row_there rows order have of.0 b.0 b.1 i) h of) in
          let tests = both_test (place_of rows of.0) (place_of rows h.0) (end_of rows of.0) in
          (λ t. up_derives h.0 of.0 (places.1 (tests.0 (sym told ∙ t))) b.0 a.1, λ d. told ∙ tests.1 (places.0 (derives_up h of d)))
      by (inl a) (inr b) = apart (inr (row_none rows order have of.0 b)) (λ d. absurd (not_of h of b a.0 a.1 d))
      by (inr a) b = apart (inl (row_none rows order have h.0 a)) (alone h of a)

  pub heir_value : (h of : HomeNo) → tells (row_in rows h.0) (row_in rows of.0) h of ≡ descends S h of
  heir_value h of = by (tells (row_in rows h.0) (row_in rows of.0) h of) refl (descends S h of) refl
    where
      by : (a : Bool) → tells (row_in rows h.0) (row_in rows of.0) h of ≡ a → (b : Bool) → descends S h of ≡ b → tells (row_in rows h.0) (row_in rows of.0) h of ≡ descends S h of
      by true x true y = x ∙ sym y
      by false x false y = x ∙ sym y
      by true x false y = (let yes = found S sound h of ((heir_told h of).0 x) in let wrong : false ≡ true = sym y ∙ yes in absurd cc)
      by false x true y = (let yes = (heir_told h of).1 (reached S (suc (length S.homes)) h of y) in let wrong : false ≡ true = sym x ∙ yes in absurd cc)

  -- ---- roots

  pub root_there : (h : HomeNo) (row : Row) → row_in rows h.0 ≡ Some row → IsRootOf S h (record { 0 = row.root })
  root_there h row is = by (inside rows order have h.0)
    where
      by : ((0 < h.0) × (h.0 ≤ n)) ⊎ ((h.0 ≡ 0) ⊎ (n < h.0)) → IsRootOf S h (record { 0 = row.root })
      by (inr out) = absurd (let wrong : None ≡ Some row = sym (row_none rows order have h.0 out) ∙ is in cc)
      by (inl a) =
          let both : Some (row_at rows h.0) ≡ Some row = sym (row_there rows order have h.0 a.0 a.1) ∙ is in
          let it : row_at rows h.0 ≡ row = cc in
          let top = have.tops h.0 a.0 a.1 in
          subst (λ (r : ℕ). IsRootOf S h (record { 0 = r })) (ap (λ (r : Row). r.root) it) (record {
            derives = up_derives h.0 (root_of rows h.0) top.2 top.0 a.1;
            first = no_base (root_of rows h.0) top.3;
          })

  pub root_alone : (h : HomeNo) → row_in rows h.0 ≡ None → IsRootOf S h h
  root_alone h is = by (inside rows order have h.0)
    where
      by : ((0 < h.0) × (h.0 ≤ n)) ⊎ ((h.0 ≡ 0) ⊎ (n < h.0)) → IsRootOf S h h
      by (inl a) = absurd (let wrong : Some (row_at rows h.0) ≡ None = sym (row_there rows order have h.0 a.0 a.1) ∙ is in cc)
      by (inr out) = record { derives = itself h; first = at (base_of S h) refl }
        where
          at : (o : Option HomeNo) → base_of S h ≡ o → base_of S h ≡ None
          at None e = e
          at (Some b) e = absurd (by_out out (based h b e))
            where
              by_out : ((h.0 ≡ 0) ⊎ (n < h.0)) → (0 < h.0) × (h.0 ≤ n) × (p h.0 ≡ b.0) × (0 < b.0) → ⊥
              by_out (inl zero_home) bs = (let some = bs.0 in omega (arith, some, zero_home))
              by_out (inr more) bs = (let within = bs.1 in omega (arith, within, more))

  -- ---- heirs

  -- an item of the heirs' part of the order
  record Slot (of : HomeNo) (k i : ℕ) : Type 0 where
    positive : 0 < k
    within : k ≤ n
    below : Up p k of.0
    place : place_of rows k ≡ place_of rows of.0 + i

  -- what is found there, and where
  part_found : (from to i : ℕ) (h : HomeNo) → slice_get (take (to - from) (drop from order)) i ≡ Some h → (i < to - from) × (i < length (drop from order)) × (home_at_place order (from + i) ≡ h.0)
  part_found from to i h at =
      let none : HomeNo = record { 0 = 0 } in
      let lt = slice_get_within (take (to - from) (drop from order)) i h at in
      let taken = length-take (to - from) (drop from order) in
      let low : i < to - from = omega (arith, lt, taken) in
      let high : i < length (drop from order) = omega (arith, lt, taken) in
      let both : Some h ≡ Some (get_or (take (to - from) (drop from order)) i none) = sym at ∙ slice_get-get_or (take (to - from) (drop from order)) i none lt in
      let it : get_or (take (to - from) (drop from order)) i none ≡ h = cc in
      (low, high, ap (λ (x : HomeNo). x.0) (sym (get_or-take (to - from) (drop from order) i none low ∙ get_or-drop from order i none) ∙ it))

  slot : (of : HomeNo) → 0 < of.0 → of.0 ≤ n → (i : ℕ) (h : HomeNo) → slice_get (take (end_of rows of.0 - 1 - (place_of rows of.0 - 1)) (drop (place_of rows of.0 - 1) order)) i ≡ Some h → Slot of h.0 i
  slot of pos le i h at =
      let first = positive_place n p (place_of rows) (end_of rows) have.lower have.placed of.0 pos le in
      let there = part_found (place_of rows of.0 - 1) (end_of rows of.0 - 1) i h at in
      let low = there.0 in
      let one = someone n p (place_of rows) (end_of rows) have.lower have.placed (suc n) of.0 (place_of rows of.0 + i) (omega arith) le (omega arith) (omega (arith, low, first)) in
      let fall = falls n p have.lower one.number of.0 one.below one.within in
      let some : 0 < one.number = omega (arith, fall, pos) in
      let place : place_of rows one.number ≡ place_of rows of.0 + i = one.place in
      let where_it_is : place_of rows one.number - 1 ≡ place_of rows of.0 - 1 + i = omega (arith, place, first) in
      let listed : home_at_place order (place_of rows of.0 - 1 + i) ≡ one.number = ap (home_at_place order) (sym where_it_is) ∙ have.ordered one.number some (below_more one.within) in
      let number : one.number ≡ h.0 = sym listed ∙ there.2 in
      subst (λ (k : ℕ). Slot of k i) number (record { positive = some; within = one.within; below = one.below; place = place })
    where
      below_more : {k : ℕ} → k ≤ n → k < n + 1
      below_more le = omega (arith, le)

  home_there : (k : ℕ) → 0 < k → k ≤ n → IsSome (home_at S (record { 0 = k }))
  home_there k pos le = (let many = as_many in let it = there_is S k pos (omega (arith, le, many)) in ap is_some it.1)

  heirs_of : (of : HomeNo) → 0 < of.0 → of.0 ≤ n → AreHeirs S of (take (end_of rows of.0 - 1 - (place_of rows of.0 - 1)) (drop (place_of rows of.0 - 1) order))
  heirs_of of pos le = record {
    derive = λ i h at.
        (let s = slot of pos le i h at in
        (home_there h.0 s.positive s.within, up_derives h.0 of.0 s.below pos s.within));
    all = all;
    once = λ i j h at_i at_j. (let a = (slot of pos le i h at_i).place in let b = (slot of pos le j h at_j).place in omega (arith, a, b));
    first = first;
  }
    where
      all : (h : HomeNo) → IsSome (home_at S h) → DescendsFrom S h of → (i : ℕ) × (slice_get (take (end_of rows of.0 - 1 - (place_of rows of.0 - 1)) (drop (place_of rows of.0 - 1) order)) i ≡ Some h)
      all h there d = by (home_at S h) refl there
        where
          by : (o : Option Home) → home_at S h ≡ o → is_some o ≡ true → (i : ℕ) × (slice_get (take (end_of rows of.0 - 1 - (place_of rows of.0 - 1)) (drop (place_of rows of.0 - 1) order)) i ≡ Some h)
          by None at some = absurd cc
          by (Some home) at some =
              let many = as_many in
              let number = number_is S h.0 home at in
              let within : h.0 ≤ n = (let w = number.1 in omega (arith, w, many)) in
              let places = (below_is n p (place_of rows) (end_of rows) have.lower have.placed h.0 of.0 within le).0 (derives_up h of d) in
              let first = positive_place n p (place_of rows) (end_of rows) have.lower have.placed of.0 pos le in
              let end = end_within n p (place_of rows) (end_of rows) have.lower have.placed of.0 le in
              let none : HomeNo = record { 0 = 0 } in
              let from = place_of rows of.0 - 1 in
              let count = end_of rows of.0 - 1 - from in
              let i = place_of rows h.0 - place_of rows of.0 in
              let low = places.0 in
              let high = places.1 in
              let small : i < count = omega (arith, low, high, first) in
              let dropped = length-drop from order in
              let taken = length-take count (drop from order) in
              let lt : i < length (take count (drop from order)) = omega (arith, small, dropped, taken, end, low, high, first) in
              let place : from + i ≡ place_of rows h.0 - 1 = omega (arith, low, first) in
              let number_there : home_at_place order (from + i) ≡ h.0 = ap (home_at_place order) place ∙ have.ordered h.0 number.0 (omega (arith, within)) in
              let item : get_or (take count (drop from order)) i none ≡ get_or order (from + i) none = get_or-take count (drop from order) i none small ∙ get_or-drop from order i none in
              (i, slice_get-get_or (take count (drop from order)) i none lt ∙ ap (λ (x : HomeNo). Some x) (item ∙ (λ j. record { 0 = number_there j })))

      -- its own place is the first of its heirs'
      first : IsSome (home_at S of) → slice_get (take (end_of rows of.0 - 1 - (place_of rows of.0 - 1)) (drop (place_of rows of.0 - 1) order)) 0 ≡ Some of
      first there = (let own = all of there (itself of) in at own.0 own.1)
        where
          at : (i : ℕ) → slice_get (take (end_of rows of.0 - 1 - (place_of rows of.0 - 1)) (drop (place_of rows of.0 - 1) order)) i ≡ Some of → slice_get (take (end_of rows of.0 - 1 - (place_of rows of.0 - 1)) (drop (place_of rows of.0 - 1) order)) 0 ≡ Some of
          at i is =
              let place = (slot of pos le i of is).place in
              let none : i ≡ 0 = omega (arith, place) in
              subst (λ (i : ℕ). slice_get (take (end_of rows of.0 - 1 - (place_of rows of.0 - 1)) (drop (place_of rows of.0 - 1) order)) i ≡ Some of) none is

  pub heirs_there : (of : HomeNo) (row : Row) → row_in rows of.0 ≡ Some row → AreHeirs S of (take (row.end - 1 - (row.place - 1)) (drop (row.place - 1) order))
  heirs_there of row is = (let r = row_is rows order have of row is in subst (λ (x : Row). AreHeirs S of (take (x.end - 1 - (x.place - 1)) (drop (x.place - 1) order))) r.2 (heirs_of of r.0 r.1))

  pub heirs_none : (of : HomeNo) → row_in rows of.0 ≡ None → AreHeirs S of []
  heirs_none of is = record { derive = λ i h at. absurd cc; all = λ h there d. absurd (by (inside rows order have of.0) h there d); once = λ i j h at_i at_j. absurd cc; first = λ there. absurd (by (inside rows order have of.0) of there (itself of)) }
    where
      by : ((0 < of.0) × (of.0 ≤ n)) ⊎ ((of.0 ≡ 0) ⊎ (n < of.0)) → (h : HomeNo) → IsSome (home_at S h) → DescendsFrom S h of → ⊥
      by (inl a) h there d = (let wrong : Some (row_at rows of.0) ≡ None = sym (row_there rows order have of.0 a.0 a.1) ∙ is in cc)
      by (inr out) h there d = at (home_at S h) refl there
        where
          at : (o : Option Home) → home_at S h ≡ o → is_some o ≡ true → ⊥
          at None found some = cc
          at (Some home) found some =
              let many = as_many in
              let number = number_is S h.0 home found in
              let w = number.1 in
              not_of h of out number.0 (omega (arith, w, many)) d
