-- No more keys are introduced than the shape has octets.
use Rattle.std.proofs.Common.{◌≡◌, ℕ, ◌+◌, ◌<◌, ◌≤◌, List, [], ◌∷◌, ◌++◌, Bool, true, false, cond, not, ◌&&◌, nat_lt, Option, Some, None, filter, length, map, take, refl, sym, ap, ◌∙◌, arith, length-append, ltb-false}
use Rattle.std.specs.List.{flat_map, list_any, slice_get}
use Rattle.std.specs.Option.{is_some, option_to_list}
use Rattle.std.proofs.lemmas.Bool.{or_left, or_right}
use Rattle.std.proofs.lemmas.List.{append-nil, map-append}
use Rattle.std.proofs.lemmas.List.Concat.{flat_map-append}
use Rattle.type_layout.specs.declared.key.KeyNo.{KeyNo}
use Rattle.type_layout.specs.ShapeText.{key_line}
use Rattle.psdl_directory.specs.Declarations.{Declaration}
use Rattle.psdl_lineage.specs.Descent.{Listed, ancestry, base_home, concrete_homes, has, home_keys, same_listed}
use Rattle.psdl_rules.specs.Faults.Limit.{most_shape}
use Rattle.psdl_standings.specs.TextLengths.{cut}
use Rattle.psdl_check.specs.Schemas.{Introduced, introduced, all_introduced, key_number, schema}
use Rattle.psdl_check.specs.inner.HeldKeys.{base_has}
use Rattle.psdl_check.specs.inner.Made.{front_lines, key_lines, lines_at, lines_before, lines_of}
use Rattle.psdl_check.proofs.Counting.{line_there, position_within}
use Rattle.psdl_check.proofs.Homed.{cut_at, number_at}
use Rattle.psdl_check.proofs.Homing.{one_home_more}
use Rattle.psdl_check.proofs.KeyIding.{listed_itself}
use Rattle.psdl_check.proofs.KeyedBases.{any_left, any_right, from_itself, own_among, place_of_any}
use Rattle.psdl_check.proofs.Overlong.{lines_more, take_step}

abbrev Numbers : List Declaration → ℕ → Listed → Type 0
Numbers all h k = (n : ℕ) × ((key_number all h k ≡ Some n) × (n < length (all_introduced all)))

module _ (all : List Declaration) (h : ℕ) where
  abbrev lines_for : List Listed → List ℕ
  lines_for ks = flat_map (key_line (schema all)) (map (λ n. record { 0 = n }) (flat_map (λ k. option_to_list (key_number all h k)) ks))

  lines_parts : (k : Listed) (ks : List Listed) → length (lines_for (k ∷ ks)) ≡ length (lines_for (k ∷ [])) + length (lines_for ks)
  lines_parts k ks =
      let number : Listed → List ℕ = λ k. option_to_list (key_number all h k) in
      let made : ℕ → KeyNo = λ n. record { 0 = n } in
      let line = key_line (schema all) in
      let one : lines_for (k ∷ []) ≡ flat_map line (map made (number k)) = ap (λ (l : List ℕ). flat_map line (map made l)) (append-nil (number k)) in
      let whole : lines_for (k ∷ ks) ≡ flat_map line (map made (number k)) ++ lines_for ks =
      ap (flat_map line) (map-append made (number k) (flat_map number ks)) ∙ flat_map-append line (map made (number k)) (map made (flat_map number ks)) in
      ap (λ (l : List ℕ). length l) whole ∙ length-append (flat_map line (map made (number k))) (lines_for ks) ∙ ap (λ (l : List ℕ). length l + length (lines_for ks)) (sym one)

  one_line : (k : Listed) → Numbers all h k → 1 ≤ length (lines_for (k ∷ []))
  one_line k told =
      let line = key_line (schema all) in
      let is : lines_for (k ∷ []) ≡ line (record { 0 = told.0 }) ++ [] =
      ap (λ (o : Option ℕ). flat_map line (map (λ n. record { 0 = n }) (option_to_list o ++ []))) told.1.0 in
      omega (arith, ap (λ (l : List ℕ). length l) is, length-append (line (record { 0 = told.0 })) [], line_there all (record { 0 = told.0 }) told.1.1)

  -- those that pass a test have lines, where each of them has a number
  few_of : (p : Listed → Bool) (made : Listed → Introduced) (ks : List Listed) → ((k : Listed) → list_any (same_listed k) ks ≡ true → p k ≡ true → Numbers all h k) → length (map made (filter p ks)) ≤ length (lines_for ks)
  few_of p made [] told = omega arith
  few_of p made (k ∷ ks) told = by (p k) refl (few_of p made ks (λ x there on. told x (or_right (same_listed x k) (list_any (same_listed x) ks) there) on))
    where
      by : (b : Bool) → p k ≡ b → length (map made (filter p ks)) ≤ length (lines_for ks) → length (map made (cond b (k ∷ filter p ks) (filter p ks))) ≤ length (lines_for (k ∷ ks))
      by true e rest = omega (arith, rest, lines_parts k ks, one_line k (told k (or_left (same_listed k k) (list_any (same_listed k) ks) (listed_itself k k refl)) e))
      by false e rest = omega (arith, rest, lines_parts k ks)

-- the keys that a home introduces have lines
few_of_home : (all : List Declaration) (homes more : List ℕ) (h : ℕ) → concrete_homes all ≡ (homes ++ h ∷ []) ++ more → length (introduced all h) ≤ length (key_lines all h)
few_of_home all homes more h whole =
    few_of all h (λ k. not (base_has all (base_home all h) k)) (λ k. record { home = h; listed = k }) (home_keys all h) told
  where
    parts : all_introduced all ≡ (flat_map (introduced all) homes ++ introduced all h) ++ flat_map (introduced all) more
    parts =
        ap (flat_map (introduced all)) whole ∙ flat_map-append (introduced all) (homes ++ h ∷ []) more
        ∙ ap (λ (l : List Introduced). l ++ flat_map (introduced all) more) (one_home_more all homes h)

    off : (b : Bool) → not b ≡ true → b ≡ false
    off true e = sym e
    off false e = refl

    told : (k : Listed) → list_any (same_listed k) (home_keys all h) ≡ true → not (base_has all (base_home all h) k) ≡ true → Numbers all h k
    told k there new =
        let test : Introduced → Bool = λ i. has (ancestry all h) i.home && same_listed k i.listed in
        let own : list_any test (introduced all h) ≡ true = own_among all (has (ancestry all h)) h k (from_itself all h) there (off (base_has all (base_home all h) k) new) in
        let among : list_any test (all_introduced all) ≡ true =
        ap (list_any test) parts ∙ any_left test (flat_map (introduced all) homes ++ introduced all h) (flat_map (introduced all) more) (any_right test (flat_map (introduced all) homes) (introduced all h) own) in
        by (key_number all h k) refl (place_of_any test 0 (all_introduced all) among)
      where
        by : (o : Option ℕ) → key_number all h k ≡ o → is_some o ≡ true → Numbers all h k
        by None e some = absurd (cc)
        by (Some n) e some = (n, (e, omega (arith, position_within (λ (i : Introduced). has (ancestry all h) i.home && same_listed k i.listed) 0 (all_introduced all) n e)))

-- with one home more
pub few_more : (all : List Declaration) (i h : ℕ) → slice_get (concrete_homes all) i ≡ Some h → length (flat_map (introduced all) (take i (concrete_homes all))) ≤ length (lines_before all i)
    → length (flat_map (introduced all) (take (i + 1) (concrete_homes all))) ≤ length (lines_before all (i + 1))
unfolding lines_at
few_more all i h there few =
    let homes : List ℕ = take i (concrete_homes all) in
    let parts = cut_at (concrete_homes all) i h there in
    let keys : flat_map (introduced all) (take (i + 1) (concrete_homes all)) ≡ flat_map (introduced all) homes ++ introduced all h =
    ap (flat_map (introduced all)) (take_step (concrete_homes all) i h there) ∙ one_home_more all homes h in
    let lines : lines_before all (i + 1) ≡ lines_before all i ++ lines_of all h =
    lines_more all i h there ∙ ap (λ (n : ℕ). lines_before all i ++ lines_at all n h) (sym (number_at all i h there)) in
    let own : length (lines_of all h) ≡ length (front_lines all h) + length (key_lines all h) = length-append (front_lines all h) (key_lines all h) in
    omega (arith, few, few_of_home all homes parts.0 h parts.1, own, ap (λ (l : List Introduced). length l) keys, length-append (flat_map (introduced all) homes) (introduced all h), ap (λ (l : List ℕ). length l) lines, length-append (lines_before all i) (lines_of all h))

pub fits_in : (all : List Declaration) (i total : ℕ) → total ≡ cut (length (lines_before all i)) → nat_lt most_shape total ≡ false → length (lines_before all i) ≤ most_shape
fits_in all i total is fits = omega (arith, is, ltb-false most_shape total fits)
