-- The numbers of homes rise in the order of the text.
use Rattle.std.proofs.Common.{◌≡◌, ℕ, zero, suc, ◌+◌, ◌-◌, ◌<◌, ◌≤◌, List, ◌∷◌, length, filter, map, Bool, true, false, cond, IsTrue, refl, ap, ◌∙◌, arith, ⊎_elim}
use Rattle.std.specs.Prelude.{nat_le}
use Rattle.std.specs.List.{range_with_len, list_all}
use Rattle.std.proofs.lemmas.Bool.{cases_order, and_from, le-leb}
use Rattle.type_layout.specs.declared.home.HomeNo.{HomeNo}
use Rattle.type_layout.specs.Sound.{Rise}
use Rattle.psdl_directory.specs.Declarations.{Declaration}
use Rattle.psdl_lineage.specs.Descent.{concrete_homes}
use Rattle.psdl_rules.specs.Faults.Limit.{home_number}
use Rattle.psdl_directory.specs.Lookup.{at}
use Rattle.psdl_check.specs.inner.HomeNos.{homes_in_front}
use Rattle.psdl_directory.specs.Parts.{is_concrete_home}
use Rattle.psdl_check.specs.Schemas.{home_no, referents}
use Rattle.psdl_sound.proofs.Homes.{IsHome}
use Rattle.psdl_check.proofs.Slots.{numbered, in_front_more}

abbrev is_one : List Declaration → ℕ → Bool
is_one all n = is_concrete_home (at all n).what

-- ---- as many as in front

-- a home's number is one more than that of the homes in front
pub number_is : (all : List Declaration) (n : ℕ) → n < length all → is_one all n ≡ true → home_number all n ≡ 1 + homes_in_front all n
number_is all n lt is = numbered all n lt ∙ ap (λ (b : Bool). cond b (1 + homes_in_front all n) 0) is

more_with : (all : List Declaration) (n : ℕ) → is_one all n ≡ true → homes_in_front all (n + 1) ≡ homes_in_front all n + 1
more_with all n is = in_front_more all n ∙ ap (λ (b : Bool). cond b (homes_in_front all n + 1) (homes_in_front all n)) is

not_fewer : (all : List Declaration) (n : ℕ) → homes_in_front all n ≤ homes_in_front all (n + 1)
not_fewer all n = by (is_one all n) (in_front_more all n)
  where
    by : (b : Bool) → homes_in_front all (n + 1) ≡ cond b (homes_in_front all n + 1) (homes_in_front all n) → homes_in_front all n ≤ homes_in_front all (n + 1)
    by true e = omega (arith, e)
    by false e = omega (arith, e)

grows : (all : List Declaration) (n d : ℕ) → homes_in_front all n ≤ homes_in_front all (n + d)
grows all n zero = let same : n + 0 ≡ n = omega arith in omega (arith, ap (homes_in_front all) same)
grows all n (suc d) =
    let same : n + suc d ≡ n + d + 1 = omega arith in
    omega (arith, ap (homes_in_front all) same, grows all n d, not_fewer all (n + d))

-- further on no fewer homes stand in front
pub in_front_grows : (all : List Declaration) (m n : ℕ) → m ≤ n → homes_in_front all m ≤ homes_in_front all n
in_front_grows all m n le = let same : m + (n - m) ≡ n = omega (arith, le) in omega (arith, grows all m (n - m), ap (homes_in_front all) same)

-- of two homes the one in front has the lower number
pub lower_number : (all : List Declaration) (m n : ℕ) → m < n → n < length all → is_one all m ≡ true → is_one all n ≡ true → home_number all m < home_number all n
lower_number all m n lt inside is_m is_n =
    omega (
      arith,
      number_is all m (omega (arith, lt, inside)) is_m,
      number_is all n inside is_n,
      more_with all m is_m,
      in_front_grows all (m + 1) n (omega (arith, lt)),
    )

-- of two homes the one with the lower number stands in front
pub in_front : (all : List Declaration) (i j m n : ℕ) → IsHome all i m → IsHome all j n → i < j → m < n
in_front all i j m n a b lt =
    ⊎_elim
    (λ same. absurd (omega (arith, lt, a.has_number, b.has_number, ap (home_number all) same)))
    (λ differ.
    ⊎_elim (λ less. less)
    (λ more. absurd (omega (arith, lt, a.has_number, b.has_number, lower_number all n m more a.is_declared b.is_concrete a.is_concrete)))
    differ)
    (cases_order m n)

-- ---- homes that pass a test

module _ (all : List Declaration) (test : ℕ → Bool) where
  abbrev chosen : ℕ → ℕ → List ℕ
  chosen a k = filter test (filter (is_one all) (range_with_len a k))

  rise : (k a last : ℕ) → a + k ≤ length all → last ≤ homes_in_front all a → Rise last (map (home_no all) (chosen a k))
  rise zero a last inside le = tt
  rise (suc k) a last inside le = by (is_one all a) (test a) refl (λ n more. rise k (a + 1) n (omega (arith, inside)) more)
    where
      rest : List ℕ
      rest = chosen (a + 1) k

      by : (b c : Bool) → is_one all a ≡ b → ((n : ℕ) → n ≤ homes_in_front all (a + 1) → Rise n (map (home_no all) rest))
          → Rise last (map (home_no all) (filter test (cond b (a ∷ filter (is_one all) (range_with_len (a + 1) k)) (filter (is_one all) (range_with_len (a + 1) k)))))
      by false c is later = later last (omega (arith, le, not_fewer all a))
      by true c is later = chosen_too (test a)
        where
          chosen_too : (v : Bool) → Rise last (map (home_no all) (cond v (a ∷ rest) rest))
          chosen_too false = later last (omega (arith, le, not_fewer all a))
          chosen_too true =
              let number : home_number all a ≡ 1 + homes_in_front all a = number_is all a (omega (arith, inside)) is in
              (omega (arith, le, number), later (home_number all a) (omega (arith, number, more_with all a is)))

  stay : (k a : ℕ) → a + k ≤ length all → IsTrue (list_all (λ h. nat_le h.0 (homes_in_front all (length all))) (map (home_no all) (chosen a k)))
  stay zero a inside = refl
  stay (suc k) a inside = by (is_one all a) refl (stay k (a + 1) (omega (arith, inside)))
    where
      rest : List ℕ
      rest = chosen (a + 1) k

      low : HomeNo → Bool
      low h = nat_le h.0 (homes_in_front all (length all))

      by : (b : Bool) → is_one all a ≡ b → IsTrue (list_all low (map (home_no all) rest))
          → IsTrue (list_all low (map (home_no all) (filter test (cond b (a ∷ filter (is_one all) (range_with_len (a + 1) k)) (filter (is_one all) (range_with_len (a + 1) k))))))
      by false is later = later
      by true is later = chosen_too (test a)
        where
          chosen_too : (v : Bool) → IsTrue (list_all low (map (home_no all) (cond v (a ∷ rest) rest)))
          chosen_too false = later
          chosen_too true =
              let number : home_number all a ≡ 1 + homes_in_front all a = number_is all a (omega (arith, inside)) is in
              and_from (low (home_no all a)) (list_all low (map (home_no all) rest))
              (le-leb (home_number all a) (homes_in_front all (length all)) (omega (arith, number, more_with all a is, in_front_grows all (a + 1) (length all) (omega (arith, inside)))))
              later

-- ---- the homes that a reference may have

-- their numbers rise
pub referents_rise : (all : List Declaration) (u : ℕ) → Rise 0 (referents all u)
unfolding concrete_homes
referents_rise all u = rise all _ (length all) 0 0 (omega arith) (omega arith)

-- none is above the number of homes
pub referents_stay : (all : List Declaration) (u : ℕ) → IsTrue (list_all (λ h. nat_le h.0 (length (concrete_homes all))) (referents all u))
unfolding concrete_homes
referents_stay all u = stay all _ (length all) 0 (omega arith)
