-- Names with or without `::` in front.
use Rattle.std.proofs.Common.{ℕ, ◌+◌, ◌≡◌, ◌≤◌, min, List, [], ◌∷◌, position, Option, Some, None, Bool, true, false, cond, ◌||◌, refl, sym, ◌∙◌, ap, arith}
use Rattle.std.specs.List.{position_from}
use Rattle.std.specs.Option.{option_map}
use Rattle.std.specs.Str.{bytes_eq}
use Rattle.std.proofs.lemmas.Slice.Eq.{bytes_eq-Decides}
use Rattle.std.proofs.lemmas.Iterator.Adapters.{position_from-zero}
use Rattle.type_layout.specs.declared.home.HomeNo.{HomeNo}
use Rattle.type_layout.specs.declared.schema.Home.{Home}
use Rattle.pss_machine.specs.Names.{is_name_of}
use Rattle.schema_names.specs.Found.{home_called}
use Rattle.schema_names.specs.inner.Homes.{lesser}

-- the lesser of two places
abbrev less : Option ℕ → Option ℕ → Option ℕ
less (Some a) (Some b) = Some (min a b)
less (Some a) None = Some a
less None b = b

-- a place is no less than where the search begins
abbrev AtLeast : ℕ → Option ℕ → Type 0
AtLeast i None = Unit {0}
AtLeast i (Some n) = i ≤ n

later : (i : ℕ) (o : Option ℕ) → AtLeast (i + 1) o → AtLeast i o
later i None le = tt
later i (Some n) le = omega (arith, le)

least : (i : ℕ) (b : Bool) (o : Option ℕ) → AtLeast (i + 1) o → AtLeast i (cond b (Some i) o)
least i true o le = omega arith
least i false o le = later i o le

first_less : (i : ℕ) (o : Option ℕ) → AtLeast i o → Some i ≡ less (Some i) o
first_less i None le = refl
first_less i (Some n) le = ap Some (let e : i ≡ min i n = omega (arith, le) in e)

less_first : (i : ℕ) (o : Option ℕ) → AtLeast i o → Some i ≡ less o (Some i)
less_first i None le = refl
less_first i (Some n) le = ap Some (let e : i ≡ min n i = omega (arith, le) in e)

-- of two places that are looked for together
together : (i : ℕ) (a b : Bool) (both o r : Option ℕ) → AtLeast (i + 1) o → AtLeast (i + 1) r → both ≡ less o r → cond (a || b) (Some i) both ≡ less (cond a (Some i) o) (cond b (Some i) r)
together i true true both o r lo lr e = first_less i (Some i) (omega arith)
together i true false both o r lo lr e = first_less i r (later i r lr)
together i false true both o r lo lr e = less_first i o (later i o lo)
together i false false both o r lo lr e = e

module _ {X : Type 0} where
  from_least : (p : X → Bool) (i : ℕ) (xs : List X) → AtLeast i (position_from p i xs)
  from_least p i [] = tt
  from_least p i (x ∷ xs) = least i (p x) (position_from p (i + 1) xs) (from_least p (i + 1) xs)

  either_from : (p q : X → Bool) (i : ℕ) (xs : List X) → position_from (λ x. p x || q x) i xs ≡ less (position_from p i xs) (position_from q i xs)
  either_from p q i [] = refl
  either_from p q i (x ∷ xs) = together i (p x) (q x) (position_from (λ x. p x || q x) (i + 1) xs) (position_from p (i + 1) xs) (position_from q (i + 1) xs) (from_least p (i + 1) xs) (from_least q (i + 1) xs) (either_from p q (i + 1) xs)

  pub either : (p q : X → Bool) (xs : List X) → position (λ x. p x || q x) xs ≡ less (position p xs) (position q xs)
  either p q xs = position_from-zero (λ x. p x || q x) xs ∙ either_from p q 0 xs ∙ sym (ap (λ o. less o (position q xs)) (position_from-zero p xs) ∙ ap (less (position_from p 0 xs)) (position_from-zero q xs))

  alike_from : (p q : X → Bool) (i : ℕ) (xs : List X) → ((x : X) → p x ≡ q x) → position_from p i xs ≡ position_from q i xs
  alike_from p q i [] same = refl
  alike_from p q i (x ∷ xs) same = ap (λ b. cond b (Some i) (position_from p (i + 1) xs)) (same x) ∙ ap (λ o. cond (q x) (Some i) o) (alike_from p q (i + 1) xs same)

  pub alike : (p q : X → Bool) (xs : List X) → ((x : X) → p x ≡ q x) → position p xs ≡ position q xs
  alike p q xs same = position_from-zero p xs ∙ alike_from p q 0 xs same ∙ sym (position_from-zero q xs)

-- of two homes the one with the lesser place
made_less : (a b : Option ℕ) → option_map {U = HomeNo} (λ n. record { 0 = n + 1 }) (less a b) ≡ lesser (option_map (λ n. record { 0 = n + 1 }) a) (option_map (λ n. record { 0 = n + 1 }) b)
made_less (Some a) (Some b) = ap (λ n. Some (let h : HomeNo = record { 0 = n } in h)) (let e : min a b + 1 ≡ min (a + 1) (b + 1) = omega arith in e)
made_less (Some a) None = refl
made_less None b = refl

-- a word with `::` in front is the name of a home as it stands, or without
pub with_front : (homes : List Home) (rest : List ℕ) → option_map {U = HomeNo} (λ n. record { 0 = n + 1 }) (position (is_name_of (58 ∷ 58 ∷ rest)) homes) ≡ lesser (home_called homes (58 ∷ 58 ∷ rest)) (home_called homes rest)
with_front homes rest =
    ap (option_map (λ n. record { 0 = n + 1 })) (either (λ (h : Home). bytes_eq (58 ∷ 58 ∷ rest) h.name) (λ (h : Home). bytes_eq rest h.name) homes)
    ∙ made_less (position (λ (h : Home). bytes_eq (58 ∷ 58 ∷ rest) h.name) homes) (position (λ (h : Home). bytes_eq rest h.name) homes)

-- any other word is the name of a home as it stands
pub without_front : (homes : List Home) (word : List ℕ) → ((rest : List ℕ) → word ≡ 58 ∷ 58 ∷ rest → ⊥) → option_map {U = HomeNo} (λ n. record { 0 = n + 1 }) (position (is_name_of word) homes) ≡ home_called homes word
without_front homes word none = ap (option_map (λ n. record { 0 = n + 1 })) (alike (is_name_of word) (λ (h : Home). bytes_eq word h.name) homes (λ h. plain h.name (bytes_eq word h.name)))
  where
    apart : (name : List ℕ) → bytes_eq word (58 ∷ 58 ∷ name) ≡ false
    apart name = by_test (bytes_eq word (58 ∷ 58 ∷ name)) (λ e. (bytes_eq-Decides word (58 ∷ 58 ∷ name)).0 e)
      where
        by_test : (b : Bool) → (b ≡ true → word ≡ 58 ∷ 58 ∷ name) → b ≡ false
        by_test true same = absurd (none name (same refl))
        by_test false same = refl

    or_false : (b : Bool) → (b || false) ≡ b
    or_false true = refl
    or_false false = refl

    plain : (name : List ℕ) (b : Bool) → (b || bytes_eq word (58 ∷ 58 ∷ name)) ≡ b
    plain name b = ap (λ c. b || c) (apart name) ∙ or_false b
