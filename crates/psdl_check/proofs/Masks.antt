-- Bits of masks.
use Rattle.std.proofs.Common.{◌≡◌, ◌≢◌, ◌∙◌, ℕ, zero, suc, ◌+◌, ◌*◌, ◌/◌, ◌%◌, ◌^◌, ◌<◌, List, Bool, false, ◌==◌, ◌||◌, ◌∷◌, [], Option, None, Some, get_or, length, map, max, refl, sym, ap, arith, ⊎_elim}
use Rattle.std.specs.Int.{bit_at}
use Rattle.std.specs.Int.RustNames.{bit_and, bit_or}
use Rattle.std.specs.List.{list_any}
use Rattle.std.proofs.Math.ListN.{set, get_or-map}
use Rattle.std.proofs.lemmas.Bool.{cases_eq, eq-eqb, ne_eqb}
use Rattle.std.proofs.lemmas.List.{length-map, map-set, get_or-map as get_or-map_within}
use Rattle.std.proofs.lemmas.Nat.Bits.{bit_at-zero, bit_at-lt, bit_at_or, shr_and_one, bit_at-pow_same, bit_at-pow_other}
use Rattle.std.proofs.lemmas.Simd.{map-map}
use Rattle.type_layout.specs.Schemas.{given}
use Rattle.psdl_directory.specs.Declarations.{Declaration}
use Rattle.psdl_lineage.specs.Descent.{has, conforms, concrete_homes, type_of_home}
use Rattle.psdl_lineage.specs.Graph.{parents_in, conforms_in, graph_of}
use Rattle.psdl_lineage.proofs.Texts.{ancestry_is, length-graph_of}
use Rattle.psdl_check.specs.inner.Masks.{has_bit, type_mask, is_of_heir, IsGroup}
use Rattle.psdl_check.specs.inner.Rising.{IsRising}
use Rattle.psdl_check.proofs.Descent.{AreHeirs, heirs_more}
use Rattle.psdl_check.proofs.Meant.{type_below}

pub no_bit : (k : ℕ) → has_bit 0 k ≡ false
unfolding has_bit
no_bit k = ap (λ (b : ℕ). b == 1) (bit_at-zero k)

pub tested : (mask k : ℕ) → (bit_and (mask / 2 ^ k) 1 == 1) ≡ has_bit mask k
unfolding has_bit
tested mask k = ap (λ (b : ℕ). b == 1) (shr_and_one mask k)

either : (a b : ℕ) → a < 2 → b < 2 → (max a b == 1) ≡ ((a == 1) || (b == 1))
either zero zero a b = refl
either zero (suc zero) a b = refl
either (suc zero) zero a b = refl
either (suc zero) (suc zero) a b = refl
either (suc (suc x)) y a b = absurd (omega (arith, a))
either zero (suc (suc y)) a b = absurd (omega (arith, b))
either (suc zero) (suc (suc y)) a b = absurd (omega (arith, b))

pub or_bit : (a b k : ℕ) → has_bit (bit_or a b) k ≡ (has_bit a k || has_bit b k)
unfolding has_bit
or_bit a b k = ap (λ (n : ℕ). n == 1) (bit_at_or a b k) ∙ either (bit_at a k) (bit_at b k) (bit_at-lt a k) (bit_at-lt b k)

-- ---- the bit of a declaration itself

pub own_bit : (number group k : ℕ) → k < 64 → number / 64 ≡ group → has_bit (2 ^ (number % 64)) k ≡ (number == group * 64 + k)
unfolding has_bit
own_bit number group k lt e = ⊎_elim
    (λ same.
    let is : number ≡ group * 64 + k = omega (arith, same, e) in
    ap (λ (j : ℕ). bit_at (2 ^ (number % 64)) j == 1) same ∙ ap (λ (b : ℕ). b == 1) (bit_at-pow_same (number % 64)) ∙ sym (eq-eqb number (group * 64 + k) is))
    (λ differ. ap (λ (b : ℕ). b == 1) (bit_at-pow_other (number % 64) k differ) ∙ sym (ne_eqb number (group * 64 + k) (λ is. differ (omega (arith, is, lt)))))
    (cases_eq k (number % 64))

pub other_group : (number group k : ℕ) → k < 64 → number / 64 ≢ group → has_bit 0 k ≡ (number == group * 64 + k)
other_group number group k lt differ = no_bit k ∙ sym (ne_eqb number (group * 64 + k) (λ is. differ (omega (arith, is, lt))))

-- ---- bit by bit

-- a bit of each mask
abbrev pub bits : ℕ → List ℕ → List Bool
bits k masks = map (λ m. has_bit m k) masks

pub bit_there : (masks : List ℕ) (k i : ℕ) → get_or (bits k masks) i false ≡ has_bit (get_or masks i 0) k
bit_there masks k i = ap (λ (b : Bool). get_or (bits k masks) i b) (sym (no_bit k)) ∙ get_or-map (λ m. has_bit m k) masks i 0

any_alike : (f g : ℕ → Bool) (ps : List ℕ) → ((p : ℕ) → f p ≡ g p) → list_any f ps ≡ list_any g ps
any_alike f g [] h = refl
any_alike f g (p ∷ ps) h = ap (λ (b : Bool). b || list_any f ps) (h p) ∙ ap (λ (b : Bool). g p || b) (any_alike f g ps h)

-- the first so many are told of all definitions of a group
abbrev pub AreTold : List (List ℕ) → ℕ → ℕ → List ℕ → Type 0
AreTold graph group i masks = (k : ℕ) → k < 64 → AreHeirs graph (group * 64 + k) i (bits k masks)

abbrev IsTold : List (List ℕ) → ℕ → ℕ → List ℕ → ℕ → Type 0
IsTold graph group i masks mask = (k : ℕ) → k < 64 → has_bit mask k ≡ ((i == group * 64 + k) || list_any (λ p. has_bit (get_or masks p 0) k) (parents_in graph i))

-- one more
pub told_more : (graph : List (List ℕ)) (group i : ℕ) (masks : List ℕ) (mask : ℕ) → IsRising graph → i < length graph → length masks ≡ length graph → AreTold graph group i masks
    → IsTold graph group i masks mask → AreTold graph group (i + 1) (set masks i mask)
told_more graph group i masks mask rising lt long are is k low n there =
    ap (λ (bs : List Bool). get_or bs n false) (map-set (λ m. has_bit m k) masks i mask)
    ∙ heirs_more graph (group * 64 + k) i (bits k masks) (has_bit mask k) rising lt (length-map masks (λ m. has_bit m k) ∙ long) (are k low)
    (is k low ∙ ap (λ (b : Bool). (i == group * 64 + k) || b) (any_alike (λ p. has_bit (get_or masks p 0) k) (λ p. get_or (bits k masks) p false) (parents_in graph i) (λ p. sym (bit_there masks k p))))
    n there

-- ---- homes

abbrev pub AreAllTold : List (List ℕ) → ℕ → List ℕ → Type 0
AreAllTold graph group masks = (n k : ℕ) → n < length graph → k < 64 → has_bit (get_or masks n 0) k ≡ conforms_in graph n (group * 64 + k)

map_alike : (f g : ℕ → Bool) (xs : List ℕ) → ((x : ℕ) → f x ≡ g x) → map f xs ≡ map g xs
map_alike f g [] h = refl
map_alike f g (x ∷ xs) h = ap (λ (b : Bool). b ∷ map f xs) (h x) ∙ ap (λ (l : List Bool). g x ∷ l) (map_alike f g xs h)

pub by_types : (all : List Declaration) (group : ℕ) (masks homes : List ℕ) → AreAllTold (graph_of all) group masks → homes ≡ map (type_mask all masks) (concrete_homes all) → IsGroup all group homes
by_types all group masks homes told is k low =
    ap (bits k) is
    ∙ map-map (λ m. has_bit m k) (type_mask all masks) (concrete_homes all)
    ∙ map_alike (λ h. has_bit (type_mask all masks h) k) (is_of_heir all (group * 64 + k)) (concrete_homes all) (λ h. by h (type_of_home all h) refl)
  where
    by : (h : ℕ) (o : Option ℕ) → type_of_home all h ≡ o → has_bit (given o 0 (λ t. get_or masks t 0)) k ≡ given o false (λ t. conforms all t (group * 64 + k))
    by h None e = no_bit k
    by h (Some t) e = told t k (omega (arith, type_below all h t e, length-graph_of all)) low ∙ ap (λ (l : List ℕ). has l (group * 64 + k)) (sym (ancestry_is all t))

-- a home has the bit exactly where it passes the test
pub bit_tells : (masks homes : List ℕ) (test : ℕ → Bool) (k i : ℕ) → i < length homes → bits k masks ≡ map test homes → has_bit (get_or masks i 0) k ≡ test (get_or homes i 0)
bit_tells masks homes test k i lt same = sym (bit_there masks k i) ∙ ap (λ (bs : List Bool). get_or bs i false) same ∙ get_or-map_within test homes i 0 false lt
