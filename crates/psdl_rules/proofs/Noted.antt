-- Names that are noted one after the other.
use Rattle.std.proofs.Common.{◌≡◌, ℕ, zero, suc, arith, ◌+◌, ◌<◌, ◌≤◌, List, [], ◌∷◌, ◌++◌, Bor, length, get_or, take, drop, map, reverse, Bool, true, false, not, ◌||◌, Option, Ordering, refl, sym, ap, ◌∙◌, add-one, drop-cons}
use Rattle.std.specs.BTreeSet.{BTreeSet, IsEmpty, Updates}
use Rattle.std.specs.Cmp.Lexicographic.{slice_cmp}
use Rattle.std.specs.List.{list_any}
use Rattle.std.specs.Ordering.{is_eq, nat_cmp}
use Rattle.std.specs.Set.{KeepsOthers}
use Rattle.std.specs.declared.vec.Vec.{Vec}
use Rattle.std.specs.Str.{bytes_eq}
use Rattle.std.proofs.lemmas.List.{reverse-append, drop_all}
use Rattle.std.proofs.lemmas.Map.Text.{is_eq-slice_cmp}
use Rattle.std.proofs.lemmas.Slice.Eq.{bytes_eq-Decides}
use Rattle.psdl_tree.specs.declared.names.Identifier.{Identifier}
use Rattle.psdl_directory.specs.declared.fault.CheckFault.{CheckFault}
use Rattle.psdl_directory.specs.declared.fault.CheckKind.TheVariants.{Redefined}
use Rattle.psdl_directory.specs.Fault.{fault_if}
use Rattle.psdl_directory.specs.Lookup.{lower}
use Rattle.psdl_directory.specs.Noting.{noting}
use Rattle.psdl_directory.proofs.Noting.{noting-append}
use Rattle.psdl_lineage.proofs.Listing.{map_more}
use Rattle.psdl_members.specs.Clashes.{are_alike}
use Rattle.psdl_rules.specs.Faults.Redefined.{redefined_behind}
use Rattle.psdl_rules.specs.inner.Scopes.{has_name}

or_swap : (a b c : Bool) → a || (b || c) ≡ b || (a || c)
or_swap true true c = refl
or_swap true false c = refl
or_swap false true c = refl
or_swap false false c = refl

pub any_push : {X : Type 0} (test : X → Bool) (xs : List X) (x : X) → list_any test (xs ++ x ∷ []) ≡ test x || list_any test xs
any_push test [] x = refl
any_push test (y ∷ ys) x = ap (λ (b : Bool). test y || b) (any_push test ys x) ∙ or_swap (test y) (test x) (list_any test ys)

or_is : (a b : Bool) → true ≡ b → true ≡ a || b
or_is true b h = refl
or_is false b h = h

-- one that passes is among them
pub any_at : {X Y : Type 0} (test : Y → Bool) (view : X → Y) (xs : List X) (i : ℕ) (x : X) → i < length xs → x ≡ get_or xs i x → test (view x) ≡ true → true ≡ list_any test (map view xs)
any_at test view [] i x lt at h = absurd (omega (arith, lt))
any_at {X} test view (y ∷ ys) zero x lt at h = sym (ap (λ (b : Bool). b || list_any test (map view ys)) (ap (λ (z : X). test (view z)) (sym at) ∙ h))
any_at test view (y ∷ ys) (suc i) x lt at h = or_is (test (view y)) (list_any test (map view ys)) (any_at test view ys i x (omega (arith, lt)) at h)

pub any_there : {X : Type 0} (test : X → Bool) (xs : List X) (i : ℕ) (x : X) → i < length xs → x ≡ get_or xs i x → test x ≡ true → true ≡ list_any test xs
any_there test [] i x lt at h = absurd (omega (arith, lt))
any_there {X} test (y ∷ ys) zero x lt at h = sym (ap (λ (b : Bool). b || list_any test ys) (ap test (sym at) ∙ h))
any_there test (y ∷ ys) (suc i) x lt at h = or_is (test y) (list_any test ys) (any_there test ys i x (omega (arith, lt)) at h)

pub not_not : (b : Bool) → not (not b) ≡ b
not_not true = refl
not_not false = refl

-- ---- a name that is entered

same_bytes : (xs ys : List ℕ) → bytes_eq xs ys ≡ true → xs ≡ ys
same_bytes xs ys h = (bytes_eq-Decides xs ys).0 h

same_order : (xs ys : List ℕ) → is_eq (slice_cmp nat_cmp xs ys) ≡ true → xs ≡ ys
same_order xs ys h = same_bytes xs ys (sym (is_eq-slice_cmp xs ys) ∙ h)

by_test : (P : Bool → Type 0) (b : Bool) → (b ≡ true → P true) → (b ≡ false → P false) → P b
by_test P true f g = f refl
by_test P false f g = g refl

abbrev by_items : {Z : Type 0} → Vec ℕ Z → Vec ℕ Z → Ordering
by_items x y = slice_cmp nat_cmp x.items y.items

pub none_named : {Z : Type 0} (names : BTreeSet (Vec ℕ Z)) → IsEmpty names → (q : List ℕ) → has_name names q ≡ false
none_named {Z} names empty q = ap (λ (ks : List (Vec ℕ Z)). list_any (λ k. is_eq (slice_cmp nat_cmp q k.items)) ks) empty

-- a name is there, or it was
pub entered : {Z : Type 0} (old new : BTreeSet (Vec ℕ Z)) (key : Vec ℕ Z) → Updates by_items old new key true → (q : List ℕ) → has_name new q ≡ bytes_eq q key.items || has_name old q
unfolding KeepsOthers
entered old new key updates q =
    by_test (λ b. bytes_eq q key.items ≡ b → has_name new q ≡ b || has_name old q) (bytes_eq q key.items)
    (λ e same. ap (λ (l : List ℕ). has_name new l) (same_bytes q key.items same) ∙ updates.1)
    (λ e apart. updates.3 (λ k. is_eq (slice_cmp nat_cmp q k.items)) (λ x y at. ap (λ (l : List ℕ). is_eq (slice_cmp nat_cmp l y.items)) (same_order q x.items at))
    (λ k at. is_eq-slice_cmp q k.items ∙ ap (bytes_eq q) (sym (same_order key.items k.items at)) ∙ apart))
    refl

-- the identifiers in front of one, the last first
abbrev pub before : List (Bor Identifier) → ℕ → List Identifier
before xs i = reverse (map (λ (x : Bor Identifier). x.now) (take i xs))

pub before_more : (xs : List (Bor Identifier)) (i : ℕ) (x : Bor Identifier) → i < length xs → x ≡ get_or xs i x → before xs (i + 1) ≡ x.now ∷ before xs i
before_more xs i x lt at =
    let now : Bor Identifier → Identifier = λ y. y.now in
    ap reverse (map_more now xs i x lt ∙ ap (λ (y : Bor Identifier). map now (take i xs) ++ now y ∷ []) (sym at)) ∙ reverse-append (map now (take i xs)) (x.now ∷ [])

pub noted_step : (xs : List (Bor Identifier)) (i : ℕ) (x : Bor Identifier) (old new : List ℕ → Bool) → i < length xs → x ≡ get_or xs i x
    → ((q : List ℕ) → old q ≡ list_any (λ (j : Identifier). bytes_eq q (lower j.name)) (before xs i)) → ((q : List ℕ) → new q ≡ bytes_eq q (lower x.now.name) || old q)
    → (q : List ℕ) → new q ≡ list_any (λ (j : Identifier). bytes_eq q (lower j.name)) (before xs (i + 1))
noted_step xs i x old new lt at so_far more q =
    more q ∙ ap (λ (b : Bool). bytes_eq q (lower x.now.name) || b) (so_far q) ∙ ap (λ (l : List Identifier). list_any (λ (j : Identifier). bytes_eq q (lower j.name)) l) (sym (before_more xs i x lt at))

pub scope_step : (xs : List (Bor Identifier)) (i : ℕ) (x : Bor Identifier) (old : List ℕ → Bool) (now new total : Option CheckFault) → i < length xs → x ≡ get_or xs i x
    → ((q : List ℕ) → old q ≡ list_any (λ (j : Identifier). bytes_eq q (lower j.name)) (before xs i))
    → noting now (redefined_behind (before xs i) (map (λ (y : Bor Identifier). y.now) (drop i xs))) ≡ total
    → new ≡ noting now (fault_if (old (lower x.now.name)) Redefined x.now.place)
    → noting new (redefined_behind (before xs (i + 1)) (map (λ (y : Bor Identifier). y.now) (drop (i + 1) xs))) ≡ total
scope_step xs i x old now new total lt at noted so_far is =
    let view : Bor Identifier → Identifier = λ y. y.now in
    let rest : List Identifier = map view (drop (i + 1) xs) in
    let own : List CheckFault = fault_if (list_any (are_alike x.now) (before xs i)) Redefined x.now.place in
    let cut : drop i xs ≡ x ∷ drop (i + 1) xs = rw (add-one, drop-cons xs i x) (ap (λ (y : Bor Identifier). y ∷ drop (suc i) xs) (sym at)) in
    let test : new ≡ noting now own = is ∙ ap (λ (b : Bool). noting now (fault_if b Redefined x.now.place)) (noted (lower x.now.name)) in
    ap (λ (o : Option CheckFault). noting o (redefined_behind (before xs (i + 1)) rest)) test
    ∙ ap (λ (l : List Identifier). noting (noting now own) (redefined_behind l rest)) (before_more xs i x lt at)
    ∙ sym (noting-append now own (redefined_behind (x.now ∷ before xs i) rest))
    ∙ sym (ap (λ (l : List (Bor Identifier)). noting now (redefined_behind (before xs i) (map view l))) cut)
    ∙ so_far

pub scope_end : (xs : List (Bor Identifier)) (i : ℕ) (now total : Option CheckFault) → length xs ≤ i
    → noting now (redefined_behind (before xs i) (map (λ (y : Bor Identifier). y.now) (drop i xs))) ≡ total → now ≡ total
scope_end xs i now total le so_far = sym (ap (λ (l : List (Bor Identifier)). noting now (redefined_behind (before xs i) (map (λ (y : Bor Identifier). y.now) l))) (drop_all i xs le)) ∙ so_far
