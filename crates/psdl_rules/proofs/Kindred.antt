-- Homes of one family and one type.
use Rattle.std.proofs.Common.{◌≡◌, ℕ, zero, suc, ◌+◌, ◌≤◌, ◌<◌, List, [], ◌∷◌, Bool, true, false, cond, ◌==◌, ◌&&◌, ◌||◌, length, take, drop, map, Option, Some, None, refl, sym, ap, ◌∙◌, arith, add-one, drop-cons, ⊎_elim}
use Rattle.std.specs.Cmp.{tied_then}
use Rattle.std.specs.List.{list_any, range_with_len, enumerate_from}
use Rattle.std.specs.Option.{option_map}
use Rattle.std.specs.Ordering.{is_eq, nat_cmp}
use Rattle.std.specs.BTreeSet.{BTreeSet}
use Rattle.std.proofs.lemmas.Bool.{and_parts, and_from, eqb-true, eq-eqb, cases_Bool}
use Rattle.std.proofs.lemmas.List.FromFn.{map-range_with_len_more}
use Rattle.type_layout.specs.Schemas.{given}
use Rattle.psdl_directory.specs.Declarations.{Declaration}
use Rattle.psdl_directory.specs.Parts.{is_concrete_home}
use Rattle.psdl_directory.specs.Lookup.{at, nothing}
use Rattle.psdl_directory.proofs.Tabled.{is_eq-nat_cmp}
use Rattle.psdl_lineage.specs.Descent.{type_of_home, family}
use Rattle.psdl_rules.specs.declared.faults.family_type.Membership.{Membership}
use Rattle.psdl_rules.specs.Faults.FamilyType.{shares_type}
use Rattle.psdl_rules.specs.inner.Related.{membership, memberships_before, same_membership, by_membership, has_membership, met, AreMet, has_earlier}
use Rattle.psdl_rules.proofs.Noted.{any_push}

abbrev member : ℕ → ℕ → Membership
member f t = record { family = f; home_type = t }

-- ---- one home's membership

some_same : {X : Type 0} (a b : X) → Some a ≡ Some b → a ≡ b
some_same a b e = cc

-- ---- the table of those that were met

pub one_membership : (k q : Membership) → same_membership k q ≡ true → k ≡ q
one_membership k q h =
    let both = and_parts (k.family == q.family) (k.home_type == q.home_type) h in
    ap (λ (n : ℕ). member n k.home_type) (eqb-true k.family q.family both.0)
    ∙ ap (λ (n : ℕ). member q.family n) (eqb-true k.home_type q.home_type both.1)

itself : (k : Membership) → same_membership k k ≡ true
itself k = and_from (k.family == k.family) (k.home_type == k.home_type) (eq-eqb k.family k.family refl) (eq-eqb k.home_type k.home_type refl)

turned : (k q : Membership) (b : Bool) → same_membership k q ≡ b → same_membership q k ≡ b
turned k q true h = ap (λ (m : Membership). same_membership q m) (one_membership k q h) ∙ itself q
turned k q false h = ⊎_elim (λ t. absurd (cc (sym h ∙ ap (λ (m : Membership). same_membership k m) (one_membership q k t) ∙ itself k))) (λ f. f) (cases_Bool (same_membership q k))

ties : (k q : Membership) → is_eq (by_membership k q) ≡ same_membership k q
ties k q = sym (tied_then (nat_cmp k.family q.family) (nat_cmp k.home_type q.home_type)) ∙ rw (is_eq-nat_cmp k.family q.family, is_eq-nat_cmp k.home_type q.home_type) refl

or_false : (b : Bool) → b ≡ b || false
or_false true = refl
or_false false = refl

or_true : (b : Bool) → true ≡ b || true
or_true true = refl
or_true false = refl

or_turned : (a b : Bool) → a || b ≡ b || a
or_turned true true = refl
or_turned true false = refl
or_turned false true = refl
or_turned false false = refl

entered_at : (f g : Membership → Bool) (key q : Membership) → g q ≡ cond (same_membership key q) true (f q) → (b : Bool) → same_membership key q ≡ b → g q ≡ (f q || same_membership q key)
entered_at f g key q is true h = rw (is, h, turned key q true h) (or_true (f q))
entered_at f g key q is false h = rw (is, h, turned key q false h) (or_false (f q))

-- one is entered
pub entered : (f g : Membership → Bool) (key : Membership) → ((q : Membership) → g q ≡ cond (is_eq (by_membership key q)) true (f q)) → (q : Membership) → g q ≡ (f q || same_membership q key)
entered f g key updates q = entered_at f g key q (updates q ∙ ap (λ (b : Bool). cond b true (f q)) (ties key q)) (same_membership key q) refl

more : (all : List Declaration) (i : ℕ) (q : Membership) → list_any (has_membership q) (memberships_before all (i + 1)) ≡ (has_membership q (membership all i) || list_any (has_membership q) (memberships_before all i))
more all i q =
    ap (λ (l : List (Option Membership)). list_any (has_membership q) l) (map-range_with_len_more (membership all) 0 i i (omega arith))
    ∙ any_push (has_membership q) (memberships_before all i) (membership all i)

pub one_more : (all : List Declaration) (i : ℕ) (m : Membership) (old new : BTreeSet Membership) → AreMet all i old → Some m ≡ membership all i → ((q : Membership) → met new q ≡ (met old q || same_membership q m)) → AreMet all (i + 1) new
one_more all i m old new so_far is step q =
    step q ∙ ap (λ (b : Bool). b || same_membership q m) (so_far q)
    ∙ or_turned (list_any (has_membership q) (memberships_before all i)) (same_membership q m)
    ∙ ap (λ (o : Option Membership). has_membership q o || list_any (has_membership q) (memberships_before all i)) is
    ∙ sym (more all i q)

pub none_more : (all : List Declaration) (i : ℕ) (old : BTreeSet Membership) → AreMet all i old → None ≡ membership all i → AreMet all (i + 1) old
none_more all i old so_far is q = so_far q ∙ ap (λ (o : Option Membership). has_membership q o || list_any (has_membership q) (memberships_before all i)) is ∙ sym (more all i q)

-- ---- an earlier home of the same family and type

cut_at : (all : List Declaration) (i : ℕ) → i < length all → drop i all ≡ at all i ∷ drop (i + 1) all
cut_at all i lt = rw (add-one, drop-cons all i nothing) refl

any_enumerated : (p : ℕ → Declaration → Bool) (all : List Declaration) (k i : ℕ) → i + k ≤ length all
    → list_any (λ (e : ℕ × Declaration). p e.0 e.1) (enumerate_from i (take k (drop i all))) ≡ list_any (λ j. p j (at all j)) (range_with_len i k)
any_enumerated p all zero i le = refl
any_enumerated p all (suc k) i le =
    let cut : drop i all ≡ at all i ∷ drop (i + 1) all = cut_at all i (omega (arith, le)) in
    ap (λ l. list_any (λ (e : ℕ × Declaration). p e.0 e.1) (enumerate_from i (take (suc k) l))) cut
    ∙ ap (λ (b : Bool). p i (at all i) || b) (any_enumerated p all k (i + 1) (omega (arith, le)))

any_alike : (p q : ℕ → Bool) → ((n : ℕ) → p n ≡ q n) → (xs : List ℕ) → list_any p xs ≡ list_any q xs
any_alike p q h [] = refl
any_alike p q h (x ∷ xs) = ap (λ b. b || list_any p xs) (h x) ∙ ap (λ b. q x || b) (any_alike p q h xs)

any_mapped : {X : Type 0} (p : X → Bool) (f : ℕ → X) (xs : List ℕ) → list_any p (map f xs) ≡ list_any (λ n. p (f n)) xs
any_mapped p f [] = refl
any_mapped p f (x ∷ xs) = ap (λ b. p (f x) || b) (any_mapped p f xs)

none_of : (xs : List ℕ) → list_any (λ n. false) xs ≡ false
none_of [] = refl
none_of (x ∷ xs) = none_of xs

shares_is : (all : List Declaration) (m n t : ℕ) → type_of_home all n ≡ Some t
    → (is_concrete_home (at all m).what && shares_type all m n) ≡ has_membership (member (family all n) t) (membership all m)
shares_is all m n t type = ap (λ (o : Option ℕ). is_concrete_home (at all m).what && (family all m == family all n && given (type_of_home all m) false (λ u. given o false (λ v. u == v)))) type ∙ by (is_concrete_home (at all m).what) (type_of_home all m)
  where
    and_none : (b : Bool) → (b && false) ≡ false
    and_none true = refl
    and_none false = refl

    swap : (a b : ℕ) (x y : Bool) → (a == b) ≡ x → (b == a) ≡ y → x ≡ y
    swap a b true true p q = refl
    swap a b false false p q = refl
    swap a b true false p q = absurd (cc (eq-eqb b a (sym (eqb-true a b p))))
    swap a b false true p q = absurd (cc (eq-eqb a b (sym (eqb-true b a q))))

    by : (b : Bool) (o : Option ℕ) → (b && (family all m == family all n && given o false (λ u. u == t)))
        ≡ has_membership (member (family all n) t) (cond b (option_map (member (family all m)) o) None)
    by true (Some u) = ap (λ (x : Bool). x && u == t) (swap (family all m) (family all n) (family all m == family all n) (family all n == family all m) refl refl) ∙ ap (λ (x : Bool). family all n == family all m && x) (swap u t (u == t) (t == u) refl refl)
    by true None = and_none (family all m == family all n)
    by false o = refl

abbrev earlier : List Declaration → ℕ → Bool
earlier all n = list_any (λ (e : ℕ × Declaration). is_concrete_home e.1.what && shares_type all e.0 n) (enumerate_from 0 (take n all))

by_number : (all : List Declaration) (n : ℕ) → n < length all → earlier all n ≡ list_any (λ m. is_concrete_home (at all m).what && shares_type all m n) (range_with_len 0 n)
by_number all n lt = any_enumerated (λ m d. is_concrete_home d.what && shares_type all m n) all n 0 (omega (arith, lt))

by_member : (all : List Declaration) (n t : ℕ) → n < length all → type_of_home all n ≡ Some t
    → earlier all n ≡ list_any (has_membership (member (family all n) t)) (memberships_before all n)
by_member all n t lt type =
    let q : Membership = member (family all n) t in
    by_number all n lt
    ∙ any_alike (λ m. is_concrete_home (at all m).what && shares_type all m n) (λ m. has_membership q (membership all m)) (λ m. shares_is all m n t type) (range_with_len 0 n)
    ∙ sym (any_mapped (has_membership q) (membership all) (range_with_len 0 n))

-- an earlier one was met
pub met_before : (all : List Declaration) (set : BTreeSet Membership) (q : Membership) (n : ℕ) → AreMet all n set → n < length all → Some q ≡ membership all n → met set q ≡ has_earlier all n
met_before all set q n so_far lt here = by (is_concrete_home (at all n).what) refl (type_of_home all n) refl (sym here)
  where
    by : (b : Bool) → is_concrete_home (at all n).what ≡ b → (o : Option ℕ) → type_of_home all n ≡ o → cond b (option_map (member (family all n)) o) None ≡ Some q
        → met set q ≡ (b && earlier all n)
    by true home (Some t) type e =
        let same : member (family all n) t ≡ q = some_same (member (family all n) t) q e in
        so_far q
        ∙ ap (λ (k : Membership). list_any (has_membership k) (memberships_before all n)) (sym same)
        ∙ sym (by_member all n t lt type)
    by true home None type e = absurd (cc)
    by false home o type e = absurd (cc)

-- without a type or a home there is none
pub none_before : (all : List Declaration) (n : ℕ) → n < length all → None ≡ membership all n → false ≡ (is_concrete_home (at all n).what && earlier all n)
none_before all n lt gone = by (is_concrete_home (at all n).what) refl (type_of_home all n) refl (sym gone)
  where
    and_given : (b : Bool) (o : Option ℕ) (c : Bool) → (b && (c && given o false (λ u. false))) ≡ false
    and_given true None true = refl
    and_given true None false = refl
    and_given true (Some u) true = refl
    and_given true (Some u) false = refl
    and_given false o c = refl

    not_shared : type_of_home all n ≡ None → (m : ℕ) → (is_concrete_home (at all m).what && shares_type all m n) ≡ false
    not_shared type m =
        ap (λ (o : Option ℕ). is_concrete_home (at all m).what && (family all m == family all n && given (type_of_home all m) false (λ u. given o false (λ v. u == v)))) type
        ∙ and_given (is_concrete_home (at all m).what) (type_of_home all m) (family all m == family all n)

    by : (b : Bool) → is_concrete_home (at all n).what ≡ b → (o : Option ℕ) → type_of_home all n ≡ o → cond b (option_map (member (family all n)) o) None ≡ None
        → false ≡ (b && earlier all n)
    by true home (Some t) type e = absurd (cc)
    by true home None type e =
        sym (by_number all n lt ∙ any_alike (λ m. is_concrete_home (at all m).what && shares_type all m n) (λ m. false) (not_shared type) (range_with_len 0 n) ∙ none_of (range_with_len 0 n))
    by false home o type e = refl
