-- Lists of identifiers that name no member, or one twice, or one that may not be keyed.
use Rattle.std.proofs.Common.{◌≡◌, ℕ, zero, suc, ◌+◌, ◌<◌, ◌≤◌, List, [], ◌∷◌, ◌++◌, length, get_or, take, drop, map, Bool, true, false, cond, not, ◌||◌, Option, Some, None, refl, sym, ap, ◌∙◌, arith, add-one, drop-cons}
use Rattle.std.specs.List.{list_any, find, position_from}
use Rattle.std.specs.Str.{bytes_eq}
use Rattle.std.proofs.lemmas.List.{append_assoc, drop_all, take_all, get_or-map}
use Rattle.psdl_tree.specs.declared.names.Identifier.{Identifier}
use Rattle.type_layout.specs.Keys.{may_be_keyed}
use Rattle.type_layout.specs.Schemas.{given}
use Rattle.type_layout.specs.Types.{PlainType}
use Rattle.psdl_directory.specs.declared.fault.CheckFault.{CheckFault}
use Rattle.psdl_directory.specs.declared.fault.CheckKind.{CheckKind}
use Rattle.psdl_directory.specs.declared.fault.CheckKind.TheVariants.{KeyType}
use Rattle.psdl_directory.specs.Declarations.{Declaration}
use Rattle.psdl_directory.specs.Fault.{fault_if}
use Rattle.psdl_directory.specs.Noting.{noting}
use Rattle.psdl_directory.proofs.Noting.{noting-append}
use Rattle.psdl_lineage.specs.Descent.{StateMember}
use Rattle.psdl_standings.specs.declared.state_entry.StateEntry.{StateEntry}
use Rattle.psdl_standings.specs.Standings.{standings}
use Rattle.psdl_standings.specs.States.{type_kept, is_compound_kept}
use Rattle.psdl_rules.specs.Layouts.{member_type}
use Rattle.psdl_rules.specs.Words.{is_called, same_name, listed_wrong}
use Rattle.psdl_rules.specs.Faults.KeyType.{keyed_wrong}
use Rattle.psdl_rules.specs.inner.Listing.{type_faults}
use Rattle.psdl_rules.specs.inner.Scopes.{behind}
use Rattle.psdl_rules.specs.inner.Typed.{AreTypes, default_types}

-- ---- identifier by identifier

behind_more : (earlier xs : List Identifier) (i : ℕ) (x : Identifier) → i < length xs → x ≡ get_or xs i x → behind earlier (take (suc i) xs) ≡ x ∷ behind earlier (take i xs)
behind_more earlier [] i x lt at = absurd (omega (arith, lt))
behind_more earlier (y ∷ ys) zero x lt at = ap (λ (z : Identifier). z ∷ earlier) (sym at)
behind_more earlier (y ∷ ys) (suc i) x lt at = behind_more (y ∷ earlier) ys i x (omega (arith, lt)) at

behind_next : (earlier xs : List Identifier) (i : ℕ) (x : Identifier) → i < length xs → x ≡ get_or xs i x → behind earlier (take (i + 1) xs) ≡ x ∷ behind earlier (take i xs)
behind_next earlier xs i x lt at = rw add-one (behind_more earlier xs i x lt at)

pub spelled_step : (earlier xs : List Identifier) (i : ℕ) (x : Identifier) (old new : List ℕ → Bool) → i < length xs → x ≡ get_or xs i x
    → ((q : List ℕ) → old q ≡ list_any (λ (j : Identifier). bytes_eq q j.name) (behind earlier (take i xs))) → ((q : List ℕ) → new q ≡ bytes_eq q x.name || old q)
    → (q : List ℕ) → new q ≡ list_any (λ (j : Identifier). bytes_eq q j.name) (behind earlier (take (i + 1) xs))
spelled_step earlier xs i x old new lt at so_far more q =
    more q ∙ ap (λ (b : Bool). bytes_eq q x.name || b) (so_far q) ∙ ap (λ (l : List Identifier). list_any (λ (j : Identifier). bytes_eq q j.name) l) (sym (behind_next earlier xs i x lt at))

pub spelled_end : (earlier xs : List Identifier) (i : ℕ) (old : List ℕ → Bool) → length xs ≤ i → ((q : List ℕ) → old q ≡ list_any (λ (j : Identifier). bytes_eq q j.name) (behind earlier (take i xs)))
    → (q : List ℕ) → old q ≡ list_any (λ (j : Identifier). bytes_eq q j.name) (behind earlier xs)
spelled_end earlier xs i old le so_far q = so_far q ∙ ap (λ (l : List Identifier). list_any (λ (j : Identifier). bytes_eq q j.name) (behind earlier l)) (take_all i xs le)

pub listed_step : (kind : CheckKind) (ms : List StateMember) (earlier xs : List Identifier) (i : ℕ) (x : Identifier) (old : List ℕ → Bool) (now new total : Option CheckFault) → i < length xs → x ≡ get_or xs i x
    → ((q : List ℕ) → old q ≡ list_any (λ (j : Identifier). bytes_eq q j.name) (behind earlier (take i xs)))
    → noting now (listed_wrong kind ms (behind earlier (take i xs)) (drop i xs)) ≡ total
    → new ≡ noting now (fault_if (not (list_any (is_called x) ms) || old x.name) kind x.place)
    → noting new (listed_wrong kind ms (behind earlier (take (i + 1) xs)) (drop (i + 1) xs)) ≡ total
listed_step kind ms earlier xs i x old now new total lt at noted so_far is =
    let front : List Identifier = behind earlier (take i xs) in
    let rest : List Identifier = drop (i + 1) xs in
    let own : List CheckFault = fault_if (not (list_any (is_called x) ms) || list_any (same_name x) front) kind x.place in
    let cut : drop i xs ≡ x ∷ drop (i + 1) xs = rw (add-one, drop-cons xs i x) (ap (λ (y : Identifier). y ∷ drop (suc i) xs) (sym at)) in
    let test : new ≡ noting now own = is ∙ ap (λ (b : Bool). noting now (fault_if (not (list_any (is_called x) ms) || b) kind x.place)) (noted x.name) in
    ap (λ (o : Option CheckFault). noting o (listed_wrong kind ms (behind earlier (take (i + 1) xs)) rest)) test
    ∙ ap (λ (l : List Identifier). noting (noting now own) (listed_wrong kind ms l rest)) (behind_next earlier xs i x lt at)
    ∙ sym (noting-append now own (listed_wrong kind ms (x ∷ front) rest))
    ∙ sym (ap (λ (l : List Identifier). noting now (listed_wrong kind ms front l)) cut)
    ∙ so_far

pub listed_end : (kind : CheckKind) (ms : List StateMember) (front xs : List Identifier) (i : ℕ) (now total : Option CheckFault) → length xs ≤ i → noting now (listed_wrong kind ms front (drop i xs)) ≡ total → now ≡ total
listed_end kind ms front xs i now total le so_far = sym (ap (λ (l : List Identifier). noting now (listed_wrong kind ms front l)) (drop_all i xs le)) ∙ so_far

-- ---- a list in two parts

two_parts : (kind : CheckKind) (ms : List StateMember) (earlier xs ys : List Identifier) → listed_wrong kind ms earlier (xs ++ ys) ≡ listed_wrong kind ms earlier xs ++ listed_wrong kind ms (behind earlier xs) ys
two_parts kind ms earlier [] ys = refl
two_parts kind ms earlier (x ∷ xs) ys =
    let own : List CheckFault = fault_if (not (list_any (is_called x) ms) || list_any (same_name x) earlier) kind x.place in
    ap (λ (l : List CheckFault). own ++ l) (two_parts kind ms (x ∷ earlier) xs ys)
    ∙ sym (append_assoc own (listed_wrong kind ms (x ∷ earlier) xs) (listed_wrong kind ms (behind (x ∷ earlier) xs) ys))

pub both_parts : (kind : CheckKind) (ms : List StateMember) (xs ys : List Identifier) (old middle new : Option CheckFault) → middle ≡ noting old (listed_wrong kind ms [] xs)
    → new ≡ noting middle (listed_wrong kind ms (behind [] xs) ys) → new ≡ noting old (listed_wrong kind ms [] (xs ++ ys))
both_parts kind ms xs ys old middle new first second =
    second ∙ ap (λ (o : Option CheckFault). noting o (listed_wrong kind ms (behind [] xs) ys)) first
    ∙ sym (noting-append old (listed_wrong kind ms [] xs) (listed_wrong kind ms (behind [] xs) ys))
    ∙ sym (ap (λ (l : List CheckFault). noting old l) (two_parts kind ms [] xs ys))

-- ---- what stands at the first place

there_from : {X : Type 0} (t : X → Bool) (xs : List X) (i p : ℕ) → position_from t i xs ≡ Some p → i ≤ p
there_from t [] i p h = absurd (cc)
there_from t (x ∷ xs) i p h = by (t x) h (there_from t xs (i + 1) p)
  where
    by : (b : Bool) → cond b (Some i) (position_from t (i + 1) xs) ≡ Some p → (position_from t (i + 1) xs ≡ Some p → i + 1 ≤ p) → i ≤ p
    by true e rest = let same : i ≡ p = cc in omega (arith, same)
    by false e rest = omega (arith, rest e)

-- what is found is read as what stands at its place
found_read : {X Z : Type 0} (t : X → Bool) (g : X → Z) (faults : Z → List CheckFault) (d : Z) (xs : List X) (i p : ℕ) → position_from t i xs ≡ Some (i + p) → given (find t xs) [] (λ x. faults (g x)) ≡ faults (get_or (map g xs) p d)
found_read t g faults d [] i p is = absurd (cc)
found_read t g faults d (x ∷ xs) i p is = by (t x) p is (λ q e. found_read t g faults d xs (i + 1) q e)
  where
    by : (b : Bool) (p : ℕ) → cond b (Some i) (position_from t (i + 1) xs) ≡ Some (i + p)
        → ((q : ℕ) → position_from t (i + 1) xs ≡ Some (i + 1 + q) → given (find t xs) [] (λ w. faults (g w)) ≡ faults (get_or (map g xs) q d))
        → given (cond b (Some x) (find t xs)) [] (λ w. faults (g w)) ≡ faults (get_or (g x ∷ map g xs) p d)
    by true zero e rest = refl
    by true (suc p) e rest = let eq : i ≡ i + suc p = cc in absurd (omega (arith, eq))
    by false zero e rest = let le : i + 1 ≤ i + 0 = there_from t xs (i + 1) (i + 0) e in absurd (omega (arith, le))
    by false (suc p) e rest = let moved : i + suc p ≡ i + 1 + p = omega arith in rest p (e ∙ ap (λ (n : ℕ). Some n) moved)

-- ---- keys

pub keyed_at : (all : List Declaration) (types : List PlainType) (ms : List StateMember) (kept : List StateEntry) (i : Identifier) (p : ℕ) → AreTypes all types ms kept
    → Some p ≡ position_from (is_called i) 0 ms → type_faults i (get_or (default_types types kept) p None) ≡ keyed_wrong all (standings all) ms i
keyed_at all types ms kept i p are is =
    let same : p ≡ 0 + p = omega arith in
    ap (λ (os : List (Option PlainType)). type_faults i (get_or os p None)) (are (λ _. []))
    ∙ sym (found_read (is_called i) (member_type all (standings all) (λ _. [])) (type_faults i) None ms 0 p (sym is ∙ ap (λ (n : ℕ). Some n) same))

-- what is kept at a place
pub type_at_place : (types : List PlainType) (kept : List StateEntry) (i : Identifier) (p : ℕ) (entry : StateEntry) → p < length kept → entry ≡ get_or kept p entry
    → fault_if (is_compound_kept types entry) KeyType i.place ≡ type_faults i (get_or (default_types types kept) p None)
type_at_place types kept i p entry lt at =
    let f : StateEntry → Option PlainType = type_kept types (λ _. []) in
    ap (λ (o : Option PlainType). type_faults i o) (ap f at ∙ sym (get_or-map f kept p entry None lt))

none_found : {X : Type 0} (t : X → Bool) (xs : List X) (i : ℕ) → position_from t i xs ≡ None → find t xs ≡ None
none_found t [] i h = refl
none_found t (x ∷ xs) i h = by (t x) h (none_found t xs (i + 1))
  where
    by : (b : Bool) → cond b (Some i) (position_from t (i + 1) xs) ≡ None → (position_from t (i + 1) xs ≡ None → find t xs ≡ None) → cond b (Some x) (find t xs) ≡ None
    by true e rest = absurd (cc)
    by false e rest = rest e

pub keyed_none : (all : List Declaration) (ms : List StateMember) (i : Identifier) → None ≡ position_from (is_called i) 0 ms → [] ≡ keyed_wrong all (standings all) ms i
keyed_none all ms i is = sym (ap (λ (o : Option StateMember). given o [] (λ m. fault_if (given (member_type all (standings all) (λ _. []) m) false (λ t. not (may_be_keyed t))) KeyType i.place)) (none_found (is_called i) ms 0 (sym is)))
