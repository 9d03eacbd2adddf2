-- What holders and reservations come to be, and one key after the other.
use Rattle.std.proofs.Common.{ℕ, ◌≡◌, List, ◌∷◌, Some, None, Bool, true, false, cond, refl, sym, ap, ◌∙◌, IsTrue, rules, Result, Ok, Err, OnOk, OnErr, IfOk}
use Rattle.std.specs.Prelude.{◌&&◌, ◌||◌, not}
use Rattle.std.specs.Ordering.{nat_cmp}
use Rattle.std.specs.Cmp.Lexicographic.{slice_cmp, texts_ties, nat_list_cmp_total, nat_list_eq_equiv}
use Rattle.std.specs.Str.{bytes_eq}
use Rattle.std.specs.FinMap as map
use Rattle.std.specs.FinSet as set_of
use Rattle.type_layout.specs.declared.key.KeyNo.{KeyNo}
use Rattle.storage_home.specs.Indexes.{is_pair, lists}
use Rattle.storage_home.proofs.Places.{by_test}

-- ---- what is taken, put and reserved

pub held_without : (m : map.FinMap (slice_cmp nat_cmp) ℕ) (bytes q : List ℕ) → map.get (map.remove m bytes) q ≡ cond (bytes_eq q bytes) None (map.get m q)
held_without m bytes q = map.get-remove nat_list_cmp_total m bytes q ∙ ap (λ b. cond b None (map.get m q)) (sym (texts_ties q bytes))

pub held_with : (m : map.FinMap (slice_cmp nat_cmp) ℕ) (bytes : List ℕ) (serial : ℕ) (q : List ℕ) → map.get (map.insert m bytes serial) q ≡ cond (bytes_eq q bytes) (Some serial) (map.get m q)
held_with m bytes serial q = map.get-insert nat_list_cmp_total m bytes serial q ∙ ap (λ b. cond b (Some serial) (map.get m q)) (sym (texts_ties q bytes))

pub reserved_with : (m : set_of.FinSet (slice_cmp nat_cmp)) (bytes q : List ℕ) → set_of.contains (set_of.insert m bytes) q ≡ cond (bytes_eq q bytes) true (set_of.contains m q)
reserved_with m bytes q =
    set_of.contains-insert nat_list_cmp_total m bytes q ∙ ap (λ b. b || set_of.contains m q) (sym (texts_ties q bytes))
    ∙ by_test (λ b. (b || set_of.contains m q) ≡ cond b true (set_of.contains m q)) (bytes_eq q bytes) (λ _. refl) (λ _. refl)

pub reserved_without : (m : set_of.FinSet (slice_cmp nat_cmp)) (bytes q : List ℕ) → set_of.contains (set_of.remove m bytes) q ≡ cond (bytes_eq q bytes) false (set_of.contains m q)
reserved_without m bytes q =
    set_of.contains-remove nat_list_cmp_total m bytes q ∙ ap (λ b. not b && set_of.contains m q) (sym (texts_ties q bytes))
    ∙ by_test (λ b. (not b && set_of.contains m q) ≡ cond b false (set_of.contains m q)) (bytes_eq q bytes) (λ _. refl) (λ _. refl)

-- a reserved key stays reserved where one more is
pub stays_true : (b r : Bool) → IsTrue r → IsTrue (cond b true r)
stays_true true r h = search rules
stays_true false r h = h

-- ---- one key after the other

one_then_rest : {A : Type 0} (b r : Bool) (w x : A) → cond r w (cond b w x) ≡ cond (b || r) w x
one_then_rest true true w x = refl
one_then_rest true false w x = refl
one_then_rest false r w x = refl

-- what is left to be made of all keys, after the first of them
pub turn_on :
    {A : Type 0} (pairs rest : List (KeyNo × List ℕ)) (pair : KeyNo × List ℕ) (w : A) (key : ℕ) (q : List ℕ) (now new target : A) → pairs ≡ pair ∷ rest → new ≡ cond (is_pair pair key q) w now
    → cond (lists pairs key q) w now ≡ target → cond (lists rest key q) w new ≡ target
turn_on pairs rest pair w key q now new target are turned before =
    ap (cond (lists rest key q) w) turned ∙ one_then_rest (is_pair pair key q) (lists rest key q) w now ∙ ap (λ ps. cond (lists ps key q) w now) (sym are) ∙ before

pub same_bytes_turned : (a b : List ℕ) → bytes_eq a b ≡ bytes_eq b a
same_bytes_turned a b = nat_list_eq_equiv.symm a b

-- ---- both outcomes

pub on_ok : {A E P Q : Type 0} (r : Result A E) → (P → Q) → OnOk r P → OnOk r Q
on_ok (Ok a) f p = f p
on_ok (Err e) f p = p

pub on_err : {A E P Q : Type 0} (r : Result A E) → (P → Q) → OnErr r P → OnErr r Q
on_err (Ok a) f p = p
on_err (Err e) f p = f p

pub on_either : {A E P Q R : Type 0} (r : Result A E) → OnOk r P → OnErr r Q → (P → R) → (Q → R) → R
on_either (Ok a) p q f g = f p
on_either (Err e) p q f g = g q

pub if_ok : {A E : Type 0} {P Q : A → Type 0} (r : Result A E) → ((a : A) → P a → Q a) → IfOk r P → IfOk r Q
if_ok (Ok a) f p = f a p
if_ok (Err e) f p = p

pub on_both : {A E P : Type 0} (r : Result A E) → OnOk r P → OnErr r P → P
on_both (Ok a) p q = p
on_both (Err e) p q = q
