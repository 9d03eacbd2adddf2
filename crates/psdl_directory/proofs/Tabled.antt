-- Tables of the first of each key.
use Rattle.std.proofs.Common.{◌≡◌, ℕ, zero, suc, ◌+◌, ◌<◌, List, [], ◌∷◌, ◌++◌, length, take, get_or, Bool, true, false, cond, Option, Some, None, refl, sym, ap, ◌∙◌, arith, add-one, ◌==◌, ◌&&◌}
use Rattle.std.specs.List.{position_from}
use Rattle.std.specs.Cmp.{tied_then}
use Rattle.std.specs.Option.{option_cmp}
use Rattle.std.specs.Ordering.{is_eq, nat_cmp, ordering_then}
use Rattle.std.specs.BTreeMap.{BTreeMap}
use Rattle.std.proofs.lemmas.Bool.{and_parts, and_from, eqb-true, eq-eqb}
use Rattle.std.proofs.lemmas.List.{length-take-le}
use Rattle.psdl_directory.specs.declared.kind.KindNo.{KindNo}
use Rattle.psdl_directory.specs.declared.scoped.Scoped.{Scoped}
use Rattle.psdl_directory.specs.inner.Tables.{same_kinds, same_scoped, by_scope, after, Tabulates, IsEntered}

pub is_eq-nat_cmp : (x y : ℕ) → is_eq (nat_cmp x y) ≡ (x == y)
is_eq-nat_cmp x y = grind arith

kinds_are_one : (a b : Option KindNo) → same_kinds a b ≡ true → a ≡ b
kinds_are_one None None h = refl
kinds_are_one None (Some j) h = absurd (cc)
kinds_are_one (Some i) None h = absurd (cc)
kinds_are_one (Some i) (Some j) h = ap (λ (n : ℕ). Some (record { 0 = n })) (eqb-true i.0 j.0 h)

kind_is_itself : (a : Option KindNo) → same_kinds a a ≡ true
kind_is_itself None = refl
kind_is_itself (Some i) = eq-eqb i.0 i.0 refl

kind_ties : (a b : Option KindNo) → is_eq (option_cmp (λ i j. nat_cmp i.0 j.0) a b) ≡ same_kinds a b
kind_ties None None = refl
kind_ties None (Some j) = refl
kind_ties (Some i) None = refl
kind_ties (Some i) (Some j) = is_eq-nat_cmp i.0 j.0

pub ties : (k q : Scoped) → is_eq (by_scope k q) ≡ same_scoped k q
ties k q =
    sym (tied_then (nat_cmp k.scope q.scope) (ordering_then (option_cmp (λ i j. nat_cmp i.0 j.0) k.kind q.kind) (nat_cmp k.spelling q.spelling)))
    ∙ ap (λ (b : Bool). is_eq (nat_cmp k.scope q.scope) && b) (sym (tied_then (option_cmp (λ i j. nat_cmp i.0 j.0) k.kind q.kind) (nat_cmp k.spelling q.spelling)))
    ∙ rw (is_eq-nat_cmp k.scope q.scope, kind_ties k.kind q.kind, is_eq-nat_cmp k.spelling q.spelling) refl

pub one_key : (k q : Scoped) → same_scoped k q ≡ true → k ≡ q
one_key k q h =
    let both = and_parts (k.scope == q.scope) (same_kinds k.kind q.kind && (k.spelling == q.spelling)) h in
    let others = and_parts (same_kinds k.kind q.kind) (k.spelling == q.spelling) both.1 in
    let scope : k.scope ≡ q.scope = eqb-true k.scope q.scope both.0 in
    let kind : k.kind ≡ q.kind = kinds_are_one k.kind q.kind others.0 in
    let spelling : k.spelling ≡ q.spelling = eqb-true k.spelling q.spelling others.1 in
    ap (λ (s : ℕ). record { scope = s; kind = k.kind; spelling = k.spelling }) scope ∙ ap (λ (o : Option KindNo). record { scope = q.scope; kind = o; spelling = k.spelling }) kind
    ∙ ap (λ (s : ℕ). record { scope = q.scope; kind = q.kind; spelling = s }) spelling

pub own_key : (k : Scoped) → same_scoped k k ≡ true
own_key k =
    and_from (k.scope == k.scope) (same_kinds k.kind k.kind && (k.spelling == k.spelling)) (eq-eqb k.scope k.scope refl)
    (and_from (same_kinds k.kind k.kind) (k.spelling == k.spelling) (kind_is_itself k.kind) (eq-eqb k.spelling k.spelling refl))

turned_back : (k q : Scoped) → same_scoped k q ≡ true → same_scoped q k ≡ true
turned_back k q h = ap (λ (x : Scoped). same_scoped x k) (sym (one_key k q h)) ∙ own_key k

pub apart : (k q : Scoped) → same_scoped k q ≡ false → same_scoped q k ≡ false
apart k q h = by (same_scoped q k) refl
  where
    by : (b : Bool) → same_scoped q k ≡ b → b ≡ false
    by true e = let both : true ≡ false = sym (turned_back q k e) ∙ h in absurd (cc)
    by false e = refl

kept : (o : Option ℕ) (number : ℕ) → o ≡ after o false number
kept None number = refl
kept (Some i) number = refl

entered_at : (f g : Scoped → Option ℕ) (key q : Scoped) (number : ℕ) → f key ≡ None → g q ≡ cond (same_scoped key q) (Some number) (f q)
    → (b : Bool) → same_scoped key q ≡ b → g q ≡ after (f q) (same_scoped q key) number
entered_at f g key q number none updates true h =
    let is : key ≡ q = one_key key q h in
    updates ∙ rw (h, ← is, none, own_key key) refl
entered_at f g key q number none updates false h = updates ∙ rw (h, apart key q h) (kept (f q) number)

-- a key that was not there is entered
pub entered : (f g : Scoped → Option ℕ) (key : Scoped) (number : ℕ) → f key ≡ None → ((q : Scoped) → g q ≡ cond (is_eq (by_scope key q)) (Some number) (f q))
    → (q : Scoped) → g q ≡ after (f q) (same_scoped q key) number
entered f g key number none updates q = entered_at f g key q number none (updates q ∙ ap (λ (b : Bool). cond b (Some number) (f q)) (ties key q)) (same_scoped key q) refl

stays_at : (f : Scoped → Option ℕ) (key q : Scoped) (number i : ℕ) → f key ≡ Some i → (b : Bool) → same_scoped key q ≡ b → f q ≡ after (f q) (same_scoped q key) number
stays_at f key q number i some true h =
    let is : key ≡ q = one_key key q h in
    rw (← is, some) refl
stays_at f key q number i some false h = rw (apart key q h) (kept (f q) number)

-- a key that is there stays
pub stays : (f : Scoped → Option ℕ) (key : Scoped) (number i : ℕ) → f key ≡ Some i → (q : Scoped) → f q ≡ after (f q) (same_scoped q key) number
stays f key number i some q = stays_at f key q number i some (same_scoped key q) refl

at_head : {X : Type 0} (test : X → Bool) (i n : ℕ) (ys : List X) (x : X) (b : Bool) → position_from test (i + 1) (ys ++ x ∷ []) ≡ after (position_from test (i + 1) ys) (test x) n
    → cond b (Some i) (position_from test (i + 1) (ys ++ x ∷ [])) ≡ after (cond b (Some i) (position_from test (i + 1) ys)) (test x) n
at_head test i n ys x true h = refl
at_head test i n ys x false h = h

pub position-append : {X : Type 0} (test : X → Bool) (i n : ℕ) (xs : List X) (x : X) → n ≡ i + length xs → position_from test i (xs ++ x ∷ []) ≡ after (position_from test i xs) (test x) n
position-append test i n [] x e =
    let same : n ≡ i = omega arith in
    rw same refl
position-append test i n (y ∷ ys) x e = at_head test i n ys x (test y) (position-append test (i + 1) n ys x (omega arith))

pub take_more : {X : Type 0} (xs : List X) (i : ℕ) (d : X) → i < length xs → take (i + 1) xs ≡ take i xs ++ get_or xs i d ∷ []
take_more {X} [] i d lt = absurd (omega (arith, lt))
take_more {X} (x ∷ xs) zero d lt = refl
take_more (x ∷ xs) (suc i) d lt =
    let more : take (suc i) xs ≡ take i xs ++ get_or xs i d ∷ [] = rw add-one at (take_more xs i d (omega (arith, lt))) in
    rw (add-one (suc i)) (ap (λ l. x ∷ l) more)

pub one_more : (old new : BTreeMap Scoped ℕ) (all : List Scoped) (i : ℕ) (d : Scoped) → i < length all → Tabulates old (take i all) → IsEntered old new (get_or all i d) i → Tabulates new (take (i + 1) all)
one_more old new all i d0 lt so_far step q =
    let d : Scoped = get_or all i d0 in
    let front : List Scoped = take i all in
    let more : take (i + 1) all ≡ front ++ d ∷ [] = take_more all i d0 lt in
    let len : i ≡ 0 + length front = rw (length-take-le i all (omega (arith, lt))) (omega arith) in
    step q ∙ rw (so_far q, more) (sym (position-append (same_scoped q) 0 i front d len))
