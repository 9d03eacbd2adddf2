-- Entries come to those of their names, declaration by declaration.
use Rattle.std.proofs.Common.{◌≡◌, ◌∙◌, ℕ, zero, suc, ◌+◌, ◌<◌, ◌≤◌, List, [], ◌∷◌, ◌++◌, Bool, true, false, ◌==◌, if◌then◌else◌, ◌||◌, ◌&&◌, length, map, take, get_or, nat_lt, ltb-true, ltb-false, refl, sym, ap, arith, ⊎_elim, get_or-set_same, get_or-set_other}
use Rattle.std.proofs.Math.ListN.{set}
use Rattle.std.specs.declared.vec.Vec.{Vec}
use Rattle.std.proofs.lemmas.Bool.{cases_order, eqb-true, eq-eqb, ne_eqb, lt-ltb, le-ltb}
use Rattle.std.proofs.lemmas.List.{map-set, take_all}
use Rattle.std.proofs.lemmas.List.Folds.{list_any-append, list_any_more}
use Rattle.psdl_members.specs.declared.claims.Claim.{Claim}
use Rattle.psdl_members.specs.declared.entry.Entry.{Entry}
use Rattle.psdl_members.specs.declared.rows.Rows.{Rows}
use Rattle.psdl_members.specs.inner.Claims.{claims_in, has_claim, has_named, HasMore, AreClaims}
use Rattle.psdl_members.specs.inner.Rowed.{row_of}

-- ---- tables

held_at : {Z : Type 0} (lists : List (Vec Claim Z)) (i : ℕ) (d : Vec Claim Z) → i < length lists → claims_in lists i ≡ (get_or lists i d).items
held_at [] i d lt = absurd (omega (arith, lt))
held_at (l ∷ ls) zero d lt = refl
held_at (l ∷ ls) (suc i) d lt = held_at ls i d (omega (arith, lt))

length_of : {Z : Type 0} (lists : List (Vec Claim Z)) → length (map (λ v. v.items) lists) ≡ length lists
length_of [] = refl
length_of (l ∷ ls) = ap suc (length_of ls)

put_at : (ls : List (List Claim)) (i n : ℕ) (x : List Claim) → i < length ls → (b : Bool) → (i == n) ≡ b → get_or (set ls i x) n [] ≡ if b then x else get_or ls n []
put_at ls i n x lt true h = ap (λ m. get_or (set ls i x) m []) (sym (eqb-true i n h)) ∙ get_or-set_same ls i x [] lt
put_at ls i n x lt false h = get_or-set_other ls i n x [] (λ e. cc (eq-eqb i n (sym e)))

pub claim_put : {Z : Type 0} (lists : List (Vec Claim Z)) (i : ℕ) (v d : Vec Claim Z) (claim : Claim) → i < length lists → d ≡ get_or lists i d → v.items ≡ d.items ++ claim ∷ []
    → (n : ℕ) → claims_in (set lists i v) n ≡ if i == n then claims_in lists n ++ claim ∷ [] else claims_in lists n
claim_put {Z} lists i v d claim lt is e n =
    ap (λ ls. get_or ls n []) (map-set (λ (l : Vec Claim Z). l.items) lists i v) ∙ put_at (map (λ l. l.items) lists) i n v.items (omega (arith, lt, length_of lists)) (i == n) refl
    ∙ by (i == n) refl
  where
    here : v.items ≡ claims_in lists i ++ claim ∷ []
    here = e ∙ ap (λ (l : Vec Claim Z). l.items ++ claim ∷ []) is ∙ ap (λ l. l ++ claim ∷ []) (sym (held_at lists i d lt))

    by : (b : Bool) → (i == n) ≡ b → (if b then v.items else claims_in lists n) ≡ if b then claims_in lists n ++ claim ∷ [] else claims_in lists n
    by true h = here ∙ ap (λ m. claims_in lists m ++ claim ∷ []) (eqb-true i n h)
    by false h = refl

pub claims_at : {Z : Type 0} (lists : List (Vec Claim Z)) (i : ℕ) (v : Vec Claim Z) → true ≡ nat_lt i (length lists) → v ≡ get_or lists i v → v.items ≡ claims_in lists i
claims_at {Z} lists i v there is = ap (λ (l : Vec Claim Z). l.items) is ∙ sym (held_at lists i v (ltb-true i (length lists) (sym there)))

pub none_past : {Z : Type 0} (lists : List (Vec Claim Z)) (i : ℕ) → false ≡ nat_lt i (length lists) → claims_in lists i ≡ []
none_past [] i none = refl
none_past (v ∷ lists) zero none = absurd (omega (arith, ltb-false 0 (length (v ∷ lists)) (sym none)))
none_past (v ∷ lists) (suc i) none = past lists i (omega (arith, ltb-false (suc i) (length (v ∷ lists)) (sym none)))
  where
    past : {Y : Type 0} (ls : List (Vec Claim Y)) (j : ℕ) → length ls ≤ j → claims_in ls j ≡ []
    past [] j le = refl
    past (l ∷ ls) zero le = absurd (omega (arith, le))
    past (l ∷ ls) (suc j) le = past ls j (omega (arith, le))

-- ---- the entries of a declaration

or_false : (b : Bool) → (b || false) ≡ b
or_false true = refl
or_false false = refl

or_never : (a b : Bool) → a ≡ (a || (b && false))
or_never true b = refl
or_never false true = refl
or_never false false = refl

or_both : (a d x y : Bool) → ((a || (d && x)) || (d && y)) ≡ (a || (d && (x || y)))
or_both true d x y = refl
or_both false true x y = refl
or_both false false x y = refl

pub no_more : {Z : Type 0} (before : List (Vec Claim Z)) (declaration : ℕ) (es : List Entry) → HasMore before before declaration (take 0 es)
no_more before declaration [] n d test = or_never (has_claim (claims_in before n) d test) (declaration == d)
no_more before declaration (e ∷ es) n d test = or_never (has_claim (claims_in before n) d test) (declaration == d)

has_one : (cs : List Claim) (c : Claim) (b : Bool) (d : ℕ) (test : Entry → Bool) → has_claim (if b then cs ++ c ∷ [] else cs) d test ≡ (has_claim cs d test || (c.declaration == d && (b && test c.entry)))
has_one cs c true d test = list_any-append (λ (x : Claim). x.declaration == d && test x.entry) cs (c ∷ []) ∙ ap (λ (b : Bool). has_claim cs d test || b) (or_false (c.declaration == d && test c.entry))
has_one cs c false d test = or_never (has_claim cs d test) (c.declaration == d)

pub one_more : {Y Z : Type 0} (before : List (Vec Claim Y)) (old new : List (Vec Claim Z)) (declaration : ℕ) (es : List Entry) (i : ℕ) (e : Entry) → i < length es
    → ((n : ℕ) → claims_in new n ≡ if (get_or es i e).name == n then claims_in old n ++ record { declaration = declaration; entry = get_or es i e } ∷ [] else claims_in old n)
    → HasMore before old declaration (take i es) → HasMore before new declaration (take (i + 1) es)
one_more before old new declaration es i e lt put so_far n d test =
    let entry : Entry = get_or es i e in
    let claim : Claim = record { declaration = declaration; entry = entry } in
    ap (λ (l : List Claim). has_claim l d test) (put n)
    ∙ has_one (claims_in old n) claim (entry.name == n) d test
    ∙ ap (λ (b : Bool). b || (declaration == d && (entry.name == n && test entry))) (so_far n d test)
    ∙ or_both (has_claim (claims_in before n) d test) (declaration == d) (has_named n test (take i es)) (entry.name == n && test entry)
    ∙ ap (λ (b : Bool). has_claim (claims_in before n) d test || (declaration == d && b)) (sym (list_any_more (λ (x : Entry). x.name == n && test x) es i e lt))

pub all_more : {Y Z : Type 0} (before : List (Vec Claim Y)) (now : List (Vec Claim Z)) (declaration : ℕ) (es : List Entry) (i : ℕ) → length es ≤ i → HasMore before now declaration (take i es) → HasMore before now declaration es
all_more before now declaration es i past more n d test =
    more n d test ∙ ap (λ (l : List Entry). has_claim (claims_in before n) d test || (declaration == d && has_named n test l)) (take_all i es past)

-- ---- all of them

-- those of the first so many declarations
abbrev pub AreFirst : {Z : Type 0} → Rows → ℕ → List (Vec Claim Z) → Type 0
AreFirst rows i claims = (n d : ℕ) (test : Entry → Bool) → has_claim (claims_in claims n) d test ≡ (nat_lt d i && has_named n test (row_of rows d))

pub no_rows : {Z : Type 0} (rows : Rows) (claims : List (Vec Claim Z)) → ((n : ℕ) → claims_in claims n ≡ []) → AreFirst rows 0 claims
no_rows rows claims none n d test = ap (λ (l : List Claim). has_claim l d test) (none n) ∙ sym (ap (λ (b : Bool). b && has_named n test (row_of rows d)) (le-ltb d 0 (omega arith)))

pub row_more : {Z : Type 0} (rows : Rows) (old new : List (Vec Claim Z)) (i : ℕ) → AreFirst rows i old → HasMore old new i (row_of rows i) → AreFirst rows (i + 1) new
row_more rows old new i so_far more n d test =
    let row : ℕ → Bool = λ m. has_named n test (row_of rows m) in
    more n d test
    ∙ ap (λ (b : Bool). b || (i == d && row i)) (so_far n d test)
    ∙ ⊎_elim
    (λ same.
    ap (λ (b : Bool). (b && row d) || (i == d && row i)) (le-ltb d i (omega (arith, same)))
    ∙ ap (λ (b : Bool). b && row i) (eq-eqb i d (sym same))
    ∙ ap row (sym same)
    ∙ sym (ap (λ (b : Bool). b && row d) (lt-ltb d (i + 1) (omega (arith, same)))))
    (λ apart.
    ⊎_elim
    (λ lt.
    ap (λ (b : Bool). (b && row d) || (i == d && row i)) (lt-ltb d i lt)
    ∙ ap (λ (b : Bool). row d || (b && row i)) (ne_eqb i d (λ same. absurd (omega (arith, lt, same))))
    ∙ or_false (row d)
    ∙ sym (ap (λ (b : Bool). b && row d) (lt-ltb d (i + 1) (omega (arith, lt)))))
    (λ gt.
    ap (λ (b : Bool). (b && row d) || (i == d && row i)) (le-ltb d i (omega (arith, gt)))
    ∙ ap (λ (b : Bool). b && row i) (ne_eqb i d (λ same. absurd (omega (arith, gt, same))))
    ∙ sym (ap (λ (b : Bool). b && row d) (le-ltb d (i + 1) (omega (arith, gt)))))
    apart)
    (cases_order d i)

pub rows_all : {Z : Type 0} (rows : Rows) (claims : List (Vec Claim Z)) (i : ℕ) → ((n : ℕ) → i ≤ n → row_of rows n ≡ []) → AreFirst rows i claims → AreClaims rows claims
rows_all rows claims i none first n d test =
    first n d test
    ∙ ⊎_elim
    (λ same. past (omega (arith, same)))
    (λ apart. ⊎_elim (λ lt. ap (λ (b : Bool). b && has_named n test (row_of rows d)) (lt-ltb d i lt)) (λ gt. past (omega (arith, gt))) apart)
    (cases_order d i)
  where
    past : i ≤ d → (nat_lt d i && has_named n test (row_of rows d)) ≡ has_named n test (row_of rows d)
    past le = ap (λ (b : Bool). b && has_named n test (row_of rows d)) (le-ltb d i le) ∙ sym (ap (λ (l : List Entry). has_named n test l) (none d le))
