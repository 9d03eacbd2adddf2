-- What bodies have of a group, entry by entry and name by name.
use Rattle.std.proofs.Common.{◌≡◌, ◌∙◌, ℕ, zero, suc, ◌+◌, ◌<◌, ◌≤◌, List, [], ◌∷◌, Bool, true, false, not, ◌==◌, ◌||◌, ◌&&◌, length, length-set, take, get_or, refl, sym, ap, subst, arith, ⊎_elim, get_or-set_same, get_or-set_other}
use Rattle.std.specs.List.{list_any}
use Rattle.std.proofs.Math.ListN.{replicate, set}
use Rattle.std.specs.declared.vec.Vec.{Vec}
use Rattle.std.proofs.lemmas.Bool.{cases_eq, eqb-true, eq-eqb, ne_eqb, and_parts, or_left, or_right}
use Rattle.std.proofs.lemmas.List.{take_all, length-replicate}
use Rattle.std.proofs.lemmas.List.Folds.{list_any_more}
use Rattle.psdl_lineage.specs.Descent.{has}
use Rattle.psdl_lineage.proofs.Repeats.{turned}
use Rattle.psdl_members.specs.declared.claims.Claim.{Claim}
use Rattle.psdl_members.specs.declared.entry.Entry.{Entry}
use Rattle.psdl_members.specs.declared.group.Group.{Group}
use Rattle.psdl_members.specs.declared.rows.Rows.{Rows}
use Rattle.psdl_members.specs.declared.seen.Seen.{Seen}
use Rattle.psdl_members.specs.inner.Bits.{answer_at}
use Rattle.psdl_members.specs.inner.Claims.{claims_in, has_claim, AreClaims}
use Rattle.psdl_members.specs.inner.Clashing.{entries_clash}
use Rattle.psdl_members.specs.inner.Rowed.{row_of}
use Rattle.psdl_members.specs.inner.Seeing.{AreSeen, IsGroup, IsSeen, Sight, are_same, nothing, seen_at}
use Rattle.psdl_members.proofs.Bits.{replicated}
use Rattle.psdl_members.proofs.Pairs.{any_same}
use Rattle.psdl_members.proofs.Sights.{Join, nothing_seen, seen_alike}

all_alike : (seen : List Seen) (es : List Entry) (here there : ℕ → Sight) → ((n : ℕ) (test : Entry → Bool) → here n test ≡ there n test) → AreSeen seen es here → AreSeen seen es there
all_alike seen es here there alike are n lt = seen_alike (seen_at seen n) es (here n) (there n) (alike n) (are n lt)

or_none : (b : Bool) → b ≡ (b || false)
or_none true = refl
or_none false = refl

or_assoc : (a b c : Bool) → ((a || b) || c) ≡ (a || (b || c))
or_assoc true b c = refl
or_assoc false b c = refl

-- ---- one sees more

pub past_seen : (seen : List Seen) (number : ℕ) → length seen ≤ number → (es : List Entry) (some : ℕ → Sight) (there : Sight) → AreSeen seen es some → AreSeen seen es (λ n test. some n test || (number == n && there test))
past_seen seen number past es some there are n lt =
    seen_alike (seen_at seen n) es (some n) (λ test. some n test || (number == n && there test))
    (λ test. or_none (some n test) ∙ ap (λ (b : Bool). some n test || (b && there test)) (sym (ne_eqb number n (λ same. absurd (omega (arith, lt, past, same))))))
    (are n lt)

pub put_seen : (seen : List Seen) (number : ℕ) (was also all : Seen) → number < length seen → was ≡ seen_at seen number → Join was also all → (es : List Entry) (some : ℕ → Sight) (there : Sight) → AreSeen seen es some → IsSeen also es there
    → AreSeen (set seen number all) es (λ n test. some n test || (number == n && there test))
put_seen seen number was also all room is join es some there are here n lt =
    let now : ℕ → Sight = λ m test. some m test || (number == m && there test) in
    let before : IsSeen was es (some number) = subst (λ (s : Seen). IsSeen s es (some number)) (sym is) (are number room) in
    ⊎_elim
    (λ same.
    subst (λ (m : ℕ). IsSeen (seen_at (set seen number all) m) es (now m)) (sym same)
    (subst (λ (s : Seen). IsSeen s es (now number)) (sym (get_or-set_same seen number all nothing room))
    (seen_alike all es (λ test. some number test || there test) (now number) (λ test. ap (λ (b : Bool). some number test || (b && there test)) (sym (eq-eqb number number refl))) (join es (some number) there before here))))
    (λ differ.
    subst (λ (s : Seen). IsSeen s es (now n)) (sym (get_or-set_other seen number n all nothing differ))
    (seen_alike (seen_at seen n) es (some n) (now n)
    (λ test. or_none (some n test) ∙ ap (λ (b : Bool). some n test || (b && there test)) (sym (ne_eqb number n (λ same. absurd (differ (sym same))))))
    (are n (omega (arith, lt, length-set seen number all)))))
    (cases_eq n number)

-- ---- the entries of one name

pub no_claims_shown : (seen : List Seen) (es : List Entry) (some : ℕ → Sight) (cs : List Claim) → AreSeen seen es some → AreSeen seen es (λ n test. some n test || has_claim (take 0 cs) n test)
no_claims_shown seen es some [] are = all_alike seen es some (λ n test. some n test || false) (λ n test. or_none (some n test)) are
no_claims_shown seen es some (c ∷ cs) are = all_alike seen es some (λ n test. some n test || false) (λ n test. or_none (some n test)) are

pub claim_shown : (seen : List Seen) (es : List Entry) (some : ℕ → Sight) (cs : List Claim) (i : ℕ) (d : Claim) → i < length cs
    → AreSeen seen es (λ n test. (some n test || has_claim (take i cs) n test) || ((get_or cs i d).declaration == n && test (get_or cs i d).entry)) → AreSeen seen es (λ n test. some n test || has_claim (take (i + 1) cs) n test)
claim_shown seen es some cs i d lt are =
    let claim : Claim = get_or cs i d in
    all_alike seen es (λ n test. (some n test || has_claim (take i cs) n test) || (claim.declaration == n && test claim.entry)) (λ n test. some n test || has_claim (take (i + 1) cs) n test)
    (λ n test.
    or_assoc (some n test) (has_claim (take i cs) n test) (claim.declaration == n && test claim.entry)
    ∙ ap (λ (b : Bool). some n test || b) (sym (list_any_more (λ (c : Claim). c.declaration == n && test c.entry) cs i d lt)))
    are

pub claims_shown : (seen : List Seen) (es : List Entry) (some : ℕ → Sight) (cs : List Claim) (i : ℕ) → length cs ≤ i → AreSeen seen es (λ n test. some n test || has_claim (take i cs) n test) → AreSeen seen es (λ n test. some n test || has_claim cs n test)
claims_shown seen es some cs i past are =
    all_alike seen es (λ n test. some n test || has_claim (take i cs) n test) (λ n test. some n test || has_claim cs n test) (λ n test. ap (λ (l : List Claim). some n test || has_claim l n test) (take_all i cs past)) are

-- ---- the names

-- an entry that has one of these names passes a test
abbrev pub has_of : List ℕ → (Entry → Bool) → List Entry → Bool
has_of names test es = list_any (λ e. has names e.name && test e) es

none_of : (names : List ℕ) (test : Entry → Bool) (es : List Entry) → false ≡ has_of (take 0 names) test es
none_of [] test [] = refl
none_of [] test (e ∷ es) = none_of [] test es
none_of (n ∷ ns) test [] = refl
none_of (n ∷ ns) test (e ∷ es) = none_of (n ∷ ns) test es

pub no_names_shown : (seen : List Seen) (es : List Entry) (rows : Rows) (names : List ℕ) → AreSeen seen es (λ n test. false) → AreSeen seen es (λ n test. has_of (take 0 names) test (row_of rows n))
no_names_shown seen es rows names are = all_alike seen es (λ n test. false) (λ n test. has_of (take 0 names) test (row_of rows n)) (λ n test. none_of names test (row_of rows n)) are

shuffled : (a b c d : Bool) → ((a || b) || (c || d)) ≡ ((a || c) || (b || d))
shuffled true b c d = refl
shuffled false true true d = refl
shuffled false true false d = refl
shuffled false false c d = refl

any_or : (f g : Entry → Bool) (es : List Entry) → (list_any f es || list_any g es) ≡ list_any (λ e. f e || g e) es
any_or f g [] = refl
any_or f g (e ∷ es) = shuffled (f e) (list_any f es) (g e) (list_any g es) ∙ ap (λ (b : Bool). (f e || g e) || b) (any_or f g es)

and_or : (a b t : Bool) → ((a && t) || (b && t)) ≡ ((a || b) && t)
and_or true true true = refl
and_or true true false = refl
and_or true false true = refl
and_or true false false = refl
and_or false b t = refl

pub name_shown : {Z : Type 0} (seen : List Seen) (es : List Entry) (rows : Rows) (claims : List (Vec Claim Z)) (names : List ℕ) (i : ℕ) → i < length names → AreClaims rows claims
    → AreSeen seen es (λ n test. has_of (take i names) test (row_of rows n) || has_claim (claims_in claims (get_or names i 0)) n test) → AreSeen seen es (λ n test. has_of (take (i + 1) names) test (row_of rows n))
name_shown seen es rows claims names i lt are_claims are =
    let name : ℕ = get_or names i 0 in
    all_alike seen es (λ n test. has_of (take i names) test (row_of rows n) || has_claim (claims_in claims name) n test) (λ n test. has_of (take (i + 1) names) test (row_of rows n))
    (λ n test.
    ap (λ (b : Bool). has_of (take i names) test (row_of rows n) || b) (are_claims name n test)
    ∙ any_or (λ (e : Entry). has (take i names) e.name && test e) (λ (e : Entry). e.name == name && test e) (row_of rows n)
    ∙ any_same (λ (e : Entry). (has (take i names) e.name && test e) || (e.name == name && test e)) (λ (e : Entry). has (take (i + 1) names) e.name && test e)
    (λ e.
    and_or (has (take i names) e.name) (e.name == name) (test e)
    ∙ ap (λ (b : Bool). (has (take i names) e.name || b) && test e) (turned e.name name)
    ∙ ap (λ (b : Bool). b && test e) (sym (list_any_more (λ m. m == e.name) names i 0 lt)))
    (row_of rows n))
    are

pub names_shown : (seen : List Seen) (es : List Entry) (rows : Rows) (names : List ℕ) (i : ℕ) → length names ≤ i → AreSeen seen es (λ n test. has_of (take i names) test (row_of rows n)) → AreSeen seen es (λ n test. has_of names test (row_of rows n))
names_shown seen es rows names i past are =
    all_alike seen es (λ n test. has_of (take i names) test (row_of rows n)) (λ n test. has_of names test (row_of rows n)) (λ n test. ap (λ (l : List ℕ). has_of l test (row_of rows n)) (take_all i names past)) are

-- ---- all that they have

answers_within : (es : List Entry) (f g : Entry → Bool) → ((e : Entry) → list_any (λ x. x.name == e.name) es ≡ true → f e ≡ g e) → (k : ℕ) → answer_at es f k ≡ answer_at es g k
answers_within [] f g alike k = refl
answers_within (e ∷ es) f g alike zero = alike e (or_left (e.name == e.name) (list_any (λ (x : Entry). x.name == e.name) es) (eq-eqb e.name e.name refl))
answers_within (e ∷ es) f g alike (suc k) = answers_within es f g (λ y there. alike y (or_right (e.name == y.name) (list_any (λ (x : Entry). x.name == y.name) es) there)) k

guarded : (h s : Bool) → (s ≡ true → h ≡ true) → (h && s) ≡ s
guarded true s on = refl
guarded false true on = on refl
guarded false false on = refl

-- other names do not matter
pub all_shown : (group : Group) (seen : List Seen) (es : List Entry) (rows : Rows) → IsGroup group es → AreSeen seen es (λ n test. has_of group.heads.items test (row_of rows n)) → AreSeen seen es (λ n test. list_any test (row_of rows n))
all_shown group seen es rows w are n lt =
    record {
      same = λ k low.
          (are n lt).same k low
          ∙ answers_within es (λ e. has_of names (are_same e) row) (λ e. list_any (are_same e) row)
          (λ e there. by e there (λ x. e.list == x.list)) k;
      other = λ k low.
          (are n lt).other k low
          ∙ answers_within es (λ e. has_of names (entries_clash e) row) (λ e. list_any (entries_clash e) row)
          (λ e there. by e there (λ x. not (e.list == x.list))) k;
    }
  where
    names : List ℕ
    names = group.heads.items

    row : List Entry
    row = row_of rows n

    by : (e : Entry) → list_any (λ x. x.name == e.name) es ≡ true → (more : Entry → Bool) → has_of names (λ x. e.name == x.name && more x) row ≡ list_any (λ x. e.name == x.name && more x) row
    by e there more =
        any_same (λ (x : Entry). has names x.name && (e.name == x.name && more x)) (λ (x : Entry). e.name == x.name && more x)
        (λ x.
        guarded (has names x.name) (e.name == x.name && more x)
        (λ t. ap (has names) (sym (eqb-true e.name x.name (and_parts (e.name == x.name) (more x) t).0)) ∙ w.heads e.name there))
        row

pub filled_length : (seen : List Seen) (count : ℕ) (with_ : Seen) → seen ≡ replicate count with_ → length seen ≡ count
filled_length seen count with_ is = ap (λ (l : List Seen). length l) is ∙ length-replicate count with_

pub nothing_shown : (count : ℕ) (es : List Entry) → AreSeen (replicate count nothing) es (λ n test. false)
nothing_shown count es n lt = subst (λ (s : Seen). IsSeen s es (λ test. false)) (sym (replicated count n nothing)) (nothing_seen es)
