-- Names that come with more than one list, and entries that clash.
use Rattle.std.proofs.Common.{◌≡◌, ℕ, zero, suc, ◌+◌, ◌-◌, ◌<◌, ◌≤◌, ◌≢◌, nat_lt, cond, List, [], ◌∷◌, ◌++◌, Bool, true, false, not, ◌==◌, ◌&&◌, length, take, drop, get_or, filter, refl, sym, ap, ◌∙◌, arith, ⊎_elim, get_or-set_same, get_or-set_other}
use Rattle.std.specs.Prelude.{nat_le}
use Rattle.std.specs.List.{list_all, flat_map}
use Rattle.std.proofs.Math.ListN.{set}
use Rattle.std.proofs.lemmas.Bool.{cases_Bool, eqb-true, eq-eqb, ltb-true, lt-ltb, and_from}
use Rattle.std.proofs.lemmas.List.Folds.{list_all-append}
use Rattle.psdl_lineage.proofs.Listing.{take_more}
use Rattle.psdl_members.specs.declared.contested.Lists.{Lists}
use Rattle.psdl_members.specs.declared.contested.Lists.TheVariants.{Nothing, One, Several}
use Rattle.psdl_members.specs.declared.entry.Entry.{Entry}
use Rattle.psdl_members.specs.inner.Clashing.{some_clash, entries_clash}
use Rattle.psdl_members.specs.inner.Contested.{covers, are_several, is_covered, is_contested}
use Rattle.psdl_members.specs.inner.Flat.{piece, piece_of}
use Rattle.psdl_members.proofs.Pairs.{kept_clash, filter_flat, both}
use Rattle.psdl_members.proofs.Rowing.{flat_same, get_or_any}

-- ---- one name more

-- the lists of one name change, so that they cover all that they covered
still : (lists : List Lists) (name : ℕ) (new : Lists) → name < length lists → ((other : ℕ) → covers (get_or lists name Nothing) other ≡ true → covers new other ≡ true)
    → (e : Entry) → is_covered lists e ≡ true → is_covered (set lists name new) e ≡ true
still lists name new lt more e h =
    ⊎_elim
    (λ t.
    let same : e.name ≡ name = eqb-true e.name name t in
    let here : covers (get_or lists name Nothing) e.list ≡ true = ap (λ n. covers (get_or lists n Nothing) e.list) (sym same) ∙ h in
    ap (λ n. covers (get_or (set lists name new) n Nothing) e.list) same
    ∙ ap (λ l. covers l e.list) (get_or-set_same lists name new Nothing lt)
    ∙ more e.list here)
    (λ f.
    let other : e.name ≢ name = λ s. cc (eq-eqb e.name name s) in
    ap (λ l. covers l e.list) (get_or-set_other lists name e.name new Nothing other) ∙ h)
    (cases_Bool (e.name == name))

all_still : (lists : List Lists) (name : ℕ) (new : Lists) → name < length lists → ((other : ℕ) → covers (get_or lists name Nothing) other ≡ true → covers new other ≡ true)
    → (es : List Entry) → list_all (is_covered lists) es ≡ true → list_all (is_covered (set lists name new)) es ≡ true
all_still lists name new lt more [] h = refl
all_still lists name new lt more (e ∷ es) h =
    let parts = both (is_covered lists e) (list_all (is_covered lists) es) h in
    and_from (is_covered (set lists name new) e) (list_all (is_covered (set lists name new)) es) (still lists name new lt more e parts.0) (all_still lists name new lt more es parts.1)

pub cover_more : (lists : List Lists) (e : Entry) (new : Lists) → e.name < length lists → covers new e.list ≡ true → ((other : ℕ) → covers (get_or lists e.name Nothing) other ≡ true → covers new other ≡ true)
    → (es : List Entry) → list_all (is_covered lists) es ≡ true → list_all (is_covered (set lists e.name new)) (es ++ e ∷ []) ≡ true
cover_more lists e new below here more es so_far =
    let now : List Lists = set lists e.name new in
    let last : is_covered now e ≡ true = ap (λ l. covers l e.list) (get_or-set_same lists e.name new Nothing below) ∙ here in
    list_all-append (is_covered now) es (e ∷ [])
    ∙ and_from (list_all (is_covered now) es) (is_covered now e && true) (all_still lists e.name new below more es so_far) (and_from (is_covered now e) true last refl)

-- the same by the lists that were read
pub covers_read : (lists : List Lists) (name : ℕ) (was : Lists) (other : ℕ) → name < length lists → was ≡ get_or lists name was → covers (get_or lists name Nothing) other ≡ true → covers was other ≡ true
covers_read lists name was other lt is h = ap (λ l. covers l other) (is ∙ get_or_any lists name was Nothing lt) ∙ h

pub none_yet : (p : Entry → Bool) (es : List Entry) → list_all p (take 0 es) ≡ true
none_yet p [] = refl
none_yet p (e ∷ es) = refl

below_at : (limit : ℕ) (es : List Entry) (i : ℕ) (d : Entry) → i < length es → list_all (λ e. nat_lt e.name limit) es ≡ true → (get_or es i d).name < limit
below_at limit [] i d lt h = absurd (omega (arith, lt))
below_at limit (e ∷ es) zero d lt h = ltb-true e.name limit ((both (nat_lt e.name limit) (list_all (λ x. nat_lt x.name limit) es) h).0)
below_at limit (e ∷ es) (suc i) d lt h = below_at limit es i d (omega (arith, lt)) ((both (nat_lt e.name limit) (list_all (λ x. nat_lt x.name limit) es) h).1)

-- an entry that is read has a low name
pub below_read : (limit room : ℕ) (es : List Entry) (i : ℕ) (d : Entry) → i < length es → list_all (λ e. nat_lt e.name limit) es ≡ true → room ≡ limit → (get_or es i d).name < room
below_read limit room es i d lt h same = omega (arith, below_at limit es i d lt h, same)

pub all_next : (p : Entry → Bool) (es : List Entry) (i : ℕ) (d : Entry) → i < length es → list_all p (take i es ++ get_or es i d ∷ []) ≡ true → list_all p (take (i + 1) es) ≡ true
all_next p es i d lt h = ap (λ (l : List Entry). list_all p l) (take_more es i d lt) ∙ h

-- ---- what clashes is contested

apart : (l : Lists) (a b : ℕ) → covers l a ≡ true → covers l b ≡ true → (a == b) ≡ false → are_several l ≡ true
apart Nothing a b h k ne = absurd (cc)
apart (One first) a b h k ne = let same : a ≡ b = sym (eqb-true first a h) ∙ eqb-true first b k in absurd (cc (eq-eqb a b same))
apart (Several first) a b h k ne = refl

not_true : (b : Bool) → not b ≡ true → b ≡ false
not_true true h = absurd (cc)
not_true false h = refl

pub contested_both : (lists : List Lists) (a b : Entry) → is_covered lists a ≡ true → is_covered lists b ≡ true → entries_clash a b ≡ true → (is_contested lists a ≡ true) × (is_contested lists b ≡ true)
contested_both lists a b h k clash =
    let parts = both (a.name == b.name) (not (a.list == b.list)) clash in
    let same : a.name ≡ b.name = eqb-true a.name b.name parts.0 in
    let here : covers (get_or lists a.name Nothing) b.list ≡ true = ap (λ n. covers (get_or lists n Nothing) b.list) same ∙ k in
    let first : is_contested lists a ≡ true = apart (get_or lists a.name Nothing) a.list b.list h here (not_true (a.list == b.list) parts.1) in
    (first, ap (λ n. are_several (get_or lists n Nothing)) (sym same) ∙ first)

-- ---- rows of entries

all_take : {A : Type 0} (p : A → Bool) (k : ℕ) (xs : List A) → list_all p xs ≡ true → list_all p (take k xs) ≡ true
all_take p zero [] h = refl
all_take p zero (x ∷ xs) h = refl
all_take p (suc k) [] h = refl
all_take p (suc k) (x ∷ xs) h = let parts = both (p x) (list_all p xs) h in and_from (p x) (list_all p (take k xs)) parts.0 (all_take p k xs parts.1)

all_drop : {A : Type 0} (p : A → Bool) (k : ℕ) (xs : List A) → list_all p xs ≡ true → list_all p (drop k xs) ≡ true
all_drop p zero [] h = refl
all_drop p zero (x ∷ xs) h = h
all_drop p (suc k) [] h = refl
all_drop p (suc k) (x ∷ xs) h = all_drop p k xs ((both (p x) (list_all p xs) h).1)

pub all_piece : {A : Type 0} (p : A → Bool) (starts : List ℕ) (n : ℕ) (items : List A) → list_all p items ≡ true → list_all p (piece_of starts n items) ≡ true
all_piece {A} p starts n items h = by (nat_lt (n + 1) (length starts) && (nat_le (get_or starts n 0) (get_or starts (n + 1) 0) && nat_le (get_or starts (n + 1) 0) (length items)))
  where
    by : (b : Bool) → list_all p (cond b (piece starts n items) []) ≡ true
    by true = all_take p (get_or starts (n + 1) 0 - get_or starts n 0) (drop (get_or starts n 0) items) (all_drop p (get_or starts n 0) items h)
    by false = refl

pub all_pieces : {A : Type 0} (p : A → Bool) (starts : List ℕ) (items : List A) → list_all p items ≡ true → (ns : List ℕ) → list_all p (flat_map (λ n. piece_of starts n items) ns) ≡ true
all_pieces p starts items h [] = refl
all_pieces p starts items h (n ∷ ns) =
    list_all-append p (piece_of starts n items) (flat_map (λ m. piece_of starts m items) ns)
    ∙ and_from (list_all p (piece_of starts n items)) (list_all p (flat_map (λ m. piece_of starts m items) ns)) (all_piece p starts n items h) (all_pieces p starts items h ns)

-- what is not contested may be left out
pub same_clash : (lists : List Lists) (entries : List Entry) (starts : List ℕ) (kept : ℕ → List Entry) → list_all (is_covered lists) entries ≡ true → ((n : ℕ) → kept n ≡ filter (is_contested lists) (piece_of starts n entries))
    → (ns : List ℕ) → some_clash entries_clash (flat_map kept ns) ≡ some_clash entries_clash (flat_map (λ n. piece_of starts n entries) ns)
same_clash lists entries starts kept all each ns =
    ap (λ (l : List Entry). some_clash entries_clash l) (flat_same kept (λ n. filter (is_contested lists) (piece_of starts n entries)) each ns ∙ sym (filter_flat (is_contested lists) (λ n. piece_of starts n entries) ns))
    ∙ kept_clash (is_covered lists) (is_contested lists) entries_clash (λ a b h k clash. contested_both lists a b h k clash) (flat_map (λ n. piece_of starts n entries) ns) (all_pieces (is_covered lists) starts entries all ns)

pub none_left : (lists : List Lists) (row kept : List Entry) → kept ≡ filter (is_contested lists) row → row ≡ [] → kept ≡ []
none_left lists row kept e none = e ∙ ap (λ (l : List Entry). filter (is_contested lists) l) none

all_filter : {A : Type 0} (p test : A → Bool) (xs : List A) → list_all p xs ≡ true → list_all p (filter test xs) ≡ true
all_filter p test [] h = refl
all_filter {A} p test (x ∷ xs) h =
    let parts = both (p x) (list_all p xs) h in
    let rest : list_all p (filter test xs) ≡ true = all_filter p test xs parts.1 in
    ⊎_elim
    (λ t. ap (λ (b : Bool). list_all p (cond b (x ∷ filter test xs) (filter test xs))) t ∙ and_from (p x) (list_all p (filter test xs)) parts.0 rest)
    (λ f. ap (λ (b : Bool). list_all p (cond b (x ∷ filter test xs) (filter test xs))) f ∙ rest)
    (cases_Bool (test x))

-- what holds of all holds of those that are kept
pub all_left : {A : Type 0} (p test : A → Bool) (starts : List ℕ) (items : List A) → list_all p items ≡ true → (ns : List ℕ) → list_all p (flat_map (λ n. filter test (piece_of starts n items)) ns) ≡ true
all_left p test starts items h [] = refl
all_left p test starts items h (n ∷ ns) =
    list_all-append p (filter test (piece_of starts n items)) (flat_map (λ m. filter test (piece_of starts m items)) ns)
    ∙ and_from (list_all p (filter test (piece_of starts n items))) (list_all p (flat_map (λ m. filter test (piece_of starts m items)) ns)) (all_filter p test (piece_of starts n items) (all_piece p starts n items h))
    (all_left p test starts items h ns)

lower_limit : (names limit : ℕ) (es : List Entry) → names ≤ limit → list_all (λ e. nat_lt e.name names) es ≡ true → list_all (λ e. nat_lt e.name limit) es ≡ true
lower_limit names limit [] le h = refl
lower_limit names limit (e ∷ es) le h =
    let parts = both (nat_lt e.name names) (list_all (λ x. nat_lt x.name names) es) h in
    and_from (nat_lt e.name limit) (list_all (λ x. nat_lt x.name limit) es) (lt-ltb e.name limit (omega (arith, ltb-true e.name names parts.0, le))) (lower_limit names limit es le parts.1)

-- the names of a row are below any limit that is none lower than that of all rows
pub row_below : (names limit : ℕ) (starts : List ℕ) (n : ℕ) (items : List Entry) → list_all (λ e. nat_lt e.name names) items ≡ true → names ≤ limit → list_all (λ e. nat_lt e.name limit) (piece_of starts n items) ≡ true
row_below names limit starts n items h le = lower_limit names limit (piece_of starts n items) le (all_piece (λ (e : Entry). nat_lt e.name names) starts n items h)
