-- One declaration more, or one group of entries more, is told.
use Rattle.std.proofs.Common.{◌≡◌, ◌∙◌, ℕ, zero, suc, ◌+◌, ◌*◌, ◌<◌, ◌≤◌, List, [], ◌∷◌, ◌++◌, Bool, true, false, ◌||◌, ◌&&◌, length, length-set, take, drop, get_or, refl, sym, ap, subst, arith, ⊎_elim, get_or-set_same, get_or-set_other}
use Rattle.std.specs.List.{list_any}
use Rattle.std.proofs.Math.ListN.{replicate, set}
use Rattle.std.proofs.lemmas.Bool.{cases_eq, or_from, or_parts}
use Rattle.std.proofs.lemmas.List.{take_all}
use Rattle.std.proofs.lemmas.List.Folds.{list_any-append, list_any_more, list_any_at}
use Rattle.psdl_lineage.specs.Descent.{has}
use Rattle.psdl_lineage.specs.Graph.{parents_in, ancestry_in}
use Rattle.psdl_lineage.proofs.Repeats.{has_here, has_later}
use Rattle.psdl_members.specs.declared.entry.Entry.{Entry}
use Rattle.psdl_members.specs.declared.own.Listings.{Listings}
use Rattle.psdl_members.specs.declared.rows.Rows.{Rows}
use Rattle.psdl_members.specs.declared.seen.Seen.{Seen}
use Rattle.psdl_members.specs.inner.Clashing.{entries_clash}
use Rattle.psdl_members.specs.inner.Heirs.{IsInOrder, AreHeirs, IsTold, AreColumns, AreMet, AreClashes, clashes_by_descent, has_row, sees, shows}
use Rattle.psdl_members.specs.inner.Seeing.{AreSeen, IsSeen, Sight, are_same, is_met, nothing, seen_at}
use Rattle.psdl_members.proofs.Bits.{replicated}
use Rattle.psdl_members.proofs.Meeting.{rows_met}
use Rattle.psdl_members.proofs.Sights.{by_parents, seen_alike, sees_by, sees_none}

-- ---- tables

-- one place more is right
pub place_more : {A : Type 0} (P : ℕ → A → Type 0) (xs : List A) (i : ℕ) (x d : A) → i < length xs → ((n : ℕ) → n < i → P n (get_or xs n d)) → P i x → (n : ℕ) → n < i + 1 → P n (get_or (set xs i x) n d)
place_more {A} P xs i x d lt so_far here n low =
    ⊎_elim
    (λ same. subst (λ (m : ℕ). P m (get_or (set xs i x) m d)) (sym same) (subst (P i) (sym (get_or-set_same xs i x d lt)) here))
    (λ differ. subst (P n) (sym (get_or-set_other xs i n x d differ)) (so_far n (omega (arith, low, differ))))
    (cases_eq n i)

any_there : (f g : ℕ → Bool) (ps : List ℕ) → ((p : ℕ) → has ps p ≡ true → f p ≡ g p) → list_any f ps ≡ list_any g ps
any_there f g [] h = refl
any_there f g (p ∷ ps) h = ap (λ (b : Bool). b || list_any f ps) (h p (has_here p ps)) ∙ ap (λ (b : Bool). g p || b) (any_there f g ps (λ q t. h q (has_later p q ps t)))

-- ---- flags

pub none_set : (flags : List Bool) (ps : List ℕ) → list_any (λ p. get_or flags p false) (take 0 ps) ≡ false
none_set flags [] = refl
none_set flags (p ∷ ps) = refl

pub set_further : (flags : List Bool) (ps : List ℕ) (i : ℕ) → i < length ps → list_any (λ p. get_or flags p false) (take i ps) ≡ false → get_or flags (get_or ps i 0) false ≡ false → list_any (λ p. get_or flags p false) (take (i + 1) ps) ≡ false
set_further flags ps i lt none off = list_any_more (λ p. get_or flags p false) ps i 0 lt ∙ or_from (list_any (λ p. get_or flags p false) (take i ps)) (get_or flags (get_or ps i 0) false) none off

pub set_here : (flags : List Bool) (ps : List ℕ) (i : ℕ) → i < length ps → get_or flags (get_or ps i 0) false ≡ true → true ≡ list_any (λ p. get_or flags p false) ps
set_here flags ps i lt on = sym (list_any_at (λ p. get_or flags p false) ps i 0 lt on)

pub none_set_all : (flags : List Bool) (ps : List ℕ) (i : ℕ) → length ps ≤ i → list_any (λ p. get_or flags p false) (take i ps) ≡ false → false ≡ list_any (λ p. get_or flags p false) ps
none_set_all flags ps i past none = sym none ∙ ap (list_any (λ p. get_or flags p false)) (take_all i ps past)

-- ---- heirs

-- it has a row, or names heirs
pub heir_is : (graph : List (List ℕ)) (rows : Rows) (heirs : List Bool) (count n : ℕ) → IsInOrder graph count → n < count → ((p : ℕ) → p < n → get_or heirs p false ≡ list_any (has_row rows) (ancestry_in graph p))
    → (has_row rows n || list_any (λ p. get_or heirs p false) (parents_in graph n)) ≡ list_any (has_row rows) (ancestry_in graph n)
heir_is graph rows heirs count n order lt are =
    ap (λ (b : Bool). has_row rows n || b) (any_there (λ p. get_or heirs p false) (λ p. list_any (has_row rows) (ancestry_in graph p)) (parents_in graph n) (λ p named. are p (order.order n p lt named)))
    ∙ sym (by_parents graph count (has_row rows) n order lt)

-- ---- declarations

or_none : (b : Bool) → b ≡ (b || false)
or_none true = refl
or_none false = refl

none_met : (es : List Entry) (some : Sight) → ((test : Entry → Bool) → some test ≡ false) → list_any (is_met some) es ≡ false
none_met [] some none = refl
none_met (e ∷ es) some none = ap (λ (b : Bool). (b && some (entries_clash e)) || list_any (is_met some) es) (none (are_same e)) ∙ none_met es some none

module _ (graph : List (List ℕ)) (rows : Rows) (es : List Entry) (before heirs : List Bool) (i : ℕ) (seen : List Seen) (clashes : List Bool) where
  -- what is no heir sees nothing
  pub told_idle : IsInOrder graph (length heirs) → AreHeirs graph rows heirs → i < length heirs → length seen ≡ length heirs → get_or heirs i false ≡ false → IsTold graph rows es before i seen clashes → IsTold graph rows es before (i + 1) seen clashes
  told_idle order are lt sized off so_far =
      let blind : (test : Entry → Bool) → sees graph rows i test ≡ false = sees_none graph rows heirs i are lt off in
      let bare : (test : Entry → Bool) → shows rows i test ≡ false =
      λ test. (or_parts (shows rows i test) (list_any (λ p. sees graph rows p test) (parents_in graph i)) (sees_by graph rows (length heirs) i order lt test ∙ blind test)).0 in
      let here : IsSeen (seen_at seen i) es (sees graph rows i) =
      seen_alike (seen_at seen i) es (shows rows i) (sees graph rows i) (λ test. bare test ∙ sym (blind test)) (so_far.ahead i (omega arith) (omega (arith, lt, sized))) in
      let told : get_or clashes i false ≡ (get_or before i false || list_any (is_met (sees graph rows i)) es) =
      so_far.rest i (omega arith) ∙ or_none (get_or before i false) ∙ ap (λ (b : Bool). get_or before i false || b) (sym (none_met es (sees graph rows i) blind)) in
      record {
        seen_is = λ n low. ⊎_elim (λ same. subst (λ (m : ℕ). IsSeen (seen_at seen m) es (sees graph rows m)) (sym same) here) (λ differ. so_far.seen_is n (omega (arith, low, differ))) (cases_eq n i);
        ahead = λ n high within. so_far.ahead n (omega (arith, high)) within;
        told = λ n low.
            ⊎_elim
            (λ same. subst (λ (m : ℕ). get_or clashes m false ≡ (get_or before m false || list_any (is_met (sees graph rows m)) es)) (sym same) told)
            (λ differ. so_far.told n (omega (arith, low, differ)))
            (cases_eq n i);
        rest = λ n high. so_far.rest n (omega (arith, high));
      }

  -- what an heir sees, and whether two entries clash in it
  pub told_heir : (here : Seen) (was clash met : Bool) → i < length seen → i < length clashes → IsSeen here es (sees graph rows i) → was ≡ get_or clashes i false → met ≡ list_any (is_met (sees graph rows i)) es → clash ≡ (was || met)
      → IsTold graph rows es before i seen clashes → IsTold graph rows es before (i + 1) (set seen i here) (set clashes i clash)
  told_heir here was clash met room space is read found e so_far =
      record {
        seen_is = place_more (λ (n : ℕ) (s : Seen). IsSeen s es (sees graph rows n)) seen i here nothing room so_far.seen_is is;
        ahead = λ n high within.
            subst (λ (s : Seen). IsSeen s es (shows rows n)) (sym (get_or-set_other seen i n here nothing (λ same. absurd (omega (arith, high, same)))))
            (so_far.ahead n (omega (arith, high)) (omega (arith, within, length-set seen i here)));
        told =
            place_more (λ (n : ℕ) (b : Bool). b ≡ (get_or before n false || list_any (is_met (sees graph rows n)) es)) clashes i clash false space so_far.told
            (e ∙ ap (λ (b : Bool). was || b) found ∙ ap (λ (b : Bool). b || list_any (is_met (sees graph rows i)) es) (read ∙ so_far.rest i (omega arith)));
        rest = λ n high. get_or-set_other clashes i n clash false (λ same. absurd (omega (arith, high, same))) ∙ so_far.rest n (omega (arith, high));
      }

pub told_at_first : (graph : List (List ℕ)) (rows : Rows) (es : List Entry) (before : List Bool) (seen : List Seen) → AreSeen seen es (shows rows) → IsTold graph rows es before 0 seen before
told_at_first graph rows es before seen are =
    record { seen_is = λ n never. absurd (omega (arith, never)); ahead = λ n high within. are n within; told = λ n never. absurd (omega (arith, never)); rest = λ n high. refl }

-- ---- groups of entries

or_assoc : (a b c : Bool) → ((a || b) || c) ≡ (a || (b || c))
or_assoc true b c = refl
or_assoc false b c = refl

take_next : {A : Type 0} (a b : ℕ) (xs : List A) → take (a + b) xs ≡ take a xs ++ take b (drop a xs)
take_next {A} zero b [] =
    let next : 0 + b ≡ b = omega arith in
    let none : List A = [] in
    ap (λ (n : ℕ). take n none) next
take_next {A} zero b (x ∷ xs) =
    let next : 0 + b ≡ b = omega arith in
    ap (λ (n : ℕ). take n (x ∷ xs)) next
take_next {A} (suc a) b [] =
    let next : suc a + b ≡ suc (a + b) = omega arith in
    let none : List A = [] in
    ap (λ (n : ℕ). take n none) next ∙ sym (none_left b)
  where
    none_left : (n : ℕ) → take {A = A} n [] ≡ []
    none_left zero = refl
    none_left (suc n) = refl
take_next {A} (suc a) b (x ∷ xs) =
    let next : suc a + b ≡ suc (a + b) = omega arith in
    ap (λ (n : ℕ). take n (x ∷ xs)) next ∙ ap (λ (l : List A). x ∷ l) (take_next a b xs)

pub met_more : (graph : List (List ℕ)) (rows : Rows) (columns : List Entry) (before old new : List Bool) (count index : ℕ) → AreMet graph rows columns before count (index * 64) old
    → ((n : ℕ) → n < count → get_or new n false ≡ (get_or old n false || list_any (is_met (sees graph rows n)) (take 64 (drop (index * 64) columns)))) → AreMet graph rows columns before count ((index + 1) * 64) new
met_more graph rows columns before old new count index so_far told n lt =
    let test : Entry → Bool = is_met (sees graph rows n) in
    let next : (index + 1) * 64 ≡ index * 64 + 64 = omega arith in
    told n lt
    ∙ ap (λ (b : Bool). b || list_any test (take 64 (drop (index * 64) columns))) (so_far n lt)
    ∙ or_assoc (get_or before n false) (list_any test (take (index * 64) columns)) (list_any test (take 64 (drop (index * 64) columns)))
    ∙ ap (λ (b : Bool). get_or before n false || b)
    (sym (list_any-append test (take (index * 64) columns) (take 64 (drop (index * 64) columns))) ∙ ap (list_any test) (sym (take_next (index * 64) 64 columns)) ∙ ap (λ (k : ℕ). list_any test (take k columns)) (sym next))

pub met_at_first : (graph : List (List ℕ)) (rows : Rows) (columns : List Entry) (before : List Bool) (count : ℕ) → AreMet graph rows columns before count 0 before
met_at_first graph rows columns before count n lt = or_none (get_or before n false) ∙ ap (λ (b : Bool). get_or before n false || b) (sym (none_taken columns))
  where
    none_taken : (es : List Entry) → list_any (is_met (sees graph rows n)) (take 0 es) ≡ false
    none_taken [] = refl
    none_taken (e ∷ es) = refl

-- all columns are told
pub met_all : (graph : List (List ℕ)) (rows : Rows) (columns : List Entry) (before new : List Bool) (count many : ℕ) → AreColumns rows.entries.items columns → length columns ≤ many → AreMet graph rows columns before count many new
    → (n : ℕ) → n < count → get_or new n false ≡ (get_or before n false || clashes_by_descent graph rows n)
met_all graph rows columns before new count many are past met n lt =
    met n lt ∙ ap (λ (b : Bool). get_or before n false || b) (ap (list_any (is_met (sees graph rows n))) (take_all many columns past) ∙ rows_met rows columns (ancestry_in graph n) are)

-- ---- keys and factories

pub clashes_are : (graph : List (List ℕ)) (lists : Listings) (count : ℕ) (first second : List Bool) → length second ≡ count
    → ((n : ℕ) → n < count → get_or first n false ≡ (get_or (replicate count false) n false || clashes_by_descent graph lists.keys n))
    → ((n : ℕ) → n < count → get_or second n false ≡ (get_or first n false || clashes_by_descent graph lists.factories n)) → AreClashes graph lists second
clashes_are graph lists count first second sized keys factories n lt =
    let low : n < count = omega (arith, lt, sized) in
    factories n low
    ∙ ap (λ (b : Bool). b || clashes_by_descent graph lists.factories n) (keys n low ∙ ap (λ (b : Bool). b || clashes_by_descent graph lists.keys n) (replicated count n false))
