-- What declarations see of a group of entries.
use Rattle.std.proofs.Common.{◌≡◌, ◌∙◌, ℕ, ◌+◌, ◌^◌, ◌<◌, ◌≤◌, List, [], ◌∷◌, ◌++◌, Bool, true, false, not, ◌==◌, ◌||◌, nat_lt, length, take, get_or, refl, sym, ap, subst, arith}
use Rattle.std.specs.List.{list_any, flat_map}
use Rattle.std.specs.Int.RustNames.{bit_and, bit_or}
use Rattle.std.proofs.lemmas.Bool.{eqb-true, lt-ltb, ltb-true, ltb-false, or_parts}
use Rattle.std.proofs.lemmas.List.{take_all}
use Rattle.std.proofs.lemmas.List.Folds.{list_any-append, list_any_more}
use Rattle.psdl_lineage.specs.Descent.{has}
use Rattle.psdl_lineage.specs.Graph.{parents_in, ancestry_in}
use Rattle.psdl_lineage.proofs.Low.{joined_of}
use Rattle.psdl_lineage.proofs.Firsts.{there_at}
use Rattle.psdl_members.specs.declared.entry.Entry.{Entry}
use Rattle.psdl_members.specs.declared.rows.Rows.{Rows}
use Rattle.psdl_members.specs.declared.seen.Seen.{Seen}
use Rattle.psdl_members.specs.inner.Clashing.{entries_clash}
use Rattle.psdl_members.specs.inner.Had.{has_some}
use Rattle.psdl_members.specs.inner.Heirs.{IsInOrder, AreHeirs, has_row, sees}
use Rattle.psdl_members.specs.inner.Rowed.{row_of}
use Rattle.psdl_members.specs.inner.Seeing.{IsSeen, Sight, are_same, is_met, nothing, seen_at}
use Rattle.psdl_members.proofs.Bits.{bits_none, bits_alike, bits_or, bits_and, bits_found}
use Rattle.psdl_members.proofs.Pairs.{any_same, any_once}

-- ---- what is seen together

pub nothing_seen : (es : List Entry) → IsSeen nothing es (λ _. false)
nothing_seen es = record { same = bits_none es; other = bits_none es }

pub seen_alike : (seen : Seen) (es : List Entry) (here there : Sight) → ((test : Entry → Bool) → here test ≡ there test) → IsSeen seen es here → IsSeen seen es there
seen_alike seen es here there alike w =
    record {
      same = bits_alike seen.same es (λ e. here (are_same e)) (λ e. there (are_same e)) (λ e. alike (are_same e)) w.same;
      other = bits_alike seen.other es (λ e. here (entries_clash e)) (λ e. there (entries_clash e)) (λ e. alike (entries_clash e)) w.other;
    }

pub seen_both : (a b : Seen) (es : List Entry) (here there : Sight) → IsSeen a es here → IsSeen b es there → IsSeen (record { same = bit_or a.same b.same; other = bit_or a.other b.other }) es (λ test. here test || there test)
seen_both a b es here there v w =
    record {
      same = bits_or a.same b.same es (λ e. here (are_same e)) (λ e. there (are_same e)) v.same w.same;
      other = bits_or a.other b.other es (λ e. here (entries_clash e)) (λ e. there (entries_clash e)) v.other w.other;
    }

pub met_found : (seen : Seen) (es : List Entry) (some : Sight) → bit_and seen.same seen.other < 2 ^ 64 → length es ≤ 64 → IsSeen seen es some → not (bit_and seen.same seen.other == 0) ≡ list_any (is_met some) es
met_found seen es some long few w =
    bits_found (bit_and seen.same seen.other) es (is_met some) long few (bits_and seen.same seen.other es (λ e. some (are_same e)) (λ e. some (entries_clash e)) w.same w.other)

-- ---- by those that a declaration names

pub any_flat : {A B : Type 0} (test : B → Bool) (f : A → List B) (xs : List A) → list_any test (flat_map f xs) ≡ list_any (λ x. list_any test (f x)) xs
any_flat test f [] = refl
any_flat test f (x ∷ xs) = list_any-append test (f x) (flat_map f xs) ∙ ap (λ (b : Bool). list_any test (f x) || b) (any_flat test f xs)

or_turned : (a b : Bool) → (a || b) ≡ (b || a)
or_turned true true = refl
or_turned true false = refl
or_turned false true = refl
or_turned false false = refl

or_false : (b : Bool) → (b || false) ≡ b
or_false true = refl
or_false false = refl

-- a declaration itself, or one from which it descends, passes a test
pub by_parents : (graph : List (List ℕ)) (count : ℕ) (test : ℕ → Bool) (n : ℕ) → IsInOrder graph count → n < count
    → list_any test (ancestry_in graph n) ≡ (test n || list_any (λ p. list_any test (ancestry_in graph p)) (parents_in graph n))
by_parents graph count test n order lt =
    let named : List ℕ = flat_map (ancestry_in graph) (parents_in graph n) in
    let within : n < length graph = omega (arith, lt, order.within) in
    let joined =
    joined_of graph (λ m. m) (λ m. nat_lt m count) n
    (λ m p low h. let lower : p < m = order.order m p (ltb-true m count low) h in (lower, lt-ltb p count (omega (arith, lower, ltb-true m count low))))
    within (omega (arith, within))
    (λ p h. let lower : p < n = order.order n p lt h in (lower, lt-ltb p count (omega (arith, lower, lt)))) in
    ap (λ (l : List ℕ). list_any test l) joined
    ∙ any_once (λ a b. a == b) (λ a b h. eqb-true a b h) test (named ++ n ∷ [])
    ∙ list_any-append test named (n ∷ [])
    ∙ ap (λ (b : Bool). b || list_any test (n ∷ [])) (any_flat test (ancestry_in graph) (parents_in graph n))
    ∙ ap (λ (b : Bool). list_any (λ p. list_any test (ancestry_in graph p)) (parents_in graph n) || b) (or_false (test n))
    ∙ or_turned (list_any (λ p. list_any test (ancestry_in graph p)) (parents_in graph n)) (test n)

-- what a declaration sees is in its own row, or is seen by one that it names
pub sees_by : (graph : List (List ℕ)) (rows : Rows) (count n : ℕ) → IsInOrder graph count → n < count → (test : Entry → Bool)
    → (list_any test (row_of rows n) || list_any (λ p. sees graph rows p test) (parents_in graph n)) ≡ sees graph rows n test
sees_by graph rows count n order lt test =
    let here : ℕ → Bool = λ m. list_any test (row_of rows m) in
    ap (λ (b : Bool). list_any test (row_of rows n) || b) (any_same (λ p. sees graph rows p test) (λ p. list_any here (ancestry_in graph p)) (λ p. any_flat test (row_of rows) (ancestry_in graph p)) (parents_in graph n))
    ∙ sym (by_parents graph count here n order lt)
    ∙ sym (any_flat test (row_of rows) (ancestry_in graph n))

-- what has no entries sees none
none_there : (rows : Rows) (test : Entry → Bool) (ns : List ℕ) → list_any (has_row rows) ns ≡ false → list_any test (flat_map (row_of rows) ns) ≡ false
none_there rows test [] h = refl
none_there rows test (n ∷ ns) h =
    let off = or_parts (has_row rows n) (list_any (has_row rows) ns) h in
    list_any-append test (row_of rows n) (flat_map (row_of rows) ns)
    ∙ ap (λ (b : Bool). b || list_any test (flat_map (row_of rows) ns)) (empty (row_of rows n) off.0)
    ∙ none_there rows test ns off.1
  where
    empty : (xs : List Entry) → has_some xs ≡ false → list_any test xs ≡ false
    empty [] h = refl
    empty (x ∷ xs) h = absurd (omega (arith, ltb-false 0 (length (x ∷ xs)) h))

pub sees_none : (graph : List (List ℕ)) (rows : Rows) (heirs : List Bool) (n : ℕ) → AreHeirs graph rows heirs → n < length heirs → get_or heirs n false ≡ false → (test : Entry → Bool) → sees graph rows n test ≡ false
sees_none graph rows heirs n are lt off test = none_there rows test (ancestry_in graph n) (sym (are n lt) ∙ off)

-- ---- one by one

-- two that are seen are seen together
abbrev pub Join : Seen → Seen → Seen → Type 0
Join a b both = (es : List Entry) (here there : Sight) → IsSeen a es here → IsSeen b es there → IsSeen both es (λ test. here test || there test)

pub none_of : (es : List Entry) (some : ℕ → Sight) (ns : List ℕ) → IsSeen nothing es (λ test. list_any (λ p. some p test) (take 0 ns))
none_of es some [] = nothing_seen es
none_of es some (n ∷ ns) = nothing_seen es

pub seen_more : (seen : List Seen) (so_far next also : Seen) (es : List Entry) (some : ℕ → Sight) (ns : List ℕ) (i : ℕ) → i < length ns → also ≡ seen_at seen (get_or ns i 0)
    → ((p : ℕ) → has ns p ≡ true → IsSeen (seen_at seen p) es (some p)) → IsSeen so_far es (λ test. list_any (λ p. some p test) (take i ns)) → Join so_far also next → IsSeen next es (λ test. list_any (λ p. some p test) (take (i + 1) ns))
seen_more seen so_far next also es some ns i lt is each w join =
    let p : ℕ = get_or ns i 0 in
    let there : IsSeen also es (some p) = subst (λ (s : Seen). IsSeen s es (some p)) (sym is) (each p (there_at ns i lt)) in
    seen_alike next es (λ test. list_any (λ q. some q test) (take i ns) || some p test) (λ test. list_any (λ q. some q test) (take (i + 1) ns)) (λ test. sym (list_any_more (λ q. some q test) ns i 0 lt))
    (join es (λ test. list_any (λ q. some q test) (take i ns)) (some p) w there)

pub all_of : (seen : Seen) (es : List Entry) (some : ℕ → Sight) (ns : List ℕ) (i : ℕ) → length ns ≤ i → IsSeen seen es (λ test. list_any (λ p. some p test) (take i ns)) → IsSeen seen es (λ test. list_any (λ p. some p test) ns)
all_of seen es some ns i past w =
    seen_alike seen es (λ test. list_any (λ p. some p test) (take i ns)) (λ test. list_any (λ p. some p test) ns) (λ test. ap (λ (l : List ℕ). list_any (λ p. some p test) l) (take_all i ns past)) w
