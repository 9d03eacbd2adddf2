-- The keys of a home, numbered one after the other.
use Rattle.std.proofs.Common.{◌≡◌, ℕ, zero, suc, ◌+◌, ◌<◌, ◌≤◌, List, [], ◌∷◌, ◌++◌, Bool, true, false, nat_lt, Some, length, map, take, drop, get_or, refl, sym, ap, ◌∙◌, subst, arith, length-append, append_assoc, ltb-true}
use Rattle.std.specs.List.{flat_map}
use Rattle.std.specs.Option.{option_to_list}
use Rattle.std.proofs.lemmas.List.{map-append, append-nil, take_all}
use Rattle.std.proofs.lemmas.List.Concat.{flat_map-append}
use Rattle.type_layout.specs.declared.key.KeyNo.{KeyNo}
use Rattle.type_layout.specs.ShapeText.{key_line}
use Rattle.psdl_directory.specs.Declarations.{Declaration}
use Rattle.psdl_lineage.specs.Descent.{Listed}
use Rattle.psdl_lineage.proofs.Listing.{take_more}
use Rattle.psdl_rules.specs.Faults.Limit.{most_shape}
use Rattle.psdl_standings.specs.TextLengths.{cut}
use Rattle.psdl_check.specs.Schemas.{Introduced, all_introduced, key_number, schema}
use Rattle.psdl_check.specs.declared.home_keys.HeldKey.{HeldKey}
use Rattle.psdl_check.specs.declared.key_rows.KeyIds.{KeyIds}
use Rattle.psdl_check.specs.declared.keys.Introducing.{Introducing}
use Rattle.psdl_check.specs.declared.keys.Keys.{Keys}
use Rattle.psdl_check.specs.declared.numbering.Numbered.{Numbered}
use Rattle.psdl_check.specs.inner.HeldKeys.{held_view, held_views, news}
use Rattle.psdl_check.specs.inner.KeyIds.{id_of, HaveIds}
use Rattle.psdl_check.specs.inner.Keys.{AreKeys}
use Rattle.psdl_check.specs.inner.KeysMade.{HasLayout, new_one}
use Rattle.psdl_check.specs.inner.Numbering.{AreNumbered, HasNumber, numbers_of, IsNumberable}
use Rattle.psdl_check.proofs.Counting.{number_later}

-- ---- lists in parts

parts : {A : Type 0} (xs : List A) (i : ℕ) → take i xs ++ drop i xs ≡ xs
parts [] zero = refl
parts [] (suc i) = refl
parts (x ∷ xs) zero = refl
parts (x ∷ xs) (suc i) = ap (λ l. x ∷ l) (parts xs i)

taken : (hs : List HeldKey) (i : ℕ) (h : HeldKey) → i < length hs → h ≡ get_or hs i h → take (i + 1) hs ≡ take i hs ++ h ∷ []
taken hs i h lt is = take_more hs i h lt ∙ ap (λ x. take i hs ++ x ∷ []) (sym is)

news_more : (home : Introducing) (hs : List HeldKey) (i : ℕ) (h : HeldKey) → i < length hs → h ≡ get_or hs i h → news home (take (i + 1) hs) ≡ news home (take i hs) ++ new_one h.of_base home (held_view h)
news_more home hs i h lt is =
    let f : HeldKey → List Introduced = λ k. new_one k.of_base home (held_view k) in
    ap (flat_map f) (taken hs i h lt is) ∙ flat_map-append f (take i hs) (h ∷ []) ∙ ap (λ l. news home (take i hs) ++ l) (append-nil (f h))

news_parts : (home : Introducing) (hs : List HeldKey) (i : ℕ) → news home hs ≡ news home (take i hs) ++ news home (drop i hs)
news_parts home hs i =
    let f : HeldKey → List Introduced = λ k. new_one k.of_base home (held_view k) in
    ap (flat_map f) (sym (parts hs i)) ∙ flat_map-append f (take i hs) (drop i hs)

views_more : (hs : List HeldKey) (i : ℕ) (h : HeldKey) → i < length hs → h ≡ get_or hs i h → held_views (take (i + 1) hs) ≡ held_views (take i hs) ++ held_view h ∷ []
views_more hs i h lt is = ap held_views (taken hs i h lt is) ∙ map-append held_view (take i hs) (h ∷ [])

-- ---- numbers of ids

key_id : (ids : KeyIds) (hs : List HeldKey) (i : ℕ) (h : HeldKey) → HaveIds ids (map (λ x. x.key) hs) → i < length hs → h ≡ get_or hs i h → id_of ids (held_view h) ≡ Some h.key.id
key_id ids [] i h have lt is = absurd (omega (arith, lt))
key_id ids (x ∷ hs) zero h have lt is =
    let first : Some x.key.id ≡ id_of ids (held_view x) = cc in
    subst (λ (y : HeldKey). id_of ids (held_view y) ≡ Some y.key.id) (sym is) (sym first)
key_id ids (x ∷ hs) (suc i) h have lt is =
    let rest : HaveIds ids (map (λ y. y.key) hs) = cc in
    key_id ids hs i h rest (omega (arith, lt)) is

-- ---- one by one

module _ (all : List Declaration) (ids : KeyIds) (introduced more : List Introduced) (home : Introducing) (hs : List HeldKey) (before : Keys) (front : ℕ) where
  pub none_counted : (numbered : Numbered) → IsNumberable all ids introduced more home hs before → numbered.numbers ≡ [] → numbered.length.0 ≡ cut (front + 0)
      → AreNumbered all ids (introduced ++ news home (take 0 hs)) home.home (held_views (take 0 hs)) front before numbered
  none_counted numbered can none reach =
      subst (λ (t : List HeldKey). AreNumbered all ids (introduced ++ news home t) home.home (held_views t) front before numbered) (none_taken hs)
      (record { known = subst (λ (l : List Introduced). AreKeys all ids l before) (sym (append-nil introduced)) can.before; counted = none; reached = reach; few = omega (arith, can.few, ap (λ (l : List Introduced). length l) (append-nil introduced)) })
    where
      none_taken : (xs : List HeldKey) → [] ≡ take 0 xs
      none_taken [] = refl
      none_taken (x ∷ xs) = refl

-- the next key
pub one_counted : (all asked : List Declaration) (ids : KeyIds) (introduced more : List Introduced) (home : Introducing) (hs : List HeldKey) (before : Keys) (front i : ℕ) (h : HeldKey) (old_keys new_keys : Keys) (old new : Numbered)
    → asked ≡ all → IsNumberable all ids introduced more home hs before → i < length hs → h ≡ get_or hs i h → nat_lt most_shape old.length.0 ≡ false
    → ((ids : KeyIds) (introduced more : List Introduced) (views : List Listed) (front : ℕ) → HasLayout asked home → id_of ids (held_view h) ≡ Some h.key.id → all_introduced asked ≡ (introduced ++ new_one h.of_base home (held_view h)) ++ more
    → nat_lt most_shape old.length.0 ≡ false → (h.of_base ≡ true → HasNumber asked home.home introduced (held_view h)) → AreNumbered asked ids introduced home.home views front old_keys old → AreNumbered asked ids (introduced ++ new_one h.of_base home (held_view h)) home.home (views ++ held_view h ∷ []) front new_keys new)
    → AreNumbered all ids (introduced ++ news home (take i hs)) home.home (held_views (take i hs)) front old_keys old → AreNumbered all ids (introduced ++ news home (take (i + 1) hs)) home.home (held_views (take (i + 1) hs)) front new_keys new
one_counted all asked ids introduced more home hs before front i h old_keys new_keys old new same can lt is fits step are =
    let one : List Introduced = new_one h.of_base home (held_view h) in
    let so_far : (introduced ++ news home (take i hs)) ++ one ≡ introduced ++ news home (take (i + 1) hs) =
    append_assoc introduced (news home (take i hs)) one ∙ ap (λ l. introduced ++ l) (sym (news_more home hs i h lt is)) in
    let rest : all_introduced all ≡ ((introduced ++ news home (take i hs)) ++ one) ++ (news home (drop (i + 1) hs) ++ more) =
    can.rest ∙ ap (λ l. (introduced ++ l) ++ more) (news_parts home hs (i + 1))
    ∙ ap (λ l. l ++ more) (sym (append_assoc introduced (news home (take (i + 1) hs)) (news home (drop (i + 1) hs))))
    ∙ append_assoc (introduced ++ news home (take (i + 1) hs)) (news home (drop (i + 1) hs)) more
    ∙ ap (λ l. l ++ (news home (drop (i + 1) hs) ++ more)) (sym so_far) in
    let on : AreNumbered asked ids ((introduced ++ news home (take i hs)) ++ one) home.home (held_views (take i hs) ++ held_view h ∷ []) front new_keys new =
    step ids (introduced ++ news home (take i hs)) (news home (drop (i + 1) hs) ++ more) (held_views (take i hs)) front (subst (λ (d : List Declaration). HasLayout d home) (sym same) can.layout) (key_id ids hs i h can.numbered lt is)
    (ap all_introduced same ∙ rest) fits (λ on. subst (λ (d : List Declaration). HasNumber d home.home (introduced ++ news home (take i hs)) (held_view h)) (sym same) (number_later all home.home introduced (news home (take i hs)) (held_view h) (can.of_base i h lt is on))) (subst (λ (d : List Declaration). AreNumbered d ids (introduced ++ news home (take i hs)) home.home (held_views (take i hs)) front old_keys old) (sym same) are) in
    subst (λ (d : List Declaration). AreNumbered d ids (introduced ++ news home (take (i + 1) hs)) home.home (held_views (take (i + 1) hs)) front new_keys new) same
    (subst (λ (l : List Introduced). AreNumbered asked ids l home.home (held_views (take (i + 1) hs)) front new_keys new) so_far
    (subst (λ (v : List Listed). AreNumbered asked ids ((introduced ++ news home (take i hs)) ++ one) home.home v front new_keys new) (sym (views_more hs i h lt is)) on))

-- all of them
pub all_counted : (all : List Declaration) (ids : KeyIds) (introduced : List Introduced) (home : Introducing) (hs : List HeldKey) (front i : ℕ) (keys : Keys) (numbered : Numbered) → length hs ≤ i
    → AreNumbered all ids (introduced ++ news home (take i hs)) home.home (held_views (take i hs)) front keys numbered → AreNumbered all ids (introduced ++ news home hs) home.home (held_views hs) front keys numbered
all_counted all ids introduced home hs front i keys numbered le are =
    subst (λ (l : List HeldKey). AreNumbered all ids (introduced ++ news home l) home.home (held_views l) front keys numbered) (take_all i hs le) are

numbers_parts : (all : List Declaration) (home : ℕ) (hs : List HeldKey) (i : ℕ) → numbers_of all home (held_views hs) ≡ numbers_of all home (held_views (take i hs)) ++ numbers_of all home (held_views (drop i hs))
numbers_parts all home hs i =
    let f : Listed → List ℕ = λ k. option_to_list (key_number all home k) in
    let made : ℕ → KeyNo = λ n. record { 0 = n } in
    ap (numbers_of all home) (ap held_views (sym (parts hs i)) ∙ map-append held_view (take i hs) (drop i hs))
    ∙ ap (map made) (flat_map-append f (held_views (take i hs)) (held_views (drop i hs)))
    ∙ map-append made (flat_map f (held_views (take i hs))) (flat_map f (held_views (drop i hs)))

stays_cut : (front a b n : ℕ) → n ≡ cut (front + a) → 65536 < n → n ≡ cut (front + (a + b))
stays_cut front a b n is over = omega (arith, is, over)

-- behind a length that is over nothing counts
pub length_stopped : (all : List Declaration) (ids : KeyIds) (introduced more : List Introduced) (home : Introducing) (hs : List HeldKey) (before : Keys) (front i : ℕ) (keys : Keys) (numbered : Numbered) → nat_lt 65536 numbered.length.0 ≡ true
    → AreNumbered all ids (introduced ++ news home (take i hs)) home.home (held_views (take i hs)) front keys numbered
    → numbered.length.0 ≡ cut (front + length (flat_map (key_line (schema all)) (numbers_of all home.home (held_views hs))))
length_stopped all ids introduced more home hs before front i keys numbered over are =
    let line = key_line (schema all) in
    let a : List ℕ = flat_map line (numbers_of all home.home (held_views (take i hs))) in
    let b : List ℕ = flat_map line (numbers_of all home.home (held_views (drop i hs))) in
    let whole : length (flat_map line (numbers_of all home.home (held_views hs))) ≡ length a + length b =
    ap length (ap (flat_map line) (numbers_parts all home.home hs i) ∙ flat_map-append line (numbers_of all home.home (held_views (take i hs))) (numbers_of all home.home (held_views (drop i hs)))) ∙ length-append a b in
    stays_cut front (length a) (length b) numbered.length.0 are.reached (ltb-true 65536 numbered.length.0 over) ∙ ap (λ (n : ℕ). cut (front + n)) (sym whole)

not_both : (b : Bool) → b ≡ true → b ≡ false → ⊥
not_both true a e = cc
not_both false a e = cc

pub not_over : (n : ℕ) → nat_lt 65536 n ≡ true → nat_lt 65536 n ≡ false → ⊥
not_over n a b = not_both (nat_lt 65536 n) a b
