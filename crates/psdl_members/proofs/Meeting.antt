-- Two entries of some declarations clash exactly where one of the columns is there, and one that clashes with it.
use Rattle.std.proofs.Common.{◌≡◌, ◌∙◌, ℕ, List, [], ◌∷◌, Bool, true, false, not, ◌==◌, ◌||◌, ◌&&◌, filter, get_or, refl, sym, ap, ⊎_elim}
use Rattle.std.specs.List.{list_any, list_all, flat_map}
use Rattle.std.proofs.lemmas.Bool.{both_ways, cases_Bool, eqb-true, eq-eqb, and_from, and_parts, not-false, not-true, or_cases, or_left, or_right}
use Rattle.psdl_lineage.proofs.Repeats.{turned}
use Rattle.psdl_members.specs.declared.contested.Lists.{Lists}
use Rattle.psdl_members.specs.declared.contested.Lists.TheVariants.{Nothing, One, Several}
use Rattle.psdl_members.specs.declared.entry.Entry.{Entry}
use Rattle.psdl_members.specs.declared.rows.Rows.{Rows}
use Rattle.psdl_members.specs.inner.Clashing.{some_clash, entries_clash}
use Rattle.psdl_members.specs.inner.Contested.{is_first_of, is_later}
use Rattle.psdl_members.specs.inner.Heirs.{AreColumns}
use Rattle.psdl_members.specs.inner.Rowed.{row_of}
use Rattle.psdl_members.specs.inner.Seeing.{are_same, is_met}
use Rattle.psdl_members.proofs.Covered.{all_pieces}
use Rattle.psdl_members.proofs.Pairs.{any_kept}

-- one that passes, and that is there
any_found : (es : List Entry) (of test : Entry → Bool) (B : Type 0) → list_all of es ≡ true → list_any test es ≡ true → ((e : Entry) → of e ≡ true → test e ≡ true → list_any (are_same e) es ≡ true → B) → B
any_found [] of test B all h k = absurd (cc)
any_found (e ∷ es) of test B all h k =
    let parts = and_parts (of e) (list_all of es) all in
    ⊎_elim
    (λ t. k e parts.0 t (or_left (are_same e e) (list_any (are_same e) es) (with_itself e)))
    (λ f. any_found es of test B parts.1 (sym (ap (λ (b : Bool). b || list_any test es) f) ∙ h) (λ x on passes there. k x on passes (or_right (are_same x e) (list_any (are_same x) es) there)))
    (cases_Bool (test e))
  where
    with_itself : (e : Entry) → are_same e e ≡ true
    with_itself e = and_from (e.name == e.name) (e.list == e.list) (eq-eqb e.name e.name refl) (eq-eqb e.list e.list refl)

any_weaker : (test also : Entry → Bool) (es : List Entry) → ((e : Entry) → test e ≡ true → also e ≡ true) → list_any test es ≡ true → list_any also es ≡ true
any_weaker test also [] h e = absurd (cc)
any_weaker test also (x ∷ es) h e =
    ⊎_elim
    (λ t. or_left (also x) (list_any also es) (h x t))
    (λ f. or_right (also x) (list_any also es) (any_weaker test also es h (sym (ap (λ (b : Bool). b || list_any test es) f) ∙ e)))
    (cases_Bool (test x))

-- what is the same as another is as that one to all others
alike : (P : ℕ → ℕ → Bool) (a b : Entry) → are_same a b ≡ true → P a.name a.list ≡ P b.name b.list
alike P a b h =
    let parts = and_parts (a.name == b.name) (a.list == b.list) h in
    ap (λ (n : ℕ). P n a.list) (eqb-true a.name b.name parts.0) ∙ ap (λ (l : ℕ). P b.name l) (eqb-true a.list b.list parts.1)

same_clashes : (es : List Entry) (a b : Entry) → are_same a b ≡ true → list_any (entries_clash a) es ≡ list_any (entries_clash b) es
same_clashes es a b h = alike (λ n l. list_any (λ x. n == x.name && not (l == x.list)) es) a b h

same_there : (es : List Entry) (a b : Entry) → are_same a b ≡ true → list_any (are_same a) es ≡ list_any (are_same b) es
same_there es a b h = alike (λ n l. list_any (λ x. n == x.name && l == x.list) es) a b h

two_ways : (a b : Bool) → (a ≡ true → b ≡ true) → (b ≡ true → a ≡ true) → a ≡ b
two_ways true b f g = sym (f refl)
two_ways false true f g = g refl
two_ways false false f g = refl

clash_turned : (a b : Entry) → entries_clash a b ≡ entries_clash b a
clash_turned a b = ap (λ (v : Bool). v && not (a.list == b.list)) (turned a.name b.name) ∙ ap (λ (v : Bool). b.name == a.name && not v) (turned a.list b.list)

-- what is there, with one that clashes with it, is met where it is a column
met_by : (columns es : List Entry) (a : Entry) → list_any (are_same a) es ≡ true → list_any (entries_clash a) es ≡ true → list_any (are_same a) columns ≡ true → list_any (is_met (λ test. list_any test es)) columns ≡ true
met_by columns es a there clash column =
    any_weaker (are_same a) (is_met (λ test. list_any test es)) columns
    (λ e same. and_from (list_any (are_same e) es) (list_any (entries_clash e) es) (sym (same_there es a e same) ∙ there) (sym (same_clashes es a e same) ∙ clash)) column

met_clash : (all columns es : List Entry) → AreColumns all columns → list_all (λ e. list_any (are_same e) all) es ≡ true → list_any (is_met (λ test. list_any test es)) columns ≡ some_clash entries_clash es
met_clash all columns es are within =
    two_ways (list_any (is_met (λ test. list_any test es)) columns) (some_clash entries_clash es)
    (λ h.
    any_found columns (λ _. true) (is_met (λ test. list_any test es)) (some_clash entries_clash es ≡ true) (every columns) h
    (λ e on met there.
    let parts = and_parts (list_any (are_same e) es) (list_any (entries_clash e) es) met in
    any_weaker (are_same e) (λ a. list_any (entries_clash a) es) es (λ a same. sym (same_clashes es e a same) ∙ parts.1) parts.0))
    (λ h.
    let met : Type 0 = list_any (is_met (λ test. list_any test es)) columns ≡ true in
    any_found es (λ e. list_any (are_same e) all) (λ a. list_any (entries_clash a) es) met within h
    (λ a known clashes there.
    any_found es (λ e. list_any (are_same e) all) (entries_clash a) met within clashes
    (λ b also clash here.
    ⊎_elim
    (λ first. met_by columns es a there clashes first)
    (λ second.
    let back : list_any (entries_clash b) es ≡ true =
    any_weaker (are_same a) (entries_clash b) es (λ x same. sym (alike (λ n l. b.name == n && not (b.list == l)) a x same) ∙ (sym (clash_turned a b) ∙ clash)) there in
    met_by columns es b here back second)
    (or_cases (list_any (are_same a) columns) (list_any (are_same b) columns) (are a b known also clash)))))
  where
    every : (xs : List Entry) → list_all (λ _. true) xs ≡ true
    every [] = refl
    every (x ∷ xs) = every xs

all_known : (all es : List Entry) → ((e : Entry) → list_any (are_same e) es ≡ true → list_any (are_same e) all ≡ true) → list_all (λ e. list_any (are_same e) all) es ≡ true
all_known all [] h = refl
all_known all (e ∷ es) h =
    and_from (list_any (are_same e) all) (list_all (λ x. list_any (are_same x) all) es)
    (h e (or_left (are_same e e) (list_any (are_same e) es) (and_from (e.name == e.name) (e.list == e.list) (eq-eqb e.name e.name refl) (eq-eqb e.list e.list refl))))
    (all_known all es (λ x there. h x (or_right (are_same x e) (list_any (are_same x) es) there)))

-- of rows
pub rows_met : (rows : Rows) (columns : List Entry) (ns : List ℕ) → AreColumns rows.entries.items columns
    → list_any (is_met (λ test. list_any test (flat_map (row_of rows) ns))) columns ≡ some_clash entries_clash (flat_map (row_of rows) ns)
rows_met rows columns ns are =
    let all : List Entry = rows.entries.items in
    met_clash all columns (flat_map (row_of rows) ns) are (all_pieces (λ e. list_any (are_same e) all) rows.starts.items all (all_known all all (λ e there. there)) ns)

-- ---- columns

one_first : (l : Lists) (a b : ℕ) → is_first_of l a ≡ true → is_first_of l b ≡ true → a ≡ b
one_first Nothing a b h k = absurd (cc)
one_first (One first) a b h k = sym (eqb-true first a h) ∙ eqb-true first b k
one_first (Several first) a b h k = sym (eqb-true first a h) ∙ eqb-true first b k

later_kept : (lists : List Lists) (es : List Entry) (a : Entry) → list_any (are_same a) es ≡ true → is_later lists a ≡ true → list_any (are_same a) (filter (is_later lists) es) ≡ true
later_kept lists es a there later =
    any_kept (is_later lists) (are_same a) es
    ∙ any_weaker (are_same a) (λ x. is_later lists x && are_same a x) es
    (λ x same. and_from (is_later lists x) (are_same a x) (sym (alike (λ n l. not (is_first_of (get_or lists n Nothing) l)) a x same) ∙ later) same) there

-- two that have the first list of one name do not clash
pub columns_are : (lists : List Lists) (es : List Entry) → AreColumns es (filter (is_later lists) es)
columns_are lists es a b here there clash =
    let columns : List Entry = filter (is_later lists) es in
    ⊎_elim
    (λ t. or_left (list_any (are_same a) columns) (list_any (are_same b) columns) (later_kept lists es a here t))
    (λ f.
    ⊎_elim
    (λ t. or_right (list_any (are_same a) columns) (list_any (are_same b) columns) (later_kept lists es b there t))
    (λ g.
    let parts = and_parts (a.name == b.name) (not (a.list == b.list)) clash in
    let first : is_first_of (get_or lists b.name Nothing) a.list ≡ true =
    ap (λ (n : ℕ). is_first_of (get_or lists n Nothing) a.list) (sym (eqb-true a.name b.name parts.0)) ∙ not-false (is_first_of (get_or lists a.name Nothing) a.list) f in
    let same : a.list ≡ b.list = one_first (get_or lists b.name Nothing) a.list b.list first (not-false (is_first_of (get_or lists b.name Nothing) b.list) g) in
    absurd (both_ways (a.list == b.list) (not-true (a.list == b.list) parts.1) (eq-eqb a.list b.list same)))
    (cases_Bool (is_later lists b)))
    (cases_Bool (is_later lists a))
