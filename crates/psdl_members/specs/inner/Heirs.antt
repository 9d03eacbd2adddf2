-- What declarations have by descent, where each names ones in front of it alone.
use Rattle.std.specs.Prelude.{◌≡◌, ◌<◌, ◌≤◌, ◌||◌, ℕ, List, Bool, true, false, length, take}
use Rattle.std.proofs.Common.{get_or}
use Rattle.std.specs.List.{list_any, flat_map}
use Rattle.psdl_lineage.specs.Descent.{has}
use Rattle.psdl_lineage.specs.Graph.{parents_in, ancestry_in}
use Rattle.psdl_members.specs.declared.entry.Entry.{Entry}
use Rattle.psdl_members.specs.declared.own.Listings.{Listings}
use Rattle.psdl_members.specs.declared.rows.Rows.{Rows}
use Rattle.psdl_members.specs.declared.seen.Seen.{Seen}
use Rattle.psdl_members.specs.inner.Clashing.{some_clash, entries_clash}
use Rattle.psdl_members.specs.inner.Had.{has_some}
use Rattle.psdl_members.specs.inner.Rowed.{row_of}
use Rattle.psdl_members.specs.inner.Seeing.{IsSeen, Sight, are_same, is_met, seen_at}

-- the first so many declarations name ones in front of them alone
pub record IsInOrder (graph : List (List ℕ)) (count : ℕ) : Type 0 where
  pub within : count ≤ length graph
  pub order : (n p : ℕ) → n < count → has (parents_in graph n) p ≡ true → p < n

abbrev pub has_row : Rows → ℕ → Bool
has_row rows n = has_some (row_of rows n)

-- heirs have entries, in their bodies or by descent
abbrev pub AreHeirs : List (List ℕ) → Rows → List Bool → Type 0
AreHeirs graph rows heirs = (n : ℕ) → n < length heirs → get_or heirs n false ≡ list_any (has_row rows) (ancestry_in graph n)

-- one of the entries that a declaration has, by descent too, passes a test
abbrev pub sees : List (List ℕ) → Rows → ℕ → Sight
sees graph rows n test = list_any test (flat_map (row_of rows) (ancestry_in graph n))

-- two of them clash
abbrev pub clashes_by_descent : List (List ℕ) → Rows → ℕ → Bool
clashes_by_descent graph rows n = some_clash entries_clash (flat_map (row_of rows) (ancestry_in graph n))

-- what a declaration has in its body
abbrev pub shows : Rows → ℕ → Sight
shows rows n test = list_any test (row_of rows n)

-- the first so many declarations are told of a group of entries, with what was known of clashes before
pub record IsTold (graph : List (List ℕ)) (rows : Rows) (es : List Entry) (before : List Bool) (count : ℕ) (seen : List Seen) (clashes : List Bool) : Type 0 where
  pub seen_is : (n : ℕ) → n < count → IsSeen (seen_at seen n) es (sees graph rows n)
  pub ahead : (n : ℕ) → count ≤ n → n < length seen → IsSeen (seen_at seen n) es (shows rows n)
  pub told : (n : ℕ) → n < count → get_or clashes n false ≡ (get_or before n false || list_any (is_met (sees graph rows n)) es)
  pub rest : (n : ℕ) → count ≤ n → get_or clashes n false ≡ get_or before n false

-- of two of these entries that clash one is a column
abbrev pub AreColumns : List Entry → List Entry → Type 0
AreColumns es columns =
    (a b : Entry) → list_any (are_same a) es ≡ true → list_any (are_same b) es ≡ true → entries_clash a b ≡ true → (list_any (are_same a) columns || list_any (are_same b) columns) ≡ true

-- the first so many declarations are told of the first so many columns
abbrev pub AreMet : List (List ℕ) → Rows → List Entry → List Bool → ℕ → ℕ → List Bool → Type 0
AreMet graph rows columns before count many clashes = (n : ℕ) → n < count → get_or clashes n false ≡ (get_or before n false || list_any (is_met (sees graph rows n)) (take many columns))

-- two keys or two factories clash in the bodies of these declarations
abbrev pub clash_among : Listings → List ℕ → Bool
clash_among l ns = some_clash entries_clash (flat_map (row_of l.keys) ns) || some_clash entries_clash (flat_map (row_of l.factories) ns)

-- each flag is the answer for what its declaration descends from
abbrev pub AreClashes : List (List ℕ) → Listings → List Bool → Type 0
AreClashes graph lists flags = (n : ℕ) → n < length flags → get_or flags n false ≡ clash_among lists (ancestry_in graph n)
