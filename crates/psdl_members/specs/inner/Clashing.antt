-- Keys or factories that clash, by number.
use Rattle.std.specs.Prelude.{◌≡◌, ℕ, ◌+◌, ◌≤◌, List, [], Bool, not, ◌==◌, ◌&&◌}
use Rattle.std.specs.List.{list_any, flat_map}
use Rattle.psdl_directory.specs.Declarations.{Declaration}
use Rattle.psdl_lineage.specs.Descent.{Listed}
use Rattle.psdl_members.specs.declared.entry.Entry.{Entry}
use Rattle.psdl_members.specs.declared.list_kind.ListKind.{ListKind}
use Rattle.psdl_members.specs.declared.rows.Rows.{Rows}
use Rattle.psdl_members.specs.Clashes.{lists_clash}
use Rattle.psdl_members.specs.inner.Flat.{flat, begins}
use Rattle.psdl_members.specs.inner.Listing.{own_lists}
use Rattle.psdl_members.specs.inner.Rowed.{row_of}

-- two of them clash
abbrev pub some_clash : {A : Type 0} → (A → A → Bool) → List A → Bool
some_clash clash xs = list_any (λ a. list_any (clash a) xs) xs

abbrev pub entries_clash : Entry → Entry → Bool
entries_clash a b = a.name == b.name && not (a.list == b.list)

-- of those of some declarations two clash exactly where two of their entries do
abbrev pub ClashAlike : ListKind → List Declaration → Rows → Type 0
ClashAlike kind all r = (ns : List ℕ) → some_clash entries_clash (flat_map (row_of r) ns) ≡ some_clash lists_clash (flat_map (own_lists kind all) ns)

-- the same of whatever these lists are, one behind the other
abbrev pub AreNumberedBy : List Listed → List ℕ → Rows → Type 0
AreNumberedBy ls starts r =
    (g : ℕ → List Listed) (count : ℕ) → ls ≡ flat g count → starts ≡ begins g (count + 1) → ((n : ℕ) → count ≤ n → g n ≡ [])
    → (ns : List ℕ) → some_clash entries_clash (flat_map (row_of r) ns) ≡ some_clash lists_clash (flat_map g ns)
