-- The rows of the table of families, and what each pass makes of them.
use Rattle.std.specs.Prelude.{Bool, Option, Some, None, ◌&&◌, nat_le, nat_lt, ℕ, ◌+◌, ◌≡◌, ◌<◌, ◌≤◌, ◌==◌, List, ◌∷◌, length, map, get_or, set, if◌then◌else◌}
use Rattle.std.specs.List.{slice_get}
use Rattle.type_layout.specs.declared.home.HomeNo.{HomeNo}
use Rattle.type_layout.specs.declared.schema.Home.{Home}
use Rattle.type_layout.specs.ShapeText.{base_number}
use Rattle.pss_catalog.specs.declared.row.Row.{Row}
use Rattle.pss_catalog.specs.inner.Table.{AreLower, IsPlaced, IsOrdered, IsTop}
use Rattle.pss_catalog.specs.inner.Sizes.{Counted, Placing}

-- a home that is not there
abbrev pub no_row : Row
no_row = record { base = 0; root = 0; size = 0; place = 0; end = 0 }

abbrev pub row_at : List Row → ℕ → Row
row_at rows k = get_or rows k no_row

abbrev pub size_of : List Row → ℕ → ℕ
size_of rows k = (row_at rows k).size

abbrev pub place_of : List Row → ℕ → ℕ
place_of rows k = (row_at rows k).place

abbrev pub end_of : List Row → ℕ → ℕ
end_of rows k = (row_at rows k).end

abbrev pub root_of : List Row → ℕ → ℕ
root_of rows k = (row_at rows k).root

abbrev pub bases_in : List Row → List ℕ
bases_in rows = map (λ r. r.base) rows

-- the base of the node k among these
abbrev pub above : List ℕ → ℕ → ℕ
above bases k = get_or bases k 0

-- ---- made

abbrev pub forest_row : Row
forest_row = record { base = 0; root = 0; size = 1; place = 0; end = 1 }

abbrev pub home_row : Home → Row
home_row home = record { base = base_number home.base; root = 0; size = 1; place = 0; end = 0 }

abbrev pub rows_for : List Home → List Row
rows_for homes = forest_row ∷ map home_row homes

-- n homes without counts and places
pub record IsFresh (n : ℕ) (rows : List Row) : Type 0 where
  pub size : length rows ≡ n + 1
  pub few : n ≤ 4096
  pub lower : AreLower n (above (bases_in rows))
  pub ones : (k : ℕ) → k ≤ n → size_of rows k ≡ 1
  pub place : place_of rows 0 ≡ 0
  pub end : end_of rows 0 ≡ 1

-- ---- counted

abbrev pub counted : List Row → ℕ → List Row
counted rows h =
    let row = row_at rows h in
    let base = row_at rows row.base in
    set rows row.base (record { base = base.base; root = base.root; size = base.size + row.size; place = base.place; end = base.end })

-- all homes above m are counted
pub record AreCounted (n : ℕ) (bases : List ℕ) (m : ℕ) (rows : List Row) : Type 0 where
  pub bases_are : bases_in rows ≡ bases
  pub size : length rows ≡ n + 1
  pub few : n ≤ 4096
  pub lower : AreLower n (above bases)
  pub sizes : Counted n (above bases) (size_of rows) m
  pub place : place_of rows 0 ≡ 0
  pub end : end_of rows 0 ≡ 1

-- ---- placed

abbrev pub placed : List Row → ℕ → List Row
placed rows h =
    let row = row_at rows h in
    let base = row_at rows row.base in
    set
    (set rows row.base (record { base = base.base; root = base.root; size = base.size; place = base.place; end = base.end + row.size }))
    h
    (record { base = row.base; root = if row.base == 0 then h else base.root; size = row.size; place = base.end; end = base.end + 1 })

-- all homes below h are placed
pub record ArePlaced (n : ℕ) (bases : List ℕ) (h : ℕ) (rows : List Row) : Type 0 where
  pub bases_are : bases_in rows ≡ bases
  pub size : length rows ≡ n + 1
  pub few : n ≤ 4096
  pub lower : AreLower n (above bases)
  pub sizes : Counted n (above bases) (size_of rows) 0
  pub places : Placing n (above bases) (size_of rows) h (place_of rows) (end_of rows)
  pub tops : (k : ℕ) → 0 < k → k < h → IsTop (above bases) k (root_of rows k)

-- ---- in order

abbrev pub home_at_place : List HomeNo → ℕ → ℕ
home_at_place order i = (get_or order i (record { 0 = 0 })).0

-- all that the table says
pub record HaveOrder (rows : List Row) (order : List HomeNo) : Type 0 where
  pub size : length rows ≡ length order + 1
  pub few : length order ≤ 4096
  pub lower : AreLower (length order) (above (bases_in rows))
  pub placed : IsPlaced (length order) (above (bases_in rows)) (place_of rows) (end_of rows)
  pub ordered : IsOrdered (length order + 1) (place_of rows) (home_at_place order)
  pub tops : (k : ℕ) → 0 < k → k ≤ length order → IsTop (above (bases_in rows)) k (root_of rows k)

-- ---- asked

-- the row of a home that is there
abbrev pub row_in : List Row → ℕ → Option Row
row_in rows k = if k == 0 then None else slice_get rows k

-- the place of the one is among those of the other; of homes that are not there, whether they are one
abbrev pub tells : Option Row → Option Row → HomeNo → HomeNo → Bool
tells (Some row) (Some above) home of = nat_le above.place row.place && nat_lt row.place above.end
tells _ _ home of = home.0 == of.0
