-- The objects that pages give, whatever is told of the disk.
use Rattle.std.specs.Prelude.{ℕ, ◌≡◌, ◌+◌, ◌*◌, ◌<◌, ◌≤◌, List, [], ◌∷◌, length, IsSome, ⊤}
use Rattle.std.specs.List.{AllByRecursion}
use Rattle.pss_base.specs.declared.put.Put.{Put}
use Rattle.page_format.specs.Objects.{IsRightPut, octets_left}

-- the octets of the records, and 16 for each
abbrev pub weights : List Put → ℕ
weights [] = 0
weights (row ∷ rows) = 16 + length (octets_left row.bytes) + weights rows

-- each has another serial than those behind it
abbrev pub AreApart : List Put → Type 0
AreApart [] = ⊤
AreApart (row ∷ rows) = AllByRecursion (λ other. row.serial ≡ other.serial → ⊥) rows × AreApart rows

-- the objects of so many pages: each has a record of 1 to 8,000 octets and a serial that was given, no two have the
-- same, and together they take no more than the pages have room for
pub record AreRows (next pages : ℕ) (rows : List Put) : Type 0 where
  pub some : AllByRecursion (λ row. IsSome row.bytes) rows
  pub right : AllByRecursion IsRightPut rows
  pub given : AllByRecursion (λ row. (1 ≤ row.serial) × (row.serial < next)) rows
  pub apart : AreApart rows
  pub sum : weights rows ≤ 16344 * pages
