-- The scopes that rows stand for.
use Rattle.std.specs.Prelude.{◌≡◌, ℕ, ◌+◌, ◌<◌, ◌≤◌, List, [], ◌∷◌, ◌++◌, length, Option, Some, None, Bool}
use Rattle.std.specs.BTreeMap.{BTreeMap, get}
use Rattle.std.specs.Cmp.Lexicographic.{slice_cmp}
use Rattle.std.specs.Ordering.{is_eq, nat_cmp, ordering_then}
use Rattle.std.specs.declared.cmp.Ordering.{Ordering}
use Rattle.std.proofs.Common.{get_or}
use Rattle.psdl_directory.specs.declared.scopes.ModuleName.{ModuleName}
use Rattle.psdl_directory.specs.declared.scopes.Row.{Row}
use Rattle.psdl_directory.specs.Declarations.{Path}

-- ---- scopes by number

abbrev pub path_at : List Path → ℕ → Path
path_at paths n = get_or paths n []

-- the path of a module, whose scope comes behind that of the text; without a module that of the text
abbrev pub path_in : List Path → Option ℕ → Path
path_in paths None = []
path_in paths (Some n) = path_at paths (n + 1)

abbrev pub outer : Path → Option Path
outer [] = None
outer (name ∷ path) = Some path

-- no two scopes are one
abbrev pub AreDistinct : List Path → Type 0
AreDistinct paths = (i j : ℕ) → i < length paths → j < length paths → path_at paths i ≡ path_at paths j → i ≡ j

-- what is there stays
abbrev pub Grows : List Path → List Path → Type 0
Grows old new = (n : ℕ) → n < length old → (n < length new) × (path_at new n ≡ path_at old n)

-- ---- rows

-- each scope's path, after those that are there
abbrev pub paths_after : List Path → List Row → List Path
paths_after done [] = done
paths_after done (r ∷ rs) = paths_after (done ++ (r.name.now ∷ get_or done r.parent []) ∷ []) rs

unfoldable pub paths_of : List Row → List Path
paths_of rows = paths_after ([] ∷ []) rows

-- each has its parent before it
abbrev pub HasParents : List Row → Type 0
HasParents rows = (i : ℕ) (d : Row) → i < length rows → (get_or rows i d).parent ≤ i

-- ---- modules by name

abbrev pub by_name : ModuleName → ModuleName → Ordering
by_name a b = ordering_then (nat_cmp a.scope b.scope) (slice_cmp nat_cmp a.name.now b.name.now)

abbrev pub is_same : ModuleName → ModuleName → Bool
is_same a b = is_eq (by_name a b)

-- the number of the scope of a module
abbrev pub scope_of : BTreeMap ModuleName ℕ → ModuleName → Option ℕ
scope_of inner q = get by_name inner q

-- the table has the number of each scope, by the scope round it and its name
pub record Opens (paths : List Path) (inner : BTreeMap ModuleName ℕ) : Type 0 where
  pub some : (q : ModuleName) (n : ℕ) → scope_of inner q ≡ Some n → (q.scope < length paths) × (n < length paths) × (path_at paths n ≡ q.name.now ∷ path_at paths q.scope)
  pub none : (q : ModuleName) (n : ℕ) → scope_of inner q ≡ None → q.scope < length paths → n < length paths → path_at paths n ≡ q.name.now ∷ path_at paths q.scope → ⊥

pub record AreScopes (rows : List Row) (inner : BTreeMap ModuleName ℕ) : Type 0 where
  pub parents : HasParents rows
  pub distinct : AreDistinct (paths_of rows)
  pub opens : Opens (paths_of rows) inner
