-- Before the first row.
use Rattle.std.proofs.Common.{ℕ, ◌≡◌, ◌≤◌, List, [], ◌∷◌, None, Some, IsSome, refl, sym, ◌∙◌, arith}
use Rattle.std.specs.List.{AllByRecursion}
use Rattle.std.specs.FinMap.{empty, get, get-empty}
use Rattle.std.specs.Ordering.{nat_cmp}
use Rattle.pss_base.specs.declared.put.Put.{Put}
use Rattle.type_layout.specs.declared.schema.Schema.{Schema}
use Rattle.pss_catalog.specs.Catalog.{IsUnique, Object, total}
use Rattle.storage_home.specs.declared.homes.Homes.{Homes}
use Rattle.storage_home.specs.Applied.{MayLoad}
use Rattle.storage_home.specs.Kept.{IsKept, most}
use Rattle.page_format.specs.Rows.{AreApart, weights}
use Rattle.pss_recovery.specs.inner.Rowwise.{AreSoFar}
use Rattle.pss_recovery.proofs.NewStore.{nothing_weighs}

pub nothing_unique : (S : Schema) → IsUnique S empty
nothing_unique S key bytes s t x y at = let no : None ≡ Some x = sym (get-empty nat_cmp s) ∙ at in absurd (cc)

pub none_fit : (S : Schema) → total S empty ≤ most
none_fit S = omega (arith, nothing_weighs S)

abbrev pub no_rows : (S : Schema) → MayLoad S []
no_rows S = record { steps = []; are = tt; unique = nothing_unique S; bounded = none_fit S }

pub none_so_far : (S : Schema) (next : ℕ) (rows : List Put) (homes : Homes) → AllByRecursion (λ row. IsSome row.bytes) rows → AreApart rows → weights rows ≤ most → IsKept S empty homes → AreSoFar S next rows rows 0 homes
none_so_far S next rows homes some apart small kept = record {
  front = [];
  split = refl;
  count = refl;
  catalog = empty;
  loaded = refl;
  kept = kept;
  unique = nothing_unique S;
  sum_is = nothing_weighs S;
  bounded = small;
  may = record { some = some; new = all_new rows; apart = apart };
}
  where
    all_new : (rows : List Put) → AllByRecursion (λ (row : Put). get (empty {X = Object} {R = nat_cmp}) row.serial ≡ None) rows
    all_new [] = tt
    all_new (row ∷ rows) = (get-empty nat_cmp row.serial, all_new rows)
