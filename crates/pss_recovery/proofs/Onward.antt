-- One row after the other.
use Rattle.std.proofs.Common.{ℕ, zero, suc, ◌≡◌, ◌⊎◌, ◌+◌, ◌≤◌, List, [], ◌∷◌, ◌++◌, length, take, None, Some, refl, sym, ap, ◌∙◌, subst, arith, append_assoc, append-nil, length-append}
use Rattle.std.specs.List.{AllByRecursion, slice_get}
use Rattle.std.specs.FinMap.{empty, get, insert}
use Rattle.pss_base.specs.declared.put.Put.{Put}
use Rattle.pss_base.specs.declared.damage.DamageKind.{DamageKind}
use Rattle.type_layout.specs.declared.schema.Schema.{Schema}
use Rattle.pss_catalog.specs.Catalog.{Catalog, Object, total}
use Rattle.storage_home.specs.declared.homes.Homes.{Homes}
use Rattle.storage_home.specs.Kept.{most}
use Rattle.storage_home.proofs.Keeping.{others, sum_with}
use Rattle.page_format.specs.Objects.{octets_left}
use Rattle.pss_recovery.specs.Loading.{AreLoaded, IsRow}
use Rattle.pss_recovery.specs.inner.Adding.{HasHeld, IsOneMore, MayCome}
use Rattle.pss_recovery.specs.inner.Checks.{IsWrongAlone}
use Rattle.page_format.specs.Rows.{weights}
use Rattle.pss_recovery.specs.inner.Rowwise.{AreAll, AreSoFar, IsWrongAt, at_row}
use Rattle.pss_recovery.specs.declared.loading.LoadStop.TheVariants.{Wrong as WrongRow}
use Rattle.pss_recovery.specs.declared.checking.RowStop.{RowStop}
use Rattle.pss_recovery.specs.declared.checking.RowStop.TheVariants as row_stop
use Rattle.pss_recovery.proofs.Additions.{unique_with, weight_is}
use Rattle.pss_recovery.proofs.Splits.{front_of}

-- one row more is loaded behind others
pub loaded_push : (S : Schema) (next : ℕ) (M : Catalog) (rows : List Put) (N : Catalog) (row : Put) (object : Object) → AreLoaded S next M rows N → IsRow S next N row object → AreLoaded S next M (rows ++ row ∷ []) (insert N row.serial object)
loaded_push S next M [] N row object loaded is = (object, subst (λ (K : Catalog). IsRow S next K row object) loaded is, ap (λ (K : Catalog). insert K row.serial object) loaded)
loaded_push S next M (r ∷ rows) N row object loaded is = (loaded.0, loaded.1, loaded_push S next (insert M r.serial loaded.0) rows N row object loaded.2 is)

weights_both : (xs ys : List Put) → weights (xs ++ ys) ≡ weights xs + weights ys
weights_both [] ys = omega arith
weights_both (x ∷ xs) ys = omega (arith, weights_both xs ys)

new_on : (N : Catalog) (serial : ℕ) (object : Object) (rows : List Put) → AllByRecursion (λ other. serial ≡ other.serial → ⊥) rows → AllByRecursion (λ row. get N row.serial ≡ None) rows → AllByRecursion (λ row. get (insert N serial object) row.serial ≡ None) rows
new_on N serial object [] apart new = tt
new_on N serial object (row ∷ rows) apart new = (others N serial object row.serial (λ e. apart.0 (sym e)) ∙ new.0, new_on N serial object rows apart.1 new.1)

here_is : (front rest : List Put) (row : Put) (index : ℕ) → length front ≡ index → slice_get (front ++ row ∷ rest) index ≡ Some row
here_is [] rest row zero e = refl
here_is [] rest row (suc i) e = absurd (omega (arith, e))
here_is (x ∷ front) rest row zero e = absurd (omega (arith, e))
here_is (x ∷ front) rest row (suc i) e = here_is front rest row i (omega (arith, e))

module _ (S : Schema) (next : ℕ) (all : List Put) (row : Put) (rest : List Put) (index : ℕ) (homes : Homes) (so_far : AreSoFar S next all (row ∷ rest) index homes) where
  sum_of_all : weights all ≡ weights so_far.front + (16 + length (octets_left row.bytes) + weights rest)
  sum_of_all = ap weights (sym so_far.split) ∙ weights_both so_far.front (row ∷ rest)

  pub fits_all : total S so_far.catalog + (16 + length (octets_left row.bytes)) ≤ most
  fits_all = omega (arith, so_far.sum_is, so_far.bounded, sum_of_all)

  abbrev pub may_come : MayCome S so_far.catalog homes row
  may_come = record { kept = so_far.kept; none = so_far.may.new.0; unique = so_far.unique; bounded = fits_all }

  pub one_on : (new : Homes) → IsOneMore S next so_far.catalog row new → AreSoFar S next all rest (index + 1) new
  one_on new more = record {
    front = so_far.front ++ row ∷ [];
    split = append_assoc so_far.front (row ∷ []) rest ∙ so_far.split;
    count = length-append so_far.front (row ∷ []) ∙ ap (λ n. n + 1) so_far.count;
    catalog = insert so_far.catalog row.serial more.object;
    loaded = loaded_push S next empty so_far.front so_far.catalog row more.object so_far.loaded more.is_row;
    kept = more.kept;
    unique = unique_with S so_far.catalog row.serial more.object more.is_row.free so_far.unique;
    sum_is = sum_with S so_far.catalog row.serial more.object so_far.may.new.0 ∙ omega (arith, so_far.sum_is, weights_both so_far.front (row ∷ []), weight_is S row.home more.object row.bytes more.is_row.stored);
    bounded = so_far.bounded;
    may = record { some = so_far.may.some.1; new = new_on so_far.catalog row.serial more.object rest so_far.may.apart.0 so_far.may.new.1; apart = so_far.may.apart.1 };
  }

  pub wrong_here : (k : DamageKind) → IsWrongAlone S next row k ⊎ HasHeld S next so_far.catalog row k → IsWrongAt S next all index k
  wrong_here k wrong = record {
    row = row;
    there = ap (λ l. slice_get l index) (sym so_far.split) ∙ here_is so_far.front rest row index so_far.count;
    before = so_far.catalog;
    loaded = subst (λ (l : List Put). AreLoaded S next empty l so_far.catalog) (sym (ap (take index) (sym so_far.split) ∙ front_of index so_far.front (row ∷ rest) so_far.count)) so_far.loaded;
    wrong = wrong;
  }

pub all_loaded : (S : Schema) (next : ℕ) (all rest : List Put) (index : ℕ) (homes : Homes) → rest ≡ [] → AreSoFar S next all rest index homes → AreAll S next all homes
all_loaded S next all rest index homes none so_far = record {
  catalog = so_far.catalog;
  loaded = subst (λ (l : List Put). AreLoaded S next empty l so_far.catalog) (sym (append-nil so_far.front) ∙ ap (λ l. so_far.front ++ l) (sym none) ∙ so_far.split) so_far.loaded;
  kept = so_far.kept;
}

-- what a stop with an index says of the row's
pub stop_of : (index at : ℕ) (k : DamageKind) (stop : RowStop) → at_row index stop ≡ WrongRow at k → (at ≡ index) × (stop ≡ row_stop.Wrong k)
stop_of index at k (row_stop.Wrong j) e = (cc, cc)
stop_of index at k row_stop.NoMemory e = cc
