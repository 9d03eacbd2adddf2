-- The keys of declarations, as they are kept.
use Rattle.std.specs.Prelude.{◌≡◌, ◌<◌, ℕ, List, [], map, length}
use Rattle.std.proofs.Common.{get_or}
use Rattle.std.specs.declared.vec.Vec.{Vec}
use Rattle.psdl_directory.specs.Declarations.{Declaration}
use Rattle.psdl_members.specs.declared.list_kind.ListKind.TheVariants as kinds
use Rattle.psdl_members.specs.inner.Listing.{own_lists}
use Rattle.psdl_check.specs.declared.key_rows.KeyIds.{KeyIds}
use Rattle.psdl_check.specs.declared.key_rows.OwnKey.{OwnKey}
use Rattle.psdl_check.specs.inner.KeyIds.{own_views, HaveIds}

module _ {Z : Type 0} where
  abbrev pub row_in : List (Vec OwnKey Z) → ℕ → List OwnKey
  row_in rows n = get_or (map (λ v. v.items) rows) n []

  -- those of the first so many declarations
  pub record AreRowsTo (all : List Declaration) (ids : KeyIds) (rows : List (Vec OwnKey Z)) (count : ℕ) : Type 0 where
    pub sized : length rows ≡ count
    pub views : (n : ℕ) → n < count → own_views (row_in rows n) ≡ own_lists kinds.Key all n
    pub numbered : (n : ℕ) → HaveIds ids (row_in rows n)

  abbrev pub AreRows : List Declaration → KeyIds → List (Vec OwnKey Z) → Type 0
  AreRows all ids rows = AreRowsTo all ids rows (length all)
