-- The keys of homes can be asked for.
use Rattle.std.specs.Prelude.{◌≡◌, ℕ, List, [], length, false}
use Rattle.psdl_directory.specs.Declarations.{Declaration}
use Rattle.psdl_lineage.specs.Lineages.{text_of}
use Rattle.psdl_lineage.specs.Sources.{is_own}
use Rattle.psdl_check.specs.declared.home_keys.HomeKeys.{HomeKeys}
use Rattle.psdl_check.specs.declared.key_rows.KeyRows.{KeyRows}
use Rattle.psdl_check.specs.inner.Gathered.{FitsIds}
use Rattle.psdl_check.specs.inner.KeyRowed.{row_in}

-- what is not flagged has no key, and there are marks for all numbers
pub record IsKeyed (all : List Declaration) (rows : KeyRows) (k : HomeKeys) : Type 0 where
  pub text : text_of k.lineage.now ≡ all
  pub flagged : (n : ℕ) → is_own k.sources.own n ≡ false → row_in rows.rows.items n ≡ []
  pub fits : FitsIds rows.ids (length k.marks)
