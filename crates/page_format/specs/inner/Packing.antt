-- The entries that were packed so far.
use Rattle.std.specs.Prelude.{ℕ, ◌≡◌, ◌≤◌, List, [], ◌∷◌, ◌++◌, slice_range, take, IfSome}
use Rattle.pss_base.specs.declared.put.Put.{Put}
use Rattle.page_format.specs.Objects.{entries_left}
use Rattle.page_format.specs.Pages.{Entry}
use Rattle.page_format.specs.Packing.{AreClosed, AreFilled, AreInARow, entries_on, used_by}
use Rattle.page_format.specs.declared.packing.Filling.{Filling}

-- these entries are in the pages that are closed and in the last one, of which so many octets are in use
pub record ArePackedSoFar (es : List Entry) (closed : List (List Entry)) (last : List Entry) (used : ℕ) : Type 0 where
  pub all : entries_on closed ++ last ≡ es
  pub begun : last ≡ [] → closed ≡ []
  pub used_ : used_by last ≡ used
  pub most : used ≤ 16344
  pub filled : AreFilled closed
  pub closed_ : AreClosed (closed ++ last ∷ [])

-- the entries of changes are in the pages that are closed and in the one that is being filled, up to its end
pub record AreFilledUpTo (puts : List Put) (closed : List (List Entry)) (filling : Filling) : Type 0 where
  pub begun : filling.start ≤ filling.end
  pub packed : ArePackedSoFar (entries_left (take filling.end puts)) closed (entries_left (slice_range puts filling.start filling.end)) filling.used
  pub row : IfSome filling.row (λ first. AreInARow first (entries_left (slice_range puts filling.start filling.end)))
