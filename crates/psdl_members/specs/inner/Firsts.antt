-- The first list that came with each name.
use Rattle.std.specs.Prelude.{◌≡◌, ℕ, List, Bool, true, ◌==◌, ◌&&◌}
use Rattle.std.specs.List.{list_all, list_any}
use Rattle.std.proofs.Common.{get_or}
use Rattle.psdl_lineage.specs.inner.Walking.{is_marked}
use Rattle.psdl_members.specs.declared.entry.Entry.{Entry}

abbrev pub is_first : List Bool → List ℕ → Entry → Bool
is_first marks lists e = is_marked marks e.name && (get_or lists e.name 0 == e.list)

abbrev pub is_entry : ℕ → ℕ → Entry → Bool
is_entry name list e = e.name == name && e.list == list

-- all of these have the first list of their name, and first lists came with one of these
pub record AreFirsts (marks : List Bool) (lists : List ℕ) (es : List Entry) : Type 0 where
  pub each : list_all (is_first marks lists) es ≡ true
  pub from : (name : ℕ) → is_marked marks name ≡ true → list_any (is_entry name (get_or lists name 0)) es ≡ true
