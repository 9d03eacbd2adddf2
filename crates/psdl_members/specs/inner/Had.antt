-- What declarations have in their bodies, by number.
use Rattle.std.specs.Prelude.{◌≡◌, ℕ, ◌≤◌, List, [], length, Bool, false, ◌||◌, nat_lt}
use Rattle.psdl_directory.specs.Declarations.{Declaration}
use Rattle.psdl_lineage.specs.Sources.{is_own}
use Rattle.psdl_members.specs.declared.list_kind.ListKind.TheVariants as kinds
use Rattle.psdl_members.specs.declared.own.Listings.{Listings}
use Rattle.psdl_members.specs.declared.own.Own.{Own}
use Rattle.psdl_members.specs.declared.firsts.Firsts.{Firsts}
use Rattle.psdl_members.specs.inner.Clashing.{ClashAlike}
use Rattle.psdl_members.specs.inner.Flat.{piece_of}
use Rattle.psdl_members.specs.inner.Numbered.{AreNumbered, AreOwners}
use Rattle.psdl_members.specs.inner.Room.{HasRoom}
use Rattle.psdl_members.specs.inner.Rowed.{row_of}

pub record AreListsHad (all : List Declaration) (l : Listings) : Type 0 where
  pub keyed : ClashAlike kinds.Key all l.keys
  pub made : ClashAlike kinds.Factory all l.factories
  pub no_key : (n : ℕ) → length all ≤ n → row_of l.keys n ≡ []
  pub no_factory : (n : ℕ) → length all ≤ n → row_of l.factories n ≡ []

pub record AreHad (all : List Declaration) (o : Own) : Type 0 where
  pub numbered : AreNumbered all o.names.numbers.items o.names.starts.items
  pub listed : AreListsHad all o.lists

abbrev pub has_some : {A : Type 0} → List A → Bool
has_some xs = nat_lt 0 (length xs)

abbrev pub has_own : Own → ℕ → Bool
has_own o n = has_some (piece_of o.names.starts.items n o.names.numbers.items) || (has_some (row_of o.lists.keys n) || has_some (row_of o.lists.factories n))

-- where the flag is not set, there is nothing
pub record AreFlags (all : List Declaration) (o : Own) (own : List Bool) : Type 0 where
  pub members : AreOwners all own
  pub keys : (n : ℕ) → is_own own n ≡ false → row_of o.lists.keys n ≡ []
  pub factories : (n : ℕ) → is_own own n ≡ false → row_of o.lists.factories n ≡ []

-- the numbers of all names are less than that
pub record IsMost (o : Own) (most : ℕ) : Type 0 where
  pub members : o.names.names ≤ most
  pub keys : o.lists.keys.names ≤ most
  pub factories : o.lists.factories.names ≤ most

-- there is room for all names
pub record Fits (o : Own) (f : Firsts) : Type 0 where
  pub members : o.names.names ≤ length f.marks
  pub keys : HasRoom f o.lists.keys.names
  pub factories : HasRoom f o.lists.factories.names
