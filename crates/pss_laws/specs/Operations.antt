-- What single operations owe.
use Rattle.std.specs.Prelude.{ℕ, ◌≡◌, ◌==◌, false, IsTrue, IsSome, List, None}
use Rattle.std.specs.FinMap.{get}
use Rattle.type_layout.specs.declared.schema.Schema.{Schema}
use Rattle.type_layout.specs.Schemas.{home_at}
use Rattle.pss_catalog.specs.Catalog.{Catalog, IsUnique}
use Rattle.pss_catalog.specs.Changes.{Change, over}
use Rattle.pss_machine.specs.declared.level.Level.{Level}
use Rattle.pss_machine.specs.declared.level.Level.TheVariants.{Serializable}
use Rattle.pss_machine.specs.declared.lock.Resource.{Resource}
use Rattle.pss_machine.specs.Operations.{Count, ListOf, PlainOp, Create, Ask}
use Rattle.pss_machine.specs.Alone.{alone}
use Rattle.pss_machine.specs.Needs.{needs}
use Rattle.pss_laws.specs.Alike.{Alike, AllAlike}
use Rattle.pss_laws.specs.Within.{Among, is_changed, LieWithin}

-- objects are counted and listed of homes that are there
abbrev pub AsksOfHomes : Schema → PlainOp → Type 0
AsksOfHomes S (Ask (Count h)) = IsSome (home_at S h)
AsksOfHomes S (Ask (ListOf h)) = IsSome (home_at S h)
AsksOfHomes S _ = Unit {0}

-- on two catalogs that are alike in all that is needed, the answer, the changes and the needs are the same
abbrev pub AnswersAreAlike : Type 0
AnswersAreAlike =
    (S : Schema) (M N : Catalog) (op : PlainOp) → AsksOfHomes S op → IsUnique S M → IsUnique S N → AllAlike S M N (needs S Serializable M op)
    → (alone S M op ≡ alone S N op) × (needs S Serializable M op ≡ needs S Serializable N op)

-- the serial of a create has no object yet
abbrev pub IsNewIn : Catalog → PlainOp → Type 0
IsNewIn M (Create serial object) = get M serial ≡ None
IsNewIn M _ = Unit {0}

-- what changes is needed to be changed, at every level
abbrev pub ChangesAreNeeded : Type 0
ChangesAreNeeded = (S : Schema) (level : Level) (M : Catalog) (op : PlainOp) → IsNewIn M op → LieWithin S M (alone S M op).changes (Among (needs S level M op))

-- no key gets a second holder
abbrev pub UniqueStaysUnique : Type 0
UniqueStaysUnique = (S : Schema) (M : Catalog) (op : PlainOp) → IsUnique S M → IsUnique S (over M (alone S M op).changes)

-- changes that leave a catalog alike at a resource do so with each other one where the objects that they change are the same
abbrev pub ChangesLeaveAlike : Type 0
ChangesLeaveAlike =
    (S : Schema) (M N : Catalog) (cs : List Change) (r : Resource) → ((s : ℕ) → IsTrue (is_changed cs s) → get M s ≡ get N s) → Alike S M (over M cs) r → Alike S N (over N cs) r

-- catalogs that are alike at a resource are so after the same changes
abbrev pub AlikeAfterBoth : Type 0
AlikeAfterBoth = (S : Schema) (M N : Catalog) (cs : List Change) (r : Resource) → Alike S M N r → Alike S (over M cs) (over N cs) r

-- another serial than that of a create
abbrev pub IsApartFrom : ℕ → PlainOp → Type 0
IsApartFrom s (Create serial object) = (s == serial) ≡ false
IsApartFrom s _ = Unit {0}

-- no serial gets an object but by its create
abbrev pub OnlyCreatesGive : Type 0
OnlyCreatesGive = (S : Schema) (M : Catalog) (op : PlainOp) (s : ℕ) → IsApartFrom s op → get M s ≡ None → get (over M (alone S M op).changes) s ≡ None
