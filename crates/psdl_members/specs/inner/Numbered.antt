-- Names by number, in small letters.
use Rattle.std.specs.Prelude.{◌≡◌, ℕ, ◌+◌, List, length, map, Bool, false, ◌==◌, Option, Some}
use Rattle.std.specs.List.{flat_map}
use Rattle.type_layout.specs.Sound.{are_distinct}
use Rattle.psdl_directory.specs.declared.spellings.Spellings.{Spellings}
use Rattle.psdl_directory.specs.Declarations.{Declaration}
use Rattle.psdl_directory.specs.Lookup.{lower}
use Rattle.psdl_directory.specs.Spelled.{number_of}
use Rattle.psdl_lineage.specs.Descent.{StateMember}
use Rattle.psdl_lineage.specs.Sources.{is_own}
use Rattle.psdl_members.specs.Bodies.{own_members}
use Rattle.psdl_members.specs.Clashes.{members_clash}
use Rattle.psdl_members.specs.inner.Flat.{flat, begins, piece_of}

abbrev pub small_number : Spellings → StateMember → Option ℕ
small_number s m = number_of s (lower m.name.name)

-- the numbers of the names of all members, declaration by declaration
pub record AreNumberedBy (all : List Declaration) (s : Spellings) (numbers starts : List ℕ) : Type 0 where
  pub numbers_are : map (λ n. Some n) numbers ≡ map (small_number s) (flat (own_members all) (length all))
  pub starts_are : starts ≡ begins (own_members all) (length all + 1)

-- each member has one, and of the members of some declarations two clash exactly where two of their numbers are equal
pub record AreNumbered (all : List Declaration) (numbers starts : List ℕ) : Type 0 where
  pub as_many : (n : ℕ) → length (piece_of starts n numbers) ≡ length (own_members all n)
  pub alike : (ns : List ℕ) → are_distinct (λ a b. a == b) (flat_map (λ n. piece_of starts n numbers) ns) ≡ are_distinct members_clash (flat_map (own_members all) ns)

-- the same of whatever text these members are, one behind the other
abbrev pub AreNumberedAs : List StateMember → List ℕ → List ℕ → List ℕ → Type 0
AreNumberedAs ms begin numbers starts = (all : List Declaration) → ms ≡ flat (own_members all) (length all) → begin ≡ begins (own_members all) (length all + 1) → AreNumbered all numbers starts

-- where the flag is not set, there are none
abbrev pub AreOwners : List Declaration → List Bool → Type 0
AreOwners all own = (n : ℕ) → is_own own n ≡ false → length (own_members all n) ≡ 0
