-- What conforming means, step by step.
use Rattle.std.specs.Prelude.{ℕ, ◌↔◌, List, IsTrue}
use Rattle.psdl_directory.specs.Declarations.{Declaration}
use Rattle.psdl_directory.specs.Parts.{parents}
use Rattle.psdl_directory.specs.Lookup.{at}
use Rattle.psdl_lineage.specs.Descent.{has, definitions_of, conforms}

-- a definition conforms to itself, and to each to which one conforms that it names as a base or implements
pub data ConformsTo (all : List Declaration) : ℕ → ℕ → Type 0 where
  itself : (t : ℕ) → ConformsTo all t t
  by_parent : (t p u : ℕ) → IsTrue (has (definitions_of all t (parents (at all t).what)) p) → ConformsTo all p u → ConformsTo all t u

-- the lines of descent have just these, in a text with faults too
abbrev pub ConformingIsDescent : Type 0
ConformingIsDescent = (all : List Declaration) (t u : ℕ) → IsTrue (conforms all t u) ↔ ConformsTo all t u
