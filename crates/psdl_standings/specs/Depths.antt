-- Types that nest too deep.
use Rattle.std.specs.Prelude.{ℕ, List, Bool, false, nat_lt}
use Rattle.type_layout.specs.Schemas.{given}
use Rattle.psdl_directory.specs.Declarations.{Declaration}
use Rattle.psdl_directory.specs.Lookup.{at}
use Rattle.psdl_standings.specs.Nesting.{nesting_of}
use Rattle.psdl_standings.specs.Standings.{Standing}

-- the nesting that a typedef's declarator or a struct spells is over 32
abbrev pub is_deep : List Declaration → List Standing → ℕ → Bool
is_deep all done n = given (nesting_of all done n (at all n).path (at all n).what) false (λ k. nat_lt 32 k)
