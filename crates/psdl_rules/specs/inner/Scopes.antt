-- The names of a scope.
use Rattle.std.specs.Prelude.{◌≡◌, ℕ, List, [], ◌∷◌, Bool}
use Rattle.std.specs.BTreeSet.{BTreeSet, contains_by}
use Rattle.std.specs.Cmp.Lexicographic.{slice_cmp}
use Rattle.std.specs.List.{list_any}
use Rattle.std.specs.Ordering.{nat_cmp}
use Rattle.std.specs.Str.{bytes_eq}
use Rattle.std.specs.declared.vec.Vec.{Vec}
use Rattle.psdl_tree.specs.declared.names.Identifier.{Identifier}

-- the name is one of them
abbrev pub has_name : {Z : Type 0} → BTreeSet (Vec ℕ Z) → List ℕ → Bool
has_name names name = contains_by (λ k. slice_cmp nat_cmp name k.items) names

-- the names of some identifiers, and no others
abbrev pub AreNames : {Z : Type 0} → BTreeSet (Vec ℕ Z) → List Identifier → Type 0
AreNames names identifiers = (q : List ℕ) → has_name names q ≡ list_any (λ j. bytes_eq q j.name) identifiers

-- the last first, in front of the earlier ones
abbrev pub behind : List Identifier → List Identifier → List Identifier
behind earlier [] = earlier
behind earlier (i ∷ is) = behind (i ∷ earlier) is
