-- Rings as lists of nodes.
use Rattle.std.specs.Prelude.{◌≡◌, ◌≢◌, List, [], ◌∷◌, Option, Some, None, IsSome, not, filter, slice_get, Contains, AllPairs, if◌then◌else◌}
use Rattle.std.specs.declared.cmp.Ordering.{Ordering}
use Rattle.std.specs.Option.{unwrap_or}
use Rattle.std.specs.FinMap as map
use Rattle.link_pool.specs.Names.{same_node}
use Rattle.link_pool.specs.declared.names.Node.{Node}

-- the nodes but this one
abbrev pub without : Node → List Node → List Node
without x nodes = filter (λ y. not (same_node y x)) nodes

-- the node right behind this one
abbrev pub following : Node → List Node → Option Node
following x [] = None
following x (y ∷ ys) = if same_node y x then slice_get ys 0 else following x ys

-- the nodes of a ring, and none where there is no such ring
abbrev pub list_in : {K : Type 0} {R : K → K → Ordering} → map.FinMap R (List Node) → K → List Node
list_in rings ring = unwrap_or (map.get rings ring) []

-- the first node of a ring
abbrev pub first_in : {K : Type 0} {R : K → K → Ordering} → map.FinMap R (List Node) → K → Option Node
first_in rings ring = slice_get (list_in rings ring) 0

-- a node stands once in the ring that is its home, and in no other
pub record AreHomes {K : Type 0} {R : K → K → Ordering} (rings : map.FinMap R (List Node)) (home : Node → Option K) : Type 0 where
  pub once : (ring : K) → AllPairs (λ a b. a ≢ b) (list_in rings ring)
  pub only : (ring : K) (node : Node) → Contains (list_in rings ring) node → home node ≡ Some ring
  pub there : (ring : K) (node : Node) → home node ≡ Some ring → IsSome (map.get rings ring)
  pub found : (ring : K) (node : Node) → home node ≡ Some ring → Contains (list_in rings ring) node
