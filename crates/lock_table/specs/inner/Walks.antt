-- Walks along a ring.
use Rattle.std.specs.Prelude.{List, [], ◌∷◌, Option, Some, None, if◌then◌else◌}
use Rattle.link_pool.specs.Names.{same_node}
use Rattle.link_pool.specs.declared.names.Node.{Node}

-- the nodes from this one on
abbrev pub ahead : Option Node → List Node → List Node
ahead None nodes = []
ahead (Some x) [] = []
ahead (Some x) (y ∷ ys) = if same_node y x then y ∷ ys else ahead (Some x) ys
