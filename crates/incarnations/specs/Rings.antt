-- How entries stand in rings.
use Rattle.std.specs.Prelude.{◌≡◌, ◌↔◌, Some, IsSome}
use Rattle.std.specs.FinMap.{get}
use Rattle.link_pool.specs.Meaning.{Meaning as Pool, item_in}
use Rattle.link_pool.specs.declared.names.Node.{Node}
use Rattle.link_pool.specs.declared.names.Seat.{Seat}
use Rattle.incarnations.specs.declared.names.Slot.{Slot}
use Rattle.incarnations.specs.declared.names.BodyName.{BodyName}
use Rattle.incarnations.specs.Meaning.{Meaning, body_under}

-- an entry is a node
pub record HasNode (p : Pool Slot) (x : Slot) : Type 0 where
  pub node : Node
  pub item : item_in p node ≡ Some x

-- each entry is one node, and there are no others; the nodes of a session are a column; those whose entries stand on
-- one body are a row
pub record AreCopyRings (m : Meaning) (p : Pool Slot) : Type 0 where
  pub entries : (x : Slot) → IsSome (get m.entries x) → HasNode p x
  pub nodes : (a : Node) (x : Slot) → item_in p a ≡ Some x → IsSome (get m.entries x)
  pub once : (a b : Node) (x : Slot) → item_in p a ≡ Some x → item_in p b ≡ Some x → a ≡ b
  pub cols : (a b : Node) (s t : Seat Slot) → get p.nodes a ≡ Some s → get p.nodes b ≡ Some t → (s.col ≡ t.col) ↔ (s.item.session ≡ t.item.session)
  pub rows : (a b : Node) (s t : Seat Slot) (c : BodyName) → get p.nodes a ≡ Some s → get p.nodes b ≡ Some t → body_under m s.item ≡ Some c → (s.row ≡ t.row) ↔ (body_under m t.item ≡ Some c)
