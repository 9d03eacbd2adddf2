-- What a pool has: the list of nodes of each row and of each column, the seat of each node, and the room.
use Rattle.std.specs.Prelude.{ℕ, ◌+◌, ◌-◌, ◌<◌, ◌^◌, List, [], ◌∷◌, ◌++◌, map, length, Option, refl}
use Rattle.std.specs.declared.cmp.Ordering.{Ordering}
use Rattle.std.specs.Option.{option_map, option_and_then}
use Rattle.std.specs.Coded.{Coded, code_by, coded×, coded_ℕ, coded_list}
use Rattle.std.specs.FinMap as map
use Rattle.link_pool.specs.Names.{row_cmp, col_cmp, node_cmp, row_code, col_code, node_code}
use Rattle.link_pool.specs.Rings.{without, list_in, first_in, AreHomes}
use Rattle.link_pool.specs.declared.names.Row.{Row}
use Rattle.link_pool.specs.declared.names.Col.{Col}
use Rattle.link_pool.specs.declared.names.Node.{Node}
use Rattle.link_pool.specs.declared.names.Seat.{Seat}

-- room is the number of nodes that may come in without memory
pub record Meaning (T : Type 0) : Type 0 where
  pub rows : map.FinMap row_cmp (List Node)
  pub cols : map.FinMap col_cmp (List Node)
  pub nodes : map.FinMap node_cmp (Seat T)
  pub room : ℕ

-- a seat is stored as the tuple of its parts
abbrev pub seat_code : {T : Type 0} → Coded T → Coded (Seat T)
seat_code {T} code =
    code_by (Row × (Col × T)) (coded× row_code (coded× col_code code)) (λ s. (s.row, (s.col, s.item))) (λ q. record { row = q.0; col = q.1.0; item = q.1.1 }) (λ _. refl)

-- a meaning is stored as the tuple of its parts
abbrev pub meaning_code : {T : Type 0} → Coded T → Coded (Meaning T)
meaning_code {T} code =
    code_by
    (map.FinMap row_cmp (List Node) × (map.FinMap col_cmp (List Node) × (map.FinMap node_cmp (Seat T) × ℕ)))
    (coded× (map.code row_code (coded_list node_code)) (coded× (map.code col_code (coded_list node_code)) (coded× (map.code node_code (seat_code code)) coded_ℕ)))
    (λ p. (p.rows, (p.cols, (p.nodes, p.room))))
    (λ q. record { rows = q.0; cols = q.1.0; nodes = q.1.1.0; room = q.1.1.1 })
    (λ _. refl)

module _ {T : Type 0} where
  -- no row, no column, no node, and no room
  abbrev pub empty_pool : Meaning T
  empty_pool = record { rows = map.empty; cols = map.empty; nodes = map.empty; room = 0 }

  -- the row of a node
  abbrev pub row_in : Meaning T → Node → Option Row
  row_in p node = option_map (λ seat. seat.row) (map.get p.nodes node)

  -- the column of a node
  abbrev pub col_in : Meaning T → Node → Option Col
  col_in p node = option_map (λ seat. seat.col) (map.get p.nodes node)

  -- the item of a node
  abbrev pub item_in : Meaning T → Node → Option T
  item_in p node = option_map (λ seat. seat.item) (map.get p.nodes node)

  -- the seat of the first node of a ring
  abbrev pub first_seat : {K : Type 0} {R : K → K → Ordering} → Meaning T → map.FinMap R (List Node) → K → Option (Seat T)
  first_seat p rings ring = option_and_then (map.get p.nodes) (first_in rings ring)

  -- the same seat in another row
  abbrev pub in_row : Row → Seat T → Seat T
  in_row row seat = record seat { row = row }

  -- what is told of a node that leaves a column
  abbrev pub row_and_item : Seat T → Row × T
  row_and_item seat = (seat.row, seat.item)

  -- what is told of a node that leaves a row
  abbrev pub col_and_item : Seat T → Col × T
  col_and_item seat = (seat.col, seat.item)

  -- each node stands once in the list of its row, once in that of its column, and in no other
  pub record AreRings (p : Meaning T) : Type 0 where
    pub rows : AreHomes p.rows (row_in p)
    pub cols : AreHomes p.cols (col_in p)

  -- fewer nodes than a word counts, in each ring and in all
  pub record IsCountable (p : Meaning T) : Type 0 where
    pub rows : (row : Row) → length (list_in p.rows row) < 2 ^ 64
    pub cols : (col : Col) → length (list_in p.cols col) < 2 ^ 64
    pub nodes : map.len p.nodes < 2 ^ 64

  -- the pool after a node came in, last in both its rings
  abbrev pub inserted : Meaning T → Node → Seat T → Meaning T
  inserted p node seat = record {
    rows = map.insert p.rows seat.row (list_in p.rows seat.row ++ node ∷ []);
    cols = map.insert p.cols seat.col (list_in p.cols seat.col ++ node ∷ []);
    nodes = map.insert p.nodes node seat;
    room = p.room - 1;
  }

  -- the pool after a node came in, last in its row and first in its column
  abbrev pub put_ahead : Meaning T → Node → Seat T → Meaning T
  put_ahead p node seat = record {
    rows = map.insert p.rows seat.row (list_in p.rows seat.row ++ node ∷ []);
    cols = map.insert p.cols seat.col (node ∷ list_in p.cols seat.col);
    nodes = map.insert p.nodes node seat;
    room = p.room - 1;
  }

  -- the pool after a node went out of both its rings
  abbrev pub unlinked : Meaning T → Node → Seat T → Meaning T
  unlinked p node seat = record {
    rows = map.insert p.rows seat.row (without node (list_in p.rows seat.row));
    cols = map.insert p.cols seat.col (without node (list_in p.cols seat.col));
    nodes = map.remove p.nodes node;
    room = p.room + 1;
  }
