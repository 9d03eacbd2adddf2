-- What callers know of a pool's rings: their first nodes, and what a node that comes in or goes out leaves.
use Rattle.std.proofs.Common.{ℕ, ◌≡◌, ◌≢◌, ◌+◌, ⊎_elim, List, [], ◌∷◌, ◌++◌, length, Option, Some, None, IsSome, slice_get, refl, sym, ap, ◌∙◌, subst, arith}
use Rattle.std.specs.Prelude.{Contains, MatchOption, IsSomeAnd}
use Rattle.std.specs.declared.cmp.Ordering.{Ordering}
use Rattle.std.specs.Option.{option_map, option_and_then, unwrap_or}
use Rattle.std.specs.FinMap as map
use Rattle.std.proofs.lemmas.Bool.{cases_eq}
use Rattle.link_pool.specs.Names.{row_named, col_named, node_named}
use Rattle.link_pool.specs.Rings.{without, list_in, first_in, AreHomes}
use Rattle.link_pool.specs.Meaning.{Meaning, row_in, col_in, first_seat, inserted, put_ahead, unlinked, AreRings}
use Rattle.link_pool.specs.declared.names.Row.{Row}
use Rattle.link_pool.specs.declared.names.Col.{Col}
use Rattle.link_pool.specs.declared.names.Node.{Node}
use Rattle.link_pool.specs.declared.names.Seat.{Seat}
use Rattle.link_pool.proofs.Maps.{by_number, get-here, get-there, stays}
use Rattle.link_pool.proofs.NodeLists.{AreDistinct, without-absent, length-without, without-first, one_value}
use Rattle.link_pool.proofs.Sound.{no_value, nothing}

module _ {K : Type 0} {R : K → K → Ordering} (rings : map.FinMap R (List Node)) (ring : K) where
  -- a ring with no node
  pub bare : IsSome (map.get rings ring) → list_in rings ring ≡ [] → map.get rings ring ≡ Some []
  bare there none = by (map.get rings ring) refl there none
    where
      by : (o : Option (List Node)) → map.get rings ring ≡ o → IsSome o → unwrap_or o [] ≡ [] → map.get rings ring ≡ Some []
      by None is h e = nothing h
      by (Some nodes) is h e = is ∙ ap Some e

  pub no_first : first_in rings ring ≡ None → list_in rings ring ≡ []
  no_first e = by (list_in rings ring) refl e
    where
      by : (xs : List Node) → list_in rings ring ≡ xs → slice_get xs 0 ≡ None → list_in rings ring ≡ []
      by [] is g = is
      by (x ∷ xs) is g = no_value x (sym g)

  -- a ring begins with this node
  pub record Begins (node : Node) : Type 0 where
    pub rest : List Node
    pub is : list_in rings ring ≡ node ∷ rest

  pub begins : (node : Node) → first_in rings ring ≡ Some node → Begins node
  begins node e = by (list_in rings ring) refl e
    where
      by : (xs : List Node) → list_in rings ring ≡ xs → slice_get xs 0 ≡ Some node → Begins node
      by [] is g = no_value node g
      by (x ∷ xs) is g = record { rest = xs; is = is ∙ ap (λ n. n ∷ xs) (one_value g) }

  pub first_stands : (node : Node) → first_in rings ring ≡ Some node → Contains (list_in rings ring) node
  first_stands node e = let b = begins node e in subst (λ l. Contains l node) (sym b.is) (0, omega arith, refl)

  module _ (home : Node → Option K) (homes : AreHomes rings home) where
    -- the first node of a ring is at home there
    pub first_home : (node : Node) → first_in rings ring ≡ Some node → home node ≡ Some ring
    first_home node e = homes.only ring node (first_stands node e)

    -- a ring in which no node is at home
    pub nobody_home : IsSome (map.get rings ring) → ((node : Node) → home node ≢ Some ring) → map.get rings ring ≡ Some []
    nobody_home there none = bare there (by (first_in rings ring) refl)
      where
        by : (o : Option Node) → first_in rings ring ≡ o → list_in rings ring ≡ []
        by None e = no_first e
        by (Some node) e = absurd (none node (first_home node e))

    -- the rest of a ring, without its first
    pub without_first : (node : Node) (rest : List Node) → list_in rings ring ≡ node ∷ rest → without node (list_in rings ring) ≡ rest
    without_first node rest is = ap (without node) is ∙ without-first node rest (subst AreDistinct is (homes.once ring))

module _ {K : Type 0} (number : K → ℕ) (name : ℕ → K) (named : (k : K) → name (number k) ≡ k) (numbered : (n : ℕ) → number (name n) ≡ n) where
  other_number : (a b : K) → a ≢ b → number a ≡ number b → ⊥
  other_number a b ne e = ne (sym (named a) ∙ ap name e ∙ named b)

  module _ (rings : map.FinMap (by_number number name named numbered) (List Node)) (k : K) (nodes : List Node) where
    list-here : list_in (map.insert rings k nodes) k ≡ nodes
    list-here = ap (λ o. unwrap_or o []) (get-here number name named numbered (Some nodes) k k rings refl)

    list-there : (q : K) → q ≢ k → list_in (map.insert rings k nodes) q ≡ list_in rings q
    list-there q ne = ap (λ o. unwrap_or o []) (get-there number name named numbered (Some nodes) k q rings (other_number q k ne))

  -- a node goes out of its ring, and stands in no other
  list-gone : (rings : map.FinMap (by_number number name named numbered) (List Node)) (home : Node → Option K) → AreHomes rings home → (node : Node) (k : K) → home node ≡ Some k
      → (q : K) → list_in (map.insert rings k (without node (list_in rings k))) q ≡ without node (list_in rings q)
  list-gone rings home homes node k at q =
      ⊎_elim
      (λ e. let same : q ≡ k = sym (named q) ∙ ap name e ∙ named k in
      subst (λ z. list_in (map.insert rings k (without node (list_in rings k))) z ≡ without node (list_in rings z)) (sym same) (list-here rings k (without node (list_in rings k))))
      (λ ne. list-there rings k (without node (list_in rings k)) q (λ e. ne (ap number e))
      ∙ sym (without-absent node (list_in rings q) (λ m. ne (ap number (one_value (sym (homes.only q node m) ∙ at))))))
      (cases_eq (number q) (number k))

module _ {T : Type 0} (p : Meaning T) (node : Node) (seat : Seat T) where
  -- after a node came in

  pub row_list-inserted : list_in (inserted p node seat).rows seat.row ≡ list_in p.rows seat.row ++ node ∷ []
  row_list-inserted = list-here (λ r. r.number) row_named (λ k. refl) (λ n. refl) p.rows seat.row (list_in p.rows seat.row ++ node ∷ [])

  pub col_list-inserted : list_in (inserted p node seat).cols seat.col ≡ list_in p.cols seat.col ++ node ∷ []
  col_list-inserted = list-here (λ r. r.number) col_named (λ k. refl) (λ n. refl) p.cols seat.col (list_in p.cols seat.col ++ node ∷ [])

  pub row_list-inserted_other : (q : Row) → q ≢ seat.row → list_in (inserted p node seat).rows q ≡ list_in p.rows q
  row_list-inserted_other = list-there (λ r. r.number) row_named (λ k. refl) (λ n. refl) p.rows seat.row (list_in p.rows seat.row ++ node ∷ [])

  pub col_list-inserted_other : (q : Col) → q ≢ seat.col → list_in (inserted p node seat).cols q ≡ list_in p.cols q
  col_list-inserted_other = list-there (λ r. r.number) col_named (λ k. refl) (λ n. refl) p.cols seat.col (list_in p.cols seat.col ++ node ∷ [])

  pub row_stays-inserted : (q : Row) → IsSome (map.get p.rows q) → IsSome (map.get (inserted p node seat).rows q)
  row_stays-inserted q = stays (λ r. r.number) row_named (λ k. refl) (λ n. refl) p.rows seat.row q (list_in p.rows seat.row ++ node ∷ [])

  pub col_stays-inserted : (q : Col) → IsSome (map.get p.cols q) → IsSome (map.get (inserted p node seat).cols q)
  col_stays-inserted q = stays (λ r. r.number) col_named (λ k. refl) (λ n. refl) p.cols seat.col q (list_in p.cols seat.col ++ node ∷ [])

  pub seat-inserted : map.get (inserted p node seat).nodes node ≡ Some seat
  seat-inserted = get-here (λ n. n.number) node_named (λ k. refl) (λ n. refl) (Some seat) node node p.nodes refl

  pub seat-inserted_other : (q : Node) → q ≢ node → map.get (inserted p node seat).nodes q ≡ map.get p.nodes q
  seat-inserted_other q ne = get-there (λ n. n.number) node_named (λ k. refl) (λ n. refl) (Some seat) node q p.nodes (λ e. ne (ap node_named e))

  -- after a node came in, last in its row and first in its column

  pub row_list-ahead : list_in (put_ahead p node seat).rows seat.row ≡ list_in p.rows seat.row ++ node ∷ []
  row_list-ahead = row_list-inserted

  pub col_list-ahead : list_in (put_ahead p node seat).cols seat.col ≡ node ∷ list_in p.cols seat.col
  col_list-ahead = list-here (λ r. r.number) col_named (λ k. refl) (λ n. refl) p.cols seat.col (node ∷ list_in p.cols seat.col)

  pub row_list-ahead_other : (q : Row) → q ≢ seat.row → list_in (put_ahead p node seat).rows q ≡ list_in p.rows q
  row_list-ahead_other = row_list-inserted_other

  pub col_list-ahead_other : (q : Col) → q ≢ seat.col → list_in (put_ahead p node seat).cols q ≡ list_in p.cols q
  col_list-ahead_other = list-there (λ r. r.number) col_named (λ k. refl) (λ n. refl) p.cols seat.col (node ∷ list_in p.cols seat.col)

  pub row_stays-ahead : (q : Row) → IsSome (map.get p.rows q) → IsSome (map.get (put_ahead p node seat).rows q)
  row_stays-ahead = row_stays-inserted

  pub col_stays-ahead : (q : Col) → IsSome (map.get p.cols q) → IsSome (map.get (put_ahead p node seat).cols q)
  col_stays-ahead q = stays (λ r. r.number) col_named (λ k. refl) (λ n. refl) p.cols seat.col q (node ∷ list_in p.cols seat.col)

  pub seat-ahead : map.get (put_ahead p node seat).nodes node ≡ Some seat
  seat-ahead = seat-inserted

  pub seat-ahead_other : (q : Node) → q ≢ node → map.get (put_ahead p node seat).nodes q ≡ map.get p.nodes q
  seat-ahead_other = seat-inserted_other

  -- it is the first of its column
  pub first-ahead : first_in (put_ahead p node seat).cols seat.col ≡ Some node
  first-ahead = ap (λ (l : List Node). slice_get l 0) col_list-ahead

  -- after a node went out

  pub seat-unlinked : map.get (unlinked p node seat).nodes node ≡ None
  seat-unlinked = get-here (λ n. n.number) node_named (λ k. refl) (λ n. refl) None node node p.nodes refl

  pub seat-unlinked_other : (q : Node) → q ≢ node → map.get (unlinked p node seat).nodes q ≡ map.get p.nodes q
  seat-unlinked_other q ne = get-there (λ n. n.number) node_named (λ k. refl) (λ n. refl) None node q p.nodes (λ e. ne (ap node_named e))

  pub row_stays-unlinked : (q : Row) → IsSome (map.get p.rows q) → IsSome (map.get (unlinked p node seat).rows q)
  row_stays-unlinked q = stays (λ r. r.number) row_named (λ k. refl) (λ n. refl) p.rows seat.row q (without node (list_in p.rows seat.row))

  pub col_stays-unlinked : (q : Col) → IsSome (map.get p.cols q) → IsSome (map.get (unlinked p node seat).cols q)
  col_stays-unlinked q = stays (λ r. r.number) col_named (λ k. refl) (λ n. refl) p.cols seat.col q (without node (list_in p.cols seat.col))

  module _ (rings : AreRings p) (at : map.get p.nodes node ≡ Some seat) where
    pub row_is : row_in p node ≡ Some seat.row
    row_is = ap (option_map (λ s. s.row)) at

    pub col_is : col_in p node ≡ Some seat.col
    col_is = ap (option_map (λ s. s.col)) at

    -- every row is without the node
    pub row_list-unlinked : (q : Row) → list_in (unlinked p node seat).rows q ≡ without node (list_in p.rows q)
    row_list-unlinked = list-gone (λ r. r.number) row_named (λ k. refl) (λ n. refl) p.rows (row_in p) rings.rows node seat.row row_is

    -- every column is without the node
    pub col_list-unlinked : (q : Col) → list_in (unlinked p node seat).cols q ≡ without node (list_in p.cols q)
    col_list-unlinked = list-gone (λ r. r.number) col_named (λ k. refl) (λ n. refl) p.cols (col_in p) rings.cols node seat.col col_is

    pub row_length-unlinked : length (list_in (unlinked p node seat).rows seat.row) + 1 ≡ length (list_in p.rows seat.row)
    row_length-unlinked = omega (arith, ap length (row_list-unlinked seat.row), length-without node (list_in p.rows seat.row) (rings.rows.once seat.row) (rings.rows.found seat.row node row_is))

    pub col_length-unlinked : length (list_in (unlinked p node seat).cols seat.col) + 1 ≡ length (list_in p.cols seat.col)
    col_length-unlinked = omega (arith, ap length (col_list-unlinked seat.col), length-without node (list_in p.cols seat.col) (rings.cols.once seat.col) (rings.cols.found seat.col node col_is))

-- the first node of a ring went out
pub record TakesFirst {T : Type 0} {K X : Type 0} {R : K → K → Ordering} (old new : Meaning T) (rings : map.FinMap R (List Node)) (ring : K) (home : Seat T → K) (tell : Seat T → X) (told : X) : Type 0 where
  pub node : Node
  pub seat : Seat T
  pub rest : List Node
  pub list : list_in rings ring ≡ node ∷ rest
  pub at : map.get old.nodes node ≡ Some seat
  pub own : home seat ≡ ring
  pub tells : tell seat ≡ told
  pub left : new ≡ unlinked old node seat

-- Of `take_first_of_col`: rings are `old.cols`, home is `λ seat. seat.col`, tell is `row_and_item`. Of `take_first_of_row`: likewise with rows.
module _ {T : Type 0} {K X : Type 0} {R : K → K → Ordering} (old new : Meaning T) (rings : map.FinMap R (List Node)) (ring : K) (home : Seat T → K) (tell : Seat T → X)
    (homes : AreHomes rings (λ node. option_map home (map.get old.nodes node)))
    (left : MatchOption (first_in rings ring) (new ≡ old) (λ node. IsSomeAnd (map.get old.nodes node) (λ seat. new ≡ unlinked old node seat))) where
  -- by the clauses of the call, where it answered something
  pub takes_first : (told : X) → Some told ≡ option_map tell (first_seat old rings ring) → TakesFirst old new rings ring home tell told
  takes_first told answer = by (first_in rings ring) refl answer left
    where
      seated : (node : Node) (s : Option (Seat T)) → first_in rings ring ≡ Some node → map.get old.nodes node ≡ s → Some told ≡ option_map tell s → IsSomeAnd s (λ seat. new ≡ unlinked old node seat)
          → TakesFirst old new rings ring home tell told
      seated node None first at a l = no_value told (sym a)
      seated node (Some seat) first at a l = record {
        node = node;
        seat = seat;
        rest = (begins rings ring node first).rest;
        list = (begins rings ring node first).is;
        at = at;
        own = one_value (sym (ap (option_map home) at) ∙ first_home rings ring _ homes node first);
        tells = one_value (sym a);
        left = l;
      }

      by : (o : Option Node) → first_in rings ring ≡ o → Some told ≡ option_map tell (option_and_then (map.get old.nodes) o)
          → MatchOption o (new ≡ old) (λ node. IsSomeAnd (map.get old.nodes node) (λ seat. new ≡ unlinked old node seat)) → TakesFirst old new rings ring home tell told
      by None is a l = no_value told (sym a)
      by (Some node) is a l = seated node (map.get old.nodes node) is refl a l

  -- by the clauses of the call, where it answered nothing: the ring has no node
  pub takes_nothing : None ≡ option_map tell (first_seat old rings ring) → (list_in rings ring ≡ []) × (new ≡ old)
  takes_nothing answer = by (first_in rings ring) refl answer left
    where
      seated : (node : Node) (s : Option (Seat T)) → first_in rings ring ≡ Some node → map.get old.nodes node ≡ s → None ≡ option_map tell s → (list_in rings ring ≡ []) × (new ≡ old)
      seated node None first at a = no_value ring (sym (ap (option_map home) at) ∙ first_home rings ring _ homes node first)
      seated node (Some seat) first at a = no_value (tell seat) a

      by : (o : Option Node) → first_in rings ring ≡ o → None ≡ option_map tell (option_and_then (map.get old.nodes) o)
          → MatchOption o (new ≡ old) (λ node. IsSomeAnd (map.get old.nodes node) (λ seat. new ≡ unlinked old node seat)) → (list_in rings ring ≡ []) × (new ≡ old)
      by None is a l = (no_first rings ring is, l)
      by (Some node) is a l = seated node (map.get old.nodes node) is refl a
