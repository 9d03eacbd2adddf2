-- A lock goes out of its rings.
use Rattle.std.proofs.Common.{ℕ, zero, suc, ◌≡◌, ◌+◌, ◌-◌, ◌≤◌, ◌⊎◌, inl, inr, ⊎_elim, [], length, Option, Some, None, IsSome, false, cond, refl, sym, ap, ◌∙◌, subst, arith}
use Rattle.std.specs.Prelude.{is_some, MatchOption}
use Rattle.std.specs.Option.{option_map, unwrap_or}
use Rattle.std.specs.FinMap as map
use Rattle.pss_base.specs.declared.owner.OwnerNo.{OwnerNo}
use Rattle.pss_machine.specs.declared.lock.Resource.{Resource}
use Rattle.pss_machine.specs.Needs.{same_resource}
use Rattle.link_pool.specs.Names.{node_cmp_total}
use Rattle.link_pool.specs.Meaning.{Meaning, item_in, unlinked, row_and_item, AreRings}
use Rattle.link_pool.specs.Rings.{list_in, without}
use Rattle.link_pool.specs.declared.names.Row.{Row}
use Rattle.link_pool.specs.declared.names.Col.{Col}
use Rattle.link_pool.specs.declared.names.Node.{Node}
use Rattle.link_pool.specs.declared.names.Seat.{Seat}
use Rattle.link_pool.proofs.RingChanges.{TakesFirst, bare, row_stays-unlinked, col_stays-unlinked, seat-unlinked, seat-unlinked_other, row_length-unlinked}
use Rattle.lock_table.specs.declared.links.Lock.{Lock}
use Rattle.lock_table.specs.declared.places.Place.{Place}
use Rattle.lock_table.specs.declared.places.FoundPlace.{FoundPlace}
use Rattle.lock_table.specs.declared.links.Links.{Links}
use Rattle.lock_table.specs.inner.Tables.{entry_at, key_at}
use Rattle.lock_table.specs.inner.Links.{IsLinked, IsFound, Recounts, Unlinks, same_owner, resource_in, owner_in, place_at, row_at, col_at}
use Rattle.lock_table.proofs.Sames.{resource-true, resource-self, owner-true, owner-self, cases, differ}
use Rattle.lock_table.proofs.Keyed.{one_value, no_value, empty_more}
use Rattle.lock_table.proofs.Kept.{row_came, col_came}
use Rattle.lock_table.proofs.Holding.{NodeOf, node_held, held_less}
use Rattle.lock_table.proofs.Added.{row_cases, col_cases, some_is}
use Rattle.lock_table.proofs.Linking.{node_cases}

-- a pool with a node has one or more
pub some_nodes : {T : Type 0} (p : Meaning T) (node : Node) (seat : Seat T) → map.get p.nodes node ≡ Some seat → 1 ≤ map.len p.nodes
some_nodes p node seat at = by (map.len p.nodes) refl
  where
    by : (n : ℕ) → map.len p.nodes ≡ n → 1 ≤ n
    by zero e = no_value seat (sym (ap (λ m. map.get m node) (map.empty_of_len p.nodes e) ∙ map.get-empty _ node) ∙ at)
    by (suc n) e = omega arith

-- a lock's resource has a place
pub record PlaceOf (links : Links) (r : Resource) (row : Row) : Type 0 where
  pub place : Place
  pub at : place_at links r ≡ Some place
  pub row_is : place.row ≡ row

pub place_of_row : (links : Links) (r : Resource) (row : Row) → row_at links r ≡ Some row → PlaceOf links r row
place_of_row links r row = by (place_at links r) refl
  where
    by : (o : Option Place) → place_at links r ≡ o → option_map (λ place. place.row) o ≡ Some row → PlaceOf links r row
    by None e h = no_value row h
    by (Some place) e h = record { place = place; at = e; row_is = one_value h }

-- where a node's lock has its rings
pub seat_row : (links : Links) → IsLinked links → (node : Node) (seat : Seat Lock) → map.get links.pool.nodes node ≡ Some seat → row_at links seat.item.resource ≡ Some seat.row
seat_row links linked node seat at = linked.rows.stands node seat.item.resource (ap (λ (o : Option (Seat Lock)). option_map (λ l. l.resource) (option_map (λ s. s.item) o)) at) ∙ ap (option_map (λ s. s.row)) at

pub seat_col : (links : Links) → IsLinked links → (node : Node) (seat : Seat Lock) → map.get links.pool.nodes node ≡ Some seat → col_at links seat.item.owner ≡ Some seat.col
seat_col links linked node seat at = linked.cols.stands node seat.item.owner (ap (λ (o : Option (Seat Lock)). option_map (λ l. l.owner) (option_map (λ s. s.item) o)) at) ∙ ap (option_map (λ s. s.col)) at

-- the node goes, and then its place counts one fewer
module _ (old new : Links) (linked : IsLinked old) (node : Node) (seat : Seat Lock) (at : map.get old.pool.nodes node ≡ Some seat) (pool : new.pool ≡ unlinked old.pool node seat) (columns : new.columns.entries ≡ old.columns.entries)
    (here : (place : Place) → place_at old seat.item.resource ≡ Some place → place_at new seat.item.resource ≡ Some (record place { locks = place.locks - 1 })) (others : (q : Resource) → same_resource q seat.item.resource ≡ false → place_at new q ≡ place_at old q)
    (held : new.held ≡ old.held - 1) (rings : AreRings new.pool) where
  abbrev r : Resource
  r = seat.item.resource

  seen : PlaceOf old r seat.row
  seen = place_of_row old r seat.row (seat_row old linked node seat at)

  gone : map.get new.pool.nodes node ≡ None
  gone = ap (λ p. map.get p.nodes node) pool ∙ seat-unlinked old.pool node seat

  nodes_other : (q : Node) → (q ≡ node → ⊥) → map.get new.pool.nodes q ≡ map.get old.pool.nodes q
  nodes_other q ne = ap (λ p. map.get p.nodes q) pool ∙ seat-unlinked_other old.pool node seat q ne

  item_other : (q : Node) → (q ≡ node → ⊥) → item_in new.pool q ≡ item_in old.pool q
  item_other q ne = ap (option_map (λ s. s.item)) (nodes_other q ne)

  item_here : item_in old.pool node ≡ Some seat.item
  item_here = ap (option_map (λ s. s.item)) at

  -- what still stands is another node
  still : (q : Node) (l : Lock) → item_in new.pool q ≡ Some l → q ≡ node → ⊥
  still q l e is = no_value {B = ⊥} l (sym (ap (option_map (λ s. s.item)) gone) ∙ ap (item_in new.pool) (sym is) ∙ e)

  row_same : (q : Resource) → row_at new q ≡ row_at old q
  row_same q =
      ⊎_elim
      (λ (is : q ≡ r). ap (row_at new) is ∙ ap (option_map (λ place. place.row)) (here seen.place seen.at) ∙ sym (ap (option_map (λ place. place.row)) seen.at) ∙ ap (row_at old) (sym is))
      (λ ne. ap (option_map (λ place. place.row)) (others q ne))
      (cases same_resource resource-true q r)

  col_same : (owner : OwnerNo) → col_at new owner ≡ col_at old owner
  col_same owner = ap (λ es. entry_at same_owner es owner) columns

  rows_stay : (q : Row) → IsSome (map.get old.pool.rows q) → IsSome (map.get new.pool.rows q)
  rows_stay q there = subst (λ p. IsSome (map.get p.rows q)) (sym pool) (row_stays-unlinked old.pool node seat q there)

  cols_stay : (q : Col) → IsSome (map.get old.pool.cols q) → IsSome (map.get new.pool.cols q)
  cols_stay q there = subst (λ p. IsSome (map.get p.cols q)) (sym pool) (col_stays-unlinked old.pool node seat q there)

  row_other : (q : Row) → (q ≡ seat.row → ⊥) → map.get new.pool.rows q ≡ map.get old.pool.rows q
  row_other q ne = ap (λ p. map.get p.rows q) pool ∙ row_came old.pool.rows seat.row q (without node (list_in old.pool.rows seat.row)) ne

  col_other : (q : Col) → (q ≡ seat.col → ⊥) → map.get new.pool.cols q ≡ map.get old.pool.cols q
  col_other q ne = ap (λ p. map.get p.cols q) pool ∙ col_came old.pool.cols seat.col q (without node (list_in old.pool.cols seat.col)) ne

  shorter : length (list_in new.pool.rows seat.row) + 1 ≡ length (list_in old.pool.rows seat.row)
  shorter = ap (λ p. length (list_in p.rows seat.row) + 1) pool ∙ row_length-unlinked old.pool node seat linked.rings at

  counted_new : (q : Resource) (place : Place) → place_at new q ≡ Some place → place.locks ≡ length (list_in new.pool.rows place.row)
  counted_new q place e = on (cases same_resource resource-true q r)
    where
      on : (q ≡ r) ⊎ (same_resource q r ≡ false) → place.locks ≡ length (list_in new.pool.rows place.row)
      on (inl is) =
          let same = one_value (sym (here seen.place seen.at) ∙ ap (place_at new) (sym is) ∙ e) in
          let was : seen.place.locks ≡ length (list_in old.pool.rows seat.row) = linked.counted r seen.place seen.at ∙ ap (λ z. length (list_in old.pool.rows z)) seen.row_is in
          let now : place.locks ≡ seen.place.locks - 1 = ap (λ (p : Place). p.locks) (sym same) in
          let spot : place.row ≡ seat.row = ap (λ (p : Place). p.row) (sym same) ∙ seen.row_is in
          omega (arith, was, now, shorter, ap (λ z. length (list_in new.pool.rows z)) spot)
      on (inr ne) =
          let was : place_at old q ≡ Some place = sym (others q ne) ∙ e in
          let away : place.row ≡ seat.row → ⊥ = λ o. differ same_resource resource-self q r ne (linked.rows.apart q r seat.row (ap (option_map (λ p. p.row)) was ∙ ap (λ x. Some x) o) (seat_row old linked node seat at)) in
          linked.counted q place was ∙ ap (λ o. length (unwrap_or o [])) (sym (row_other place.row away))

  some_resource : (q : Node) (k : Resource) → resource_in new.pool q ≡ Some k → q ≡ node → ⊥
  some_resource q k e is = no_value {B = ⊥} k (sym (ap (λ (o : Option (Seat Lock)). option_map (λ l. l.resource) (option_map (λ s. s.item) o)) gone) ∙ ap (resource_in new.pool) (sym is) ∙ e)

  some_owner : (q : Node) (k : OwnerNo) → owner_in new.pool q ≡ Some k → q ≡ node → ⊥
  some_owner q k e is = no_value {B = ⊥} k (sym (ap (λ (o : Option (Seat Lock)). option_map (λ l. l.owner) (option_map (λ s. s.item) o)) gone) ∙ ap (owner_in new.pool) (sym is) ∙ e)

  pub unlink_linked : IsLinked new
  unlink_linked = record {
    rings = rings;
    rows = record {
      there = λ k q e. rows_stay q (linked.rows.there k q (sym (row_same k) ∙ e));
      apart = λ a b q e f. linked.rows.apart a b q (sym (row_same a) ∙ e) (sym (row_same b) ∙ f);
      stands = λ q k e.
          let ne = some_resource q k e in
          row_same k ∙ linked.rows.stands q k (sym (ap (option_map (λ l. l.resource)) (item_other q ne)) ∙ e) ∙ ap (option_map (λ s. s.row)) (sym (nodes_other q ne));
    };
    cols = record {
      there = λ k q e. cols_stay q (linked.cols.there k q (sym (col_same k) ∙ e));
      apart = λ a b q e f. linked.cols.apart a b q (sym (col_same a) ∙ e) (sym (col_same b) ∙ f);
      stands = λ q k e.
          let ne = some_owner q k e in
          col_same k ∙ linked.cols.stands q k (sym (ap (option_map (λ l. l.owner)) (item_other q ne)) ∙ e) ∙ ap (option_map (λ s. s.col)) (sym (nodes_other q ne));
    };
    counted = counted_new;
    once = λ a b l e f. linked.once a b l (sym (item_other a (still a l e)) ∙ e) (sym (item_other b (still b l f)) ∙ f);
    held = held ∙ ap (λ n. n - 1) linked.held ∙ sym (ap (λ p. map.len p.nodes) pool ∙ map.len-remove node_cmp_total old.pool.nodes node ∙ ap (λ o. cond (is_some o) (map.len old.pool.nodes - 1) (map.len old.pool.nodes)) at);
  }

  pub unlink_unlinks : (col : Col) (left : FoundPlace) → seat.col ≡ col → IsFound new seat.item.resource left → Unlinks old new col seat.item left
  unlink_unlinks col left own now = record {
    own = seat_col old linked node seat at ∙ ap (λ c. Some c) own;
    had = node_held old.pool node seat.item item_here;
    held = held_less old.pool new.pool seat.item was rest;
    found = now;
    columns = columns;
    rows = λ keys were.
        empty_more same_resource resource-true resource-self (λ q. map.get old.pool.rows q ≡ Some []) (λ q. map.get new.pool.rows q ≡ Some []) (row_at old) (row_at new) r (λ q ne. row_same q) keys were (λ q s e. row_same q ∙ e) rows_now;
    cols = λ keys were.
        empty_more same_owner owner-true owner-self (λ q. map.get old.pool.cols q ≡ Some []) (λ q. map.get new.pool.cols q ≡ Some []) (col_at old) (col_at new) seat.item.owner (λ q ne. col_same q) keys were (λ q s e. col_same q ∙ e) cols_now;
  }
    where
      was : (q : Node) (l : Lock) → item_in new.pool q ≡ Some l → NodeOf old.pool l × (l ≡ seat.item → ⊥)
      was q l e =
          let ne = still q l e in
          let before : item_in old.pool q ≡ Some l = sym (item_other q ne) ∙ e in
          (record { node = q; at = before }, λ (same : l ≡ seat.item). ne (linked.once q node seat.item (before ∙ ap (λ x. Some x) same) item_here))

      rest : (q : Node) (l : Lock) → item_in old.pool q ≡ Some l → (l ≡ seat.item) ⊎ NodeOf new.pool l
      rest q l e = ⊎_elim (λ (is : q ≡ node). inl (one_value (sym e ∙ ap (item_in old.pool) is ∙ item_here))) (λ ne. inr (record { node = q; at = item_other q ne ∙ e })) (node_cases q node)

      rows_now : (s : Row) → map.get new.pool.rows s ≡ Some [] → (map.get old.pool.rows s ≡ Some []) ⊎ (row_at new r ≡ Some s)
      rows_now s e = ⊎_elim (λ (is : s ≡ seat.row). inr (row_same r ∙ seat_row old linked node seat at ∙ ap (λ x. Some x) (sym is))) (λ ne. inl (sym (row_other s ne) ∙ e)) (row_cases s seat.row)

      cols_now : (s : Col) → map.get new.pool.cols s ≡ Some [] → (map.get old.pool.cols s ≡ Some []) ⊎ (col_at new seat.item.owner ≡ Some s)
      cols_now s e = ⊎_elim (λ (is : s ≡ seat.col). inr (col_same seat.item.owner ∙ seat_col old linked node seat at ∙ ap (λ x. Some x) (sym is))) (λ ne. inl (sym (col_other s ne) ∙ e)) (col_cases s seat.col)

-- by the clauses of the calls: the first of a column is taken, and then its place counts one fewer
module _ (old mid : Links) (linked : IsLinked old) (col : Col) (row : Row) (lock : Lock) (took : TakesFirst old.pool mid.pool old.pool.cols col (λ s. s.col) row_and_item (row, lock)) (mid_places : mid.places.table.entries ≡ old.places.table.entries)
    (mid_columns : mid.columns.entries ≡ old.columns.entries) (mid_held : mid.held ≡ old.held) where
  lock_is : took.seat.item ≡ lock
  lock_is = ap (λ q. q.1) took.tells

  mid_place : (q : Resource) → place_at mid q ≡ place_at old q
  mid_place q = ap (λ es. entry_at same_resource es q) mid_places

  taken_from : PlaceOf old took.seat.item.resource took.seat.row
  taken_from = place_of_row old took.seat.item.resource took.seat.row (seat_row old linked took.node took.seat took.at)

  pub took_place : IsSome (place_at mid lock.resource)
  took_place = some_is (place_at mid lock.resource) taken_from.place (mid_place lock.resource ∙ ap (λ (l : Lock). place_at old l.resource) (sym lock_is) ∙ taken_from.at)

  module _ (counted new : Links) (left : FoundPlace) (counts : Recounts mid counted lock.resource (λ n. n - 1)) (now : IsFound counted lock.resource left) where
    pub took_some : 1 ≤ counted.held
    took_some = omega (arith, counts.held, mid_held, linked.held, some_nodes old.pool took.node took.seat took.at)

    module _ (places : new.places.table.entries ≡ counted.places.table.entries) (columns : new.columns.entries ≡ counted.columns.entries) (pool : new.pool ≡ counted.pool) (held : new.held ≡ counted.held - 1) (rings : AreRings mid.pool) where
      new_place : (q : Resource) → place_at new q ≡ place_at counted q
      new_place q = ap (λ es. entry_at same_resource es q) places

      here : (place : Place) → place_at old took.seat.item.resource ≡ Some place → place_at new took.seat.item.resource ≡ Some (record place { locks = place.locks - 1 })
      here place e = new_place took.seat.item.resource ∙ ap (λ (l : Lock). place_at counted l.resource) lock_is ∙ counts.here place (mid_place lock.resource ∙ ap (λ (l : Lock). place_at old l.resource) (sym lock_is) ∙ e)

      others : (q : Resource) → same_resource q took.seat.item.resource ≡ false → place_at new q ≡ place_at old q
      others q ne = new_place q ∙ counts.others q (ap (λ (l : Lock). same_resource q l.resource) (sym lock_is) ∙ ne) ∙ mid_place q

      pub took_linked : IsLinked new
      took_linked =
          unlink_linked old new linked took.node took.seat took.at (pool ∙ counts.pool ∙ took.left) (columns ∙ counts.columns ∙ mid_columns) here others (held ∙ ap (λ n. n - 1) (counts.held ∙ mid_held)) (subst AreRings (sym (pool ∙ counts.pool)) rings)

      pub took_unlinks : Unlinks old new col lock left
      took_unlinks =
          subst (λ (l : Lock). Unlinks old new col l left) lock_is
          (unlink_unlinks old new linked took.node took.seat took.at (pool ∙ counts.pool ∙ took.left) (columns ∙ counts.columns ∙ mid_columns) here others (held ∙ ap (λ n. n - 1) (counts.held ∙ mid_held)) (subst AreRings (sym (pool ∙ counts.pool)) rings) col left
          took.own
          (record {
            at = ap (key_at left.at) places ∙ now.at ∙ ap (λ (l : Lock). Some l.resource) (sym lock_is);
            place = new_place took.seat.item.resource ∙ ap (λ (l : Lock). place_at counted l.resource) lock_is ∙ now.place;
          }))

-- an empty column stays as it was
pub took_nothing : (old : Links) (pool : Meaning Lock) (col : Col) (o : Option (Lock × FoundPlace)) → o ≡ None → IsSome (map.get old.pool.cols col) → (list_in old.pool.cols col ≡ []) × (pool ≡ old.pool)
    → MatchOption o ((record old { pool = pool } ≡ old) × (map.get pool.cols col ≡ Some [])) (λ r. Unlinks old (record old { pool = pool }) col r.0 r.1)
took_nothing old pool col None e there n = (ap (λ p. record old { pool = p }) n.1, ap (λ p. map.get p.cols col) n.1 ∙ bare old.pool.cols col there n.0)
took_nothing old pool col (Some r) e there n = no_value r (sym e)
