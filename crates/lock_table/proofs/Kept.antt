-- What stays of links where nodes, rows or columns stay.
use Rattle.std.proofs.Common.{◌≡◌, List, [], length, Option, Some, None, IsSome, refl, sym, ap, ◌∙◌, subst}
use Rattle.std.specs.Option.{option_map, unwrap_or}
use Rattle.std.specs.FinMap as map
use Rattle.pss_base.specs.declared.owner.OwnerNo.{OwnerNo}
use Rattle.pss_machine.specs.declared.lock.Resource.{Resource}
use Rattle.link_pool.specs.Names.{row_named, col_named, row_cmp, col_cmp}
use Rattle.link_pool.specs.Meaning.{row_in, col_in, item_in}
use Rattle.link_pool.specs.declared.names.Row.{Row}
use Rattle.link_pool.specs.declared.names.Col.{Col}
use Rattle.link_pool.specs.declared.names.Node.{Node}
use Rattle.link_pool.proofs.Maps.{get-here, get-there}
use Rattle.lock_table.specs.declared.links.Lock.{Lock}
use Rattle.lock_table.specs.declared.places.Place.{Place}
use Rattle.lock_table.specs.declared.links.Links.{Links}
use Rattle.lock_table.specs.inner.Links.{IsKeyed, IsLinked, EmptyRows, EmptyCols, same_owner, resource_in, owner_in, place_at, row_at, col_at}
use Rattle.lock_table.specs.inner.Tables.{entry_at}

pub keyed_same : {K R : Type 0} (IsRing IsRing' : R → Type 0) (home home' : Node → Option R) (key_of key_of' : Node → Option K) (at at' : K → Option R) → IsKeyed IsRing home key_of at → ((node : Node) → home' node ≡ home node)
    → ((node : Node) → key_of' node ≡ key_of node) → ((q : K) → at' q ≡ at q) → ((r : R) → IsRing r → IsRing' r) → IsKeyed IsRing' home' key_of' at'
keyed_same IsRing IsRing' home home' key_of key_of' at at' keyed homes keys same stay = record {
  there = λ k r e. stay r (keyed.there k r (sym (same k) ∙ e));
  apart = λ a b r e f. keyed.apart a b r (sym (same a) ∙ e) (sym (same b) ∙ f);
  stands = λ node k e. same k ∙ keyed.stands node k (sym (keys node) ∙ e) ∙ sym (homes node);
}

module _ (old new : Links) (nodes : new.pool.nodes ≡ old.pool.nodes) where
  pub same_item : (node : Node) → item_in new.pool node ≡ item_in old.pool node
  same_item node = ap (λ m. option_map (λ seat. seat.item) (map.get m node)) nodes

  pub same_row : (node : Node) → row_in new.pool node ≡ row_in old.pool node
  same_row node = ap (λ m. option_map (λ seat. seat.row) (map.get m node)) nodes

  pub same_col : (node : Node) → col_in new.pool node ≡ col_in old.pool node
  same_col node = ap (λ m. option_map (λ seat. seat.col) (map.get m node)) nodes

  pub same_key : (node : Node) → resource_in new.pool node ≡ resource_in old.pool node
  same_key node = ap (option_map (λ lock. lock.resource)) (same_item node)

  pub same_owner_in : (node : Node) → owner_in new.pool node ≡ owner_in old.pool node
  same_owner_in node = ap (option_map (λ lock. lock.owner)) (same_item node)

  pub same_once : IsLinked old → (a b : Node) (lock : Lock) → item_in new.pool a ≡ Some lock → item_in new.pool b ≡ Some lock → a ≡ b
  same_once linked a b lock e f = linked.once a b lock (sym (same_item a) ∙ e) (sym (same_item b) ∙ f)

  pub same_held : IsLinked old → new.held ≡ old.held → new.held ≡ map.len new.pool.nodes
  same_held linked e = e ∙ linked.held ∙ ap map.len (sym nodes)

  -- columns stay
  module _ (cols : new.pool.cols ≡ old.pool.cols) (columns : new.columns.entries ≡ old.columns.entries) where
    pub same_col_at : (owner : OwnerNo) → col_at new owner ≡ col_at old owner
    same_col_at owner = ap (λ es. entry_at same_owner es owner) columns

    pub keyed_cols : IsLinked old → IsKeyed (λ col. IsSome (map.get new.pool.cols col)) (col_in new.pool) (owner_in new.pool) (col_at new)
    keyed_cols linked =
        keyed_same (λ col. IsSome (map.get old.pool.cols col)) (λ col. IsSome (map.get new.pool.cols col)) (col_in old.pool) (col_in new.pool) (owner_in old.pool) (owner_in new.pool) (col_at old) (col_at new) linked.cols same_col same_owner_in
        same_col_at (λ col there. subst (λ m. IsSome (map.get m col)) (sym cols) there)

    pub empty_cols : (keys : List OwnerNo) → EmptyCols old keys → EmptyCols new keys
    empty_cols keys were col e = let w = were col (ap (λ m. map.get m col) (sym cols) ∙ e) in (w.0, w.1, same_col_at w.0 ∙ w.2)

  -- rows stay
  module _ (rows : new.pool.rows ≡ old.pool.rows) (places : (r : Resource) → place_at new r ≡ place_at old r) where
    pub same_row_at : (r : Resource) → row_at new r ≡ row_at old r
    same_row_at r = ap (option_map (λ place. place.row)) (places r)

    pub keyed_rows : IsLinked old → IsKeyed (λ row. IsSome (map.get new.pool.rows row)) (row_in new.pool) (resource_in new.pool) (row_at new)
    keyed_rows linked =
        keyed_same (λ row. IsSome (map.get old.pool.rows row)) (λ row. IsSome (map.get new.pool.rows row)) (row_in old.pool) (row_in new.pool) (resource_in old.pool) (resource_in new.pool) (row_at old) (row_at new) linked.rows same_row same_key
        same_row_at (λ row there. subst (λ m. IsSome (map.get m row)) (sym rows) there)

    pub empty_rows : (keys : List Resource) → EmptyRows old keys → EmptyRows new keys
    empty_rows keys were row e = let w = were row (ap (λ m. map.get m row) (sym rows) ∙ e) in (w.0, w.1, same_row_at w.0 ∙ w.2)

    pub same_counts : IsLinked old → (r : Resource) (place : Place) → place_at new r ≡ Some place → place.locks ≡ length (unwrap_or (map.get new.pool.rows place.row) [])
    same_counts linked r place e = linked.counted r place (sym (places r) ∙ e) ∙ ap (λ m. length (unwrap_or (map.get m place.row) [])) (sym rows)

-- maps by rows and by columns

module _ {X : Type 0} where
  pub row_gone : (m : map.FinMap row_cmp X) (k q : Row) → (q ≡ k → ⊥) → map.get (map.remove m k) q ≡ map.get m q
  row_gone m k q ne = get-there (λ r. r.number) row_named (λ k. refl) (λ n. refl) None k q m (λ e. ne (ap row_named e))

  pub col_gone : (m : map.FinMap col_cmp X) (k q : Col) → (q ≡ k → ⊥) → map.get (map.remove m k) q ≡ map.get m q
  col_gone m k q ne = get-there (λ r. r.number) col_named (λ k. refl) (λ n. refl) None k q m (λ e. ne (ap col_named e))

  pub row_gone_here : (m : map.FinMap row_cmp X) (k : Row) → map.get (map.remove m k) k ≡ None
  row_gone_here m k = get-here (λ r. r.number) row_named (λ k. refl) (λ n. refl) None k k m refl

  pub col_gone_here : (m : map.FinMap col_cmp X) (k : Col) → map.get (map.remove m k) k ≡ None
  col_gone_here m k = get-here (λ r. r.number) col_named (λ k. refl) (λ n. refl) None k k m refl

  pub row_came : (m : map.FinMap row_cmp X) (k q : Row) (v : X) → (q ≡ k → ⊥) → map.get (map.insert m k v) q ≡ map.get m q
  row_came m k q v ne = get-there (λ r. r.number) row_named (λ k. refl) (λ n. refl) (Some v) k q m (λ e. ne (ap row_named e))

  pub col_came : (m : map.FinMap col_cmp X) (k q : Col) (v : X) → (q ≡ k → ⊥) → map.get (map.insert m k v) q ≡ map.get m q
  col_came m k q v ne = get-there (λ r. r.number) col_named (λ k. refl) (λ n. refl) (Some v) k q m (λ e. ne (ap col_named e))

  pub row_came_here : (m : map.FinMap row_cmp X) (k : Row) (v : X) → map.get (map.insert m k v) k ≡ Some v
  row_came_here m k v = get-here (λ r. r.number) row_named (λ k. refl) (λ n. refl) (Some v) k k m refl

  pub col_came_here : (m : map.FinMap col_cmp X) (k : Col) (v : X) → map.get (map.insert m k v) k ≡ Some v
  col_came_here m k v = get-here (λ r. r.number) col_named (λ k. refl) (λ n. refl) (Some v) k k m refl
