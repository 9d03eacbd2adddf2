-- What a row says of the locks on its resource.
use Rattle.std.proofs.Common.{ℕ, ◌≡◌, ◌==◌, ⊎_elim, List, [], ◌∷◌, length, Option, Some, None, Bool, true, false, refl, sym, ap, ◌∙◌, arith}
use Rattle.std.specs.Prelude.{◌||◌, ◌&&◌, Contains}
use Rattle.std.specs.List.{list_any}
use Rattle.std.specs.Option.{option_map}
use Rattle.std.specs.FinMap as map
use Rattle.std.proofs.lemmas.Bool.{eqb-true, eq-eqb}
use Rattle.pss_base.specs.declared.owner.OwnerNo.{OwnerNo}
use Rattle.pss_machine.specs.declared.lock.Resource.{Resource}
use Rattle.pss_machine.specs.declared.lock.Mode.{Mode}
use Rattle.pss_machine.specs.declared.lock.Mode.TheVariants.{S as Read, M as Many, X as Write}
use Rattle.link_pool.specs.Meaning.{Meaning, row_in, item_in}
use Rattle.link_pool.specs.Rings.{list_in}
use Rattle.link_pool.specs.declared.names.Row.{Row}
use Rattle.link_pool.specs.declared.names.Node.{Node}
use Rattle.link_pool.specs.declared.names.Seat.{Seat}
use Rattle.lock_table.specs.declared.links.Lock.{Lock}
use Rattle.lock_table.specs.declared.links.Links.{Links}
use Rattle.lock_table.specs.declared.places.Place.{Place}
use Rattle.lock_table.specs.Standing.{lock_of}
use Rattle.lock_table.specs.inner.Nodes.{held_in, same_mode, passes, is_own, any_in_row}
use Rattle.lock_table.specs.inner.Links.{IsLinked, place_at, row_at}
use Rattle.lock_table.proofs.Keyed.{no_value, contains_rest, contains_cases}
use Rattle.lock_table.proofs.Entries.{or_true, both_true}
use Rattle.lock_table.proofs.Holding.{has, NodeOf, node_held, held_node, bool_iff}

pub mode-true : (a b : Mode) → same_mode a b ≡ true → a ≡ b
mode-true Read Read e = refl
mode-true Many Many e = refl
mode-true Write Write e = refl
mode-true Read Many e = absurd (cc)
mode-true Read Write e = absurd (cc)
mode-true Many Read e = absurd (cc)
mode-true Many Write e = absurd (cc)
mode-true Write Read e = absurd (cc)
mode-true Write Many e = absurd (cc)

pub mode-self : (a : Mode) → same_mode a a ≡ true
mode-self Read = refl
mode-self Many = refl
mode-self Write = refl

-- a lock that a row has
pub record RowHas (p : Meaning Lock) (row : Row) (lock : Lock) : Type 0 where
  pub node : Node
  pub stands : Contains (list_in p.rows row) node
  pub at : item_in p node ≡ Some lock

pub record Passing (p : Meaning Lock) (row : Row) (test : Lock → Bool) : Type 0 where
  pub lock : Lock
  pub has_it : RowHas p row lock
  pub passes_it : test lock ≡ true

module _ (p : Meaning Lock) (test : Lock → Bool) where
  any_at : (nodes : List Node) (node : Node) (lock : Lock) → Contains nodes node → item_in p node ≡ Some lock → test lock ≡ true → list_any (λ n. passes test (item_in p n)) nodes ≡ true
  any_at [] node lock m at e = absurd (omega (arith, m.1))
  any_at (x ∷ xs) node lock m at e =
      ⊎_elim
      (λ (h : x ≡ node). ap (λ n. passes test (item_in p n) || list_any (λ n. passes test (item_in p n)) xs) h ∙ ap (λ o. passes test o || list_any (λ n. passes test (item_in p n)) xs) at ∙ ap (λ b. b || list_any (λ n. passes test (item_in p n)) xs) e)
      (λ (h : Contains xs node). or_true (passes test (item_in p x)) (list_any (λ n. passes test (item_in p n)) xs) (any_at xs node lock h at e))
      (contains_cases x node xs m)

  record AtNode (nodes : List Node) : Type 0 where
    pub node : Node
    pub lock : Lock
    pub stands : Contains nodes node
    pub at : item_in p node ≡ Some lock
    pub passes_it : test lock ≡ true

  at_any : (nodes : List Node) → list_any (λ n. passes test (item_in p n)) nodes ≡ true → AtNode nodes
  at_any [] e = absurd (cc)
  at_any (x ∷ xs) e = by (item_in p x) refl e (at_any xs)
    where
      rest : AtNode xs → AtNode (x ∷ xs)
      rest a = record { node = a.node; lock = a.lock; stands = contains_rest x a.node xs a.stands; at = a.at; passes_it = a.passes_it }

      test_it : (lock : Lock) → item_in p x ≡ Some lock → (b : Bool) → test lock ≡ b → (b || list_any (λ n. passes test (item_in p n)) xs) ≡ true → (list_any (λ n. passes test (item_in p n)) xs ≡ true → AtNode xs) → AtNode (x ∷ xs)
      test_it lock at true is h more = record { node = x; lock = lock; stands = (0, omega arith, refl); at = at; passes_it = is }
      test_it lock at false is h more = rest (more h)

      by : (o : Option Lock) → item_in p x ≡ o → (passes test o || list_any (λ n. passes test (item_in p n)) xs) ≡ true → (list_any (λ n. passes test (item_in p n)) xs ≡ true → AtNode xs) → AtNode (x ∷ xs)
      by None is h more = rest (more h)
      by (Some lock) is h more = test_it lock is (test lock) refl h more

  module _ (row : Row) where
    pub row_any : (lock : Lock) → RowHas p row lock → test lock ≡ true → any_in_row p row test ≡ true
    row_any lock h e = any_at (list_in p.rows row) h.node lock h.stands h.at e

    pub any_row : any_in_row p row test ≡ true → Passing p row test
    any_row e = let a = at_any (list_in p.rows row) e in record { lock = a.lock; has_it = record { node = a.node; stands = a.stands; at = a.at }; passes_it = a.passes_it }

module _ (links : Links) (linked : IsLinked links) (r : Resource) (row : Row) (at_r : row_at links r ≡ Some row) where
  -- the row has the locks on its resource
  pub row_has : (lock : Lock) → lock.resource ≡ r → NodeOf links.pool lock → RowHas links.pool row lock
  row_has lock e n =
      let home : row_in links.pool n.node ≡ Some row = sym (linked.rows.stands n.node lock.resource (ap (option_map (λ l. l.resource)) n.at)) ∙ ap (row_at links) e ∙ at_r in
      record { node = n.node; stands = linked.rings.rows.found row n.node home; at = n.at }

  -- and no others
  pub has_row : (lock : Lock) → RowHas links.pool row lock → lock.resource ≡ r
  has_row lock h =
      linked.rows.apart lock.resource r row (linked.rows.stands h.node lock.resource (ap (option_map (λ l. l.resource)) h.at) ∙ linked.rings.rows.only row h.node h.stands) at_r

  pub own_in_row : (owner : OwnerNo) (mode : Mode) → any_in_row links.pool row (is_own owner mode) ≡ has (held_in links.pool) owner (record { resource = r; mode = mode })
  own_in_row owner mode =
      bool_iff (any_in_row links.pool row (is_own owner mode)) (has (held_in links.pool) owner (record { resource = r; mode = mode }))
      (λ e. forth (any_row links.pool (is_own owner mode) row e))
      (λ e. row_any links.pool (is_own owner mode) row (lock_of owner (record { resource = r; mode = mode })) (row_has (lock_of owner (record { resource = r; mode = mode })) refl (held_node links.pool owner (record { resource = r; mode = mode }) e))
      (ap (λ b. b && same_mode mode mode) (eq-eqb owner.0 owner.0 refl) ∙ mode-self mode))
    where
      forth : Passing links.pool row (is_own owner mode) → has (held_in links.pool) owner (record { resource = r; mode = mode }) ≡ true
      forth f =
          let t = both_true (f.lock.owner.0 == owner.0) (same_mode f.lock.mode mode) f.passes_it in
          let o : f.lock.owner ≡ owner = ap (λ (n : ℕ). record { 0 = n }) (eqb-true f.lock.owner.0 owner.0 t.0) in
          (λ i. has (held_in links.pool) (sym o i) (record { resource = sym (has_row f.lock f.has_it) i; mode = sym (mode-true f.lock.mode mode t.1) i }))
          ∙ node_held links.pool f.has_it.node f.lock f.has_it.at

-- a resource without a lock is not locked
pub bare_held : (links : Links) → IsLinked links → (r : Resource) (place : Place) → place_at links r ≡ Some place → place.locks ≡ 0 → (owner : OwnerNo) (mode : Mode) → has (held_in links.pool) owner (record { resource = r; mode = mode }) ≡ false
bare_held links linked r place at bare owner mode =
    sym (own_in_row links linked r place.row (ap (option_map (λ place. place.row)) at) owner mode)
    ∙ ap (list_any (λ node. passes (is_own owner mode) (item_in links.pool node))) (no_nodes (list_in links.pool.rows place.row) (sym (linked.counted r place at) ∙ bare))
  where
    no_nodes : (nodes : List Node) → length nodes ≡ 0 → nodes ≡ []
    no_nodes [] e = refl
    no_nodes (node ∷ nodes) e = absurd (omega (arith, e))

-- a resource without a row is not locked
pub none_held : (links : Links) → IsLinked links → (r : Resource) → place_at links r ≡ None → (owner : OwnerNo) (mode : Mode) → has (held_in links.pool) owner (record { resource = r; mode = mode }) ≡ false
none_held links linked r none owner mode = by (has (held_in links.pool) owner (record { resource = r; mode = mode })) refl
  where
    seated : (node : Node) (lock : Lock) → item_in links.pool node ≡ Some lock → row_in links.pool node ≡ None → ⊥
    seated node lock = on (map.get links.pool.nodes node)
      where
        on : (o : Option (Seat Lock)) → option_map (λ s. s.item) o ≡ Some lock → option_map {U = Row} (λ s. s.row) o ≡ None → ⊥
        on None e h = no_value lock e
        on (Some s) e h = no_value s.row (sym h)

    by : (b : Bool) → has (held_in links.pool) owner (record { resource = r; mode = mode }) ≡ b → b ≡ false
    by false e = refl
    by true e =
        let n = held_node links.pool owner (record { resource = r; mode = mode }) e in
        absurd (seated n.node (lock_of owner (record { resource = r; mode = mode })) n.at (sym (linked.rows.stands n.node r (ap (option_map (λ l. l.resource)) n.at)) ∙ ap (option_map (λ place. place.row)) none))
