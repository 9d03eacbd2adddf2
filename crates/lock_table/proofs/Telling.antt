-- What a table tells of its locks.
use Rattle.std.proofs.Common.{◌≡◌, List, [], ◌∷◌, length, Some, None, refl, sym, ap, ◌∙◌, subst, arith}
use Rattle.std.specs.Prelude.{Contains, map, Result, Ok, Err, OnOk}
use Rattle.std.specs.Option.{option_map}
use Rattle.std.specs.FinMap as map
use Rattle.pss_base.specs.declared.owner.OwnerNo.{OwnerNo}
use Rattle.pss_machine.specs.declared.lock.Need.{Need}
use Rattle.link_pool.specs.Meaning.{Meaning, item_in, empty_pool, AreRings}
use Rattle.link_pool.specs.declared.names.Node.{Node}
use Rattle.link_pool.specs.declared.names.Seat.{Seat}
use Rattle.lock_table.specs.declared.links.Lock.{Lock}
use Rattle.lock_table.specs.declared.links.Links.{Links}
use Rattle.lock_table.specs.Locks.{granted}
use Rattle.lock_table.specs.Standing.{AreLocks, lock_of}
use Rattle.lock_table.specs.inner.Nodes.{held_of, held_in, with_all, missing}
use Rattle.lock_table.specs.inner.Links.{IsReady, IsWhole, same_owner, resources, owners, place_at, row_at, col_at}
use Rattle.pss_machine.specs.declared.lock.Resource.{Resource}
use Rattle.pss_machine.specs.Needs.{same_resource}
use Rattle.link_pool.specs.Names.{node_cmp, row_cmp, col_cmp}
use Rattle.lock_table.specs.inner.Tables.{entry_at}
use Rattle.lock_table.proofs.Keyed.{one_value, no_value, empty_within}
use Rattle.lock_table.proofs.Holding.{node_held, held_node, tight-held_of}
use Rattle.lock_table.proofs.Unlinking.{seat_row, seat_col}
use Rattle.lock_table.proofs.Missing.{all_granted, own_locks}

nothing_within : {X : Type 0} (x : X) → Contains [] x → ⊥
nothing_within x m = omega (arith, m.1)

pub whole_locks : (links : Links) → IsWhole links → AreLocks (held_in links.pool) links.pool
whole_locks links whole = record {
  only = λ node lock e. node_held links.pool node lock e;
  found = λ owner need e. let n = held_node links.pool owner need e in (n.node, n.at);
  once = whole.linked.once;
  cols = λ a b s t f g. (
    λ (e : s.col ≡ t.col). whole.linked.cols.apart s.item.owner t.item.owner t.col (seat_col links whole.linked a s f ∙ ap (λ c. Some c) e) (seat_col links whole.linked b t g),
    λ (e : s.item.owner ≡ t.item.owner). one_value (sym (seat_col links whole.linked a s f) ∙ ap (col_at links) e ∙ seat_col links whole.linked b t g),
  );
  rows = λ a b s t f g. (
    λ (e : s.row ≡ t.row). whole.linked.rows.apart s.item.resource t.item.resource t.row (seat_row links whole.linked a s f ∙ ap (λ c. Some c) e) (seat_row links whole.linked b t g),
    λ (e : s.item.resource ≡ t.item.resource). one_value (sym (seat_row links whole.linked a s f) ∙ ap (row_at links) e ∙ seat_row links whole.linked b t g),
  );
  no_empty_col = λ col e. let w = whole.cols col e in nothing_within w.0 w.1;
  no_empty_row = λ row e. let w = whole.rows row e in nothing_within w.0 w.1;
}

pub whole_ready : (links : Links) → IsWhole links → (locks : List Lock) → IsReady links locks
whole_ready links whole locks = record {
  linked = whole.linked;
  rows = empty_within (λ row. map.get links.pool.rows row ≡ Some []) (row_at links) [] (resources locks) (λ k m. absurd (nothing_within k m)) whole.rows;
  cols = empty_within (λ col. map.get links.pool.cols col ≡ Some []) (col_at links) [] (owners locks) (λ k m. absurd (nothing_within k m)) whole.cols;
}

-- nothing is locked where no node is
pub none_whole : (links : Links) → links.pool ≡ empty_pool → links.places.table.entries ≡ [] → links.columns.entries ≡ [] → links.held ≡ 0 → AreRings links.pool → (held_in links.pool ≡ map.empty) × IsWhole links
none_whole links pool places columns held rings = (
  ap held_in pool ∙ ap held_of (no_entries (map.entries (map.empty {R = node_cmp})) (sym (map.len-entries map.empty) ∙ map.len-empty node_cmp (Seat Lock))),
  record {
    linked = record {
      rings = rings;
      rows = record {
        there = λ r row e. no_value row (sym (ap (option_map (λ place. place.row)) (no_place r)) ∙ e);
        apart = λ a b row e f. no_value row (sym (ap (option_map (λ place. place.row)) (no_place a)) ∙ e);
        stands = λ node r e. no_value r (sym (ap (option_map (λ lock. lock.resource)) (no_item node)) ∙ e);
      };
      cols = record {
        there = λ o col e. no_value col (sym (no_col o) ∙ e);
        apart = λ a b col e f. no_value col (sym (no_col a) ∙ e);
        stands = λ node o e. no_value o (sym (ap (option_map (λ lock. lock.owner)) (no_item node)) ∙ e);
      };
      counted = λ r place e. no_value place (sym (no_place r) ∙ e);
      once = λ a b lock e f. no_value lock (sym (no_item a) ∙ e);
      held = held ∙ sym (ap (λ p. map.len p.nodes) pool ∙ map.len-empty node_cmp (Seat Lock));
    };
    rows = λ row e. no_value [] (sym (ap (λ p. map.get p.rows row) pool ∙ map.get-empty row_cmp row) ∙ e);
    cols = λ col e. no_value [] (sym (ap (λ p. map.get p.cols col) pool ∙ map.get-empty col_cmp col) ∙ e);
  },
)
  where
    no_entries : {X : Type 0} (es : List X) → length es ≡ 0 → es ≡ []
    no_entries [] e = refl
    no_entries (x ∷ es) e = absurd (omega (arith, e))

    no_place : (r : Resource) → place_at links r ≡ None
    no_place r = ap (λ es. entry_at same_resource es r) places

    no_col : (o : OwnerNo) → col_at links o ≡ None
    no_col o = ap (λ es. entry_at same_owner es o) columns

    no_item : (node : Node) → item_in links.pool node ≡ None
    no_item node = ap (λ p. item_in p node) pool ∙ ap (option_map (λ s. s.item)) (map.get-empty node_cmp node)

pub own : (owner : OwnerNo) (needs : List Need) (locks : List Lock) → locks ≡ map (lock_of owner) needs → (lock : Lock) → Contains locks lock → lock.owner ≡ owner
own owner needs locks are lock m = own_locks owner needs lock (subst (λ l. Contains l lock) are m)

module _ (p : Meaning Lock) (owner : OwnerNo) (needs : List Need) where
  all_in : (those : List Need) → missing (held_in p) owner needs ≡ those → with_all (map (lock_of owner) those) (held_in p) ≡ granted (held_in p) owner needs
  all_in those are = ap (λ l. with_all (map (lock_of owner) l) (held_in p)) (sym are) ∙ all_granted (held_in p) (tight-held_of (map.entries p.nodes)) owner needs

  pub nothing_more : missing (held_in p) owner needs ≡ [] → held_in p ≡ granted (held_in p) owner needs
  nothing_more none = all_in [] none

  -- the first one that is missing, and those behind it
  pub one_more : (first : Need) (behind more : List Need) → missing (held_in p) owner needs ≡ first ∷ missing (held_in p) owner behind → missing (held_in p) owner behind ≡ more → with_all (map (lock_of owner) (first ∷ more)) (held_in p) ≡ granted (held_in p) owner needs
  one_more first behind more some are = all_in (first ∷ more) (some ∙ ap (λ l. first ∷ l) are)

pub on_ok : {A E P Q : Type 0} (r : Result A E) → (P → Q) → OnOk r P → OnOk r Q
on_ok (Ok a) f p = f p
on_ok (Err e) f p = p
