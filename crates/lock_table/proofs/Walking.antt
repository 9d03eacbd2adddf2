-- A walk along a row, node by node from its first.
use Rattle.std.proofs.Common.{◌≡◌, ◌<◌, List, [], ◌∷◌, ◌++◌, length, append_assoc, Option, Some, None, IsSome, Bool, true, false, cond, slice_get, refl, sym, ap, ◌∙◌, subst, arith, rules, ltb-true, ltb-false}
use Rattle.std.specs.Prelude.{IsSomeAnd, Contains, ◌||◌, map, nat_lt}
use Rattle.std.specs.List.{list_any}
use Rattle.std.specs.Option.{option_map}
use Rattle.std.specs.FinMap as map
use Rattle.std.proofs.lemmas.Bool.{eq-eqb}
use Rattle.link_pool.specs.Names.{same_node}
use Rattle.link_pool.specs.Rings.{following, list_in, first_in}
use Rattle.link_pool.specs.Meaning.{Meaning, row_in, item_in, AreRings}
use Rattle.link_pool.specs.declared.names.Row.{Row}
use Rattle.link_pool.specs.declared.names.Node.{Node}
use Rattle.link_pool.specs.declared.names.Seat.{Seat}
use Rattle.link_pool.proofs.NodeLists.{AreDistinct, same_node-false, not_in_rest, rest_distinct, split_at, contains_split, following-split}
use Rattle.pss_base.specs.declared.owner.OwnerNo.{OwnerNo}
use Rattle.lock_table.specs.declared.links.Lock.{Lock}
use Rattle.lock_table.specs.inner.Nodes.{passes, lesser, owner_if, least_of, any_in_row, least_in_row}
use Rattle.lock_table.specs.inner.Walks.{ahead}
use Rattle.lock_table.proofs.Keyed.{no_value, one_value, contains_rest}

same_self : (x : Node) → same_node x x ≡ true
same_self x = eq-eqb x.number x.number refl

front_other : (x u : Node) (us vs : List Node) → AreDistinct (u ∷ us ++ x ∷ vs) → u ≡ x → ⊥
front_other x u us vs d e = not_in_rest u (us ++ x ∷ vs) d (subst (Contains (us ++ x ∷ vs)) (sym e) (contains_split x us vs))

ahead-split : (x : Node) (us vs : List Node) → AreDistinct (us ++ x ∷ vs) → ahead (Some x) (us ++ x ∷ vs) ≡ x ∷ vs
ahead-split x [] vs d = ap (λ b. cond b (x ∷ vs) (ahead (Some x) vs)) (same_self x)
ahead-split x (u ∷ us) vs d = ap (λ b. cond b (u ∷ us ++ x ∷ vs) (ahead (Some x) (us ++ x ∷ vs))) (same_node-false u x (front_other x u us vs d)) ∙ ahead-split x us vs (rest_distinct u (us ++ x ∷ vs) d)

ahead-first : (xs : List Node) → ahead (slice_get xs 0) xs ≡ xs
ahead-first [] = refl
ahead-first (x ∷ xs) = ap (λ b. cond b (x ∷ xs) (ahead (Some x) xs)) (same_self x)

-- behind what comes first stands what follows it
ahead-next : (x : Node) (xs : List Node) → AreDistinct xs → Contains xs x → ahead (Some x) xs ≡ x ∷ ahead (following x xs) xs
ahead-next x xs d m =
    let s = split_at x xs m in
    let dis : AreDistinct (s.front ++ x ∷ s.back) = subst AreDistinct s.is d in
    ap (ahead (Some x)) s.is ∙ ahead-split x s.front s.back dis
    ∙ ap (λ l. x ∷ l) (sym (behind s.front s.back dis) ∙ (λ i. ahead (sym (following-split x s.front s.back dis) i) (s.front ++ x ∷ s.back)) ∙ ap (λ l. ahead (following x l) l) (sym s.is))
  where
    behind : (us vs : List Node) → AreDistinct (us ++ x ∷ vs) → ahead (slice_get vs 0) (us ++ x ∷ vs) ≡ vs
    behind us [] dis = refl
    behind us (v ∷ vs) dis =
        let e : (us ++ x ∷ []) ++ v ∷ vs ≡ us ++ x ∷ v ∷ vs = append_assoc us (x ∷ []) (v ∷ vs) in
        ap (ahead (Some v)) (sym e) ∙ ahead-split v (us ++ x ∷ []) vs (subst AreDistinct (sym e) dis)

follower : (x y : Node) (xs : List Node) → following x xs ≡ Some y → Contains xs y
follower x y [] e = no_value y e
follower x y (z ∷ zs) e = by (same_node z x) refl e (follower x y zs)
  where
    by : (b : Bool) → same_node z x ≡ b → cond b (slice_get zs 0) (following x zs) ≡ Some y → (following x zs ≡ Some y → Contains zs y) → Contains (z ∷ zs) y
    by true t h rest = contains_rest z y zs (first zs h)
      where
        first : (ws : List Node) → slice_get ws 0 ≡ Some y → Contains ws y
        first [] h = no_value y h
        first (w ∷ ws) h = (0, omega arith, one_value h)
    by false t h rest = contains_rest z y zs (rest h)

pub lesser-none : (a : Option OwnerNo) → lesser a None ≡ a
lesser-none None = refl
lesser-none (Some a) = refl

pub lesser-assoc : (a b c : Option OwnerNo) → lesser (lesser a b) c ≡ lesser a (lesser b c)
lesser-assoc None b c = refl
lesser-assoc (Some a) None c = refl
lesser-assoc (Some a) (Some b) None = lesser-none (lesser (Some a) (Some b))
lesser-assoc (Some a) (Some b) (Some c) = by (nat_lt b.0 a.0) refl (nat_lt c.0 b.0) refl (nat_lt c.0 a.0) refl
  where
    by : (x : Bool) → nat_lt b.0 a.0 ≡ x → (y : Bool) → nat_lt c.0 b.0 ≡ y → (z : Bool) → nat_lt c.0 a.0 ≡ z → lesser (lesser (Some a) (Some b)) (Some c) ≡ lesser (Some a) (lesser (Some b) (Some c))
    by true x true y true z = (λ i. lesser (cond (x i) (Some b) (Some a)) (Some c)) ∙ ap (λ t. cond t (Some c) (Some b)) y ∙ sym ((λ i. lesser (Some a) (cond (y i) (Some c) (Some b))) ∙ ap (λ t. cond t (Some c) (Some a)) z)
    by true x true y false z = absurd (omega (arith, ltb-true b.0 a.0 x, ltb-true c.0 b.0 y, ltb-false c.0 a.0 z))
    by true x false y z h = (λ i. lesser (cond (x i) (Some b) (Some a)) (Some c)) ∙ ap (λ t. cond t (Some c) (Some b)) y ∙ sym ((λ i. lesser (Some a) (cond (y i) (Some c) (Some b))) ∙ ap (λ t. cond t (Some b) (Some a)) x)
    by false x true y z h = (λ i. lesser (cond (x i) (Some b) (Some a)) (Some c)) ∙ sym (λ i. lesser (Some a) (cond (y i) (Some c) (Some b)))
    by false x false y true z = absurd (omega (arith, ltb-false b.0 a.0 x, ltb-false c.0 b.0 y, ltb-true c.0 a.0 z))
    by false x false y false z = (λ i. lesser (cond (x i) (Some b) (Some a)) (Some c)) ∙ ap (λ t. cond t (Some c) (Some a)) z ∙ sym ((λ i. lesser (Some a) (cond (y i) (Some c) (Some b))) ∙ ap (λ t. cond t (Some b) (Some a)) x)

-- the next node, where there is one, stands in the row
abbrev pub IsNext : Meaning Lock → Row → Option Node → Type 0
IsNext p row next = (node : Node) → next ≡ Some node → Contains (list_in p.rows row) node

module _ (p : Meaning Lock) (row : Row) where
  pub first_next : (next : Option Node) → next ≡ first_in p.rows row → IsNext p row next
  first_next next e node h = by (list_in p.rows row) (sym e ∙ h)
    where
      by : (xs : List Node) → slice_get xs 0 ≡ Some node → Contains xs node
      by [] g = no_value node g
      by (x ∷ xs) g = (0, omega arith, one_value g)

  pub first_ahead : (next : Option Node) → next ≡ first_in p.rows row → ahead next (list_in p.rows row) ≡ list_in p.rows row
  first_ahead next e = ap (λ o. ahead o (list_in p.rows row)) e ∙ ahead-first (list_in p.rows row)

  module _ (rings : AreRings p) (node : Node) (walked : IsNext p row (Some node)) where
    at_home : row_in p node ≡ Some row
    at_home = rings.rows.only row node (walked node refl)

    pub stands : IsSome (map.get p.nodes node)
    stands = by (map.get p.nodes node) at_home
      where
        by : (o : Option (Seat Lock)) → option_map (λ s. s.row) o ≡ Some row → IsSome o
        by None e = no_value row e
        by (Some s) e = search rules

    module _ (next : Option Node) (behind : IsSomeAnd (row_in p node) (λ home. next ≡ following node (list_in p.rows home))) where
      told : next ≡ following node (list_in p.rows row)
      told = subst (λ o. IsSomeAnd o (λ home. next ≡ following node (list_in p.rows home))) at_home behind

      pub next_next : IsNext p row next
      next_next other h = follower node other (list_in p.rows row) (sym told ∙ h)

      pub next_ahead : ahead (Some node) (list_in p.rows row) ≡ node ∷ ahead next (list_in p.rows row)
      next_ahead = ahead-next node (list_in p.rows row) (rings.rows.once row) (walked node refl) ∙ ap (λ o. node ∷ ahead o (list_in p.rows row)) (sym told)

      pub next_shorter : length (ahead next (list_in p.rows row)) < length (ahead (Some node) (list_in p.rows row))
      next_shorter = omega (arith, ap length next_ahead)

  -- a row in which the nodes that were passed do not count
  pub any_passed : (test : Lock → Bool) (node : Node) (lock : Lock) (next : Option Node) → item_in p node ≡ Some lock → test lock ≡ false → ahead (Some node) (list_in p.rows row) ≡ node ∷ ahead next (list_in p.rows row)
      → list_any (λ n. passes test (item_in p n)) (ahead (Some node) (list_in p.rows row)) ≡ list_any (λ n. passes test (item_in p n)) (ahead next (list_in p.rows row))
  any_passed test node lock next at fails e = ap (list_any (λ n. passes test (item_in p n))) e ∙ ap (λ o. passes test o || list_any (λ n. passes test (item_in p n)) (ahead next (list_in p.rows row))) at ∙ ap (λ b. b || list_any (λ n. passes test (item_in p n)) (ahead next (list_in p.rows row))) fails

-- none of the nodes that were passed counts
pub record Searches (p : Meaning Lock) (row : Row) (test : Lock → Bool) (next : Option Node) : Type 0 where
  pub next_is : IsNext p row next
  pub same : any_in_row p row test ≡ list_any (λ n. passes test (item_in p n)) (ahead next (list_in p.rows row))

-- the least of those that were passed, and of those that are ahead
pub record Gathers (p : Meaning Lock) (row : Row) (test : Lock → Bool) (least : Option OwnerNo) (next : Option Node) : Type 0 where
  pub next_is : IsNext p row next
  pub same : lesser least (least_of (map (λ n. owner_if test (item_in p n)) (ahead next (list_in p.rows row)))) ≡ least_in_row p row test

module _ (p : Meaning Lock) (row : Row) (test : Lock → Bool) where
  pub search_begins : (next : Option Node) → next ≡ first_in p.rows row → Searches p row test next
  search_begins next e = record { next_is = first_next p row next e; same = ap (list_any (λ n. passes test (item_in p n))) (sym (first_ahead p row next e)) }

  pub gather_begins : (next : Option Node) → next ≡ first_in p.rows row → Gathers p row test None next
  gather_begins next e = record { next_is = first_next p row next e; same = ap (λ l. least_of (map (λ n. owner_if test (item_in p n)) l)) (first_ahead p row next e) }

  module _ (rings : AreRings p) (node : Node) (lock : Lock) (at : item_in p node ≡ Some lock) where
    module _ (next : Option Node) (behind : IsSomeAnd (row_in p node) (λ home. next ≡ following node (list_in p.rows home))) where
      pub search_on : Searches p row test (Some node) → test lock ≡ false → Searches p row test next
      search_on s fails = record {
        next_is = next_next p row rings node s.next_is next behind;
        same = s.same ∙ any_passed p row test node lock next at fails (next_ahead p row rings node s.next_is next behind);
      }

      pub gather_on : (least more : Option OwnerNo) → Gathers p row test least (Some node) → more ≡ lesser least (owner_if test (Some lock)) → Gathers p row test more next
      gather_on least more g e = record {
        next_is = next_next p row rings node g.next_is next behind;
        same =
            ap (λ o. lesser o (least_of (map (λ n. owner_if test (item_in p n)) (ahead next (list_in p.rows row))))) e
            ∙ lesser-assoc least (owner_if test (Some lock)) (least_of (map (λ n. owner_if test (item_in p n)) (ahead next (list_in p.rows row))))
            ∙ ap (λ o. lesser least (lesser (owner_if test o) (least_of (map (λ n. owner_if test (item_in p n)) (ahead next (list_in p.rows row)))))) (sym at)
            ∙ ap (λ l. lesser least (least_of (map (λ n. owner_if test (item_in p n)) l))) (sym (next_ahead p row rings node g.next_is next behind))
            ∙ g.same;
      }

  pub gather_ends : (least : Option OwnerNo) → Gathers p row test least None → least ≡ least_in_row p row test
  gather_ends least g = sym (lesser-none least) ∙ g.same
