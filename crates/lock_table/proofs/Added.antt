-- Empty rings come.
use Rattle.std.proofs.Common.{ℕ, zero, suc, ◌≡◌, ◌+◌, ◌<◌, ◌≤◌, ◌⊎◌, ⊎_elim, inl, inr, List, [], ◌∷◌, length, get_or, drop, Option, Some, None, IsSome, false, refl, sym, ap, ◌∙◌, subst, arith, rules}
use Rattle.std.specs.Prelude.{Contains, map}
use Rattle.std.proofs.lemmas.Bool.{cases_eq}
use Rattle.std.proofs.Math.Seq.{drop-cons}
use Rattle.std.proofs.lemmas.List.{drop_all}
use Rattle.std.specs.Option.{option_map, unwrap_or}
use Rattle.std.specs.FinMap as map
use Rattle.pss_base.specs.declared.owner.OwnerNo.{OwnerNo}
use Rattle.pss_machine.specs.declared.lock.Resource.{Resource}
use Rattle.pss_machine.specs.Needs.{same_resource}
use Rattle.link_pool.specs.Names.{row_named, col_named}
use Rattle.link_pool.specs.Meaning.{Meaning, row_in, col_in, AreRings}
use Rattle.link_pool.specs.declared.names.Row.{Row}
use Rattle.link_pool.specs.declared.names.Col.{Col}
use Rattle.link_pool.specs.declared.names.Node.{Node}
use Rattle.link_pool.specs.declared.names.Seat.{Seat}
use Rattle.lock_table.specs.declared.links.Lock.{Lock}
use Rattle.lock_table.specs.declared.places.Place.{Place}
use Rattle.lock_table.specs.declared.links.Links.{Links}
use Rattle.lock_table.specs.inner.Tables.{Turns, entry_at}
use Rattle.lock_table.specs.inner.Links.{IsLinked, IsReady, Grows, EmptyRows, EmptyCols, same_owner, resource_in, owner_in, resources, owners, place_at, row_at, col_at}
use Rattle.lock_table.proofs.Sames.{resource-true, resource-self, owner-true, owner-self, cases}
use Rattle.lock_table.proofs.Keyed.{one_value, no_value, keyed_more, contains_first, contains_rest, contains_cases, empty_within}
use Rattle.lock_table.proofs.Kept.{same_row, same_col, same_key, same_owner_in, same_once, same_held, keyed_cols, empty_cols, keyed_rows, empty_rows, same_counts, row_came, col_came, row_came_here, col_came_here}

pub row_cases : (a b : Row) → (a ≡ b) ⊎ (a ≡ b → ⊥)
row_cases a b = ⊎_elim (λ e. inl (ap row_named e)) (λ ne. inr (λ e. ne (ap (λ (r : Row). r.number) e))) (cases_eq a.number b.number)

pub col_cases : (a b : Col) → (a ≡ b) ⊎ (a ≡ b → ⊥)
col_cases a b = ⊎_elim (λ e. inl (ap col_named e)) (λ ne. inr (λ e. ne (ap (λ (r : Col). r.number) e))) (cases_eq a.number b.number)

-- a node with a lock has a row and a column
pub row_seated : (p : Meaning Lock) (node : Node) (q : Resource) → resource_in p node ≡ Some q → row_in p node ≡ None → ⊥
row_seated p node q = by (map.get p.nodes node)
  where
    by : (o : Option (Seat Lock)) → option_map (λ lock. lock.resource) (option_map (λ seat. seat.item) o) ≡ Some q → option_map {U = Row} (λ seat. seat.row) o ≡ None → ⊥
    by None e h = no_value q e
    by (Some seat) e h = no_value seat.row (sym h)

pub col_seated : (p : Meaning Lock) (node : Node) (q : OwnerNo) → owner_in p node ≡ Some q → col_in p node ≡ None → ⊥
col_seated p node q = by (map.get p.nodes node)
  where
    by : (o : Option (Seat Lock)) → option_map (λ lock. lock.owner) (option_map (λ seat. seat.item) o) ≡ Some q → option_map {U = Col} (λ seat. seat.col) o ≡ None → ⊥
    by None e h = no_value q e
    by (Some seat) e h = no_value seat.col (sym h)

pub some_is : {A : Type 0} (o : Option A) (x : A) → o ≡ Some x → IsSome o
some_is o x e = subst IsSome (sym e) (search rules)

pub none_is : {A : Type 0} (o : Option A) → o ≡ None → IsSome o → ⊥
none_is None e h = search rules
none_is (Some x) e h = no_value x (sym e)

-- nothing came
module _ (old new : Links) (pool : new.pool ≡ old.pool) (places : new.places.table.entries ≡ old.places.table.entries) (columns : new.columns.entries ≡ old.columns.entries) (held : new.held ≡ old.held) where
  same_places : (r : Resource) → place_at new r ≡ place_at old r
  same_places r = ap (λ es. entry_at same_resource es r) places

  pub linked_same : IsLinked old → IsLinked new
  linked_same linked =
      let nodes = ap (λ p. p.nodes) pool in
      record {
        rings = subst AreRings (sym pool) linked.rings;
        rows = keyed_rows old new nodes (ap (λ p. p.rows) pool) same_places linked;
        cols = keyed_cols old new nodes (ap (λ p. p.cols) pool) columns linked;
        counted = same_counts old new nodes (ap (λ p. p.rows) pool) same_places linked;
        once = same_once old new nodes linked;
        held = same_held old new nodes linked held;
      }

  pub ready_same : (locks : List Lock) → IsReady old locks → IsReady new locks
  ready_same locks ready =
      let nodes = ap (λ p. p.nodes) pool in
      record {
        linked = linked_same ready.linked;
        rows = empty_rows old new nodes (ap (λ p. p.rows) pool) same_places (resources locks) ready.rows;
        cols = empty_cols old new nodes (ap (λ p. p.cols) pool) columns (owners locks) ready.cols;
      }

module _ (old new : Links) (r : Resource) (row : Row) (none : place_at old r ≡ None) (fresh : map.get old.pool.rows row ≡ None) (turns : Turns same_resource old.places.table.entries new.places.table.entries r (Some (record { row = row; locks = 0 })))
    (pool : new.pool ≡ record old.pool { rows = map.insert old.pool.rows row [] }) (columns : new.columns.entries ≡ old.columns.entries) (held : new.held ≡ old.held) (rings : AreRings new.pool) where
  nodes_r : new.pool.nodes ≡ old.pool.nodes
  nodes_r = ap (λ p. p.nodes) pool

  cols_r : new.pool.cols ≡ old.pool.cols
  cols_r = ap (λ p. p.cols) pool

  rows_r : new.pool.rows ≡ map.insert old.pool.rows row []
  rows_r = ap (λ p. p.rows) pool

  here_r : row_at new r ≡ Some row
  here_r = ap (option_map (λ place. place.row)) turns.here

  others_r : (q : Resource) → same_resource q r ≡ false → row_at new q ≡ row_at old q
  others_r q ne = ap (option_map (λ place. place.row)) (turns.others q ne)

  left_r : (q : Row) → (q ≡ row → ⊥) → map.get new.pool.rows q ≡ map.get old.pool.rows q
  left_r q ne = ap (λ m. map.get m q) rows_r ∙ row_came old.pool.rows row q [] ne

  bare_r : map.get new.pool.rows row ≡ Some []
  bare_r = ap (λ m. map.get m row) rows_r ∙ row_came_here old.pool.rows row []

  stay_r : (s : Row) → IsSome (map.get old.pool.rows s) → IsSome (map.get new.pool.rows s)
  stay_r s there = ⊎_elim (λ (e : s ≡ row). absurd (none_is (map.get old.pool.rows row) fresh (subst (λ q. IsSome (map.get old.pool.rows q)) e there))) (λ ne. subst IsSome (sym (left_r s ne)) there) (row_cases s row)

  counted_r : IsLinked old → (q : Resource) (place : Place) → place_at new q ≡ Some place → place.locks ≡ length (unwrap_or (map.get new.pool.rows place.row) [])
  counted_r linked q place e =
      ⊎_elim
      (λ (is : q ≡ r).
      let same : record { row = row; locks = 0 } ≡ place = one_value (sym turns.here ∙ ap (place_at new) (sym is) ∙ e) in
      subst (λ (p : Place). p.locks ≡ length (unwrap_or (map.get new.pool.rows p.row) [])) same (ap (λ o. length (unwrap_or o [])) (sym bare_r)))
      (λ (ne : same_resource q r ≡ false).
      let was : place_at old q ≡ Some place = sym (turns.others q ne) ∙ e in
      let away : place.row ≡ row → ⊥ = λ o. none_is (map.get old.pool.rows row) fresh (subst (λ s. IsSome (map.get old.pool.rows s)) o (linked.rows.there q place.row (ap (option_map (λ p. p.row)) was))) in
      linked.counted q place was ∙ ap (λ o. length (unwrap_or o [])) (sym (left_r place.row away)))
      (cases same_resource resource-true q r)

  linked_r : IsLinked old → IsLinked new
  linked_r linked = record {
    rings = rings;
    rows =
        keyed_more same_resource resource-true resource-self (λ row. IsSome (map.get old.pool.rows row)) (λ row. IsSome (map.get new.pool.rows row)) (row_in old.pool) (row_in new.pool) (resource_in old.pool) (resource_in new.pool) (row_at old)
        (row_at new) linked.rows (same_row old new nodes_r) (same_key old new nodes_r) r row others_r (ap (option_map (λ place. place.row)) none) here_r (none_is (map.get old.pool.rows row) fresh) (some_is (map.get new.pool.rows row) [] bare_r) stay_r (row_seated old.pool);
    cols = keyed_cols old new nodes_r cols_r columns linked;
    counted = counted_r linked;
    once = same_once old new nodes_r linked;
    held = same_held old new nodes_r linked held;
  }

  kept_r : (q : Resource) (s : Row) → row_at old q ≡ Some s → row_at new q ≡ Some s
  kept_r q s e = ⊎_elim (λ (is : q ≡ r). no_value s (sym (ap (option_map (λ place. place.row)) none) ∙ ap (row_at old) (sym is) ∙ e)) (λ ne. others_r q ne ∙ e) (cases same_resource resource-true q r)

  rows_ready : (keys : List Resource) → Contains keys r → EmptyRows old keys → EmptyRows new keys
  rows_ready keys among were s e =
      ⊎_elim
      (λ (is : s ≡ row). (r, among, here_r ∙ ap (λ x. Some x) (sym is)))
      (λ ne. let w = were s (sym (left_r s ne) ∙ e) in (w.0, w.1, kept_r w.0 s w.2))
      (row_cases s row)

  pub place_added : (locks : List Lock) → Contains (resources locks) r → IsReady old locks → IsReady new locks
  place_added locks among ready = record {
    linked = linked_r ready.linked;
    rows = rows_ready (resources locks) among ready.rows;
    cols = empty_cols old new nodes_r cols_r columns (owners locks) ready.cols;
  }

  pub place_grows : Grows old new
  place_grows = record {
    nodes = nodes_r;
    places = λ q there. ⊎_elim (λ (is : q ≡ r). subst (λ z. IsSome (place_at new z)) (sym is) (some_is (place_at new r) _ turns.here)) (λ ne. subst IsSome (sym (turns.others q ne)) there) (cases same_resource resource-true q r);
    cols = λ owner col e. ap (λ es. entry_at same_owner es owner) columns ∙ e;
  }

module _ (old new : Links) (owner : OwnerNo) (col : Col) (none : col_at old owner ≡ None) (fresh : map.get old.pool.cols col ≡ None) (turns : Turns same_owner old.columns.entries new.columns.entries owner (Some col))
    (pool : new.pool ≡ record old.pool { cols = map.insert old.pool.cols col [] }) (places : new.places.table.entries ≡ old.places.table.entries) (held : new.held ≡ old.held) (rings : AreRings new.pool) where
  nodes_c : new.pool.nodes ≡ old.pool.nodes
  nodes_c = ap (λ p. p.nodes) pool

  rows_c : new.pool.rows ≡ old.pool.rows
  rows_c = ap (λ p. p.rows) pool

  cols_c : new.pool.cols ≡ map.insert old.pool.cols col []
  cols_c = ap (λ p. p.cols) pool

  places_c : (r : Resource) → place_at new r ≡ place_at old r
  places_c r = ap (λ es. entry_at same_resource es r) places

  left_c : (q : Col) → (q ≡ col → ⊥) → map.get new.pool.cols q ≡ map.get old.pool.cols q
  left_c q ne = ap (λ m. map.get m q) cols_c ∙ col_came old.pool.cols col q [] ne

  bare_c : map.get new.pool.cols col ≡ Some []
  bare_c = ap (λ m. map.get m col) cols_c ∙ col_came_here old.pool.cols col []

  stay_c : (s : Col) → IsSome (map.get old.pool.cols s) → IsSome (map.get new.pool.cols s)
  stay_c s there = ⊎_elim (λ (e : s ≡ col). absurd (none_is (map.get old.pool.cols col) fresh (subst (λ q. IsSome (map.get old.pool.cols q)) e there))) (λ ne. subst IsSome (sym (left_c s ne)) there) (col_cases s col)

  linked_c : IsLinked old → IsLinked new
  linked_c linked = record {
    rings = rings;
    rows = keyed_rows old new nodes_c rows_c places_c linked;
    cols =
        keyed_more same_owner owner-true owner-self (λ col. IsSome (map.get old.pool.cols col)) (λ col. IsSome (map.get new.pool.cols col)) (col_in old.pool) (col_in new.pool) (owner_in old.pool) (owner_in new.pool) (col_at old)
        (col_at new) linked.cols (same_col old new nodes_c) (same_owner_in old new nodes_c) owner col turns.others none turns.here (none_is (map.get old.pool.cols col) fresh) (some_is (map.get new.pool.cols col) [] bare_c) stay_c (col_seated old.pool);
    counted = same_counts old new nodes_c rows_c places_c linked;
    once = same_once old new nodes_c linked;
    held = same_held old new nodes_c linked held;
  }

  kept_c : (q : OwnerNo) (s : Col) → col_at old q ≡ Some s → col_at new q ≡ Some s
  kept_c q s e = ⊎_elim (λ (is : q ≡ owner). no_value s (sym none ∙ ap (col_at old) (sym is) ∙ e)) (λ ne. turns.others q ne ∙ e) (cases same_owner owner-true q owner)

  cols_ready : (keys : List OwnerNo) → Contains keys owner → EmptyCols old keys → EmptyCols new keys
  cols_ready keys among were s e =
      ⊎_elim
      (λ (is : s ≡ col). (owner, among, turns.here ∙ ap (λ x. Some x) (sym is)))
      (λ ne. let w = were s (sym (left_c s ne) ∙ e) in (w.0, w.1, kept_c w.0 s w.2))
      (col_cases s col)

  pub column_added : (locks : List Lock) → Contains (owners locks) owner → IsReady old locks → IsReady new locks
  column_added locks among ready = record {
    linked = linked_c ready.linked;
    rows = empty_rows old new nodes_c rows_c places_c (resources locks) ready.rows;
    cols = cols_ready (owners locks) among ready.cols;
  }

  pub column_grows : Grows old new
  column_grows = record {
    nodes = nodes_c;
    places = λ q there. subst IsSome (sym (places_c q)) there;
    cols = kept_c;
  }

pub grows_trans : (a b c : Links) → Grows a b → Grows b c → Grows a c
grows_trans a b c g h = record {
  nodes = h.nodes ∙ g.nodes;
  places = λ r there. h.places r (g.places r there);
  cols = λ owner col e. h.cols owner col (g.cols owner col e);
}

-- the first k of the locks have a row
abbrev pub HaveRows : Links → List Lock → ℕ → Type 0
HaveRows links locks k = (i : ℕ) (lock : Lock) → i < k → get_or locks i lock ≡ lock → IsSome (place_at links lock.resource)

pub no_rows : (links : Links) (locks : List Lock) → HaveRows links locks 0
no_rows links locks i lock lt e = absurd (omega (arith, lt))

pub more_rows : (old new : Links) (locks : List Lock) (k : ℕ) (one : Lock) → k < length locks → one ≡ get_or locks k one → HaveRows old locks k → Grows old new → IsSome (place_at new one.resource) → HaveRows new locks (k + 1)
more_rows old new locks k one within is rows grows came i lock lt e =
    ⊎_elim
    (λ (h : i ≡ k). subst (λ (l : Lock). IsSome (place_at new l.resource)) (is ∙ get_or-any locks k one lock within ∙ ap (λ j. get_or locks j lock) (sym h) ∙ e) came)
    (λ ne. grows.places lock.resource (rows i lock (omega (arith, lt, ne)) e))
    (cases_eq i k)
  where
    get_or-any : {X : Type 0} (xs : List X) (n : ℕ) (a b : X) → n < length xs → get_or xs n a ≡ get_or xs n b
    get_or-any [] n a b lt = absurd (omega (arith, lt))
    get_or-any (x ∷ xs) zero a b lt = refl
    get_or-any (x ∷ xs) (suc n) a b lt = get_or-any xs n a b (omega (arith, lt))

pub contains_map : {X Y : Type 0} (f : X → Y) (xs : List X) (x : X) → Contains xs x → Contains (map f xs) (f x)
contains_map f xs x m = go f x xs m.0 m.1 m.2
  where
    go : {X Y : Type 0} (f : X → Y) (x : X) (xs : List X) (n : ℕ) → n < length xs → get_or xs n x ≡ x → Contains (map f xs) (f x)
    go f x [] n lt e = absurd (omega (arith, lt))
    go f x (y ∷ ys) zero lt e = (0, omega arith, ap f e)
    go f x (y ∷ ys) (suc n) lt e = contains_rest (f y) (f x) (map f ys) (go f x ys n (omega (arith, lt)) e)

-- room came
module _ (old new : Links) (nodes : new.pool.nodes ≡ old.pool.nodes) (rows : new.pool.rows ≡ old.pool.rows) (cols : new.pool.cols ≡ old.pool.cols) (places : new.places.table.entries ≡ old.places.table.entries) (columns : new.columns.entries ≡ old.columns.entries)
    (held : new.held ≡ old.held) (rings : AreRings new.pool) where
  pub ready_alike : (locks : List Lock) → IsReady old locks → IsReady new locks
  ready_alike locks ready =
      let same : (r : Resource) → place_at new r ≡ place_at old r = λ r. ap (λ es. entry_at same_resource es r) places in
      record {
        linked = record {
          rings = rings;
          rows = keyed_rows old new nodes rows same ready.linked;
          cols = keyed_cols old new nodes cols columns ready.linked;
          counted = same_counts old new nodes rows same ready.linked;
          once = same_once old new nodes ready.linked;
          held = same_held old new nodes ready.linked held;
        };
        rows = empty_rows old new nodes rows same (resources locks) ready.rows;
        cols = empty_cols old new nodes cols columns (owners locks) ready.cols;
      }

-- what the owner of each of some locks is
pub own_among : (locks : List Lock) (owner : OwnerNo) → 0 < length locks → ((lock : Lock) → Contains locks lock → lock.owner ≡ owner) → Contains (owners locks) owner
own_among [] owner some own = absurd (omega (arith, some))
own_among (lock ∷ locks) owner some own = (0, omega arith, own lock (contains_first lock locks))

own_only : (locks : List Lock) (owner k : OwnerNo) → ((lock : Lock) → Contains locks lock → lock.owner ≡ owner) → Contains (owners locks) k → k ≡ owner
own_only [] owner k own m = absurd (omega (arith, m.1))
own_only (lock ∷ locks) owner k own m =
    ⊎_elim
    (λ (e : lock.owner ≡ k). sym e ∙ own lock (contains_first lock locks))
    (λ (n : Contains (owners locks) k). own_only locks owner k (λ l h. own l (contains_rest lock l locks h)) n)
    (contains_cases lock.owner k (owners locks) m)

pub own_column : (links : Links) (locks : List Lock) (owner : OwnerNo) → ((lock : Lock) → Contains locks lock → lock.owner ≡ owner) → EmptyCols links (owners locks) → EmptyCols links (owner ∷ [])
own_column links locks owner own = empty_within (λ col. map.get links.pool.cols col ≡ Some []) (col_at links) (owners locks) (owner ∷ []) (λ k m. (0, omega arith, sym (own_only locks owner k own m)))

-- the rows of the locks from the k-th on
pub from_next : (links : Links) (locks : List Lock) (k : ℕ) (one : Lock) → k < length locks → EmptyRows links (resources (drop k locks)) → EmptyRows links ((get_or locks k one).resource ∷ resources (drop (k + 1) locks))
from_next links locks k one lt = subst (λ l. EmptyRows links (resources l)) (drop-cons locks k one lt ∙ (let e : suc k ≡ k + 1 = omega arith in ap (λ n. get_or locks k one ∷ drop n locks) e))

pub from_end : (links : Links) (locks : List Lock) (k : ℕ) → length locks ≤ k → EmptyRows links (resources (drop k locks)) → EmptyRows links []
from_end links locks k le = subst (λ l. EmptyRows links (resources l)) (drop_all k locks le)
