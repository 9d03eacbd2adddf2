-- A lock comes into its rings.
use Rattle.std.proofs.Common.{ℕ, ◌≡◌, ◌+◌, ◌-◌, ◌^◌, ◌<◌, ◌≤◌, ◌⊎◌, inl, inr, ⊎_elim, List, [], ◌∷◌, ◌++◌, length, length-append, Option, Some, None, IsSome, Bool, true, false, cond, refl, sym, ap, ◌∙◌, subst, arith}
use Rattle.std.specs.Prelude.{Contains, min, ◌||◌, map}
use Rattle.std.specs.Option.{option_map, unwrap_or}
use Rattle.std.specs.FinMap as map
use Rattle.pss_base.specs.declared.owner.OwnerNo.{OwnerNo}
use Rattle.pss_machine.specs.declared.lock.Resource.{Resource}
use Rattle.pss_machine.specs.Needs.{same_resource}
use Rattle.std.proofs.lemmas.Bool.{cases_eq}
use Rattle.std.specs.Prelude.{is_some}
use Rattle.lock_table.proofs.Kept.{row_came, col_came}
use Rattle.link_pool.specs.Names.{node_cmp_total, node_named}
use Rattle.link_pool.specs.Meaning.{Meaning, row_in, col_in, item_in, inserted, AreRings, IsCountable}
use Rattle.link_pool.specs.Rings.{list_in}
use Rattle.link_pool.specs.declared.names.Row.{Row}
use Rattle.link_pool.specs.declared.names.Col.{Col}
use Rattle.link_pool.specs.declared.names.Node.{Node}
use Rattle.link_pool.specs.declared.names.Seat.{Seat}
use Rattle.link_pool.proofs.RingChanges.{row_list-inserted, row_list-inserted_other, col_list-inserted, row_stays-inserted, col_stays-inserted, seat-inserted, seat-inserted_other}
use Rattle.lock_table.specs.declared.links.Lock.{Lock}
use Rattle.lock_table.specs.declared.places.Place.{Place}
use Rattle.lock_table.specs.declared.links.Links.{Links}
use Rattle.pss_machine.specs.declared.lock.Need.{Need}
use Rattle.lock_table.specs.Locks.{Held}
use Rattle.lock_table.specs.Standing.{need_of}
use Rattle.lock_table.specs.inner.Nodes.{held_in, with_lock, with_all}
use Rattle.lock_table.specs.inner.Tables.{entry_at}
use Rattle.lock_table.specs.inner.Links.{IsLinked, IsReady, IsWhole, HaveRings, Recounts, LinksOne, same_owner, resource_in, owner_in, resources, owners, place_at, row_at, col_at}
use Rattle.lock_table.proofs.Sames.{resource-true, resource-self, owner-true, owner-self, cases, differ}
use Rattle.lock_table.proofs.Keyed.{one_value, no_value, empty_less, empty_within, contains_first, contains_rest, contains_cases}
use Rattle.lock_table.proofs.Holding.{has, is_lock, lock-true, NodeOf, node_held, held_node, held_more, has-with_lock, same_held, tight-held_of, tight-with_lock}
use Rattle.lock_table.proofs.Emptied.{rows_less, cols_less, nothing_in}
use Rattle.lock_table.proofs.Added.{row_cases, col_cases, some_is}

pub node_cases : (a b : Node) → (a ≡ b) ⊎ (a ≡ b → ⊥)
node_cases a b = ⊎_elim (λ e. inl (ap node_named e)) (λ ne. inr (λ e. ne (ap (λ (r : Node). r.number) e))) (cases_eq a.number b.number)

-- counts and then the node
module _ (old mid new : Links) (linked : IsLinked old) (lock : Lock) (row : Row) (col : Col) (node : Node) (at_row : row_at old lock.resource ≡ Some row) (at_col : col_at old lock.owner ≡ Some col)
    (counts : Recounts old mid lock.resource (λ n. min (n + 1) (2 ^ 64 - 1))) (absent : has (held_in old.pool) lock.owner (need_of lock) ≡ false)
    (fresh : map.get old.pool.nodes node ≡ None) (pool : new.pool ≡ inserted old.pool node (record { row = row; col = col; item = lock })) (places : new.places.table.entries ≡ mid.places.table.entries) (columns : new.columns.entries ≡ old.columns.entries)
    (held : new.held ≡ old.held + 1) (rings : AreRings new.pool) (countable : IsCountable new.pool) where
  abbrev seat : Seat Lock
  seat = record { row = row; col = col; item = lock }

  nodes_at : map.get new.pool.nodes node ≡ Some seat
  nodes_at = ap (λ p. map.get p.nodes node) pool ∙ seat-inserted old.pool node seat

  nodes_other : (q : Node) → (q ≡ node → ⊥) → map.get new.pool.nodes q ≡ map.get old.pool.nodes q
  nodes_other q ne = ap (λ p. map.get p.nodes q) pool ∙ seat-inserted_other old.pool node seat q ne

  item_at : item_in new.pool node ≡ Some lock
  item_at = ap (option_map (λ s. s.item)) nodes_at

  item_other : (q : Node) → (q ≡ node → ⊥) → item_in new.pool q ≡ item_in old.pool q
  item_other q ne = ap (option_map (λ s. s.item)) (nodes_other q ne)

  place_new : (r : Resource) → place_at new r ≡ place_at mid r
  place_new r = ap (λ es. entry_at same_resource es r) places

  col_new : (owner : OwnerNo) → col_at new owner ≡ col_at old owner
  col_new owner = ap (λ es. entry_at same_owner es owner) columns

  -- the place of the lock's resource
  record Seen : Type 0 where
    pub place : Place
    pub at : place_at old lock.resource ≡ Some place
    pub row_is : place.row ≡ row

  seen : Seen
  seen = by (place_at old lock.resource) refl at_row
    where
      by : (o : Option Place) → place_at old lock.resource ≡ o → option_map (λ place. place.row) o ≡ Some row → Seen
      by None e h = no_value row h
      by (Some place) e h = record { place = place; at = e; row_is = one_value h }

  row_same : (r : Resource) → row_at new r ≡ row_at old r
  row_same r = ap (option_map (λ place. place.row)) (place_new r) ∙ on (cases same_resource resource-true r lock.resource)
    where
      on : (r ≡ lock.resource) ⊎ (same_resource r lock.resource ≡ false) → option_map (λ place. place.row) (place_at mid r) ≡ row_at old r
      on (inl is) =
          ap (λ q. option_map (λ place. place.row) (place_at mid q)) is ∙ ap (option_map (λ place. place.row)) (counts.here seen.place seen.at) ∙ sym (ap (option_map (λ place. place.row)) seen.at) ∙ ap (row_at old) (sym is)
      on (inr ne) = ap (option_map (λ place. place.row)) (counts.others r ne)

  rows_stay : (q : Row) → IsSome (map.get old.pool.rows q) → IsSome (map.get new.pool.rows q)
  rows_stay q there = subst (λ p. IsSome (map.get p.rows q)) (sym pool) (row_stays-inserted old.pool node seat q there)

  cols_stay : (q : Col) → IsSome (map.get old.pool.cols q) → IsSome (map.get new.pool.cols q)
  cols_stay q there = subst (λ p. IsSome (map.get p.cols q)) (sym pool) (col_stays-inserted old.pool node seat q there)

  row_list : list_in new.pool.rows row ≡ list_in old.pool.rows row ++ node ∷ []
  row_list = ap (λ p. list_in p.rows row) pool ∙ row_list-inserted old.pool node seat

  row_list_other : (q : Row) → (q ≡ row → ⊥) → list_in new.pool.rows q ≡ list_in old.pool.rows q
  row_list_other q ne = ap (λ p. list_in p.rows q) pool ∙ row_list-inserted_other old.pool node seat q ne

  counted_new : (r : Resource) (place : Place) → place_at new r ≡ Some place → place.locks ≡ length (list_in new.pool.rows place.row)
  counted_new r place e = on (cases same_resource resource-true r lock.resource)
    where
      on : (r ≡ lock.resource) ⊎ (same_resource r lock.resource ≡ false) → place.locks ≡ length (list_in new.pool.rows place.row)
      on (inl is) =
          let here = sym (counts.here seen.place seen.at) ∙ ap (place_at mid) (sym is) ∙ sym (place_new r) ∙ e in
          let same = one_value here in
          let long : length (list_in new.pool.rows row) ≡ length (list_in old.pool.rows row) + 1 = ap length row_list ∙ length-append (list_in old.pool.rows row) (node ∷ []) in
          let short : length (list_in new.pool.rows row) < 2 ^ 64 = countable.rows row in
          let was : seen.place.locks ≡ length (list_in old.pool.rows row) = linked.counted lock.resource seen.place seen.at ∙ ap (λ q. length (list_in old.pool.rows q)) seen.row_is in
          let now : place.locks ≡ min (seen.place.locks + 1) (2 ^ 64 - 1) = ap (λ (p : Place). p.locks) (sym same) in
          let spot : place.row ≡ row = ap (λ (p : Place). p.row) (sym same) ∙ seen.row_is in
          omega (arith, long, short, was, now, ap (λ q. length (list_in new.pool.rows q)) spot)
      on (inr ne) =
          let was : place_at old r ≡ Some place = sym (counts.others r ne) ∙ sym (place_new r) ∙ e in
          let away : place.row ≡ row → ⊥ = λ o. differ same_resource resource-self r lock.resource ne (linked.rows.apart r lock.resource row (ap (option_map (λ p. p.row)) was ∙ ap (λ x. Some x) o) at_row) in
          linked.counted r place was ∙ ap length (sym (row_list_other place.row away))

  not_before : (q : Node) (l : Lock) → item_in old.pool q ≡ Some l → l ≡ lock → ⊥
  not_before q l e same = let t : true ≡ false = sym (node_held old.pool q l e) ∙ (λ i. has (held_in old.pool) (same i).owner (need_of (same i))) ∙ absent in absurd (cc)

  pub link_linked : IsLinked new
  link_linked = record {
    rings = rings;
    rows = record {
      there = λ r q e. rows_stay q (linked.rows.there r q (sym (row_same r) ∙ e));
      apart = λ a b q e f. linked.rows.apart a b q (sym (row_same a) ∙ e) (sym (row_same b) ∙ f);
      stands = λ q r e.
          row_same r
          ∙ ⊎_elim
          (λ (is : q ≡ node). ap (row_at old) (one_value (sym e ∙ ap (resource_in new.pool) is ∙ ap (option_map (λ l. l.resource)) item_at)) ∙ at_row ∙ sym (ap (row_in new.pool) is ∙ ap (option_map (λ s. s.row)) nodes_at))
          (λ ne. linked.rows.stands q r (sym (ap (option_map (λ l. l.resource)) (item_other q ne)) ∙ e) ∙ ap (option_map (λ s. s.row)) (sym (nodes_other q ne)))
          (node_cases q node);
    };
    cols = record {
      there = λ o q e. cols_stay q (linked.cols.there o q (sym (col_new o) ∙ e));
      apart = λ a b q e f. linked.cols.apart a b q (sym (col_new a) ∙ e) (sym (col_new b) ∙ f);
      stands = λ q o e.
          col_new o
          ∙ ⊎_elim
          (λ (is : q ≡ node). ap (col_at old) (one_value (sym e ∙ ap (owner_in new.pool) is ∙ ap (option_map (λ l. l.owner)) item_at)) ∙ at_col ∙ sym (ap (col_in new.pool) is ∙ ap (option_map (λ s. s.col)) nodes_at))
          (λ ne. linked.cols.stands q o (sym (ap (option_map (λ l. l.owner)) (item_other q ne)) ∙ e) ∙ ap (option_map (λ s. s.col)) (sym (nodes_other q ne)))
          (node_cases q node);
    };
    counted = counted_new;
    once = once_new;
    held = held ∙ ap (λ n. n + 1) linked.held ∙ sym (ap (λ p. map.len p.nodes) pool ∙ map.len-insert node_cmp_total old.pool.nodes node seat ∙ ap (λ o. cond (is_some o) (map.len old.pool.nodes) (map.len old.pool.nodes + 1)) fresh);
  }
    where
      once_new : (a b : Node) (l : Lock) → item_in new.pool a ≡ Some l → item_in new.pool b ≡ Some l → a ≡ b
      once_new a b l e f = by (node_cases a node) (node_cases b node)
        where
          mine : (q : Node) → q ≡ node → item_in new.pool q ≡ Some l → l ≡ lock
          mine q is h = one_value (sym h ∙ ap (item_in new.pool) is ∙ item_at)

          by : (a ≡ node) ⊎ (a ≡ node → ⊥) → (b ≡ node) ⊎ (b ≡ node → ⊥) → a ≡ b
          by (inl x) (inl y) = x ∙ sym y
          by (inl x) (inr y) = absurd (not_before b l (sym (item_other b y) ∙ f) (mine a x e))
          by (inr x) (inl y) = absurd (not_before a l (sym (item_other a x) ∙ e) (mine b y f))
          by (inr x) (inr y) = linked.once a b l (sym (item_other a x) ∙ e) (sym (item_other b y) ∙ f)

  row_full : (q : Row) → map.get new.pool.rows q ≡ Some [] → (map.get old.pool.rows q ≡ Some []) × (row_at old lock.resource ≡ Some q → ⊥)
  row_full q e = on (row_cases q row)
    where
      none : q ≡ row → ⊥
      none is =
          let here : list_in new.pool.rows row ≡ [] = ap (λ z. list_in new.pool.rows z) (sym is) ∙ ap (λ o. unwrap_or o []) e in
          omega (arith, ap length here, ap length row_list, length-append (list_in old.pool.rows row) (node ∷ []))

      on : (q ≡ row) ⊎ (q ≡ row → ⊥) → (map.get old.pool.rows q ≡ Some []) × (row_at old lock.resource ≡ Some q → ⊥)
      on (inl is) = absurd (none is)
      on (inr ne) = (sym (row_came old.pool.rows row q (list_in old.pool.rows row ++ node ∷ []) ne) ∙ ap (λ p. map.get p.rows q) (sym pool) ∙ e, λ h. ne (one_value (sym h ∙ at_row)))

  col_full : (q : Col) → map.get new.pool.cols q ≡ Some [] → (map.get old.pool.cols q ≡ Some []) × (col_at old lock.owner ≡ Some q → ⊥)
  col_full q e = on (col_cases q col)
    where
      col_list : list_in new.pool.cols col ≡ list_in old.pool.cols col ++ node ∷ []
      col_list = ap (λ p. list_in p.cols col) pool ∙ col_list-inserted old.pool node seat

      none : q ≡ col → ⊥
      none is =
          let here : list_in new.pool.cols col ≡ [] = ap (λ z. list_in new.pool.cols z) (sym is) ∙ ap (λ o. unwrap_or o []) e in
          omega (arith, ap length here, ap length col_list, length-append (list_in old.pool.cols col) (node ∷ []))

      on : (q ≡ col) ⊎ (q ≡ col → ⊥) → (map.get old.pool.cols q ≡ Some []) × (col_at old lock.owner ≡ Some q → ⊥)
      on (inl is) = absurd (none is)
      on (inr ne) = (sym (col_came old.pool.cols col q (list_in old.pool.cols col ++ node ∷ []) ne) ∙ ap (λ p. map.get p.cols q) (sym pool) ∙ e, λ h. ne (one_value (sym h ∙ at_col)))

  pub link_links : LinksOne old new lock
  link_links = record {
    held = held_more old.pool new.pool lock split kept (record { node = node; at = item_at });
    places = places_stay;
    columns = columns;
    room = ap_room;
    rows = λ keys were. empty_less same_resource resource-true resource-self (λ q. map.get old.pool.rows q ≡ Some []) (λ q. map.get new.pool.rows q ≡ Some []) (row_at old) (row_at new) lock.resource (λ q ne. row_same q) keys were row_full;
    cols = λ keys were. empty_less same_owner owner-true owner-self (λ q. map.get old.pool.cols q ≡ Some []) (λ q. map.get new.pool.cols q ≡ Some []) (col_at old) (col_at new) lock.owner (λ q ne. col_new q) keys were col_full;
  }
    where
      split : (q : Node) (l : Lock) → item_in new.pool q ≡ Some l → (l ≡ lock) ⊎ NodeOf old.pool l
      split q l e = ⊎_elim (λ (is : q ≡ node). inl (one_value (sym e ∙ ap (item_in new.pool) is ∙ item_at))) (λ ne. inr (record { node = q; at = sym (item_other q ne) ∙ e })) (node_cases q node)

      kept : (q : Node) (l : Lock) → item_in old.pool q ≡ Some l → NodeOf new.pool l
      kept q l e = ⊎_elim (λ (is : q ≡ node). no_value l (sym (ap (option_map (λ s. s.item)) fresh) ∙ ap (item_in old.pool) (sym is) ∙ e)) (λ ne. record { node = q; at = item_other q ne ∙ e }) (node_cases q node)

      places_stay : (r : Resource) → IsSome (place_at old r) → IsSome (place_at new r)
      places_stay r there = ⊎_elim (λ (is : r ≡ lock.resource). some_is (place_at new r) _ (place_new r ∙ ap (place_at mid) is ∙ counts.here seen.place seen.at)) (λ ne. subst IsSome (sym (place_new r ∙ counts.others r ne)) there) (cases same_resource resource-true r lock.resource)

      ap_room : old.pool.room ≤ new.pool.room + 1
      ap_room = let e : new.pool.room ≡ old.pool.room - 1 = ap (λ p. p.room) pool in omega (arith, e)

-- one more is counted within a word
pub room_to_count : (old new : Meaning Lock) (node : Node) (seat : Seat Lock) (held : ℕ) → held ≡ map.len old.nodes → map.get old.nodes node ≡ None → new ≡ inserted old node seat → IsCountable new → held + 1 < 2 ^ 64
room_to_count old new node seat held is fresh pool countable =
    let more : map.len new.nodes ≡ map.len old.nodes + 1 = ap (λ p. map.len p.nodes) pool ∙ map.len-insert node_cmp_total old.nodes node seat ∙ ap (λ o. cond (is_some o) (map.len old.nodes) (map.len old.nodes + 1)) fresh in
    omega (arith, is, more, countable.nodes)

-- a lock that is there already
module _ (links : Links) (linked : IsLinked links) (lock : Lock) (there : has (held_in links.pool) lock.owner (need_of lock) ≡ true) where
  again : held_in links.pool ≡ with_lock lock (held_in links.pool)
  again =
      same_held (held_in links.pool) (with_lock lock (held_in links.pool)) (tight-held_of (map.entries links.pool.nodes)) (tight-with_lock lock (held_in links.pool) (tight-held_of (map.entries links.pool.nodes))) (λ owner need.
      sym (has-with_lock lock (held_in links.pool) owner need ∙ by owner need (is_lock owner need lock) refl))
    where
      by : (owner : OwnerNo) (need : Need) (b : Bool) → is_lock owner need lock ≡ b → (b || has (held_in links.pool) owner need) ≡ has (held_in links.pool) owner need
      by owner need true is = sym (let same = lock-true owner need lock is in (λ i. has (held_in links.pool) (sym same i).owner (need_of (sym same i))) ∙ there)
      by owner need false is = refl

  no_empty_row : (s : Row) → map.get links.pool.rows s ≡ Some [] → row_at links lock.resource ≡ Some s → ⊥
  no_empty_row s e h =
      let n = held_node links.pool lock.owner (need_of lock) there in
      let home : row_in links.pool n.node ≡ Some s = sym (linked.rows.stands n.node lock.resource (ap (option_map (λ l. l.resource)) n.at)) ∙ h in
      nothing_in n.node (subst (λ (o : Option (List Node)). Contains (unwrap_or o []) n.node) e (linked.rings.rows.found s n.node home))

  no_empty_col : (s : Col) → map.get links.pool.cols s ≡ Some [] → col_at links lock.owner ≡ Some s → ⊥
  no_empty_col s e h =
      let n = held_node links.pool lock.owner (need_of lock) there in
      let home : col_in links.pool n.node ≡ Some s = sym (linked.cols.stands n.node lock.owner (ap (option_map (λ l. l.owner)) n.at)) ∙ h in
      nothing_in n.node (subst (λ (o : Option (List Node)). Contains (unwrap_or o []) n.node) e (linked.rings.cols.found s n.node home))

  pub link_idle : LinksOne links links lock
  link_idle = record {
    held = again;
    places = λ r h. h;
    columns = refl;
    room = omega arith;
    rows = λ keys were. rows_less links lock.resource keys were no_empty_row;
    cols = λ keys were. cols_less links lock.owner keys were no_empty_col;
  }

-- ---- all of them

open_front : {X Y : Type 0} (f : X → Y) (front : List X) (x : X) (k : Y) → Contains (map f (front ++ x ∷ [])) k → Contains (f x ∷ map f front) k
open_front f [] x k m = m
open_front f (y ∷ front) x k m =
    ⊎_elim
    (λ (e : f y ≡ k). contains_rest (f x) k (f y ∷ map f front) (subst (Contains (f y ∷ map f front)) e (contains_first (f y) (map f front))))
    (λ (n : Contains (map f (front ++ x ∷ [])) k).
    ⊎_elim
    (λ (e : f x ≡ k). subst (Contains (f x ∷ f y ∷ map f front)) e (contains_first (f x) (f y ∷ map f front)))
    (λ (h : Contains (map f front) k). contains_rest (f x) k (f y ∷ map f front) (contains_rest (f y) k (map f front) h))
    (contains_cases (f x) k (map f front) (open_front f front x k n)))
    (contains_cases (f y) k (map f (front ++ x ∷ [])) m)

with_all-push : (front : List Lock) (lock : Lock) (held : Held) → with_all (front ++ lock ∷ []) held ≡ with_all front (with_lock lock held)
with_all-push [] lock held = refl
with_all-push (x ∷ front) lock held = ap (with_lock x) (with_all-push front lock held)

in_front : (front : List Lock) (lock l : Lock) → Contains front l → Contains (front ++ lock ∷ []) l
in_front [] lock l m = absurd (omega (arith, m.1))
in_front (x ∷ front) lock l m = ⊎_elim (λ (e : x ≡ l). subst (Contains (x ∷ front ++ lock ∷ [])) e (contains_first x (front ++ lock ∷ []))) (λ n. contains_rest x l (front ++ lock ∷ []) (in_front front lock l n)) (contains_cases x l front m)

-- what is left to link
pub record LinksSome (first now : Links) (col : Col) (all rest : List Lock) : Type 0 where
  pub ready : IsReady now rest
  pub rings : HaveRings now col rest
  pub room : length rest ≤ now.pool.room
  pub held : with_all rest (held_in now.pool) ≡ with_all all (held_in first.pool)

pub links_begin : (first : Links) (col : Col) (all : List Lock) → IsReady first all → HaveRings first col all → length all ≤ first.pool.room → LinksSome first first col all all
links_begin first col all ready rings room = record { ready = ready; rings = rings; room = room; held = refl }

module _ (first old : Links) (col : Col) (all front whole : List Lock) (lock : Lock) (so_far : LinksSome first old col all whole) (split : whole ≡ front ++ lock ∷ []) where
  pub links_on : (new : Links) → IsLinked new → LinksOne old new lock → LinksSome first new col all front
  links_on new linked one = record {
    ready = record {
      linked = linked;
      rows =
          one.rows (resources front)
          (empty_within (λ row. map.get old.pool.rows row ≡ Some []) (row_at old) (resources whole) (lock.resource ∷ resources front) (λ k m. open_front (λ l. l.resource) front lock k (subst (λ l. Contains (resources l) k) split m)) so_far.ready.rows);
      cols =
          one.cols (owners front)
          (empty_within (λ col. map.get old.pool.cols col ≡ Some []) (col_at old) (owners whole) (lock.owner ∷ owners front) (λ k m. open_front (λ l. l.owner) front lock k (subst (λ l. Contains (owners l) k) split m)) so_far.ready.cols);
    };
    rings = λ l m.
        let r = so_far.rings l (subst (λ q. Contains q l) (sym split) (in_front front lock l m)) in
        (one.places l.resource r.0, ap (λ es. entry_at same_owner es l.owner) one.columns ∙ r.1);
    room = omega (arith, so_far.room, one.room, ap length split, length-append front (lock ∷ []));
    held = ap (with_all front) one.held ∙ sym (with_all-push front lock (held_in old.pool)) ∙ ap (λ l. with_all l (held_in old.pool)) (sym split) ∙ so_far.held;
  }

pub links_end : (first now : Links) (col : Col) (all rest : List Lock) → LinksSome first now col all rest → rest ≡ [] → IsWhole now × (held_in now.pool ≡ with_all all (held_in first.pool))
links_end first now col all rest l e =
    let ready : IsReady now [] = subst (IsReady now) e l.ready in
    (record { linked = ready.linked; rows = ready.rows; cols = ready.cols }, sym (ap (λ z. with_all z (held_in now.pool)) e) ∙ l.held)

pub only_one : (one lock : Lock) → Contains (one ∷ []) lock → one ≡ lock
only_one one lock m = ⊎_elim (λ e. e) (λ n. absurd (omega (arith, n.1))) (contains_cases one lock [] m)

-- a lock is linked alone
pub linked_alone : (old new : Links) (col : Col) (lock : Lock) → IsReady old (lock ∷ []) → IsSome (place_at old lock.resource) → col_at old lock.owner ≡ Some col → 1 ≤ old.pool.room → IsLinked new → LinksOne old new lock → IsWhole new × (held_in new.pool ≡ with_lock lock (held_in old.pool))
linked_alone old new col lock ready place at room linked one =
    links_end old new col (lock ∷ []) [] (links_on old old col (lock ∷ []) [] (lock ∷ []) lock (links_begin old col (lock ∷ []) ready rings room) refl new linked one) refl
  where
    rings : HaveRings old col (lock ∷ [])
    rings other m = subst (λ (l : Lock). IsSome (place_at old l.resource) × (col_at old l.owner ≡ Some col)) (only_one lock other m) (place, at)
