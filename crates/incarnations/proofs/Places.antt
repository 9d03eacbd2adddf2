-- Where entries stand, and which node is whose.
use Rattle.std.proofs.Common.{◌≡◌, ◌≢◌, ◌+◌, ⊎_elim, List, [], ◌∷◌, ◌++◌, length, true, false, Option, Some, None, IsSome, refl, sym, ap, ◌∙◌, subst, arith, rules}
use Rattle.std.specs.Prelude.{Contains}
use Rattle.std.specs.Option.{option_map, unwrap_or}
use Rattle.std.specs.FinMap.{FinMap, get, insert}
use Rattle.std.proofs.lemmas.List.{length-append, append_assoc}
use Rattle.pss_base.specs.declared.session.SessionNo.{SessionNo}
use Rattle.pss_machine.specs.declared.session.View.{View}
use Rattle.type_layout.specs.Schemas.{given}
use Rattle.link_pool.specs.Names.{col_cmp}
use Rattle.link_pool.specs.Rings.{list_in, without}
use Rattle.link_pool.specs.Meaning.{Meaning as Pool, AreRings, row_in, item_in, unlinked, in_row}
use Rattle.link_pool.specs.declared.names.Row.{Row}
use Rattle.link_pool.specs.declared.names.Col.{Col}
use Rattle.link_pool.specs.declared.names.Node.{Node}
use Rattle.link_pool.specs.declared.names.Seat.{Seat}
use Rattle.link_pool.proofs.NodeLists.{AreDistinct, without-absent, without-split, contains_split, length-without}
use Rattle.link_pool.proofs.RingChanges.{nobody_home, row_stays-unlinked, row_stays-inserted, col_stays-unlinked, col_list-unlinked, seat-inserted, seat-inserted_other, seat-unlinked_other}
use Rattle.incarnations.specs.declared.names.Slot.{Slot}
use Rattle.incarnations.specs.declared.names.BodyName.{BodyName}
use Rattle.incarnations.specs.declared.names.Entry.{Entry}
use Rattle.incarnations.specs.Meaning.{body, stands_on, same_body}
use Rattle.incarnations.specs.Stock.{Place, Loose, On, place_of, Spot, AreSeated, End, First, Last, put, IsMoved, IsPassed}
use Rattle.recent_table.proofs.Maps.{no_value, one_value, same_or_apart, insert_here, insert_apart}
use Rattle.incarnations.proofs.Keys.{body_self, body_told}
use Rattle.incarnations.proofs.Seats.{col_key}

false_true : {A : Type 0} → false ≡ true → A
false_true e = absurd (cc)

on_name : {b c : BodyName} → On b ≡ On c → b ≡ c
on_name e = cc

loose_on : {A : Type 0} {s : SessionNo} {b : BodyName} → Loose s ≡ On b → A
loose_on e = absurd (cc)

pub on_told : (y : Slot) (e : Entry) (b : BodyName) → place_of y e ≡ On b → stands_on b (y, e) ≡ true
on_told y e b h = by e.view h
  where
    by : (o : Option View) → given o (Loose y.session) (λ v. On (body e.pid v)) ≡ On b → given (option_map (body e.pid) o) false (same_body b) ≡ true
    by None is = loose_on is
    by (Some v) is = ap (same_body b) (on_name is) ∙ body_self b

pub on_found : (y : Slot) (e : Entry) (b : BodyName) → stands_on b (y, e) ≡ true → place_of y e ≡ On b
on_found y e b h = by e.view h
  where
    by : (o : Option View) → given (option_map (body e.pid) o) false (same_body b) ≡ true → given o (Loose y.session) (λ v. On (body e.pid v)) ≡ On b
    by None is = false_true is
    by (Some v) is = ap On (sym (body_told b (body e.pid v) is))

module _ (p : Pool Slot) (spots : Slot → Option Spot) (rows : Place → Option Row) (cols : SessionNo → Option Col) (s : AreSeated p spots rows cols) where
  -- the entry of a node
  pub record IsNodeOf (node : Node) (seat : Seat Slot) : Type 0 where
    pub spot : Spot
    pub at : spots seat.item ≡ Some spot
    pub node_is : spot.node ≡ node
    pub row_is : rows spot.place ≡ Some seat.row
    pub col_is : cols seat.item.session ≡ Some seat.col

  pub node_of : (node : Node) (seat : Seat Slot) → get p.nodes node ≡ Some seat → IsNodeOf node seat
  node_of node seat is = by (spots seat.item) refl (s.known node seat is)
    where
      by : (o : Option Spot) → spots seat.item ≡ o → option_map (λ spot. spot.node) o ≡ Some node → IsNodeOf node seat
      by None at e = no_value node e
      by (Some spot) at e =
          let t = s.seated seat.item spot at in
          let same = one_value e in
          let seats = one_value (sym t.at ∙ ap (get p.nodes) same ∙ is) in
          record { spot = spot; at = at; node_is = same; row_is = t.in_row ∙ ap (λ z. Some z.row) seats; col_is = t.in_col ∙ ap (λ z. Some z.col) seats }

  seat_in_row : (node : Node) (row : Row) → row_in p node ≡ Some row → (P : Type 0) → ((seat : Seat Slot) → get p.nodes node ≡ Some seat → seat.row ≡ row → P) → P
  seat_in_row node row at P f = by (get p.nodes node) refl at
    where
      by : (o : Option (Seat Slot)) → get p.nodes node ≡ o → option_map (λ z. z.row) o ≡ Some row → P
      by None is e = no_value row e
      by (Some seat) is e = f seat is (one_value e)

  -- the node of a row stands for an entry of its place
  pub in_place : ((a b : Place) (row : Row) → rows a ≡ Some row → rows b ≡ Some row → a ≡ b) → (place : Place) (row : Row) → rows place ≡ Some row → (node : Node) → row_in p node ≡ Some row
      → (P : Type 0) → ((x : Slot) (spot : Spot) → spots x ≡ Some spot → spot.place ≡ place → item_in p node ≡ Some x → P) → P
  in_place apart place row is node at P f =
      seat_in_row node row at P (λ seat found same.
      let t = node_of node seat found in
      f seat.item t.spot t.at (apart t.spot.place place row (t.row_is ∙ ap Some same) is) (ap (option_map (λ z. z.item)) found))

  -- a row of a place where no entry stands
  pub bare_row : ((a b : Place) (row : Row) → rows a ≡ Some row → rows b ≡ Some row → a ≡ b) → (place : Place) (row : Row) → rows place ≡ Some row → IsSome (get p.rows row)
      → ((x : Slot) (spot : Spot) → spots x ≡ Some spot → spot.place ≢ place) → get p.rows row ≡ Some []
  bare_row apart place row is there none = nobody_home p.rows row (row_in p) s.rings.rows there (λ node at. in_place apart place row is node at ⊥ (λ x spot found same item. none x spot found same))

-- ---- a node that moved

some : {A : Type 0} {v : A} (o : Option A) → o ≡ Some v → IsSome o
some None e = no_value _ e
some (Some v) e = search rules

length_put : (end : End) (node : Node) (nodes : List Node) → length (put end node nodes) ≡ length nodes + 1
length_put First node nodes = omega arith
length_put Last node nodes = length-append nodes (node ∷ [])

module _ (cols : FinMap col_cmp (List Node)) (col : Col) (nodes : List Node) where
  list_here : list_in (insert cols col nodes) col ≡ nodes
  list_here = ap (λ o. unwrap_or o []) (insert_here col_key cols col nodes)

  list_there : (c : Col) → c ≢ col → list_in (insert cols col nodes) c ≡ list_in cols c
  list_there c ne = ap (λ o. unwrap_or o []) (insert_apart col_key cols col nodes c ne)

  stays : (c : Col) → IsSome (get cols c) → IsSome (get (insert cols col nodes) c)
  stays c h =
      ⊎_elim (λ e. some (get (insert cols col nodes) c) (ap (get (insert cols col nodes)) e ∙ insert_here col_key cols col nodes)) (λ ne. subst IsSome (sym (insert_apart col_key cols col nodes c ne)) h)
      (same_or_apart col_key c col)

module _ (end : End) (p q : Pool Slot) (node : Node) (row : Row) (again : Node) (rings : AreRings p) (m : IsMoved end p q node row again) where
  abbrev mid : Pool Slot
  mid = unlinked p node m.seat

  abbrev here : Seat Slot
  here = in_row row m.seat

  pub rows_stay : (r : Row) → IsSome (get p.rows r) → IsSome (get q.rows r)
  rows_stay r h = subst (λ (n : Pool Slot). IsSome (get n.rows r)) (sym m.is) (row_stays-inserted mid again here r (row_stays-unlinked p node m.seat r h))

  pub cols_stay : (c : Col) → IsSome (get p.cols c) → IsSome (get q.cols c)
  cols_stay c h = subst (λ (n : Pool Slot). IsSome (get n.cols c)) (sym m.is) (stays mid.cols here.col (put end again (list_in mid.cols here.col)) c (col_stays-unlinked p node m.seat c h))

  absent : (c : Col) → c ≢ m.seat.col → Contains (list_in p.cols c) node → ⊥
  absent c ne h = ne (one_value (sym (rings.cols.only c node h) ∙ ap (option_map (λ z. z.col)) m.at))

  pub list_own : list_in q.cols m.seat.col ≡ put end again (without node (list_in p.cols m.seat.col))
  list_own = ap (λ (n : Pool Slot). list_in n.cols m.seat.col) m.is ∙ list_here mid.cols here.col (put end again (list_in mid.cols here.col)) ∙ ap (put end again) (col_list-unlinked p node m.seat rings m.at m.seat.col)

  pub list_other : (c : Col) → c ≢ m.seat.col → list_in q.cols c ≡ list_in p.cols c
  list_other c ne =
      ap (λ (n : Pool Slot). list_in n.cols c) m.is ∙ list_there mid.cols here.col (put end again (list_in mid.cols here.col)) c ne ∙ col_list-unlinked p node m.seat rings m.at c ∙ without-absent node (list_in p.cols c) (absent c ne)

  pub in_own : Contains (list_in p.cols m.seat.col) node
  in_own = rings.cols.found m.seat.col node (ap (option_map (λ z. z.col)) m.at)

  pub length_moved : (c : Col) → length (list_in q.cols c) ≡ length (list_in p.cols c)
  length_moved c =
      ⊎_elim
      (λ e. ap (λ z. length (list_in q.cols z)) e ∙ ap length list_own ∙ length_put end again (without node (list_in p.cols m.seat.col)) ∙ length-without node (list_in p.cols m.seat.col) (rings.cols.once m.seat.col) in_own ∙ ap (λ z. length (list_in p.cols z)) (sym e))
      (λ ne. ap length (list_other c ne)) (same_or_apart col_key c m.seat.col)

  pub seat_again : get q.nodes again ≡ Some here
  seat_again = ap (λ (n : Pool Slot). get n.nodes again) m.is ∙ seat-inserted mid again here

  pub seat_stays : (y : Node) → y ≢ node → IsSome (get p.nodes y) → get q.nodes y ≡ get p.nodes y
  seat_stays y ne h =
      let same : get mid.nodes y ≡ get p.nodes y = seat-unlinked_other p node m.seat y ne in
      ap (λ (n : Pool Slot). get n.nodes y) m.is ∙ seat-inserted_other mid again here y (λ e. missing (get p.nodes y) h (sym same ∙ ap (get mid.nodes) e ∙ m.free)) ∙ same
    where
      missing : {A : Type 0} (o : Option A) → IsSome o → o ≡ None → ⊥
      missing None h e = absurd (cc)
      missing (Some v) h e = no_value v (sym e)

-- a node that goes last in its column is passed
pub moved_passed : (p q : Pool Slot) (node : Node) (row : Row) (again : Node) → AreRings p → IsMoved Last p q node row again → IsPassed p q node
moved_passed p q node row again rings m = record {
  items = λ y ne h. ap (option_map (λ z. z.item)) (seat_stays Last p q node row again rings m y ne h);
  runs = λ c front run list.
      let own : m.seat.col ≡ c = one_value (sym (ap (option_map (λ z. z.col)) m.at) ∙ rings.cols.only c node (subst (λ l. Contains l node) (sym list) (contains_split node front run))) in
      record {
        front = front;
        back = again ∷ [];
        is =
            ap (list_in q.cols) (sym own) ∙ list_own Last p q node row again rings m ∙ ap (λ z. without node (list_in p.cols z) ++ again ∷ []) own ∙ ap (λ l. without node l ++ again ∷ []) list
            ∙ ap (λ l. l ++ again ∷ []) (without-split node front run (subst AreDistinct list (rings.cols.once c))) ∙ append_assoc front run (again ∷ []);
      };
}

-- so is one that stays
pub passed_still : (p : Pool Slot) (node : Node) → IsPassed p p node
passed_still p node = record {
  items = λ y ne h. refl;
  runs = λ c front run list. record { front = front ++ node ∷ []; back = []; is = list ∙ ap (λ l. front ++ node ∷ l) (sym (append_nil run)) ∙ sym (append_assoc front (node ∷ []) (run ++ [])) };
}
  where
    append_nil : (l : List Node) → l ++ [] ≡ l
    append_nil [] = refl
    append_nil (x ∷ xs) = ap (λ l. x ∷ l) (append_nil xs)
