-- Entries in their rows and columns, when a node goes or comes.
use Rattle.std.proofs.Common.{◌≡◌, ◌≢◌, ⊎_elim, Option, Some, None, sym, ap, ◌∙◌}
use Rattle.std.specs.Option.{option_map}
use Rattle.std.specs.FinMap.{get, nat_cmp-IsAntisymmetric}
use Rattle.pss_base.specs.declared.session.SessionNo.{SessionNo}
use Rattle.link_pool.specs.Names.{row_cmp, col_cmp, node_cmp, row_named, col_named, node_named, row_cmp_total, col_cmp_total, node_cmp_total}
use Rattle.link_pool.specs.Meaning.{Meaning as Pool, AreRings, unlinked}
use Rattle.link_pool.specs.declared.names.Row.{Row}
use Rattle.link_pool.specs.declared.names.Col.{Col}
use Rattle.link_pool.specs.declared.names.Node.{Node}
use Rattle.link_pool.specs.declared.names.Seat.{Seat}
use Rattle.link_pool.proofs.RingChanges.{seat-inserted, seat-inserted_other, seat-unlinked, seat-unlinked_other}
use Rattle.incarnations.specs.declared.names.Slot.{Slot}
use Rattle.incarnations.specs.Stock.{Place, Spot, AreSeated, End, placed}
use Rattle.recent_table.proofs.Maps.{IsKey, no_value, one_value, same_or_apart}
use Rattle.incarnations.proofs.Keys.{slot_key}

pub row_key : IsKey row_cmp
row_key = record { total = row_cmp_total; alike = λ a b e. ap row_named (nat_cmp-IsAntisymmetric a.number b.number e) }

pub col_key : IsKey col_cmp
col_key = record { total = col_cmp_total; alike = λ a b e. ap col_named (nat_cmp-IsAntisymmetric a.number b.number e) }

pub node_key : IsKey node_cmp
node_key = record { total = node_cmp_total; alike = λ a b e. ap node_named (nat_cmp-IsAntisymmetric a.number b.number e) }

-- the same entries on the same places
pub seats_alike : (p : Pool Slot) (spots spots' : Slot → Option Spot) (rows rows' : Place → Option Row) (cols cols' : SessionNo → Option Col) → AreSeated p spots rows cols
    → ((x : Slot) → spots' x ≡ spots x) → ((x : Slot) (spot : Spot) → spots x ≡ Some spot → rows' spot.place ≡ rows spot.place) → ((x : Slot) (spot : Spot) → spots x ≡ Some spot → cols' x.session ≡ cols x.session)
    → AreSeated p spots' rows' cols'
seats_alike p spots spots' rows rows' cols cols' s same row col = record {
  rings = s.rings;
  seated = λ x spot at.
      let was = sym (same x) ∙ at in
      let t = s.seated x spot was in
      record { row = t.row; col = t.col; at = t.at; in_row = row x spot was ∙ t.in_row; in_col = col x spot was ∙ t.in_col };
  known = λ node seat at. ap (option_map (λ spot. spot.node)) (same seat.item) ∙ s.known node seat at;
}

-- the same nodes
pub seats_kept : (p q : Pool Slot) (spots : Slot → Option Spot) (rows : Place → Option Row) (cols : SessionNo → Option Col) → AreSeated p spots rows cols → q.nodes ≡ p.nodes → AreRings q → AreSeated q spots rows cols
seats_kept p q spots rows cols s same rings = record {
  rings = rings;
  seated = λ x spot at. let t = s.seated x spot at in record { row = t.row; col = t.col; at = ap (λ n. get n spot.node) same ∙ t.at; in_row = t.in_row; in_col = t.in_col };
  known = λ node seat at. s.known node seat (ap (λ n. get n node) (sym same) ∙ at);
}

module _ (p : Pool Slot) (spots spots' : Slot → Option Spot) (rows : Place → Option Row) (cols : SessionNo → Option Col) (s : AreSeated p spots rows cols) (x : Slot) (others : (y : Slot) → y ≢ x → spots' y ≡ spots y) where
  -- the entry goes, and its node
  module _ (spot : Spot) (seat : Seat Slot) (here : spots x ≡ Some spot) (at : get p.nodes spot.node ≡ Some seat) (gone : spots' x ≡ None) (rings : AreRings (unlinked p spot.node seat)) where
    -- the node of another entry
    apart : (y : Slot) (other : Spot) → y ≢ x → spots y ≡ Some other → other.node ≢ spot.node
    apart y other ne is e =
        let t = s.seated y other is in
        let u = s.seated x spot here in
        ne (ap (λ z. z.item) (one_value (sym t.at ∙ ap (get p.nodes) e ∙ u.at)))

    pub seats_out : AreSeated (unlinked p spot.node seat) spots' rows cols
    seats_out = record {
      rings = rings;
      seated = λ y other is.
          ⊎_elim
          (λ e. no_value other (sym gone ∙ ap spots' (sym e) ∙ is))
          (λ ne.
          let was = sym (others y ne) ∙ is in
          let t = s.seated y other was in
          record { row = t.row; col = t.col; at = seat-unlinked_other p spot.node seat other.node (apart y other ne was) ∙ t.at; in_row = t.in_row; in_col = t.in_col })
          (same_or_apart slot_key y x);
      known = λ node found is.
          ⊎_elim
          (λ e. no_value found (sym (seat-unlinked p spot.node seat) ∙ ap (get (unlinked p spot.node seat).nodes) (sym e) ∙ is))
          (λ ne.
          let was = s.known node found (sym (seat-unlinked_other p spot.node seat node ne) ∙ is) in
          ⊎_elim
          (λ e. absurd (ne (one_value (sym was ∙ ap (λ y. option_map (λ t. t.node) (spots y)) e ∙ ap (option_map (λ t. t.node)) here))))
          (λ other. ap (option_map (λ t. t.node)) (others found.item other) ∙ was)
          (same_or_apart slot_key found.item x))
          (same_or_apart node_key node spot.node);
    }

  -- an entry comes, with a node
  module _ (end : End) (node : Node) (seat : Seat Slot) (place : Place) (none : spots x ≡ None) (free : get p.nodes node ≡ None) (came : spots' x ≡ Some (record { node = node; place = place })) (item : seat.item ≡ x)
      (row : rows place ≡ Some seat.row) (col : cols x.session ≡ Some seat.col) (rings : AreRings (placed end p node seat)) where
    fresh : (other : Node) (found : Seat Slot) → get p.nodes other ≡ Some found → other ≢ node
    fresh other found is e = no_value found (sym free ∙ ap (get p.nodes) (sym e) ∙ is)

    pub seats_in : AreSeated (placed end p node seat) spots' rows cols
    seats_in = record {
      rings = rings;
      seated = λ y spot is.
          ⊎_elim
          (λ e.
          let same : record { node = node; place = place } ≡ spot = one_value (sym came ∙ ap spots' (sym e) ∙ is) in
          record {
            row = seat.row;
            col = seat.col;
            at = ap (λ (t : Spot). get (placed end p node seat).nodes t.node) (sym same) ∙ seat-inserted p node seat ∙ (λ i. Some (record { row = seat.row; col = seat.col; item = (item ∙ sym e) i }));
            in_row = ap (λ (t : Spot). rows t.place) (sym same) ∙ row;
            in_col = ap (λ (z : Slot). cols z.session) e ∙ col;
          })
          (λ ne.
          let t = s.seated y spot (sym (others y ne) ∙ is) in
          record { row = t.row; col = t.col; at = seat-inserted_other p node seat spot.node (fresh spot.node _ t.at) ∙ t.at; in_row = t.in_row; in_col = t.in_col })
          (same_or_apart slot_key y x);
      known = λ other found is.
          ⊎_elim
          (λ e.
          let same : seat ≡ found = one_value (sym (seat-inserted p node seat) ∙ ap (get (placed end p node seat).nodes) (sym e) ∙ is) in
          ap (λ (z : Slot). option_map (λ t. t.node) (spots' z)) (ap (λ z. z.item) (sym same) ∙ item) ∙ ap (option_map (λ t. t.node)) came ∙ ap Some (sym e))
          (λ ne.
          let was = s.known other found (sym (seat-inserted_other p node seat other ne) ∙ is) in
          ⊎_elim
          (λ e. no_value other (sym (ap (option_map (λ t. t.node)) (ap spots e ∙ none)) ∙ was))
          (λ apart. ap (option_map (λ t. t.node)) (others found.item apart) ∙ was)
          (same_or_apart slot_key found.item x))
          (same_or_apart node_key other node);
    }
