-- A node that goes into another row.
use Rattle.std.proofs.Common.{◌≡◌, Option, Some, None, IsSome, refl, sym, ap, ◌∙◌, subst}
use Rattle.std.specs.Prelude.{IsSomeAnd}
use Rattle.std.specs.Option.{option_map}
use Rattle.std.specs.FinMap.{get}
use Rattle.link_pool.specs.Meaning.{Meaning as Pool, AreRings, col_in, item_in, unlinked}
use Rattle.link_pool.specs.declared.names.Row.{Row}
use Rattle.link_pool.specs.declared.names.Col.{Col}
use Rattle.link_pool.specs.declared.names.Node.{Node}
use Rattle.link_pool.specs.declared.names.Seat.{Seat}
use Rattle.link_pool.proofs.RingChanges.{row_stays-unlinked, col_stays-unlinked}
use Rattle.incarnations.specs.declared.names.Slot.{Slot}
use Rattle.incarnations.specs.Stock.{End, placed, IsMoved}
use Rattle.recent_table.proofs.Maps.{one_value}

module _ (p mid : Pool Slot) (node : Node) (left : IsSomeAnd (get p.nodes node) (λ seat. mid ≡ unlinked p node seat)) (there : IsSome (get p.nodes node)) where
  -- where the node was
  pub record Was : Type 0 where
    pub seat : Seat Slot
    pub at : get p.nodes node ≡ Some seat
    pub is : mid ≡ unlinked p node seat

  pub was : Was
  was = by (get p.nodes node) refl there left
    where
      by : (o : Option (Seat Slot)) → get p.nodes node ≡ o → IsSome o → IsSomeAnd o (λ seat. mid ≡ unlinked p node seat) → Was
      by None at h l = absurd (cc)
      by (Some seat) at h l = record { seat = seat; at = at; is = l }

  pub row_left : (row : Row) → IsSome (get p.rows row) → IsSome (get mid.rows row)
  row_left row h = let w = was in subst (λ (m : Pool Slot). IsSome (get m.rows row)) (sym w.is) (row_stays-unlinked p node w.seat row h)

  pub col_left : AreRings p → (col : Col) → col_in p node ≡ Some col → IsSome (get mid.cols col)
  col_left rings col at = let w = was in subst (λ (m : Pool Slot). IsSome (get m.cols col)) (sym w.is) (col_stays-unlinked p node w.seat col (rings.cols.there col node at))

  pub moved : (end : End) → AreRings mid → (new : Pool Slot) (row : Row) (col : Col) (item : Slot) (again : Node) → col_in p node ≡ Some col → item_in p node ≡ Some item → get mid.nodes again ≡ None → new ≡ placed end mid again (record { row = row; col = col; item = item })
      → IsMoved end p new node row again
  moved end between new row col item again in_col is_item free came =
      let w = was in
      let same_col : w.seat.col ≡ col = one_value (sym (ap (option_map (λ s. s.col)) w.at) ∙ in_col) in
      let same_item : w.seat.item ≡ item = one_value (sym (ap (option_map (λ s. s.item)) w.at) ∙ is_item) in
      record {
        seat = w.seat;
        at = w.at;
        between = subst AreRings w.is between;
        free = sym (ap (λ (m : Pool Slot). get m.nodes again) w.is) ∙ free;
        is = came ∙ (λ i. placed end (w.is i) again (record { row = row; col = sym same_col i; item = sym same_item i }));
      }
