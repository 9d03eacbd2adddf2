-- What a pool has after each change of its cells.
use Rattle.std.proofs.Common.{ℕ, ◌≡◌, ◌+◌, ◌-◌, ◌≤◌, ◌<◌, List, [], ◌∷◌, ◌++◌, Some, None, IsSome, refl, sym, ap, ◌∙◌, subst, arith}
use Rattle.std.specs.Prelude.{IsSomeAnd}
use Rattle.std.specs.FinMap as map
use Rattle.slab.specs.Slab.{Slab, get, slab_len, Updates}
use Rattle.link_pool.specs.Names.{row_cmp, col_cmp, node_cmp, row_named, col_named}
use Rattle.link_pool.specs.Rings.{list_in}
use Rattle.link_pool.specs.Meaning.{Meaning, inserted, put_ahead, unlinked}
use Rattle.link_pool.specs.Cells.{kind_at, head_cell, seat_at, rings_of, meaning_of, end_of, front_of, IsSound, IsWhole, IsTaken, IsAdded}
use Rattle.link_pool.specs.declared.cells.Cell.{Cell}
use Rattle.link_pool.specs.declared.cells.Side.TheVariants.{Rows, Cols}
use Rattle.link_pool.specs.declared.names.Row.{Row}
use Rattle.link_pool.specs.declared.names.Col.{Col}
use Rattle.link_pool.specs.declared.names.Node.{Node}
use Rattle.link_pool.specs.declared.names.Seat.{Seat}
use Rattle.link_pool.proofs.Told.{seat_told, row_found, col_found}
use Rattle.link_pool.proofs.Taken.{taken_linked, rings_taken, nodes_taken}
use Rattle.link_pool.proofs.Added.{HasCome, came_last, came_first}
use Rattle.link_pool.proofs.Heads.{opened_sound, rings_opened, others_opened, nodes_opened, closed_sound, rings_closed, others_closed, nodes_closed}

module _ {T : Type 0} where
  pub same_meaning : {rows rows' : map.FinMap row_cmp (List Node)} {cols cols' : map.FinMap col_cmp (List Node)} {nodes nodes' : map.FinMap node_cmp (Seat T)} {room room' : ℕ} → rows ≡ rows' → cols ≡ cols' → nodes ≡ nodes' → room ≡ room'
      → let a : Meaning T = record { rows = rows; cols = cols; nodes = nodes; room = room } in let b : Meaning T = record { rows = rows'; cols = cols'; nodes = nodes'; room = room' } in a ≡ b
  same_meaning a b c d = λ i. record { rows = a i; cols = b i; nodes = c i; room = d i }

  module _ (s t : Slab (Cell T)) (promised : ℕ) (whole : IsWhole s promised) (capacity : t.capacity ≡ s.capacity) where
    module _ (x : Node) (seat : Seat T) (at : seat_at s x.number ≡ Some seat) (rows : IsTaken Rows s t x.number) (cols : IsTaken Cols s t x.number) (len : slab_len t + 1 ≡ slab_len s) where
      pub unlinked_whole : IsWhole t promised
      unlinked_whole = record {
        sound = record { rows = taken_linked Rows s t whole.sound.rows x seat at rows; cols = taken_linked Cols s t whole.sound.cols x seat at cols };
        within = omega (arith, len, whole.within);
        backed = omega (arith, capacity, whole.backed);
      }

      pub unlinked_meaning : meaning_of t promised ≡ unlinked (meaning_of s promised) x seat
      unlinked_meaning = same_meaning (rings_taken Rows s t whole.sound.rows x seat at rows) (rings_taken Cols s t whole.sound.cols x seat at cols) (nodes_taken Rows s t whole.sound.rows x seat at rows) (omega (arith, len, whole.within))

      pub unlinked_told : (m : Meaning T) → meaning_of s promised ≡ m → IsSomeAnd (map.get m.nodes x) (λ found. meaning_of t promised ≡ unlinked m x found)
      unlinked_told m is =
          subst (λ o. IsSomeAnd o (λ found. meaning_of t promised ≡ unlinked m x found)) (sym (seat_told s promised m is x seat at))
          (unlinked_meaning ∙ ap (λ p. unlinked p x seat) is)

    module _ (r : ℕ) (vacant : get s r ≡ None) (len : slab_len t ≡ slab_len s + 1) (room : 0 < promised - slab_len s) where
      pub row_added_whole : Updates s t r (Some (head_cell Rows r)) → IsWhole t promised
      row_added_whole came = record { sound = opened_sound Rows s t whole.sound r vacant came; within = omega (arith, len, room); backed = omega (arith, capacity, whole.backed) }

      pub row_added_meaning : Updates s t r (Some (head_cell Rows r)) → let m = meaning_of s promised in let n : Meaning T = record m { rows = map.insert m.rows (row_named r) []; room = m.room - 1 } in meaning_of t promised ≡ n
      row_added_meaning came = same_meaning (rings_opened Rows s t whole.sound r vacant came) (others_opened Rows s t whole.sound r vacant came) (nodes_opened Rows s t whole.sound r vacant came) (omega (arith, len))

      pub row_added_told : Updates s t r (Some (head_cell Rows r)) → (m : Meaning T) → let more : Meaning T = record m { room = m.room + 1 } in meaning_of s promised ≡ more
          → let n : Meaning T = record m { rows = map.insert m.rows (row_named r) [] } in meaning_of t promised ≡ n
      row_added_told came m is =
          row_added_meaning came
          ∙ (λ i. record (is i) { rows = map.insert (is i).rows (row_named r) []; room = (is i).room - 1 })
          ∙ same_meaning refl refl refl (omega arith)

      pub col_added_whole : Updates s t r (Some (head_cell Cols r)) → IsWhole t promised
      col_added_whole came = record { sound = opened_sound Cols s t whole.sound r vacant came; within = omega (arith, len, room); backed = omega (arith, capacity, whole.backed) }

      pub col_added_meaning : Updates s t r (Some (head_cell Cols r)) → let m = meaning_of s promised in let n : Meaning T = record m { cols = map.insert m.cols (col_named r) []; room = m.room - 1 } in meaning_of t promised ≡ n
      col_added_meaning came = same_meaning (others_opened Cols s t whole.sound r vacant came) (rings_opened Cols s t whole.sound r vacant came) (nodes_opened Cols s t whole.sound r vacant came) (omega (arith, len))

      pub col_added_told : Updates s t r (Some (head_cell Cols r)) → (m : Meaning T) → let more : Meaning T = record m { room = m.room + 1 } in meaning_of s promised ≡ more
          → let n : Meaning T = record m { cols = map.insert m.cols (col_named r) [] } in meaning_of t promised ≡ n
      col_added_told came m is =
          col_added_meaning came
          ∙ (λ i. record (is i) { cols = map.insert (is i).cols (col_named r) []; room = (is i).room - 1 })
          ∙ same_meaning refl refl refl (omega arith)

    module _ (len : slab_len t + 1 ≡ slab_len s) where
      pub row_removed_whole : (k : Row) → map.get (rings_of Rows s) k ≡ Some [] → Updates s t k.number None → IsWhole t (promised - 1)
      row_removed_whole k empty went = record { sound = closed_sound Rows s t whole.sound k empty went; within = omega (arith, len, whole.within); backed = omega (arith, capacity, whole.backed) }

      pub row_removed_meaning : (k : Row) → map.get (rings_of Rows s) k ≡ Some [] → Updates s t k.number None → let m = meaning_of s promised in let n : Meaning T = record m { rows = map.remove m.rows k } in meaning_of t (promised - 1) ≡ n
      row_removed_meaning k empty went = same_meaning (rings_closed Rows s t whole.sound k empty went) (others_closed Rows s t whole.sound k empty went) (nodes_closed Rows s t whole.sound k empty went) (omega (arith, len, whole.within))

      pub row_removed_told : (k : Row) → map.get (rings_of Rows s) k ≡ Some [] → Updates s t k.number None → (m : Meaning T) → meaning_of s promised ≡ m → let n : Meaning T = record m { rows = map.remove m.rows k } in meaning_of t (promised - 1) ≡ n
      row_removed_told k empty went m is = row_removed_meaning k empty went ∙ (λ i. record (is i) { rows = map.remove (is i).rows k })

      pub col_removed_whole : (k : Col) → map.get (rings_of Cols s) k ≡ Some [] → Updates s t k.number None → IsWhole t (promised - 1)
      col_removed_whole k empty went = record { sound = closed_sound Cols s t whole.sound k empty went; within = omega (arith, len, whole.within); backed = omega (arith, capacity, whole.backed) }

      pub col_removed_meaning : (k : Col) → map.get (rings_of Cols s) k ≡ Some [] → Updates s t k.number None → let m = meaning_of s promised in let n : Meaning T = record m { cols = map.remove m.cols k } in meaning_of t (promised - 1) ≡ n
      col_removed_meaning k empty went = same_meaning (others_closed Cols s t whole.sound k empty went) (rings_closed Cols s t whole.sound k empty went) (nodes_closed Cols s t whole.sound k empty went) (omega (arith, len, whole.within))

      pub col_removed_told : (k : Col) → map.get (rings_of Cols s) k ≡ Some [] → Updates s t k.number None → (m : Meaning T) → meaning_of s promised ≡ m → let n : Meaning T = record m { cols = map.remove m.cols k } in meaning_of t (promised - 1) ≡ n
      col_removed_told k empty went m is = col_removed_meaning k empty went ∙ (λ i. record (is i) { cols = map.remove (is i).cols k })

  -- the pool after a node came in, with these lists of its row and of its column
  abbrev come : Meaning T → Node → Seat T → List Node → List Node → Meaning T
  come m x seat row col = record { rows = map.insert m.rows seat.row row; cols = map.insert m.cols seat.col col; nodes = map.insert m.nodes x seat; room = m.room - 1 }

  module _ (s t : Slab (Cell T)) (promised : ℕ) (whole : IsWhole s promised) (m : Meaning T) (is : meaning_of s promised ≡ m) (x : Node) (seat : Seat T)
      (row : IsSome (map.get m.rows seat.row)) (col : IsSome (map.get m.cols seat.col)) (room : 0 < m.room) (vacant : kind_at s x.number ≡ None) (len : slab_len t ≡ slab_len s + 1) (capacity : t.capacity ≡ s.capacity) where
    came : (rs cs : List Node) → HasCome Rows s t x seat rs → HasCome Cols s t x seat cs → IsWhole t promised × (meaning_of t promised ≡ come (meaning_of s promised) x seat rs cs)
    came rs cs rows cols = (
      record { sound = record { rows = rows.linked; cols = cols.linked }; within = omega (arith, len, room, ap (λ p. p.room) is); backed = omega (arith, capacity, whole.backed) },
      same_meaning rows.rings cols.rings rows.nodes (omega (arith, len)),
    )

    rows_last : IsAdded Rows s t x.number seat (end_of Rows s seat.row.number) → HasCome Rows s t x seat (list_in (rings_of Rows s) seat.row ++ x ∷ [])
    rows_last = came_last Rows s t whole.sound.rows x seat (row_found s promised m is seat.row row) vacant

    pub came_behind : IsAdded Rows s t x.number seat (end_of Rows s seat.row.number) → IsAdded Cols s t x.number seat (end_of Cols s seat.col.number) → IsWhole t promised × (meaning_of t promised ≡ inserted m x seat)
    came_behind rows cols = let c = came _ _ (rows_last rows) (came_last Cols s t whole.sound.cols x seat (col_found s promised m is seat.col col) vacant cols) in (c.0, c.1 ∙ ap (λ p. inserted p x seat) is)

    pub came_ahead : IsAdded Rows s t x.number seat (end_of Rows s seat.row.number) → IsAdded Cols s t x.number seat (front_of Cols s seat.col.number) → IsWhole t promised × (meaning_of t promised ≡ put_ahead m x seat)
    came_ahead rows cols = let c = came _ _ (rows_last rows) (came_first Cols s t whole.sound.cols x seat (col_found s promised m is seat.col col) vacant cols) in (c.0, c.1 ∙ ap (λ p. put_ahead p x seat) is)

  -- memory for more cells changes nothing but what may be promised
  pub room_whole : (s t : Slab (Cell T)) (promised wanted : ℕ) → IsWhole s promised → let u : Slab (Cell T) = record s { capacity = t.capacity } in t ≡ u → promised ≤ wanted → wanted ≤ t.capacity → IsWhole t wanted
  room_whole s t promised wanted whole same more fits = record {
    sound = subst IsSound (sym same) (record { rows = whole.sound.rows; cols = whole.sound.cols });
    within = subst (λ (u : Slab (Cell T)). slab_len u ≤ wanted) (sym same) (omega (arith, whole.within, more));
    backed = fits;
  }

  pub room_meaning : (s t : Slab (Cell T)) (promised wanted room : ℕ) (m : Meaning T) → meaning_of s promised ≡ m → let u : Slab (Cell T) = record s { capacity = t.capacity } in t ≡ u → wanted - slab_len s ≡ room
      → let n : Meaning T = record m { room = room } in meaning_of t wanted ≡ n
  room_meaning s t promised wanted room m is same e = ap (λ u. meaning_of u wanted) same ∙ (λ i. record (is i) { room = e i })

  pub kept_meaning : (s t : Slab (Cell T)) (promised : ℕ) (m : Meaning T) → meaning_of s promised ≡ m → let u : Slab (Cell T) = record s { capacity = t.capacity } in t ≡ u → meaning_of t promised ≡ m
  kept_meaning s t promised m is same = ap (λ u. meaning_of u promised) same ∙ is
