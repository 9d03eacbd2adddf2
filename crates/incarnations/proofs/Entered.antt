-- What is stored after an entry came.
use Rattle.std.proofs.Common.{ℕ, ◌≡◌, ◌≢◌, ◌⊎◌, inl, inr, ⊎_elim, ◌<◌, ◌≤◌, ◌+◌, List, [], ◌∷◌, ◌++◌, Bool, true, false, Option, Some, None, IsSome, refl, sym, ap, ◌∙◌, subst, arith}
use Rattle.std.specs.Prelude.{IsSomeAnd, length, is_some, Contains, ◌&&◌}
use Rattle.std.specs.Option.{option_map, option_and_then}
use Rattle.std.specs.FinMap.{FinMap, get, insert, remove}
use Rattle.pss_base.specs.declared.session.SessionNo.{SessionNo}
use Rattle.link_pool.specs.Meaning.{Meaning as Pool, AreRings}
use Rattle.link_pool.specs.declared.names.Row.{Row}
use Rattle.link_pool.specs.declared.names.Col.{Col}
use Rattle.link_pool.specs.declared.names.Node.{Node}
use Rattle.link_pool.specs.Rings.{list_in, without}
use Rattle.incarnations.specs.declared.names.Slot.{Slot}
use Rattle.incarnations.specs.declared.names.Entry.{Entry}
use Rattle.incarnations.specs.declared.names.EntryRecord.{EntryRecord}
use Rattle.incarnations.specs.declared.names.SessionRecord.{SessionRecord}
use Rattle.incarnations.specs.declared.stock.Stock.{Stock}
use Rattle.incarnations.specs.Keys.{slot_cmp}
use Rattle.recent_table.specs.Maps.{each, count}
use Rattle.incarnations.specs.Meaning.{stands_on, is_of, is_attached}
use Rattle.incarnations.specs.Stock.{Place, Loose, On, spot_of, spots_in, spot_at, row_at, col_at, meaning_of, AreSeated, IsSound, AreNumbered, AreFirst, is_standing, IsInFront, AreInFront, Last}
use Rattle.type_layout.specs.Schemas.{given}
use Rattle.incarnations.proofs.FirstNodes.{first_behind, first_alike}
use Rattle.incarnations.proofs.Fronts.{is_front, in_column}
use Rattle.recent_table.proofs.Maps.{no_value, one_value, same_or_apart, insert_here, insert_apart, get_each, weight, remove_insert, each_insert}
use Rattle.incarnations.proofs.Keys.{slot_key}
use Rattle.incarnations.proofs.Seats.{node_key, seats_alike, seats_kept}
use Rattle.incarnations.proofs.Named.{apart_less}
use Rattle.incarnations.specs.Meaning.{HasNoEntry, IsNew}
use Rattle.incarnations.specs.Keys.{session_cmp, object_cmp}
use Rattle.incarnations.specs.Stock.{pid_at, number_at}
use Rattle.recent_table.proofs.Maps.{at_same, count_new}
use Rattle.incarnations.proofs.Keys.{session_key, object_key, session_told}
use Rattle.incarnations.proofs.Seats.{col_key, seats_in}
use Rattle.incarnations.proofs.Named.{object, names_in, numbered_new}
use Rattle.pss_base.specs.declared.pid.Pid.{Pid}
use Rattle.link_pool.specs.declared.names.Seat.{Seat}
use Rattle.link_pool.specs.Meaning.{inserted, unlinked}
use Rattle.std.proofs.lemmas.Bool.{eq-eqb}
use Rattle.std.proofs.lemmas.List.{length-append}
use Rattle.link_pool.proofs.NodeLists.{AreDistinct, without-absent, without-split}
use Rattle.link_pool.proofs.RingChanges.{row_stays-inserted, col_stays-inserted, row_stays-unlinked, col_stays-unlinked, seat-inserted, seat-inserted_other, col_list-inserted, col_list-inserted_other, col_list-unlinked}
use Rattle.incarnations.proofs.Stood.{pool_alike}
use Rattle.incarnations.proofs.Sets.{has_map, plain, entry_is}

append_nil : (l : List Node) → l ++ [] ≡ l
append_nil [] = refl
append_nil (y ∷ ys) = ap (λ l. y ∷ l) (append_nil ys)

-- an entry on no body is none of those on one
loose_weight : (t : SessionNo) (y : Slot) (e : Entry) → e.view ≡ None → weight (is_front t (y, e)) ≡ 0
loose_weight t y e loose = ap (λ o. weight (is_of t (y, e) && is_some o)) loose ∙ by (is_of t (y, e))
  where
    by : (b : Bool) → weight (b && false) ≡ 0
    by true = refl
    by false = refl

abbrev pub slot : SessionNo → ℕ → Slot
slot s n = record { session = s; number = n }

module _ (k : Stock) (sound : IsSound k) (s : SessionNo) (home : SessionRecord) (home_is : get k.sessions s ≡ Some home) (pid : Pid) (free : get k.objects (object s pid) ≡ None) where
  abbrev x : Slot
  x = slot s (home.last + 1)

  -- no entry has the next number
  no_entry : get k.entries x ≡ None
  no_entry = by (get k.entries x) refl
    where
      high : IsSomeAnd (Some home.last) (λ last. (0 < home.last + 1) × (home.last + 1 ≤ last)) → ⊥
      high h = absurd (omega (arith, h.1))

      by : (o : Option EntryRecord) → get k.entries x ≡ o → o ≡ None
      by None is = refl
      by (Some r) is =
          absurd
          (high
          (subst (λ o. IsSomeAnd o (λ last. (0 < home.last + 1) × (home.last + 1 ≤ last))) (get_each (λ z. z.last) k.sessions s ∙ ap (option_map (λ z. z.last)) home_is)
          (sound.numbers.numbers x r.entry (entry_is k sound x r is))))

  pub none_for : HasNoEntry (meaning_of k) s pid
  none_for n e at same =
      let h = has_map (λ z. z.entry) (get k.entries (slot s n)) e (sym (get_each (λ z. z.entry) k.entries (slot s n)) ∙ at) in
      let is : h.value.entry ≡ e = one_value (sym (ap (option_map (λ z. z.entry)) h.is) ∙ sym (get_each (λ z. z.entry) k.entries (slot s n)) ∙ at) in
      no_value n (sym free ∙ sound.names.named (slot s n) pid (ap (option_map (λ z. z.entry.pid)) h.is ∙ ap Some (ap (λ z. z.pid) is ∙ same)))

  -- with room for a node, and with the node
  module _ (q : Pool Slot) (n_is : q.nodes ≡ k.pool.nodes) (r_is : q.rows ≡ k.pool.rows) (c_is : q.cols ≡ k.pool.cols) (rings_q : AreRings q) where
    pub home_row : IsSome (get q.rows home.row)
    home_row = subst (λ t. IsSome (get t home.row)) (sym r_is) (sound.rows.there (Loose s) home.row (ap (option_map (λ z. z.row)) home_is))

    pub home_col : IsSome (get q.cols home.col)
    home_col = subst (λ t. IsSome (get t home.col)) (sym c_is) (sound.cols.there s home.col (ap (option_map (λ z. z.col)) home_is))

    module _ (node : Node) (new : get q.nodes node ≡ None) (p : Pool Slot) (p_is : p ≡ inserted q node (record { row = home.row; col = home.col; item = x })) (rings : AreRings p) where
      abbrev seat : Seat Slot
      seat = record { row = home.row; col = home.col; item = x }

      abbrev ins : Pool Slot
      ins = inserted q node seat

      rings_i : AreRings ins
      rings_i = subst AreRings p_is rings

      seated : (seats : AreSeated q (spot_at k) (row_at k) (col_at k)) (after : FinMap slot_cmp EntryRecord) → after ≡ insert k.entries x (record { entry = record { pid = pid; count = 1; view = None }; node = node }) → AreSeated p (spots_in after) (row_at k) (col_at k)
      seated seats after is =
          subst (λ t. AreSeated p (spots_in t) (row_at k) (col_at k)) (sym is)
          (subst (λ (t : Pool Slot). AreSeated t (spots_in (insert k.entries x (record { entry = record { pid = pid; count = 1; view = None }; node = node }))) (row_at k) (col_at k)) (sym p_is)
          (seats_in q (spot_at k) (spots_in (insert k.entries x (record { entry = record { pid = pid; count = 1; view = None }; node = node }))) (row_at k) (col_at k) seats x
          (λ y ne. ap (option_map (spot_of y)) (insert_apart slot_key k.entries x (record { entry = record { pid = pid; count = 1; view = None }; node = node }) y ne)) Last node seat (Loose s) (ap (option_map (spot_of x)) no_entry) new
          (ap (option_map (spot_of x)) (insert_here slot_key k.entries x (record { entry = record { pid = pid; count = 1; view = None }; node = node }))) refl (ap (option_map (λ z. z.row)) home_is) (ap (option_map (λ z. z.col)) home_is) rings_i))

      row_stays : (r : Row) → IsSome (get k.pool.rows r) → IsSome (get p.rows r)
      row_stays r there = subst (λ (t : Pool Slot). IsSome (get t.rows r)) (sym p_is) (row_stays-inserted q node seat r (subst (λ t. IsSome (get t r)) (sym r_is) there))

      col_stays : (c : Col) → IsSome (get k.pool.cols c) → IsSome (get p.cols c)
      col_stays c there = subst (λ (t : Pool Slot). IsSome (get t.cols c)) (sym p_is) (col_stays-inserted q node seat c (subst (λ t. IsSome (get t c)) (sym c_is) there))

      list_here : list_in p.cols home.col ≡ list_in k.pool.cols home.col ++ node ∷ []
      list_here = ap (λ (t : Pool Slot). list_in t.cols home.col) p_is ∙ col_list-inserted q node seat ∙ ap (λ t. list_in t home.col ++ node ∷ []) c_is

      long_here : length (list_in p.cols home.col) ≡ length (list_in k.pool.cols home.col) + 1
      long_here = ap length list_here ∙ length-append (list_in k.pool.cols home.col) (node ∷ [])

      long_there : (c : Col) → c ≢ home.col → list_in p.cols c ≡ list_in k.pool.cols c
      long_there c ne = ap (λ (t : Pool Slot). list_in t.cols c) p_is ∙ col_list-inserted_other q node seat c ne ∙ ap (λ t. list_in t c) c_is

      -- the tables have it
      module _ (after : FinMap slot_cmp EntryRecord) (is : after ≡ insert k.entries x (record { entry = record { pid = pid; count = 1; view = None }; node = node })) (objects : FinMap object_cmp ℕ)
          (objects_is : objects ≡ insert k.objects (object s pid) (home.last + 1)) (sessions : FinMap session_cmp SessionRecord) (sessions_is : sessions ≡ insert k.sessions s (record { col = home.col; row = home.row; last = home.last + 1; entries = home.entries + 1; attached = home.attached })) where
        abbrev entry : Entry
        entry = record { pid = pid; count = 1; view = None }

        abbrev put : EntryRecord
        put = record { entry = entry; node = node }

        abbrev next : SessionRecord
        next = record { col = home.col; row = home.row; last = home.last + 1; entries = home.entries + 1; attached = home.attached }

        abbrev pub entered : Stock
        entered = record { pool = p; sessions = sessions; entries = after; objects = objects; bodies = k.bodies; attached = k.attached }

        same_of : {X : Type 0} (f : SessionRecord → X) → f next ≡ f home → (t : SessionNo) → option_map f (get sessions t) ≡ option_map f (get k.sessions t)
        same_of f same t = ap (λ m. option_map f (get m t)) sessions_is ∙ at_same session_key f k.sessions s home next home_is same t

        rows_same : (a : Place) → row_at entered a ≡ row_at k a
        rows_same (Loose t) = same_of (λ z. z.row) refl t
        rows_same (On c) = refl

        none : get (plain k.entries) x ≡ None
        none = get_each (λ z. z.entry) k.entries x ∙ ap (option_map (λ z. z.entry)) no_entry

        plain_entered : plain after ≡ insert (plain k.entries) x entry
        plain_entered = ap plain is ∙ each_insert (λ z. z.entry) slot_key k.entries x put

        one_came : (test : Slot × Entry → Bool) → count test (plain after) ≡ count test (plain k.entries) + weight (test (x, entry))
        one_came test = ap (count test) plain_entered ∙ count_new slot_key test (plain k.entries) x entry none

        lasts_entered : each (λ z. z.last) sessions ≡ insert (meaning_of k).lasts s (home.last + 1)
        lasts_entered = ap (each (λ z. z.last)) sessions_is ∙ each_insert (λ z. z.last) session_key k.sessions s next

        last_is : get (meaning_of k).lasts s ≡ Some home.last
        last_is = get_each (λ z. z.last) k.sessions s ∙ ap (option_map (λ z. z.last)) home_is

        sizes : (t : SessionNo) (c : ℕ) → option_map (λ z. z.entries) (get sessions t) ≡ Some c → c ≡ count (is_of t) (plain after)
        sizes t c h = by (same_or_apart session_key t s)
          where
            not_of : t ≢ s → (b : Bool) → is_of t (x, entry) ≡ b → b ≡ false
            not_of ne true e = absurd (ne (sym (session_told s t e)))
            not_of ne false e = refl

            by : (t ≡ s) ⊎ (t ≢ s) → c ≡ count (is_of t) (plain after)
            by (inl e) =
                let is' : home.entries + 1 ≡ c = one_value (sym (ap (λ m. option_map (λ z. z.entries) (get m t)) sessions_is ∙ ap (λ z. option_map (λ y. y.entries) (get (insert k.sessions s next) z)) e ∙ ap (option_map (λ z. z.entries)) (insert_here session_key k.sessions s next)) ∙ h) in
                let here : c ≡ count (is_of s) (plain after) = omega (arith, is', one_came (is_of s), ap weight (eq-eqb s.0 s.0 refl), sound.counts.sessions s home.entries (ap (option_map (λ z. z.entries)) home_is)) in
                here ∙ ap (λ z. count (is_of z) (plain after)) (sym e)
            by (inr ne) =
                let was = sound.counts.sessions t c (sym (ap (λ m. option_map (λ z. z.entries) (get m t)) sessions_is ∙ ap (option_map (λ z. z.entries)) (insert_apart session_key k.sessions s next t ne)) ∙ h) in
                omega (arith, was, one_came (is_of t), ap weight (not_of ne (is_of t (x, entry)) refl))

        lengths : (t : SessionNo) (r : SessionRecord) → get sessions t ≡ Some r → r.entries ≡ length (list_in p.cols r.col)
        lengths t r h = by (same_or_apart session_key t s)
          where
            by : (t ≡ s) ⊎ (t ≢ s) → r.entries ≡ length (list_in p.cols r.col)
            by (inl e) =
                let is' : next ≡ r = one_value (sym (ap (λ m. get m t) sessions_is ∙ ap (get (insert k.sessions s next)) e ∙ insert_here session_key k.sessions s next) ∙ h) in
                subst (λ z. z.entries ≡ length (list_in p.cols z.col)) is' (omega (arith, long_here, sound.lengths s home home_is))
            by (inr ne) =
                let was = sym (ap (λ m. get m t) sessions_is ∙ insert_apart session_key k.sessions s next t ne) ∙ h in
                let other : r.col ≢ home.col = λ e. ne (sound.cols.apart t s r.col (ap (option_map (λ z. z.col)) was) (ap (option_map (λ z. z.col)) home_is ∙ ap Some (sym e))) in
                sound.lengths t r was ∙ ap length (sym (long_there r.col other))

        -- the new node is last in its column, and stands on no body
        new_standing : is_standing p.nodes after node ≡ false
        new_standing =
            ap (λ (t : Pool Slot). is_standing t.nodes after node) p_is ∙ ap (λ o. given (option_and_then (λ (z : Seat Slot). get after z.item) o) false (λ z. is_some z.entry.view)) (seat-inserted q node seat) ∙ ap (λ m. given (get m x) false (λ z. is_some z.entry.view)) is ∙ ap (λ o. given o false (λ z. is_some z.entry.view)) (insert_here slot_key k.entries x put)

        same_standing : (t : SessionNo) (r : SessionRecord) → get k.sessions t ≡ Some r → (y : Node) → Contains (list_in k.pool.cols r.col) y → is_standing p.nodes after y ≡ is_standing k.pool.nodes k.entries y
        same_standing t r h y m =
            let i = in_column k sound t r h y m in
            let other : y ≢ node = λ e. no_value i.seat (sym (ap (get q.nodes) e ∙ new) ∙ ap (λ z. get z y) n_is ∙ i.at) in
            let kept : get p.nodes y ≡ Some i.seat = ap (λ (z : Pool Slot). get z.nodes y) p_is ∙ seat-inserted_other q node seat y other ∙ ap (λ z. get z y) n_is ∙ i.at in
            let apart : i.seat.item ≢ x = λ e. no_value i.was (sym no_entry ∙ ap (get k.entries) (sym e) ∙ i.entry) in
            ap (λ o. given (option_and_then (λ (z : Seat Slot). get after z.item) o) false (λ z. is_some z.entry.view)) kept
            ∙ ap (λ o. given o false (λ z. is_some z.entry.view)) (ap (λ m'. get m' i.seat.item) is ∙ insert_apart slot_key k.entries x put i.seat.item apart)
            ∙ sym (ap (λ o. given (option_and_then (λ (z : Seat Slot). get k.entries z.item) o) false (λ z. is_some z.entry.view)) i.at)

        none_more : (t : SessionNo) → count (is_front t) (plain after) ≡ count (is_front t) (plain k.entries)
        none_more t = omega (arith, one_came (is_front t), loose_weight t x entry refl)

        fronts : AreInFront p.nodes p.cols after sessions
        fronts t r h = by (same_or_apart session_key t s)
          where
            by : (t ≡ s) ⊎ (t ≢ s) → IsInFront p.nodes p.cols after t r
            by (inl e) =
                let is' : next ≡ r = one_value (sym (ap (λ m. get m t) sessions_is ∙ ap (get (insert k.sessions s next)) e ∙ insert_here session_key k.sessions s next) ∙ h) in
                let f = sound.fronts s home home_is in
                subst (λ z. IsInFront p.nodes p.cols after z r) (sym e)
                (subst (λ z. IsInFront p.nodes p.cols after s z) is'
                (record {
                  first =
                      subst (λ l. AreFirst (is_standing p.nodes after) home.attached l) (sym list_here)
                      (first_behind (is_standing p.nodes after) home.attached (list_in k.pool.cols home.col) node new_standing
                      (first_alike (is_standing k.pool.nodes k.entries) (is_standing p.nodes after) home.attached (list_in k.pool.cols home.col) (same_standing s home home_is) f.first));
                  counted = f.counted ∙ sym (none_more s);
                }))
            by (inr ne) =
                let was = sym (ap (λ m. get m t) sessions_is ∙ insert_apart session_key k.sessions s next t ne) ∙ h in
                let other : r.col ≢ home.col = λ e. ne (sound.cols.apart t s r.col (ap (option_map (λ z. z.col)) was) (ap (option_map (λ z. z.col)) home_is ∙ ap Some (sym e))) in
                let f = sound.fronts t r was in
                record {
                  first =
                      subst (λ l. AreFirst (is_standing p.nodes after) r.attached l) (sym (long_there r.col other))
                      (first_alike (is_standing k.pool.nodes k.entries) (is_standing p.nodes after) r.attached (list_in k.pool.cols r.col) (same_standing t r was) f.first);
                  counted = f.counted ∙ sym (none_more t);
                }

        pub entered_sound : IsSound entered
        entered_sound = record {
          seats =
              seats_alike p (spots_in after) (spots_in after) (row_at k) (row_at entered) (col_at k) (col_at entered) (seated (seats_kept k.pool q (spot_at k) (row_at k) (col_at k) sound.seats n_is rings_q) after is) (λ y. refl) (λ y spot h. rows_same spot.place)
              (λ y spot h. same_of (λ z. z.col) refl y.session);
          rows = apart_less (row_at k) (row_at entered) k.pool.rows p.rows sound.rows (λ a r h. sym (rows_same a) ∙ h) (λ a r h there. row_stays r there);
          cols = apart_less (col_at k) (col_at entered) k.pool.cols p.cols sound.cols (λ t c h. sym (same_of (λ z. z.col) refl t) ∙ h) (λ t c h there. col_stays c there);
          names =
              names_in (pid_at k) (pid_at entered) (number_at k) (number_at entered) sound.names x pid (λ y ne. ap (λ m. option_map (λ z. z.entry.pid) (get m y)) is ∙ ap (option_map (λ z. z.entry.pid)) (insert_apart slot_key k.entries x put y ne))
              (λ o ne. ap (λ m. get m o) objects_is ∙ insert_apart object_key k.objects (object s pid) (home.last + 1) o ne) (ap (option_map (λ z. z.entry.pid)) no_entry) free
              (ap (λ m. option_map (λ z. z.entry.pid) (get m x)) is ∙ ap (option_map (λ z. z.entry.pid)) (insert_here slot_key k.entries x put)) (ap (λ m. get m (object s pid)) objects_is ∙ insert_here object_key k.objects (object s pid) (home.last + 1));
          numbers =
              subst (λ E. AreNumbered E (each (λ z. z.last) sessions)) (sym plain_entered)
              (subst (λ t. AreNumbered (insert (plain k.entries) x entry) t) (sym lasts_entered) (numbered_new (plain k.entries) (meaning_of k).lasts sound.numbers s home.last entry last_is (omega arith)));
          counts = record {
            sessions = sizes;
            bodies = λ c l h. omega (arith, sound.counts.bodies c l h, one_came (stands_on c));
            some = sound.counts.some;
            all = omega (arith, sound.counts.all, one_came is_attached);
          };
          lengths = lengths;
          fronts = fronts;
        }

        pub entered_new : IsNew (meaning_of k) (meaning_of entered) s pid (home.last + 1)
        entered_new = record {
          none = none_for;
          next = subst (λ o. IsSomeAnd o (λ last. home.last + 1 ≡ last + 1)) (sym last_is) refl;
          is = λ i. record { lasts = lasts_entered i; entries = plain_entered i; bodies = (meaning_of k).bodies };
        }

      pub node_at : get p.nodes node ≡ Some seat
      node_at = ap (λ (t : Pool Slot). get t.nodes node) p_is ∙ seat-inserted q node seat

      -- the node goes again
      module _ (r : Pool Slot) (left : IsSomeAnd (get p.nodes node) (λ z. r ≡ unlinked p node z)) (rings_r : AreRings r) (after : FinMap slot_cmp EntryRecord) (is : after ≡ k.entries) (objects : FinMap object_cmp ℕ) (objects_is : objects ≡ k.objects) where
        gone : r ≡ unlinked p node seat
        gone = subst (λ o. IsSomeAnd o (λ z. r ≡ unlinked p node z)) node_at left

        lists : (t : SessionNo) (c : Col) → col_at k t ≡ Some c → list_in r.cols c ≡ list_in k.pool.cols c
        lists t c h =
            ap (λ (z : Pool Slot). list_in z.cols c) gone ∙ col_list-unlinked p node seat rings node_at c
            ∙ ⊎_elim
            (λ e. subst (λ z. without node (list_in p.cols z) ≡ list_in k.pool.cols z) (sym e)
            (ap (without node) list_here ∙ without-split node (list_in k.pool.cols home.col) [] (subst AreDistinct list_here (rings.cols.once home.col)) ∙ append_nil (list_in k.pool.cols home.col)))
            (λ ne. without-absent node (list_in p.cols c) (λ m. ne (one_value (sym (rings.cols.only c node m) ∙ ap (option_map (λ z. z.col)) node_at))) ∙ long_there c ne)
            (same_or_apart col_key c home.col)

        nodes_again : r.nodes ≡ k.pool.nodes
        nodes_again = ap (λ (z : Pool Slot). z.nodes) gone ∙ ap (λ (z : Pool Slot). remove z.nodes node) p_is ∙ remove_insert node_key q.nodes node seat new ∙ n_is

        undone : IsSound (record { pool = r; sessions = k.sessions; entries = k.entries; objects = k.objects; bodies = k.bodies; attached = k.attached })
        undone =
            pool_alike k sound r nodes_again (λ a z h there. subst (λ (t : Pool Slot). IsSome (get t.rows z)) (sym gone) (row_stays-unlinked p node seat z (row_stays z there)))
            (λ t c h there. subst (λ (z : Pool Slot). IsSome (get z.cols c)) (sym gone) (col_stays-unlinked p node seat c (col_stays c there))) lists rings_r

        pub undone_sound : IsSound (record { pool = r; sessions = k.sessions; entries = after; objects = objects; bodies = k.bodies; attached = k.attached })
        undone_sound = subst (λ t. IsSound (record { pool = r; sessions = k.sessions; entries = t; objects = objects; bodies = k.bodies; attached = k.attached })) (sym is) (subst (λ t. IsSound (record { pool = r; sessions = k.sessions; entries = k.entries; objects = t; bodies = k.bodies; attached = k.attached })) (sym objects_is) undone)

        pub undone_is : meaning_of (record { pool = r; sessions = k.sessions; entries = after; objects = objects; bodies = k.bodies; attached = k.attached }) ≡ meaning_of k
        undone_is = λ i. record { lasts = (meaning_of k).lasts; entries = plain (is i); bodies = (meaning_of k).bodies }
