-- What is stored after a session came or went.
use Rattle.std.proofs.Common.{◌≡◌, ◌≢◌, ◌⊎◌, inl, inr, ⊎_elim, ◌<◌, ◌≤◌, List, [], ◌∷◌, Bool, true, false, Option, Some, None, IsSome, refl, sym, ap, ◌∙◌, subst, arith}
use Rattle.std.specs.Prelude.{IsSomeAnd, length, is_some, ◌&&◌}
use Rattle.std.specs.Option.{option_map}
use Rattle.std.specs.FinMap.{FinMap, get, insert, remove}
use Rattle.pss_base.specs.declared.session.SessionNo.{SessionNo}
use Rattle.pss_machine.specs.declared.session.View.{View}
use Rattle.type_layout.specs.Schemas.{given}
use Rattle.link_pool.specs.Meaning.{Meaning as Pool, AreRings}
use Rattle.link_pool.specs.declared.names.Row.{Row}
use Rattle.link_pool.specs.declared.names.Col.{Col}
use Rattle.link_pool.specs.declared.names.Node.{Node}
use Rattle.link_pool.specs.Rings.{list_in}
use Rattle.incarnations.specs.declared.names.Slot.{Slot}
use Rattle.incarnations.specs.declared.names.BodyName.{BodyName}
use Rattle.incarnations.specs.declared.names.Entry.{Entry}
use Rattle.incarnations.specs.declared.names.SessionRecord.{SessionRecord}
use Rattle.incarnations.specs.declared.stock.Stock.{Stock}
use Rattle.recent_table.specs.Maps.{each, count}
use Rattle.incarnations.specs.Meaning.{is_of, body}
use Rattle.incarnations.specs.Stock.{Place, Loose, On, place_of, Spot, spot_of, spot_at, row_at, col_at, meaning_of, AreFirst, is_standing, IsInFront, IsSound}
use Rattle.recent_table.proofs.Maps.{no_value, one_value, same_or_apart, insert_here, insert_apart, remove_here, remove_apart, get_each, each_insert}
use Rattle.incarnations.proofs.Keys.{slot_key}
use Rattle.incarnations.proofs.Seats.{row_key, seats_alike, seats_kept}
use Rattle.incarnations.proofs.Named.{apart_less}
use Rattle.incarnations.specs.Keys.{session_cmp}
use Rattle.incarnations.proofs.Keys.{session_key, session_told}
use Rattle.incarnations.proofs.Seats.{col_key}
use Rattle.std.proofs.lemmas.Bool.{eq-eqb}
use Rattle.link_pool.specs.Names.{row_cmp}
use Rattle.std.specs.Option.{unwrap_or}
use Rattle.std.specs.Prelude.{◌==◌}
use Rattle.recent_table.proofs.Maps.{by_key, each_remove}
use Rattle.incarnations.proofs.Sets.{seat_is}
use Rattle.incarnations.proofs.Fronts.{is_front}
use Rattle.incarnations.proofs.Stood.{some_none, unused, front_alike, pool_alike}
use Rattle.link_pool.proofs.RingChanges.{bare}
use Rattle.incarnations.specs.Meaning.{opened, closed}
use Rattle.incarnations.proofs.Places.{bare_row}
use Rattle.incarnations.proofs.Named.{apart_more}
use Rattle.recent_table.proofs.Maps.{count_none, count_some}
use Rattle.incarnations.proofs.Sets.{some, has_map, plain, entry_is}

loose_name : {s t : SessionNo} → Loose s ≡ Loose t → s ≡ t
loose_name e = cc

on_loose : {A : Type 0} {s : SessionNo} {b : BodyName} → On b ≡ Loose s → A
on_loose e = absurd (cc)

loose_told : (y : Slot) (e : Entry) (s : SessionNo) → place_of y e ≡ Loose s → y.session ≡ s
loose_told y e s h = by e.view h
  where
    by : (o : Option View) → given o (Loose y.session) (λ v. On (body e.pid v)) ≡ Loose s → y.session ≡ s
    by None is = loose_name is
    by (Some v) is = on_loose is

is_of_self : (s : SessionNo) (y : Slot) (e : Entry) → y.session ≡ s → is_of s (y, e) ≡ true
is_of_self s y e h = ap (λ z. z.0 == s.0) h ∙ eq-eqb s.0 s.0 refl

-- the same nodes, and the rings that are used
module _ (k : Stock) (sound : IsSound k) (q : Pool Slot) (nodes : q.nodes ≡ k.pool.nodes) (rows : (a : Place) (r : Row) → row_at k a ≡ Some r → get q.rows r ≡ get k.pool.rows r) (cols : (s : SessionNo) (c : Col) → col_at k s ≡ Some c → get q.cols c ≡ get k.pool.cols c) (rings : AreRings q) where
  pub used_sound : IsSound (record { pool = q; sessions = k.sessions; entries = k.entries; objects = k.objects; bodies = k.bodies; attached = k.attached })
  used_sound =
      pool_alike k sound q nodes (λ a r h there. subst IsSome (sym (rows a r h)) there) (λ s c h there. subst IsSome (sym (cols s c h)) there) (λ s c h. ap (λ o. unwrap_or o []) (cols s c h)) rings

stay_in : (rows : FinMap row_cmp (List Node)) (row r : Row) → IsSome (get rows r) → IsSome (get (insert rows row []) r)
stay_in rows row r h = ⊎_elim (λ e. some (get (insert rows row []) r) (ap (get (insert rows row [])) e ∙ insert_here row_key rows row [])) (λ ne. subst IsSome (sym (insert_apart row_key rows row [] r ne)) h) (same_or_apart row_key r row)

some_of : {A B : Type 0} (f : A → B) (o : Option A) (b : B) → option_map f o ≡ Some b → o ≡ None → ⊥
some_of f None b h e = no_value b h
some_of f (Some v) b h e = no_value v (sym e)

-- a column that comes is nobody's
unused_col : (k : Stock) → IsSound k → (col : Col) → get k.pool.cols col ≡ None → (s : SessionNo) → col_at k s ≢ Some col
unused_col k sound col free s at = some_none (get k.pool.cols col) (sound.cols.there s col at) free

-- ---- a session comes

module _ (k : Stock) (sound : IsSound k) (s : SessionNo) (free : get k.sessions s ≡ None) (col : Col) (new_col : get k.pool.cols col ≡ None) (q1 : Pool Slot) (q1_is : q1 ≡ record k.pool { cols = insert k.pool.cols col [] }) where
  pub col_q : get q1.cols col ≡ Some []
  col_q = ap (λ (t : Pool Slot). get t.cols col) q1_is ∙ insert_here col_key k.pool.cols col []

  cols1 : (t : SessionNo) (c : Col) → col_at k t ≡ Some c → get q1.cols c ≡ get k.pool.cols c
  cols1 t c h = ap (λ (z : Pool Slot). get z.cols c) q1_is ∙ insert_apart col_key k.pool.cols col [] c (λ e. unused_col k sound col new_col t (h ∙ ap Some e))

  -- the column goes again
  module _ (r : Pool Slot) (r_is : r ≡ record q1 { cols = remove q1.cols col }) (rings_r : AreRings r) where
    pub no_row_sound : IsSound (record { pool = r; sessions = k.sessions; entries = k.entries; objects = k.objects; bodies = k.bodies; attached = k.attached })
    no_row_sound =
        used_sound k sound r (ap (λ (z : Pool Slot). z.nodes) r_is ∙ ap (λ (z : Pool Slot). z.nodes) q1_is) (λ a z h. ap (λ (t : Pool Slot). get t.rows z) r_is ∙ ap (λ (t : Pool Slot). get t.rows z) q1_is)
        (λ t c h. ap (λ (z : Pool Slot). get z.cols c) r_is ∙ remove_apart col_key q1.cols col c (λ e. unused_col k sound col new_col t (h ∙ ap Some e)) ∙ cols1 t c h) rings_r

  module _ (row : Row) (new_row : get q1.rows row ≡ None) (q2 : Pool Slot) (q2_is : q2 ≡ record q1 { rows = insert q1.rows row [] }) (rings2 : AreRings q2) where
    free_row : get k.pool.rows row ≡ None
    free_row = sym (ap (λ (z : Pool Slot). get z.rows row) q1_is) ∙ new_row

    pub row_q : get q2.rows row ≡ Some []
    row_q = ap (λ (t : Pool Slot). get t.rows row) q2_is ∙ insert_here row_key q1.rows row []

    rows2 : (a : Place) (r : Row) → row_at k a ≡ Some r → get q2.rows r ≡ get k.pool.rows r
    rows2 a r h = ap (λ (z : Pool Slot). get z.rows r) q2_is ∙ insert_apart row_key q1.rows row [] r (λ e. unused k sound row free_row a (h ∙ ap Some e)) ∙ ap (λ (z : Pool Slot). get z.rows r) q1_is

    cols2 : (t : SessionNo) (c : Col) → col_at k t ≡ Some c → get q2.cols c ≡ get k.pool.cols c
    cols2 t c h = ap (λ (z : Pool Slot). get z.cols c) q2_is ∙ cols1 t c h

    nodes2 : q2.nodes ≡ k.pool.nodes
    nodes2 = ap (λ (z : Pool Slot). z.nodes) q2_is ∙ ap (λ (z : Pool Slot). z.nodes) q1_is

    -- row and column go again
    module _ (r1 : Pool Slot) (r1_is : r1 ≡ record q2 { rows = remove q2.rows row }) where
      pub col_r : get r1.cols col ≡ Some []
      col_r = ap (λ (z : Pool Slot). get z.cols col) r1_is ∙ ap (λ (z : Pool Slot). get z.cols col) q2_is ∙ col_q

      module _ (r : Pool Slot) (r_is : r ≡ record r1 { cols = remove r1.cols col }) (rings_r : AreRings r) (sessions : FinMap session_cmp SessionRecord) (same : sessions ≡ k.sessions) where
        pub no_table_sound : IsSound (record { pool = r; sessions = sessions; entries = k.entries; objects = k.objects; bodies = k.bodies; attached = k.attached })
        no_table_sound =
            subst (λ t. IsSound (record { pool = r; sessions = t; entries = k.entries; objects = k.objects; bodies = k.bodies; attached = k.attached })) (sym same)
            (used_sound k sound r (ap (λ (z : Pool Slot). z.nodes) r_is ∙ ap (λ (z : Pool Slot). z.nodes) r1_is ∙ nodes2)
            (λ a z h. ap (λ (t : Pool Slot). get t.rows z) r_is ∙ ap (λ (t : Pool Slot). get t.rows z) r1_is ∙ remove_apart row_key q2.rows row z (λ e. unused k sound row free_row a (h ∙ ap Some e)) ∙ rows2 a z h)
            (λ t c h. ap (λ (z : Pool Slot). get z.cols c) r_is ∙ remove_apart col_key r1.cols col c (λ e. unused_col k sound col new_col t (h ∙ ap Some e)) ∙ ap (λ (z : Pool Slot). get z.cols c) r1_is ∙ cols2 t c h) rings_r)

        pub no_table_same : meaning_of (record { pool = r; sessions = sessions; entries = k.entries; objects = k.objects; bodies = k.bodies; attached = k.attached }) ≡ meaning_of k
        no_table_same = λ i. record { lasts = each (λ z. z.last) (same i); entries = (meaning_of k).entries; bodies = (meaning_of k).bodies }

    module _ (sessions : FinMap session_cmp SessionRecord) (is : sessions ≡ insert k.sessions s (record { col = col; row = row; last = 0; entries = 0; attached = 0 })) where
      abbrev home : SessionRecord
      home = record { col = col; row = row; last = 0; entries = 0; attached = 0 }

      abbrev n : Stock
      n = record { pool = q2; sessions = sessions; entries = k.entries; objects = k.objects; bodies = k.bodies; attached = k.attached }

      here : get sessions s ≡ Some home
      here = ap (λ m. get m s) is ∙ insert_here session_key k.sessions s home

      there : (t : SessionNo) → t ≢ s → get sessions t ≡ get k.sessions t
      there t ne = ap (λ m. get m t) is ∙ insert_apart session_key k.sessions s home t ne

      -- an entry is of another session
      other : (y : Slot) (e : Entry) → get (plain k.entries) y ≡ Some e → y.session ≢ s
      other y e at same =
          let h = has_map (λ z. z.entry) (get k.entries y) e (sym (get_each (λ z. z.entry) k.entries y) ∙ at) in
          some_of (λ r. r.col) (get k.sessions y.session) (seat_is k sound y h.value h.is).col (seat_is k sound y h.value h.is).in_col (ap (get k.sessions) same ∙ free)

      spot_apart : (t : SessionNo) (r : Row) → row_at k (Loose t) ≡ Some r → t ≢ s
      spot_apart t r h e = some_of (λ z. z.row) (get k.sessions t) r h (ap (get k.sessions) e ∙ free)

      rows_same : (a : Place) (r : Row) → row_at k a ≡ Some r → row_at n a ≡ row_at k a
      rows_same (Loose t) r h = ap (option_map (λ z. z.row)) (there t (spot_apart t r h))
      rows_same (On c) r h = refl

      rows_parts : (a : Place) (r : Row) → row_at n a ≡ Some r → (row_at k a ≡ Some r) ⊎ ((a ≡ Loose s) × (r ≡ row))
      rows_parts (Loose t) r h = ⊎_elim (λ e. inr (ap Loose e, one_value (sym h ∙ ap (λ z. option_map (λ y. y.row) (get sessions z)) e ∙ ap (option_map (λ y. y.row)) here))) (λ ne. inl (sym (ap (option_map (λ z. z.row)) (there t ne)) ∙ h)) (same_or_apart session_key t s)
      rows_parts (On c) r h = inl h

      cols_parts : (t : SessionNo) (c : Col) → col_at n t ≡ Some c → (col_at k t ≡ Some c) ⊎ ((t ≡ s) × (c ≡ col))
      cols_parts t c h = ⊎_elim (λ e. inr (e, one_value (sym h ∙ ap (λ z. option_map (λ y. y.col) (get sessions z)) e ∙ ap (option_map (λ y. y.col)) here))) (λ ne. inl (sym (ap (option_map (λ z. z.col)) (there t ne)) ∙ h)) (same_or_apart session_key t s)

      rows_came : (r : Row) → IsSome (get k.pool.rows r) → IsSome (get q2.rows r)
      rows_came r h = subst (λ (t : Pool Slot). IsSome (get t.rows r)) (sym q2_is) ((stay_in q1.rows row r) (subst (λ (t : Pool Slot). IsSome (get t.rows r)) (sym q1_is) h))

      cols_came : (c : Col) → IsSome (get k.pool.cols c) → IsSome (get q2.cols c)
      cols_came c h =
          subst (λ (t : Pool Slot). IsSome (get t.cols c)) (sym q2_is)
          (subst (λ (t : Pool Slot). IsSome (get t.cols c)) (sym q1_is)
          (⊎_elim (λ e. some (get (insert k.pool.cols col []) c) (ap (get (insert k.pool.cols col [])) e ∙ insert_here col_key k.pool.cols col [])) (λ ne. subst IsSome (sym (insert_apart col_key k.pool.cols col [] c ne)) h) (same_or_apart col_key c col)))

      lasts_is : each (λ z. z.last) sessions ≡ insert (meaning_of k).lasts s 0
      lasts_is = ap (each (λ z. z.last)) is ∙ each_insert (λ z. z.last) session_key k.sessions s home

      pub opened_sound : IsSound n
      opened_sound = record {
        seats =
            seats_alike q2 (spot_at k) (spot_at k) (row_at k) (row_at n) (col_at k) (col_at n) (seats_kept k.pool q2 (spot_at k) (row_at k) (col_at k) sound.seats nodes2 rings2) (λ y. refl)
            (λ y spot h. let t = sound.seats.seated y spot h in rows_same spot.place t.row t.in_row)
            (λ y spot h. let t = sound.seats.seated y spot h in ap (option_map (λ z. z.col)) (there y.session (λ e. some_of (λ z. z.col) (get k.sessions y.session) t.col t.in_col (ap (get k.sessions) e ∙ free))));
        rows = apart_more (row_at k) (row_at n) k.pool.rows q2.rows sound.rows (Loose s) row free_row rows_parts rows_came (some (get q2.rows row) row_q);
        cols = apart_more (col_at k) (col_at n) k.pool.cols q2.cols sound.cols s col new_col cols_parts cols_came (some (get q2.cols col) (ap (λ (z : Pool Slot). get z.cols col) q2_is ∙ col_q));
        names = sound.names;
        numbers = record {
          numbers = λ y e at. subst (λ m. IsSomeAnd (get m y.session) (λ last. (0 < y.number) × (y.number ≤ last))) (sym lasts_is)
              (subst (λ o. IsSomeAnd o (λ last. (0 < y.number) × (y.number ≤ last))) (sym (insert_apart session_key (meaning_of k).lasts s 0 y.session (other y e at))) (sound.numbers.numbers y e at));
          counts = sound.numbers.counts;
        };
        counts = record {
          sessions = λ t c h.
              ⊎_elim
              (λ e.
              let zero_is : 0 ≡ c = one_value (sym (ap (λ z. option_map (λ y. y.entries) (get sessions z)) e ∙ ap (option_map (λ y. y.entries)) here) ∙ h) in
              sym zero_is ∙ sym (count_none slot_key (is_of s) (plain k.entries) nobody) ∙ ap (λ z. count (is_of z) (plain k.entries)) (sym e))
              (λ ne. sound.counts.sessions t c (sym (ap (option_map (λ z. z.entries)) (there t ne)) ∙ h)) (same_or_apart session_key t s);
          bodies = sound.counts.bodies;
          some = sound.counts.some;
          all = sound.counts.all;
        };
        lengths = λ t r h.
            ⊎_elim
            (λ e.
            let is' : home ≡ r = one_value (sym (ap (get sessions) e ∙ here) ∙ h) in
            subst (λ z. z.entries ≡ length (list_in q2.cols z.col)) is' (sym (ap (λ o. length (unwrap_or o [])) (ap (λ (z : Pool Slot). get z.cols col) q2_is ∙ col_q))))
            (λ ne.
            let was = sym (there t ne) ∙ h in
            sound.lengths t r was ∙ ap (λ o. length (unwrap_or o [])) (sym (cols2 t r.col (ap (option_map (λ z. z.col)) was))))
            (same_or_apart session_key t s);
        fronts = λ t r h.
            ⊎_elim
            (λ e.
            let is' : home ≡ r = one_value (sym (ap (get sessions) e ∙ here) ∙ h) in
            subst (λ z. IsInFront q2.nodes q2.cols k.entries z r) (sym e) (subst (λ z. IsInFront q2.nodes q2.cols k.entries s z) is' front_here))
            (λ ne.
            let was = sym (there t ne) ∙ h in
            front_alike k sound q2 nodes2 t r was (ap (λ o. unwrap_or o []) (cols2 t r.col (ap (option_map (λ z. z.col)) was))))
            (same_or_apart session_key t s);
      }
        where
          nobody : (y : Slot) (e : Entry) → get (plain k.entries) y ≡ Some e → is_of s (y, e) ≡ false
          nobody y e at = by (is_of s (y, e)) refl
            where
              by : (t : Bool) → is_of s (y, e) ≡ t → t ≡ false
              by true on = absurd (other y e at (session_told y.session s on))
              by false on = refl

          front_here : IsInFront q2.nodes q2.cols k.entries s home
          front_here = record {
            first = subst (λ l. AreFirst (is_standing q2.nodes k.entries) 0 l) (sym (ap (λ o. unwrap_or o []) (ap (λ (z : Pool Slot). get z.cols col) q2_is ∙ col_q))) tt;
            counted = sym (count_none slot_key (is_front s) (plain k.entries) (λ y e at. ap (λ t. t && is_some e.view) (nobody y e at)));
          }

      pub opened_is : meaning_of n ≡ opened (meaning_of k) s
      opened_is = λ i. record { lasts = lasts_is i; entries = (meaning_of k).entries; bodies = (meaning_of k).bodies }

-- ---- a session goes

module _ (k : Stock) (sound : IsSound k) (s : SessionNo) (nobody : count (is_of s) (plain k.entries) ≡ 0) where
  -- an entry is of another session
  stranger : (y : Slot) (e : Entry) → get (plain k.entries) y ≡ Some e → y.session ≢ s
  stranger y e at same = absurd (omega (arith, count_some slot_key (is_of s) (plain k.entries) y e at (is_of_self s y e same), nobody))

  pub closed_absent : get k.sessions s ≡ None → meaning_of k ≡ closed (meaning_of k) s
  closed_absent none = λ i. record {
    lasts = by_key session_key (meaning_of k).lasts (remove (meaning_of k).lasts s) s (get_each (λ z. z.last) k.sessions s ∙ ap (option_map (λ z. z.last)) none ∙ sym (remove_here session_key (meaning_of k).lasts s)) (λ q ne. sym (remove_apart session_key (meaning_of k).lasts s q ne)) i;
    entries = (meaning_of k).entries;
    bodies = (meaning_of k).bodies;
  }

  module _ (home : SessionRecord) (home_is : get k.sessions s ≡ Some home) where
    own_row : row_at k (Loose s) ≡ Some home.row
    own_row = ap (option_map (λ z. z.row)) home_is

    own_col : col_at k s ≡ Some home.col
    own_col = ap (option_map (λ z. z.col)) home_is

    stranger_spot : (y : Slot) (spot : Spot) → spot_at k y ≡ Some spot → spot.place ≢ Loose s
    stranger_spot y spot at on =
        let h = has_map (spot_of y) (get k.entries y) spot at in
        let same : place_of y h.value.entry ≡ Loose s = ap (λ z. z.place) (one_value (sym (ap (option_map (spot_of y)) h.is) ∙ at)) ∙ on in
        stranger y h.value.entry (entry_is k sound y h.value h.is) (loose_told y h.value.entry s same)

    stranger_of : (y : Slot) (spot : Spot) → spot_at k y ≡ Some spot → y.session ≢ s
    stranger_of y spot at = let h = has_map (spot_of y) (get k.entries y) spot at in stranger y h.value.entry (entry_is k sound y h.value h.is)

    pub bare_home_row : get k.pool.rows home.row ≡ Some []
    bare_home_row = bare_row k.pool (spot_at k) (row_at k) (col_at k) sound.seats sound.rows.apart (Loose s) home.row own_row (sound.rows.there (Loose s) home.row own_row) stranger_spot

    empty : (l : List Node) → length l ≡ 0 → l ≡ []
    empty [] h = refl
    empty (y ∷ ys) h = absurd (omega (arith, h))

    module _ (q1 : Pool Slot) (q1_is : q1 ≡ record k.pool { rows = remove k.pool.rows home.row }) where
      pub bare_home_col : get q1.cols home.col ≡ Some []
      bare_home_col =
          ap (λ (z : Pool Slot). get z.cols home.col) q1_is
          ∙ bare k.pool.cols home.col (sound.cols.there s home.col own_col) (empty (list_in k.pool.cols home.col) (omega (arith, sound.lengths s home home_is, sound.counts.sessions s home.entries (ap (option_map (λ z. z.entries)) home_is), nobody)))

      module _ (q : Pool Slot) (q_is : q ≡ record q1 { cols = remove q1.cols home.col }) (rings : AreRings q) (sessions : FinMap session_cmp SessionRecord) (is : sessions ≡ remove k.sessions s) where
        abbrev rest : Stock
        rest = record { pool = q; sessions = sessions; entries = k.entries; objects = k.objects; bodies = k.bodies; attached = k.attached }

        none : get sessions s ≡ None
        none = ap (λ m. get m s) is ∙ remove_here session_key k.sessions s

        others : (t : SessionNo) → t ≢ s → get sessions t ≡ get k.sessions t
        others t ne = ap (λ m. get m t) is ∙ remove_apart session_key k.sessions s t ne

        kept_row : (r : Row) → r ≢ home.row → get q.rows r ≡ get k.pool.rows r
        kept_row r ne = ap (λ (z : Pool Slot). get z.rows r) q_is ∙ ap (λ (z : Pool Slot). get z.rows r) q1_is ∙ remove_apart row_key k.pool.rows home.row r ne

        kept_col : (c : Col) → c ≢ home.col → get q.cols c ≡ get k.pool.cols c
        kept_col c ne = ap (λ (z : Pool Slot). get z.cols c) q_is ∙ remove_apart col_key q1.cols home.col c ne ∙ ap (λ (z : Pool Slot). get z.cols c) q1_is

        lasts_rest : each (λ z. z.last) sessions ≡ remove (meaning_of k).lasts s
        lasts_rest = ap (each (λ z. z.last)) is ∙ each_remove (λ z. z.last) session_key k.sessions s

        not_s : {X : Type 0} (f : SessionRecord → X) (t : SessionNo) (v : X) → option_map f (get sessions t) ≡ Some v → t ≢ s
        not_s f t v h e = some_of f (get sessions t) v h (ap (get sessions) e ∙ none)

        rows_less : (a : Place) (r : Row) → row_at rest a ≡ Some r → row_at k a ≡ Some r
        rows_less (Loose t) r h = sym (ap (option_map (λ z. z.row)) (others t (not_s (λ z. z.row) t r h))) ∙ h
        rows_less (On c) r h = h

        not_home : (a : Place) (r : Row) → row_at rest a ≡ Some r → r ≢ home.row
        not_home a r h e = by a (sound.rows.apart a (Loose s) r (rows_less a r h) (own_row ∙ ap Some (sym e))) h
          where
            by : (z : Place) → z ≡ Loose s → row_at rest z ≡ Some r → ⊥
            by (Loose t) e' h' = not_s (λ y. y.row) t r h' (loose_name e')
            by (On c) e' h' = on_loose e'

        cols_less : (t : SessionNo) (c : Col) → col_at rest t ≡ Some c → col_at k t ≡ Some c
        cols_less t c h = sym (ap (option_map (λ z. z.col)) (others t (not_s (λ z. z.col) t c h))) ∙ h

        not_home_col : (t : SessionNo) (c : Col) → col_at rest t ≡ Some c → c ≢ home.col
        not_home_col t c h e = not_s (λ z. z.col) t c h (sound.cols.apart t s c (cols_less t c h) (own_col ∙ ap Some (sym e)))

        pub closed_sound : IsSound rest
        closed_sound = record {
          seats =
              seats_alike q (spot_at k) (spot_at k) (row_at k) (row_at rest) (col_at k) (col_at rest)
              (seats_kept k.pool q (spot_at k) (row_at k) (col_at k) sound.seats (ap (λ (z : Pool Slot). z.nodes) q_is ∙ ap (λ (z : Pool Slot). z.nodes) q1_is) rings) (λ y. refl) (λ y spot h. place_same y spot h spot.place refl)
              (λ y spot h. ap (option_map (λ z. z.col)) (others y.session (stranger_of y spot h)));
          rows = apart_less (row_at k) (row_at rest) k.pool.rows q.rows sound.rows rows_less (λ a r h there. subst IsSome (sym (kept_row r (not_home a r h))) there);
          cols = apart_less (col_at k) (col_at rest) k.pool.cols q.cols sound.cols cols_less (λ t c h there. subst IsSome (sym (kept_col c (not_home_col t c h))) there);
          names = sound.names;
          numbers = record {
            numbers = λ y e at. subst (λ m. IsSomeAnd (get m y.session) (λ last. (0 < y.number) × (y.number ≤ last))) (sym lasts_rest)
                (subst (λ o. IsSomeAnd o (λ last. (0 < y.number) × (y.number ≤ last))) (sym (remove_apart session_key (meaning_of k).lasts s y.session (stranger y e at))) (sound.numbers.numbers y e at));
            counts = sound.numbers.counts;
          };
          counts = record {
            sessions = λ t c h. sound.counts.sessions t c (sym (ap (option_map (λ z. z.entries)) (others t (not_s (λ z. z.entries) t c h))) ∙ h);
            bodies = sound.counts.bodies;
            some = sound.counts.some;
            all = sound.counts.all;
          };
          lengths = λ t r h.
              let here = ap (option_map (λ z. z.col)) h in
              sound.lengths t r (sym (others t (not_s (λ z. z.col) t r.col here)) ∙ h) ∙ ap (λ o. length (unwrap_or o [])) (sym (kept_col r.col (not_home_col t r.col here)));
          fronts = λ t r h.
              let here = ap (option_map (λ z. z.col)) h in
              front_alike k sound q (ap (λ (z : Pool Slot). z.nodes) q_is ∙ ap (λ (z : Pool Slot). z.nodes) q1_is) t r (sym (others t (not_s (λ z. z.col) t r.col here)) ∙ h) (ap (λ o. unwrap_or o []) (kept_col r.col (not_home_col t r.col here)));
        }
          where
            place_same : (y : Slot) (spot : Spot) → spot_at k y ≡ Some spot → (a : Place) → spot.place ≡ a → row_at rest a ≡ row_at k a
            place_same y spot h (Loose t) on = ap (option_map (λ z. z.row)) (others t (λ e. stranger_spot y spot h (on ∙ ap Loose e)))
            place_same y spot h (On c) on = refl

        pub closed_is : meaning_of rest ≡ closed (meaning_of k) s
        closed_is = λ i. record { lasts = lasts_rest i; entries = (meaning_of k).entries; bodies = (meaning_of k).bodies }
