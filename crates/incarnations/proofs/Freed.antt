-- Entries of a session or of a body, one after the other.
use Rattle.std.proofs.Common.{ℕ, ◌≡◌, ◌⊎◌, inl, inr, ⊎_elim, ◌<◌, ◌+◌, [], length, Bool, true, false, cond, Option, Some, None, IsSome, refl, sym, ap, ◌∙◌, subst, arith}
use Rattle.std.specs.Prelude.{Contains, is_some, ◌&&◌}
use Rattle.std.specs.Option.{option_map, option_and_then}
use Rattle.std.specs.FinMap.{get, insert, remove}
use Rattle.std.proofs.lemmas.Bool.{eq-eqb}
use Rattle.pss_base.specs.declared.session.SessionNo.{SessionNo}
use Rattle.pss_machine.specs.declared.session.View.{View}
use Rattle.type_layout.specs.Schemas.{given}
use Rattle.link_pool.specs.Rings.{list_in, first_in}
use Rattle.link_pool.specs.Meaning.{row_in, col_in, item_in}
use Rattle.link_pool.specs.declared.names.Row.{Row}
use Rattle.link_pool.specs.declared.names.Col.{Col}
use Rattle.link_pool.specs.declared.names.Node.{Node}
use Rattle.link_pool.specs.declared.names.Seat.{Seat}
use Rattle.link_pool.proofs.RingChanges.{no_first, first_home}
use Rattle.incarnations.specs.declared.names.Slot.{Slot}
use Rattle.incarnations.specs.declared.names.BodyName.{BodyName}
use Rattle.incarnations.specs.declared.names.BodyRecord.{BodyRecord}
use Rattle.incarnations.specs.declared.names.BodyPlace.{BodyPlace}
use Rattle.incarnations.specs.declared.names.Entry.{Entry}
use Rattle.incarnations.specs.declared.names.EntryRecord.{EntryRecord}
use Rattle.incarnations.specs.declared.stock.Stock.{Stock}
use Rattle.recent_table.specs.Maps.{count}
use Rattle.incarnations.specs.Meaning.{stands_on, is_of, is_attached, body, with_view, Leaves, loosened, freed, of_session, on_body, both}
use Rattle.incarnations.specs.Stock.{Loose, On, place_of, spot_of, spot_at, row_at, col_at, meaning_of, IsSound, IsErased, IsSet, KeepsBodies, KeepsCols, KeepsRows, asks, turned_entry}
use Rattle.recent_table.proofs.Maps.{no_value, one_value, same_or_apart, insert_here, insert_apart, remove_here, remove_apart, get_each, weight, count_gone, count_set, count_some, count_none}
use Rattle.incarnations.proofs.Keys.{slot_key, session_told}
use Rattle.incarnations.proofs.Places.{IsNodeOf, node_of, on_told, on_found}
use Rattle.incarnations.proofs.Sets.{Has, has_map, plain, entry_is, seat_is, nobody_on, load_on, bodies_left}

pub is_of_self : (s : SessionNo) (y : Slot) (e : Entry) → y.session ≡ s → is_of s (y, e) ≡ true
is_of_self s y e h = ap (λ z. is_of s (record { session = z; number = 0 }, e)) h ∙ eq-eqb s.0 s.0 refl

-- an entry and its record
pub record IsEntry (k : Stock) (x : Slot) (node : Node) : Type 0 where
  pub was : EntryRecord
  pub at : get k.entries x ≡ Some was
  pub node_is : was.node ≡ node

-- what is known of the entry of a node
module _ (k : Stock) (sound : IsSound k) (node : Node) (seat : Seat Slot) (at : get k.pool.nodes node ≡ Some seat) where
  pub of_node : IsNodeOf k.pool (spot_at k) (row_at k) (col_at k) sound.seats node seat
  of_node = node_of k.pool (spot_at k) (row_at k) (col_at k) sound.seats node seat at

  pub entry_of_node : IsEntry k seat.item node
  entry_of_node =
      let h = has_map (spot_of seat.item) (get k.entries seat.item) of_node.spot of_node.at in
      let same : spot_of seat.item h.value ≡ of_node.spot = one_value (sym (ap (option_map (spot_of seat.item)) h.is) ∙ of_node.at) in
      record { was = h.value; at = h.is; node_is = ap (λ z. z.node) same ∙ of_node.node_is }

-- the entry of a node by a look-up of its item
module _ (k : Stock) (sound : IsSound k) (node : Node) (x : Slot) (item : item_in k.pool node ≡ Some x) where
  seat_of : Has (get k.pool.nodes node)
  seat_of = has_map (λ z. z.item) (get k.pool.nodes node) x item

  seat_item : seat_of.value.item ≡ x
  seat_item = one_value (sym (ap (option_map (λ z. z.item)) seat_of.is) ∙ item)

  pub entry_found : IsEntry k x node
  entry_found = subst (λ z. IsEntry k z node) seat_item (entry_of_node k sound node seat_of.value seat_of.is)

  pub spot_found : (was : EntryRecord) → get k.entries x ≡ Some was → was.node ≡ node
  spot_found was at = ap (λ z. z.node) (one_value (sym at ∙ entry_found.at)) ∙ entry_found.node_is

-- ---- the first of a session

module _ (k : Stock) (sound : IsSound k) (s : SessionNo) (col : Col) (col_is : col_at k s ≡ Some col) where
  pub col_there : IsSome (get k.pool.cols col)
  col_there = sound.cols.there s col col_is

  -- as many nodes as entries
  pub column_size : length (list_in k.pool.cols col) ≡ count (is_of s) (plain k.entries)
  column_size =
      let h = has_map (λ r. r.col) (get k.sessions s) col col_is in
      let same : h.value.col ≡ col = one_value (sym (ap (option_map (λ r. r.col)) h.is) ∙ col_is) in
      sym (ap (λ c. length (list_in k.pool.cols c)) same) ∙ sym (sound.lengths s h.value h.is) ∙ sound.counts.sessions s h.value.entries (ap (option_map (λ r. r.entries)) h.is)

  pub column_some : 0 < count (is_of s) (plain k.entries) → first_in k.pool.cols col ≡ None → ⊥
  column_some more none = absurd (omega (arith, more, column_size, ap length (no_first k.pool.cols col none)))

  module _ (node : Node) (first : first_in k.pool.cols col ≡ Some node) where
    pub first_at : Has (get k.pool.nodes node)
    first_at = has_map (λ z. z.col) (get k.pool.nodes node) col (first_home k.pool.cols col (col_in k.pool) sound.seats.rings.cols node first)

    pub first_entry : (x : Slot) → item_in k.pool node ≡ Some x → x.session ≡ s
    first_entry x item =
        let same : first_at.value.item ≡ x = one_value (sym (ap (option_map (λ z. z.item)) first_at.is) ∙ item) in
        let own : first_at.value.col ≡ col = one_value (sym (ap (option_map (λ z. z.col)) first_at.is) ∙ first_home k.pool.cols col (col_in k.pool) sound.seats.rings.cols node first) in
        let t = of_node k sound node first_at.value first_at.is in
        sym (ap (λ z. z.session) same) ∙ sound.cols.apart first_at.value.item.session s col (t.col_is ∙ ap Some own) col_is

-- ---- the first of a body

module _ (k : Stock) (sound : IsSound k) (b : BodyName) (row : Row) (row_is : row_at k (On b) ≡ Some row) where
  pub row_there : IsSome (get k.pool.rows row)
  row_there = sound.rows.there (On b) row row_is

  pub row_some : 0 < count (stands_on b) (plain k.entries) → first_in k.pool.rows row ≡ None → ⊥
  row_some more none = absurd (omega (arith, more, count_none slot_key (stands_on b) (plain k.entries) nobody))
    where
      stands : (y : Slot) (r : EntryRecord) → get k.entries y ≡ Some r → place_of y r.entry ≡ On b → ⊥
      stands y r at on =
          let t = seat_is k sound y r at in
          let same : t.row ≡ row = one_value (sym (sym (ap (row_at k) on) ∙ t.in_row) ∙ row_is) in
          let m = sound.seats.rings.rows.found row r.node (ap (option_map (λ z. z.row)) t.at ∙ ap Some same) in
          let m' : Contains [] r.node = subst (λ l. Contains l r.node) (no_first k.pool.rows row none) m in
          absurd (omega (arith, m'.1))

      nobody : (y : Slot) (e : Entry) → get (plain k.entries) y ≡ Some e → stands_on b (y, e) ≡ false
      nobody y e at = by (stands_on b (y, e)) refl
        where
          h : Has (get k.entries y)
          h = has_map (λ z. z.entry) (get k.entries y) e (sym (get_each (λ z. z.entry) k.entries y) ∙ at)

          same : h.value.entry ≡ e
          same = one_value (sym (ap (option_map (λ z. z.entry)) h.is) ∙ sym (get_each (λ z. z.entry) k.entries y) ∙ at)

          by : (t : Bool) → stands_on b (y, e) ≡ t → t ≡ false
          by true on = absurd (stands y h.value h.is (ap (place_of y) same ∙ on_found y e b on))
          by false on = refl

  module _ (node : Node) (first : first_in k.pool.rows row ≡ Some node) where
    pub first_in_row : Has (get k.pool.nodes node)
    first_in_row = has_map (λ z. z.row) (get k.pool.nodes node) row (first_home k.pool.rows row (row_in k.pool) sound.seats.rings.rows node first)

    pub first_stood : (x : Slot) (was : EntryRecord) → item_in k.pool node ≡ Some x → get k.entries x ≡ Some was → place_of x was.entry ≡ On b
    first_stood x was item at =
        let same : first_in_row.value.item ≡ x = one_value (sym (ap (option_map (λ z. z.item)) first_in_row.is) ∙ item) in
        let own : first_in_row.value.row ≡ row = one_value (sym (ap (option_map (λ z. z.row)) first_in_row.is) ∙ first_home k.pool.rows row (row_in k.pool) sound.seats.rings.rows node first) in
        let t = of_node k sound node first_in_row.value first_in_row.is in
        let spots : spot_of x was ≡ t.spot = one_value (sym (ap (option_map (spot_of x)) at) ∙ ap (spot_at k) (sym same) ∙ t.at) in
        ap (λ z. z.place) spots ∙ sound.rows.apart t.spot.place (On b) row (t.row_is ∙ ap Some own) row_is

-- ---- entries of a session that are gone

module _ (old : Stock) (s : SessionNo) where
  -- so many of them are
  pub record IsFreed (now : Stock) (col : Col) (k : ℕ) : Type 0 where
    pub sound : IsSound now
    pub col_is : col_at now s ≡ Some col
    pub lasts : (meaning_of now).lasts ≡ (meaning_of old).lasts
    pub left : count (is_of s) (plain now.entries) + k ≡ count (is_of s) (plain old.entries)
    pub entries : (x : Slot) → (get (plain now.entries) x ≡ get (plain old.entries) x) ⊎ ((x.session ≡ s) × (get (plain now.entries) x ≡ None))
    pub bodies : KeepsBodies (meaning_of old) (meaning_of now)

  pub freed_none : IsSound old → (col : Col) → col_at old s ≡ Some col → IsFreed old col 0
  freed_none sound col is = record { sound = sound; col_is = is; lasts = refl; left = omega arith; entries = λ x. inl refl; bodies = λ b v h. h }

  module _ (now : Stock) (col : Col) (k : ℕ) (f : IsFreed now col k) where
    pub freed_more : (x : Slot) (was : EntryRecord) → get now.entries x ≡ Some was → x.session ≡ s → (next : Stock) → IsSound next → KeepsCols now next → IsErased (meaning_of now) (meaning_of next) x → IsFreed next col (k + 1)
    freed_more x was at own next sound cols erased = record {
      sound = sound;
      col_is = cols s ∙ f.col_is;
      lasts = erased.lasts ∙ f.lasts;
      left = omega (arith, f.left, count_gone slot_key (is_of s) (plain now.entries) x was.entry (entry_is now f.sound x was at), ap weight (is_of_self s x was.entry own), ap (count (is_of s)) erased.entries);
      entries = λ y.
          ⊎_elim
          (λ e. inr (ap (λ z. z.session) e ∙ own, ap (λ m. get m y) erased.entries ∙ ap (get (remove (plain now.entries) x)) e ∙ remove_here slot_key (plain now.entries) x))
          (λ ne. let same = ap (λ m. get m y) erased.entries ∙ remove_apart slot_key (plain now.entries) x y ne in ⊎_elim (λ i. inl (same ∙ i)) (λ g. inr (g.0, same ∙ g.1)) (f.entries y))
          (same_or_apart slot_key y x);
      bodies = λ b v h. f.bodies b v (erased.bodies b v h);
    }

    pub freed_all : count (is_of s) (plain old.entries) ≡ k → Leaves (freed (of_session s)) (meaning_of old) (meaning_of now)
    freed_all all = record {
      entries = λ x. by x (get (plain old.entries) x) refl (f.entries x);
      bodies = λ b. bodies_left now f.sound b (meaning_of old).bodies (f.bodies b);
    }
      where
        nobody : (x : Slot) (e : Entry) → get (plain now.entries) x ≡ Some e → x.session ≡ s → ⊥
        nobody x e at own = absurd (omega (arith, f.left, all, count_some slot_key (is_of s) (plain now.entries) x e at (is_of_self s x e own)))

        gone : (x : Slot) → x.session ≡ s → get (plain now.entries) x ≡ None
        gone x own = by' (get (plain now.entries) x) refl
          where
            by' : (o : Option Entry) → get (plain now.entries) x ≡ o → o ≡ None
            by' None is = refl
            by' (Some e) is = absurd (nobody x e is own)

        by : (x : Slot) (o : Option Entry) → get (plain old.entries) x ≡ o → (get (plain now.entries) x ≡ get (plain old.entries) x) ⊎ ((x.session ≡ s) × (get (plain now.entries) x ≡ None)) → get (plain now.entries) x ≡ option_and_then (freed (of_session s) x) (get (plain old.entries) x)
        by x None is (inl i) = i ∙ is ∙ sym (ap (option_and_then (freed (of_session s) x)) is)
        by x None is (inr g) = g.1 ∙ sym (ap (option_and_then (freed (of_session s) x)) is)
        by x (Some e) is c = sym (ap (option_and_then (freed (of_session s) x)) is ∙ own (is_of s (x, e)) refl c)
          where
            own : (t : Bool) → is_of s (x, e) ≡ t → (get (plain now.entries) x ≡ get (plain old.entries) x) ⊎ ((x.session ≡ s) × (get (plain now.entries) x ≡ None)) → cond t None (Some e) ≡ get (plain now.entries) x
            own true t c' = sym (gone x (session_told x.session s t))
            own false t (inl i) = sym is ∙ sym i
            own false t (inr g) = absurd (unlike (sym t ∙ is_of_self s x e g.0))
              where
                unlike : false ≡ true → ⊥
                unlike q = cc

-- ---- entries that left a body

module _ (old : Stock) (b : BodyName) where
  -- an entry stood on the body, and stands on none
  pub record HasLeft (now : Stock) (x : Slot) : Type 0 where
    pub entry : Entry
    pub was : get (plain old.entries) x ≡ Some entry
    pub on : stands_on b (x, entry) ≡ true
    pub is : get (plain now.entries) x ≡ Some (with_view None entry)

  -- so many of them did
  pub record IsCleared (now : Stock) (row : Row) (k : ℕ) : Type 0 where
    pub sound : IsSound now
    pub row_is : (r : Row) → row_at now (On b) ≡ Some r → r ≡ row
    pub lasts : (meaning_of now).lasts ≡ (meaning_of old).lasts
    pub left : count (stands_on b) (plain now.entries) + k ≡ count (stands_on b) (plain old.entries)
    pub entries : (x : Slot) → (get (plain now.entries) x ≡ get (plain old.entries) x) ⊎ HasLeft now x
    pub bodies : KeepsBodies (meaning_of old) (meaning_of now)

  pub cleared_none : IsSound old → (row : Row) → row_at old (On b) ≡ Some row → IsCleared old row 0
  cleared_none sound row is = record { sound = sound; row_is = λ r h. one_value (sym h ∙ is); lasts = refl; left = omega arith; entries = λ x. inl refl; bodies = λ c v h. h }

  turned_on : (x : Slot) (e : Entry) → place_of x e ≡ On b → turned_entry None e ≡ with_view None e
  turned_on x e h = by e.view refl h
    where
      never : {A : Type 0} {t : SessionNo} → Loose t ≡ On b → A
      never q = absurd (cc)

      by : (o : Option View) → e.view ≡ o → given o (Loose x.session) (λ v. On (body e.pid v)) ≡ On b → turned_entry None e ≡ with_view None e
      by None is on = never on
      by (Some v) is on = ap (λ o. given o e (λ w. cond (asks None w) (with_view None e) e)) is

  module _ (now : Stock) (row : Row) (k : ℕ) (f : IsCleared now row k) where
    -- while some are left, the body is there
    pub still : 0 < count (stands_on b) (plain now.entries) → row_at now (On b) ≡ Some row
    still more = by (get now.bodies b) refl
      where
        by : (o : Option BodyRecord) → get now.bodies b ≡ o → row_at now (On b) ≡ Some row
        by None is = absurd (omega (arith, more, nobody_on now f.sound b is))
        by (Some r) is = ap (option_map (λ z. z.place.row)) is ∙ ap Some (f.row_is r.place.row (ap (option_map (λ z. z.place.row)) is))

    pub cleared_more : (x : Slot) (was : EntryRecord) → get now.entries x ≡ Some was → place_of x was.entry ≡ On b → (next : Stock) → IsSound next → KeepsRows now next → IsSet (meaning_of now) (meaning_of next) x (turned_entry None was.entry) → IsCleared next row (k + 1)
    cleared_more x was at on next sound rows set = record {
      sound = sound;
      row_is = λ r h. f.row_is r (rows b r h);
      lasts = set.lasts ∙ f.lasts;
      left =
          let c : count (stands_on b) (insert (plain now.entries) x (with_view None was.entry)) + weight (stands_on b (x, was.entry)) ≡ count (stands_on b) (plain now.entries) + 0 = count_set slot_key (stands_on b) (plain now.entries) x was.entry (with_view None was.entry) here in
          omega (arith, c, f.left, ap weight (on_told x was.entry b on), ap (count (stands_on b)) set_is);
      entries = λ y.
          ⊎_elim
          (λ e. ⊎_elim (λ i. inr (first y e i)) (λ g. inr (again y e g)) (f.entries y))
          (λ ne. let same = ap (λ m. get m y) set_is ∙ insert_apart slot_key (plain now.entries) x (with_view None was.entry) y ne in ⊎_elim (λ i. inl (same ∙ i)) (λ g. inr (record { entry = g.entry; was = g.was; on = g.on; is = same ∙ g.is })) (f.entries y))
          (same_or_apart slot_key y x);
      bodies = λ c v h. f.bodies c v (set.bodies c v h);
    }
      where
        here : get (plain now.entries) x ≡ Some was.entry
        here = entry_is now f.sound x was at

        set_is : plain next.entries ≡ insert (plain now.entries) x (with_view None was.entry)
        set_is = set.entries ∙ ap (insert (plain now.entries) x) (turned_on x was.entry on)

        new_here : (y : Slot) → y ≡ x → get (plain next.entries) y ≡ Some (with_view None was.entry)
        new_here y e = ap (λ m. get m y) set_is ∙ ap (get (insert (plain now.entries) x (with_view None was.entry))) e ∙ insert_here slot_key (plain now.entries) x (with_view None was.entry)

        first : (y : Slot) → y ≡ x → get (plain now.entries) y ≡ get (plain old.entries) y → HasLeft next y
        first y e i = record { entry = was.entry; was = sym i ∙ ap (get (plain now.entries)) e ∙ here; on = ap (λ z. stands_on b (z, was.entry)) e ∙ on_told x was.entry b on; is = new_here y e }

        again : (y : Slot) → y ≡ x → HasLeft now y → HasLeft next y
        again y e g =
            let same : was.entry ≡ with_view None g.entry = one_value (sym here ∙ ap (get (plain now.entries)) (sym e) ∙ g.is) in
            record { entry = g.entry; was = g.was; on = g.on; is = new_here y e ∙ ap (λ z. Some (with_view None z)) same }

    pub cleared_all : count (stands_on b) (plain old.entries) ≡ k → Leaves (loosened (on_body b)) (meaning_of old) (meaning_of now)
    cleared_all all = record {
      entries = λ x. by x (get (plain old.entries) x) refl (f.entries x);
      bodies = λ c. bodies_left now f.sound c (meaning_of old).bodies (f.bodies c);
    }
      where
        nobody : (x : Slot) (e : Entry) → get (plain now.entries) x ≡ Some e → stands_on b (x, e) ≡ true → ⊥
        nobody x e at on = absurd (omega (arith, f.left, all, count_some slot_key (stands_on b) (plain now.entries) x e at on))

        by : (x : Slot) (o : Option Entry) → get (plain old.entries) x ≡ o → (get (plain now.entries) x ≡ get (plain old.entries) x) ⊎ HasLeft now x → get (plain now.entries) x ≡ option_and_then (loosened (on_body b) x) (get (plain old.entries) x)
        by x None is (inl i) = i ∙ is ∙ sym (ap (option_and_then (loosened (on_body b) x)) is)
        by x None is (inr g) = no_value g.entry (sym is ∙ g.was)
        by x (Some e) is c = sym (ap (option_and_then (loosened (on_body b) x)) is ∙ own (stands_on b (x, e)) refl c)
          where
            unlike : false ≡ true → ⊥
            unlike q = cc

            own : (t : Bool) → stands_on b (x, e) ≡ t → (get (plain now.entries) x ≡ get (plain old.entries) x) ⊎ HasLeft now x → Some (cond t (with_view None e) e) ≡ get (plain now.entries) x
            own true t (inl i) = absurd (nobody x e (i ∙ is) t)
            own true t (inr g) = ap (λ z. Some (with_view None z)) (one_value (sym is ∙ g.was)) ∙ sym g.is
            own false t (inl i) = sym is ∙ sym i
            own false t (inr g) = absurd (unlike (sym t ∙ ap (λ z. stands_on b (x, z)) (one_value (sym is ∙ g.was)) ∙ g.on))

-- ---- where there is nothing to do

module _ (k : Stock) (sound : IsSound k) where
  pub unchanged : (f : Slot → Entry → Option Entry) → ((x : Slot) (e : Entry) → get (plain k.entries) x ≡ Some e → f x e ≡ Some e) → Leaves f (meaning_of k) (meaning_of k)
  unchanged f stays = record { entries = λ x. by x (get (plain k.entries) x) refl; bodies = λ b. bodies_left k sound b (meaning_of k).bodies (λ v h. h) }
    where
      by : (x : Slot) (o : Option Entry) → get (plain k.entries) x ≡ o → get (plain k.entries) x ≡ option_and_then (f x) (get (plain k.entries) x)
      by x None is = is ∙ sym (ap (option_and_then (f x)) is)
      by x (Some e) is = is ∙ sym (ap (option_and_then (f x)) is ∙ stays x e is)

  -- a session that is not there has no entry
  pub stranger : (s : SessionNo) → get k.sessions s ≡ None → (x : Slot) (e : Entry) → get (plain k.entries) x ≡ Some e → is_of s (x, e) ≡ false
  stranger s none x e at = by (is_of s (x, e)) refl
    where
      missing : {A B : Type 0} (g : A → B) (o : Option A) (v : B) → option_map g o ≡ Some v → o ≡ None → ⊥
      missing g None v h n = no_value v h
      missing g (Some w) v h n = no_value w (sym n)

      by : (t : Bool) → is_of s (x, e) ≡ t → t ≡ false
      by true t =
          let h = has_map (λ z. z.entry) (get k.entries x) e (sym (get_each (λ z. z.entry) k.entries x) ∙ at) in
          let p = seat_is k sound x h.value h.is in
          absurd (missing (λ r. r.col) (get k.sessions x.session) p.col p.in_col (ap (get k.sessions) (session_told x.session s t) ∙ none))
      by false t = refl

  pub nobody_of : (s : SessionNo) → get k.sessions s ≡ None → count (is_of s) (plain k.entries) ≡ 0
  nobody_of s none = count_none slot_key (is_of s) (plain k.entries) (stranger s none)

  pub nobody_attached : (s : SessionNo) → get k.sessions s ≡ None → count (λ e. is_of s e && is_attached e) (plain k.entries) ≡ 0
  nobody_attached s none = count_none slot_key (λ e. is_of s e && is_attached e) (plain k.entries) (λ x e at. ap (λ t. t && is_some e.view) (stranger s none x e at))

  pub freed_absent : (s : SessionNo) → get k.sessions s ≡ None → Leaves (freed (of_session s)) (meaning_of k) (meaning_of k)
  freed_absent s none = unchanged (freed (of_session s)) (λ x e at. ap (λ t. cond t None (Some e)) (stranger s none x e at))

  pub loosened_absent : (s : SessionNo) (test : Slot → Entry → Bool) → get k.sessions s ≡ None → Leaves (loosened (both (of_session s) test)) (meaning_of k) (meaning_of k)
  loosened_absent s test none = unchanged (loosened (both (of_session s) test)) (λ x e at. ap (λ t. Some (cond (t && test x e) (with_view None e) e)) (stranger s none x e at))

  -- nor does one stand on a body that is not there
  pub cleared_absent : (b : BodyName) → get k.bodies b ≡ None → Leaves (loosened (on_body b)) (meaning_of k) (meaning_of k)
  cleared_absent b none = unchanged (loosened (on_body b)) (λ x e at. ap (λ t. Some (cond t (with_view None e) e)) (by x e at (stands_on b (x, e)) refl))
    where
      by : (x : Slot) (e : Entry) → get (plain k.entries) x ≡ Some e → (t : Bool) → stands_on b (x, e) ≡ t → t ≡ false
      by x e at true on = absurd (omega (arith, nobody_on k sound b none, count_some slot_key (stands_on b) (plain k.entries) x e at on))
      by x e at false on = refl

  -- a place of a body that is there
  pub place_row : (b : BodyName) (place : BodyPlace) → Some place ≡ option_map (λ r. r.place) (get k.bodies b) → row_at k (On b) ≡ Some place.row
  place_row b place is =
      let h = has_map (λ r. r.place) (get k.bodies b) place (sym is) in
      ap (option_map (λ r. r.place.row)) h.is ∙ ap (λ z. Some z.row) (one_value (sym (ap (option_map (λ r. r.place)) h.is) ∙ sym is))

  pub place_load : (b : BodyName) (place : BodyPlace) → Some place ≡ option_map (λ r. r.place) (get k.bodies b) → place.entries ≡ count (stands_on b) (plain k.entries)
  place_load b place is =
      let h = has_map (λ r. r.place) (get k.bodies b) place (sym is) in
      ap (λ z. z.entries) (sym (one_value (sym (ap (option_map (λ r. r.place)) h.is) ∙ sym is))) ∙ (load_on k sound b h.value h.is).0

  pub place_none : (b : BodyName) → None ≡ option_map (λ (r : BodyRecord). r.place) (get k.bodies b) → get k.bodies b ≡ None
  place_none b is = by (get k.bodies b) is
    where
      by : (o : Option BodyRecord) → None ≡ option_map (λ (r : BodyRecord). r.place) o → o ≡ None
      by None h = refl
      by (Some r) h = no_value r.place h
