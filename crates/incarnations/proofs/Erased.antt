-- What is stored after an entry is gone.
use Rattle.std.proofs.Common.{ℕ, ◌≡◌, ◌≢◌, ◌⊎◌, inl, inr, ⊎_elim, ◌<◌, ◌+◌, ◌-◌, [], Bool, true, false, Some, None, IsSome, refl, sym, ap, ◌∙◌, subst, arith}
use Rattle.std.specs.Prelude.{IsSomeAnd, is_some}
use Rattle.std.specs.Option.{option_map}
use Rattle.std.specs.FinMap.{FinMap, get, insert, remove}
use Rattle.pss_base.specs.declared.session.SessionNo.{SessionNo}
use Rattle.pss_machine.specs.declared.session.View.{View}
use Rattle.type_layout.specs.Schemas.{given}
use Rattle.link_pool.specs.Meaning.{Meaning as Pool, AreRings}
use Rattle.link_pool.specs.declared.names.Row.{Row}
use Rattle.link_pool.specs.Rings.{list_in}
use Rattle.incarnations.specs.declared.names.Slot.{Slot}
use Rattle.incarnations.specs.declared.names.BodyName.{BodyName}
use Rattle.incarnations.specs.declared.names.Entry.{Entry}
use Rattle.incarnations.specs.declared.names.EntryRecord.{EntryRecord}
use Rattle.incarnations.specs.declared.names.SessionRecord.{SessionRecord}
use Rattle.incarnations.specs.declared.stock.Stock.{Stock}
use Rattle.incarnations.specs.Keys.{slot_cmp, session_cmp, object_cmp}
use Rattle.recent_table.specs.Maps.{each, count}
use Rattle.incarnations.specs.Records.{without_one}
use Rattle.incarnations.specs.Meaning.{stands_on, is_of, is_attached, body, same_body}
use Rattle.incarnations.specs.Stock.{Place, Loose, On, place_of, Spot, spot_of, spots_in, spot_at, row_at, col_at, size_at, load_at, meaning_of, AreSeated, AreApart, AreCounted, AreInFront, IsSound, IsFewer, IsLowered, IsErased, KeepsCols, AreNumbered, AreNamed, pid_at, number_at}
use Rattle.recent_table.proofs.Maps.{one_value, same_or_apart, insert_here, insert_apart, remove_here, remove_apart, get_each, weight, count_gone, count_some, each_same, each_remove}
use Rattle.incarnations.proofs.Keys.{slot_key, session_key, object_key, session_told}
use Rattle.incarnations.proofs.Fronts.{attached_some, fronts_gone}
use Rattle.incarnations.proofs.Seats.{seats_alike, seats_kept, seats_out}
use Rattle.incarnations.proofs.Places.{on_told, on_found, bare_row}
use Rattle.incarnations.proofs.Named.{object, apart_less, names_out, numbered_less}
use Rattle.link_pool.specs.Meaning.{unlinked}
use Rattle.link_pool.specs.declared.names.Seat.{Seat}
use Rattle.link_pool.proofs.NodeLists.{without-absent}
use Rattle.link_pool.proofs.RingChanges.{row_stays-unlinked, col_stays-unlinked, col_list-unlinked, col_length-unlinked}
use Rattle.std.specs.Prelude.{length, Contains}
use Rattle.std.proofs.lemmas.Bool.{eq-eqb}
use Rattle.incarnations.proofs.Moved.{Was, was as unlinked_was}
use Rattle.incarnations.proofs.Parted.{rows_down, rows_parted, loads, keeps}
use Rattle.incarnations.proofs.Sets.{Has, has_map, plain, entry_is, spot_is, seat_is, node_there, body_there, load_on}

on_name : {b c : BodyName} → On b ≡ On c → b ≡ c
on_name e = cc

module _ (k : Stock) (sound : IsSound k) (x : Slot) (was : EntryRecord) (at : get k.entries x ≡ Some was) (home : SessionRecord) (home_is : get k.sessions x.session ≡ Some home)
    (seat : Seat Slot) (seat_at : get k.pool.nodes was.node ≡ Some seat) (rings : AreRings (unlinked k.pool was.node seat)) where
  abbrev p : Pool Slot
  p = unlinked k.pool was.node seat

  abbrev after : FinMap slot_cmp EntryRecord
  after = remove k.entries x

  abbrev sessions : FinMap session_cmp SessionRecord
  sessions = insert k.sessions x.session (without_one (is_some was.entry.view) home)

  abbrev objects : FinMap object_cmp ℕ
  objects = remove k.objects (object x.session was.entry.pid)

  -- without the entry, and its body as it was
  abbrev pub left_stock : ℕ → Stock
  left_stock n = record { pool = p; sessions = sessions; entries = after; objects = objects; bodies = k.bodies; attached = n }

  old : get (plain k.entries) x ≡ Some was.entry
  old = entry_is k sound x was at

  plain_is : plain after ≡ remove (plain k.entries) x
  plain_is = each_remove (λ r. r.entry) slot_key k.entries x

  -- what a session's record has beside its count
  same_of : {X : Type 0} (f : SessionRecord → X) → f (without_one (is_some was.entry.view) home) ≡ f home → (s : SessionNo) → option_map f (get sessions s) ≡ option_map f (get k.sessions s)
  same_of f same s =
      ⊎_elim
      (λ e. ap (λ z. option_map f (get sessions z)) e ∙ ap (option_map f) (insert_here session_key k.sessions x.session (without_one (is_some was.entry.view) home)) ∙ ap Some same ∙ sym (ap (option_map f) home_is) ∙ ap (λ z. option_map f (get k.sessions z)) (sym e))
      (λ ne. ap (option_map f) (insert_apart session_key k.sessions x.session (without_one (is_some was.entry.view) home) s ne)) (same_or_apart session_key s x.session)

  same_col : seat.col ≡ home.col
  same_col =
      let t = seat_is k sound x was at in
      ap (λ z. z.col) (one_value (sym seat_at ∙ t.at)) ∙ one_value (sym t.in_col ∙ ap (option_map (λ r. r.col)) home_is)

  seats1 : AreSeated p (spots_in after) (row_at k) (col_at k)
  seats1 =
      seats_out k.pool (spot_at k) (spots_in after) (row_at k) (col_at k) sound.seats x (λ y ne. ap (option_map (spot_of y)) (remove_apart slot_key k.entries x y ne)) (spot_of x was) seat (spot_is k sound x was at) seat_at
      (ap (option_map (spot_of x)) (remove_here slot_key k.entries x)) rings

  stay : (r : Row) → IsSome (get k.pool.rows r) → IsSome (get p.rows r)
  stay r h = row_stays-unlinked k.pool was.node seat r h

  lasts_is : each (λ r. r.last) sessions ≡ (meaning_of k).lasts
  lasts_is = each_same (λ r. r.last) session_key k.sessions x.session home (without_one (is_some was.entry.view) home) home_is refl

  size_is : home.entries ≡ count (is_of x.session) (plain k.entries)
  size_is = sound.counts.sessions x.session home.entries (ap (option_map (λ r. r.entries)) home_is)

  own : is_of x.session (x, was.entry) ≡ true
  own = eq-eqb x.session.0 x.session.0 refl

  pub size_some : 0 < home.entries
  size_some = omega (arith, size_is, count_some slot_key (is_of x.session) (plain k.entries) x was.entry old own)

  one_gone : (test : Slot × Entry → Bool) → count test (plain k.entries) ≡ count test (plain after) + weight (test (x, was.entry))
  one_gone test = count_gone slot_key test (plain k.entries) x was.entry old ∙ ap (λ E. count test E + weight (test (x, was.entry))) (sym plain_is)

  sizes : (s : SessionNo) (c : ℕ) → option_map (λ r. r.entries) (get sessions s) ≡ Some c → c ≡ count (is_of s) (plain after)
  sizes s c h = by (same_or_apart session_key s x.session)
    where
      not_of : s ≢ x.session → (t : Bool) → is_of s (x, was.entry) ≡ t → t ≡ false
      not_of ne true e = absurd (ne (sym (session_told x.session s e)))
      not_of ne false e = refl

      by : (s ≡ x.session) ⊎ (s ≢ x.session) → c ≡ count (is_of s) (plain after)
      by (inl e) =
          let is : home.entries - 1 ≡ c = one_value (sym (ap (λ z. option_map (λ r. r.entries) (get sessions z)) e ∙ ap (option_map (λ r. r.entries)) (insert_here session_key k.sessions x.session (without_one (is_some was.entry.view) home))) ∙ h) in
          let here : c ≡ count (is_of x.session) (plain after) = omega (arith, is, size_is, one_gone (is_of x.session), ap weight own) in
          here ∙ ap (λ z. count (is_of z) (plain after)) (sym e)
      by (inr ne) =
          let was' = sound.counts.sessions s c (sym (ap (option_map (λ r. r.entries)) (insert_apart session_key k.sessions x.session (without_one (is_some was.entry.view) home) s ne)) ∙ h) in
          omega (arith, was', one_gone (is_of s), ap weight (not_of ne (is_of s (x, was.entry)) refl))

  names : AreNamed (λ y. option_map (λ r. r.entry.pid) (get after y)) (get objects)
  names =
      names_out (pid_at k) (λ y. option_map (λ r. r.entry.pid) (get after y)) (number_at k) (get objects) sound.names x was.entry.pid (λ y ne. ap (option_map (λ r. r.entry.pid)) (remove_apart slot_key k.entries x y ne))
      (λ o ne. remove_apart object_key k.objects (object x.session was.entry.pid) o ne) (ap (option_map (λ r. r.entry.pid)) at) (ap (option_map (λ r. r.entry.pid)) (remove_here slot_key k.entries x)) (remove_here object_key k.objects (object x.session was.entry.pid))

  numbers : AreNumbered (plain after) (each (λ r. r.last) sessions)
  numbers = subst (λ E. AreNumbered E (each (λ r. r.last) sessions)) (sym plain_is) (subst (λ t. AreNumbered (remove (plain k.entries) x) t) (sym lasts_is) (numbered_less (plain k.entries) (meaning_of k).lasts sound.numbers x))

  lengths : (s : SessionNo) (r : SessionRecord) → get sessions s ≡ Some r → r.entries ≡ length (list_in p.cols r.col)
  lengths s r h = by (same_or_apart session_key s x.session)
    where
      by : (s ≡ x.session) ⊎ (s ≢ x.session) → r.entries ≡ length (list_in p.cols r.col)
      by (inl e) =
          let is : without_one (is_some was.entry.view) home ≡ r = one_value (sym (ap (get sessions) e ∙ insert_here session_key k.sessions x.session (without_one (is_some was.entry.view) home)) ∙ h) in
          let l : length (list_in p.cols home.col) + 1 ≡ length (list_in k.pool.cols home.col) = subst (λ c. length (list_in p.cols c) + 1 ≡ length (list_in k.pool.cols c)) same_col (col_length-unlinked k.pool was.node seat sound.seats.rings seat_at) in
          subst (λ z. z.entries ≡ length (list_in p.cols z.col)) is (omega (arith, l, sound.lengths x.session home home_is))
      by (inr ne) =
          let was' = sym (insert_apart session_key k.sessions x.session (without_one (is_some was.entry.view) home) s ne) ∙ h in
          let other : r.col ≢ seat.col = λ e. ne (sound.cols.apart s x.session r.col (ap (option_map (λ z. z.col)) was') (ap (option_map (λ z. z.col)) home_is ∙ ap Some (sym same_col ∙ sym e))) in
          let absent : Contains (list_in k.pool.cols r.col) was.node → ⊥ = λ m. other (one_value (sym (sound.seats.rings.cols.only r.col was.node m) ∙ ap (option_map (λ z. z.col)) seat_at)) in
          sound.lengths s r was' ∙ ap length (sym (col_list-unlinked k.pool was.node seat sound.seats.rings seat_at r.col ∙ without-absent was.node (list_in k.pool.cols r.col) absent))

  cols : AreApart (λ s. option_map (λ r. r.col) (get sessions s)) p.cols
  cols =
      apart_less (col_at k) (λ s. option_map (λ r. r.col) (get sessions s)) k.pool.cols p.cols sound.cols (λ s c h. sym (same_of (λ r. r.col) refl s) ∙ h)
      (λ s c h there. col_stays-unlinked k.pool was.node seat c there)

  cols_kept : (s : SessionNo) → option_map (λ r. r.col) (get sessions s) ≡ col_at k s
  cols_kept = same_of (λ r. r.col) refl

  fronts : AreInFront p.nodes p.cols after sessions
  fronts = fronts_gone k sound x was at home home_is seat seat_at

  -- the session's record counts it, and it is counted as attached
  pub attached_size : is_some was.entry.view ≡ true → 0 < home.attached
  attached_size stood = attached_some k sound x was at home home_is stood

  -- an entry that stood on no body
  module _ (loose : was.entry.view ≡ None) where
    rows_same : (a : Place) → row_at (left_stock k.attached) a ≡ row_at k a
    rows_same (Loose s) = same_of (λ r. r.row) refl s
    rows_same (On c) = refl

    not_on : (c : BodyName) → stands_on c (x, was.entry) ≡ false
    not_on c = ap (λ o. given (option_map (body was.entry.pid) o) false (same_body c)) loose

    pub loose_sound : IsSound (left_stock k.attached)
    loose_sound = record {
      seats = seats_alike p (spots_in after) (spots_in after) (row_at k) (row_at (left_stock k.attached)) (col_at k) (col_at (left_stock k.attached)) seats1 (λ y. refl) (λ y spot h. rows_same spot.place) (λ y spot h. same_of (λ r. r.col) refl y.session);
      rows = apart_less (row_at k) (row_at (left_stock k.attached)) k.pool.rows p.rows sound.rows (λ a r h. sym (rows_same a) ∙ h) (λ a r h there. stay r there);
      cols = cols;
      names = names;
      numbers = numbers;
      counts = record {
        sessions = sizes;
        bodies = λ c n h. omega (arith, sound.counts.bodies c n h, one_gone (stands_on c), ap weight (not_on c));
        some = sound.counts.some;
        all = omega (arith, sound.counts.all, one_gone is_attached, ap (λ o. weight (is_some o)) loose);
      };
      lengths = lengths;
      fronts = fronts;
    }

    pub loose_erased : IsErased (meaning_of k) (meaning_of (left_stock k.attached)) x
    loose_erased = record { lasts = lasts_is; entries = plain_is; bodies = λ c value h. h }

  -- an entry that stood on a body
  module _ (v : View) (is : was.entry.view ≡ Some v) where
    abbrev b : BodyName
    b = body was.entry.pid v

    place_was : place_of x was.entry ≡ On b
    place_was = ap (λ o. given o (Loose x.session) (λ w. On (body was.entry.pid w))) is

    stood : stands_on b (x, was.entry) ≡ true
    stood = on_told x was.entry b place_was

    here : Has (get k.bodies b)
    here = body_there k sound x was at b place_was

    load : (here.value.place.entries ≡ count (stands_on b) (plain k.entries)) × (0 < here.value.place.entries)
    load = load_on k sound b here.value here.is

    fewer : count (stands_on b) (plain after) + 1 ≡ count (stands_on b) (plain k.entries)
    fewer = omega (arith, one_gone (stands_on b), ap weight stood)

    nobody : here.value.place.entries ≡ 1 → (y : Slot) (spot : Spot) → spots_in after y ≡ Some spot → spot.place ≢ On b
    nobody one y spot s on =
        let h = has_map (spot_of y) (get after y) spot s in
        let same : place_of y h.value.entry ≡ On b = ap (λ z. z.place) (one_value (sym (ap (option_map (spot_of y)) h.is) ∙ s)) ∙ on in
        let more = count_some slot_key (stands_on b) (plain after) y h.value.entry (get_each (λ r. r.entry) after y ∙ ap (option_map (λ r. r.entry)) h.is) (on_told y h.value.entry b same) in
        absurd (omega (arith, more, fewer, load.0, one))

    pub some_attached : 0 < k.attached
    some_attached = omega (arith, count_some slot_key is_attached (plain k.entries) x was.entry old (ap is_some is), sound.counts.all)

    row_b : row_at k (On b) ≡ Some here.value.place.row
    row_b = ap (option_map (λ r. r.place.row)) here.is

    pub lower_body : IsSomeAnd (get k.bodies b) (λ r. (0 < r.place.entries) × (r.place.entries ≡ 1 → get p.rows r.place.row ≡ Some []))
    lower_body =
        subst (λ o. IsSomeAnd o (λ r. (0 < r.place.entries) × (r.place.entries ≡ 1 → get p.rows r.place.row ≡ Some []))) (sym here.is)
        (load.1, λ one. bare_row p (spots_in after) (row_at k) (col_at k) seats1 sound.rows.apart (On b) here.value.place.row row_b (stay here.value.place.row (sound.rows.there (On b) here.value.place.row row_b)) (nobody one))

    module _ (n : Stock) (lowered : IsLowered (left_stock (k.attached - 1)) n b) where
      f : IsFewer (left_stock (k.attached - 1)) n b here.value
      f = subst (λ o. IsSomeAnd o (IsFewer (left_stock (k.attached - 1)) n b)) here.is lowered

      cols_n : (s : SessionNo) → col_at n s ≡ col_at k s
      cols_n s = ap (λ t. option_map (λ r. r.col) (get t s)) f.sessions ∙ same_of (λ r. r.col) refl s

      pub parted_sound : IsSound n
      parted_sound = record {
        seats =
            seats_alike n.pool (spots_in after) (spot_at n) (row_at k) (row_at n) (col_at k) (col_at n) (seats_kept p n.pool (spots_in after) (row_at k) (col_at k) seats1 f.nodes f.rings) (λ y. ap (λ t. spots_in t y) f.entries)
            (rows_down k sound b here.value here.is p after sessions objects (k.attached - 1) (same_of (λ r. r.row) refl) stay nobody n f) (λ y spot h. cols_n y.session);
        rows = rows_parted k sound b here.value here.is p after sessions objects (k.attached - 1) (same_of (λ r. r.row) refl) stay nobody n f;
        cols = subst (λ t. AreApart (col_at n) t) (sym f.cols) (apart_less (λ s. option_map (λ r. r.col) (get sessions s)) (col_at n) p.cols p.cols cols (λ s c h. ap (λ t. option_map (λ r. r.col) (get t s)) (sym f.sessions) ∙ h) (λ s c h there. there));
        names = subst (λ t. AreNamed (pid_at n) (get t)) (sym f.objects) (subst (λ t. AreNamed (λ y. option_map (λ r. r.entry.pid) (get t y)) (get objects)) (sym f.entries) names);
        numbers = subst (λ E. AreNumbered E (meaning_of n).lasts) (ap plain (sym f.entries)) (subst (λ t. AreNumbered (plain after) (each (λ r. r.last) t)) (sym f.sessions) numbers);
        counts =
            subst (λ E. AreCounted E (size_at n) (load_at n) n.attached) (ap plain (sym f.entries))
            (record {
              sessions = λ s c h. sizes s c (ap (λ t. option_map (λ r. r.entries) (get t s)) (sym f.sessions) ∙ h);
              bodies = λ c l h. (loads k sound b here.value here.is p after sessions objects (k.attached - 1) (same_of (λ r. r.row) refl) stay nobody n f fewer alike c l h).0;
              some = λ c l h. (loads k sound b here.value here.is p after sessions objects (k.attached - 1) (same_of (λ r. r.row) refl) stay nobody n f fewer alike c l h).1;
              all = omega (arith, sound.counts.all, one_gone is_attached, ap (λ o. weight (is_some o)) is, f.attached);
            });
        fronts =
            subst (λ t. AreInFront n.pool.nodes n.pool.cols t n.sessions) (sym f.entries)
            (subst (λ t. AreInFront n.pool.nodes n.pool.cols after t) (sym f.sessions) (subst (λ t. AreInFront t n.pool.cols after sessions) (sym f.nodes) (subst (λ t. AreInFront p.nodes t after sessions) (sym f.cols) fronts)));
        lengths = λ s r h. lengths s r (ap (λ t. get t s) (sym f.sessions) ∙ h) ∙ ap (λ t. length (list_in t r.col)) (sym f.cols);
      }
        where
          alike : (c : BodyName) → c ≢ b → count (stands_on c) (plain after) ≡ count (stands_on c) (plain k.entries)
          alike c ne = omega (arith, one_gone (stands_on c), ap weight (by (stands_on c (x, was.entry)) refl))
            where
              by : (t : Bool) → stands_on c (x, was.entry) ≡ t → t ≡ false
              by true on = absurd (ne (on_name (sym (on_found x was.entry c on) ∙ place_was)))
              by false on = refl

      pub parted_cols : KeepsCols k n
      parted_cols = cols_n

      pub parted_erased : IsErased (meaning_of k) (meaning_of n) x
      parted_erased = record { lasts = ap (each (λ r. r.last)) f.sessions ∙ lasts_is; entries = ap plain f.entries ∙ plain_is; bodies = keeps k sound b here.value here.is p after sessions objects (k.attached - 1) (same_of (λ r. r.row) refl) stay nobody n f }

-- ---- by the clauses of the calls

module _ (k : Stock) (sound : IsSound k) (x : Slot) (was : EntryRecord) (at : get k.entries x ≡ Some was) (home : SessionRecord) (home_is : get k.sessions x.session ≡ Some home)
    (mid : Pool Slot) (left : IsSomeAnd (get k.pool.nodes was.node) (λ seat. mid ≡ unlinked k.pool was.node seat)) (rings_mid : AreRings mid)
    (t1 : FinMap session_cmp SessionRecord) (e1 : t1 ≡ insert k.sessions x.session (without_one (is_some was.entry.view) home)) (t2 : FinMap slot_cmp EntryRecord) (e2 : t2 ≡ remove k.entries x)
    (t3 : FinMap object_cmp ℕ) (e3 : t3 ≡ remove k.objects (object x.session was.entry.pid)) where
  w : Was k.pool mid was.node left (node_there k sound x was at)
  w = unlinked_was k.pool mid was.node left (node_there k sound x was at)

  rings : AreRings (unlinked k.pool was.node w.seat)
  rings = subst AreRings w.is rings_mid

  abbrev stock : ℕ → Stock
  stock n = record { pool = mid; sessions = t1; entries = t2; objects = t3; bodies = k.bodies; attached = n }

  stock_is : (n : ℕ) → stock n ≡ left_stock k sound x was at home home_is w.seat w.at rings n
  stock_is n = λ i. record { pool = w.is i; sessions = e1 i; entries = e2 i; objects = e3 i; bodies = k.bodies; attached = n }

  pub has_size : 0 < home.entries
  has_size = size_some k sound x was at home home_is w.seat w.at rings

  pub has_attached : is_some was.entry.view ≡ true → 0 < home.attached
  has_attached = attached_size k sound x was at home home_is w.seat w.at rings

  module _ (loose : was.entry.view ≡ None) where
    pub told_loose_sound : IsSound (stock k.attached)
    told_loose_sound = subst IsSound (sym (stock_is k.attached)) (loose_sound k sound x was at home home_is w.seat w.at rings loose)

    pub told_loose_erased : IsErased (meaning_of k) (meaning_of (stock k.attached)) x
    told_loose_erased = subst (λ n. IsErased (meaning_of k) (meaning_of n) x) (sym (stock_is k.attached)) (loose_erased k sound x was at home home_is w.seat w.at rings loose)

  pub told_cols : (n : ℕ) → KeepsCols k (stock n)
  told_cols n s = ap (λ t. option_map (λ r. r.col) (get t s)) e1 ∙ cols_kept k sound x was at home home_is w.seat w.at rings s

  module _ (v : View) (is : was.entry.view ≡ Some v) where
    pub told_attached : 0 < k.attached
    told_attached = some_attached k sound x was at home home_is w.seat w.at rings v is

    pub told_body : IsSomeAnd (get k.bodies (body was.entry.pid v)) (λ r. (0 < r.place.entries) × (r.place.entries ≡ 1 → get mid.rows r.place.row ≡ Some []))
    told_body =
        subst (λ (q : Pool Slot). IsSomeAnd (get k.bodies (body was.entry.pid v)) (λ r. (0 < r.place.entries) × (r.place.entries ≡ 1 → get q.rows r.place.row ≡ Some []))) (sym w.is)
        (lower_body k sound x was at home home_is w.seat w.at rings v is)

    module _ (n : Stock) (lowered : IsLowered (stock (k.attached - 1)) n (body was.entry.pid v)) where
      lowered_is : IsLowered (left_stock k sound x was at home home_is w.seat w.at rings (k.attached - 1)) n (body was.entry.pid v)
      lowered_is = subst (λ s. IsLowered s n (body was.entry.pid v)) (stock_is (k.attached - 1)) lowered

      pub told_sound : IsSound n
      told_sound = parted_sound k sound x was at home home_is w.seat w.at rings v is n lowered_is

      pub told_parted_cols : KeepsCols k n
      told_parted_cols = parted_cols k sound x was at home home_is w.seat w.at rings v is n lowered_is

      pub told_erased : IsErased (meaning_of k) (meaning_of n) x
      told_erased = parted_erased k sound x was at home home_is w.seat w.at rings v is n lowered_is
