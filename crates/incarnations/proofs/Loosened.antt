-- What is stored after an entry left its body.
use Rattle.std.proofs.Common.{ℕ, ◌≡◌, ◌≢◌, ◌<◌, ◌+◌, ◌-◌, [], Bool, true, false, Some, None, IsSome, refl, sym, ap, ◌∙◌, subst, arith}
use Rattle.std.specs.Prelude.{IsSomeAnd, is_some}
use Rattle.std.specs.Option.{option_map}
use Rattle.std.specs.FinMap.{FinMap, get, insert}
use Rattle.pss_base.specs.declared.session.SessionNo.{SessionNo}
use Rattle.pss_machine.specs.declared.session.View.{View}
use Rattle.type_layout.specs.Schemas.{given}
use Rattle.link_pool.specs.Meaning.{Meaning as Pool, AreRings}
use Rattle.link_pool.specs.declared.names.Row.{Row}
use Rattle.link_pool.specs.declared.names.Node.{Node}
use Rattle.link_pool.specs.Rings.{list_in}
use Rattle.incarnations.specs.declared.names.Slot.{Slot}
use Rattle.incarnations.specs.declared.names.BodyName.{BodyName}
use Rattle.incarnations.specs.declared.names.Entry.{Entry}
use Rattle.incarnations.specs.declared.names.EntryRecord.{EntryRecord}
use Rattle.incarnations.specs.declared.names.SessionRecord.{SessionRecord}
use Rattle.incarnations.specs.declared.stock.Stock.{Stock}
use Rattle.incarnations.specs.Keys.{slot_cmp, session_cmp}
use Rattle.incarnations.specs.Records.{with_attached}
use Rattle.recent_table.specs.Maps.{count}
use Rattle.incarnations.specs.Meaning.{stands_on, is_of, is_attached, body, with_view}
use Rattle.incarnations.specs.Stock.{Loose, On, place_of, Spot, spot_of, spots_in, spot_at, row_at, col_at, size_at, load_at, meaning_of, AreSeated, AreCounted, AreInFront, IsSound, Last, IsMoved, IsFewer, IsLowered, IsSet, IsPassed, HasRun, KeepsRows, KeepsCols}
use Rattle.recent_table.proofs.Maps.{one_value, get_each, weight, count_set, count_some, at_same}
use Rattle.incarnations.proofs.Keys.{slot_key, session_key}
use Rattle.incarnations.proofs.Seats.{seats_alike, seats_kept}
use Rattle.incarnations.proofs.Places.{on_told, on_found, bare_row, rows_stay, moved_passed}
use Rattle.incarnations.proofs.Fronts.{attached_some, fronts_left}
use Rattle.incarnations.proofs.Parted.{rows_down, rows_less, rows_parted, loads, keeps}
use Rattle.incarnations.proofs.Sets.{Has, has_map, plain, entry_is, body_there, seats_set, plain_set, plain_after, names_set, cols_set, lengths_set, lasts_same, numbers_set, load_on}

on_name : {b c : BodyName} → On b ≡ On c → b ≡ c
on_name e = cc

-- the same nodes in the same columns
pub passed_kept : (old p q : Pool Slot) (node : Node) → q.nodes ≡ p.nodes → q.cols ≡ p.cols → IsPassed old p node → IsPassed old q node
passed_kept old p q node nodes cols t = record {
  items = λ y ne h. ap (λ n. option_map (λ z. z.item) (get n y)) nodes ∙ t.items y ne h;
  runs = λ c front run list. subst (λ l. HasRun run (list_in l c)) (sym cols) (t.runs c front run list);
}

-- how many entries pass a test that two entries for one slot pass alike
pub count_alike : (test : Slot × Entry → Bool) (E : FinMap slot_cmp Entry) (x : Slot) (old new : Entry) → get E x ≡ Some old → test (x, new) ≡ test (x, old) → count test (insert E x new) ≡ count test E
count_alike test E x old new at same = omega (arith, count_set slot_key test E x old new at, ap weight same)

module _ (k : Stock) (sound : IsSound k) (x : Slot) (was : EntryRecord) (at : get k.entries x ≡ Some was) (v : View) (is : was.entry.view ≡ Some v) (home : SessionRecord) (home_is : get k.sessions x.session ≡ Some home)
    (p : Pool Slot) (again : Node) (m : IsMoved Last k.pool p was.node home.row again) (rings : AreRings p) where
  abbrev e : Entry
  e = with_view None was.entry

  abbrev b : BodyName
  b = body was.entry.pid v

  abbrev after : FinMap slot_cmp EntryRecord
  after = insert k.entries x (record { entry = e; node = again })

  abbrev sessions : FinMap session_cmp SessionRecord
  sessions = insert k.sessions x.session (with_attached (home.attached - 1) home)

  abbrev pub moved_stock : Stock
  moved_stock = record { pool = p; sessions = sessions; entries = after; objects = k.objects; bodies = k.bodies; attached = k.attached - 1 }

  same_of : {X : Type 0} (f : SessionRecord → X) → f (with_attached (home.attached - 1) home) ≡ f home → (s : SessionNo) → option_map f (get sessions s) ≡ option_map f (get k.sessions s)
  same_of f same s = at_same session_key f k.sessions x.session home (with_attached (home.attached - 1) home) home_is same s

  -- so many of the session's are attached
  pub some_in_session : 0 < home.attached
  some_in_session = attached_some k sound x was at home home_is (ap is_some is)

  place_was : place_of x was.entry ≡ On b
  place_was = ap (λ o. given o (Loose x.session) (λ w. On (body was.entry.pid w))) is

  stood : stands_on b (x, was.entry) ≡ true
  stood = on_told x was.entry b place_was

  here : Has (get k.bodies b)
  here = body_there k sound x was at b place_was

  load : (here.value.place.entries ≡ count (stands_on b) (plain k.entries)) × (0 < here.value.place.entries)
  load = load_on k sound b here.value here.is

  plain_is : plain after ≡ insert (plain k.entries) x e
  plain_is = plain_set k sound x was at Last p home.row again m rings e refl

  fewer : count (stands_on b) (plain after) + 1 ≡ count (stands_on b) (plain k.entries)
  fewer =
      let c : count (stands_on b) (insert (plain k.entries) x e) + weight (stands_on b (x, was.entry)) ≡ count (stands_on b) (plain k.entries) + 0 = count_set slot_key (stands_on b) (plain k.entries) x was.entry e (entry_is k sound x was at) in
      omega (arith, c, ap (count (stands_on b)) plain_is, ap weight stood)

  seats1 : AreSeated p (spots_in after) (row_at k) (col_at k)
  seats1 = seats_set k sound x was at Last p home.row again m rings e refl (row_at k) (λ y spot h. refl) (ap (option_map (λ r. r.row)) home_is)

  nobody : here.value.place.entries ≡ 1 → (y : Slot) (spot : Spot) → spots_in after y ≡ Some spot → spot.place ≢ On b
  nobody one y spot s on =
      let h = has_map (spot_of y) (get after y) spot s in
      let same : place_of y h.value.entry ≡ On b = ap (λ z. z.place) (one_value (sym (ap (option_map (spot_of y)) h.is) ∙ s)) ∙ on in
      let more = count_some slot_key (stands_on b) (plain after) y h.value.entry (get_each (λ r. r.entry) after y ∙ ap (option_map (λ r. r.entry)) h.is) (on_told y h.value.entry b same) in
      absurd (omega (arith, more, fewer, load.0, one))

  -- so many are attached
  pub some_attached : 0 < k.attached
  some_attached = omega (arith, count_some slot_key is_attached (plain k.entries) x was.entry (entry_is k sound x was at) (ap is_some is), sound.counts.all)

  row_b : row_at k (On b) ≡ Some here.value.place.row
  row_b = ap (option_map (λ r. r.place.row)) here.is

  pub lower_body : IsSomeAnd (get k.bodies b) (λ r. (0 < r.place.entries) × (r.place.entries ≡ 1 → get p.rows r.place.row ≡ Some []))
  lower_body =
      subst (λ o. IsSomeAnd o (λ r. (0 < r.place.entries) × (r.place.entries ≡ 1 → get p.rows r.place.row ≡ Some []))) (sym here.is) (
        load.1,
        λ one. bare_row p (spots_in after) (row_at k) (col_at k) seats1 sound.rows.apart (On b) here.value.place.row row_b
            (rows_stay Last k.pool p was.node home.row again sound.seats.rings m here.value.place.row (sound.rows.there (On b) here.value.place.row row_b)) (nobody one),
      )

  stay : (r : Row) → IsSome (get k.pool.rows r) → IsSome (get p.rows r)
  stay = rows_stay Last k.pool p was.node home.row again sound.seats.rings m

  module _ (n : Stock) (lowered : IsLowered moved_stock n b) where
    f : IsFewer moved_stock n b here.value
    f = subst (λ o. IsSomeAnd o (IsFewer moved_stock n b)) here.is lowered

    pub cols_after : KeepsCols k n
    cols_after s = ap (λ t. option_map (λ r. r.col) (get t s)) f.sessions ∙ same_of (λ r. r.col) refl s

    fronts : AreInFront n.pool.nodes n.pool.cols after n.sessions
    fronts =
        subst (λ t. AreInFront n.pool.nodes n.pool.cols after t) (sym f.sessions) (subst (λ t. AreInFront t n.pool.cols after sessions) (sym f.nodes) (subst (λ t. AreInFront p.nodes t after sessions) (sym f.cols) (fronts_left k sound x was at home home_is p home.row again m rings e refl (ap is_some is) refl)))

    counts : AreCounted (plain n.entries) (size_at n) (load_at n) n.attached
    counts =
        let entries : plain n.entries ≡ insert (plain k.entries) x e = ap plain f.entries ∙ plain_is in
        let old = entry_is k sound x was at in
        subst (λ E. AreCounted E (size_at n) (load_at n) n.attached) (sym entries)
        (record {
          sessions = λ s c h. sound.counts.sessions s c (sym (ap (λ t. option_map (λ r. r.entries) (get t s)) f.sessions ∙ same_of (λ r. r.entries) refl s) ∙ h) ∙ sym (count_alike (is_of s) (plain k.entries) x was.entry e old refl);
          bodies = λ c l h. (load_after c l h).0;
          some = λ c l h. (load_after c l h).1;
          all =
              let c : count is_attached (insert (plain k.entries) x e) + weight (is_attached (x, was.entry)) ≡ count is_attached (plain k.entries) + 0 = count_set slot_key is_attached (plain k.entries) x was.entry e old in
              omega (arith, c, ap (λ o. weight (is_some o)) is, sound.counts.all, f.attached);
        })
      where
        alike : (c : BodyName) → c ≢ b → count (stands_on c) (plain after) ≡ count (stands_on c) (plain k.entries)
        alike c ne = ap (count (stands_on c)) plain_is ∙ count_alike (stands_on c) (plain k.entries) x was.entry e (entry_is k sound x was at) (sym (by (stands_on c (x, was.entry)) refl))
          where
            by : (t : Bool) → stands_on c (x, was.entry) ≡ t → t ≡ false
            by true on = absurd (ne (on_name (sym (on_found x was.entry c on) ∙ place_was)))
            by false on = refl

        load_after : (c : BodyName) (l : ℕ) → load_at n c ≡ Some l → (l ≡ count (stands_on c) (insert (plain k.entries) x e)) × (0 < l)
        load_after c l h = subst (λ E. (l ≡ count (stands_on c) E) × (0 < l)) plain_is (loads k sound b here.value here.is p after sessions k.objects (k.attached - 1) (same_of (λ r. r.row) refl) stay nobody n f fewer alike c l h)

    pub sound_after : IsSound n
    sound_after = record {
      seats =
          seats_alike n.pool (spots_in after) (spot_at n) (row_at k) (row_at n) (col_at k) (col_at n) (seats_kept p n.pool (spots_in after) (row_at k) (col_at k) seats1 f.nodes f.rings) (λ y. ap (λ t. spots_in t y) f.entries) (rows_down k sound b here.value here.is p after sessions k.objects (k.attached - 1) (same_of (λ r. r.row) refl) stay nobody n f)
          (λ y spot h. cols_after y.session);
      rows = rows_parted k sound b here.value here.is p after sessions k.objects (k.attached - 1) (same_of (λ r. r.row) refl) stay nobody n f;
      cols = cols_set k sound x was at Last p home.row again m rings e refl n f.entries home home_is (home.attached - 1) f.sessions f.cols;
      names = names_set k sound x was at Last p home.row again m rings e refl n f.entries home home_is (home.attached - 1) f.sessions f.objects;
      numbers = numbers_set k sound x was at Last p home.row again m rings e refl n f.entries home home_is (home.attached - 1) f.sessions (sound.numbers.counts x was.entry (entry_is k sound x was at));
      counts = counts;
      fronts = subst (λ t. AreInFront n.pool.nodes n.pool.cols t n.sessions) (sym f.entries) fronts;
      lengths = lengths_set k sound x was at Last p home.row again m rings e refl n f.entries home home_is (home.attached - 1) f.sessions f.cols;
    }

    pub set_after : IsSet (meaning_of k) (meaning_of n) x e
    set_after = record {
      lasts = lasts_same k sound x was at Last p home.row again m rings e refl n f.entries home home_is (home.attached - 1) f.sessions;
      entries = plain_after k sound x was at Last p home.row again m rings e refl n f.entries home home_is (home.attached - 1) f.sessions;
      bodies = keeps k sound b here.value here.is p after sessions k.objects (k.attached - 1) (same_of (λ r. r.row) refl) stay nobody n f;
    }

    pub rows_after : KeepsRows k n
    rows_after c r h = rows_less k sound b here.value here.is p after sessions k.objects (k.attached - 1) (same_of (λ r. r.row) refl) stay nobody n f (On c) r h

    pub passed_after : IsPassed k.pool n.pool was.node
    passed_after = passed_kept k.pool p n.pool was.node f.nodes f.cols (moved_passed k.pool p was.node home.row again sound.seats.rings m)
