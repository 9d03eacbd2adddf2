-- What is stored after an entry came to stand on a body.
use Rattle.std.proofs.Common.{ℕ, ◌≡◌, ◌≢◌, ◌⊎◌, inl, inr, ⊎_elim, ◌<◌, ◌≤◌, ◌+◌, cond, List, Bool, true, false, Option, Some, None, IsSome, refl, sym, ap, ◌∙◌, subst, arith}
use Rattle.std.specs.Prelude.{length, is_some}
use Rattle.std.specs.Option.{option_map}
use Rattle.std.specs.FinMap.{FinMap, get, insert}
use Rattle.pss_base.specs.declared.session.SessionNo.{SessionNo}
use Rattle.pss_machine.specs.declared.session.View.{View}
use Rattle.type_layout.specs.Schemas.{given}
use Rattle.link_pool.specs.Meaning.{Meaning as Pool, AreRings}
use Rattle.link_pool.specs.declared.names.Row.{Row}
use Rattle.link_pool.specs.declared.names.Col.{Col}
use Rattle.link_pool.specs.declared.names.Node.{Node}
use Rattle.link_pool.specs.Rings.{list_in}
use Rattle.incarnations.specs.declared.names.Slot.{Slot}
use Rattle.incarnations.specs.declared.names.BodyName.{BodyName}
use Rattle.incarnations.specs.declared.names.BodyRecord.{BodyRecord}
use Rattle.incarnations.specs.declared.names.Entry.{Entry}
use Rattle.incarnations.specs.declared.names.EntryRecord.{EntryRecord}
use Rattle.incarnations.specs.declared.names.SessionRecord.{SessionRecord}
use Rattle.incarnations.specs.declared.stock.Stock.{Stock}
use Rattle.incarnations.specs.Keys.{slot_cmp, session_cmp}
use Rattle.incarnations.specs.Records.{with_attached}
use Rattle.recent_table.specs.Maps.{count}
use Rattle.incarnations.specs.Meaning.{stands_on, is_of, is_attached, body, same_body, with_view}
use Rattle.incarnations.specs.Stock.{Place, Loose, On, Spot, spots_in, spot_at, row_at, col_at, size_at, load_at, AreSeated, AreApart, AreCounted, AreFirst, is_standing, IsInFront, AreInFront, IsSound, First, IsMoved}
use Rattle.recent_table.proofs.Maps.{no_value, one_value, same_or_apart, insert_here, insert_apart, weight, count_set, count_within, len_each}
use Rattle.incarnations.proofs.Keys.{slot_key, body_key, body_self, body_told}
use Rattle.std.specs.FinMap as finite
use Rattle.std.specs.FinMap.{len-insert}
use Rattle.incarnations.specs.Keys.{body_cmp}
use Rattle.incarnations.proofs.Loosened.{count_alike}
use Rattle.incarnations.proofs.Fronts.{fronts_stood}
use Rattle.incarnations.proofs.Seats.{row_key, seats_alike, seats_kept}
use Rattle.incarnations.proofs.Places.{rows_stay}
use Rattle.incarnations.proofs.Named.{apart_less}
use Rattle.incarnations.proofs.Sets.{some, has_map, plain, entry_is, seats_set, plain_set, names_set, cols_set, lengths_set, numbers_set, same_of, load_on}

pub some_none : {A B : Type 0} (o : Option A) → IsSome o → o ≡ None → B
some_none None h e = absurd (cc)
some_none (Some v) h e = no_value v (sym e)

-- ---- other rows

-- the same nodes in a session's column
pub front_alike : (k : Stock) → IsSound k → (q : Pool Slot) → q.nodes ≡ k.pool.nodes → (s : SessionNo) (r : SessionRecord) → get k.sessions s ≡ Some r → list_in q.cols r.col ≡ list_in k.pool.cols r.col → IsInFront q.nodes q.cols k.entries s r
front_alike k sound q nodes s r h list =
    let f = sound.fronts s r h in
    record {
      first = subst (λ t. AreFirst (is_standing t k.entries) r.attached (list_in q.cols r.col)) (sym nodes) (subst (λ l. AreFirst (is_standing k.pool.nodes k.entries) r.attached l) (sym list) f.first);
      counted = f.counted;
    }

-- the same nodes, and the rows that are used
module _ (k : Stock) (sound : IsSound k) (q : Pool Slot) (nodes : q.nodes ≡ k.pool.nodes) (cols : q.cols ≡ k.pool.cols) (stay : (a : Place) (r : Row) → row_at k a ≡ Some r → IsSome (get k.pool.rows r) → IsSome (get q.rows r)) (rings : AreRings q) where
  abbrev pub with_pool : Stock
  with_pool = record { pool = q; sessions = k.sessions; entries = k.entries; objects = k.objects; bodies = k.bodies; attached = k.attached }

  pub pool_sound : IsSound with_pool
  pool_sound = record {
    seats = seats_kept k.pool q (spot_at k) (row_at k) (col_at k) sound.seats nodes rings;
    rows = apart_less (row_at k) (row_at k) k.pool.rows q.rows sound.rows (λ a r h. h) stay;
    cols = subst (λ t. AreApart (col_at k) t) (sym cols) sound.cols;
    names = sound.names;
    numbers = sound.numbers;
    counts = sound.counts;
    lengths = λ s r h. sound.lengths s r h ∙ ap (λ t. length (list_in t r.col)) (sym cols);
    fronts = subst (λ t. AreInFront t q.cols k.entries k.sessions) (sym nodes) (subst (λ t. AreInFront k.pool.nodes t k.entries k.sessions) (sym cols) sound.fronts);
  }

-- the same nodes, the rows that are used, and the same nodes in each column
module _ (k : Stock) (sound : IsSound k) (q : Pool Slot) (nodes : q.nodes ≡ k.pool.nodes) (stay : (a : Place) (r : Row) → row_at k a ≡ Some r → IsSome (get k.pool.rows r) → IsSome (get q.rows r))
    (cols : (s : SessionNo) (c : Col) → col_at k s ≡ Some c → IsSome (get k.pool.cols c) → IsSome (get q.cols c)) (lists : (s : SessionNo) (c : Col) → col_at k s ≡ Some c → list_in q.cols c ≡ list_in k.pool.cols c) (rings : AreRings q) where
  pub pool_alike : IsSound (record { pool = q; sessions = k.sessions; entries = k.entries; objects = k.objects; bodies = k.bodies; attached = k.attached })
  pool_alike = record {
    seats = seats_kept k.pool q (spot_at k) (row_at k) (col_at k) sound.seats nodes rings;
    rows = apart_less (row_at k) (row_at k) k.pool.rows q.rows sound.rows (λ a r h. h) stay;
    cols = apart_less (col_at k) (col_at k) k.pool.cols q.cols sound.cols (λ a r h. h) cols;
    names = sound.names;
    numbers = sound.numbers;
    counts = sound.counts;
    lengths = λ s r h. sound.lengths s r h ∙ ap length (sym (lists s r.col (ap (option_map (λ z. z.col)) h)));
    fronts = λ s r h. front_alike k sound q nodes s r h (lists s r.col (ap (option_map (λ z. z.col)) h));
  }

-- a row that comes is nobody's
pub unused : (k : Stock) → IsSound k → (row : Row) → get k.pool.rows row ≡ None → (a : Place) → row_at k a ≢ Some row
unused k sound row free a at = some_none (get k.pool.rows row) (sound.rows.there a row at) free

pub stay_inserted : (k : Stock) (row : Row) (nodes : List Node) (r : Row) → IsSome (get k.pool.rows r) → IsSome (get (insert k.pool.rows row nodes) r)
stay_inserted k row nodes r there =
    ⊎_elim (λ e. some (get (insert k.pool.rows row nodes) r) (ap (get (insert k.pool.rows row nodes)) e ∙ insert_here row_key k.pool.rows row nodes)) (λ ne. subst IsSome (sym (insert_apart row_key k.pool.rows row nodes r ne)) there)
    (same_or_apart row_key r row)

-- ---- an entry comes to stand on a body

module _ (k : Stock) (sound : IsSound k) (x : Slot) (was : EntryRecord) (at : get k.entries x ≡ Some was) (loose : was.entry.view ≡ None) (home : SessionRecord) (home_is : get k.sessions x.session ≡ Some home) (v : View) (row : Row) (p : Pool Slot) (again : Node)
    (m : IsMoved First k.pool p was.node row again) (rings : AreRings p) (sessions : FinMap session_cmp SessionRecord) (sessions_is : sessions ≡ insert k.sessions x.session (with_attached (home.attached + 1) home))
    (after : FinMap slot_cmp EntryRecord) (is : after ≡ insert k.entries x (record { entry = with_view (Some v) was.entry; node = again }))
    (bodies : FinMap body_cmp BodyRecord) (new : BodyRecord) (here : get bodies (body was.entry.pid v) ≡ Some new) (own : new.place.row ≡ row) (more : new.place.entries ≡ count (stands_on (body was.entry.pid v)) (plain k.entries) + 1)
    (others : (c : BodyName) → c ≢ body was.entry.pid v → get bodies c ≡ get k.bodies c) (mine : (a : Place) → row_at k a ≡ Some row → a ≡ On (body was.entry.pid v)) (before : (r : BodyRecord) → get k.bodies (body was.entry.pid v) ≡ Some r → r.place.row ≡ row)
    (there : IsSome (get k.pool.rows row)) where
  abbrev e : Entry
  e = with_view (Some v) was.entry

  abbrev b : BodyName
  b = body was.entry.pid v

  abbrev pub standing : Stock
  standing = record { pool = p; sessions = sessions; entries = after; objects = k.objects; bodies = bodies; attached = k.attached + 1 }

  abbrev n : Stock
  n = standing

  old : get (plain k.entries) x ≡ Some was.entry
  old = entry_is k sound x was at

  alike : {X : Type 0} (f : SessionRecord → X) → f (with_attached (home.attached + 1) home) ≡ f home → (s : SessionNo) → option_map f (get sessions s) ≡ option_map f (get k.sessions s)
  alike = same_of k sound x was at First p row again m rings e refl n is home home_is (home.attached + 1) sessions_is

  pub plain_is : plain after ≡ insert (plain k.entries) x e
  plain_is = ap plain is ∙ plain_set k sound x was at First p row again m rings e refl

  row_b : row_at n (On b) ≡ Some row
  row_b = ap (option_map (λ r. r.place.row)) here ∙ ap Some own

  rows_up : (y : Slot) (spot : Spot) → spot_at k y ≡ Some spot → row_at n spot.place ≡ row_at k spot.place
  rows_up y spot s = by spot.place refl
    where
      by : (place : Place) → spot.place ≡ place → row_at n place ≡ row_at k place
      by (Loose s') on = alike (λ r. r.row) refl s'
      by (On c) on =
          let t = sound.seats.seated y spot s in
          let h = has_map (λ r. r.place.row) (get k.bodies c) t.row (ap (row_at k) (sym on) ∙ t.in_row) in
          ⊎_elim
          (λ same. ap (λ z. row_at n (On z)) same ∙ row_b ∙ ap Some (sym (before h.value (ap (get k.bodies) (sym same) ∙ h.is))) ∙ sym (ap (option_map (λ r. r.place.row)) h.is))
          (λ ne. ap (option_map (λ r. r.place.row)) (others c ne)) (same_or_apart body_key c b)

  -- a place that has a row had it, or is the body
  rows_from : (a : Place) (r : Row) → row_at n a ≡ Some r → (row_at k a ≡ Some r) ⊎ ((a ≡ On b) × (r ≡ row))
  rows_from (Loose s) r h = inl (sym (alike (λ z. z.row) refl s) ∙ h)
  rows_from (On c) r h =
      ⊎_elim (λ same. inr (ap On same, one_value (sym h ∙ ap (λ z. row_at n (On z)) same ∙ row_b))) (λ ne. inl (sym (ap (option_map (λ z. z.place.row)) (others c ne)) ∙ h)) (same_or_apart body_key c b)

  stay : (r : Row) → IsSome (get k.pool.rows r) → IsSome (get p.rows r)
  stay = rows_stay First k.pool p was.node row again sound.seats.rings m

  rows : AreApart (row_at n) p.rows
  rows = record {
    apart = λ x' y r h h'. by x' y r (rows_from x' r h) (rows_from y r h');
    there = λ a r h. ⊎_elim (λ o. stay r (sound.rows.there a r o)) (λ g. subst (λ z. IsSome (get p.rows z)) (sym g.1) (stay row there)) (rows_from a r h);
  }
    where
      by : (x' y : Place) (r : Row) → (row_at k x' ≡ Some r) ⊎ ((x' ≡ On b) × (r ≡ row)) → (row_at k y ≡ Some r) ⊎ ((y ≡ On b) × (r ≡ row)) → x' ≡ y
      by x' y r (inl o) (inl o') = sound.rows.apart x' y r o o'
      by x' y r (inl o) (inr g) = mine x' (o ∙ ap Some g.1) ∙ sym g.0
      by x' y r (inr g) (inl o) = g.0 ∙ sym (mine y (o ∙ ap Some g.1))
      by x' y r (inr g) (inr g') = g.0 ∙ sym g'.0

  not_before : (c : BodyName) → stands_on c (x, was.entry) ≡ false
  not_before c = ap (λ o. given (option_map (body was.entry.pid) o) false (same_body c)) loose

  one_more : count (stands_on b) (insert (plain k.entries) x e) ≡ count (stands_on b) (plain k.entries) + 1
  one_more = omega (arith, count_set slot_key (stands_on b) (plain k.entries) x was.entry e old, ap weight (not_before b), ap weight (body_self b))

  one_attached : count is_attached (insert (plain k.entries) x e) ≡ count is_attached (plain k.entries) + 1
  one_attached =
      let c : count is_attached (insert (plain k.entries) x e) + weight (is_attached (x, was.entry)) ≡ count is_attached (plain k.entries) + 1 = count_set slot_key is_attached (plain k.entries) x was.entry e old in
      omega (arith, c, ap (λ o. weight (is_some o)) loose)

  loads : (c : BodyName) (l : ℕ) → load_at n c ≡ Some l → (c ≡ b) ⊎ (c ≢ b) → (l ≡ count (stands_on c) (insert (plain k.entries) x e)) × (0 < l)
  loads c l h (inl same) =
      let is' : new.place.entries ≡ l = one_value (sym (ap (option_map (λ z. z.place.entries)) (ap (get bodies) same ∙ here)) ∙ h) in
      subst (λ z. (l ≡ count (stands_on z) (insert (plain k.entries) x e)) × (0 < l)) (sym same) (omega (arith, is', more, one_more), omega (arith, is', more))
  loads c l h (inr ne) =
      let h' : load_at k c ≡ Some l = sym (ap (option_map (λ z. z.place.entries)) (others c ne)) ∙ h in
      (sound.counts.bodies c l h' ∙ sym (count_alike (stands_on c) (plain k.entries) x was.entry e old (by (stands_on c (x, e)) refl ∙ sym (not_before c))), sound.counts.some c l h')
    where
      by : (t : Bool) → same_body c b ≡ t → t ≡ false
      by true on = absurd (ne (body_told c b on))
      by false on = refl

  pub standing_sound : IsSound standing
  standing_sound = record {
    seats =
        seats_alike p (spots_in after) (spots_in after) (row_at n) (row_at n) (col_at k) (col_at n)
        (subst (λ t. AreSeated p (spots_in t) (row_at n) (col_at k)) (sym is) (seats_set k sound x was at First p row again m rings e refl (row_at n) rows_up row_b)) (λ y. refl) (λ y spot h. refl) (λ y spot h. alike (λ r. r.col) refl y.session);
    rows = rows;
    cols = cols_set k sound x was at First p row again m rings e refl n is home home_is (home.attached + 1) sessions_is refl;
    names = names_set k sound x was at First p row again m rings e refl n is home home_is (home.attached + 1) sessions_is refl;
    numbers = numbers_set k sound x was at First p row again m rings e refl n is home home_is (home.attached + 1) sessions_is (sound.numbers.counts x was.entry old);
    counts =
        subst (λ E. AreCounted E (size_at n) (load_at n) (k.attached + 1)) (sym plain_is)
        (record {
          sessions = λ s c h. sound.counts.sessions s c (sym (alike (λ r. r.entries) refl s) ∙ h) ∙ sym (count_alike (is_of s) (plain k.entries) x was.entry e old refl);
          bodies = λ c l h. (loads c l h (same_or_apart body_key c b)).0;
          some = λ c l h. (loads c l h (same_or_apart body_key c b)).1;
          all = omega (arith, one_attached, sound.counts.all);
        });
    lengths = lengths_set k sound x was at First p row again m rings e refl n is home home_is (home.attached + 1) sessions_is refl;
    fronts =
        subst (λ t. AreInFront p.nodes p.cols t sessions) (sym is)
        (subst (λ t. AreInFront p.nodes p.cols (insert k.entries x (record { entry = e; node = again })) t) (sym sessions_is) (fronts_stood k sound x was at home home_is p row again m rings e refl (ap is_some loose) refl));
  }

-- ---- how many there may be

-- an entry that is another is one of all
pub count_of_all : (test : Slot × Entry → Bool) (E : FinMap slot_cmp Entry) (x : Slot) (old new : Entry) → get E x ≡ Some old → count test (insert E x new) ≤ finite.len E
count_of_all test E x old new at =
    omega (arith, count_within slot_key test (insert E x new), len-insert slot_key.total E x new ∙ ap (λ o. cond (is_some o) (finite.len E) (finite.len E + 1)) at)

-- so one more may be counted
module _ (k : Stock) (sound : IsSound k) (x : Slot) (was : EntryRecord) (at : get k.entries x ≡ Some was) (loose : was.entry.view ≡ None) (v : View) where
  pub room_attached : k.attached + 1 ≤ finite.len k.entries
  room_attached =
      let E = plain k.entries in
      let c : count is_attached (insert E x (with_view (Some v) was.entry)) + weight (is_attached (x, was.entry)) ≡ count is_attached E + 1 = count_set slot_key is_attached E x was.entry (with_view (Some v) was.entry) (entry_is k sound x was at) in
      omega (arith, c, ap (λ o. weight (is_some o)) loose, sound.counts.all, count_of_all is_attached E x was.entry (with_view (Some v) was.entry) (entry_is k sound x was at), len_each (λ r. r.entry) k.entries)

  pub room_on : (r : BodyRecord) → get k.bodies (body was.entry.pid v) ≡ Some r → r.place.entries + 1 ≤ finite.len k.entries
  room_on r is =
      let E = plain k.entries in
      let b = body was.entry.pid v in
      let e = with_view (Some v) was.entry in
      let before : stands_on b (x, was.entry) ≡ false = ap (λ o. given (option_map (body was.entry.pid) o) false (same_body b)) loose in
      omega (arith, count_set slot_key (stands_on b) E x was.entry e (entry_is k sound x was at), ap weight before, ap weight (body_self b), (load_on k sound b r is).0, count_of_all (stands_on b) E x was.entry e (entry_is k sound x was at), len_each (λ r. r.entry) k.entries)
