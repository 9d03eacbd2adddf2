-- Which nodes of a session stand first in its column, after an entry moved or went.
use Rattle.std.proofs.Common.{ℕ, suc, ◌≡◌, ◌≢◌, ⊎_elim, ◌<◌, ◌+◌, ◌-◌, List, [], ◌∷◌, ◌++◌, length, Bool, true, false, cond, not, Some, IsSome, refl, sym, ap, ◌∙◌, subst, arith}
use Rattle.std.specs.Prelude.{Contains, is_some, ◌&&◌}
use Rattle.std.specs.Option.{option_map, option_and_then}
use Rattle.std.specs.FinMap.{FinMap, get, insert, remove}
use Rattle.pss_base.specs.declared.session.SessionNo.{SessionNo}
use Rattle.type_layout.specs.Schemas.{given}
use Rattle.std.proofs.lemmas.Bool.{eq-eqb}
use Rattle.link_pool.specs.Names.{node_cmp, same_node}
use Rattle.link_pool.specs.Rings.{without, list_in}
use Rattle.link_pool.specs.Meaning.{Meaning as Pool, AreRings, col_in, unlinked}
use Rattle.link_pool.specs.declared.names.Row.{Row}
use Rattle.link_pool.specs.declared.names.Node.{Node}
use Rattle.link_pool.specs.declared.names.Seat.{Seat}
use Rattle.link_pool.proofs.NodeLists.{AreDistinct, IsSplit, same_node-false, without-split, without-absent, split_at}
use Rattle.link_pool.proofs.RingChanges.{col_list-unlinked, seat-unlinked_other}
use Rattle.incarnations.specs.declared.names.Slot.{Slot}
use Rattle.incarnations.specs.declared.names.Entry.{Entry}
use Rattle.incarnations.specs.declared.names.EntryRecord.{EntryRecord}
use Rattle.incarnations.specs.declared.names.SessionRecord.{SessionRecord}
use Rattle.incarnations.specs.declared.stock.Stock.{Stock}
use Rattle.incarnations.specs.Keys.{slot_cmp}
use Rattle.recent_table.specs.Maps.{count}
use Rattle.incarnations.specs.Records.{with_attached, without_one}
use Rattle.incarnations.specs.Meaning.{is_of, is_attached}
use Rattle.incarnations.specs.Stock.{IsSound, End, First, Last, put, IsMoved, AreFirst, is_standing, IsInFront, AreInFront}
use Rattle.recent_table.proofs.Maps.{one_value, same_or_apart, insert_here, insert_apart, remove_apart, weight, count_set, count_gone, each_remove}
use Rattle.incarnations.proofs.Keys.{slot_key, session_key, session_told}
use Rattle.incarnations.proofs.Seats.{node_key}
use Rattle.incarnations.proofs.Places.{list_own, list_other, seat_again, seat_stays}
use Rattle.incarnations.proofs.Sets.{some, has_map, plain, entry_is, seat_is, set, plain_set}
use Rattle.incarnations.proofs.FirstNodes.{Contains-cons, Contains-cons_cases, first_some, first_fewer, first_behind, first_before, first_out, others_out, first_alike}
use Rattle.incarnations.proofs.Freed.{is_of_self, of_node, entry_of_node}

without_more : (x z : Node) (zs : List Node) (y : Node) → (Contains (without x zs) y → Contains zs y × (y ≢ x)) → Contains (without x (z ∷ zs)) y → Contains (z ∷ zs) y × (y ≢ x)
without_more x z zs y rest m = ⊎_elim same other (same_or_apart node_key z x)
  where
    same : z ≡ x → Contains (z ∷ zs) y × (y ≢ x)
    same e =
        let h = rest (subst (λ t. Contains (cond (not t) (z ∷ without x zs) (without x zs)) y) (ap (λ w. same_node w x) e ∙ eq-eqb x.number x.number refl) m) in
        (Contains-cons z y zs h.0, h.1)

    other : z ≢ x → Contains (z ∷ zs) y × (y ≢ x)
    other ne =
        ⊎_elim (λ e. ((0, omega arith, e), λ e'. ne (e ∙ e'))) (λ r. let h = rest r in (Contains-cons z y zs h.0, h.1))
        (Contains-cons_cases z y (without x zs) (subst (λ t. Contains (cond (not t) (z ∷ without x zs) (without x zs)) y) (same_node-false z x ne) m))

-- a list without a node has its other nodes alone
without_has : (x : Node) (xs : List Node) (y : Node) → Contains (without x xs) y → Contains xs y × (y ≢ x)
without_has x [] y m = absurd (omega (arith, m.1))
without_has x (z ∷ zs) y m = without_more x z zs y (without_has x zs y) m

-- of a session, and on a body
abbrev pub is_front : SessionNo → Slot × Entry → Bool
is_front s e = is_of s e && is_attached e

weight_of : (s : SessionNo) (y : Slot) (e : Entry) → y.session ≡ s → weight (is_front s (y, e)) ≡ weight (is_some e.view)
weight_of s y e own = ap (λ t. weight (t && is_some e.view)) (is_of_self s y e own)

weight_other : (s : SessionNo) (y : Slot) (e : Entry) → s ≢ y.session → weight (is_front s (y, e)) ≡ 0
weight_other s y e ne = by (is_of s (y, e)) refl
  where
    by : (t : Bool) → is_of s (y, e) ≡ t → weight (t && is_some e.view) ≡ 0
    by true t = absurd (ne (sym (session_told y.session s t)))
    by false t = refl

-- an entry of a session, by its node
pub record IsOfSession (k : Stock) (s : SessionNo) (y : Node) : Type 0 where
  pub seat : Seat Slot
  pub at : get k.pool.nodes y ≡ Some seat
  pub own : seat.item.session ≡ s
  pub was : EntryRecord
  pub entry : get k.entries seat.item ≡ Some was
  pub node_is : was.node ≡ y

pub in_column : (k : Stock) → IsSound k → (s : SessionNo) (r : SessionRecord) → get k.sessions s ≡ Some r → (y : Node) → Contains (list_in k.pool.cols r.col) y → IsOfSession k s y
in_column k sound s r is y m =
    let home : col_in k.pool y ≡ Some r.col = sound.seats.rings.cols.only r.col y m in
    let h = has_map (λ z. z.col) (get k.pool.nodes y) r.col home in
    let t = of_node k sound y h.value h.is in
    let e = entry_of_node k sound y h.value h.is in
    record {
      seat = h.value;
      at = h.is;
      own = sound.cols.apart h.value.item.session s r.col (t.col_is ∙ sym (ap (option_map (λ z. z.col)) h.is) ∙ home) (ap (option_map (λ z. z.col)) is);
      was = e.was;
      entry = e.at;
      node_is = e.node_is;
    }

module _ (k : Stock) (sound : IsSound k) (x : Slot) (was : EntryRecord) (at : get k.entries x ≡ Some was) where
  -- ---- where the other nodes and entries stay

  module _ (nodes : FinMap node_cmp (Seat Slot)) (entries : FinMap slot_cmp EntryRecord) (nodes_stay : (y : Node) → y ≢ was.node → IsSome (get k.pool.nodes y) → get nodes y ≡ get k.pool.nodes y) (entries_stay : (z : Slot) → z ≢ x → get entries z ≡ get k.entries z)
      (s : SessionNo) (r : SessionRecord) (is : get k.sessions s ≡ Some r) where
    same_standing : (y : Node) → Contains (list_in k.pool.cols r.col) y → y ≢ was.node → is_standing nodes entries y ≡ is_standing k.pool.nodes k.entries y
    same_standing y m ne =
        let i = in_column k sound s r is y m in
        let other : i.seat.item ≢ x = λ e. ne (sym i.node_is ∙ ap (λ z. z.node) (one_value (sym i.entry ∙ ap (get k.entries) e ∙ at))) in
        let kept : get nodes y ≡ Some i.seat = nodes_stay y ne (some (get k.pool.nodes y) i.at) ∙ i.at in
        ap (λ o. given (option_and_then (λ (seat : Seat Slot). get entries seat.item) o) false (λ z. is_some z.entry.view)) kept
        ∙ ap (λ o. given o false (λ z. is_some z.entry.view)) (entries_stay i.seat.item other)
        ∙ sym (ap (λ o. given (option_and_then (λ (seat : Seat Slot). get k.entries seat.item) o) false (λ z. is_some z.entry.view)) i.at)

    first_without : (n : ℕ) → AreFirst (is_standing k.pool.nodes k.entries) n (without was.node (list_in k.pool.cols r.col)) → AreFirst (is_standing nodes entries) n (without was.node (list_in k.pool.cols r.col))
    first_without n h =
        first_alike (is_standing k.pool.nodes k.entries) (is_standing nodes entries) n (without was.node (list_in k.pool.cols r.col)) (λ y m. let w = without_has was.node (list_in k.pool.cols r.col) y m in same_standing y w.0 w.1) h

    first_apart : s ≢ x.session → (n : ℕ) → AreFirst (is_standing k.pool.nodes k.entries) n (list_in k.pool.cols r.col) → AreFirst (is_standing nodes entries) n (list_in k.pool.cols r.col)
    first_apart ne n h = first_alike (is_standing k.pool.nodes k.entries) (is_standing nodes entries) n (list_in k.pool.cols r.col) (λ y m. same_standing y m (other y m)) h
      where
        other : (y : Node) → Contains (list_in k.pool.cols r.col) y → y ≢ was.node
        other y m e =
            let i = in_column k sound s r is y m in
            let same : i.seat ≡ record { row = (seat_is k sound x was at).row; col = (seat_is k sound x was at).col; item = x } = one_value (sym i.at ∙ ap (get k.pool.nodes) e ∙ (seat_is k sound x was at).at) in
            ne (sym i.own ∙ ap (λ z. z.item.session) same)

  -- ---- its own column

  was_standing : is_standing k.pool.nodes k.entries was.node ≡ is_some was.entry.view
  was_standing =
      ap (λ o. given (option_and_then (λ (seat : Seat Slot). get k.entries seat.item) o) false (λ z. is_some z.entry.view)) (seat_is k sound x was at).at ∙ ap (λ o. given o false (λ z. is_some z.entry.view)) at

  module _ (home : SessionRecord) (home_is : get k.sessions x.session ≡ Some home) where
    pub own_col : (seat_is k sound x was at).col ≡ home.col
    own_col = one_value (sym (seat_is k sound x was at).in_col ∙ ap (option_map (λ z. z.col)) home_is)

    pub among : Contains (list_in k.pool.cols home.col) was.node
    among = sound.seats.rings.cols.found home.col was.node (ap (option_map (λ z. z.col)) (seat_is k sound x was at).at ∙ ap Some own_col)

    distinct : AreDistinct (list_in k.pool.cols home.col)
    distinct = sound.seats.rings.cols.once home.col

    first : AreFirst (is_standing k.pool.nodes k.entries) home.attached (list_in k.pool.cols home.col)
    first = (sound.fronts x.session home home_is).first

    -- an entry that stands on a body is counted
    pub attached_some : is_some was.entry.view ≡ true → 0 < home.attached
    attached_some stood =
        let s = split_at was.node (list_in k.pool.cols home.col) among in
        first_some (is_standing k.pool.nodes k.entries) s.front s.back home.attached was.node (was_standing ∙ stood) (subst (λ l. AreFirst (is_standing k.pool.nodes k.entries) home.attached l) s.is first)

    -- one that stands on none is not
    pub attached_fewer : is_some was.entry.view ≡ false → home.attached < home.entries
    attached_fewer loose =
        let s = split_at was.node (list_in k.pool.cols home.col) among in
        omega (arith, first_fewer (is_standing k.pool.nodes k.entries) s.front s.back home.attached was.node (was_standing ∙ loose) (subst (λ l. AreFirst (is_standing k.pool.nodes k.entries) home.attached l) s.is first), ap length s.is, sound.lengths x.session home home_is)

    -- without it
    first_left : AreFirst (is_standing k.pool.nodes k.entries) (home.attached - cond (is_some was.entry.view) 1 0) (without was.node (list_in k.pool.cols home.col))
    first_left = by (is_some was.entry.view) refl
      where
        s : IsSplit was.node (list_in k.pool.cols home.col)
        s = split_at was.node (list_in k.pool.cols home.col) among

        parts : without was.node (list_in k.pool.cols home.col) ≡ s.front ++ s.back
        parts = ap (without was.node) s.is ∙ without-split was.node s.front s.back (subst AreDistinct s.is distinct)

        here : AreFirst (is_standing k.pool.nodes k.entries) home.attached (s.front ++ was.node ∷ s.back)
        here = subst (λ l. AreFirst (is_standing k.pool.nodes k.entries) home.attached l) s.is first

        by : (t : Bool) → is_some was.entry.view ≡ t → AreFirst (is_standing k.pool.nodes k.entries) (home.attached - cond t 1 0) (without was.node (list_in k.pool.cols home.col))
        by true t =
            let one : home.attached ≡ suc (home.attached - 1) = omega (arith, attached_some t) in
            subst (λ l. AreFirst (is_standing k.pool.nodes k.entries) (home.attached - 1) l) (sym parts)
            (first_out (is_standing k.pool.nodes k.entries) s.front s.back (home.attached - 1) was.node (was_standing ∙ t) (subst (λ n. AreFirst (is_standing k.pool.nodes k.entries) n (s.front ++ was.node ∷ s.back)) one here))
        by false t =
            let none : home.attached ≡ home.attached - 0 = omega arith in
            subst (λ l. AreFirst (is_standing k.pool.nodes k.entries) (home.attached - 0) l) (sym parts)
            (others_out (is_standing k.pool.nodes k.entries) s.front s.back (home.attached - 0) was.node (was_standing ∙ t) (subst (λ n. AreFirst (is_standing k.pool.nodes k.entries) n (s.front ++ was.node ∷ s.back)) none here))

    -- ---- an entry that moved

    module _ (end : End) (p : Pool Slot) (row : Row) (again : Node) (m : IsMoved end k.pool p was.node row again) (rings : AreRings p) (e : Entry) (same : e.pid ≡ was.entry.pid) where
      abbrev after : FinMap slot_cmp EntryRecord
      after = set k sound x was at end p row again m rings e same

      seat_same : m.seat ≡ record { row = (seat_is k sound x was at).row; col = (seat_is k sound x was at).col; item = x }
      seat_same = one_value (sym m.at ∙ (seat_is k sound x was at).at)

      moved_col : m.seat.col ≡ home.col
      moved_col = ap (λ z. z.col) seat_same ∙ own_col

      entries_stay : (z : Slot) → z ≢ x → get after z ≡ get k.entries z
      entries_stay z ne = insert_apart slot_key k.entries x (record { entry = e; node = again }) z ne

      nodes_stay : (y : Node) → y ≢ was.node → IsSome (get k.pool.nodes y) → get p.nodes y ≡ get k.pool.nodes y
      nodes_stay = seat_stays end k.pool p was.node row again sound.seats.rings m

      again_standing : is_standing p.nodes after again ≡ is_some e.view
      again_standing =
          ap (λ o. given (option_and_then (λ (seat : Seat Slot). get after seat.item) o) false (λ z. is_some z.entry.view)) (seat_again end k.pool p was.node row again sound.seats.rings m)
          ∙ ap (λ (z : Seat Slot). given (get after z.item) false (λ z. is_some z.entry.view)) seat_same ∙ ap (λ o. given o false (λ z. is_some z.entry.view)) (insert_here slot_key k.entries x (record { entry = e; node = again }))

      counted : (s : SessionNo) → count (is_front s) (plain after) + weight (is_front s (x, was.entry)) ≡ count (is_front s) (plain k.entries) + weight (is_front s (x, e))
      counted s = ap (λ t. count (is_front s) t + weight (is_front s (x, was.entry))) (plain_set k sound x was at end p row again m rings e same) ∙ count_set slot_key (is_front s) (plain k.entries) x was.entry e (entry_is k sound x was at)

      front_other : (s : SessionNo) (r : SessionRecord) → get k.sessions s ≡ Some r → s ≢ x.session → IsInFront p.nodes p.cols after s r
      front_other s r is ne =
          let was_front = sound.fronts s r is in
          let other : r.col ≢ m.seat.col = λ e'. ne (sound.cols.apart s x.session r.col (ap (option_map (λ z. z.col)) is) (ap (option_map (λ z. z.col)) home_is ∙ ap Some (sym moved_col ∙ sym e'))) in
          record {
            first = subst (λ l. AreFirst (is_standing p.nodes after) r.attached l) (sym (list_other end k.pool p was.node row again sound.seats.rings m r.col other)) (first_apart p.nodes after nodes_stay entries_stay s r is ne r.attached was_front.first);
            counted = omega (arith, was_front.counted, counted s, weight_other s x was.entry ne, weight_other s x e ne);
          }

      list_home : list_in p.cols home.col ≡ put end again (without was.node (list_in k.pool.cols home.col))
      list_home = subst (λ c. list_in p.cols c ≡ put end again (without was.node (list_in k.pool.cols c))) moved_col (list_own end k.pool p was.node row again sound.seats.rings m)

      -- so many after it moved
      abbrev now : ℕ
      now = home.attached - cond (is_some was.entry.view) 1 0 + weight (is_some e.view)

      -- an entry that stands on a body comes first, another last
      pub fronts_moved : AreFirst (is_standing p.nodes after) now (put end again (without was.node (list_in k.pool.cols home.col))) → (c : ℕ) → c ≡ now → AreInFront p.nodes p.cols after (insert k.sessions x.session (with_attached c home))
      fronts_moved h c is s r at' = ⊎_elim own apart (same_or_apart session_key s x.session)
        where
          apart : s ≢ x.session → IsInFront p.nodes p.cols after s r
          apart ne = front_other s r (sym (insert_apart session_key k.sessions x.session (with_attached c home) s ne) ∙ at') ne

          here : IsInFront p.nodes p.cols after x.session (with_attached c home)
          here = record {
            first = subst (λ l. AreFirst (is_standing p.nodes after) c l) (sym list_home) (subst (λ n. AreFirst (is_standing p.nodes after) n (put end again (without was.node (list_in k.pool.cols home.col)))) (sym is) h);
            counted = by (is_some was.entry.view) refl;
          }
            where
              by : (t : Bool) → is_some was.entry.view ≡ t → c ≡ count (is_front x.session) (plain after)
              by true t = omega (arith, is, ap {B = ℕ} (λ z. cond z 1 0) t, attached_some t, (sound.fronts x.session home home_is).counted, counted x.session, weight_of x.session x was.entry refl, ap weight t, weight_of x.session x e refl)
              by false t = omega (arith, is, ap {B = ℕ} (λ z. cond z 1 0) t, (sound.fronts x.session home home_is).counted, counted x.session, weight_of x.session x was.entry refl, ap weight t, weight_of x.session x e refl)

          own : s ≡ x.session → IsInFront p.nodes p.cols after s r
          own e' =
              let rec : with_attached c home ≡ r = one_value (sym (ap (get (insert k.sessions x.session (with_attached c home))) e' ∙ insert_here session_key k.sessions x.session (with_attached c home)) ∙ at') in
              subst (λ z. IsInFront p.nodes p.cols after z r) (sym e') (subst (λ z. IsInFront p.nodes p.cols after x.session z) rec here)

      left_first : AreFirst (is_standing p.nodes after) (home.attached - cond (is_some was.entry.view) 1 0) (without was.node (list_in k.pool.cols home.col))
      left_first = first_without p.nodes after nodes_stay entries_stay x.session home home_is (home.attached - cond (is_some was.entry.view) 1 0) first_left

    -- an entry that leaves its body
    pub fronts_left : (p : Pool Slot) (row : Row) (again : Node) (m : IsMoved Last k.pool p was.node row again) (rings : AreRings p) (e : Entry) (same : e.pid ≡ was.entry.pid) → is_some was.entry.view ≡ true → is_some e.view ≡ false
        → AreInFront p.nodes p.cols (set k sound x was at Last p row again m rings e same) (insert k.sessions x.session (with_attached (home.attached - 1) home))
    fronts_left p row again m rings e same stood loose =
        let n = home.attached - cond (is_some was.entry.view) 1 0 in
        let none : n ≡ n + weight (is_some e.view) = omega (arith, ap weight loose) in
        fronts_moved Last p row again m rings e same
        (subst (λ c. AreFirst (is_standing p.nodes (set k sound x was at Last p row again m rings e same)) c (without was.node (list_in k.pool.cols home.col) ++ again ∷ [])) none
        (first_behind (is_standing p.nodes (set k sound x was at Last p row again m rings e same)) n (without was.node (list_in k.pool.cols home.col)) again (again_standing Last p row again m rings e same ∙ loose) (left_first Last p row again m rings e same)))
        (home.attached - 1) (omega (arith, ap {B = ℕ} (λ t. cond t 1 0) stood, ap weight loose))

    -- an entry that comes to stand on a body
    pub fronts_stood : (p : Pool Slot) (row : Row) (again : Node) (m : IsMoved First k.pool p was.node row again) (rings : AreRings p) (e : Entry) (same : e.pid ≡ was.entry.pid) → is_some was.entry.view ≡ false → is_some e.view ≡ true
        → AreInFront p.nodes p.cols (set k sound x was at First p row again m rings e same) (insert k.sessions x.session (with_attached (home.attached + 1) home))
    fronts_stood p row again m rings e same loose stands =
        let n = home.attached - cond (is_some was.entry.view) 1 0 in
        let one : n + 1 ≡ n + weight (is_some e.view) = omega (arith, ap weight stands) in
        fronts_moved First p row again m rings e same
        (subst (λ c. AreFirst (is_standing p.nodes (set k sound x was at First p row again m rings e same)) c (again ∷ without was.node (list_in k.pool.cols home.col))) one
        (first_before (is_standing p.nodes (set k sound x was at First p row again m rings e same)) n (without was.node (list_in k.pool.cols home.col)) again (again_standing First p row again m rings e same ∙ stands) (left_first First p row again m rings e same)))
        (home.attached + 1) (omega (arith, ap {B = ℕ} (λ t. cond t 1 0) loose, ap weight stands))

    -- ---- an entry that is gone

    module _ (seat : Seat Slot) (seat_at : get k.pool.nodes was.node ≡ Some seat) where
      abbrev q : Pool Slot
      q = unlinked k.pool was.node seat

      abbrev rest : FinMap slot_cmp EntryRecord
      rest = remove k.entries x

      abbrev fewer : SessionRecord
      fewer = without_one (is_some was.entry.view) home

      rest_stay : (z : Slot) → z ≢ x → get rest z ≡ get k.entries z
      rest_stay z ne = remove_apart slot_key k.entries x z ne

      seats_stay : (y : Node) → y ≢ was.node → IsSome (get k.pool.nodes y) → get q.nodes y ≡ get k.pool.nodes y
      seats_stay y ne h = seat-unlinked_other k.pool was.node seat y ne

      one_gone : (s : SessionNo) → count (is_front s) (plain k.entries) ≡ count (is_front s) (plain rest) + weight (is_front s (x, was.entry))
      one_gone s = count_gone slot_key (is_front s) (plain k.entries) x was.entry (entry_is k sound x was at) ∙ ap (λ t. count (is_front s) t + weight (is_front s (x, was.entry))) (sym (each_remove (λ z. z.entry) slot_key k.entries x))

      list_gone : (c : _) → list_in q.cols c ≡ without was.node (list_in k.pool.cols c)
      list_gone c = col_list-unlinked k.pool was.node seat sound.seats.rings seat_at c

      pub fronts_gone : AreInFront q.nodes q.cols rest (insert k.sessions x.session fewer)
      fronts_gone s r at' = ⊎_elim own apart (same_or_apart session_key s x.session)
        where
          apart : s ≢ x.session → IsInFront q.nodes q.cols rest s r
          apart ne =
              let is = sym (insert_apart session_key k.sessions x.session fewer s ne) ∙ at' in
              let was_front = sound.fronts s r is in
              let absent : Contains (list_in k.pool.cols r.col) was.node → ⊥ = λ m. ne (sound.cols.apart s x.session r.col (ap (option_map (λ z. z.col)) is) ((seat_is k sound x was at).in_col ∙ sym (ap (option_map (λ z. z.col)) (seat_is k sound x was at).at) ∙ sound.seats.rings.cols.only r.col was.node m)) in
              record {
                first = subst (λ l. AreFirst (is_standing q.nodes rest) r.attached l) (sym (list_gone r.col ∙ without-absent was.node (list_in k.pool.cols r.col) absent)) (first_apart q.nodes rest seats_stay rest_stay s r is ne r.attached was_front.first);
                counted = omega (arith, was_front.counted, one_gone s, weight_other s x was.entry ne);
              }

          here : IsInFront q.nodes q.cols rest x.session fewer
          here = record {
            first = subst (λ l. AreFirst (is_standing q.nodes rest) fewer.attached l) (sym (list_gone home.col)) (first_without q.nodes rest seats_stay rest_stay x.session home home_is fewer.attached first_left);
            counted = by (is_some was.entry.view) refl;
          }
            where
              by : (t : Bool) → is_some was.entry.view ≡ t → fewer.attached ≡ count (is_front x.session) (plain rest)
              by true t = omega (arith, ap {B = ℕ} (λ z. cond z 1 0) t, attached_some t, (sound.fronts x.session home home_is).counted, one_gone x.session, weight_of x.session x was.entry refl, ap weight t)
              by false t = omega (arith, ap {B = ℕ} (λ z. cond z 1 0) t, (sound.fronts x.session home home_is).counted, one_gone x.session, weight_of x.session x was.entry refl, ap weight t)

          own : s ≡ x.session → IsInFront q.nodes q.cols rest s r
          own e' =
              let rec : fewer ≡ r = one_value (sym (ap (get (insert k.sessions x.session fewer)) e' ∙ insert_here session_key k.sessions x.session fewer) ∙ at') in
              subst (λ z. IsInFront q.nodes q.cols rest z r) (sym e') (subst (λ z. IsInFront q.nodes q.cols rest x.session z) rec here)
