-- What is stored after an entry moved.
use Rattle.std.proofs.Common.{ℕ, ◌≡◌, ⊎_elim, ◌<◌, length, Bool, true, false, cond, nat_lt, Option, Some, None, IsSome, refl, sym, ap, ◌∙◌, subst, arith, rules}
use Rattle.std.specs.Prelude.{List}
use Rattle.std.specs.Option.{option_map}
use Rattle.std.proofs.lemmas.Bool.{lt-ltb}
use Rattle.std.specs.FinMap.{FinMap, get, insert, remove}
use Rattle.type_layout.specs.Types.{PlainValue}
use Rattle.link_pool.specs.Rings.{list_in}
use Rattle.link_pool.specs.Meaning.{Meaning as Pool, AreRings, unlinked, in_row}
use Rattle.pss_base.specs.declared.session.SessionNo.{SessionNo}
use Rattle.link_pool.specs.declared.names.Row.{Row}
use Rattle.link_pool.specs.declared.names.Col.{Col}
use Rattle.link_pool.specs.declared.names.Node.{Node}
use Rattle.incarnations.specs.declared.names.Slot.{Slot}
use Rattle.incarnations.specs.declared.names.BodyName.{BodyName}
use Rattle.incarnations.specs.declared.names.BodyRecord.{BodyRecord}
use Rattle.incarnations.specs.declared.names.Entry.{Entry}
use Rattle.incarnations.specs.declared.names.EntryRecord.{EntryRecord}
use Rattle.incarnations.specs.declared.names.SessionRecord.{SessionRecord}
use Rattle.incarnations.specs.declared.stock.Stock.{Stock}
use Rattle.incarnations.specs.Keys.{slot_cmp, body_cmp}
use Rattle.recent_table.specs.Maps.{each, count}
use Rattle.incarnations.specs.Records.{with_attached}
use Rattle.incarnations.specs.Meaning.{stands_on}
use Rattle.incarnations.specs.Stock.{Place, On, place_of, Spot, spot_of, spots_in, spot_at, row_at, col_at, pid_at, number_at, meaning_of, IsSeated, AreSeated, AreApart, AreNamed, AreNumbered, AreLong, IsSound, End, IsMoved}
use Rattle.recent_table.proofs.Maps.{no_value, one_value, same_or_apart, insert_here, insert_apart, remove_here, remove_apart, get_each, each_insert, each_same, at_same, count_none}
use Rattle.incarnations.proofs.Keys.{slot_key, session_key}
use Rattle.incarnations.proofs.Seats.{seats_alike, seats_out, seats_in}
use Rattle.incarnations.proofs.Places.{on_found, length_moved, cols_stay}
use Rattle.incarnations.proofs.Named.{apart_less, names_alike, numbered_set}

pub some : {A : Type 0} {v : A} (o : Option A) → o ≡ Some v → IsSome o
some None e = no_value _ e
some (Some v) e = search rules

-- what an option has
pub record Has {A : Type 0} (o : Option A) : Type 0 where
  pub value : A
  pub is : o ≡ Some value

pub has : {A : Type 0} (o : Option A) → IsSome o → Has o
has None h = absurd (cc)
has (Some v) h = record { value = v; is = refl }

-- what was put into an option was there
pub has_map : {A B : Type 0} (f : A → B) (o : Option A) (b : B) → option_map f o ≡ Some b → Has o
has_map f None b e = no_value b e
has_map f (Some v) b e = record { value = v; is = refl }

abbrev pub plain : FinMap slot_cmp EntryRecord → FinMap slot_cmp Entry
plain = each (λ r. r.entry)

-- ---- an entry that is stored

module _ (k : Stock) (sound : IsSound k) (x : Slot) (was : EntryRecord) (at : get k.entries x ≡ Some was) where
  pub entry_is : get (plain k.entries) x ≡ Some was.entry
  entry_is = get_each (λ r. r.entry) k.entries x ∙ ap (option_map (λ r. r.entry)) at

  pub spot_is : spot_at k x ≡ Some (spot_of x was)
  spot_is = ap (option_map (spot_of x)) at

  pub seat_is : IsSeated k.pool (row_at k) (col_at k) x (spot_of x was)
  seat_is = sound.seats.seated x (spot_of x was) spot_is

  pub node_there : IsSome (get k.pool.nodes was.node)
  node_there = some (get k.pool.nodes was.node) seat_is.at

  pub home_there : Has (get k.sessions x.session)
  home_there = has_map (λ r. r.col) (get k.sessions x.session) seat_is.col seat_is.in_col

  pub body_there : (b : BodyName) → place_of x was.entry ≡ On b → Has (get k.bodies b)
  body_there b e = has_map (λ r. r.place.row) (get k.bodies b) seat_is.row (ap (row_at k) (sym e) ∙ seat_is.in_row)

  module _ (end : End) (p : Pool Slot) (row : Row) (again : Node) (m : IsMoved end k.pool p was.node row again) (rings : AreRings p) (e : Entry) (same : e.pid ≡ was.entry.pid) where
    abbrev pub set : FinMap slot_cmp EntryRecord
    set = insert k.entries x (record { entry = e; node = again })

    seat_same : m.seat ≡ record { row = seat_is.row; col = seat_is.col; item = x }
    seat_same = one_value (sym m.at ∙ seat_is.at)

    pub plain_set : plain set ≡ insert (plain k.entries) x e
    plain_set = each_insert (λ r. r.entry) slot_key k.entries x (record { entry = e; node = again })

    pub seats_set : (rows : Place → Option Row) → ((y : Slot) (spot : Spot) → spot_at k y ≡ Some spot → rows spot.place ≡ row_at k spot.place) → rows (place_of x e) ≡ Some row → AreSeated p (spots_in set) rows (col_at k)
    seats_set rows up is =
        let lifted = seats_alike k.pool (spot_at k) (spot_at k) (row_at k) rows (col_at k) (col_at k) sound.seats (λ y. refl) up (λ y spot h. refl) in
        let gone : FinMap slot_cmp EntryRecord = remove k.entries x in
        let out = seats_out k.pool (spot_at k) (spots_in gone) rows (col_at k) lifted x (λ y ne. ap (option_map (spot_of y)) (remove_apart slot_key k.entries x y ne)) (spot_of x was) m.seat spot_is m.at (ap (option_map (spot_of x)) (remove_here slot_key k.entries x)) m.between in
        subst (λ (q : Pool Slot). AreSeated q (spots_in set) rows (col_at k)) (sym m.is)
        (seats_in (unlinked k.pool was.node m.seat) (spots_in gone) (spots_in set) rows (col_at k) out x
        (λ y ne. ap (option_map (spot_of y)) (insert_apart slot_key k.entries x (record { entry = e; node = again }) y ne ∙ sym (remove_apart slot_key k.entries x y ne)))
        end again (in_row row m.seat) (place_of x e) (ap (option_map (spot_of x)) (remove_here slot_key k.entries x)) m.free (ap (option_map (spot_of x)) (insert_here slot_key k.entries x (record { entry = e; node = again })))
        (ap (λ z. z.item) seat_same) is (seat_is.in_col ∙ ap (λ z. Some z.col) (sym seat_same)) (subst AreRings m.is rings))

    module _ (n : Stock) (entries : n.entries ≡ set) (home : SessionRecord) (home_is : get k.sessions x.session ≡ Some home) (c : ℕ) (sessions : n.sessions ≡ insert k.sessions x.session (with_attached c home)) where
      -- what a session's record has beside its count of attached entries
      pub same_of : {X : Type 0} (f : SessionRecord → X) → f (with_attached c home) ≡ f home → (s : SessionNo) → option_map f (get n.sessions s) ≡ option_map f (get k.sessions s)
      same_of f same' s = ap (λ t. option_map f (get t s)) sessions ∙ at_same session_key f k.sessions x.session home (with_attached c home) home_is same' s

      pub plain_after : plain n.entries ≡ insert (plain k.entries) x e
      plain_after = ap plain entries ∙ plain_set

      pub names_set : n.objects ≡ k.objects → AreNamed (pid_at n) (number_at n)
      names_set objects =
          names_alike (pid_at k) (pid_at n) (number_at k) (number_at n) sound.names
          (λ y. ap (λ t. option_map (λ r. r.entry.pid) (get t y)) entries
          ∙ ⊎_elim
          (λ e'. ap (λ z. option_map (λ r. r.entry.pid) (get set z)) e' ∙ ap (option_map (λ r. r.entry.pid)) (insert_here slot_key k.entries x (record { entry = e; node = again })) ∙ ap Some same
          ∙ sym (ap (option_map (λ r. r.entry.pid)) at) ∙ ap (pid_at k) (sym e'))
          (λ ne. ap (option_map (λ r. r.entry.pid)) (insert_apart slot_key k.entries x (record { entry = e; node = again }) y ne))
          (same_or_apart slot_key y x))
          (λ o. ap (λ t. get t o) objects)

      pub cols_set : n.pool.cols ≡ p.cols → AreApart (col_at n) n.pool.cols
      cols_set cols =
          apart_less (col_at k) (col_at n) k.pool.cols n.pool.cols sound.cols (λ s c' h. sym (same_of (λ r. r.col) refl s) ∙ h)
          (λ s c' h there. subst (λ t. IsSome (get t c')) (sym cols) (cols_stay end k.pool p was.node row again sound.seats.rings m c' there))

      pub lengths_set : n.pool.cols ≡ p.cols → AreLong n
      lengths_set cols = λ s r is.
          let o = has_map size_col (get k.sessions s) (size_col r) (sym (same_of size_col refl s) ∙ ap (option_map size_col) is) in
          let same' : size_col o.value ≡ size_col r = one_value (sym (ap (option_map size_col) o.is) ∙ sym (same_of size_col refl s) ∙ ap (option_map size_col) is) in
          sym (ap (λ z. z.0) same') ∙ sound.lengths s o.value o.is ∙ ap (λ z. length (list_in k.pool.cols z.1)) same' ∙ sym (length_moved end k.pool p was.node row again sound.seats.rings m r.col) ∙ ap (λ t. length (list_in t r.col)) (sym cols)
        where
          size_col : SessionRecord → ℕ × Col
          size_col r = (r.entries, r.col)

      pub lasts_same : (meaning_of n).lasts ≡ (meaning_of k).lasts
      lasts_same = ap (each (λ r. r.last)) sessions ∙ each_same (λ r. r.last) session_key k.sessions x.session home (with_attached c home) home_is refl

      pub numbers_set : 0 < e.count → AreNumbered (meaning_of n).entries (meaning_of n).lasts
      numbers_set positive =
          subst (λ t. AreNumbered t (meaning_of n).lasts) (sym plain_after) (subst (λ t. AreNumbered (insert (plain k.entries) x e) t) (sym lasts_same) (numbered_set (plain k.entries) (meaning_of k).lasts sound.numbers x was.entry e entry_is positive))

-- ---- bodies

module _ (n : Stock) (sound : IsSound n) (b : BodyName) where
  -- no entry stands on a body that is not there
  pub nobody_on : get n.bodies b ≡ None → count (stands_on b) (plain n.entries) ≡ 0
  nobody_on none = count_none slot_key (stands_on b) (plain n.entries) (λ y e is. by y e is (stands_on b (y, e)) refl)
    where
      by : (y : Slot) (e : Entry) → get (plain n.entries) y ≡ Some e → (t : Bool) → stands_on b (y, e) ≡ t → t ≡ false
      by y e is true on =
          let h = has_map (λ r. r.entry) (get n.entries y) e (sym (get_each (λ r. r.entry) n.entries y) ∙ is) in
          let same : h.value.entry ≡ e = one_value (sym (ap (option_map (λ r. r.entry)) h.is) ∙ sym (get_each (λ r. r.entry) n.entries y) ∙ is) in
          let t = body_there n sound y h.value h.is b (ap (place_of y) same ∙ on_found y e b on) in
          no_value t.value (sym none ∙ t.is)
      by y e is false on = refl

  -- of a body that is there, how many
  pub load_on : (r : BodyRecord) → get n.bodies b ≡ Some r → (r.place.entries ≡ count (stands_on b) (plain n.entries)) × (0 < r.place.entries)
  load_on r is = (sound.counts.bodies b r.place.entries (ap (option_map (λ z. z.place.entries)) is), sound.counts.some b r.place.entries (ap (option_map (λ z. z.place.entries)) is))

  -- the bodies that are left are those on which entries stand
  pub bodies_left : (old : FinMap body_cmp (List PlainValue)) → ((value : List PlainValue) → get (meaning_of n).bodies b ≡ Some value → get old b ≡ Some value)
      → get (meaning_of n).bodies b ≡ cond (nat_lt 0 (count (stands_on b) (plain n.entries))) (get old b) None
  bodies_left old within = by (get n.bodies b) refl
    where
      by : (o : Option BodyRecord) → get n.bodies b ≡ o → get (meaning_of n).bodies b ≡ cond (nat_lt 0 (count (stands_on b) (plain n.entries))) (get old b) None
      by None is = get_each (λ r. r.value) n.bodies b ∙ ap (option_map (λ r. r.value)) is ∙ ap (λ c. cond (nat_lt 0 c) (get old b) None) (sym (nobody_on is))
      by (Some r) is =
          let here : get (meaning_of n).bodies b ≡ Some r.value = get_each (λ z. z.value) n.bodies b ∙ ap (option_map (λ z. z.value)) is in
          let l = load_on r is in
          let more : 0 < count (stands_on b) (plain n.entries) = omega (arith, l.0, l.1) in
          here ∙ sym (within r.value here) ∙ ap (λ t. cond t (get old b) None) (sym (lt-ltb 0 (count (stands_on b) (plain n.entries)) more))
