-- What is stored after an entry came to share a body, or to stand on a new one; and after a body got another value.
use Rattle.std.proofs.Common.{ℕ, ◌≡◌, ◌≢◌, ◌<◌, ◌≤◌, ◌+◌, List, [], Some, None, IsSome, refl, sym, ap, ◌∙◌, subst, arith}
use Rattle.std.specs.Prelude.{IsSomeAnd, is_some}
use Rattle.std.specs.Option.{option_map}
use Rattle.std.specs.FinMap.{FinMap, get, insert, remove}
use Rattle.pss_machine.specs.declared.session.View.{View}
use Rattle.type_layout.specs.Types.{PlainValue}
use Rattle.link_pool.specs.Meaning.{Meaning as Pool, AreRings}
use Rattle.link_pool.specs.declared.names.Row.{Row}
use Rattle.link_pool.specs.declared.names.Node.{Node}
use Rattle.incarnations.specs.declared.names.Slot.{Slot}
use Rattle.incarnations.specs.declared.names.BodyName.{BodyName}
use Rattle.incarnations.specs.declared.names.BodyRecord.{BodyRecord}
use Rattle.incarnations.specs.declared.names.EntryRecord.{EntryRecord}
use Rattle.incarnations.specs.declared.names.SessionRecord.{SessionRecord}
use Rattle.incarnations.specs.declared.stock.Stock.{Stock}
use Rattle.incarnations.specs.Keys.{slot_cmp, session_cmp}
use Rattle.recent_table.specs.Maps.{each, count}
use Rattle.incarnations.specs.Records.{with_entries, with_attached}
use Rattle.incarnations.specs.Meaning.{is_of, stands_on, body, with_view, with_entry, attached}
use Rattle.incarnations.specs.Stock.{Place, Loose, On, row_at, meaning_of, IsSound, First, IsMoved}
use Rattle.recent_table.proofs.Maps.{no_value, one_value, insert_here, insert_apart, remove_apart, each_insert, each_same, count_within, len_each}
use Rattle.incarnations.proofs.Keys.{slot_key, body_key, session_key}
use Rattle.incarnations.proofs.Fronts.{attached_fewer}
use Rattle.std.specs.FinMap as finite
use Rattle.incarnations.specs.Keys.{body_cmp}
use Rattle.incarnations.proofs.Seats.{row_key}
use Rattle.incarnations.proofs.Stood.{pool_sound, unused, stay_inserted, standing_sound, plain_is, room_on}
use Rattle.recent_table.specs.Maps.{IsWith}
use Rattle.incarnations.specs.declared.names.BodyPlace.{BodyPlace}
use Rattle.incarnations.proofs.Sets.{some, Has, has_map, plain, node_there, home_there, load_on, nobody_on}

module _ (k : Stock) (sound : IsSound k) (x : Slot) (was : EntryRecord) (at : get k.entries x ≡ Some was) (loose : was.entry.view ≡ None) (v : View) where
  -- the session's record, which counts one more
  home : Has (get k.sessions x.session)
  home = home_there k sound x was at

  pub home_room : (n : ℕ) → finite.len k.entries ≤ n → IsSomeAnd (get k.sessions x.session) (λ r. r.attached < n)
  home_room n within =
      subst (λ o. IsSomeAnd o (λ r. r.attached < n)) (sym home.is)
      (omega (arith, within, attached_fewer k sound x was at home.value home.is (ap is_some loose), sound.counts.sessions x.session home.value.entries (ap (option_map (λ r. r.entries)) home.is), count_within slot_key (is_of x.session) (plain k.entries), len_each (λ r. r.entry) k.entries))

  module _ (sessions : FinMap session_cmp SessionRecord) (one : IsWith k.sessions sessions x.session (λ r. with_attached (r.attached + 1) r)) where
    counted : sessions ≡ insert k.sessions x.session (with_attached (home.value.attached + 1) home.value)
    counted = subst (λ o. IsSomeAnd o (λ r. sessions ≡ insert k.sessions x.session (with_attached (r.attached + 1) r))) home.is one

    pub lasts_counted : each (λ r. r.last) sessions ≡ each (λ r. r.last) k.sessions
    lasts_counted = ap (each (λ r. r.last)) counted ∙ each_same (λ r. r.last) session_key k.sessions x.session home.value (with_attached (home.value.attached + 1) home.value) home.is refl

  abbrev b : BodyName
  b = body was.entry.pid v

  -- ---- a body that is there

  module _ (place : BodyPlace) (place_is : Some place ≡ option_map (λ r. r.place) (get k.bodies b)) where
    r : Has (get k.bodies b)
    r = has_map (λ z. z.place) (get k.bodies b) place (sym place_is)

    same : r.value.place ≡ place
    same = one_value (sym (ap (option_map (λ z. z.place)) r.is) ∙ sym place_is)

    row_b : row_at k (On b) ≡ Some place.row
    row_b = ap (option_map (λ z. z.place.row)) r.is ∙ ap (λ z. Some z.row) same

    pub shared_row : IsSome (get k.pool.rows place.row)
    shared_row = sound.rows.there (On b) place.row row_b

    pub shared_room : place.entries + 1 ≤ finite.len k.entries
    shared_room = omega (arith, room_on k sound x was at loose v r.value r.is, ap (λ z. z.entries) same)

    module _ (p : Pool Slot) (again : Node) (m : IsMoved First k.pool p was.node place.row again) (rings : AreRings p) (sessions : FinMap session_cmp SessionRecord) (one : IsWith k.sessions sessions x.session (λ r. with_attached (r.attached + 1) r)) (after : FinMap slot_cmp EntryRecord) (is : after ≡ insert k.entries x (record { entry = with_view (Some v) was.entry; node = again }))
        (bodies : FinMap body_cmp BodyRecord) (more : IsWith k.bodies bodies b (with_entries (place.entries + 1))) where
      abbrev new : BodyRecord
      new = with_entries (place.entries + 1) r.value

      abbrev shared : Stock
      shared = record { pool = p; sessions = sessions; entries = after; objects = k.objects; bodies = bodies; attached = k.attached + 1 }

      bodies_is : bodies ≡ insert k.bodies b new
      bodies_is = subst (λ o. IsSomeAnd o (λ z. bodies ≡ insert k.bodies b (with_entries (place.entries + 1) z))) r.is more

      here : get bodies b ≡ Some new
      here = ap (λ t. get t b) bodies_is ∙ insert_here body_key k.bodies b new

      count_is : new.place.entries ≡ count (stands_on b) (plain k.entries) + 1
      count_is = omega (arith, (load_on k sound b r.value r.is).0, ap (λ z. z.entries) same)

      others : (c : BodyName) → c ≢ b → get bodies c ≡ get k.bodies c
      others c ne = ap (λ t. get t c) bodies_is ∙ insert_apart body_key k.bodies b new c ne

      mine : (a : Place) → row_at k a ≡ Some place.row → a ≡ On b
      mine a h = sound.rows.apart a (On b) place.row h row_b

      before : (z : BodyRecord) → get k.bodies b ≡ Some z → z.place.row ≡ place.row
      before z h = ap (λ y. y.place.row) (one_value (sym h ∙ r.is)) ∙ ap (λ y. y.row) same

      pub shared_sound : IsSound shared
      shared_sound = standing_sound k sound x was at loose home.value home.is v place.row p again m rings sessions (counted sessions one) after is bodies new here (ap (λ z. z.row) same) count_is others mine before shared_row

      entries_is : plain after ≡ insert (plain k.entries) x (with_view (Some v) was.entry)
      entries_is = plain_is k sound x was at loose home.value home.is v place.row p again m rings sessions (counted sessions one) after is bodies new here (ap (λ z. z.row) same) count_is others mine before shared_row

      pub shared_is : meaning_of shared ≡ with_entry (meaning_of k) x (with_view (Some v) was.entry)
      shared_is = λ i. record { lasts = lasts_counted sessions one i; entries = entries_is i; bodies = (ap (each (λ z. z.value)) bodies_is ∙ each_same (λ z. z.value) body_key k.bodies b r.value new r.is refl) i }

  -- ---- a new body

  module _ (free : get k.bodies b ≡ None) (row : Row) (new_row : get k.pool.rows row ≡ None) (q : Pool Slot) (q_is : q ≡ record k.pool { rows = insert k.pool.rows row [] }) (rings_q : AreRings q) where
    abbrev k0 : Stock
    k0 = record { pool = q; sessions = k.sessions; entries = k.entries; objects = k.objects; bodies = k.bodies; attached = k.attached }

    sound0 : IsSound k0
    sound0 = pool_sound k sound q (ap (λ t. t.nodes) q_is) (ap (λ t. t.cols) q_is) (λ a r h there. subst (λ (t : Pool Slot). IsSome (get t.rows r)) (sym q_is) (stay_inserted k row [] r there)) rings_q

    pub row_q : get q.rows row ≡ Some []
    row_q = ap (λ (t : Pool Slot). get t.rows row) q_is ∙ insert_here row_key k.pool.rows row []

    pub node_q : IsSome (get q.nodes was.node)
    node_q = node_there k0 sound0 x was at

    -- the row goes again
    module _ (r : Pool Slot) (r_is : r ≡ record q { rows = remove q.rows row }) (rings_r : AreRings r) (bodies : FinMap body_cmp BodyRecord) (bodies_is : bodies ≡ k.bodies) where
      abbrev undone : Stock
      undone = record { pool = r; sessions = k.sessions; entries = k.entries; objects = k.objects; bodies = bodies; attached = k.attached }

      undone_stays : (a : Place) (z : Row) → row_at k a ≡ Some z → IsSome (get k.pool.rows z) → IsSome (get r.rows z)
      undone_stays a z h there =
          subst (λ (t : Pool Slot). IsSome (get t.rows z)) (sym r_is)
          (subst IsSome (sym (remove_apart row_key q.rows row z (λ e. unused k sound row new_row a (h ∙ ap Some e)))) (subst (λ (t : Pool Slot). IsSome (get t.rows z)) (sym q_is) (stay_inserted k row [] z there)))

      pub undone_sound : IsSound undone
      undone_sound =
          subst (λ t. IsSound (record { pool = r; sessions = k.sessions; entries = k.entries; objects = k.objects; bodies = t; attached = k.attached })) (sym bodies_is)
          (pool_sound k sound r (ap (λ (t : Pool Slot). t.nodes) r_is ∙ ap (λ t. t.nodes) q_is) (ap (λ (t : Pool Slot). t.cols) r_is ∙ ap (λ t. t.cols) q_is) undone_stays rings_r)

      pub undone_is : meaning_of undone ≡ meaning_of k
      undone_is = λ i. record { lasts = (meaning_of k).lasts; entries = (meaning_of k).entries; bodies = each (λ z. z.value) (bodies_is i) }

    module _ (value : List PlainValue) (bodies : FinMap body_cmp BodyRecord) (bodies_is : bodies ≡ insert k.bodies b (record { place = record { row = row; entries = 1 }; value = value }))
        (p : Pool Slot) (again : Node) (m : IsMoved First q p was.node row again) (rings : AreRings p) (sessions : FinMap session_cmp SessionRecord) (one : IsWith k.sessions sessions x.session (λ r. with_attached (r.attached + 1) r)) (after : FinMap slot_cmp EntryRecord) (is : after ≡ insert k.entries x (record { entry = with_view (Some v) was.entry; node = again })) where
      abbrev came : BodyRecord
      came = record { place = record { row = row; entries = 1 }; value = value }

      abbrev made : Stock
      made = record { pool = p; sessions = sessions; entries = after; objects = k.objects; bodies = bodies; attached = k.attached + 1 }

      here' : get bodies b ≡ Some came
      here' = ap (λ t. get t b) bodies_is ∙ insert_here body_key k.bodies b came

      count_is' : 1 ≡ count (stands_on b) (plain k.entries) + 1
      count_is' = omega (arith, nobody_on k sound b free)

      others' : (c : BodyName) → c ≢ b → get bodies c ≡ get k.bodies c
      others' c ne = ap (λ t. get t c) bodies_is ∙ insert_apart body_key k.bodies b came c ne

      mine' : (a : Place) → row_at k0 a ≡ Some row → a ≡ On b
      mine' a h = absurd (unused k sound row new_row a (same_row a h))
        where
          same_row : (c : Place) → row_at k0 c ≡ Some row → row_at k c ≡ Some row
          same_row (Loose s) g = g
          same_row (On c) g = g

      before' : (z : BodyRecord) → get k.bodies b ≡ Some z → z.place.row ≡ row
      before' z h = no_value z (sym free ∙ h)

      there' : IsSome (get q.rows row)
      there' = some (get q.rows row) row_q

      pub made_sound : IsSound made
      made_sound = standing_sound k0 sound0 x was at loose home.value home.is v row p again m rings sessions (counted sessions one) after is bodies came here' refl count_is' others' mine' before' there'

      entries_is' : plain after ≡ insert (plain k.entries) x (with_view (Some v) was.entry)
      entries_is' = plain_is k0 sound0 x was at loose home.value home.is v row p again m rings sessions (counted sessions one) after is bodies came here' refl count_is' others' mine' before' there'

      pub made_is : meaning_of made ≡ attached (meaning_of k) x v value was.entry
      made_is = λ i. record { lasts = lasts_counted sessions one i; entries = entries_is' i; bodies = (ap (each (λ z. z.value)) bodies_is ∙ each_insert (λ z. z.value) body_key k.bodies b came) i }
