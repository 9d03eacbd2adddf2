-- What callers see of what is stored.
use Rattle.std.proofs.Common.{ℕ, ◌≡◌, ◌≢◌, ◌⊎◌, inl, inr, ⊎_elim, ◌<◌, List, Bool, true, false, cond, Option, Some, None, IsSome, refl, sym, ap, ◌∙◌, subst, arith}
use Rattle.std.specs.Prelude.{IsSomeAnd, is_some, ◌&&◌}
use Rattle.std.specs.Option.{option_map, option_and_then}
use Rattle.std.specs.FinMap.{FinMap, get, insert, remove}
use Rattle.pss_base.specs.declared.pid.Pid.{Pid}
use Rattle.pss_base.specs.declared.session.SessionNo.{SessionNo}
use Rattle.pss_machine.specs.declared.session.View.{View}
use Rattle.pss_machine.specs.Copies.{same_view}
use Rattle.type_layout.specs.Types.{PlainValue}
use Rattle.type_layout.specs.Schemas.{given}
use Rattle.link_pool.specs.Meaning.{item_in}
use Rattle.link_pool.specs.declared.names.Node.{Node}
use Rattle.link_pool.specs.declared.names.Seat.{Seat}
use Rattle.incarnations.specs.declared.names.Slot.{Slot}
use Rattle.incarnations.specs.declared.names.BodyName.{BodyName}
use Rattle.incarnations.specs.declared.names.BodyPlace.{BodyPlace}
use Rattle.incarnations.specs.declared.names.BodyRecord.{BodyRecord}
use Rattle.incarnations.specs.declared.names.Entry.{Entry}
use Rattle.incarnations.specs.declared.names.EntryRecord.{EntryRecord}
use Rattle.incarnations.specs.declared.names.SessionRecord.{SessionRecord}
use Rattle.incarnations.specs.declared.stock.Stock.{Stock}
use Rattle.incarnations.specs.Keys.{body_cmp}
use Rattle.recent_table.specs.Maps.{each, count, IsWith}
use Rattle.incarnations.specs.Records.{with_value}
use Rattle.incarnations.specs.Rings.{AreCopyRings}
use Rattle.incarnations.specs.Meaning.{Meaning, is_of, stands_on, body, body_of, body_under, same_slot, same_body, slot, with_view, Leaves, loosened, freed, of_session, on_body, both, IsGone, AreCopies, rewritten}
use Rattle.incarnations.specs.Stock.{Place, Loose, On, place_of, Spot, spot_of, spot_at, row_at, col_at, load_at, meaning_of, IsSound, IsErased, IsSet, asks}
use Rattle.recent_table.proofs.Maps.{no_value, one_value, same_or_apart, insert_here, insert_apart, remove_here, remove_apart, get_each, each_insert, count_none}
use Rattle.incarnations.proofs.Keys.{slot_key, body_key, session_told, slot_told, slot_self, body_told, body_self, view_told, view_self}
use Rattle.incarnations.proofs.Seats.{seats_alike}
use Rattle.incarnations.proofs.Places.{on_found, IsNodeOf}
use Rattle.incarnations.proofs.Named.{object, apart_less}
use Rattle.incarnations.proofs.Sets.{some, Has, has, has_map, plain, entry_is, seat_is, body_there, load_on, bodies_left}
use Rattle.incarnations.proofs.Freed.{of_node, unchanged, is_of_self}

-- ---- entries and bodies by name

module _ (k : Stock) (m : Meaning) (view : meaning_of k ≡ m) where
  pub entry_seen : (x : Slot) (was : EntryRecord) → Some was ≡ get k.entries x → get m.entries x ≡ Some was.entry
  entry_seen x was at = ap (λ z. get z.entries x) (sym view) ∙ get_each (λ r. r.entry) k.entries x ∙ ap (option_map (λ r. r.entry)) (sym at)

  pub entry_none : (x : Slot) → None ≡ get k.entries x → get m.entries x ≡ None
  entry_none x at = ap (λ z. get z.entries x) (sym view) ∙ get_each (λ r. r.entry) k.entries x ∙ ap (option_map (λ r. r.entry)) (sym at)

  value_at : (b : BodyName) → get m.bodies b ≡ option_map (λ r. r.value) (get k.bodies b)
  value_at b = ap (λ z. get z.bodies b) (sym view) ∙ get_each (λ r. r.value) k.bodies b

  pub last_none : (s : SessionNo) → get m.lasts s ≡ None → get k.sessions s ≡ None
  last_none s h = by (get k.sessions s) (sym (ap (λ z. get z.lasts s) (sym view) ∙ get_each (λ r. r.last) k.sessions s) ∙ h)
    where
      by : (o : Option SessionRecord) → option_map (λ r. r.last) o ≡ None → o ≡ None
      by None e = refl
      by (Some r) e = no_value r.last (sym e)

  pub last_seen : (s : SessionNo) (home : SessionRecord) → Some home ≡ get k.sessions s → get m.lasts s ≡ Some home.last
  last_seen s home at = ap (λ z. get z.lasts s) (sym view) ∙ get_each (λ r. r.last) k.sessions s ∙ ap (option_map (λ r. r.last)) (sym at)

  pub last_there : (s : SessionNo) → IsSome (get m.lasts s) → None ≡ get k.sessions s → ⊥
  last_there s h none = by (get m.lasts s) h (ap (λ z. get z.lasts s) (sym view) ∙ get_each (λ r. r.last) k.sessions s ∙ ap (option_map (λ r. r.last)) (sym none))
    where
      by : (o : Option ℕ) → IsSome o → o ≡ None → ⊥
      by None h' e = cc
      by (Some n) h' e = no_value n (sym e)

  pub body_free : (b : BodyName) → get m.bodies b ≡ None → get k.bodies b ≡ None
  body_free b h = by (get k.bodies b) (sym (value_at b) ∙ h)
    where
      by : (o : Option BodyRecord) → option_map (λ r. r.value) o ≡ None → o ≡ None
      by None e = refl
      by (Some r) e = no_value r.value (sym e)

  pub body_in : (b : BodyName) → IsSome (get m.bodies b) → IsSome (get k.bodies b)
  body_in b h = by (get k.bodies b) (subst IsSome (value_at b) h)
    where
      by : (o : Option BodyRecord) → IsSome (option_map (λ r. r.value) o) → IsSome o
      by None e = e
      by (Some r) e = e

  pub has_it : (b : BodyName) (place : BodyPlace) → Some place ≡ option_map (λ r. r.place) (get k.bodies b) → true ≡ is_some (get m.bodies b)
  has_it b place is = sym (ap is_some (value_at b) ∙ by (get k.bodies b) is)
    where
      by : (o : Option BodyRecord) → Some place ≡ option_map (λ r. r.place) o → is_some (option_map (λ (r : BodyRecord). r.value) o) ≡ true
      by None e = no_value place (sym e)
      by (Some r) e = refl

  pub has_not : (b : BodyName) → None ≡ option_map (λ (r : BodyRecord). r.place) (get k.bodies b) → false ≡ is_some (get m.bodies b)
  has_not b is = sym (ap is_some (value_at b) ∙ by (get k.bodies b) is)
    where
      by : (o : Option BodyRecord) → None ≡ option_map (λ (r : BodyRecord). r.place) o → is_some (option_map (λ (r : BodyRecord). r.value) o) ≡ false
      by None e = refl
      by (Some r) e = no_value r.place e

  -- the value under an entry
  module _ (x : Slot) where
    pub value_seen : (was : EntryRecord) (v : View) → Some was ≡ get k.entries x → was.entry.view ≡ Some v → option_map (λ r. r.value) (get k.bodies (body was.entry.pid v)) ≡ option_and_then (get m.bodies) (body_under m x)
    value_seen was v at is =
        sym (value_at (body was.entry.pid v)) ∙ sym (ap (λ o. option_and_then (get m.bodies) (option_and_then body_of o)) (entry_seen x was at) ∙ ap (λ o. option_and_then (get m.bodies) (option_map (body was.entry.pid) o)) is)

    pub value_loose : (was : EntryRecord) → Some was ≡ get k.entries x → was.entry.view ≡ None → None ≡ option_and_then (get m.bodies) (body_under m x)
    value_loose was at is = sym (ap (λ o. option_and_then (get m.bodies) (option_and_then body_of o)) (entry_seen x was at) ∙ ap (λ o. option_and_then (get m.bodies) (option_map (body was.entry.pid) o)) is)

    pub value_none : None ≡ get k.entries x → None ≡ option_and_then (get m.bodies) (body_under m x)
    value_none at = sym (ap (λ o. option_and_then (get m.bodies) (option_and_then body_of o)) (entry_none x at))

-- ---- what always holds

module _ (k : Stock) (sound : IsSound k) where
  stored : (x : Slot) (e : Entry) → get (plain k.entries) x ≡ Some e → Has (get k.entries x)
  stored x e at = has_map (λ r. r.entry) (get k.entries x) e (sym (get_each (λ r. r.entry) k.entries x) ∙ at)

  stored_is : (x : Slot) (e : Entry) (at : get (plain k.entries) x ≡ Some e) → (stored x e at).value.entry ≡ e
  stored_is x e at = one_value (sym (ap (option_map (λ r. r.entry)) (stored x e at).is) ∙ sym (get_each (λ r. r.entry) k.entries x) ∙ at)

  pub number_of : (x : Slot) (e : Entry) → get (plain k.entries) x ≡ Some e → get k.objects (object x.session e.pid) ≡ Some x.number
  number_of x e at = sound.names.named x e.pid (ap (option_map (λ r. r.entry.pid)) (stored x e at).is ∙ ap (λ z. Some z.pid) (stored_is x e at))

  -- entries of one session for one object
  pub one_entry : (x y : Slot) (e f : Entry) → get (plain k.entries) x ≡ Some e → get (plain k.entries) y ≡ Some f → x.session ≡ y.session → e.pid ≡ f.pid → x ≡ y
  one_entry x y e f at at' same same' =
      let numbers : x.number ≡ y.number = one_value (sym (number_of x e at) ∙ (λ i. get k.objects (object (same i) (same' i))) ∙ number_of y f at') in
      λ i. slot (same i) (numbers i)

  body_in_of : (x : Slot) (e : Entry) → get (plain k.entries) x ≡ Some e → (b : BodyName) → body_of e ≡ Some b → IsSome (get (meaning_of k).bodies b)
  body_in_of x e at b is =
      let on : place_of x e ≡ On b = on_found x e b (ap (λ o. given o false (same_body b)) is ∙ body_self b) in
      let h = body_there k sound x (stored x e at).value (stored x e at).is b (ap (place_of x) (stored_is x e at) ∙ on) in
      some (get (meaning_of k).bodies b) (get_each (λ r. r.value) k.bodies b ∙ ap (option_map (λ r. r.value)) h.is)

  pub sound_copies : AreCopies (meaning_of k)
  sound_copies = record {
    numbers = sound.numbers.numbers;
    counts = sound.numbers.counts;
    objects = one_entry;
    bodies = λ x b is. by x b (get (plain k.entries) x) refl is;
    stood_on = λ b h. stood b (get k.bodies b) refl (subst IsSome (get_each (λ r. r.value) k.bodies b) h);
  }
    where
      by : (x : Slot) (b : BodyName) (o : Option Entry) → get (plain k.entries) x ≡ o → option_and_then body_of o ≡ Some b → IsSome (get (meaning_of k).bodies b)
      by x b None at is = no_value b is
      by x b (Some e) at is = body_in_of x e at b is

      stood : (b : BodyName) (o : Option BodyRecord) → get k.bodies b ≡ o → IsSome (option_map (λ r. r.value) o) → 0 < count (stands_on b) (plain k.entries)
      stood b None is h = absurd (cc)
      stood b (Some r) is h = let l = load_on k sound b r is in omega (arith, l.0, l.1)

  -- ---- rings

  abbrev Owner : Node → Seat Slot → Type 0
  Owner node seat = IsNodeOf k.pool (spot_at k) (row_at k) (col_at k) sound.seats node seat

  seat_with : (a : Node) (x : Slot) → item_in k.pool a ≡ Some x → Has (get k.pool.nodes a)
  seat_with a x is = has_map (λ z. z.item) (get k.pool.nodes a) x is

  node_in : (a : Node) (x : Slot) → item_in k.pool a ≡ Some x → option_map (λ t. t.node) (spot_at k x) ≡ Some a
  node_in a x is =
      let h = seat_with a x is in
      let same : h.value.item ≡ x = one_value (sym (ap (option_map (λ z. z.item)) h.is) ∙ is) in
      ap (λ z. option_map (λ t. t.node) (spot_at k z)) (sym same) ∙ sound.seats.known a h.value h.is

  -- the place under an entry, by its body
  place_under : (x : Slot) (c : BodyName) (spot : Spot) → spot_at k x ≡ Some spot → body_under (meaning_of k) x ≡ Some c → spot.place ≡ On c
  place_under x c spot at is =
      let h = has_map (spot_of x) (get k.entries x) spot at in
      let entry : get (plain k.entries) x ≡ Some h.value.entry = entry_is k sound x h.value h.is in
      let under : body_of h.value.entry ≡ Some c = sym (ap (option_and_then body_of) entry) ∙ is in
      sym (ap (λ z. z.place) (one_value (sym (ap (option_map (spot_of x)) h.is) ∙ at))) ∙ on_found x h.value.entry c (ap (λ o. given o false (same_body c)) under ∙ body_self c)

  under_place : (x : Slot) (c : BodyName) (spot : Spot) → spot_at k x ≡ Some spot → spot.place ≡ On c → body_under (meaning_of k) x ≡ Some c
  under_place x c spot at on =
      let h = has_map (spot_of x) (get k.entries x) spot at in
      let entry : get (plain k.entries) x ≡ Some h.value.entry = entry_is k sound x h.value h.is in
      let here : place_of x h.value.entry ≡ On c = ap (λ z. z.place) (one_value (sym (ap (option_map (spot_of x)) h.is) ∙ at)) ∙ on in
      ap (option_and_then body_of) entry ∙ by h.value.entry h.value.entry.view refl here
    where
      on_same : {b d : BodyName} → On b ≡ On d → b ≡ d
      on_same e = cc

      never : {A : Type 0} {t : SessionNo} → Loose t ≡ On c → A
      never e = absurd (cc)

      by : (e : Entry) (o : Option View) → e.view ≡ o → place_of x e ≡ On c → body_of e ≡ Some c
      by e None is p = never (sym (ap (λ z. given z (Loose x.session) (λ v. On (body e.pid v))) is) ∙ p)
      by e (Some v) is p = ap (option_map (body e.pid)) is ∙ ap Some (on_same (sym (ap (λ z. given z (Loose x.session) (λ w. On (body e.pid w))) is) ∙ p))

  pub sound_rings : AreCopyRings (meaning_of k) k.pool
  sound_rings = record {
    entries = λ x h. let e = has (get (plain k.entries) x) h in let r = stored x e.value e.is in
        record { node = r.value.node; item = ap (option_map (λ z. z.item)) (seat_is k sound x r.value r.is).at };
    nodes = λ a x is. let t = has_map (λ z. z.node) (spot_at k x) a (node_in a x is) in let r = has_map (spot_of x) (get k.entries x) t.value t.is in some (get (plain k.entries) x) (entry_is k sound x r.value r.is);
    once = λ a b x is is'. one_value (sym (node_in a x is) ∙ node_in b x is');
    cols = λ a b s t at at'. let u = own a s at in let v = own b t at' in
        (λ e. sound.cols.apart s.item.session t.item.session s.col u.col_is (v.col_is ∙ ap Some (sym e)), λ e. one_value (sym u.col_is ∙ ap (col_at k) e ∙ v.col_is));
    rows = λ a b s t c at at' is. let u = own a s at in let v = own b t at' in
        let here : u.spot.place ≡ On c = place_under s.item c u.spot u.at is in (
          λ e. under_place t.item c v.spot v.at (sound.rows.apart v.spot.place (On c) s.row (v.row_is ∙ ap Some (sym e)) (ap (row_at k) (sym here) ∙ u.row_is)),
          λ e. one_value (sym u.row_is ∙ ap (row_at k) (here ∙ sym (place_under t.item c v.spot v.at e)) ∙ v.row_is),
        );
  }
    where
      own : (node : Node) (seat : Seat Slot) → get k.pool.nodes node ≡ Some seat → Owner node seat
      own node seat at = of_node k sound node seat at

-- ---- single calls

-- the last of an entry's count
pub erased_gone : (k n : Stock) → IsSound n → (x : Slot) → IsErased (meaning_of k) (meaning_of n) x → IsGone (meaning_of k) (meaning_of n) x
erased_gone k n sound x erased = record {
  lasts = erased.lasts;
  left = record { entries = λ y. by y (same_or_apart slot_key y x) (get (plain k.entries) y) refl; bodies = λ b. bodies_left n sound b (meaning_of k).bodies (erased.bodies b) };
}
  where
    other : (y : Slot) → y ≢ x → (t : Bool) → same_slot y x ≡ t → t ≡ false
    other y ne true e = absurd (ne (slot_told y x e))
    other y ne false e = refl

    by : (y : Slot) → (y ≡ x) ⊎ (y ≢ x) → (o : Option Entry) → get (plain k.entries) y ≡ o → get (plain n.entries) y ≡ option_and_then (freed (λ z e. same_slot z x) y) (get (plain k.entries) y)
    by y (inl e) None at = ap (λ z. get z y) erased.entries ∙ ap (get (remove (plain k.entries) x)) e ∙ remove_here slot_key (plain k.entries) x ∙ sym (ap (option_and_then (freed (λ z f. same_slot z x) y)) at)
    by y (inl e) (Some f) at = ap (λ z. get z y) erased.entries ∙ ap (get (remove (plain k.entries) x)) e ∙ remove_here slot_key (plain k.entries) x
        ∙ sym (ap (option_and_then (freed (λ z g. same_slot z x) y)) at ∙ ap (λ z. cond (same_slot z x) None (Some f)) e ∙ ap (λ t. cond t None (Some f)) (slot_self x))
    by y (inr ne) None at = ap (λ z. get z y) erased.entries ∙ remove_apart slot_key (plain k.entries) x y ne ∙ at ∙ sym (ap (option_and_then (freed (λ z f. same_slot z x) y)) at)
    by y (inr ne) (Some f) at = ap (λ z. get z y) erased.entries ∙ remove_apart slot_key (plain k.entries) x y ne ∙ at
        ∙ sym (ap (option_and_then (freed (λ z g. same_slot z x) y)) at ∙ ap (λ t. cond t None (Some f)) (other y ne (same_slot y x) refl))

-- a session whose entries are gone has none
pub freed_nobody : (s : SessionNo) (a b : Meaning) → Leaves (freed (of_session s)) a b → count (is_of s) b.entries ≡ 0
freed_nobody s a b l = count_none slot_key (is_of s) b.entries (λ y e at. by y e (is_of s (y, e)) refl (sym (l.entries y) ∙ at) (get a.entries y) refl)
  where
    by : (y : Slot) (e : Entry) (t : Bool) → is_of s (y, e) ≡ t → option_and_then (freed (of_session s) y) (get a.entries y) ≡ Some e → (o : Option Entry) → get a.entries y ≡ o → t ≡ false
    by y e false t is o at = refl
    by y e true t is None at = no_value e (sym (ap (option_and_then (freed (of_session s) y)) at) ∙ is)
    by y e true t is (Some f) at = no_value e (sym (ap (option_and_then (freed (of_session s) y)) at ∙ ap (λ q. cond q None (Some f)) t) ∙ is)

-- the same by another test that answers alike
pub leaves_alike : (f g : Slot → Entry → Option Entry) (a b : Meaning) → ((x : Slot) (e : Entry) → f x e ≡ g x e) → Leaves f a b → Leaves g a b
leaves_alike f g a b same l = record { entries = λ x. l.entries x ∙ by x (get a.entries x); bodies = l.bodies }
  where
    by : (x : Slot) (o : Option Entry) → option_and_then (f x) o ≡ option_and_then (g x) o
    by x None = refl
    by x (Some e) = same x e

-- ---- the session's entry for an object

parts : (s t : Bool) → (s && t) ≡ true → (s ≡ true) × (t ≡ true)
parts true t e = (refl, e)
parts false t e = absurd (cc)

module _ (k : Stock) (sound : IsSound k) (s : SessionNo) (pid : Pid) (view : View) where
  abbrev test : Slot → Entry → Bool
  test = both (of_session s) (on_body (body pid view))

  for_it : (y : Slot) (e : Entry) → get (plain k.entries) y ≡ Some e → test y e ≡ true → (y.session ≡ s) × (e.pid ≡ pid)
  for_it y e at on =
      let h = parts (is_of s (y, e)) (stands_on (body pid view) (y, e)) on in
      (session_told y.session s h.0, by e.view refl h.1)
    where
      never : {A : Type 0} → false ≡ true → A
      never q = absurd (cc)

      by : (o : Option View) → e.view ≡ o → given (body_of e) false (same_body (body pid view)) ≡ true → e.pid ≡ pid
      by None is t = never (sym (ap (λ z. given (option_map (body e.pid) z) false (same_body (body pid view))) is) ∙ t)
      by (Some v) is t = sym (ap (λ z. z.pid) (body_told (body pid view) (body e.pid v) (sym (ap (λ z. given (option_map (body e.pid) z) false (same_body (body pid view))) is) ∙ t)))

  -- where no entry passes, all is as before
  nothing_left : ((y : Slot) (e : Entry) → get (plain k.entries) y ≡ Some e → test y e ≡ true → ⊥) → Leaves (loosened test) (meaning_of k) (meaning_of k)
  nothing_left none = unchanged k sound (loosened test) (λ y e at. ap (λ t. Some (cond t (with_view None e) e)) (by y e at (test y e) refl))
    where
      by : (y : Slot) (e : Entry) → get (plain k.entries) y ≡ Some e → (t : Bool) → test y e ≡ t → t ≡ false
      by y e at true is = absurd (none y e at is)
      by y e at false is = refl

  pub no_object : None ≡ get k.objects (object s pid) → Leaves (loosened test) (meaning_of k) (meaning_of k)
  no_object none = nothing_left (λ y e at on. let h = for_it y e at on in no_value y.number (none ∙ (λ i. get k.objects (object (sym h.0 i) (sym h.1 i))) ∙ number_of k sound y e at))

  module _ (number : ℕ) (found : Some number ≡ get k.objects (object s pid)) where
    pub object_entry : None ≡ get k.entries (slot s number) → ⊥
    object_entry none = no_value pid (sym (ap (option_map (λ (r : EntryRecord). r.entry.pid)) (sym none)) ∙ sound.names.meant (object s pid) number (sym found))

    module _ (was : EntryRecord) (at : Some was ≡ get k.entries (slot s number)) where
      pub object_pid : was.entry.pid ≡ pid
      object_pid = one_value (ap (option_map (λ (r : EntryRecord). r.entry.pid)) at ∙ sound.names.meant (object s pid) number (sym found))

      seen_entry : get (plain k.entries) (slot s number) ≡ Some was.entry
      seen_entry = entry_is k sound (slot s number) was (sym at)

      only : (y : Slot) (e : Entry) → get (plain k.entries) y ≡ Some e → test y e ≡ true → y ≡ slot s number
      only y e h on = let q = for_it y e h on in one_entry k sound y (slot s number) e was.entry h seen_entry q.0 (q.1 ∙ sym object_pid)

      pub loose_entry : was.entry.view ≡ None → Leaves (loosened test) (meaning_of k) (meaning_of k)
      loose_entry is =
          nothing_left
          (λ y e h on.
          let same : was.entry ≡ e = one_value (sym seen_entry ∙ ap (get (plain k.entries)) (sym (only y e h on)) ∙ h) in
          unlike (sym (ap (λ z. given (option_map (body e.pid) z) false (same_body (body pid view))) (ap (λ z. z.view) (sym same) ∙ is)) ∙ (parts (is_of s (y, e)) (stands_on (body pid view) (y, e)) on).1))
        where
          unlike : false ≡ true → ⊥
          unlike q = cc

      -- on a body of another view
      pub other_view : (v : View) → was.entry.view ≡ Some v → asks (Some view) v ≡ false → Leaves (loosened test) (meaning_of k) (meaning_of k)
      other_view v is not_asked =
          nothing_left
          (λ y e h on.
          let same : was.entry ≡ e = one_value (sym seen_entry ∙ ap (get (plain k.entries)) (sym (only y e h on)) ∙ h) in
          let here : same_body (body pid view) (body e.pid v) ≡ true = sym (ap (λ z. given (option_map (body e.pid) z) false (same_body (body pid view))) (ap (λ z. z.view) (sym same) ∙ is)) ∙ (parts (is_of s (y, e)) (stands_on (body pid view) (y, e)) on).1 in
          let views : view ≡ v = ap (λ z. z.view) (body_told (body pid view) (body e.pid v) here) in
          unlike (sym not_asked ∙ ap (same_view view) (sym views) ∙ view_self view))
        where
          unlike : false ≡ true → ⊥
          unlike q = cc

      -- on the body of the view
      pub left_view : (v : View) → was.entry.view ≡ Some v → asks (Some view) v ≡ true → (n : Stock) → IsSound n → IsSet (meaning_of k) (meaning_of n) (slot s number) (with_view None was.entry) → Leaves (loosened test) (meaning_of k) (meaning_of n)
      left_view v is asked n sound' set = record {
        entries = λ y. by y (same_or_apart slot_key y (slot s number)) (get (plain k.entries) y) refl;
        bodies = λ b. bodies_left n sound' b (meaning_of k).bodies (set.bodies b);
      }
        where
          stood : stands_on (body pid view) (slot s number, was.entry) ≡ true
          stood =
              ap (λ z. given (option_map (body was.entry.pid) z) false (same_body (body pid view))) is ∙ (λ i. same_body (body pid view) (body (object_pid i) (sym (view_told view v asked) i))) ∙ body_self (body pid view)

          passes : test (slot s number) was.entry ≡ true
          passes = (λ i. is_of_self s (slot s number) was.entry refl i && stood i)

          other : (y : Slot) (e : Entry) → get (plain k.entries) y ≡ Some e → y ≢ slot s number → (t : Bool) → test y e ≡ t → t ≡ false
          other y e h ne true on = absurd (ne (only y e h on))
          other y e h ne false on = refl

          by : (y : Slot) → (y ≡ slot s number) ⊎ (y ≢ slot s number) → (o : Option Entry) → get (plain k.entries) y ≡ o → get (plain n.entries) y ≡ option_and_then (loosened test y) (get (plain k.entries) y)
          by y (inl e) o h =
              ap (λ z. get z y) set.entries ∙ ap (get (insert (plain k.entries) (slot s number) (with_view None was.entry))) e ∙ insert_here slot_key (plain k.entries) (slot s number) (with_view None was.entry)
              ∙ sym (ap (λ z. option_and_then (loosened test z) (get (plain k.entries) z)) e ∙ ap (option_and_then (loosened test (slot s number))) seen_entry ∙ ap (λ t. Some (cond t (with_view None was.entry) was.entry)) passes)
          by y (inr ne) None h = ap (λ z. get z y) set.entries ∙ insert_apart slot_key (plain k.entries) (slot s number) (with_view None was.entry) y ne ∙ h ∙ sym (ap (option_and_then (loosened test y)) h)
          by y (inr ne) (Some e) h =
              ap (λ z. get z y) set.entries ∙ insert_apart slot_key (plain k.entries) (slot s number) (with_view None was.entry) y ne ∙ h
              ∙ sym (ap (option_and_then (loosened test y)) h ∙ ap (λ t. Some (cond t (with_view None e) e)) (other y e h ne (test y e) refl))

-- ---- a body with another value

module _ (k : Stock) (sound : IsSound k) (b : BodyName) (value : List PlainValue) (bodies : FinMap body_cmp BodyRecord) (with : IsWith k.bodies bodies b (with_value value)) (place : BodyPlace) (there : Some place ≡ option_map (λ r. r.place) (get k.bodies b)) where
  r : Has (get k.bodies b)
  r = has_map (λ z. z.place) (get k.bodies b) place (sym there)

  bodies_is : bodies ≡ insert k.bodies b (with_value value r.value)
  bodies_is = subst (λ o. IsSomeAnd o (λ z. bodies ≡ insert k.bodies b (with_value value z))) r.is with

  same_place : (c : BodyName) → option_map (λ z. z.place) (get bodies c) ≡ option_map (λ z. z.place) (get k.bodies c)
  same_place c =
      ap (λ t. option_map (λ z. z.place) (get t c)) bodies_is
      ∙ ⊎_elim (λ e. ap (λ z. option_map (λ y. y.place) (get (insert k.bodies b (with_value value r.value)) z)) e ∙ ap (option_map (λ z. z.place)) (insert_here body_key k.bodies b (with_value value r.value)) ∙ sym (ap (option_map (λ z. z.place)) r.is) ∙ ap (λ z. option_map (λ y. y.place) (get k.bodies z)) (sym e))
      (λ ne. ap (option_map (λ z. z.place)) (insert_apart body_key k.bodies b (with_value value r.value) c ne)) (same_or_apart body_key c b)

  through : {X : Type 0} (f : BodyPlace → X) (o : Option BodyRecord) → option_map (λ z. f z.place) o ≡ option_map f (option_map (λ z. z.place) o)
  through f None = refl
  through f (Some z) = refl

  abbrev n : Stock
  n = record { pool = k.pool; sessions = k.sessions; entries = k.entries; objects = k.objects; bodies = bodies; attached = k.attached }

  rows_same : (a : Place) → row_at n a ≡ row_at k a
  rows_same (Loose s) = refl
  rows_same (On c) = through (λ z. z.row) (get bodies c) ∙ ap (option_map (λ z. z.row)) (same_place c) ∙ sym (through (λ z. z.row) (get k.bodies c))

  loads_same : (c : BodyName) → load_at n c ≡ load_at k c
  loads_same c = through (λ z. z.entries) (get bodies c) ∙ ap (option_map (λ z. z.entries)) (same_place c) ∙ sym (through (λ z. z.entries) (get k.bodies c))

  pub revalued_sound : IsSound n
  revalued_sound = record {
    seats = seats_alike k.pool (spot_at k) (spot_at k) (row_at k) (row_at n) (col_at k) (col_at k) sound.seats (λ y. refl) (λ y spot h. rows_same spot.place) (λ y spot h. refl);
    rows = apart_less (row_at k) (row_at n) k.pool.rows k.pool.rows sound.rows (λ a z h. sym (rows_same a) ∙ h) (λ a z h t. t);
    cols = sound.cols;
    names = sound.names;
    numbers = sound.numbers;
    counts = record { sessions = sound.counts.sessions; bodies = λ c l h. sound.counts.bodies c l (sym (loads_same c) ∙ h); some = λ c l h. sound.counts.some c l (sym (loads_same c) ∙ h); all = sound.counts.all };
    lengths = sound.lengths;
    fronts = sound.fronts;
  }

  pub revalued_is : meaning_of n ≡ rewritten (meaning_of k) b value
  revalued_is = λ i. record {
    lasts = (meaning_of k).lasts;
    entries = (meaning_of k).entries;
    bodies = (ap (each (λ z. z.value)) bodies_is ∙ each_insert (λ z. z.value) body_key k.bodies b (with_value value r.value)
        ∙ sym (ap (λ o. given o (meaning_of k).bodies (λ v. insert (meaning_of k).bodies b value)) (get_each (λ z. z.value) k.bodies b ∙ ap (option_map (λ z. z.value)) r.is))) i;
  }

-- a body that is not there
pub not_revalued : (k : Stock) (b : BodyName) (value : List PlainValue) → None ≡ option_map (λ (r : BodyRecord). r.place) (get k.bodies b) → meaning_of k ≡ rewritten (meaning_of k) b value
not_revalued k b value none = λ i. record { lasts = (meaning_of k).lasts; entries = (meaning_of k).entries; bodies = sym (ap (λ o. given o (meaning_of k).bodies (λ v. insert (meaning_of k).bodies b value)) (get_each (λ z. z.value) k.bodies b ∙ by (get k.bodies b) none)) i }
  where
    by : (o : Option BodyRecord) → None ≡ option_map (λ (r : BodyRecord). r.place) o → option_map (λ (r : BodyRecord). r.value) o ≡ None
    by None h = refl
    by (Some r) h = no_value r.place h
