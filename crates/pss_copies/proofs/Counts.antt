-- How many entries there are, how many of them stand on bodies, and how many bodies.
use Rattle.std.proofs.Common.{arith, ◌≡◌, ℕ, ◌+◌, ◌==◌, ◌&&◌, Bool, true, false, cond, not, List, [], ◌∷◌, map, length, Option, Some, None, IsSome, refl, sym, ap, ◌∙◌}
use Rattle.std.specs.Prelude.{◌||◌, is_some, filter, nat_lt, unwrap_or}
use Rattle.std.specs.Option.{option_map, option_and_then}
use Rattle.std.specs.List.{list_any, flat_map, sum}
use Rattle.std.specs.Ordering.{nat_cmp}
use Rattle.std.specs.Cmp.{nat_cmp_total}
use Rattle.std.specs.FinMap.{FinMap, get, remove, empty, entries, len, len-entries, len-insert, len-empty, get-empty, nat_cmp-IsAntisymmetric}
use Rattle.std.proofs.lemmas.List.{length-map}
use Rattle.std.proofs.lemmas.Bool.{eqb-true, lt-ltb, ltb-true}
use Rattle.pss_base.specs.declared.pid.Pid.{Pid}
use Rattle.pss_base.specs.declared.session.SessionNo.{SessionNo}
use Rattle.type_layout.specs.Types.{PlainValue}
use Rattle.type_layout.specs.Schemas.{given}
use Rattle.type_layout.specs.Sound.{are_distinct}
use Rattle.pss_machine.specs.declared.session.View.{View}
use Rattle.pss_machine.specs.declared.session.View.TheVariants.{Committed}
use Rattle.pss_machine.specs.Sessions.{Session}
use Rattle.pss_machine.specs.Copies.{Copies, Body, same_body as same_name, body_in, view_in, names_in, bodies, is_attached as is_told_attached}
use Rattle.pss_machine.specs.Kept.{Kept, copies_of}
use Rattle.pss_machine.specs.Deciding.{entry_count, all_names}
use Rattle.pss_machine.specs.Entries.{AreOrderly}
use Rattle.pss_machine.proofs.Distinct.{bodies_right}
use Rattle.pss_machine.proofs.Logic.{none_some, same_some, true_false}
use Rattle.pss_session.specs.Meaning.{HaveSessions}
use Rattle.incarnations.specs.declared.names.Slot.{Slot}
use Rattle.incarnations.specs.declared.names.BodyName.{BodyName}
use Rattle.incarnations.specs.declared.names.Entry.{Entry}
use Rattle.incarnations.specs.Keys.{body_cmp}
use Rattle.recent_table.specs.Maps.{count}
use Rattle.incarnations.specs.Meaning.{AreCopies, body, body_of, same_body, stands_on, entries_on, is_of, is_attached, entries_of, length_of}
use Rattle.incarnations.proofs.Keys.{slot_key, body_key, body_told, body_self}
use Rattle.recent_table.proofs.Maps as maps
use Rattle.pss_copies.specs.declared.parts.Parts.{Parts}
use Rattle.pss_copies.specs.Told.{entry_told, stand_told}
use Rattle.pss_copies.specs.Seats.{Attends}
use Rattle.pss_copies.proofs.Holders.{Holder, holder}
use Rattle.pss_copies.proofs.Held.{copies_there}
use Rattle.pss_copies.proofs.Left.{stands_attached}
use Rattle.pss_copies.proofs.Listed.{EachOf, map_each, flat_each, each_entry, filter_twice, filter_all, any_filter, any_map, any_flat, flat_length, any_counted, parts_with, part_sum, part_any, one_key}
use Rattle.pss_copies.proofs.Rising.{told_of, entries_are}

and_true : (b : Bool) → (b && true) ≡ b
and_true true = refl
and_true false = refl

nat_key : maps.IsKey nat_cmp
nat_key = record { total = nat_cmp_total; alike = nat_cmp-IsAntisymmetric }

-- the name of a body, as the machine has it
abbrev stored_name : BodyName → Body
stored_name b = record { pid = b.pid; view = b.view }

-- the body under an entry that stands on one
abbrev name_under : Slot × Entry → Body
name_under e = record { pid = e.1.pid; view = unwrap_or e.1.view Committed }

-- ---- names, each once

module _ {V : Type 0} where
  no_keys : (m : FinMap body_cmp V) → ((q : BodyName) → get m q ≡ None) → len m ≡ 0
  no_keys m none = ap len (maps.alike_maps body_key m empty (λ q. none q ∙ sym (get-empty body_cmp q))) ∙ len-empty body_cmp V

  one_less : (m : FinMap body_cmp V) (q : BodyName) (v : V) → get m q ≡ Some v → len m ≡ len (remove m q) + 1
  one_less m q v there =
      ap len (sym (maps.put_back body_key m q v there) ∙ sym (maps.insert_remove body_key m q v))
      ∙ (let key : maps.IsKey body_cmp = body_key in len-insert key.total (remove m q) q v)
      ∙ ap (λ o. cond (is_some o) (len (remove m q)) (len (remove m q) + 1)) (maps.remove_here body_key m q)

  none_of : (o : Option V) → is_some o ≡ false → o ≡ None
  none_of None e = refl
  none_of (Some v) e = absurd (true_false refl e)

  some_of : (o : Option V) → is_some o ≡ true → (v : V) × (o ≡ Some v)
  some_of None e = absurd (true_false e refl)
  some_of (Some v) e = (v, refl)

  -- names, each once, are as many as the keys that they are
  pub as_many : (xs : List Body) (m : FinMap body_cmp V) → are_distinct same_name xs ≡ true → ((x : Body) → list_any (same_name x) xs ≡ is_some (get m (body x.pid x.view))) → length xs ≡ len m
  as_many [] m apart are = sym (no_keys m (λ q. none_of (get m q) (sym (are (stored_name q)))))
  as_many (d ∷ ds) m apart are =
      let there = some_of (get m (body d.pid d.view)) (sym (are d) ∙ ap (λ b. b || list_any (same_name d) ds) (body_self (body d.pid d.view))) in
      let rest = as_many ds (remove m (body d.pid d.view)) (second (list_any (same_name d) ds) (are_distinct same_name ds) apart) (λ x. others x (same_name x d) refl) in
      omega (arith, one_less m (body d.pid d.view) there.0 there.1, rest)
    where
      first : (a b : Bool) → (not a && b) ≡ true → a ≡ false
      first true b e = absurd (true_false e refl)
      first false b e = refl

      second : (a b : Bool) → (not a && b) ≡ true → b ≡ true
      second true b e = absurd (true_false e refl)
      second false b e = e

      others : (x : Body) (b : Bool) → same_name x d ≡ b → list_any (same_name x) ds ≡ is_some (get (remove m (body d.pid d.view)) (body x.pid x.view))
      others x true is =
          let same : body x.pid x.view ≡ body d.pid d.view = body_told (body x.pid x.view) (body d.pid d.view) is in
          ap (λ q. list_any (same_name (stored_name q)) ds) same
          ∙ first (list_any (same_name d) ds) (are_distinct same_name ds) apart
          ∙ sym (ap is_some (ap (get (remove m (body d.pid d.view))) same ∙ maps.remove_here body_key m (body d.pid d.view)))
      others x false is =
          sym (ap (λ b. b || list_any (same_name x) ds) is)
          ∙ are x
          ∙ sym (ap is_some (maps.remove_apart body_key m (body d.pid d.view) (body x.pid x.view) (λ same. true_false (ap (λ q. same_body q (body d.pid d.view)) same ∙ body_self (body d.pid d.view)) is)))

-- ---- what the machine counts

-- a session's entries
pub length_at : (k : Kept) (a : Parts) (s : SessionNo) (c : Copies) → get k.copies s.0 ≡ Some c → AreOrderly c → Attends k a → length_of a.copies s ≡ length c.entries
length_at k a s c there orderly at = sym (ap length (entries_are a.copies s c orderly (at.seats.told.each s c there)) ∙ length-map (entries_of a.copies s) (told_of a.copies))

module _ (k : Kept) (a : Parts) (are : AreCopies a.copies) (have : HaveSessions a.sessions a.copies) (orderly : (s : ℕ) (copies : Copies) → get k.copies s ≡ Some copies → AreOrderly copies) (at : Attends k a) where
  abbrev stored : List (Slot × Entry)
  stored = entries a.copies.entries

  abbrev is_in : ℕ × Copies → Slot × Entry → Bool
  is_in q e = e.0.session.0 == q.0

  entries_at : (s : ℕ) (c : Copies) → get k.copies s ≡ Some c → c.entries ≡ map (told_of a.copies) (entries_of a.copies (record { 0 = s }))
  entries_at s c there = entries_are a.copies (record { 0 = s }) c (orderly s c there) (at.seats.told.each (record { 0 = s }) c there)

  in_one : EachOf (λ e. parts_with (λ q e. e.0.session.0 == q.0) e (entries k.copies) ≡ 1) (entries a.copies.entries)
  in_one = each_entry slot_key (λ e. parts_with (λ q e. e.0.session.0 == q.0) e (entries k.copies) ≡ 1) a.copies.entries (λ x e there. one_key k.copies x.session.0 (copies_of k x.session) (copies_there a.copies k.copies are at.seats.told x.session x.number e there))

  -- all entries
  pub entries_counted : len a.copies.entries ≡ entry_count k
  entries_counted =
      len-entries a.copies.entries
      ∙ sym (ap length (filter_all stored))
      ∙ sym (part_sum is_in (λ e. true) (entries k.copies) stored in_one)
      ∙ sym (ap sum (map_each (λ q. length q.1.entries) (λ q. length (filter (λ e. is_in q e && true) stored)) (entries k.copies) (each_entry nat_key (λ q. length q.1.entries ≡ length (filter (λ e. is_in q e && true) stored)) k.copies each)))
    where
      each : (s : ℕ) (c : Copies) → get k.copies s ≡ Some c → length c.entries ≡ length (filter (λ e. (e.0.session.0 == s) && true) stored)
      each s c there = sym (length_at k a (record { 0 = s }) c there (orderly s c there) at) ∙ (λ i. length (filter (λ e. sym (and_true (e.0.session.0 == s)) i) stored))

  -- ---- names

  named : (f : Pid → Body) (xs : List (Slot × Entry)) → EachOf (λ e. (is_told_attached (told_of a.copies e) ≡ is_attached e) × (is_attached e ≡ true → f e.1.pid ≡ name_under e)) xs → names_in f (map (told_of a.copies) xs) ≡ map name_under (filter is_attached xs)
  named f [] each = refl
  named f (e ∷ xs) each =
      ap (λ b. map (λ e. f e.pid) (cond b (told_of a.copies e ∷ filter is_told_attached (map (told_of a.copies) xs)) (filter is_told_attached (map (told_of a.copies) xs)))) each.0.0
      ∙ by (is_attached e) refl (named f xs each.1)
    where
      by : (b : Bool) → is_attached e ≡ b → names_in f (map (told_of a.copies) xs) ≡ map name_under (filter is_attached xs)
          → map (λ e. f e.pid) (cond b (told_of a.copies e ∷ filter is_told_attached (map (told_of a.copies) xs)) (filter is_told_attached (map (told_of a.copies) xs))) ≡ map name_under (cond b (e ∷ filter is_attached xs) (filter is_attached xs))
      by true is rest = λ i. each.0.1 is i ∷ rest i
      by false is rest = rest

  module _ (s : ℕ) (session : Session) (in_it : get k.sessions s ≡ Some session) where
    attached_alike : (x : Slot) (e : Entry) → get a.copies.entries x ≡ Some e → is_told_attached (entry_told a.copies x.number e) ≡ is_some e.view
    attached_alike x e there = by e.view refl
      where
        by : (o : Option View) → e.view ≡ o → is_told_attached (entry_told a.copies x.number e) ≡ is_some e.view
        by None is = ap (λ o. is_told_attached (record { number = x.number; pid = e.pid; count = e.count; stand = stand_told a.copies e.pid o })) is ∙ sym (ap is_some is)
        by (Some v) is = stands_attached a.copies are x x.number e v there is ∙ sym (ap is_some is)

    named_alike : (x : Slot) (e : Entry) → get a.copies.entries x ≡ Some e → (x.session.0 == s) ≡ true → is_some e.view ≡ true → body_in k.owners (record { 0 = s }) session e.pid ≡ name_under (x, e)
    named_alike x e there of = by e.view refl
      where
        by : (o : Option View) → e.view ≡ o → is_some e.view ≡ true → body_in k.owners (record { 0 = s }) session e.pid ≡ name_under (x, e)
        by None is some = absurd (true_false some (ap is_some is))
        by (Some v) is some =
            let seat = at.seats.seated x e v there is in
            let number : x.session.0 ≡ s = eqb-true x.session.0 s of in
            let one : seat.session ≡ session = same_some (sym seat.there ∙ ap (get k.sessions) number ∙ in_it) in
            let seen : v ≡ view_in k.owners (record { 0 = s }) session e.pid = seat.seen ∙ (λ i. view_in k.owners (record { 0 = number i }) (one i) e.pid) in
            λ i. record { pid = e.pid; view = (sym seen ∙ sym (ap (λ o. unwrap_or o Committed) is)) i }

    named_in : names_in (body_in k.owners (record { 0 = s }) session) (map (told_of a.copies) (entries_of a.copies (record { 0 = s }))) ≡ map name_under (filter is_attached (entries_of a.copies (record { 0 = s })))
    named_in = named (body_in k.owners (record { 0 = s }) session) (entries_of a.copies (record { 0 = s })) (each_of stored (each_entry slot_key (λ e. get a.copies.entries e.0 ≡ Some e.1) a.copies.entries (λ x e there. there)))
      where
        each_of : (es : List (Slot × Entry)) → EachOf (λ e. get a.copies.entries e.0 ≡ Some e.1) es
            → EachOf (λ e. (is_told_attached (told_of a.copies e) ≡ is_attached e) × (is_attached e ≡ true → body_in k.owners (record { 0 = s }) session e.1.pid ≡ name_under e)) (filter (is_of (record { 0 = s })) es)
        each_of [] each = tt
        each_of (e ∷ es) each = by (is_of (record { 0 = s }) e) refl (each_of es each.1)
          where
            by : (b : Bool) → is_of (record { 0 = s }) e ≡ b → EachOf (λ e. (is_told_attached (told_of a.copies e) ≡ is_attached e) × (is_attached e ≡ true → body_in k.owners (record { 0 = s }) session e.1.pid ≡ name_under e)) (filter (is_of (record { 0 = s })) es)
                → EachOf (λ e. (is_told_attached (told_of a.copies e) ≡ is_attached e) × (is_attached e ≡ true → body_in k.owners (record { 0 = s }) session e.1.pid ≡ name_under e)) (cond b (e ∷ filter (is_of (record { 0 = s })) es) (filter (is_of (record { 0 = s })) es))
            by true is rest = ((attached_alike e.0 e.1 each.0, named_alike e.0 e.1 each.0 is), rest)
            by false is rest = rest

  names_at : (s : ℕ) (c : Copies) → get k.copies s ≡ Some c → given (get k.sessions s) [] (λ session. names_in (body_in k.owners (record { 0 = s }) session) c.entries) ≡ map name_under (filter is_attached (entries_of a.copies (record { 0 = s })))
  names_at s c there = by (get k.sessions s) refl
    where
      known : is_some (get k.sessions s) ≡ true
      known = ap (λ m. is_some (get m s)) (sym at.sessions) ∙ sym (have (record { 0 = s })) ∙ sym (at.seats.told.same (record { 0 = s })) ∙ ap is_some there

      by : (o : Option Session) → get k.sessions s ≡ o → given o [] (λ session. names_in (body_in k.owners (record { 0 = s }) session) c.entries) ≡ map name_under (filter is_attached (entries_of a.copies (record { 0 = s })))
      by None none = absurd (true_false known (ap is_some none))
      by (Some session) in_it = ap (names_in (body_in k.owners (record { 0 = s }) session)) (entries_at s c there) ∙ named_in s session in_it

  abbrev names_of : ℕ × Copies → List Body
  names_of q = map name_under (filter is_attached (filter (is_of (record { 0 = q.0 })) stored))

  names_are : all_names k ≡ flat_map (λ q. map name_under (filter is_attached (filter (is_of (record { 0 = q.0 })) (entries a.copies.entries)))) (entries k.copies)
  names_are =
      flat_each (λ q. given (get k.sessions q.0) [] (λ session. names_in (body_in k.owners (record { 0 = q.0 }) session) q.1.entries)) names_of (entries k.copies)
      (each_entry nat_key (λ q. given (get k.sessions q.0) [] (λ session. names_in (body_in k.owners (record { 0 = q.0 }) session) q.1.entries) ≡ names_of q) k.copies names_at)

  -- the entries that stand on bodies
  pub attached_counted : count is_attached a.copies.entries ≡ length (all_names k)
  attached_counted =
      sym (ap length names_are
      ∙ flat_length names_of (entries k.copies)
      ∙ (λ i. sum (map (λ q. (length-map (filter is_attached (filter (is_of (record { 0 = q.0 })) stored)) name_under ∙ ap length (filter_twice is_attached (is_of (record { 0 = q.0 })) stored)) i) (entries k.copies)))
      ∙ part_sum is_in is_attached (entries k.copies) stored in_one)

  -- the bodies
  module _ (x : Body) where
    abbrev hits : Slot × Entry → Bool
    hits e = is_attached e && same_name x (name_under e)

    hits_is : (e : Slot × Entry) → (is_attached e && same_name x (name_under e)) ≡ stands_on (body x.pid x.view) e
    hits_is e = by e.1.view
      where
        by : (o : Option View) → (is_some o && same_name x (record { pid = e.1.pid; view = unwrap_or o Committed })) ≡ given (option_map (body e.1.pid) o) false (same_body (body x.pid x.view))
        by None = refl
        by (Some v) = refl

    in_part : (q : ℕ × Copies) → list_any (same_name x) (names_of q) ≡ list_any (λ e. is_in q e && hits e) stored
    in_part q =
        any_map (same_name x) name_under (filter is_attached (filter (is_of (record { 0 = q.0 })) stored))
        ∙ any_filter (λ e. same_name x (name_under e)) is_attached (filter (is_of (record { 0 = q.0 })) stored)
        ∙ any_filter hits (is_of (record { 0 = q.0 })) stored

    stood : nat_lt 0 (entries_on a.copies (body x.pid x.view)) ≡ is_some (get a.copies.bodies (body x.pid x.view))
    stood = by (get a.copies.bodies (body x.pid x.view)) refl
      where
        some_body : (o : Option (List PlainValue)) (v : List PlainValue) → o ≡ Some v → IsSome o
        some_body None v is = absurd (none_some is)
        some_body (Some w) v is = refl

        no_body : (o : Option (List PlainValue)) → IsSome o → o ≡ None → ⊥
        no_body None h is = absurd cc
        no_body (Some w) h is = none_some (sym is)

        empty_one : get a.copies.bodies (body x.pid x.view) ≡ None → (b : Bool) → nat_lt 0 (entries_on a.copies (body x.pid x.view)) ≡ b → b ≡ false
        empty_one none false is = refl
        empty_one none true is = absurd (at_holder (holder slot_key (stands_on (body x.pid x.view)) a.copies.entries (ltb-true 0 (entries_on a.copies (body x.pid x.view)) is)))
          where
            at_view : (h : Holder _ (stands_on (body x.pid x.view)) a.copies.entries) (o : Option View) → h.thing.view ≡ o → given (option_map (body h.thing.pid) o) false (same_body (body x.pid x.view)) ≡ true → ⊥
            at_view h None on e = absurd cc
            at_view h (Some v) on e =
                let same : body x.pid x.view ≡ body h.thing.pid v = body_told (body x.pid x.view) (body h.thing.pid v) e in
                no_body (get a.copies.bodies (body h.thing.pid v)) (are.bodies h.at (body h.thing.pid v) (ap (option_and_then body_of) h.there ∙ ap (option_map (body h.thing.pid)) on)) (ap (get a.copies.bodies) (sym same) ∙ none)

            at_holder : Holder _ (stands_on (body x.pid x.view)) a.copies.entries → ⊥
            at_holder h = at_view h h.thing.view refl h.passes

        by : (o : Option (List PlainValue)) → get a.copies.bodies (body x.pid x.view) ≡ o → nat_lt 0 (entries_on a.copies (body x.pid x.view)) ≡ is_some o
        by None is = empty_one is (nat_lt 0 (entries_on a.copies (body x.pid x.view))) refl
        by (Some v) is = lt-ltb 0 (entries_on a.copies (body x.pid x.view)) (are.stood_on (body x.pid x.view) (some_body (get a.copies.bodies (body x.pid x.view)) v is))

    named_body : list_any (same_name x) (all_names k) ≡ is_some (get a.copies.bodies (body x.pid x.view))
    named_body =
        ap (list_any (same_name x)) names_are
        ∙ any_flat (same_name x) names_of (entries k.copies)
        ∙ (λ i. list_any (λ q. in_part q i) (entries k.copies))
        ∙ part_any is_in hits (entries k.copies) stored in_one
        ∙ (λ i. list_any (λ e. hits_is e i) stored)
        ∙ any_counted (stands_on (body x.pid x.view)) stored
        ∙ stood

  pub bodies_counted : len a.copies.bodies ≡ length (bodies (all_names k))
  bodies_counted = (let right = bodies_right (all_names k) in sym (as_many (bodies (all_names k)) a.copies.bodies right.distinct (λ x. right.each x ∙ named_body x)))
