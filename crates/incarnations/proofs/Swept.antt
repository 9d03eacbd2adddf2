-- What the entries of a session are, when some of those that stand first in its column were looked at.
use Rattle.std.proofs.Common.{ℕ, ◌≡◌, ◌≢◌, ◌⊎◌, inl, inr, ⊎_elim, ◌<◌, ◌+◌, List, [], ◌∷◌, ◌++◌, length, Bool, true, false, cond, Option, Some, None, IsSome, slice_get, refl, sym, ap, ◌∙◌, subst, arith}
use Rattle.std.specs.Prelude.{Contains, IsSomeAnd, is_some, ◌&&◌}
use Rattle.std.specs.Option.{option_map, option_and_then}
use Rattle.std.specs.FinMap.{get, insert}
use Rattle.std.proofs.lemmas.List.{append_assoc}
use Rattle.std.proofs.lemmas.List.Elements.{Contains-append_cases}
use Rattle.pss_base.specs.declared.session.SessionNo.{SessionNo}
use Rattle.pss_machine.specs.declared.session.View.{View}
use Rattle.pss_machine.specs.Copies.{same_view}
use Rattle.type_layout.specs.Schemas.{given}
use Rattle.link_pool.specs.Rings.{list_in, first_in, following}
use Rattle.link_pool.specs.Meaning.{item_in, col_in}
use Rattle.link_pool.specs.declared.names.Col.{Col}
use Rattle.link_pool.specs.declared.names.Node.{Node}
use Rattle.link_pool.specs.declared.names.Seat.{Seat}
use Rattle.link_pool.proofs.NodeLists.{AreDistinct, contains_split, following-split}
use Rattle.incarnations.specs.declared.names.Slot.{Slot}
use Rattle.incarnations.specs.declared.names.Entry.{Entry}
use Rattle.incarnations.specs.declared.names.EntryRecord.{EntryRecord}
use Rattle.incarnations.specs.declared.names.SessionRecord.{SessionRecord}
use Rattle.incarnations.specs.declared.stock.Stock.{Stock}
use Rattle.incarnations.specs.Meaning.{is_of, with_view, Leaves, loosened, of_session, both}
use Rattle.incarnations.specs.Stock.{col_at, meaning_of, IsSound, IsSet, IsPassed, HasRun, KeepsBodies, KeepsCols, is_standing, asks, chosen_by, turned_entry}
use Rattle.recent_table.proofs.Maps.{no_value, one_value, same_or_apart, insert_here, insert_apart, get_each}
use Rattle.incarnations.proofs.Keys.{slot_key, session_told}
use Rattle.incarnations.proofs.Sets.{some, Has, has_map, plain, entry_is, seat_is, bodies_left}
use Rattle.incarnations.proofs.FirstNodes.{Contains-cons_cases, IsParted, parted}
use Rattle.incarnations.proofs.Freed.{is_of_self, of_node}
use Rattle.incarnations.proofs.Passed.{turned_loose}

-- ---- entries

turned_twice : (chosen : Option View) (e : Entry) → turned_entry chosen (turned_entry chosen e) ≡ turned_entry chosen e
turned_twice chosen e = by e.view refl
  where
    off : (v : View) (t : Bool) → e.view ≡ Some v → asks chosen v ≡ t → turned_entry chosen (cond t (with_view None e) e) ≡ cond t (with_view None e) e
    off v true is asked = refl
    off v false is asked = ap (λ o. given o e (λ w. cond (asks chosen w) (with_view None e) e)) is ∙ ap (λ t. cond t (with_view None e) e) asked

    by : (o : Option View) → e.view ≡ o → turned_entry chosen (turned_entry chosen e) ≡ turned_entry chosen e
    by None is = ap (turned_entry chosen) (ap (λ o. given o e (λ w. cond (asks chosen w) (with_view None e) e)) is)
    by (Some v) is =
        let here : turned_entry chosen e ≡ cond (asks chosen v) (with_view None e) e = ap (λ o. given o e (λ w. cond (asks chosen w) (with_view None e) e)) is in
        ap (turned_entry chosen) here ∙ off v (asks chosen v) is refl ∙ sym here

loosened_is : (chosen : Option View) (x : Slot) (e : Entry) → turned_entry chosen e ≡ cond (chosen_by chosen x e) (with_view None e) e
loosened_is chosen x e = by e.view refl chosen
  where
    by : (o : Option View) → e.view ≡ o → (c : Option View) → turned_entry c e ≡ cond (chosen_by c x e) (with_view None e) e
    by None is None = ap (λ o. given o e (λ w. with_view None e)) is ∙ (λ i. record { pid = e.pid; count = e.count; view = is i })
    by None is (Some w) = ap (λ o. given o e (λ v. cond (same_view w v) (with_view None e) e)) is ∙ sym (ap (λ o. cond (given o false (same_view w)) (with_view None e) e) is)
    by (Some v) is None = ap (λ o. given o e (λ w. with_view None e)) is
    by (Some v) is (Some w) = ap (λ o. given o e (λ z. cond (same_view w z) (with_view None e) e)) is ∙ sym (ap (λ o. cond (given o false (same_view w)) (with_view None e) e) is)

-- ---- a sweep

module _ (old : Stock) (s : SessionNo) (chosen : Option View) (n : ℕ) where
  abbrev turn : Option Entry → Option Entry
  turn o = option_map (turned_entry chosen) o

  -- an entry whose node is still to come
  pub record IsToCome (todo : List Node) (now : Stock) (x : Slot) : Type 0 where
    pub node : Node
    pub among : Contains todo node
    pub item : item_in now.pool node ≡ Some x

  -- so many of the first n were looked at, and the next one is at hand
  pub record IsSwept (now : Stock) (next : Option Node) (k : ℕ) : Type 0 where
    pub sound : IsSound now
    pub col : Col
    pub col_is : col_at now s ≡ Some col
    pub front : List Node
    pub todo : List Node
    pub back : List Node
    pub list : list_in now.pool.cols col ≡ front ++ (todo ++ back)
    pub size : length todo + k ≡ n
    pub next_is : (node : Node) (rest : List Node) → todo ≡ node ∷ rest → next ≡ Some node
    pub lasts : (meaning_of now).lasts ≡ (meaning_of old).lasts
    pub either : (x : Slot) → (get (plain now.entries) x ≡ get (plain old.entries) x) ⊎ (get (plain now.entries) x ≡ turn (get (plain old.entries) x))
    pub others : (x : Slot) → x.session ≢ s → get (plain now.entries) x ≡ get (plain old.entries) x
    pub done : (x : Slot) (e : Entry) → get (plain old.entries) x ≡ Some e → x.session ≡ s → (get (plain now.entries) x ≡ turn (get (plain old.entries) x)) ⊎ IsToCome todo now x
    pub bodies : KeepsBodies (meaning_of old) (meaning_of now)

  module _ (now : Stock) (next : Option Node) (k : ℕ) (f : IsSwept now next k) where
    -- the node at hand
    record AtHand : Type 0 where
      pub node : Node
      pub rest : List Node
      pub is : f.todo ≡ node ∷ rest

    at_hand : k < n → AtHand
    at_hand lt = by f.todo refl
      where
        by : (l : List Node) → f.todo ≡ l → AtHand
        by [] is = absurd (omega (arith, lt, f.size, ap length is))
        by (y ∷ ys) is = record { node = y; rest = ys; is = is }

    pub some_next : k < n → next ≡ None → ⊥
    some_next lt none = let h = at_hand lt in no_value h.node (sym none ∙ f.next_is h.node h.rest h.is)

    module _ (lt : k < n) (node : Node) (is : next ≡ Some node) where
      h : AtHand
      h = at_hand lt

      todo_is : f.todo ≡ node ∷ h.rest
      todo_is = h.is ∙ ap (λ y. y ∷ h.rest) (one_value (sym (f.next_is h.node h.rest h.is) ∙ is))

      list_is : list_in now.pool.cols f.col ≡ f.front ++ node ∷ (h.rest ++ f.back)
      list_is = f.list ∙ ap (λ l. f.front ++ (l ++ f.back)) todo_is

      node_col : col_in now.pool node ≡ Some f.col
      node_col = f.sound.seats.rings.cols.only f.col node (subst (λ l. Contains l node) (sym list_is) (contains_split node f.front (h.rest ++ f.back)))

      pub next_there : Has (get now.pool.nodes node)
      next_there = has_map (λ z. z.col) (get now.pool.nodes node) f.col node_col

      own_item : (x : Slot) → item_in now.pool node ≡ Some x → x.session ≡ s
      own_item x item =
          let same : next_there.value.item ≡ x = one_value (sym (ap (option_map (λ z. z.item)) next_there.is) ∙ item) in
          let t = of_node now f.sound node next_there.value next_there.is in
          sym (ap (λ z. z.session) same) ∙ f.sound.cols.apart next_there.value.item.session s f.col (t.col_is ∙ sym (ap (option_map (λ z. z.col)) next_there.is) ∙ node_col) f.col_is

      module _ (x : Slot) (item : item_in now.pool node ≡ Some x) (was : EntryRecord) (at : get now.entries x ≡ Some was) (later : Stock) (sound : IsSound later) (set : IsSet (meaning_of now) (meaning_of later) x (turned_entry chosen was.entry))
          (cols : KeepsCols now later) (passed : IsPassed now.pool later.pool node) (after : Option Node) (follows : IsSomeAnd (col_in now.pool node) (λ c. after ≡ following node (list_in now.pool.cols c))) where
        run : HasRun (h.rest ++ f.back) (list_in later.pool.cols f.col)
        run = passed.runs f.col f.front (h.rest ++ f.back) list_is

        after_is : after ≡ slice_get (h.rest ++ f.back) 0
        after_is =
            subst (λ o. IsSomeAnd o (λ c. after ≡ following node (list_in now.pool.cols c))) node_col follows ∙ ap (following node) list_is
            ∙ following-split node f.front (h.rest ++ f.back) (subst AreDistinct list_is (f.sound.seats.rings.cols.once f.col))

        stays : (y : Slot) → y ≢ x → get (plain later.entries) y ≡ get (plain now.entries) y
        stays y ne = ap (λ m. get m y) set.entries ∙ insert_apart slot_key (plain now.entries) x (turned_entry chosen was.entry) y ne

        here : get (plain now.entries) x ≡ Some was.entry
        here = entry_is now f.sound x was at

        twice : (o : Option Entry) → turn (turn o) ≡ turn o
        twice None = refl
        twice (Some e) = ap Some (turned_twice chosen e)

        -- turned once or twice
        turned_here : (y : Slot) → y ≡ x → get (plain later.entries) y ≡ turn (get (plain old.entries) y)
        turned_here y e =
            ap (λ m. get m y) set.entries ∙ ap (get (insert (plain now.entries) x (turned_entry chosen was.entry))) e ∙ insert_here slot_key (plain now.entries) x (turned_entry chosen was.entry)
            ∙ ⊎_elim (λ i. ap turn (sym here ∙ i)) (λ i. ap turn (sym here ∙ i) ∙ twice (get (plain old.entries) x)) (f.either x) ∙ ap (λ z. turn (get (plain old.entries) z)) (sym e)

        to_come : (y : Slot) → y ≢ x → IsToCome f.todo now y → IsToCome h.rest later y
        to_come y ne t =
            let other : t.node ≢ node = λ e. ne (one_value (sym t.item ∙ ap (item_in now.pool) e ∙ item)) in
            record {
              node = t.node;
              among = ⊎_elim (λ e. absurd (other (sym e))) (λ m. m) (Contains-cons_cases node t.node h.rest (subst (λ l. Contains l t.node) todo_is t.among));
              item = passed.items t.node other (some (get now.pool.nodes t.node) (has_map (λ z. z.item) (get now.pool.nodes t.node) y t.item).is) ∙ t.item;
            }

        pub swept_more : IsSwept later after (k + 1)
        swept_more = record {
          sound = sound;
          col = f.col;
          col_is = cols s ∙ f.col_is;
          front = run.front;
          todo = h.rest;
          back = f.back ++ run.back;
          list = run.is ∙ ap (λ l. run.front ++ l) (append_assoc h.rest f.back run.back);
          size = omega (arith, f.size, ap length todo_is);
          next_is = λ y ys e. after_is ∙ ap (λ l. slice_get (l ++ f.back) 0) e;
          lasts = set.lasts ∙ f.lasts;
          either = λ y. ⊎_elim (λ e. inr (turned_here y e)) (λ ne. ⊎_elim (λ i. inl (stays y ne ∙ i)) (λ i. inr (stays y ne ∙ i)) (f.either y)) (same_or_apart slot_key y x);
          others = λ y ne. stays y (λ e. ne (ap (λ z. z.session) e ∙ own_item x item)) ∙ f.others y ne;
          done = λ y e at' own.
              ⊎_elim (λ e'. inl (turned_here y e')) (λ ne. ⊎_elim (λ i. inl (stays y ne ∙ i)) (λ t. inr (to_come y ne t)) (f.done y e at' own)) (same_or_apart slot_key y x);
          bodies = λ c v b. f.bodies c v (set.bodies c v b);
        }

    pub swept_all : k ≡ n → Leaves (loosened (both (of_session s) (chosen_by chosen))) (meaning_of old) (meaning_of now)
    swept_all all = record {
      entries = λ x. by x (get (plain old.entries) x) refl;
      bodies = λ c. bodies_left now f.sound c (meaning_of old).bodies (f.bodies c);
    }
      where
        turned_of : (x : Slot) (e : Entry) → get (plain old.entries) x ≡ Some e → x.session ≡ s → get (plain now.entries) x ≡ turn (get (plain old.entries) x)
        turned_of x e at own = ⊎_elim (λ i. i) (λ t. absurd (omega (arith, t.among.1, f.size, all))) (f.done x e at own)

        by : (x : Slot) (o : Option Entry) → get (plain old.entries) x ≡ o → get (plain now.entries) x ≡ option_and_then (loosened (both (of_session s) (chosen_by chosen)) x) (get (plain old.entries) x)
        by x None at = ⊎_elim (λ i. i ∙ at) (λ i. i ∙ ap turn at) (f.either x) ∙ sym (ap (option_and_then (loosened (both (of_session s) (chosen_by chosen)) x)) at)
        by x (Some e) at = own (is_of s (x, e)) refl ∙ sym (ap (option_and_then (loosened (both (of_session s) (chosen_by chosen)) x)) at)
          where
            apart : {A : Type 0} → is_of s (x, e) ≡ false → x.session ≡ s → A
            apart t same' = absurd (cc (t, is_of_self s x e same'))

            own : (t : Bool) → is_of s (x, e) ≡ t → get (plain now.entries) x ≡ Some (cond (is_of s (x, e) && chosen_by chosen x e) (with_view None e) e)
            own true t = turned_of x e at (session_told x.session s t) ∙ ap turn at ∙ ap Some (loosened_is chosen x e) ∙ ap (λ q. Some (cond (q && chosen_by chosen x e) (with_view None e) e)) (sym t)
            own false t = f.others x (λ same'. apart t same') ∙ at ∙ ap (λ q. Some (cond (q && chosen_by chosen x e) (with_view None e) e)) (sym t)

-- none was looked at yet: only the first are to come, since the others stand on no body
module _ (old : Stock) (sound : IsSound old) (s : SessionNo) (chosen : Option View) (home : SessionRecord) (home_is : get old.sessions s ≡ Some home) where
  pub home_col : IsSome (get old.pool.cols home.col)
  home_col = sound.cols.there s home.col (ap (option_map (λ r. r.col)) home_is)

  p : IsParted (is_standing old.pool.nodes old.entries) home.attached (list_in old.pool.cols home.col)
  p = parted (is_standing old.pool.nodes old.entries) home.attached (list_in old.pool.cols home.col) (sound.fronts s home home_is).first

  view_none : {A : Type 0} (o : Option A) → is_some o ≡ false → o ≡ None
  view_none None h = refl
  view_none (Some v) h = absurd (cc)

  pub swept_none : (next : Option Node) → next ≡ first_in old.pool.cols home.col → IsSwept old s chosen home.attached old next 0
  swept_none next first = record {
    sound = sound;
    col = home.col;
    col_is = ap (option_map (λ r. r.col)) home_is;
    front = [];
    todo = p.front;
    back = p.back;
    list = p.is;
    size = omega (arith, p.size);
    next_is = λ node rest e. first ∙ ap (λ l. slice_get l 0) (p.is ∙ ap (λ l. l ++ p.back) e);
    lasts = refl;
    either = λ x. inl refl;
    others = λ x ne. refl;
    done = done;
    bodies = λ b v h. h;
  }
    where
      done : (x : Slot) (e : Entry) → get (plain old.entries) x ≡ Some e → x.session ≡ s → (get (plain old.entries) x ≡ option_map (turned_entry chosen) (get (plain old.entries) x)) ⊎ IsToCome old s chosen home.attached p.front old x
      done x e at own =
          let h = has_map (λ z. z.entry) (get old.entries x) e (sym (get_each (λ z. z.entry) old.entries x) ∙ at) in
          let same : h.value.entry ≡ e = one_value (sym (ap (option_map (λ z. z.entry)) h.is) ∙ sym (get_each (λ z. z.entry) old.entries x) ∙ at) in
          let t = seat_is old sound x h.value h.is in
          let own_col : t.col ≡ home.col = one_value (sym t.in_col ∙ ap (col_at old) own ∙ ap (option_map (λ r. r.col)) home_is) in
          let m : Contains (p.front ++ p.back) h.value.node = subst (λ l. Contains l h.value.node) p.is (sound.seats.rings.cols.found home.col h.value.node (ap (option_map (λ z. z.col)) t.at ∙ ap Some own_col)) in
          let stands : is_standing old.pool.nodes old.entries h.value.node ≡ is_some e.view =
          ap (λ o. given (option_and_then (λ (seat : Seat Slot). get old.entries seat.item) o) false (λ z. is_some z.entry.view)) t.at ∙ ap (λ o. given o false (λ z. is_some z.entry.view)) h.is ∙ ap (λ z. is_some z.view) same in
          ⊎_elim (λ c. inr (record { node = h.value.node; among = c; item = ap (option_map (λ z. z.item)) t.at }))
          (λ c. inl (at ∙ ap Some (sym (turned_loose chosen e (view_none e.view (sym stands ∙ p.none h.value.node c)))) ∙ ap (option_map (turned_entry chosen)) (sym at)))
          (Contains-append_cases p.front p.back h.value.node m)
