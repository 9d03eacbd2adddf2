-- The root that a checkpoint lays out may follow the one that is there.
use Rattle.std.proofs.Common.{ℕ, zero, suc, ◌≡◌, ◌⊎◌, ⊎_elim, inl, inr, ◌+◌, ◌-◌, ◌*◌, ◌/◌, ◌%◌, ◌^◌, ◌<◌, ◌≤◌, ◌==◌, ◌||◌, Bool, true, false, cond, not, List, [], ◌∷◌, ◌++◌, length, length-append, get_or, map, Some, None, IfSome, refl, sym, ap, ◌∙◌, subst, arith}
use Rattle.std.proofs.lemmas.Bool.{cases_eq, cases_lt, false≢true}
use Rattle.std.proofs.lemmas.Bool.Decides.{nat_tests}
use Rattle.std.proofs.lemmas.Nat.{from_be_bytes-to_be_bytes_8}
use Rattle.std.specs.Cmp.{nat_cmp_total}
use Rattle.std.specs.FinMap as finite
use Rattle.std.specs.FinMap.{nat_cmp-IsAntisymmetric, same_map}
use Rattle.std.specs.Int.{from_be_bytes, w64}
use Rattle.std.specs.List.{filter}
use Rattle.std.specs.Option.{option_map}
use Rattle.std.specs.Ordering.{nat_cmp}
use Rattle.std.specs.declared.option.Option.{Option}
use Rattle.pss_base.specs.declared.put.Put.{Put}
use Rattle.redo_journal.specs.Journal.{Ends, HasEpoch, IsClosed, journal_start}
use Rattle.page_store.specs.Checkpoints.{AreSomeOf, IsSmallAmong, MayCheckpoint, changed_octets, kept_slots, moved, repacked_slots, touched_pages}
use Rattle.page_store.specs.Kept.{IsKept, Kept, rows_in}
use Rattle.page_format.specs.Objects.{by_serial, over, stored_of}
use Rattle.page_format.specs.Packing.{OnlyLastIsSmall, entries_on, is_among, used_by}
use Rattle.page_format.specs.Pages.{AreGiven, IsPage, IsSmall, IsSmallOne, entries_in, octets_in_use, places_in, serials_of}
use Rattle.page_format.specs.Pages.{Entry}
use Rattle.page_store.specs.Placed.{is_noted, placed}
use Rattle.page_format.specs.Places.{slot_start}
use Rattle.page_store.specs.Switch.{HasPages, MayFollow, Next, Old, objects_of, places_of, slots_of, uses_of}
use Rattle.page_store.specs.Touched.{is_in, is_repacked, is_touched}
use Rattle.page_format.specs.declared.new_page.NewPage.{NewPage}
use Rattle.page_format.specs.declared.objects.Stored.{Stored}
use Rattle.page_store.specs.declared.pages.planning.Plan.{Plan}
use Rattle.page_store.specs.inner.Located.{Apart, at, located}
use Rattle.page_store.specs.inner.Planned.{IsPlan, IsPlanned, next_of}
use Rattle.page_store.specs.inner.Repacked.{AreRepacked, IsRepacked}
use Rattle.page_store.proofs.ByKey.{get_entries}
use Rattle.page_store.proofs.Givens.{apart-append, apart_from, given_from}
use Rattle.page_store.proofs.Located.{apart-unmap, at-map, slots_located, stored_located, touched_by}
use Rattle.page_store.proofs.Merged.{crossing, merged, part_apart, placing}
use Rattle.page_store.proofs.MovedSlots.{bound, moved_few, once_in, packed_weight, repacked_few, used_in}
use Rattle.page_store.proofs.Plans.{among_there, at_left, at_right, filter_each, filter_some, length_entries, length_mapped, length_mapped_to}
use Rattle.page_store.proofs.Turned.{map-append}

itself : (s : ℕ) → (s == s) ≡ true
itself s = grind (arith, nat_tests)

-- the epochs of one root and the next one are not the same
next_epoch_ends : (epoch next gate : ℕ) (image : List ℕ) → epoch < 2 ^ 64 → next ≡ (epoch + 1) % 2 ^ 64 → HasEpoch epoch image gate → HasEpoch next image gate → ⊥
next_epoch_ends epoch next gate image small is one two =
    let e : epoch ≡ next = sym (from_be_bytes-to_be_bytes_8 epoch small) ∙ ap (from_be_bytes w64) (sym one ∙ two) ∙ from_be_bytes-to_be_bytes_8 next (omega arith) in
    omega arith

-- each of those that pass passes
passes : (p : ℕ → Bool) (slots : List ℕ) (k : ℕ) → k < length (filter p slots) → p (get_or (filter p slots) k 0) ≡ true
passes p [] k lt = absurd (omega (arith, lt))
passes p (x ∷ slots) k lt = by (p x) refl k lt (passes p slots)
  where
    by : (b : Bool) → p x ≡ b → (k : ℕ) → k < length (cond b (x ∷ filter p slots) (filter p slots)) → ((k : ℕ) → k < length (filter p slots) → p (get_or (filter p slots) k 0) ≡ true) → p (get_or (cond b (x ∷ filter p slots) (filter p slots)) k 0) ≡ true
    by true e zero lt ih = e
    by true e (suc k) lt ih = ih k (omega (arith, lt))
    by false e k lt ih = ih k lt

not_so : (b : Bool) → not b ≡ true → b ≡ false
not_so true e = absurd (false≢true e)
not_so false e = refl

or_first : (a b : Bool) → a ≡ true → (a || b) ≡ true
or_first true b e = refl
or_first false b e = absurd (false≢true e)

or_second : (a b : Bool) → b ≡ true → (a || b) ≡ true
or_second true b e = refl
or_second false b e = e

pub objects_packed : (pages : List NewPage) → objects_of pages ≡ entries_on (map (λ p. p.entries) pages)
objects_packed [] = refl
objects_packed (page ∷ pages) = ap (λ l. page.entries ++ l) (objects_packed pages)

-- each new page but the last has more than little in use
last_alone : (pages : List NewPage) → OnlyLastIsSmall (map (λ p. p.entries) pages) → (j k : ℕ) → j < k → k < length pages → get_or (uses_of pages) j 0 ≤ 8328 → ⊥
last_alone [] are j k less lt small = absurd (omega (arith, lt))
last_alone (page ∷ []) are j k less lt small = absurd (omega (arith, less, lt))
last_alone (page ∷ second ∷ pages) are zero k less lt small = let n = length_entries page.entries in let h = are.0 in omega arith
last_alone (page ∷ second ∷ pages) are (suc j) zero less lt small = absurd (omega (arith, less))
last_alone (page ∷ second ∷ pages) are (suc j) (suc k) less lt small = last_alone (second ∷ pages) are.1 j k (omega (arith, less)) (omega (arith, lt)) small

module _ (old : Old) (kept : Kept) (next : ℕ) (c : List ℕ) (may : MayCheckpoint old kept next c) where
  pub apart : Apart (located c kept.slots)
  apart =
      let given : AreGiven old.root.next [] (serials_of (entries_in c kept.slots)) = subst (λ (l : List ℕ). AreGiven old.root.next [] (serials_of (entries_in c l))) (sym may.kept_.slots_) may.store.pages.given in
      apart-unmap (λ (x : ℕ × Stored). x.1) (located c kept.slots) (subst Apart (sym (stored_located c kept.slots)) (apart_from old.root.next [] (entries_in c kept.slots) given))

  place_is : (q : ℕ) → finite.get kept.places q ≡ at q (places_in c kept.slots)
  place_is q = ap (λ m. finite.get m q) may.kept_.places_ ∙ get_entries (places_in c old.root.slots) q ∙ ap (λ (l : List ℕ). at q (places_in c l)) (sym may.kept_.slots_)

  pub touches : (q s : ℕ) (x : Stored) → is_noted q kept.noted ≡ true → at q (located c kept.slots) ≡ Some (s, x) → is_repacked kept.places kept.noted kept.small s ≡ true
  touches q s x noted there =
      let place : finite.get kept.places q ≡ Some s = place_is q ∙ ap (at q) (sym (slots_located c kept.slots)) ∙ at-map (λ (x : ℕ × Stored). x.0) q (located c kept.slots) ∙ ap (option_map (λ (x : ℕ × Stored). x.0)) there in
      or_first (is_touched kept.places kept.noted s) (is_in s kept.small) (touched_by kept.places kept.noted q s place noted)

  -- no page that stays has little in use
  pub large : (k : ℕ) → k < length (kept_slots kept) → IsSmall c (get_or (kept_slots kept) k 0) → ⊥
  large k lt small =
      let s = get_or (kept_slots kept) k 0 in
      let there = filter_each (λ s. not (is_repacked kept.places kept.noted kept.small s)) kept.slots k lt in
      let stays : is_repacked kept.places kept.noted kept.small s ≡ false = not_so (is_repacked kept.places kept.noted kept.small s) (passes (λ s. not (is_repacked kept.places kept.noted kept.small s)) kept.slots k lt) in
      by s there.0 (let e = ap length may.kept_.slots_ in omega (arith, there.1, e)) (ap (λ (l : List ℕ). get_or l there.0 0) (sym may.kept_.slots_) ∙ there.2) small kept.small refl may.kept_.small_ stays
    where
      by : (s j : ℕ) → j < length old.root.slots → get_or old.root.slots j 0 ≡ s → IsSmall c s → (o : Option ℕ) → kept.small ≡ o → IsSmallOne c old.root.slots o → is_repacked kept.places kept.noted kept.small s ≡ false → ⊥
      by s j lt at_j small None e one stays = one j lt (subst (IsSmall c) (sym at_j) small)
      by s j lt at_j small (Some t) e one stays =
          let i = one.0 in
          ⊎_elim (λ same.
          let there : t ≡ s = sym one.2 ∙ ap (λ n. get_or old.root.slots n 0) (sym same) ∙ at_j in
          let is : is_in s kept.small ≡ true = ap (is_in s) e ∙ ap (λ n. n == s) there ∙ itself s in
          false≢true (sym stays ∙ or_second (is_touched kept.places kept.noted s) (is_in s kept.small) is))
          (λ other.
          let here = subst (IsSmall c) (sym at_j) small in
          let that = subst (IsSmall c) (sym one.2) one.3 in
          ⊎_elim (λ less. may.store.pages.packed j i less one.1 here that) (λ more. may.store.pages.packed i j (omega (arith, more, other)) lt that here) (cases_lt j i)) (cases_eq j i)

  module _ (packed : List (List Entry)) (re : AreRepacked (over (over finite.empty (rows_in c (repacked_slots kept))) kept.noted) packed) (k : Kept) (area_ : k.area ≡ kept.area) (epoch_ : k.epoch ≡ kept.epoch) (shape_ : k.shape ≡ kept.shape) (slots_ : k.slots ≡ kept.slots) (plan : Plan) (is : IsPlan k (kept_slots kept) packed next plan) where
    xs_is : objects_of plan.pages.items ≡ entries_on packed
    xs_is = objects_packed plan.pages.items ∙ ap entries_on is.packed_

    xs_at : (q : ℕ) → at q (map stored_of (objects_of plan.pages.items)) ≡ finite.get (over (over finite.empty (rows_in c (repacked_slots kept))) kept.noted) q
    xs_at q = ap (λ es. at q (map stored_of es)) xs_is ∙ re.same q

    xs_apart : Apart (map stored_of (objects_of plan.pages.items))
    xs_apart = subst (λ es. Apart (map stored_of es)) (sym xs_is) re.apart

    objects_at : (q : ℕ) → at q (map stored_of (next_of kept plan c).objects) ≡ finite.get (over (by_serial old.objects) kept.noted) q
    objects_at q =
        merged c kept.slots (is_repacked kept.places kept.noted kept.small) kept.noted apart touches (objects_of plan.pages.items) xs_at q
        ∙ ap (λ es. finite.get (over (by_serial es) kept.noted) q) (ap (entries_in c) may.kept_.slots_ ∙ may.store.objects_)

    -- the objects are the old ones with the changes over them
    pub objects_over : by_serial (next_of kept plan c).objects ≡ over (by_serial old.objects) kept.noted
    objects_over = same_map nat_cmp_total nat_cmp-IsAntisymmetric _ _ (λ q. get_entries (map stored_of (next_of kept plan c).objects) q ∙ objects_at q)

    given : AreGiven plan.root.next [] (serials_of (next_of kept plan c).objects)
    given = given_from plan.root.next [] (next_of kept plan c).objects range all_apart (λ i lt. absurd (omega (arith, lt)))
      where
        range : (q : ℕ) (x : Stored) → at q (map stored_of (next_of kept plan c).objects) ≡ Some x → (1 ≤ q) × (q < plan.root.next)
        range q x there =
            let h = subst (λ o. IfSome o (λ _. (1 ≤ q) × (q < next))) (sym (objects_at q) ∙ there) (may.given q) in
            (h.0, subst (λ (n : ℕ). q < n) (sym is.root_.next_) h.1)

        all_apart : Apart (map stored_of (next_of kept plan c).objects)
        all_apart =
            let stay = entries_in c (kept_slots kept) in
            subst Apart (sym (map-append stored_of stay (objects_of plan.pages.items)))
            (apart-append (map stored_of stay) (map stored_of (objects_of plan.pages.items)) (part_apart c kept.slots (is_repacked kept.places kept.noted kept.small) kept.noted apart touches (λ s. not (is_repacked kept.places kept.noted kept.small s))) xs_apart
            (crossing c kept.slots (is_repacked kept.places kept.noted kept.small) kept.noted apart touches (objects_of plan.pages.items) xs_at))

    none : Ends plan.root.epoch c journal_start
    none = by may.first
      where
        by : IsClosed c journal_start ⊎ HasEpoch old.root.epoch c journal_start → Ends plan.root.epoch c journal_start
        by (inl closed) = inl closed
        by (inr has) = inr (
          refl,
          λ has_next.
              next_epoch_ends k.epoch plan.root.epoch journal_start c is.root_.given is.root_.epoch_ (subst (λ (n : ℕ). HasEpoch n c journal_start) (sym (epoch_ ∙ may.kept_.epoch_)) has) has_next,
        )

    pub follows : MayFollow old (next_of kept plan c) c
    follows = record {
      store = may.store;
      journal = may.journal;
      none = none;
      area_ = let a = may.store.root_.current.area_ in let b = is.root_.area_ in let d = area_ ∙ may.kept_.area_ in omega (arith, a, b, d);
      epoch_ = is.root_.epoch_ ∙ ap (λ (n : ℕ). (n + 1) % 2 ^ 64) (epoch_ ∙ may.kept_.epoch_);
      slots_ = is.root_.slots_;
      named = λ i lt. subst (λ (l : List ℕ). (j : ℕ) × (j < length l) × (get_or l j 0 ≡ get_or (kept_slots kept) i 0)) may.kept_.slots_ (filter_each (λ s. not (is_repacked kept.places kept.noted kept.small s)) kept.slots i lt);
      fresh = λ j i lt few same.
          let n = length_mapped (λ (p : NewPage). p.slot) plan.pages.items in
          false≢true
          (sym (subst (λ (l : List ℕ). is_among (get_or (slots_of plan.pages.items) i 0) l ≡ false) (slots_ ∙ may.kept_.slots_) (is.free.none i (omega (arith, n, few)))) ∙ among_there old.root.slots j (get_or (slots_of plan.pages.items) i 0) lt same);
      objects_ = refl;
      given = given;
      large = large;
      packed = λ j i less lt one two. last_alone plan.pages.items (subst OnlyLastIsSmall (sym is.packed_) re.written.large) j i less lt one;
    }

    -- few slots are moved
    pub moves_few : moved old.root.slots plan.root.slots ≤ 2 * (touched_pages kept + 1) + changed_octets kept.noted / 8328 + 1
    moves_few =
        let taken = repacked_slots kept in
        let once : (i j : ℕ) → i < j → j < length kept.slots → get_or kept.slots i 0 ≡ get_or kept.slots j 0 → ⊥ =
        subst (λ (l : List ℕ). (i j : ℕ) → i < j → j < length l → get_or l i 0 ≡ get_or l j 0 → ⊥) (sym may.kept_.slots_) (once_in old.root c may.store.root_) in
        let some : AreSomeOf old.root.slots (kept_slots kept) = subst (λ (l : List ℕ). AreSomeOf l (kept_slots kept)) may.kept_.slots_ (filter_some (λ s. not (is_repacked kept.places kept.noted kept.small s)) kept.slots once) in
        let slots = moved_few old.root.slots (kept_slots kept) (slots_of plan.pages.items) plan.root.slots some is.root_.slots_ in
        let many = length_mapped (λ (p : NewPage). p.slot) plan.pages.items in
        let same = ap length (sym is.packed_) in
        let pages = length_mapped_to (λ (p : NewPage). p.entries) plan.pages.items in
        let used = ap used_by xs_is in
        let sum = packed_weight (entries_in c taken) (objects_of plan.pages.items) kept.noted (part_apart c kept.slots (is_repacked kept.places kept.noted kept.small) kept.noted apart touches (is_repacked kept.places kept.noted kept.small)) xs_apart xs_at in
        let whole = used_in c taken (λ i lt.
        let there = filter_each (is_repacked kept.places kept.noted kept.small) kept.slots i lt in
        let few = ap length may.kept_.slots_ in
        subst (λ (s : ℕ). IsPage c (slot_start s) s) (ap (λ (l : List ℕ). get_or l there.0 0) (sym may.kept_.slots_) ∙ there.2) (may.store.pages.whole there.0 (omega (arith, few, there.1)))) in
        let most = repacked_few (is_touched kept.places kept.noted) kept.small kept.slots once in
        let h = bound (length packed) (used_by (entries_on packed)) (length taken) (touched_pages kept) (changed_octets kept.noted) re.few (omega (arith, used, sum, whole)) most in
        omega (arith, slots, many, same, pages, h)

    -- where the objects are afterwards
    pub places_over : (after : finite.FinMap nat_cmp ℕ) → ((q : ℕ) → finite.get k.places q ≡ cond (is_noted q kept.noted) None (finite.get kept.places q)) → ((q : ℕ) → finite.get after q ≡ placed plan.pages.items q (finite.get k.places q))
        → after ≡ finite.from_entries (places_in c (kept_slots kept) ++ places_of plan.pages.items)
    places_over after parted laid = same_map nat_cmp_total nat_cmp-IsAntisymmetric _ _ (λ q.
        laid q ∙ ap (placed plan.pages.items q) (parted q ∙ ap (cond (is_noted q kept.noted) None) (place_is q))
        ∙ placing c kept.slots (is_repacked kept.places kept.noted kept.small) kept.noted apart touches (objects_of plan.pages.items) xs_at q plan.pages.items refl xs_apart
        ∙ sym (get_entries (places_in c (kept_slots kept) ++ places_of plan.pages.items) q))

-- the page with little in use afterwards
pub small_after : (old : Old) (next : Next) (before after : List ℕ) (small : Option ℕ) → MayFollow old next before → HasPages next before after → IsSmallAmong next.pages small → IsSmallOne after next.root.slots small
small_after old next before after None may has none = λ j lt is_small.
    let slots = may.slots_ in
    let long = length-append next.kept (slots_of next.pages) in
    let many = length_mapped (λ (p : NewPage). p.slot) next.pages in
    let lt' : j < length (next.kept ++ slots_of next.pages) = let e = ap length slots in omega (arith, lt, e) in
    let here : IsSmall after (get_or (next.kept ++ slots_of next.pages) j 0) = subst (λ (l : List ℕ). IsSmall after (get_or l j 0)) slots is_small in
    ⊎_elim (λ less.
    let s = subst (IsSmall after) (at_left next.kept (slots_of next.pages) j less) here in
    let e = has.kept_uses j less in
    may.large j less (omega (arith, e, s)))
    (λ more.
    let i = j - length next.kept in
    let few : i < length next.pages = omega (arith, lt', long, many, more) in
    let s = subst (IsSmall after) (at_right next.kept (slots_of next.pages) j i (omega (arith, more))) here in
    let e = has.new_uses i few in
    let m = none i few in
    omega (arith, e, s, m)) (cases_lt j (length next.kept))
small_after old next before after (Some slot) may has some =
    let k = some.0 in
    let long = length-append next.kept (slots_of next.pages) in
    let many = length_mapped (λ (p : NewPage). p.slot) next.pages in
    let e = ap length may.slots_ in
    let here : get_or next.root.slots (length next.kept + k) 0 ≡ slot = ap (λ (l : List ℕ). get_or l (length next.kept + k) 0) may.slots_ ∙ at_right next.kept (slots_of next.pages) (length next.kept + k) k refl ∙ some.2 in
    let used = ap (λ (s : ℕ). octets_in_use after (slot_start s)) (sym some.2) ∙ has.new_uses k some.1 in
    (length next.kept + k, omega (arith, e, long, many, some.1), here, omega (arith, used, some.3))

-- what a plan is laid out of, by the steps that lead to it
module _ (kept one two : Kept) (noted : List Put) (noted_ : noted ≡ kept.noted) (one_ : one ≡ record kept { noted = []; room = 0 }) where
  abbrev bare : Kept
  bare = record kept { noted = []; room = 0 }

  pub repacked_is : (repacked : List ℕ) → repacked ≡ repacked_slots (record one { noted = noted }) → repacked ≡ repacked_slots kept
  repacked_is repacked is = is ∙ ap (λ (k : Kept). repacked_slots (record k { noted = noted })) one_ ∙ ap (λ (ns : List Put). repacked_slots (record bare { noted = ns })) noted_

  pub stay_is : (stay : List ℕ) → stay ≡ kept_slots (record one { noted = noted }) → stay ≡ kept_slots kept
  stay_is stay is = is ∙ ap (λ (k : Kept). kept_slots (record k { noted = noted })) one_ ∙ ap (λ (ns : List Put). kept_slots (record bare { noted = ns })) noted_

  pub anew_is : (c repacked : List ℕ) → repacked ≡ repacked_slots (record one { noted = noted }) → (packed : List (List Entry)) → AreRepacked (over (over finite.empty (rows_in c repacked)) noted) packed → AreRepacked (over (over finite.empty (rows_in c (repacked_slots kept))) kept.noted) packed
  anew_is c repacked is packed re =
      subst (λ (l : List ℕ). AreRepacked (over (over finite.empty (rows_in c l)) kept.noted) packed) (repacked_is repacked is) (subst (λ (ns : List Put). AreRepacked (over (over finite.empty (rows_in c repacked)) ns) packed) noted_ re)

-- what was planned, of the steps that planned it
pub planned_of : (old : Old) (kept : Kept) (next : ℕ) (c : List ℕ) → MayCheckpoint old kept next c → (one two three : Kept) (noted : List Put) → noted ≡ kept.noted → one ≡ record kept { noted = []; room = 0 } → (repacked stay : List ℕ) → repacked ≡ repacked_slots (record one { noted = noted })
    → stay ≡ kept_slots (record one { noted = noted }) → two ≡ record one { places = two.places } → ((q : ℕ) → finite.get two.places q ≡ cond (is_noted q noted) None (finite.get one.places q)) → (packed : List (List Entry))
    → AreRepacked (over (over finite.empty (rows_in c repacked)) noted) packed → (plan : Plan) → IsPlan two stay packed next plan → three ≡ record two { places = three.places } → ((q : ℕ) → finite.get three.places q ≡ placed plan.pages.items q (finite.get two.places q))
    → IsPlanned old kept next plan three c
planned_of old kept next c may one two three noted noted_ one_ repacked stay repacked_ stay_ two_ parted packed re plan is three_ laid =
    let re' = anew_is kept one two noted noted_ one_ c repacked repacked_ packed re in
    let is' = subst (λ (l : List ℕ). IsPlan two l packed next plan) (stay_is kept one two noted noted_ one_ stay stay_) is in
    let area_ : two.area ≡ kept.area = ap (λ (k : Kept). k.area) two_ ∙ ap (λ (k : Kept). k.area) one_ in
    let epoch_ : two.epoch ≡ kept.epoch = ap (λ (k : Kept). k.epoch) two_ ∙ ap (λ (k : Kept). k.epoch) one_ in
    let shape_ : two.shape ≡ kept.shape = ap (λ (k : Kept). k.shape) two_ ∙ ap (λ (k : Kept). k.shape) one_ in
    let slots_ : two.slots ≡ kept.slots = ap (λ (k : Kept). k.slots) two_ ∙ ap (λ (k : Kept). k.slots) one_ in
    let parted' : (q : ℕ) → finite.get two.places q ≡ cond (is_noted q kept.noted) None (finite.get kept.places q) = λ q.
    parted q ∙ ap (λ (ns : List Put). cond (is_noted q ns) None (finite.get one.places q)) noted_ ∙ ap (λ (k : Kept). cond (is_noted q kept.noted) None (finite.get k.places q)) one_ in
    let follow = follows old kept next c may packed re' two area_ epoch_ shape_ slots_ plan is' in
    record {
      follow = follow;
      made = record {
        area_ = follow.area_;
        epoch_ = follow.epoch_;
        next_ = is.root_.next_;
        shape_ = is.root_.shape_ ∙ shape_ ∙ may.kept_.shape_;
        objects_ = objects_over old kept next c may packed re' two area_ epoch_ shape_ slots_ plan is';
        moved_ = moves_few old kept next c may packed re' two area_ epoch_ shape_ slots_ plan is';
      };
      places_ = places_over old kept next c may packed re' two area_ epoch_ shape_ slots_ plan is' three.places parted' laid;
      small_ = is.small_;
    }

-- what is kept after the switch
pub kept_of : (old : Old) (kept : Kept) (next : ℕ) (plan : Plan) (three four : Kept) (c image : List ℕ) → IsPlanned old kept next plan three c → four ≡ record three { area = plan.root.area; epoch = plan.root.epoch; shape = plan.root.shape; slots = plan.root.slots; small = plan.small }
    → HasPages (next_of kept plan c) c image → IsKept plan.root four image
kept_of old kept next plan three four c image planned four_ has =
    subst (λ (k : Kept). IsKept plan.root k image) (sym four_)
    (record { area_ = refl; epoch_ = refl; shape_ = refl; slots_ = refl; places_ = planned.places_ ∙ ap finite.from_entries (sym has.places); small_ = small_after old (next_of kept plan c) c image plan.small planned.follow has planned.small_ })

-- the same, of what is packed anew
pub planned_left : (old : Old) (kept two three : Kept) (stay : List ℕ) (puts : List Put) (next : ℕ) (c : List ℕ) → IsRepacked kept two stay puts c → MayCheckpoint old kept next c → (packed : List (List Entry)) → AreRepacked (over (over finite.empty (rows_in c (repacked_slots kept))) kept.noted) packed
    → (plan : Plan) → IsPlan two stay packed next plan → three ≡ record two { places = three.places } → ((q : ℕ) → finite.get three.places q ≡ placed plan.pages.items q (finite.get two.places q)) → IsPlanned old kept next plan three c
planned_left old kept two three stay puts next c are may packed re plan is three_ laid =
    planned_of old kept next c may (record kept { noted = []; room = 0 }) two three kept.noted refl refl (repacked_slots kept) stay refl are.stay_ are.taken.pages are.taken.places_ packed re plan is three_ laid
