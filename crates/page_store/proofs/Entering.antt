-- A store while one octet in front of its slots is written: a gate of a switch.
use Rattle.std.proofs.Common.{ℕ, ◌≡◌, ◌≢◌, ◌⊎◌, ⊎_elim, inl, inr, ◌-◌, ◌<◌, ◌≤◌, List, [], ◌∷◌, ◌++◌, length, get_or, None, Some, IfSome, refl, sym, ap, ◌∙◌, subst, arith}
use Rattle.std.proofs.lemmas.Bool.{cases_lt}
use Rattle.std.proofs.lemmas.List.{get_or_past}
use Rattle.std.specs.declared.option.Option.{Option}
use Rattle.std.specs.Option.{option_map}
use Rattle.pss_disk.specs.Images.{Agrees, IsQuiet}
use Rattle.pss_disk.specs.Moments.{Moment, Through}
use Rattle.pss_disk.specs.Octets.{write}
use Rattle.pss_disk.specs.Parts.{octet_at}
use Rattle.pss_disk.specs.inner.Writing.{length-write}
use Rattle.pss_disk.proofs.Images.{agrees_write, misses_but}
use Rattle.pss_disk.proofs.Parts.{agrees_at}
use Rattle.pss_disk.proofs.Passing.{weaker}
use Rattle.redo_journal.specs.Journal.{Holds, IsClosed, Position, journal_end, journal_start}
use Rattle.page_format.specs.Laws.{AreSame}
use Rattle.page_format.specs.Pages.{ArePages, IsPage}
use Rattle.page_format.specs.Places.{area_start, slot_end, slot_start}
use Rattle.page_store.specs.Stores.{AllHave, HasStore, IsEmptied, IsJournal, IsSwitched}
use Rattle.page_store.specs.Switch.{HasOld, HasPages, IsEither, MayFollow, Next, Old, objects_of, places_of, slots_of}
use Rattle.page_store.specs.inner.Switching.{IsEntered, IsReady, LaysReady, MakesReady, MayBeLaid}
use Rattle.page_store.proofs.Emptying.{store_there}
use Rattle.page_store.proofs.JournalThere.{holds_there}
use Rattle.page_store.proofs.Opening.{store_while_closed}
use Rattle.page_format.proofs.Staying.{all_entries, all_places, pages_kept, used_same}
use Rattle.page_store.proofs.Switching.{through_both, through_weaker}

-- no record of an epoch stands in the journal
abbrev nothing_of : ℕ → Position
nothing_of epoch = record { end = journal_start; epoch = epoch }

module _ (g x : ℕ) (c : List ℕ) (long : journal_end ≤ length c) (lt : g < journal_end) where
  abbrev set : List ℕ
  set = write g (x ∷ []) c

  set_length : length set ≡ length c
  set_length = omega (arith, length-write g (x ∷ []) c, lt, long)

  but_one : Agrees (λ i. i ≢ g) c set
  but_one = agrees_write (λ i. i ≢ g) g (x ∷ []) c (misses_but g)

  elsewhere : (i : ℕ) → i ≢ g → octet_at set i ≡ octet_at c i
  elsewhere i ne =
      ⊎_elim {A = i < length c} {B = length c ≤ i} {C = octet_at set i ≡ octet_at c i} (λ less. agrees_at (λ k. k ≢ g) c set i but_one ne less) (λ more. get_or_past set i 0 (omega (arith, more, set_length)) ∙ sym (get_or_past c i 0 more)) (cases_lt i (length c))

  in_slot : (slot : ℕ) → AreSame (slot_start slot) (slot_end slot) c set
  in_slot slot i low high = elsewhere i (λ e. omega (arith, e, low, lt))

  -- the journal, where the octet stands in front of it
  in_journal : g < journal_start → (position : Position) (bodies : List (List ℕ)) → IsJournal position bodies c → Holds position bodies set
  in_journal front position bodies j = holds_there position bodies c set j.holds j.within (λ i low high. elsewhere i (λ e. omega (arith, e, low, front)))

  -- pages that were seen from the content are seen from this one
  pages_there : (next : Next) (before : List ℕ) → ArePages next.root.next next.root.slots set → HasPages next before c → HasPages next before set
  pages_there next before are p = record {
    places = sym ((pages_kept next.root.next next.root.slots set c (λ k less. λ i low high. sym (in_slot (get_or next.root.slots k 0) i low high))).places are) ∙ p.places;
    kept_uses = λ k less. used_same (slot_start (get_or next.kept k 0)) (get_or next.kept k 0) c set (in_slot (get_or next.kept k 0)) ∙ p.kept_uses k less;
    new_uses = λ k less. used_same (slot_start (get_or (slots_of next.pages) k 0)) (get_or (slots_of next.pages) k 0) c set (in_slot (get_or (slots_of next.pages) k 0)) ∙ p.new_uses k less;
  }

-- the next root may follow where the gate of its area was closed
module _ (old : Old) (next : Next) (c : List ℕ) (follow : MayFollow old next c) where
  abbrev gate : ℕ
  gate = area_start next.root.area

  abbrev closed_now : List ℕ
  closed_now = write gate (0 ∷ []) c

  le : next.root.area ≤ 1
  le = omega (arith, follow.area_)

  long : journal_end ≤ length c
  long = follow.store.root_.long

  front : gate < journal_start
  front = omega (arith, le)

  inside : gate < journal_end
  inside = omega (arith, le)

  is_gate : gate ≡ area_start (1 - old.root.area)
  is_gate = ap area_start (let h : next.root.area ≡ 1 - old.root.area = omega (arith, follow.area_) in h)

  kept_page : (k : ℕ) → k < length next.kept → IsPage c (slot_start (get_or next.kept k 0)) (get_or next.kept k 0)
  kept_page k lt = let h = follow.named k lt in subst (λ s. IsPage c (slot_start s) s) h.2 (follow.store.pages.whole h.0 h.1)

  kept_same : (k : ℕ) → k < length next.kept → AreSame (slot_start (get_or next.kept k 0)) (slot_end (get_or next.kept k 0)) c closed_now
  kept_same k lt = in_slot gate 0 c long inside (get_or next.kept k 0)

  pub follow_closed : IsClosed closed_now gate → MayFollow old next closed_now
  follow_closed closed = record {
    store = store_while_closed old.root old.objects gate c closed_now follow.store is_gate (but_one gate 0 c long inside) (omega (arith, set_length gate 0 c long inside)) closed;
    journal = record { long = omega (arith, set_length gate 0 c long inside, long); within = follow.journal.within; holds = in_journal gate 0 c long inside front old.position old.bodies follow.journal };
    none = (in_journal gate 0 c long inside front (nothing_of next.root.epoch) [] (record { long = long; within = omega arith; holds = record { chain = refl; ends = follow.none } })).ends;
    area_ = follow.area_;
    epoch_ = follow.epoch_;
    slots_ = follow.slots_;
    named = follow.named;
    fresh = follow.fresh;
    objects_ = follow.objects_ ∙ ap (λ l. l ++ objects_of next.pages) (sym (all_entries c closed_now next.kept kept_same kept_page));
    given = follow.given;
    large = λ k lt small. follow.large k lt (omega (arith, small, used_same (slot_start (get_or next.kept k 0)) (get_or next.kept k 0) c closed_now (kept_same k lt)));
    packed = follow.packed;
  }

  pages_from : (after : List ℕ) → HasPages next closed_now after → HasPages next c after
  pages_from after p = record {
    places = p.places ∙ ap (λ l. l ++ places_of next.pages) (all_places c closed_now next.kept kept_same kept_page);
    kept_uses = λ k lt. p.kept_uses k lt ∙ used_same (slot_start (get_or next.kept k 0)) (get_or next.kept k 0) c closed_now (kept_same k lt);
    new_uses = p.new_uses;
  }

  ready_from : (after : Option (List ℕ)) → IfSome after (IsReady old next closed_now) → IfSome after (IsReady old next c)
  ready_from None r = tt
  ready_from (Some d) r = record { area_ = r.area_; prepared = r.prepared; journal = r.journal; none = r.none; pages = pages_from d r.pages }

-- after the gate was closed
pub then_laid : (old : Old) (next : Next) (area : ℕ) (a b : Option (List ℕ)) → next.root.area ≡ area → (b ≡ a) ⊎ (b ≡ option_map (write (area_start area) (0 ∷ [])) a) → IfSome b (λ c. IsClosed c (area_start area)) → IfSome a (MayFollow old next) → IfSome b (MayBeLaid old next)
then_laid old next area a b here came closed follow =
    ⊎_elim (λ e. subst (λ o. IfSome o (λ c. IsClosed c (area_start area)) → IfSome o (MayBeLaid old next)) (sym e) (λ done. still a done follow) closed)
    (λ e. subst (λ o. IfSome o (λ c. IsClosed c (area_start area)) → IfSome o (MayBeLaid old next)) (sym e) (λ done. by a done follow) closed) came
  where
    its : (c : List ℕ) → IsClosed c (area_start area) → IsClosed c (area_start next.root.area)
    its c = subst (λ n. IsClosed c (area_start n)) (sym here)

    still : (o : Option (List ℕ)) → IfSome o (λ c. IsClosed c (area_start area)) → IfSome o (MayFollow old next) → IfSome o (MayBeLaid old next)
    still None done f = tt
    still (Some c) done f = record { follow = f; closed = its c done }

    written : (c : List ℕ) (n : ℕ) → next.root.area ≡ n → IsClosed (write (area_start n) (0 ∷ []) c) (area_start n) → MayFollow old next c → MayBeLaid old next (write (area_start n) (0 ∷ []) c)
    written c n e done f =
        subst (λ m. IsClosed (write (area_start m) (0 ∷ []) c) (area_start m) → MayBeLaid old next (write (area_start m) (0 ∷ []) c)) e (λ is. record { follow = follow_closed old next c f is; closed = is }) done

    by : (o : Option (List ℕ)) → IfSome (option_map (write (area_start area) (0 ∷ [])) o) (λ c. IsClosed c (area_start area)) → IfSome o (MayFollow old next) → IfSome (option_map (write (area_start area) (0 ∷ [])) o) (MayBeLaid old next)
    by None done f = tt
    by (Some c) done f = written c area here done f

-- and after the root was laid: seen from the content before both
pub then_prepared : (old : Old) (next : Next) (area : ℕ) (a b d : Option (List ℕ)) → next.root.area ≡ area → (b ≡ a) ⊎ (b ≡ option_map (write (area_start area) (0 ∷ [])) a) → IfSome b (λ c. IsClosed c (area_start area)) → LaysReady old next b d → MakesReady old next a d
then_prepared old next area None b d here came closed ready = ⊎_elim (λ e. subst (λ o. LaysReady old next o d) e ready) (λ e. subst (λ o. LaysReady old next o d) e ready) came
then_prepared old next area (Some c) b d here came closed ready =
    ⊎_elim (λ e. still (subst (λ o. IfSome o (λ x. IsClosed x (area_start area))) e closed) (subst (λ o. LaysReady old next o d) e ready))
    (λ e. written area here (subst (λ o. IfSome o (λ x. IsClosed x (area_start area))) e closed) (subst (λ o. LaysReady old next o d) e ready)) came
  where
    still : IsClosed c (area_start area) → (MayBeLaid old next c → IfSome d (IsReady old next c)) → MayFollow old next c → IfSome d (IsReady old next c)
    still done r f = r (record { follow = f; closed = subst (λ n. IsClosed c (area_start n)) (sym here) done })

    written : (n : ℕ) → next.root.area ≡ n → IsClosed (write (area_start n) (0 ∷ []) c) (area_start n) → (MayBeLaid old next (write (area_start n) (0 ∷ []) c) → IfSome d (IsReady old next (write (area_start n) (0 ∷ []) c))) → MayFollow old next c → IfSome d (IsReady old next c)
    written n e done r f =
        subst (λ m. IsClosed (write (area_start m) (0 ∷ []) c) (area_start m) → (MayBeLaid old next (write (area_start m) (0 ∷ []) c) → IfSome d (IsReady old next (write (area_start m) (0 ∷ []) c))) → IfSome d (IsReady old next c)) e
        (λ is known. ready_from old next c f d (known (record { follow = follow_closed old next c f is; closed = is }))) done r

-- a content that is ready, seen from one before
pub ready_now : (old : Old) (next : Next) (a b : Option (List ℕ)) → MakesReady old next a b → IfSome a (MayFollow old next) → (before : List ℕ) × IfSome b (IsReady old next before)
ready_now old next None b made follow = ([], subst (λ o. IfSome o (IsReady old next [])) (sym made) tt)
ready_now old next (Some c) b made follow = (c, made follow)

pub entered_from : (old : Old) (next : Next) (a b d : Option (List ℕ)) → MakesReady old next a b → ((before : List ℕ) → IfSome b (IsReady old next before) → IfSome d (IsEntered next before)) → IfSome a (λ before. MayFollow old next before → IfSome d (IsEntered next before))
entered_from old next None b d made enter = tt
entered_from old next (Some c) b d made enter = λ follow. enter c (made follow)

-- while a gate is written the old store is there, and its journal
pub old_while : (old : Old) (before after : List Moment) → Through before after (AllHave (HasStore old.root old.objects)) → Through before after (AllHave (Holds old.position old.bodies)) → Through before after (AllHave (HasOld old))
old_while old before after stores journal = through_both (HasStore old.root old.objects) (Holds old.position old.bodies) (HasOld old) before after (λ image s j. record { store = s; journal = j }) stores journal

-- while the next root's gate is opened either one is there
pub either_while : (old : Old) (next : Next) (before after : List Moment) → Through before after (AllHave (IsSwitched old.root old.objects next.root next.objects)) → Through before after (AllHave (Holds old.position old.bodies))
    → Through before after (AllHave (Holds (record { end = journal_start; epoch = next.root.epoch }) [])) → Through before after (AllHave (IsEither old next))
either_while old next before after stores journal none =
    through_both (λ image. IsSwitched old.root old.objects next.root next.objects image × Holds old.position old.bodies image) (Holds (nothing_of next.root.epoch) []) (IsEither old next) before after
    (λ image h n. ⊎_elim (λ s. inl (record { store = s; journal = h.1 })) (λ s. inr (record { store = s; none = n.ends })) h.0)
    (through_both (IsSwitched old.root old.objects next.root next.objects) (Holds old.position old.bodies) (λ image. IsSwitched old.root old.objects next.root next.objects image × Holds old.position old.bodies image) before after (λ image s j. (s, j)) stores journal) none

-- after it was opened
pub then_entered : (old : Old) (next : Next) (area : ℕ) (before : List ℕ) (a b : Option (List ℕ)) → next.root.area ≡ area → b ≡ option_map (write (area_start area) (165 ∷ [])) a → IfSome a (IsReady old next before) → IfSome b (IsEntered next before)
then_entered old next area before a b here e ready = subst (λ o. IfSome o (IsEntered next before)) (sym e) (by a ready)
  where
    one : (c : List ℕ) → IsReady old next before c → IsEntered next before (write (area_start next.root.area) (165 ∷ []) c)
    one c r =
        let gate = area_start next.root.area in
        let long : journal_end ≤ length c = r.journal.long in
        let front : gate < journal_start = omega (arith, r.area_) in
        let inside : gate < journal_end = omega (arith, r.area_) in
        record {
          emptied = record { store = r.prepared.then; none = (in_journal gate 165 c long inside front (nothing_of next.root.epoch) [] r.none).ends };
          pages = pages_there gate 165 c long inside next before r.prepared.then.pages r.pages;
        }

    by : (o : Option (List ℕ)) → IfSome o (IsReady old next before) → IfSome (option_map (write (area_start area) (165 ∷ [])) o) (IsEntered next before)
    by None r = tt
    by (Some c) r = subst (λ n. IsEntered next before (write (area_start n) (165 ∷ []) c)) here (one c r)

-- after the first gate of the journal was closed
pub then_closed : (next : Next) (before : List ℕ) (a b : Option (List ℕ)) → (b ≡ a) ⊎ (b ≡ option_map (write journal_start (0 ∷ [])) a) → IfSome b (λ c. IsClosed c journal_start) → IfSome a (IsEntered next before) → IfSome b (IsEntered next before)
then_closed next before a b came closed entered =
    ⊎_elim (λ e. subst (λ o. IfSome o (IsEntered next before)) (sym e) entered) (λ e. subst (λ o. IfSome o (λ c. IsClosed c journal_start) → IfSome o (IsEntered next before)) (sym e) (λ done. by a done entered) closed) came
  where
    by : (o : Option (List ℕ)) → IfSome (option_map (write journal_start (0 ∷ [])) o) (λ c. IsClosed c journal_start) → IfSome o (IsEntered next before) → IfSome (option_map (write journal_start (0 ∷ [])) o) (IsEntered next before)
    by None done r = tt
    by (Some c) done r =
        let long : journal_end ≤ length c = r.emptied.store.root_.long in
        let store = store_there next.root next.objects c (write journal_start (0 ∷ []) c) r.emptied (but_one journal_start 0 c long (omega arith)) (omega (arith, set_length journal_start 0 c long (omega arith))) in
        record { emptied = record { store = store; none = inl done }; pages = pages_there journal_start 0 c long (omega arith) next before store.pages r.pages }

-- either one is there where the next store is
pub entered_while : (old : Old) (next : Next) (before after : List Moment) → Through before after (AllHave (IsEmptied next.root next.objects)) → Through before after (AllHave (IsEither old next))
entered_while old next before after h = through_weaker (IsEmptied next.root next.objects) (IsEither old next) before after (λ image is. inr is) h

pub old_is_either : (old : Old) (next : Next) (before after : List Moment) → Through before after (AllHave (HasOld old)) → Through before after (AllHave (IsEither old next))
old_is_either old next before after h = through_weaker (HasOld old) (IsEither old next) before after (λ image is. inl is) h

-- nothing was spoken, seen from an earlier moment
pub quiet_on : (first later : Moment) (before after : List Moment) → IsQuiet first later → Through before after (IsQuiet later) → Through before after (IsQuiet first)
quiet_on first later before after said h = weaker before after (IsQuiet later) (IsQuiet first) (λ m e. e ∙ said) h
