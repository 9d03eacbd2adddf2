-- A store while its roots are switched.
use Rattle.std.proofs.Common.{ℕ, ◌≡◌, inl, inr, ◌+◌, ◌-◌, ◌^◌, ◌<◌, ◌≤◌, List, [], ◌∷◌, get_or, None, Some, IfSome, refl, sym, ap, ◌∙◌, subst, arith}
use Rattle.std.specs.declared.option.Option.{Option}
use Rattle.std.specs.Prelude.{OnOk, Result, Ok, Err}
use Rattle.std.specs.Option.{option_map}
use Rattle.pss_disk.specs.Images.{Agrees, AllAgree, Keeps}
use Rattle.pss_disk.specs.Moments.{Disk, IsImage, Moment, Through}
use Rattle.pss_disk.specs.Octets.{write}
use Rattle.pss_disk.specs.Parts.{octet_at}
use Rattle.pss_disk.proofs.Parts.{agrees_at, stands_at, written_stands}
use Rattle.pss_disk.proofs.Passing.{both_have, weaker}
use Rattle.redo_journal.specs.Journal.{IsClosed, journal_end, journal_start}
use Rattle.page_format.specs.Places.{area_start}
use Rattle.page_format.specs.Roots.{IsWithinLimits}
use Rattle.page_store.specs.Stores.{AllHave, IsOldPlace}
use Rattle.page_store.specs.Switch.{HasOld, IsNextOf, MayFollow, Next, Old}
use Rattle.page_format.specs.Written.{AreWritable}
use Rattle.page_format.specs.declared.new_page.NewPage.{NewPage}
use Rattle.page_format.specs.declared.root.Root.{Root}
use Rattle.page_store.specs.inner.Laying.{IsLeft}
use Rattle.page_store.specs.inner.Switching.{IsReady, LaysReady, MayBeLaid}
use Rattle.page_store.proofs.Closing.{untold}
use Rattle.page_store.proofs.JournalThere.{holds_there}
use Rattle.page_store.proofs.Laid.{laid, laid_agrees}
use Rattle.page_store.proofs.LaidOctets.{apart_front, apart_slot}
use Rattle.page_store.proofs.NextStore.{IsLayable, laid_is, next_store, opened_is, pages_are}
use Rattle.page_store.proofs.Writing.{store_while_written}

-- what two clauses say of the images of a moment
pub all_both : (P Q R : List ℕ → Type 0) (m : Moment) → ((image : List ℕ) → P image → Q image → R image) → AllHave P m → AllHave Q m → AllHave R m
all_both P Q R m f p q = by m.disk p q
  where
    by : (disk : Option Disk) → IfSome disk (λ d. (image : List ℕ) → IsImage d image → P image) → IfSome disk (λ d. (image : List ℕ) → IsImage d image → Q image) → IfSome disk (λ d. (image : List ℕ) → IsImage d image → R image)
    by None p q = tt
    by (Some d) p q = λ image is. f image (p image is) (q image is)

pub through_both : (P Q R : List ℕ → Type 0) (before after : List Moment) → ((image : List ℕ) → P image → Q image → R image) → Through before after (AllHave P) → Through before after (AllHave Q) → Through before after (AllHave R)
through_both P Q R before after f p q = weaker before after (λ m. AllHave P m × AllHave Q m) (AllHave R) (λ m h. all_both P Q R m f h.0 h.1) (both_have before after (AllHave P) (AllHave Q) p q)

pub through_weaker : (P R : List ℕ → Type 0) (before after : List Moment) → ((image : List ℕ) → P image → R image) → Through before after (AllHave P) → Through before after (AllHave R)
through_weaker P R before after f p = through_both P P R before after (λ image h same. f image h) p p

-- while the next root is laid
module _ (old : Old) (next : Next) (c : List ℕ) (follow : MayFollow old next c) (closed : IsClosed c (area_start next.root.area)) where
  le : next.root.area ≤ 1
  le = omega (arith, follow.area_)

  is_gate : area_start next.root.area ≡ area_start (1 - old.root.area)
  is_gate = ap area_start (let h : next.root.area ≡ 1 - old.root.area = omega (arith, follow.area_) in h)

  -- a place of the old store is left
  old_is_left : (i : ℕ) → IsOldPlace old.root.slots (area_start next.root.area) i → IsLeft next.root.area next.pages i
  old_is_left i (inl front) = record { root_ = front.0; pages_ = apart_front next.pages i front.1 }
  old_is_left i (inr slot) = record {
    root_ = inr (omega (arith, slot.2, le));
    pages_ = apart_slot next.pages (get_or old.root.slots slot.0 0) i (λ k lt. follow.fresh slot.0 k slot.1 lt) slot.2 slot.3;
  }

  in_journal : (image : List ℕ) → Agrees (IsLeft next.root.area next.pages) c image → (i : ℕ) → journal_start ≤ i → i < journal_end → octet_at image i ≡ octet_at c i
  in_journal image agrees i low high =
      agrees_at (IsLeft next.root.area next.pages) c image i agrees (record { root_ = inr (omega (arith, low, le)); pages_ = apart_front next.pages i high }) (omega (arith, high, follow.store.root_.long))

  pub old_there : (image : List ℕ) → Agrees (IsLeft next.root.area next.pages) c image → HasOld old image
  old_there image agrees = record {
    store = store_while_written old.root old.objects (area_start next.root.area) c image follow.store is_gate closed (λ i place lt. agrees i (old_is_left i place) lt);
    journal = holds_there old.position old.bodies c image follow.journal.holds follow.journal.within (in_journal image agrees);
  }

  pub ready_there : IsLayable next → IsReady old next c (laid next.root next.pages c)
  ready_there ok =
      let image = laid next.root next.pages c in
      let agrees = laid_agrees next.root next.pages c ok.limits.shape_ ok.limits.slots_ ok.pages in
      let is = laid_is old next c follow ok in
      let kept = old_there image agrees in
      let gate = area_start next.root.area in
      let open_ : octet_at (write gate (165 ∷ []) image) gate ≡ 165 = ap (octet_at (write gate (165 ∷ []) image)) (let e : gate ≡ gate + 0 = omega arith in e) ∙ stands_at (write gate (165 ∷ []) image) (165 ∷ []) gate 0 (written_stands gate (165 ∷ []) image) (omega arith) in
      record {
        area_ = follow.area_;
        prepared = record { now = kept.store; then = next_store old next c follow ok (write gate (165 ∷ []) image) (opened_is old next c follow ok image is) open_ };
        journal = record { long = kept.store.root_.long; within = follow.journal.within; holds = kept.journal };
        none = record {
          long = kept.store.root_.long;
          within = omega arith;
          holds = holds_there (record { end = journal_start; epoch = next.root.epoch }) [] c image (record { chain = refl; ends = follow.none }) (omega arith) (in_journal image agrees);
        };
        pages = pages_are old next c follow ok image is;
      }

laying_disk : (old : Old) (next : Next) (content : Option (List ℕ)) (disk : Option Disk) → IfSome content (MayBeLaid old next) → AllAgree (IsLeft next.root.area next.pages) content disk → IfSome disk (λ d. (image : List ℕ) → IsImage d image → HasOld old image)
laying_disk old next None disk may h = untold (HasOld old) disk h
laying_disk old next (Some c) None may h = tt
laying_disk old next (Some c) (Some d) may h = λ image is. old_there old next c may.follow may.closed image (h image is)

-- at each moment while the next root is laid the old store is there, and its journal
pub while_laid : (old : Old) (next : Next) (content : Option (List ℕ)) (before after : List Moment) → IfSome content (MayBeLaid old next) → Through before after (Keeps (IsLeft next.root.area next.pages) content) → Through before after (AllHave (HasOld old))
while_laid old next content before after may images = weaker before after (Keeps (IsLeft next.root.area next.pages) content) (AllHave (HasOld old)) (λ m h. laying_disk old next content m.disk may h) images

pub then_ready : (old : Old) (next : Next) (a b : Option (List ℕ)) → b ≡ option_map (laid next.root next.pages) a → IsLayable next → LaysReady old next a b
then_ready old next None b e ok = e
then_ready old next (Some c) b e ok = subst (λ x. MayBeLaid old next c → IfSome x (IsReady old next c)) (sym e) (λ may. ready_there old next c may.follow may.closed ok)

-- the same for a next one with this root and these pages
module _ (old : Old) (next : Next) (root : Root) (pages : List NewPage) (is : IsNextOf old next root pages) where
  pub while_laid_of : (content : Option (List ℕ)) (before after : List Moment) → IfSome content (MayBeLaid old next) → Through before after (Keeps (IsLeft root.area pages) content) → Through before after (AllHave (HasOld old))
  while_laid_of content before after may images =
      while_laid old next content before after may
      (subst (λ (r : Root). Through before after (Keeps (IsLeft r.area next.pages) content)) (sym is.root_) (subst (λ ps. Through before after (Keeps (IsLeft root.area ps) content)) (sym is.pages_) images))

  layable_of : IsWithinLimits root → AreWritable pages → root.next < 2 ^ 64 → IsLayable next
  layable_of limits ok given = record { limits = subst IsWithinLimits (sym is.root_) limits; given = subst (λ (r : Root). r.next < 2 ^ 64) (sym is.root_) given; pages = subst AreWritable (sym is.pages_) ok }

  pub then_ready_of : (a b : Option (List ℕ)) → b ≡ option_map (laid root pages) a → IsWithinLimits root → AreWritable pages → root.next < 2 ^ 64 → LaysReady old next a b
  then_ready_of a b e limits ok given = then_ready old next a b (e ∙ ap (λ (r : Root). option_map (laid r pages) a) (sym is.root_) ∙ ap (λ ps. option_map (laid next.root ps) a) (sym is.pages_)) (layable_of limits ok given)

pub on_ok_two : {T X : Type 0} (r : Result T X) (A B C : Type 0) → (A → B → C) → OnOk r A → OnOk r B → OnOk r C
on_ok_two (Ok t) A B C f a b = f a b
on_ok_two (Err e) A B C f a b = tt
