-- A store while the first gate of its journal is closed.
use Rattle.std.proofs.Common.{ℕ, ◌≡◌, ◌≢◌, ⊎_elim, inl, inr, ◌+◌, ◌-◌, ◌<◌, ◌≤◌, List, length, None, Some, IfSome, refl, sym, ◌∙◌, arith}
use Rattle.std.proofs.lemmas.Bool.{cases_eq}
use Rattle.std.specs.Int.{to_be_bytes, w64}
use Rattle.std.specs.declared.option.Option.{Option}
use Rattle.pss_disk.specs.Images.{Agrees, AllAgree, Keeps}
use Rattle.pss_disk.specs.Moments.{Disk, IsImage, Moment, Through}
use Rattle.pss_disk.specs.Parts.{octet_at}
use Rattle.pss_disk.proofs.Parts.{agrees_at}
use Rattle.pss_disk.proofs.Passing.{weaker}
use Rattle.redo_journal.specs.Journal.{HasEpoch, IsClosed, IsOpen, journal_start}
use Rattle.page_format.specs.Pages.{Entry}
use Rattle.page_store.specs.Stores.{AllHave, HasStore, IsEmptied}
use Rattle.page_format.specs.declared.root.Root.{Root}
use Rattle.page_store.specs.Gates.{IsAnywhere}
use Rattle.page_store.proofs.Closing.{last_of, long_of, store_anywhere, untold}
use Rattle.page_format.proofs.Staying.{stands_same, store_kept}

module _ (root : Root) (objects : List Entry) (c image : List ℕ) (has : IsEmptied root objects c) (agrees : Agrees (λ i. i ≢ journal_start) c image) (long : length c ≤ length image) where
  same : (i : ℕ) → i ≢ journal_start → i < length c → octet_at image i ≡ octet_at c i
  same i ne lt = agrees_at (λ k. k ≢ journal_start) c image i agrees ne lt

  pub store_there : HasStore root objects image
  store_there =
      let kept = store_kept root c image has.store.root_ (λ i low high. same i (λ e. omega (arith, e, high)) (omega (arith, high, has.store.root_.long))) (λ i low high. same i (λ e. omega (arith, e, low)) high) long in
      record { root_ = kept.root_; pages = kept.pages.pages has.store.pages; objects_ = kept.pages.entries has.store.pages ∙ has.store.objects_ }

  -- behind the gate the other epoch stays
  epoch_back : HasEpoch root.epoch image journal_start → HasEpoch root.epoch c journal_start
  epoch_back s =
      stands_same (journal_start + 1) (journal_start + 9) image c (λ i low high. sym (same i (λ e. omega (arith, e, low)) (omega (arith, high, has.store.root_.long)))) (journal_start + 1) (to_be_bytes w64 root.epoch) (omega arith) (omega arith) s

  pub emptied_open : IsOpen c journal_start → IsEmptied root objects image
  emptied_open open_ = record {
    store = store_there;
    none = inr (refl, λ s. ⊎_elim (λ closed. closed open_) (λ other. other.1 (epoch_back s)) has.none);
  }

emptied_still : (root : Root) (objects : List Entry) (c image : List ℕ) → IsEmptied root objects c → IsClosed c journal_start → Agrees IsAnywhere c image → length c ≤ length image → IsEmptied root objects image
emptied_still root objects c image has closed agrees long = record {
  store = store_anywhere root objects c image has.store agrees long;
  none = inl (λ open_. closed (sym (agrees_at IsAnywhere c image journal_start agrees tt (omega (arith, has.store.root_.long))) ∙ open_));
}

open_disk : (root : Root) (objects : List Entry) (c : List ℕ) (disk : Option Disk) → IsEmptied root objects c → IsOpen c journal_start → AllAgree (λ i. i ≢ journal_start) (Some c) disk → IfSome disk (λ d. (image : List ℕ) → IsImage d image → IsEmptied root objects image)
open_disk root objects c None has open_ h = tt
open_disk root objects c (Some d) has open_ h = λ image is.
    emptied_open root objects c image has (h image is) (long_of (λ i. i ≢ journal_start) c image (length c - 1) (h image is) (λ e. omega (arith, e, has.store.root_.long)) (last_of c (omega (arith, has.store.root_.long)))) open_

still_disk : (root : Root) (objects : List Entry) (c : List ℕ) (disk : Option Disk) → IsEmptied root objects c → IsClosed c journal_start → AllAgree IsAnywhere (Some c) disk → IfSome disk (λ d. (image : List ℕ) → IsImage d image → IsEmptied root objects image)
still_disk root objects c None has closed h = tt
still_disk root objects c (Some d) has closed h = λ image is. emptied_still root objects c image has closed (h image is) (long_of IsAnywhere c image (length c - 1) (h image is) tt (last_of c (omega (arith, has.store.root_.long))))

-- at each moment while the first gate is closed the store is there, and no record of its epoch
pub while_emptied : (root : Root) (objects : List Entry) (content : Option (List ℕ)) (before after : List Moment) → IfSome content (IsEmptied root objects) → Through before after (Keeps (λ i. i ≢ journal_start) content) → (IfSome content (λ c. IsClosed c journal_start) → Through before after (Keeps IsAnywhere content))
    → Through before after (AllHave (IsEmptied root objects))
while_emptied root objects None before after has images still = weaker before after (Keeps (λ i. i ≢ journal_start) None) (AllHave (IsEmptied root objects)) (λ m h. untold (IsEmptied root objects) m.disk h) images
while_emptied root objects (Some c) before after has images still =
    ⊎_elim (λ open_. weaker before after (Keeps (λ i. i ≢ journal_start) (Some c)) (AllHave (IsEmptied root objects)) (λ m h. open_disk root objects c m.disk has open_ h) images)
    (λ closed. weaker before after (Keeps IsAnywhere (Some c)) (AllHave (IsEmptied root objects)) (λ m h. still_disk root objects c m.disk has closed h) (still closed)) (cases_eq (octet_at c journal_start) 165)
