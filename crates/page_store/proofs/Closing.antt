-- A store while the gate of its other root is closed, and while that of its journal is.
use Rattle.std.proofs.Common.{ℕ, ◌≡◌, ◌≢◌, ⊎_elim, ◌+◌, ◌-◌, ◌%◌, ◌^◌, ◌<◌, ◌≤◌, List, length, get_or, None, Some, IfSome, sym, ap, ◌∙◌, subst, arith}
use Rattle.std.proofs.lemmas.Bool.{cases_eq}
use Rattle.std.proofs.lemmas.Option.{slice_get-get_or, slice_get_within}
use Rattle.std.specs.declared.option.Option.{Option}
use Rattle.pss_disk.specs.Images.{Agrees, AllAgree, Keeps}
use Rattle.pss_disk.specs.Moments.{Disk, IsImage, Moment, Through}
use Rattle.pss_disk.specs.Parts.{octet_at}
use Rattle.pss_disk.proofs.Parts.{agrees_at}
use Rattle.pss_disk.proofs.Passing.{weaker}
use Rattle.redo_journal.specs.Journal.{IsClosed, IsOpen}
use Rattle.page_format.specs.Laws.{AreSame}
use Rattle.page_format.specs.Places.{area_start, slot_end, slot_start}
use Rattle.page_format.specs.Roots.{Follows, HasRoot, IsRoot, root_magic}
use Rattle.page_store.specs.Stores.{AllHave, HasStore}
use Rattle.page_format.specs.Pages.{Entry}
use Rattle.page_format.specs.declared.root.Root.{Root}
use Rattle.page_store.specs.Gates.{IsAnywhere}
use Rattle.page_format.proofs.Staying.{eight_same, pages_kept, root_kept, slot_inside, stands_same, store_kept}

-- the gate of the root area that is not current
abbrev pub other_gate : Root → ℕ
other_gate root = area_start (1 - root.area)

-- an image that agrees with a content but at one place has its octets elsewhere
same_but : (gate : ℕ) (c image : List ℕ) → Agrees (λ i. i ≢ gate) c image → (i : ℕ) → i ≢ gate → i < length c → octet_at image i ≡ octet_at c i
same_but gate c image agrees i ne lt = agrees_at (λ k. k ≢ gate) c image i agrees ne lt

module _ (root : Root) (c image : List ℕ) (has : HasRoot root c) (open_ : IsOpen c (other_gate root)) (agrees : Agrees (λ i. i ≢ other_gate root) c image) (long : length c ≤ length image) where
  le : root.area ≤ 1
  le = has.current.area_

  own : AreSame (area_start root.area) (area_start root.area + 131072) c image
  own i low high = same_but (other_gate root) c image agrees i (λ e. omega (arith, e, low, high, le)) (omega (arith, high, le, has.long))

  behind_gate : AreSame (other_gate root + 1) (other_gate root + 131072) c image
  behind_gate i low high = same_but (other_gate root) c image agrees i (λ e. omega (arith, e, low)) (omega (arith, high, has.long))

  back : AreSame (other_gate root + 1) (other_gate root + 131072) image c
  back i low high = sym (behind_gate i low high)

  -- where the image has another root, the content has it, since its gate is open there
  other_root : IsRoot image (1 - root.area) → IsRoot c (1 - root.area)
  other_root r = record { gate = open_; magic = stands_same (other_gate root + 1) (other_gate root + 131072) image c back (other_gate root + 1) root_magic (omega arith) (omega arith) r.magic }

  newer : IsRoot image (1 - root.area) → Follows image root.area (1 - root.area)
  newer r =
      eight_same (area_start root.area) (area_start root.area + 131072) c image own (area_start root.area + 8) (omega arith) (omega arith) ∙ has.current.newer (other_root r)
      ∙ ap (λ n. (n + 1) % 2 ^ 64) (sym (eight_same (other_gate root + 1) (other_gate root + 131072) c image behind_gate (other_gate root + 8) (omega arith) (omega arith)))

  pub root_while_closing : HasRoot root image
  root_while_closing = root_kept root c image has own long newer

  slots_same : (k : ℕ) → k < length root.slots → AreSame (slot_start (get_or root.slots k 0)) (slot_end (get_or root.slots k 0)) c image
  slots_same k lt i low high = same_but (other_gate root) c image agrees i (λ e. omega (arith, e, low)) (omega (arith, high, inside))
    where
      inside : slot_end (get_or root.slots k 0) ≤ length c
      inside = slot_inside root c has k lt

-- each image has the store while the gate of the other root is closed
pub store_while_closing : (root : Root) (objects : List Entry) (c image : List ℕ) → HasStore root objects c → IsOpen c (other_gate root) → Agrees (λ i. i ≢ other_gate root) c image → length c ≤ length image → HasStore root objects image
store_while_closing root objects c image has open_ agrees long =
    let kept = pages_kept root.next root.slots c image (slots_same root c image has.root_ open_ agrees long) in
    record { root_ = root_while_closing root c image has.root_ open_ agrees long; pages = kept.pages has.pages; objects_ = kept.entries has.pages ∙ has.objects_ }

-- an image that agrees everywhere has the store too
pub store_anywhere : (root : Root) (objects : List Entry) (c image : List ℕ) → HasStore root objects c → Agrees IsAnywhere c image → length c ≤ length image → HasStore root objects image
store_anywhere root objects c image has agrees long =
    let same : (i : ℕ) → i < length c → octet_at image i ≡ octet_at c i = λ i lt. agrees_at IsAnywhere c image i agrees tt lt in
    let kept = store_kept root c image has.root_ (λ i low high. same i (omega (arith, high, has.root_.long))) (λ i low high. same i high) long in
    record { root_ = kept.root_; pages = kept.pages.pages has.pages; objects_ = kept.pages.entries has.pages ∙ has.objects_ }

-- an image that agrees but at one place that is not the last is no shorter
pub long_of : (S : ℕ → Type 0) (c image : List ℕ) (i : ℕ) → Agrees S c image → S i → length c ≡ i + 1 → length c ≤ length image
long_of S c image i agrees s len =
    let lt : i < length c = omega (arith, len) in
    omega (arith, len, slice_get_within image i _ (agrees i s lt ∙ slice_get-get_or c i 0 lt))

pub last_of : (c : List ℕ) → 1 ≤ length c → length c ≡ (length c - 1) + 1
last_of c le = omega (arith, le)

closing_disk : (root : Root) (objects : List Entry) (c : List ℕ) (disk : Option Disk) → HasStore root objects c → IsOpen c (other_gate root) → AllAgree (λ i. i ≢ other_gate root) (Some c) disk → IfSome disk (λ d. (image : List ℕ) → IsImage d image → HasStore root objects image)
closing_disk root objects c None has open_ h = tt
closing_disk root objects c (Some d) has open_ h = λ image is.
    let le : root.area ≤ 1 = has.root_.current.area_ in
    store_while_closing root objects c image has open_ (h image is) (long_of (λ i. i ≢ other_gate root) c image (length c - 1) (h image is) (λ e. omega (arith, e, has.root_.long, le)) (last_of c (omega (arith, has.root_.long))))

still_disk : (root : Root) (objects : List Entry) (c : List ℕ) (disk : Option Disk) → HasStore root objects c → AllAgree IsAnywhere (Some c) disk → IfSome disk (λ d. (image : List ℕ) → IsImage d image → HasStore root objects image)
still_disk root objects c None has h = tt
still_disk root objects c (Some d) has h = λ image is. store_anywhere root objects c image has (h image is) (long_of IsAnywhere c image (length c - 1) (h image is) tt (last_of c (omega (arith, has.root_.long))))

pub untold : (P : List ℕ → Type 0) (disk : Option Disk) → disk ≡ None → IfSome disk (λ d. (image : List ℕ) → IsImage d image → P image)
untold P disk e = subst (λ o. IfSome o (λ d. (image : List ℕ) → IsImage d image → P image)) (sym e) tt

-- at each moment while the other gate is closed the store is there
pub while_closing : (root : Root) (objects : List Entry) (content : Option (List ℕ)) (before after : List Moment) → IfSome content (HasStore root objects) → Through before after (Keeps (λ i. i ≢ other_gate root) content) → (IfSome content (λ c. IsClosed c (other_gate root)) → Through before after (Keeps IsAnywhere content))
    → Through before after (AllHave (HasStore root objects))
while_closing root objects None before after has images still = weaker before after (Keeps (λ i. i ≢ other_gate root) None) (AllHave (HasStore root objects)) (λ m h. untold (HasStore root objects) m.disk h) images
while_closing root objects (Some c) before after has images still =
    ⊎_elim (λ open_. weaker before after (Keeps (λ i. i ≢ other_gate root) (Some c)) (AllHave (HasStore root objects)) (λ m h. closing_disk root objects c m.disk has open_ h) images)
    (λ closed. weaker before after (Keeps IsAnywhere (Some c)) (AllHave (HasStore root objects)) (λ m h. still_disk root objects c m.disk has h) (still closed)) (cases_eq (octet_at c (other_gate root)) 165)
