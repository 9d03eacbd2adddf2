-- A store while the gate of a prepared root is opened, and while the first gate of its journal is closed.
use Rattle.std.proofs.Common.{ℕ, ◌≡◌, ◌≢◌, ◌⊎◌, ⊎_elim, inl, inr, ◌+◌, ◌-◌, ◌<◌, ◌≤◌, List, [], ◌∷◌, length, get_or, slice_get, None, Some, IfSome, sym, ap, ◌∙◌, subst, arith}
use Rattle.std.proofs.lemmas.Bool.{cases_eq}
use Rattle.std.proofs.lemmas.Option.{slice_get-get_or}
use Rattle.std.specs.declared.option.Option.{Option}
use Rattle.std.specs.Option.{option_map}
use Rattle.pss_disk.specs.Images.{Agrees, AllAgree, Keeps}
use Rattle.pss_disk.specs.Moments.{Disk, IsImage, Moment, Through}
use Rattle.pss_disk.specs.Octets.{write}
use Rattle.pss_disk.specs.Parts.{octet_at}
use Rattle.pss_disk.specs.inner.Writing.{length-write, write_within}
use Rattle.pss_disk.proofs.Images.{agrees_write, misses_but}
use Rattle.pss_disk.proofs.Parts.{agrees_at}
use Rattle.pss_disk.proofs.Passing.{weaker}
use Rattle.redo_journal.specs.Journal.{IsClosed}
use Rattle.page_format.specs.Laws.{AreSame}
use Rattle.page_format.specs.Pages.{Entry}
use Rattle.page_format.specs.Places.{area_start, slot_end, slot_start}
use Rattle.page_store.specs.Stores.{AllHave, HasStore, IsPrepared, IsSwitched}
use Rattle.page_format.specs.declared.root.Root.{Root}
use Rattle.page_store.specs.Gates.{IsAnywhere}
use Rattle.page_store.proofs.Closing.{last_of, long_of, store_anywhere, untold}
use Rattle.page_format.proofs.Staying.{pages_kept, root_kept, slot_inside}

module _ (gate : ℕ) (c image : List ℕ) (agrees : Agrees (λ i. i ≢ gate) c image) where
  same_but : (i : ℕ) → i ≢ gate → i < length c → octet_at image i ≡ octet_at c i
  same_but i ne lt = agrees_at (λ k. k ≢ gate) c image i agrees ne lt

  opened_length : gate < length c → length (write gate (165 ∷ []) c) ≡ length c
  opened_length lt = omega (arith, length-write gate (165 ∷ []) c, lt)

  -- an image whose gate is open is the content with its gate open
  opened : gate < length c → length c ≤ length image → octet_at image gate ≡ 165 → Agrees IsAnywhere (write gate (165 ∷ []) c) image
  opened lt long open_ i any less =
      ⊎_elim
      (λ e. ap (slice_get image) e ∙ slice_get-get_or image gate 0 (omega (arith, lt, long)) ∙ ap Some open_ ∙ sym (ap (slice_get (write gate (165 ∷ []) c)) e ∙ write_within gate (165 ∷ []) c 0 gate (omega arith) (omega arith)))
      (λ ne. agrees i ne (omega (arith, less, opened_length lt)) ∙ sym (agrees_write (λ k. k ≢ gate) gate (165 ∷ []) c (misses_but gate) i ne (omega (arith, less, opened_length lt)))) (cases_eq i gate)

-- an image in which the other root's gate is closed has the store
module _ (root : Root) (objects : List Entry) (gate : ℕ) (c image : List ℕ) (has : HasStore root objects c) (is_gate : gate ≡ area_start (1 - root.area)) (agrees : Agrees (λ i. i ≢ gate) c image) (long : length c ≤ length image) where
  le : root.area ≤ 1
  le = has.root_.current.area_

  pub store_while_closed : IsClosed image gate → HasStore root objects image
  store_while_closed closed =
      let own : AreSame (area_start root.area) (area_start root.area + 131072) c image = λ i low high. same_but gate c image agrees i (λ e. omega (arith, e, is_gate, low, high, le)) (omega (arith, high, le, has.root_.long)) in
      let slots : (k : ℕ) → k < length root.slots → AreSame (slot_start (get_or root.slots k 0)) (slot_end (get_or root.slots k 0)) c image =
      λ k lt. λ i low high.
      same_but gate c image agrees i (λ e. omega (arith, e, is_gate, low, le)) (omega (arith, high, slot_inside root c has.root_ k lt)) in
      let kept = pages_kept root.next root.slots c image slots in
      record {
        root_ = root_kept root c image has.root_ own long (λ r. absurd (closed (ap (octet_at image) is_gate ∙ r.gate)));
        pages = kept.pages has.pages;
        objects_ = kept.entries has.pages ∙ has.objects_;
      }

  pub gate_inside : gate + 1 < length c
  gate_inside = omega (arith, is_gate, le, has.root_.long)

either_store : (root new : Root) (objects packed : List Entry) (gate : ℕ) (c image : List ℕ) → HasStore root objects c → HasStore new packed (write gate (165 ∷ []) c) → gate ≡ area_start (1 - root.area) → Agrees (λ i. i ≢ gate) c image → length c ≤ length image → HasStore root objects image ⊎ HasStore new packed image
either_store root new objects packed gate c image has ready is_gate agrees long =
    let inside = gate_inside root objects gate c image has is_gate agrees long in
    let lt : gate < length c = omega (arith, inside) in
    ⊎_elim (λ open_. inr (store_anywhere new packed (write gate (165 ∷ []) c) image ready (opened gate c image agrees lt long open_) (omega (arith, opened_length gate c image agrees lt, long))))
    (λ closed. inl (store_while_closed root objects gate c image has is_gate agrees long closed)) (cases_eq (octet_at image gate) 165)

opening_disk : (root new : Root) (objects packed : List Entry) (gate : ℕ) (content : Option (List ℕ)) (disk : Option Disk) → gate ≡ area_start (1 - root.area) → IfSome content (IsPrepared root objects new packed gate) → AllAgree (λ i. i ≢ gate) content disk
    → IfSome disk (λ d. (image : List ℕ) → IsImage d image → HasStore root objects image ⊎ HasStore new packed image)
opening_disk root new objects packed gate None disk is_gate ready h = untold (λ image. HasStore root objects image ⊎ HasStore new packed image) disk h
opening_disk root new objects packed gate (Some c) None is_gate ready h = tt
opening_disk root new objects packed gate (Some c) (Some d) is_gate ready h = λ image is.
    let le : root.area ≤ 1 = ready.now.root_.current.area_ in
    let long : length c ≤ length image = long_of (λ i. i ≢ gate) c image (length c - 1) (h image is) (λ e. omega (arith, e, is_gate, ready.now.root_.long, le)) (last_of c (omega (arith, ready.now.root_.long))) in
    either_store root new objects packed gate c image ready.now ready.then is_gate (h image is) long

-- at each moment while a prepared root is opened, the old store is there or the new one
pub while_opening : (root new : Root) (objects packed : List Entry) (gate : ℕ) (content : Option (List ℕ)) (before after : List Moment) → gate ≡ area_start (1 - root.area) → IfSome content (IsPrepared root objects new packed gate) → Through before after (Keeps (λ i. i ≢ gate) content)
    → Through before after (AllHave (IsSwitched root objects new packed))
while_opening root new objects packed gate content before after is_gate ready images = weaker before after (Keeps (λ i. i ≢ gate) content) (AllHave (IsSwitched root objects new packed)) (λ m h. opening_disk root new objects packed gate content m.disk is_gate ready h) images

pub then_open : (root new : Root) (objects packed : List Entry) (gate : ℕ) (old content : Option (List ℕ)) → content ≡ option_map (write gate (165 ∷ [])) old → IfSome old (IsPrepared root objects new packed gate) → IfSome content (HasStore new packed)
then_open root new objects packed gate old content e ready = subst (λ o. IfSome o (HasStore new packed)) (sym e) (by old ready)
  where
    by : (o : Option (List ℕ)) → IfSome o (IsPrepared root objects new packed gate) → IfSome (option_map (write gate (165 ∷ [])) o) (HasStore new packed)
    by None r = tt
    by (Some c) r = r.then
