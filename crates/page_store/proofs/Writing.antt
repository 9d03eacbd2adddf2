-- A store while pages and the next root are written.
use Rattle.std.proofs.Common.{ℕ, ◌≡◌, ◌⊎◌, inl, inr, ◌+◌, ◌-◌, ◌<◌, ◌≤◌, List, length, get_or, sym, ap, ◌∙◌, arith}
use Rattle.std.proofs.lemmas.Bool.{cases_lt}
use Rattle.std.proofs.lemmas.Option.{slice_get-get_or, slice_get_within}
use Rattle.pss_disk.specs.Images.{Agrees}
use Rattle.pss_disk.specs.Parts.{octet_at}
use Rattle.pss_disk.proofs.Parts.{agrees_at}
use Rattle.redo_journal.specs.Journal.{IsClosed, journal_end}
use Rattle.page_format.specs.Laws.{AreSame}
use Rattle.page_format.specs.Pages.{Entry}
use Rattle.page_format.specs.Places.{area_start, slot_end, slot_start}
use Rattle.page_store.specs.Stores.{HasStore, IsOldPlace}
use Rattle.page_format.specs.declared.root.Root.{Root}
use Rattle.page_format.proofs.Staying.{pages_kept, root_there_within, slot_inside}

module _ (root : Root) (objects : List Entry) (gate : ℕ) (c image : List ℕ) (has : HasStore root objects c) (is_gate : gate ≡ area_start (1 - root.area)) (closed : IsClosed c gate) (agrees : Agrees (IsOldPlace root.slots gate) c image) where
  le : root.area ≤ 1
  le = has.root_.current.area_

  same : (i : ℕ) → IsOldPlace root.slots gate i → i < length c → octet_at image i ≡ octet_at c i
  same i old lt = agrees_at (IsOldPlace root.slots gate) c image i agrees old lt

  in_front : (i : ℕ) → (i ≤ gate) ⊎ (gate + 131072 ≤ i) → i < journal_end → octet_at image i ≡ octet_at c i
  in_front i apart lt = same i (inl (apart, lt)) (omega (arith, lt, has.root_.long))

  inside : (k : ℕ) → k < length root.slots → slot_end (get_or root.slots k 0) ≤ length c
  inside k lt = slot_inside root c has.root_ k lt

  in_slot : (k : ℕ) → k < length root.slots → AreSame (slot_start (get_or root.slots k 0)) (slot_end (get_or root.slots k 0)) c image
  in_slot k lt i low high = same i (inr (k, lt, low, high)) (omega (arith, high, inside k lt))

  reaches : (i : ℕ) → IsOldPlace root.slots gate i → i < length c → i < length image
  reaches i old lt = slice_get_within image i _ (agrees i old lt ∙ slice_get-get_or c i 0 lt)

  long_image : journal_end ≤ length image
  long_image = let h = reaches (journal_end - 1) (inl (inr (omega (arith, is_gate, le)), omega arith)) (omega (arith, has.root_.long)) in omega (arith, h)

  inside_image : (k : ℕ) → k < length root.slots → slot_end (get_or root.slots k 0) ≤ length image
  inside_image k lt =
      let h = reaches (slot_end (get_or root.slots k 0) - 1) (inr (k, lt, omega arith, omega arith)) (omega (arith, inside k lt)) in
      omega (arith, h)

  own : AreSame (area_start root.area) (area_start root.area + 131072) c image
  own i low high = in_front i (apart_of (cases_lt i (gate + 1))) (omega (arith, high, le))
    where
      apart_of : (i < gate + 1) ⊎ (gate + 1 ≤ i) → (i ≤ gate) ⊎ (gate + 131072 ≤ i)
      apart_of (inl less) = inl (omega (arith, less))
      apart_of (inr more) = inr (omega (arith, more, is_gate, low, high, le))

  pub store_while_written : HasStore root objects image
  store_while_written =
      let kept = pages_kept root.next root.slots c image in_slot in
      record {
        root_ = root_there_within root c image has.root_ own long_image inside_image (λ r. absurd (closed (sym (in_front gate (inl (omega arith)) (omega (arith, is_gate, le))) ∙ ap (octet_at image) is_gate ∙ r.gate)));
        pages = kept.pages has.pages;
        objects_ = kept.entries has.pages ∙ has.objects_;
      }
