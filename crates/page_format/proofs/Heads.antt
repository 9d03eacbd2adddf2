-- The head of a root area, read of its first octets.
use Rattle.std.proofs.Common.{ℕ, ◌≡◌, ◌↔◌, ◌+◌, List, length, sym, ap, ◌∙◌, arith}
use Rattle.pss_disk.specs.Octets.{octets_in, range_of}
use Rattle.pss_disk.specs.Parts.{octet_at}
use Rattle.page_format.specs.Places.{area_start}
use Rattle.page_format.specs.Roots.{IsRoot, root_magic}
use Rattle.page_format.specs.declared.head.Head.{Head}
use Rattle.page_format.specs.inner.Heads.{IsHead}
use Rattle.page_format.specs.inner.Copies.{IsCopy}
use Rattle.page_format.proofs.Buffers.{copy_of, number4_copied, number8_copied, octet_copied, stands_copied}

root_copied : (area : ℕ) (octets image : List ℕ) → IsCopy (area_start area) 32 octets image → IsRoot octets 0 ↔ IsRoot image area
root_copied area octets image copy =
    let gate : octet_at octets 0 ≡ octet_at image (area_start area) = octet_copied (area_start area) 32 octets image copy 0 (omega arith) ∙ ap (octet_at image) (let e : area_start area + 0 ≡ area_start area = omega arith in e) in
    let magic = stands_copied (area_start area) 32 octets image copy 1 root_magic (omega arith) in
    (λ r. record { gate = sym gate ∙ r.gate; magic = magic.0 r.magic }, λ r. record { gate = gate ∙ r.gate; magic = magic.1 r.magic })

pub head_read : (area : ℕ) (head : Head) (octets image : List ℕ) → length octets ≡ 32 → IsHead 0 head octets → octets ≡ octets_in (range_of (area_start area) octets) image → IsHead area head image
head_read area head octets image len is read =
    let copy = copy_of (area_start area) 32 octets image len read in
    let root = root_copied area octets image copy in
    record {
      root = (λ t. root.0 (is.root.0 t), λ r. is.root.1 (root.1 r));
      epoch = sym (number8_copied (area_start area) 32 octets image copy 8 (omega arith)) ∙ is.epoch;
      next = sym (number8_copied (area_start area) 32 octets image copy 16 (omega arith)) ∙ is.next;
      shape_length = sym (number4_copied (area_start area) 32 octets image copy 24 (omega arith)) ∙ is.shape_length;
      page_count = sym (number4_copied (area_start area) 32 octets image copy 28 (omega arith)) ∙ is.page_count;
    }
