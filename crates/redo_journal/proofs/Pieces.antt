-- What a window has of a content.
use Rattle.std.proofs.Common.{ℕ, ◌≡◌, ◌↔◌, ◌≤◌, ◌+◌, ◌-◌, List, ◌++◌, length, take, drop, get_or, None, Some, IfSome, IsTrue, sym, ap, ◌∙◌, subst, arith}
use Rattle.std.specs.Int.{from_be_bytes, to_be_bytes, w32, w64}
use Rattle.std.specs.Prelude.{slice_range}
use Rattle.std.specs.declared.option.Option.{Option}
use Rattle.pss_disk.specs.Octets.{octets_in}
use Rattle.pss_disk.specs.Parts.{octet_at}
use Rattle.pss_disk.proofs.Parts.{in_part, part_in_two, part_of_part}
use Rattle.redo_journal.specs.declared.header.Header.{Header}
use Rattle.redo_journal.specs.declared.window.Window.{Window}
use Rattle.redo_journal.specs.inner.Window.{IsHeader, IsPiece}

-- octets of a window are octets of the content
pub piece_part : (from at count : ℕ) (items c : List ℕ) → items ≡ octets_in (record { at = from; count = length items }) c → from ≤ at → at + count ≤ from + length items → take count (drop (at - from) items) ≡ octets_in (record { at = at; count = count }) c
piece_part from at count items c is le end =
    ap (λ l. take count (drop (at - from) l)) is ∙ part_of_part from (length items) (at - from) count c (omega (arith, le, end)) ∙ ap (λ k. octets_in (record { at = k; count = count }) c) (let e : from + (at - from) ≡ at = omega (arith, le) in e)

-- what stands behind a gate, read of its octets
pub header_of : (epoch gate : ℕ) (header : Header) (octets c : List ℕ) → octets ≡ octets_in (record { at = gate; count = 13 }) c
    → (IsTrue header.is_open ↔ (get_or octets 0 0 ≡ 165)) → (IsTrue header.has_epoch ↔ (slice_range octets 1 9 ≡ to_be_bytes w64 epoch)) → from_be_bytes w32 (slice_range octets 9 13) ≡ header.len → to_be_bytes w32 header.len ≡ slice_range octets 9 13
    → IsHeader epoch gate header c
header_of epoch gate header octets c is open_ epoch_ len spelled =
    let gate_is : get_or octets 0 0 ≡ octet_at c gate = ap (λ l. get_or l 0 0) is ∙ in_part (record { at = gate; count = 13 }) c 0 (omega arith) ∙ ap (octet_at c) (let e : gate + 0 ≡ gate = omega arith in e) in
    let epoch_is : slice_range octets 1 9 ≡ octets_in (record { at = gate + 1; count = 8 }) c = ap (λ l. slice_range l 1 9) is ∙ part_of_part gate 13 1 8 c (omega arith) in
    let len_is : slice_range octets 9 13 ≡ octets_in (record { at = gate + 9; count = 4 }) c = ap (λ l. slice_range l 9 13) is ∙ part_of_part gate 13 9 4 c (omega arith) in
    record {
      open_ = (λ t. sym gate_is ∙ open_.0 t, λ e. open_.1 (gate_is ∙ e));
      epoch_ = (λ t. sym epoch_is ∙ epoch_.0 t, λ e. epoch_.1 (epoch_is ∙ e));
      len = ap (from_be_bytes w32) (sym len_is) ∙ len;
      stands = sym len_is ∙ sym spelled;
    }

pub header_read : (epoch gate : ℕ) (header : Header) (window : Window) (ahead octets : List ℕ) (old new : Option (List ℕ)) → IsPiece new window → new ≡ old → window.at ≤ gate → gate + 13 ≤ window.at + length window.octets.items
    → ahead ≡ drop (gate - window.at) window.octets.items → octets ≡ take 13 ahead
    → (IsTrue header.is_open ↔ (get_or octets 0 0 ≡ 165)) → (IsTrue header.has_epoch ↔ (slice_range octets 1 9 ≡ to_be_bytes w64 epoch)) → from_be_bytes w32 (slice_range octets 9 13) ≡ header.len → to_be_bytes w32 header.len ≡ slice_range octets 9 13
    → IfSome old (IsHeader epoch gate header)
header_read epoch gate header window ahead octets old new piece same le end from cut open_ epoch_ len spelled = subst (λ (o : Option (List ℕ)). IfSome o (IsHeader epoch gate header)) same (by new piece.read)
  where
    by : (content : Option (List ℕ)) → IfSome content (λ c. window.octets.items ≡ octets_in (record { at = window.at; count = length window.octets.items }) c) → IfSome content (IsHeader epoch gate header)
    by None h = tt
    by (Some c) h = header_of epoch gate header octets c (cut ∙ ap (take 13) from ∙ piece_part window.at gate 13 window.octets.items c h le end) open_ epoch_ len spelled

-- some octets more
pub piece_taken : (window : Window) (at count : ℕ) (ahead body new_body : List ℕ) (old new : Option (List ℕ)) → IsPiece new window → new ≡ old → window.at ≤ at → at ≤ window.at + length window.octets.items
    → ahead ≡ drop (at - window.at) window.octets.items → count ≤ length window.octets.items - (at - window.at) → new_body ≡ body ++ take count ahead
    → IfSome old (λ c. new_body ≡ body ++ octets_in (record { at = at; count = count }) c)
piece_taken window at count ahead body new_body old new piece same le end from few is = subst (λ (o : Option (List ℕ)). IfSome o (λ c. new_body ≡ body ++ octets_in (record { at = at; count = count }) c)) same (by new piece.read)
  where
    by : (content : Option (List ℕ)) → IfSome content (λ c. window.octets.items ≡ octets_in (record { at = window.at; count = length window.octets.items }) c) → IfSome content (λ c. new_body ≡ body ++ octets_in (record { at = at; count = count }) c)
    by None h = tt
    by (Some c) h = is ∙ ap (λ l. body ++ l) (ap (take count) from ∙ piece_part window.at at count window.octets.items c h le (omega (arith, le, end, few)))

-- a body so far, and some octets more
pub body_grows : (at done count : ℕ) (body new_body : List ℕ) (old now : Option (List ℕ)) → now ≡ old → IfSome old (λ c. body ≡ octets_in (record { at = at; count = done }) c) → IfSome now (λ c. new_body ≡ body ++ octets_in (record { at = at + done; count = count }) c)
    → IfSome old (λ c. new_body ≡ octets_in (record { at = at; count = done + count }) c)
body_grows at done count body new_body old now same first more =
    by old first (subst (λ (o : Option (List ℕ)). IfSome o (λ c. new_body ≡ body ++ octets_in (record { at = at + done; count = count }) c)) same more)
  where
    by : (content : Option (List ℕ)) → IfSome content (λ c. body ≡ octets_in (record { at = at; count = done }) c) → IfSome content (λ c. new_body ≡ body ++ octets_in (record { at = at + done; count = count }) c)
        → IfSome content (λ c. new_body ≡ octets_in (record { at = at; count = done + count }) c)
    by None f m = tt
    by (Some c) f m = m ∙ ap (λ l. l ++ octets_in (record { at = at + done; count = count }) c) f ∙ sym (part_in_two at done count c)
