-- A journal in an image that has its octets.
use Rattle.std.proofs.Common.{ℕ, ◌≡◌, ◌≢◌, inl, inr, ◌+◌, ◌<◌, ◌≤◌, List, [], ◌∷◌, length, None, Some, IfSome, sym, ◌∙◌, arith}
use Rattle.std.specs.Int.{to_be_bytes, w64}
use Rattle.std.specs.declared.option.Option.{Option}
use Rattle.pss_disk.specs.Images.{AllAgree, Keeps}
use Rattle.pss_disk.specs.Moments.{Disk, IsImage, Moment, Through}
use Rattle.pss_disk.specs.Octets.{range_of}
use Rattle.pss_disk.specs.Parts.{Stands, octet_at}
use Rattle.pss_disk.proofs.Parts.{agrees_at, same_part}
use Rattle.pss_disk.proofs.Passing.{weaker}
use Rattle.redo_journal.specs.Journal.{Chain, Ends, Holds, Position, behind, journal_end, journal_start, spelled}
use Rattle.redo_journal.proofs.Chains.{chain_later}
use Rattle.redo_journal.proofs.Spelling.{length-spelled}
use Rattle.page_store.specs.Stores.{AllHave, IsJournal}
use Rattle.page_store.proofs.Closing.{untold}
use Rattle.page_format.proofs.Staying.{stands_same}

-- the same octets from the first gate up to the last one
chain_within : (epoch : ℕ) (a b : List ℕ) (gate : ℕ) (bodies : List (List ℕ)) (last : ℕ) → Chain epoch a gate bodies last → ((i : ℕ) → gate ≤ i → i < last → octet_at a i ≡ octet_at b i) → Chain epoch b gate bodies last
chain_within epoch a b gate [] last c same = c
chain_within epoch a b gate (body ∷ bodies) last c same =
    let more = chain_later epoch a (behind gate (length body)) bodies last c.2 in
    let stands : Stands b gate (spelled epoch body) =
    sym (same_part (range_of gate (spelled epoch body)) a b (λ i from to. same i from (omega (arith, to, more, length-spelled epoch body)))) ∙ c.1 in
    (c.0, stands, chain_within epoch a b (behind gate (length body)) bodies last c.2 (λ i from to. same i (omega (arith, from)) to))

pub holds_there : (position : Position) (bodies : List (List ℕ)) (c image : List ℕ) → Holds position bodies c → position.end < journal_end → ((i : ℕ) → journal_start ≤ i → i < journal_end → octet_at image i ≡ octet_at c i) → Holds position bodies image
holds_there position bodies c image h within same = record {
  chain = chain_within position.epoch c image journal_start bodies position.end h.chain (λ i low high. sym (same i low (omega (arith, high, within))));
  ends = by h.ends;
}
  where
    start : journal_start ≤ position.end
    start = chain_later position.epoch c journal_start bodies position.end h.chain

    by : Ends position.epoch c position.end → Ends position.epoch image position.end
    by (inl closed) = inl (λ open_. closed (sym (same position.end start within) ∙ open_))
    by (inr other) =
        inr (
          other.0,
          λ epoch. other.1 (stands_same (position.end + 1) (position.end + 9) image c (λ i low high. sym (same i (omega (arith, low, start)) (omega (arith, high, other.0)))) (position.end + 1) (to_be_bytes w64 position.epoch) (omega arith) (omega arith) epoch),
        )

journal_disk : (position : Position) (bodies : List (List ℕ)) (gate : ℕ) (content : Option (List ℕ)) (disk : Option Disk) → gate < journal_start → IfSome content (IsJournal position bodies) → AllAgree (λ i. i ≢ gate) content disk → IfSome disk (λ d. (image : List ℕ) → IsImage d image → Holds position bodies image)
journal_disk position bodies gate None disk lt has h = untold (Holds position bodies) disk h
journal_disk position bodies gate (Some c) None lt has h = tt
journal_disk position bodies gate (Some c) (Some d) lt has h = λ image is.
    holds_there position bodies c image has.holds has.within (λ i low high. agrees_at (λ k. k ≢ gate) c image i (h image is) (λ e. omega (arith, e, low, lt)) (omega (arith, high, has.long)))

-- at each moment while one octet in front of it is written the journal is as it was
pub while_gate : (position : Position) (bodies : List (List ℕ)) (gate : ℕ) (content : Option (List ℕ)) (before after : List Moment) → gate < journal_start → IfSome content (IsJournal position bodies) → Through before after (Keeps (λ i. i ≢ gate) content)
    → Through before after (AllHave (Holds position bodies))
while_gate position bodies gate content before after lt has images = weaker before after (Keeps (λ i. i ≢ gate) content) (AllHave (Holds position bodies)) (λ m h. journal_disk position bodies gate content m.disk lt has h) images
