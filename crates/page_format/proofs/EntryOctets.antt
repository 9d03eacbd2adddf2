-- Entries read back of the octets that spell them.
use Rattle.std.proofs.Common.{ℕ, zero, suc, ◌≡◌, ◌+◌, ◌<◌, ◌≤◌, ◌^◌, List, [], ◌∷◌, ◌++◌, length, refl, sym, ap, ◌∙◌, subst, arith, length-append}
use Rattle.std.proofs.lemmas.Nat.{from_be_bytes-to_be_bytes_4, from_be_bytes-to_be_bytes_8}
use Rattle.std.specs.Int.{from_be_bytes, to_be_bytes, w32, w64}
use Rattle.pss_disk.specs.Octets.{octets_in}
use Rattle.pss_disk.specs.Parts.{Stands, number4, number8}
use Rattle.pss_disk.proofs.Parts.{stands_first, stands_second}
use Rattle.page_format.specs.Packing.{used_by}
use Rattle.page_format.specs.Pages.{AllFit, Entry, Fits, IsPage, behind_entry, entries_end, entries_from, entries_of, entry_at, entry_count, octets_in_use, page_magic, page_zeros, place_of, record_length}
use Rattle.page_format.specs.Written.{AreStorable, IsStorable, entries_octets, entry_octets, page_octets}
use Rattle.page_format.proofs.Moved.{same_entry}

record IsSpelled (image : List ℕ) (at : ℕ) (e : Entry) : Type 0 where
  home_ : number4 image at ≡ e.home
  len_ : record_length image at ≡ length e.octets
  serial_ : number8 image (at + 8) ≡ e.serial
  octets_ : Stands image (at + 16) e.octets

pub length_entry : (e : Entry) → length (entry_octets e) ≡ 16 + length e.octets
unfolding entry_octets
length_entry e = refl_or (to_be_bytes w32 e.home) (to_be_bytes w32 (length e.octets)) (to_be_bytes w64 e.serial) e.octets refl refl refl
  where
    refl_or : (h n s o : List ℕ) → length h ≡ 4 → length n ≡ 4 → length s ≡ 8 → length (h ++ (n ++ (s ++ o))) ≡ 16 + length o
    refl_or h n s o a b c = omega (arith, a, b, c, length-append h (n ++ (s ++ o)), length-append n (s ++ o), length-append s o)

pub length_entries : (es : List Entry) → length (entries_octets es) ≡ used_by es
length_entries [] = refl
length_entries (e ∷ es) = omega (arith, length_entry e, length_entries es, length-append (entry_octets e) (entries_octets es))

spelled_parts : (image : List ℕ) (at : ℕ) (e : Entry) → IsStorable e → Stands image at (entry_octets e) → IsSpelled image at e
unfolding entry_octets
spelled_parts image at e ok st =
    let h = to_be_bytes w32 e.home in
    let n = to_be_bytes w32 (length e.octets) in
    let s = to_be_bytes w64 e.serial in
    let one = stands_first image h (n ++ (s ++ e.octets)) at st in
    let rest : Stands image (at + 4) (n ++ (s ++ e.octets)) = stands_second image h (n ++ (s ++ e.octets)) at (at + 4) refl st in
    let two = stands_first image n (s ++ e.octets) (at + 4) rest in
    let more : Stands image (at + 8) (s ++ e.octets) = stands_second image n (s ++ e.octets) (at + 4) (at + 8) (omega arith) rest in
    let three = stands_first image s e.octets (at + 8) more in
    record {
      home_ = ap (from_be_bytes w32) one ∙ from_be_bytes-to_be_bytes_4 e.home ok.home;
      len_ = ap (from_be_bytes w32) two ∙ from_be_bytes-to_be_bytes_4 (length e.octets) (omega (arith, ok.most));
      serial_ = ap (from_be_bytes w64) three ∙ from_be_bytes-to_be_bytes_8 e.serial ok.serial;
      octets_ = stands_second image s e.octets (at + 8) (at + 16) (omega arith) more;
    }

entry_is : (image : List ℕ) (at : ℕ) (e : Entry) → IsSpelled image at e → entry_at image at ≡ e
entry_is image at e p = same_entry _ _ _ _ _ _ _ _ refl refl p.home_ p.serial_ (ap (λ k. octets_in (record { at = at + 16; count = k }) image) p.len_ ∙ p.octets_)

behind_is : (image : List ℕ) (at : ℕ) (e : Entry) → IsSpelled image at e → behind_entry image at ≡ at + length (entry_octets e)
behind_is image at e p = omega (arith, p.len_, length_entry e)

module _ (image : List ℕ) where
  pub entries_read : (es : List Entry) (at : ℕ) → AreStorable es → Stands image at (entries_octets es) → entries_from (length es) image at ≡ es
  entries_read [] at ok st = refl
  entries_read (e ∷ es) at ok st =
      let p = spelled_parts image at e ok.0 (stands_first image (entry_octets e) (entries_octets es) at st) in
      let rest : Stands image (at + length (entry_octets e)) (entries_octets es) = stands_second image (entry_octets e) (entries_octets es) at (at + length (entry_octets e)) refl st in
      ap (λ x. x ∷ entries_from (length es) image (behind_entry image at)) (entry_is image at e p)
      ∙ ap (λ l. e ∷ l) (ap (entries_from (length es) image) (behind_is image at e p) ∙ entries_read es (at + length (entry_octets e)) ok.1 rest)

  pub place_read : (es : List Entry) (at : ℕ) → AreStorable es → Stands image at (entries_octets es) → place_of (length es) image at ≡ at + length (entries_octets es)
  place_read [] at ok st = omega arith
  place_read (e ∷ es) at ok st =
      let p = spelled_parts image at e ok.0 (stands_first image (entry_octets e) (entries_octets es) at st) in
      let rest : Stands image (at + length (entry_octets e)) (entries_octets es) = stands_second image (entry_octets e) (entries_octets es) at (at + length (entry_octets e)) refl st in
      ap (place_of (length es) image) (behind_is image at e p) ∙ place_read es (at + length (entry_octets e)) ok.1 rest ∙ omega (arith, length-append (entry_octets e) (entries_octets es))

  pub fit_read : (es : List Entry) (at end : ℕ) → AreStorable es → Stands image at (entries_octets es) → at + length (entries_octets es) ≤ end → AllFit end image at (length es)
  fit_read [] at end ok st le j lt = absurd (omega (arith, lt))
  fit_read (e ∷ es) at end ok st le zero lt =
      let p = spelled_parts image at e ok.0 (stands_first image (entry_octets e) (entries_octets es) at st) in
      record { some = omega (arith, p.len_, ok.0.some); most = omega (arith, p.len_, ok.0.most); within = omega (arith, p.len_, length_entry e, le, length-append (entry_octets e) (entries_octets es)) }
  fit_read (e ∷ es) at end ok st le (suc j) lt =
      let p = spelled_parts image at e ok.0 (stands_first image (entry_octets e) (entries_octets es) at st) in
      let rest : Stands image (at + length (entry_octets e)) (entries_octets es) = stands_second image (entry_octets e) (entries_octets es) at (at + length (entry_octets e)) refl st in
      subst (λ n. Fits end (place_of j image n) (record_length image (place_of j image n))) (sym (behind_is image at e p))
      (fit_read es (at + length (entry_octets e)) end ok.1 rest (omega (arith, le, length-append (entry_octets e) (entries_octets es))) j (omega (arith, lt)))

-- a page read back
module _ (image : List ℕ) (start epoch slot : ℕ) (es : List Entry) (ok : AreStorable es) (few : length es < 2 ^ 32) (short : length (entries_octets es) ≤ 16344) (small : slot < 2 ^ 32) (st : Stands image start (page_octets epoch slot es)) where
  abbrev from_zeros : List ℕ
  from_zeros = page_zeros ++ entries_octets es

  abbrev from_used : List ℕ
  from_used = to_be_bytes w32 (length (entries_octets es)) ++ from_zeros

  abbrev from_count : List ℕ
  from_count = to_be_bytes w32 (length es) ++ from_used

  abbrev from_slot : List ℕ
  from_slot = to_be_bytes w32 slot ++ from_count

  abbrev from_epoch : List ℕ
  from_epoch = to_be_bytes w64 epoch ++ from_slot

  at_8 : Stands image (start + 8) from_epoch
  at_8 = stands_second image page_magic from_epoch start (start + 8) refl st

  at_16 : Stands image (start + 16) from_slot
  at_16 = stands_second image (to_be_bytes w64 epoch) from_slot (start + 8) (start + 16) (omega arith) at_8

  at_20 : Stands image (start + 20) from_count
  at_20 = stands_second image (to_be_bytes w32 slot) from_count (start + 16) (start + 20) (omega arith) at_16

  at_24 : Stands image (start + 24) from_used
  at_24 = stands_second image (to_be_bytes w32 (length es)) from_used (start + 20) (start + 24) (omega arith) at_20

  at_28 : Stands image (start + 28) from_zeros
  at_28 = stands_second image (to_be_bytes w32 (length (entries_octets es))) from_zeros (start + 24) (start + 28) (omega arith) at_24

  at_40 : Stands image (start + 40) (entries_octets es)
  at_40 = stands_second image page_zeros (entries_octets es) (start + 28) (start + 40) (omega arith) at_28

  count_read : entry_count image start ≡ length es
  count_read = ap (from_be_bytes w32) (stands_first image (to_be_bytes w32 (length es)) from_used (start + 20) at_20) ∙ from_be_bytes-to_be_bytes_4 (length es) few

  pub used_read : octets_in_use image start ≡ length (entries_octets es)
  used_read = ap (from_be_bytes w32) (stands_first image (to_be_bytes w32 (length (entries_octets es))) from_zeros (start + 24) at_24) ∙ from_be_bytes-to_be_bytes_4 (length (entries_octets es)) (omega (arith, short))

  pub page_read : IsPage image start slot
  page_read = record {
    head = record {
      magic = stands_first image page_magic from_epoch start st;
      slot_ = ap (from_be_bytes w32) (stands_first image (to_be_bytes w32 slot) from_count (start + 16) at_16) ∙ from_be_bytes-to_be_bytes_4 slot small;
      zeros = stands_first image page_zeros (entries_octets es) (start + 28) at_28;
      used = omega (arith, used_read, short);
    };
    fit = subst (λ n. AllFit (entries_end image start) image (start + 40) n) (sym count_read) (fit_read image es (start + 40) (entries_end image start) ok at_40 (omega (arith, used_read)));
    end = ap (λ n. place_of n image (start + 40)) count_read ∙ place_read image es (start + 40) ok at_40 ∙ ap (λ n. start + 40 + n) (sym used_read);
  }

  pub page_entries : entries_of image start ≡ es
  page_entries = ap (λ n. entries_from n image (start + 40)) count_read ∙ entries_read image es (start + 40) ok at_40
