-- What holds of the octets of a page holds of the page in its store.
use Rattle.std.proofs.Common.{ℕ, zero, suc, ◌≡◌, ◌↔◌, ◌+◌, ◌≤◌, List, ◌∷◌, ◌++◌, inl, inr, refl, sym, ap, ◌∙◌, subst, arith}
use Rattle.pss_base.specs.declared.damage.DamageKind.{DamageKind}
use Rattle.pss_disk.specs.Octets.{octets_in}
use Rattle.pss_disk.specs.Parts.{Stands, number4, number8}
use Rattle.page_format.specs.PageDamage.{AreRightEntries, AreWrongEntries, IsWrongEntry}
use Rattle.page_format.specs.Pages.{AllFit, AreGiven, Entry, Fits, IsGiven, IsPage, IsPageHead, behind_entry, entries_end, entries_from, entries_of, entry_at, entry_count, octets_in_use, page_magic, page_zeros, place_of, record_length, serials_of}
use Rattle.page_format.specs.inner.Copies.{IsCopy}
use Rattle.page_format.proofs.Buffers.{number4_copied, number8_copied, part_copied, stands_copied}

pub same_entry : (a b c d : ℕ) (x y : List ℕ) (e f : Entry) → e ≡ record { home = a; serial = c; octets = x } → f ≡ record { home = b; serial = d; octets = y } → a ≡ b → c ≡ d → x ≡ y → e ≡ f
same_entry a b c d x y e f is was home serial octets =
    is ∙ ap (λ (h : ℕ). record { home = h; serial = c; octets = x }) home ∙ ap (λ (s : ℕ). record { home = b; serial = s; octets = x }) serial ∙ ap (λ (l : List ℕ). record { home = b; serial = d; octets = l }) octets ∙ sym was

module _ (start : ℕ) (page image : List ℕ) (copy : IsCopy start 16384 page image) where
  four : (at to : ℕ) → at + 4 ≤ 16384 → to ≡ start + at → number4 page at ≡ number4 image to
  four at to le e = number4_copied start 16384 page image copy at le ∙ ap (number4 image) (sym e)

  eight : (at to : ℕ) → at + 8 ≤ 16384 → to ≡ start + at → number8 page at ≡ number8 image to
  eight at to le e = number8_copied start 16384 page image copy at le ∙ ap (number8 image) (sym e)

  magic_moved : Stands page 0 page_magic ↔ Stands image start page_magic
  magic_moved =
      let s = stands_copied start 16384 page image copy 0 page_magic (omega arith) in
      let e : start + 0 ≡ start = omega arith in
      (λ h. subst (λ n. Stands image n page_magic) e (s.0 h), λ h. s.1 (subst (λ n. Stands image n page_magic) (sym e) h))

  pub used_moved : octets_in_use page 0 ≡ octets_in_use image start
  used_moved = four 24 (start + 24) (omega arith) refl

  count_moved : entry_count page 0 ≡ entry_count image start
  count_moved = four 20 (start + 20) (omega arith) refl

  pub head_moved : (slot : ℕ) → IsPageHead page 0 slot ↔ IsPageHead image start slot
  head_moved slot =
      let zeros = stands_copied start 16384 page image copy 28 page_zeros (omega arith) in
      let slot_ = four 16 (start + 16) (omega arith) refl in (
        λ h. record { magic = magic_moved.0 h.magic; slot_ = sym slot_ ∙ h.slot_; zeros = zeros.0 h.zeros; used = omega (arith, used_moved, h.used) },
        λ h. record { magic = magic_moved.1 h.magic; slot_ = slot_ ∙ h.slot_; zeros = zeros.1 h.zeros; used = omega (arith, used_moved, h.used) },
      )

  end_moved : entries_end image start ≡ start + entries_end page 0
  end_moved = omega (arith, used_moved)

  module _ (end : ℕ) (short : end ≤ 16384) where
    length_moved : (at : ℕ) → at + 16 ≤ end → record_length image (start + at) ≡ record_length page at
    length_moved at le = sym (four (at + 4) (start + at + 4) (omega (arith, le, short)) (omega arith))

    fits_moved : (at : ℕ) → Fits end at (record_length page at) → Fits (start + end) (start + at) (record_length image (start + at))
    fits_moved at f =
        let e = length_moved at (omega (arith, f.within)) in
        record { some = omega (arith, e, f.some); most = omega (arith, e, f.most); within = omega (arith, e, f.within) }

    fits_back : (at : ℕ) → Fits (start + end) (start + at) (record_length image (start + at)) → Fits end at (record_length page at)
    fits_back at f =
        let e = length_moved at (omega (arith, f.within)) in
        record { some = omega (arith, e, f.some); most = omega (arith, e, f.most); within = omega (arith, e, f.within) }

    behind_moved : (at : ℕ) → Fits end at (record_length page at) → behind_entry image (start + at) ≡ start + behind_entry page at
    behind_moved at f = omega (arith, length_moved at (omega (arith, f.within)))

    serial_moved : (at : ℕ) → at + 16 ≤ end → number8 image (start + at + 8) ≡ number8 page (at + 8)
    serial_moved at le = sym (eight (at + 8) (start + at + 8) (omega (arith, le, short)) (omega arith))

    entry_moved : (at : ℕ) → Fits end at (record_length page at) → entry_at image (start + at) ≡ entry_at page at
    entry_moved at f =
        let le : at + 16 ≤ end = omega (arith, f.within) in
        let len = length_moved at le in
        same_entry _ _ _ _ _ _ _ _ refl refl (sym (four at (start + at) (omega (arith, le, short)) refl)) (serial_moved at le)
        (ap (λ n. octets_in (record { at = start + at + 16; count = n }) image) len ∙ ap (λ n. octets_in (record { at = n; count = record_length page at }) image) (let e : start + at + 16 ≡ start + (at + 16) = omega arith in e)
        ∙ sym (part_copied start 16384 page image copy (at + 16) (record_length page at) (omega (arith, f.within, short))))

    rest_fit : (k at : ℕ) → AllFit end page at (suc k) → AllFit end page (behind_entry page at) k
    rest_fit k at all j lt = all (suc j) (omega (arith, lt))

    place_moved : (k at : ℕ) → AllFit end page at k → place_of k image (start + at) ≡ start + place_of k page at
    place_moved zero at all = refl
    place_moved (suc k) at all = ap (place_of k image) (behind_moved at (all 0 (omega arith))) ∙ place_moved k (behind_entry page at) (rest_fit k at all)

    from_moved : (k at : ℕ) → AllFit end page at k → entries_from k image (start + at) ≡ entries_from k page at
    from_moved zero at all = refl
    from_moved (suc k) at all =
        ap (λ e. e ∷ entries_from k image (behind_entry image (start + at))) (entry_moved at (all 0 (omega arith)))
        ∙ ap (λ es. entry_at page at ∷ es) (ap (entries_from k image) (behind_moved at (all 0 (omega arith))) ∙ from_moved k (behind_entry page at) (rest_fit k at all))

    all_moved : (k at : ℕ) → AllFit end page at k → AllFit (start + end) image (start + at) k
    all_moved k at all j lt =
        let here : place_of j image (start + at) ≡ start + place_of j page at = place_moved j at (λ i less. all i (omega (arith, less, lt))) in
        subst (λ p. Fits (start + end) p (record_length image p)) (sym here) (fits_moved (place_of j page at) (all j lt))

    wrong_entry_moved : (at next : ℕ) (seen : List ℕ) (kind : DamageKind) → IsWrongEntry page end next seen at kind → IsWrongEntry image (start + end) next seen (start + at) kind
    wrong_entry_moved at next seen kind (inl w) = inl (w.0, λ f. w.1 (fits_back at f))
    wrong_entry_moved at next seen kind (inr w) = inr (w.0, fits_moved at w.1, λ g. w.2 (subst (IsGiven next seen) (serial_moved at (omega (arith, w.1.within))) g))

  module _ (short : entries_end page 0 ≤ 16384) where
    right_moved : (next count : ℕ) (seen : List ℕ) → AreRightEntries page 0 next seen count → AreRightEntries image start next seen count
    right_moved next count seen r = record {
      fit = subst (λ n. AllFit n image (start + 40) count) (sym end_moved) (all_moved (entries_end page 0) short count 40 r.fit);
      given = subst (λ es. AreGiven next seen (serials_of es)) (sym (from_moved (entries_end page 0) short count 40 r.fit)) r.given;
    }

    pub entries_moved : AllFit (entries_end page 0) page 40 (entry_count page 0) → entries_of image start ≡ entries_of page 0
    entries_moved all = ap (λ n. entries_from n image (start + 40)) (sym count_moved) ∙ from_moved (entries_end page 0) short (entry_count page 0) 40 all

    pub page_moved : (slot : ℕ) → IsPage page 0 slot → IsPage image start slot
    page_moved slot p = record {
      head = (head_moved slot).0 p.head;
      fit = subst (λ n. AllFit n image (start + 40) (entry_count image start)) (sym end_moved)
          (subst (λ n. AllFit (start + entries_end page 0) image (start + 40) n) count_moved (all_moved (entries_end page 0) short (entry_count page 0) 40 p.fit));
      end = ap (λ n. place_of n image (start + 40)) (sym count_moved) ∙ place_moved (entries_end page 0) short (entry_count page 0) 40 p.fit ∙ ap (λ n. start + n) p.end ∙ sym end_moved;
    }

    pub wrong_moved : (next : ℕ) (seen : List ℕ) (at : ℕ) (kind : DamageKind) → AreWrongEntries page 0 next seen at kind → AreWrongEntries image start next seen (start + at) kind
    wrong_moved next seen at kind (inl w) =
        inl (record {
          count = w.count;
          more = omega (arith, w.more, count_moved);
          right = right_moved next w.count seen w.right;
          place = ap (λ n. start + n) w.place ∙ sym (place_moved (entries_end page 0) short w.count 40 w.right.fit);
          wrong = subst (λ n. IsWrongEntry image n next (seen ++ serials_of (entries_from w.count image (start + 40))) (start + at) kind) (sym end_moved)
              (subst (λ es. IsWrongEntry image (start + entries_end page 0) next (seen ++ serials_of es) (start + at) kind) (sym (from_moved (entries_end page 0) short w.count 40 w.right.fit))
              (wrong_entry_moved (entries_end page 0) short at next (seen ++ serials_of (entries_from w.count page 40)) kind w.wrong));
        })
    wrong_moved next seen at kind (inr w) =
        inr (record {
          kind_ = w.kind_;
          right = subst (AreRightEntries image start next seen) count_moved (right_moved next (entry_count page 0) seen w.right);
          place = ap (λ n. start + n) w.place ∙ sym (place_moved (entries_end page 0) short (entry_count page 0) 40 w.right.fit) ∙ ap (λ n. place_of n image (start + 40)) count_moved;
          left = λ e. w.left (omega (arith, e, end_moved));
        })
