-- The pages of some slots are right, or damaged.
use Rattle.std.proofs.Common.{ℕ, zero, suc, ◌≡◌, ◌⊎◌, ⊎_elim, inl, inr, ◌+◌, ◌<◌, ◌≤◌, List, [], ◌∷◌, ◌++◌, length, take, get_or, refl, sym, ap, ◌∙◌, subst, arith, below_more, length-append}
use Rattle.std.proofs.Math.Seq.{get_or-append_seam, take-length}
use Rattle.std.proofs.lemmas.Bool.{cases_eq, cases_lt}
use Rattle.std.proofs.lemmas.Grind.{take_at_read}
use Rattle.std.proofs.lemmas.List.{get_or_append_left, map-append}
use Rattle.pss_base.specs.declared.damage.DamageKind.{DamageKind}
use Rattle.pss_base.specs.declared.damage.DamageKind.TheVariants as kind
use Rattle.pss_disk.specs.Parts.{Stands, number4, number8}
use Rattle.page_format.specs.PageDamage.{AreRightEntries, IsBadPage, IsPageDamage, IsWrongEntry, IsWrongThere}
use Rattle.page_format.specs.Pages.{AreGiven, ArePacked, ArePages, Fits, IsGiven, IsPage, IsPageHead, IsSmall, entries_end, entries_from, entries_in, entries_of, entries_start, entry_at, entry_count, octets_in_use, page_magic, page_zeros, place_of, record_length, serials_of}
use Rattle.page_format.specs.Places.{slot_start}
use Rattle.page_format.proofs.Decisions.{IsDecided, less_decided, most_decided, some_below, stands_decided}
use Rattle.page_format.proofs.Growing.{each_more, entries_push, given_both}
use Rattle.page_format.proofs.NextEntry.{entries_step, given_step, map_push}

head_decided : (image : List ℕ) (start slot : ℕ) → IsDecided (IsPageHead image start slot)
head_decided image start slot = by (stands_decided image start page_magic) (cases_eq (number4 image (start + 16)) slot) (stands_decided image (start + 28) page_zeros) (most_decided (octets_in_use image start) 16344)
  where
    by : IsDecided (Stands image start page_magic) → IsDecided (number4 image (start + 16) ≡ slot) → IsDecided (Stands image (start + 28) page_zeros) → IsDecided (octets_in_use image start ≤ 16344) → IsDecided (IsPageHead image start slot)
    by (inr never) number zeros used = inr (λ h. never h.magic)
    by (inl magic) (inr never) zeros used = inr (λ h. never h.slot_)
    by (inl magic) (inl number) (inr never) used = inr (λ h. never h.zeros)
    by (inl magic) (inl number) (inl zeros) (inr never) = inr (λ h. never h.used)
    by (inl magic) (inl number) (inl zeros) (inl used) = inl (record { magic = magic; slot_ = number; zeros = zeros; used = used })

fits_decided : (end at len : ℕ) → IsDecided (Fits end at len)
fits_decided end at len = by (most_decided 1 len) (most_decided len 8000) (most_decided (at + 16 + len) end)
  where
    by : IsDecided (1 ≤ len) → IsDecided (len ≤ 8000) → IsDecided (at + 16 + len ≤ end) → IsDecided (Fits end at len)
    by (inr never) most within = inr (λ f. never f.some)
    by (inl some) (inr never) within = inr (λ f. never f.most)
    by (inl some) (inl most) (inr never) = inr (λ f. never f.within)
    by (inl some) (inl most) (inl within) = inl (record { some = some; most = most; within = within })

given_decided : (next : ℕ) (seen : List ℕ) (serial : ℕ) → IsDecided (IsGiven next seen serial)
given_decided next seen serial = by (most_decided 1 serial) (less_decided serial next) (some_below (λ k. get_or seen k 0 ≡ serial) (λ k. cases_eq (get_or seen k 0) serial) (length seen))
  where
    by : IsDecided (1 ≤ serial) → IsDecided (serial < next) → IsDecided ((k : ℕ) × (k < length seen) × (get_or seen k 0 ≡ serial)) → IsDecided (IsGiven next seen serial)
    by (inr never) given new = inr (λ g. never g.some)
    by (inl some) (inr never) new = inr (λ g. never g.given)
    by (inl some) (inl given) (inl old) = inr (λ g. g.new old.0 old.1 old.2)
    by (inl some) (inl given) (inr new) = inl (record { some = some; given = given; new = λ k lt e. new (k, lt, e) })

module _ (image : List ℕ) (start next : ℕ) (seen : List ℕ) where
  abbrev first : ℕ
  first = entries_start start

  abbrev IsWrongSome : Type 0
  IsWrongSome = (at : ℕ) × (k : DamageKind) × IsWrongThere image start next seen at k

  -- the place of the next entry, and the serials before it
  abbrev place : ℕ → ℕ
  place count = place_of count image first

  abbrev before : ℕ → List ℕ
  before count = seen ++ serials_of (entries_from count image first)

  abbrev IsFit : ℕ → Type 0
  IsFit j = Fits (entries_end image start) (place j) (record_length image (place j))

  module _ (count : ℕ) (more : count < entry_count image start) (right : AreRightEntries image start next seen count) where
    wrong_entry : (k : DamageKind) → IsWrongEntry image (entries_end image start) next (before count) (place count) k → IsWrongSome
    wrong_entry k w = (place count, k, record { count = count; more = more; right = right; place = refl; wrong = w })

    step : entries_from (suc count) image first ≡ entries_from count image first ++ entry_at image (place count) ∷ []
    step = ap (λ n. entries_from n image first) (let e : suc count ≡ count + 1 = omega arith in e) ∙ entries_step image count first

    -- the next entry is right, or wrong
    entry_found : IsDecided (IsFit count) → IsDecided (IsGiven next (before count) (number8 image (place count + 8))) → AreRightEntries image start next seen (suc count) ⊎ IsWrongSome
    entry_found (inr never) given = inr (wrong_entry kind.Entry (inl (refl, never)))
    entry_found (inl fits) (inr never) = inr (wrong_entry kind.Serial (inr (refl, fits, never)))
    entry_found (inl fits) (inl given) = inl (record {
      fit = subst (λ n. (j : ℕ) → j < n → IsFit j) (let e : count + 1 ≡ suc count = omega arith in e) (below_more IsFit count right.fit fits);
      given = subst (AreGiven next seen) (sym (ap serials_of step ∙ map_push (λ e. e.serial) (entries_from count image first) (entry_at image (place count))))
          (given_step next seen (serials_of (entries_from count image first)) (number8 image (place count + 8)) right.given given);
    })

  entries_found : (count : ℕ) → count ≤ entry_count image start → AreRightEntries image start next seen count ⊎ IsWrongSome
  entries_found zero le = inl (record { fit = λ j lt. absurd (omega (arith, lt)); given = tt })
  entries_found (suc count) le = ⊎_elim (λ right. entry_found count (omega (arith, le)) right (fits_decided (entries_end image start) (place count) (record_length image (place count))) (given_decided next (before count) (number8 image (place count + 8)))) (λ wrong. inr wrong) (entries_found count (omega (arith, le)))

-- a page that is right behind those before it
pub record IsGood (image : List ℕ) (next : ℕ) (before : List ℕ) (slot : ℕ) : Type 0 where
  pub page : IsPage image (slot_start slot) slot
  pub given : AreGiven next (serials_of (entries_in image before)) (serials_of (entries_of image (slot_start slot)))
  pub packed : IsSmall image slot → (j : ℕ) → j < length before → IsSmall image (get_or before j 0) → ⊥

module _ (image : List ℕ) (next : ℕ) (before : List ℕ) (slot : ℕ) where
  abbrev start : ℕ
  start = slot_start slot

  abbrev seen : List ℕ
  seen = serials_of (entries_in image before)

  abbrev IsPageFound : Type 0
  IsPageFound = IsGood image next before slot ⊎ ((at : ℕ) × (k : DamageKind) × IsBadPage image next before slot at k)

  -- of a page whose entries are right
  packing_found : IsPage image start slot → AreGiven next seen (serials_of (entries_of image start)) → IsDecided (IsSmall image slot) → IsDecided ((j : ℕ) × (j < length before) × IsSmall image (get_or before j 0)) → IsPageFound
  packing_found page given (inr large) other = inl (record { page = page; given = given; packed = λ small j lt s. large small })
  packing_found page given (inl small) (inr none) = inl (record { page = page; given = given; packed = λ l j lt s. none (j, lt, s) })
  packing_found page given (inl small) (inl other) = inr (start, kind.Packing, inr (inr (record { kind_ = refl; place = refl; page = page; given = given; small = small; other = other })))

  end_found : IsPageHead image start slot → AreRightEntries image start next seen (entry_count image start) → IsDecided (place_of (entry_count image start) image (entries_start start) ≡ entries_end image start) → IsPageFound
  end_found head right (inr left) = inr (place_of (entry_count image start) image (entries_start start), kind.Entry, inr (inl (head, inr (record { kind_ = refl; right = right; place = refl; left = left }))))
  end_found head right (inl end) =
      packing_found (record { head = head; fit = right.fit; end = end }) right.given (most_decided (octets_in_use image start) 8328)
      (some_below (λ j. IsSmall image (get_or before j 0)) (λ j. most_decided (octets_in_use image (slot_start (get_or before j 0))) 8328) (length before))

  page_found : IsPageFound
  page_found =
      ⊎_elim
      (λ head. ⊎_elim (λ right. end_found head right (cases_eq (place_of (entry_count image start) image (entries_start start)) (entries_end image start))) (λ wrong. inr (wrong.0, wrong.1, inr (inl (head, inl wrong.2))))
      (entries_found image start next seen (entry_count image start) (omega arith)))
      (λ never. inr (start, kind.Page, inl (record { kind_ = refl; place = refl; wrong = never }))) (head_decided image start slot)

-- right pages, and one more that is right behind them
good_more : (next : ℕ) (image xs : List ℕ) (slot : ℕ) → ArePages next xs image → IsGood image next xs slot → ArePages next (xs ++ slot ∷ []) image
good_more next image xs slot pages good = record {
  whole = each_more (λ s. IsPage image (slot_start s) s) xs slot pages.whole good.page;
  given = subst (AreGiven next []) (sym (ap serials_of (entries_push image xs slot) ∙ map-append (λ e. e.serial) (entries_in image xs) (entries_of image (slot_start slot))))
      (given_both next [] (serials_of (entries_in image xs)) (serials_of (entries_of image (slot_start slot))) pages.given good.given);
  packed = packed;
}
  where
    old : (j : ℕ) → j < length xs → IsSmall image (get_or (xs ++ slot ∷ []) j 0) → IsSmall image (get_or xs j 0)
    old j lt s = subst (IsSmall image) (get_or_append_left xs (slot ∷ []) 0 j lt) s

    packed : ArePacked image (xs ++ slot ∷ [])
    packed j k less lt sj sk =
        ⊎_elim (λ kl. pages.packed j k less kl (old j (omega (arith, less, kl)) sj) (old k kl sk))
        (λ more.
        let e : k ≡ length xs = omega (arith, more, lt, length-append xs (slot ∷ [])) in
        let jl : j < length xs = omega (arith, less, e) in
        good.packed (subst (IsSmall image) (ap (λ n. get_or (xs ++ slot ∷ []) n 0) e ∙ get_or-append_seam xs slot [] 0) sk) j jl (old j jl sj)) (cases_lt k (length xs))

module _ (next : ℕ) (slots image : List ℕ) where
  abbrev IsDamagedSome : Type 0
  IsDamagedSome = (at : ℕ) × (k : DamageKind) × IsPageDamage next slots at k image

  first_found : (n : ℕ) → n ≤ length slots → ArePages next (take n slots) image ⊎ IsDamagedSome
  first_found zero le = inl (record { whole = λ k lt. absurd (omega (arith, lt)); given = tt; packed = λ j k less lt. absurd (omega (arith, lt)) })
  first_found (suc n) le = ⊎_elim next_found (λ damaged. inr damaged) (first_found n (omega (arith, le)))
    where
      lt : n < length slots
      lt = omega (arith, le)

      next_found : ArePages next (take n slots) image → ArePages next (take (suc n) slots) image ⊎ IsDamagedSome
      next_found right =
          ⊎_elim (λ good. inl (subst (λ l. ArePages next l image) (sym (ap (λ m. take m slots) (let e : suc n ≡ n + 1 = omega arith in e) ∙ (take_at_read slots n 0 lt).1)) (good_more next image (take n slots) (get_or slots n 0) right good)))
          (λ bad. inr (bad.0, bad.1, record { page = n; within = lt; right = right; wrong = bad.2 })) (page_found image next (take n slots) (get_or slots n 0))

  pub pages_found : ArePages next slots image ⊎ IsDamagedSome
  pages_found = ⊎_elim (λ right. inl (subst (λ l. ArePages next l image) (take-length slots) right)) (λ damaged. inr damaged) (first_found (length slots) (omega arith))
