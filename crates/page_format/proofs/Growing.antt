-- The pages so far, and one more.
use Rattle.std.proofs.Common.{ℕ, ◌≡◌, ⊎_elim, inl, inr, ◌+◌, ◌<◌, ◌≤◌, List, [], ◌∷◌, ◌++◌, length, map, take, get_or, None, Some, IsSome, Result, Ok, Err, IfErr, refl, sym, ap, ◌∙◌, subst, append_assoc, append-nil, arith, length-append}
use Rattle.std.proofs.Math.Seq.{get_or-append_seam}
use Rattle.std.proofs.lemmas.Bool.{cases_lt}
use Rattle.std.proofs.lemmas.Grind.{take_at_read}
use Rattle.std.proofs.lemmas.List.{get_or_append_left, map-append}
use Rattle.std.specs.Map.{keys_of}
use Rattle.std.specs.declared.option.Option.{Option}
use Rattle.pss_base.specs.declared.damage.DamageKind.{DamageKind}
use Rattle.pss_base.specs.declared.put.Put.{Put}
use Rattle.page_format.specs.PageDamage.{AreWrongEntries, IsBadPage, IsPageDamage}
use Rattle.page_format.specs.Pages.{AreGiven, ArePacked, Entry, IsPage, IsSmall, IsSmallOne, entries_in, entries_of, places_in, put_of, serials_of}
use Rattle.page_format.specs.Places.{slot_start}
use Rattle.page_format.specs.Refusals.{IsPageRefusal}
use Rattle.page_format.specs.declared.fault.PageFault.{PageFault}
use Rattle.page_format.specs.declared.fault.PageFault.TheVariants as fault
use Rattle.page_format.specs.inner.Gathering.{AreAdded, AreGatheredOf, IsBadHere, IsSmallAfter}

-- what holds of each of some slots and of one more
pub each_more : (P : ℕ → Type 0) (xs : List ℕ) (s : ℕ) → ((k : ℕ) → k < length xs → P (get_or xs k 0)) → P s → (k : ℕ) → k < length (xs ++ s ∷ []) → P (get_or (xs ++ s ∷ []) k 0)
each_more P xs s all here k lt =
    ⊎_elim (λ less. subst P (sym (get_or_append_left xs (s ∷ []) 0 k less)) (all k less))
    (λ more. let last : k ≡ length xs = omega (arith, more, lt, length-append xs (s ∷ [])) in subst P (sym (ap (λ n. get_or (xs ++ s ∷ []) n 0) last ∙ get_or-append_seam xs s [] 0)) here) (cases_lt k (length xs))

pub entries_push : (image : List ℕ) (xs : List ℕ) (s : ℕ) → entries_in image (xs ++ s ∷ []) ≡ entries_in image xs ++ entries_of image (slot_start s)
entries_push image [] s = append-nil (entries_of image (slot_start s))
entries_push image (x ∷ xs) s = ap (λ l. entries_of image (slot_start x) ++ l) (entries_push image xs s) ∙ sym (append_assoc (entries_of image (slot_start x)) (entries_in image xs) (entries_of image (slot_start s)))

pub places_push : (image : List ℕ) (xs : List ℕ) (s : ℕ) → places_in image (xs ++ s ∷ []) ≡ places_in image xs ++ map (λ e. (e.serial, s)) (entries_of image (slot_start s))
places_push image [] s = append-nil (map (λ e. (e.serial, s)) (entries_of image (slot_start s)))
places_push image (x ∷ xs) s =
    ap (λ l. map (λ e. (e.serial, x)) (entries_of image (slot_start x)) ++ l) (places_push image xs s)
    ∙ sym (append_assoc (map (λ e. (e.serial, x)) (entries_of image (slot_start x))) (places_in image xs) (map (λ e. (e.serial, s)) (entries_of image (slot_start s))))

keys_of_placed : (slot : ℕ) (es : List Entry) (rest : List (ℕ × ℕ)) → keys_of (map (λ e. (e.serial, slot)) es ++ rest) ≡ serials_of es ++ keys_of rest
keys_of_placed slot [] rest = refl
keys_of_placed slot (e ∷ es) rest = ap (λ l. e.serial ∷ l) (keys_of_placed slot es rest)

pub keys_are_serials : (image : List ℕ) (slots : List ℕ) → keys_of (places_in image slots) ≡ serials_of (entries_in image slots)
keys_are_serials image [] = refl
keys_are_serials image (s ∷ slots) =
    keys_of_placed s (entries_of image (slot_start s)) (places_in image slots) ∙ ap (λ l. serials_of (entries_of image (slot_start s)) ++ l) (keys_are_serials image slots)
    ∙ sym (map-append (λ e. e.serial) (entries_of image (slot_start s)) (entries_in image slots))

pub given_both : (next : ℕ) (seen xs ys : List ℕ) → AreGiven next seen xs → AreGiven next (seen ++ xs) ys → AreGiven next seen (xs ++ ys)
given_both next seen [] ys p q = subst (λ l. AreGiven next l ys) (append-nil seen) q
given_both next seen (x ∷ xs) ys p q = (p.0, given_both next (seen ++ x ∷ []) xs ys p.1 (subst (λ l. AreGiven next l ys) (sym (append_assoc seen (x ∷ []) xs)) q))

none_small : (image : List ℕ) (slots : List ℕ) (small : Option ℕ) → IsSmallOne image slots small → small ≡ None → (j : ℕ) → j < length slots → IsSmall image (get_or slots j 0) → ⊥
none_small image slots small is e = let h : IsSmallOne image slots None = subst (IsSmallOne image slots) e is in h

-- which page is small, with one more
small_more : (image : List ℕ) (xs : List ℕ) (s : ℕ) (before after : Option ℕ) → IsSmallOne image xs before → IsSmallAfter image s before after → IsSmallOne image (xs ++ s ∷ []) after
small_more image xs s before after is (inl new) = subst (IsSmallOne image (xs ++ s ∷ [])) (sym new.2) (length xs, omega (arith, length-append xs (s ∷ [])), get_or-append_seam xs s [] 0, new.0)
small_more image xs s before after is (inr same) = subst (IsSmallOne image (xs ++ s ∷ [])) (sym same.1) (by before is)
  where
    by : (o : Option ℕ) → IsSmallOne image xs o → IsSmallOne image (xs ++ s ∷ []) o
    by None h = each_more (λ x. IsSmall image x → ⊥) xs s h same.0
    by (Some x) h = (h.0, omega (arith, h.1, length-append xs (s ∷ [])), get_or_append_left xs (s ∷ []) 0 h.0 h.1 ∙ h.2, h.3)

packed_more : (image : List ℕ) (xs : List ℕ) (s : ℕ) (before after : Option ℕ) → IsSmallOne image xs before → IsSmallAfter image s before after → ArePacked image xs → ArePacked image (xs ++ s ∷ [])
packed_more image xs s before after is new packed j k less lt sj sk = ⊎_elim old last (cases_lt k (length xs))
  where
    old : k < length xs → ⊥
    old kl = packed j k less kl (subst (IsSmall image) (get_or_append_left xs (s ∷ []) 0 j (omega (arith, less, kl))) sj) (subst (IsSmall image) (get_or_append_left xs (s ∷ []) 0 k kl) sk)

    last : length xs ≤ k → ⊥
    last more =
        let e : k ≡ length xs = omega (arith, more, lt, length-append xs (s ∷ [])) in
        let this : IsSmall image s = subst (IsSmall image) (ap (λ n. get_or (xs ++ s ∷ []) n 0) e ∙ get_or-append_seam xs s [] 0) sk in
        let jl : j < length xs = omega (arith, less, e) in
        ⊎_elim (λ n. none_small image xs before is n.1 j jl (subst (IsSmall image) (get_or_append_left xs (s ∷ []) 0 j jl) sj)) (λ o. o.0 this) new

module _ (next : ℕ) (image : List ℕ) (xs : List ℕ) (slot : ℕ) (places : List (ℕ × ℕ)) (rows : List Put) (small : Option ℕ) (so_far : AreGatheredOf next xs places rows small image) where
  seen : keys_of places ≡ serials_of (entries_in image xs)
  seen = ap keys_of so_far.places_ ∙ keys_are_serials image xs

  pub page_more : (places_after : List (ℕ × ℕ)) (rows_after : List Put) (small_after : Option ℕ) → AreAdded image next slot places places_after rows rows_after small small_after → AreGatheredOf next (xs ++ slot ∷ []) places_after rows_after small_after image
  page_more places_after rows_after small_after added =
      let es = entries_of image (slot_start slot) in
      let all : entries_in image (xs ++ slot ∷ []) ≡ entries_in image xs ++ es = entries_push image xs slot in
      record {
        pages = record {
          whole = each_more (λ s. IsPage image (slot_start s) s) xs slot so_far.pages.whole added.whole;
          given = subst (AreGiven next []) (sym (ap serials_of all ∙ map-append (λ e. e.serial) (entries_in image xs) es))
              (given_both next [] (serials_of (entries_in image xs)) (serials_of es) so_far.pages.given (subst (λ l. AreGiven next l (serials_of es)) seen added.given));
          packed = packed_more image xs slot small small_after so_far.small_ added.small_ so_far.pages.packed;
        };
        places_ = added.places_ ∙ ap (λ l. l ++ map (λ e. (e.serial, slot)) es) so_far.places_ ∙ sym (places_push image xs slot);
        rows_ = added.rows_ ∙ ap (λ l. l ++ map put_of es) so_far.rows_ ∙ sym (ap (map put_of) all ∙ map-append put_of (entries_in image xs) es);
        small_ = small_more image xs slot small small_after so_far.small_ added.small_;
      }

  other_small : (o : Option ℕ) → IsSmallOne image xs o → IsSome o → (j : ℕ) × (j < length xs) × IsSmall image (get_or xs j 0)
  other_small None is some = absurd (cc)
  other_small (Some s) is some = (is.0, is.1, subst (IsSmall image) (sym is.2) is.3)

  pub bad_page : (at : ℕ) (k : DamageKind) → IsBadHere image next (keys_of places) (IsSome small) slot at k → IsBadPage image next xs slot at k
  bad_page at k (inl head) = inl head
  bad_page at k (inr (inl entries)) = inr (inl (entries.0, subst (λ l. AreWrongEntries image (slot_start slot) next l at k) seen entries.1))
  bad_page at k (inr (inr too)) =
      inr (inr (record {
        kind_ = too.kind_;
        place = too.place;
        page = too.page;
        given = subst (λ l. AreGiven next l (serials_of (entries_of image (slot_start slot)))) seen too.given;
        small = too.small;
        other = other_small small so_far.small_ too.other_;
      }))

-- the first k slots, and the next one
pub next_page : (next : ℕ) (image slots : List ℕ) (k : ℕ) (places places_after : List (ℕ × ℕ)) (rows rows_after : List Put) (small small_after : Option ℕ) → k < length slots → AreGatheredOf next (take k slots) places rows small image
    → AreAdded image next (get_or slots k 0) places places_after rows rows_after small small_after → AreGatheredOf next (take (k + 1) slots) places_after rows_after small_after image
next_page next image slots k places places_after rows rows_after small small_after lt so_far added =
    subst (λ l. AreGatheredOf next l places_after rows_after small_after image) (sym (take_at_read slots k 0 lt).1) (page_more next image (take k slots) (get_or slots k 0) places rows small so_far places_after rows_after small_after added)

pub bad_next : (next : ℕ) (image slots : List ℕ) (k : ℕ) (places : List (ℕ × ℕ)) (rows : List Put) (small : Option ℕ) (at : ℕ) (what : DamageKind) → k < length slots → AreGatheredOf next (take k slots) places rows small image → IsBadHere image next (keys_of places) (IsSome small) (get_or slots k 0) at what
    → IsPageDamage next slots at what image
bad_next next image slots k places rows small at what lt so_far bad = record { page = k; within = lt; right = so_far.pages; wrong = bad_page next image (take k slots) (get_or slots k 0) places rows small so_far at what bad }

-- a page that is refused
pub page_refused : {T : Type 0} (r : Result T PageFault) (next : ℕ) (slots image : List ℕ) → ((at : ℕ) (k : DamageKind) → r ≡ Err (fault.Damaged at k) → IsPageDamage next slots at k image) → IfErr r (λ f. IsPageRefusal next slots f image)
page_refused (Ok t) next slots image h = tt
page_refused (Err (fault.Damaged at k)) next slots image h = h at k refl
page_refused (Err fault.DiskFault) next slots image h = tt
page_refused (Err fault.NoMemory) next slots image h = tt
