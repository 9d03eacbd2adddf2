-- Pages are right, or wrong at one place by one kind: exactly one of the two.
use Rattle.std.proofs.Common.{ℕ, zero, suc, ◌≡◌, ⊎_elim, inl, inr, ◌+◌, ◌-◌, ◌<◌, List, [], ◌∷◌, ◌++◌, length, take, drop, get_or, refl, sym, ap, ◌∙◌, subst, append_assoc, append-nil, arith}
use Rattle.std.proofs.Math.Seq.{drop-cons}
use Rattle.std.proofs.lemmas.Bool.{cases_order}
use Rattle.std.proofs.lemmas.List.{get_or-take, length-take-le, map-append, take-append-drop, take-take}
use Rattle.pss_base.specs.declared.damage.DamageKind.{DamageKind}
use Rattle.pss_disk.specs.Parts.{number8}
use Rattle.page_format.specs.Laws.{ArePagesOneThing}
use Rattle.page_format.specs.PageDamage.{AreRightEntries, AreWrongEntries, IsBadPage, IsPageDamage, IsWrongEntry, IsWrongThere}
use Rattle.page_format.specs.Pages.{AreGiven, ArePages, IsGiven, IsPage, IsSmall, entries_end, entries_from, entries_in, entries_of, entries_start, entry_at, entry_count, place_of, record_length, serials_of}
use Rattle.page_format.specs.Places.{slot_start}
use Rattle.page_format.proofs.FoundPages.{IsGood, pages_found}

entries_split : (image : List ℕ) (k m at : ℕ) → entries_from (k + m) image at ≡ entries_from k image at ++ entries_from m image (place_of k image at)
entries_split image zero m at = ap (λ n. entries_from n image at) (let e : 0 + m ≡ m = omega arith in e)
entries_split image (suc k) m at =
    ap (λ n. entries_from n image at) (let e : suc k + m ≡ suc (k + m) = omega arith in e) ∙ ap (λ es. entry_at image at ∷ es) (entries_split image k m (at + 16 + record_length image at))

given_first : (next : ℕ) (seen xs ys : List ℕ) → AreGiven next seen (xs ++ ys) → AreGiven next seen xs
given_first next seen [] ys g = tt
given_first next seen (x ∷ xs) ys g = (g.0, given_first next (seen ++ x ∷ []) xs ys g.1)

given_rest : (next : ℕ) (seen xs ys : List ℕ) → AreGiven next seen (xs ++ ys) → AreGiven next (seen ++ xs) ys
given_rest next seen [] ys g = subst (λ l. AreGiven next l ys) (sym (append-nil seen)) g
given_rest next seen (x ∷ xs) ys g = subst (λ l. AreGiven next l ys) (append_assoc seen (x ∷ []) xs) (given_rest next (seen ++ x ∷ []) xs ys g.1)

-- right entries are not wrong
module _ (image : List ℕ) (start next : ℕ) (seen : List ℕ) where
  abbrev first : ℕ
  first = entries_start start

  given_there : (n count : ℕ) → count < n → AreGiven next seen (serials_of (entries_from n image first)) → IsGiven next (seen ++ serials_of (entries_from count image first)) (number8 image (place_of count image first + 8))
  given_there n count lt g =
      let m = n - count - 1 in
      let split : entries_from n image first ≡ entries_from count image first ++ entries_from (suc m) image (place_of count image first) =
      ap (λ k. entries_from k image first) (let e : n ≡ count + suc m = omega (arith, lt) in e) ∙ entries_split image count (suc m) first in
      let all : AreGiven next seen (serials_of (entries_from count image first) ++ serials_of (entries_from (suc m) image (place_of count image first))) =
      subst (AreGiven next seen) (ap serials_of split ∙ map-append (λ e. e.serial) (entries_from count image first) (entries_from (suc m) image (place_of count image first))) g in
      (given_rest next seen (serials_of (entries_from count image first)) (serials_of (entries_from (suc m) image (place_of count image first))) all).0

  right_not_wrong : (n count : ℕ) (k : DamageKind) → count < n → AreRightEntries image start next seen n → IsWrongEntry image (entries_end image start) next (seen ++ serials_of (entries_from count image first)) (place_of count image first) k → ⊥
  right_not_wrong n count k lt r (inl w) = w.1 (r.fit count lt)
  right_not_wrong n count k lt r (inr w) = w.2 (given_there n count lt r.given)

  wrong_at : (w : ℕ) (at : ℕ) (k : DamageKind) (t : IsWrongThere image start next seen at k) → IsWrongEntry image (entries_end image start) next (seen ++ serials_of (entries_from t.count image first)) (place_of t.count image first) k
  wrong_at w at k t = subst (λ p. IsWrongEntry image (entries_end image start) next (seen ++ serials_of (entries_from t.count image first)) p k) t.place t.wrong

  right_before : (n : ℕ) (at : ℕ) (k : DamageKind) (t : IsWrongThere image start next seen at k) → t.count < n → AreRightEntries image start next seen n → ⊥
  right_before n at k t lt r = right_not_wrong n t.count k lt r (wrong_at 0 at k t)

  one_kind : (end at : ℕ) (before : List ℕ) (k l : DamageKind) → IsWrongEntry image end next before at k → IsWrongEntry image end next before at l → k ≡ l
  one_kind end at before k l (inl v) (inl w) = v.0 ∙ sym w.0
  one_kind end at before k l (inl v) (inr w) = absurd (v.1 w.1)
  one_kind end at before k l (inr v) (inl w) = absurd (w.1 v.1)
  one_kind end at before k l (inr v) (inr w) = v.0 ∙ sym w.0

  there_once : (at other : ℕ) (k l : DamageKind) → IsWrongThere image start next seen at k → IsWrongThere image start next seen other l → (at ≡ other) × (k ≡ l)
  there_once at other k l t u = ⊎_elim same (λ o. absurd (⊎_elim (λ less. right_before u.count at k t less u.right) (λ more. right_before t.count other l u more t.right) o)) (cases_order t.count u.count)
    where
      same : t.count ≡ u.count → (at ≡ other) × (k ≡ l)
      same e =
          let here : at ≡ other = t.place ∙ ap (λ n. place_of n image first) e ∙ sym u.place in (
            here,
            one_kind (entries_end image start) other (seen ++ serials_of (entries_from u.count image first)) k l
                (subst (λ n. IsWrongEntry image (entries_end image start) next (seen ++ serials_of (entries_from n image first)) other k) e (subst (λ p. IsWrongEntry image (entries_end image start) next (seen ++ serials_of (entries_from t.count image first)) p k) here t.wrong)) u.wrong,
          )

  pub wrong_once : (at other : ℕ) (k l : DamageKind) → AreWrongEntries image start next seen at k → AreWrongEntries image start next seen other l → (at ≡ other) × (k ≡ l)
  wrong_once at other k l (inl t) (inl u) = there_once at other k l t u
  wrong_once at other k l (inl t) (inr v) = absurd (right_before (entry_count image start) at k t t.more v.right)
  wrong_once at other k l (inr v) (inl u) = absurd (right_before (entry_count image start) other l u u.more v.right)
  wrong_once at other k l (inr v) (inr w) = (v.place ∙ sym w.place, v.kind_ ∙ sym w.kind_)

  pub whole_not_wrong : (slot at : ℕ) (k : DamageKind) → IsPage image start slot → AreGiven next seen (serials_of (entries_of image start)) → AreWrongEntries image start next seen at k → ⊥
  whole_not_wrong slot at k p g (inl t) = right_before (entry_count image start) at k t t.more (record { fit = p.fit; given = g })
  whole_not_wrong slot at k p g (inr v) = v.left (v.place ∙ p.end)

good_not_bad : (image : List ℕ) (next : ℕ) (before : List ℕ) (slot at : ℕ) (k : DamageKind) → IsGood image next before slot → IsBadPage image next before slot at k → ⊥
good_not_bad image next before slot at k g (inl head) = head.wrong g.page.head
good_not_bad image next before slot at k g (inr (inl entries)) = whole_not_wrong image (slot_start slot) next (serials_of (entries_in image before)) slot at k g.page g.given entries.1
good_not_bad image next before slot at k g (inr (inr small)) = g.packed small.small small.other.0 small.other.1 small.other.2

bad_once : (image : List ℕ) (next : ℕ) (before : List ℕ) (slot at other : ℕ) (k l : DamageKind) → IsBadPage image next before slot at k → IsBadPage image next before slot other l → (at ≡ other) × (k ≡ l)
bad_once image next before slot at other k l (inl a) (inl b) = (a.place ∙ sym b.place, a.kind_ ∙ sym b.kind_)
bad_once image next before slot at other k l (inl a) (inr (inl b)) = absurd (a.wrong b.0)
bad_once image next before slot at other k l (inl a) (inr (inr b)) = absurd (a.wrong b.page.head)
bad_once image next before slot at other k l (inr (inl a)) (inl b) = absurd (b.wrong a.0)
bad_once image next before slot at other k l (inr (inl a)) (inr (inl b)) = wrong_once image (slot_start slot) next (serials_of (entries_in image before)) at other k l a.1 b.1
bad_once image next before slot at other k l (inr (inl a)) (inr (inr b)) = absurd (whole_not_wrong image (slot_start slot) next (serials_of (entries_in image before)) slot at k b.page b.given a.1)
bad_once image next before slot at other k l (inr (inr a)) (inl b) = absurd (b.wrong a.page.head)
bad_once image next before slot at other k l (inr (inr a)) (inr (inl b)) = absurd (whole_not_wrong image (slot_start slot) next (serials_of (entries_in image before)) slot other l a.page a.given b.1)
bad_once image next before slot at other k l (inr (inr a)) (inr (inr b)) = (a.place ∙ sym b.place, a.kind_ ∙ sym b.kind_)

entries_join : (image : List ℕ) (xs ys : List ℕ) → entries_in image (xs ++ ys) ≡ entries_in image xs ++ entries_in image ys
entries_join image [] ys = refl
entries_join image (x ∷ xs) ys = ap (λ l. entries_of image (slot_start x) ++ l) (entries_join image xs ys) ∙ sym (append_assoc (entries_of image (slot_start x)) (entries_in image xs) (entries_in image ys))

-- each page of right ones is right behind those before it
good_at : (next : ℕ) (slots image : List ℕ) (k : ℕ) → ArePages next slots image → k < length slots → IsGood image next (take k slots) (get_or slots k 0)
good_at next slots image k p lt =
    let before = take k slots in
    let slot = get_or slots k 0 in
    let rest = drop (suc k) slots in
    let parts : slots ≡ before ++ slot ∷ rest = sym (take-append-drop k slots) ∙ ap (λ l. before ++ l) (drop-cons slots k 0 lt) in
    let all : entries_in image slots ≡ entries_in image before ++ (entries_of image (slot_start slot) ++ entries_in image rest) = ap (entries_in image) parts ∙ entries_join image before (slot ∷ rest) in
    let serials : serials_of (entries_in image slots) ≡ serials_of (entries_in image before) ++ (serials_of (entries_of image (slot_start slot)) ++ serials_of (entries_in image rest)) =
    ap serials_of all ∙ map-append (λ e. e.serial) (entries_in image before) (entries_of image (slot_start slot) ++ entries_in image rest)
    ∙ ap (λ l. serials_of (entries_in image before) ++ l) (map-append (λ e. e.serial) (entries_of image (slot_start slot)) (entries_in image rest)) in
    record {
      page = p.whole k lt;
      given = given_first next (serials_of (entries_in image before)) (serials_of (entries_of image (slot_start slot))) (serials_of (entries_in image rest))
          (given_rest next [] (serials_of (entries_in image before)) (serials_of (entries_of image (slot_start slot)) ++ serials_of (entries_in image rest)) (subst (AreGiven next []) serials p.given));
      packed = λ small j less other.
          let few : j < k = omega (arith, less, length-take-le k slots (omega (arith, lt))) in
          p.packed j k few lt (subst (IsSmall image) (get_or-take k slots j 0 few) other) small;
    }

not_damaged : (next : ℕ) (slots : List ℕ) (at : ℕ) (k : DamageKind) (image : List ℕ) → ArePages next slots image → IsPageDamage next slots at k image → ⊥
not_damaged next slots at k image p d = good_not_bad image next (take d.page slots) (get_or slots d.page 0) at k (good_at next slots image d.page p d.within) d.wrong

-- what is wrong at an earlier page is not right further on
earlier : (next : ℕ) (slots : List ℕ) (at : ℕ) (k : DamageKind) (image : List ℕ) (d : IsPageDamage next slots at k image) (later : ℕ) → d.page < later → later < length slots → ArePages next (take later slots) image → ⊥
earlier next slots at k image d later less within p =
    let len : length (take later slots) ≡ later = length-take-le later slots (omega (arith, within)) in
    let good : IsGood image next (take d.page (take later slots)) (get_or (take later slots) d.page 0) = good_at next (take later slots) image d.page p (omega (arith, less, len)) in
    good_not_bad image next (take d.page slots) (get_or slots d.page 0) at k
    (subst (λ l. IsGood image next l (get_or slots d.page 0)) (take-take d.page later slots (omega (arith, less))) (subst (IsGood image next (take d.page (take later slots))) (get_or-take later slots d.page 0 less) good)) d.wrong

one_place : (next : ℕ) (slots : List ℕ) (at other : ℕ) (k l : DamageKind) (image : List ℕ) → IsPageDamage next slots at k image → IsPageDamage next slots other l image → (at ≡ other) × (k ≡ l)
one_place next slots at other k l image d e =
    ⊎_elim same (λ o. absurd (⊎_elim (λ less. earlier next slots at k image d e.page less e.within e.right) (λ more. earlier next slots other l image e d.page more d.within d.right) o)) (cases_order d.page e.page)
  where
    same : d.page ≡ e.page → (at ≡ other) × (k ≡ l)
    same eq = bad_once image next (take e.page slots) (get_or slots e.page 0) at other k l (subst (λ n. IsBadPage image next (take n slots) (get_or slots n 0) at k) eq d.wrong) e.wrong

pub pages_one_thing : ArePagesOneThing
pages_one_thing = record { either = pages_found; one_place = one_place; not_damaged = not_damaged }
