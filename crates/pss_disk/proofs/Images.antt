-- What images keep while writes are pending, and at a sync.
use Rattle.std.proofs.Common.{ℕ, zero, suc, ◌≡◌, ◌≢◌, ◌⊎◌, ⊎_elim, inl, inr, ◌<◌, ◌≤◌, ◌+◌, List, [], ◌∷◌, ◌++◌, length, take, slice_get, set, nat_le, nat_lt, ◌&&◌, ◌||◌, Bool, true, false, None, Some, IfSome, refl, sym, ap, ◌∙◌, subst, arith, length-append}
use Rattle.std.proofs.lemmas.Bool.{true≢false, cases_lt}
use Rattle.std.proofs.lemmas.Grind.{common_steps}
use Rattle.std.proofs.lemmas.Option.{slice_get-get_or, slice_get_within}
use Rattle.std.specs.declared.option.Option.{Option}
use Rattle.std.specs.Option.{option_map}
use Rattle.pss_disk.specs.Images.{Agrees, AllAgree, AreApart, IsApart, IsOutside, IsQuiet, Keeps, Misses, Untouched}
use Rattle.pss_disk.specs.Moments.{Disk, DuringSync, DuringWrite, IsImage, IsOnlyImage, IsSettled, Moment, Range, end_of, is_covered, is_within, pend, settle, settled, synced, wrote}
use Rattle.pss_disk.specs.Octets.{SameOutside, StaysOutside, range_of, write}
use Rattle.pss_disk.specs.inner.Writing.{inside, length-write, stays_outside, stays_same, write_outside, write_within}

-- lists of the same octets
pub same_octets : (xs ys : List ℕ) → length xs ≡ length ys → ((i : ℕ) → i < length ys → slice_get xs i ≡ slice_get ys i) → xs ≡ ys
same_octets [] [] e f = refl
same_octets [] (y ∷ ys) e f = absurd (omega (arith, e))
same_octets (x ∷ xs) [] e f = absurd (omega (arith, e))
same_octets (x ∷ xs) (y ∷ ys) e f =
    let here : Some x ≡ Some y = f 0 (omega arith) in
    let rest : xs ≡ ys = same_octets xs ys (omega (arith, e)) (λ i lt. f (suc i) (omega (arith, lt))) in
    cc

-- a settled disk has its content as the only image
pub only_content : (content image : List ℕ) → IsImage (settled content) image → image ≡ content
only_content content image is = same_octets image content (omega (arith, is.no_shorter, is.no_longer)) (λ i lt. is.others i lt refl)

pub settled_only : (content : List ℕ) → IsOnlyImage (settled content) content
settled_only content = record {
  is_image = record { no_shorter = omega arith; no_longer = omega arith; others = λ i lt clear. refl };
  only = λ image is. only_content content image is;
}

-- after a sync that succeeded the content is the only image
pub synced_settled : (content later : Option (List ℕ)) (now new : Moment) → new ≡ synced content now → later ≡ content → IsSettled later new
synced_settled content later now new is same =
    subst (λ (m : Moment). IsSettled later m) (sym is) (subst (λ (c : Option (List ℕ)). IsSettled c (synced content now)) (sym same) (by content now.disk))
  where
    by : (content : Option (List ℕ)) (disk : Option Disk) → IsSettled content (record { spoken = now.spoken; disk = settle content disk })
    by content None = tt
    by None (Some d) = tt
    by (Some c) (Some d) = (c, refl, settled_only c)

-- where the content is the only image, nothing is pending
module _ (disk : Disk) (content : List ℕ) (is : IsOnlyImage disk content) where
  kept_is : disk.kept ≡ content
  kept_is = is.only disk.kept (record { no_shorter = omega arith; no_longer = omega (arith, is.is_image.no_shorter, is.is_image.no_longer); others = λ i lt clear. refl })

  -- another octet at a place that is pending would be one more image
  module _ (i x : ℕ) (lt : i < length content) (here : slice_get content i ≡ Some x) (pending : is_covered disk.pending i ≡ true) where
    abbrev other : List ℕ
    other = write i (suc x ∷ []) content

    away : (j : ℕ) → is_covered disk.pending j ≡ false → (b : Bool) → is_within (range_of i (suc x ∷ [])) j ≡ b → is_within (range_of i (suc x ∷ [])) j ≡ false
    away j clear true e =
        let t = inside (range_of i (suc x ∷ [])) j e in
        let same : j ≡ i = omega (arith, t.0, t.1) in
        absurd (true≢false (sym pending ∙ ap (is_covered disk.pending) (sym same) ∙ clear))
    away j clear false e = e

    other_image : IsImage disk other
    other_image = record {
      no_shorter = omega (arith, length-write i (suc x ∷ []) content, is.is_image.no_shorter);
      no_longer = omega (arith, length-write i (suc x ∷ []) content, is.is_image.no_longer, lt);
      others = λ j small clear.
          write_outside i (suc x ∷ []) content j (away j clear (is_within (range_of i (suc x ∷ [])) j) refl) (omega (arith, small, is.is_image.no_shorter)) ∙ is.is_image.others j small clear;
    }

    no_other : ⊥
    no_other =
        let e : Some (suc x) ≡ Some x = sym (write_within i (suc x ∷ []) content 0 i (omega arith) (omega arith)) ∙ ap (λ l. slice_get l i) (is.only other other_image) ∙ here in
        let n : suc x ≡ x = cc in
        omega (arith, n)

  clear_at : (i : ℕ) → i < length content → (b : Bool) → is_covered disk.pending i ≡ b → is_covered disk.pending i ≡ false
  clear_at i lt true e = absurd (no_other i _ lt (slice_get-get_or content i 0 lt) e)
  clear_at i lt false e = e

  pub only_apart : (S : ℕ → Type 0) → IsApart S content disk
  only_apart S = record { kept = kept_is; clear = λ i s lt. clear_at i lt (is_covered disk.pending i) refl }

some_is : (xs ys : List ℕ) → Some xs ≡ Some ys → xs ≡ ys
some_is xs ys e = cc

-- nothing is pending at first
pub untouched_start : (S : ℕ → Type 0) (content : Option (List ℕ)) (now : Moment) → IsSettled content now → Untouched S content now
untouched_start S content now h = by content now.disk h
  where
    by : (content : Option (List ℕ)) (disk : Option Disk) → IfSome disk (λ d. (c : List ℕ) × (content ≡ Some c) × IsOnlyImage d c) → AreApart S content disk
    by None None h = refl
    by None (Some d) h = absurd (let wrong : None ≡ Some h.0 = h.1 in cc)
    by (Some c) None h = tt
    by (Some c) (Some d) h = only_apart d c (subst (IsOnlyImage d) (sym (some_is c h.0 h.1)) h.2) S

apart_write : (S : ℕ → Type 0) (content : Option (List ℕ)) (disk : Option Disk) (range : Range) → Misses S range → AreApart S content disk → AreApart S content (option_map (pend range) disk)
apart_write S None disk range misses h = ap (option_map (pend range)) h
apart_write S (Some c) None range misses h = h
apart_write S (Some c) (Some d) range misses h = record { kept = h.kept; clear = λ i s lt. ap (λ b. b || is_covered d.pending i) (misses i s) ∙ h.clear i s lt }

-- a write that misses the places leaves nothing pending there
pub untouched_write : (S : ℕ → Type 0) (content : Option (List ℕ)) (now m : Moment) (range : Range) → Misses S range → Untouched S content now → DuringWrite range now m → Untouched S content m
untouched_write S content now m range misses h d =
    ⊎_elim (λ e. subst (λ (x : Moment). AreApart S content x.disk) (sym e) h) (λ e. subst (λ (x : Moment). AreApart S content x.disk) (sym e) (apart_write S content now.disk range misses h)) d

apart_agree : (S : ℕ → Type 0) (content : Option (List ℕ)) (disk : Option Disk) → AreApart S content disk → AllAgree S content disk
apart_agree S None disk h = h
apart_agree S (Some c) None h = h
apart_agree S (Some c) (Some d) h =
    λ image is. λ i s. λ lt. is.others i (subst (λ (l : List ℕ). i < length l) (sym h.kept) lt) (h.clear i s lt) ∙ ap (λ (l : List ℕ). slice_get l i) h.kept

-- where nothing is pending, each image is as the content
pub untouched_keeps : (S : ℕ → Type 0) (content : Option (List ℕ)) (m : Moment) → Untouched S content m → Keeps S content m
untouched_keeps S content m h = apart_agree S content m.disk h

synced_agree : (S : ℕ → Type 0) (content : Option (List ℕ)) (f : List ℕ → List ℕ) (disk : Option Disk) → ((c : List ℕ) → Agrees S c (f c)) → AllAgree S content disk → AllAgree S content (settle (option_map f content) disk)
synced_agree S None f disk same h = ap (settle None) h
synced_agree S (Some c) f None same h = tt
synced_agree S (Some c) f (Some d) same h = λ image is. subst (Agrees S c) (sym (only_content (f c) image is)) (same c)

-- a sync keeps what the writes did
pub keeps_sync : (S : ℕ → Type 0) (old content : Option (List ℕ)) (f : List ℕ → List ℕ) (now m : Moment) → Keeps S old now → content ≡ option_map f old → ((c : List ℕ) → Agrees S c (f c)) → DuringSync content now m → Keeps S old m
keeps_sync S old content f now m h is same d =
    ⊎_elim (λ e. subst (λ (x : Moment). AllAgree S old x.disk) (sym e) h)
    (λ e. subst (λ (x : Moment). AllAgree S old x.disk) (sym e) (subst (λ (x : Option (List ℕ)). AllAgree S old (settle x now.disk)) (sym is) (synced_agree S old f now.disk same h))) d

-- lists that agree one after another
pub agrees_then : (S : ℕ → Type 0) (a b c : List ℕ) → Agrees S a b → Agrees S b c → Agrees S a c
agrees_then S a b c f h i s lt =
    let here = f i s lt in
    h i s (slice_get_within b i _ (here ∙ slice_get-get_or a i 0 lt)) ∙ here

-- a write agrees where it misses
pub agrees_write : (S : ℕ → Type 0) (at : ℕ) (bytes content : List ℕ) → Misses S (range_of at bytes) → Agrees S content (write at bytes content)
agrees_write S at bytes content misses i s lt = write_outside at bytes content i (misses i s) lt

-- ranges that miss
pub misses_behind : (n : ℕ) (range : Range) → n ≤ range.at → Misses (λ i. i < n) range
misses_behind n range le i lt = grind (arith, common_steps)

pub misses_but : (gate : ℕ) → Misses (λ i. i ≢ gate) (record { at = gate; count = 1 })
misses_but gate i ne = grind (arith, common_steps)

pub misses_part : (range part : Range) → range.at ≤ part.at → part.at + part.count ≤ range.at + range.count → Misses (IsOutside range) part
misses_part range part le end i out = grind (arith, common_steps)

-- nothing is spoken by the disk
pub quiet_write : (range : Range) (now m : Moment) → DuringWrite range now m → IsQuiet now m
quiet_write range now m d = ⊎_elim (λ e. ap (λ (x : Moment). x.spoken) e) (λ e. ap (λ (x : Moment). x.spoken) e) d

pub quiet_sync : (content : Option (List ℕ)) (now m : Moment) → DuringSync content now m → IsQuiet now m
quiet_sync content now m d = ⊎_elim (λ e. ap (λ (x : Moment). x.spoken) e) (λ e. ap (λ (x : Moment). x.spoken) e) d

-- what stays outside of a range, call by call
pub stays_then : (range : Range) (a b c : Option (List ℕ)) → StaysOutside range a b → StaysOutside range b c → StaysOutside range a c
stays_then range None b c f h = tt
stays_then range (Some a) None c f h = absurd f
stays_then range (Some a) (Some b) None f h = absurd h
stays_then range (Some a) (Some b) (Some c) f h = record {
  no_shorter = omega (arith, f.no_shorter, h.no_shorter);
  no_longer = omega (arith, f.no_longer, h.no_longer);
  others = λ i lt out. h.others i (omega (arith, lt, f.no_shorter)) out ∙ f.others i lt out;
}

reach_wider : (at m from n : ℕ) → from ≤ at → at + m ≤ from + n → end_of at m ≤ end_of from n
reach_wider at zero from n le end = omega arith
reach_wider at (suc m) from zero le end = absurd (omega (arith, le, end))
reach_wider at (suc m) from (suc n) le end = omega (arith, end)

pub stays_wider : (range part : Range) (a b : Option (List ℕ)) → range.at ≤ part.at → part.at + part.count ≤ range.at + range.count → StaysOutside part a b → StaysOutside range a b
stays_wider range part None b le end f = tt
stays_wider range part (Some a) None le end f = f
stays_wider range part (Some a) (Some b) le end f = record {
  no_shorter = f.no_shorter;
  no_longer = omega (arith, f.no_longer, reach_wider part.at part.count range.at range.count le end);
  others = λ i lt out. f.others i lt (misses_part range part le end i out);
}

pub stays_written : (at : ℕ) (bytes : List ℕ) (old new : Option (List ℕ)) → new ≡ option_map (write at bytes) old → StaysOutside (range_of at bytes) old new
stays_written at bytes old new e = subst (StaysOutside (range_of at bytes) old) (sym e) (by old)
  where
    by : (old : Option (List ℕ)) → StaysOutside (range_of at bytes) old (option_map (write at bytes) old)
    by None = tt
    by (Some c) = stays_outside at (length bytes) bytes c (omega arith)

pub stays_same_known : (range : Range) (old new : Option (List ℕ)) → new ≡ old → StaysOutside range old new
stays_same_known range old new e = subst (StaysOutside range old) (sym e) (by old)
  where
    by : (old : Option (List ℕ)) → StaysOutside range old old
    by None = tt
    by (Some c) = stays_same range c
