-- The rows of pages, whatever is told of the disk.
use Rattle.std.proofs.Common.{ℕ, zero, suc, ◌≡◌, ◌+◌, ◌<◌, ◌≤◌, List, [], ◌∷◌, ◌++◌, length, map, take, drop, replicate, get_or, None, Some, IfSome, IsSome, MatchOption, Result, Ok, Err, OnOk, refl, sym, ap, ◌∙◌, subst, arith, length-append}
use Rattle.std.proofs.Math.Seq.{drop-append-add, get_or-append_seam, take-append_seam}
use Rattle.std.proofs.lemmas.List.{get_or_append_left, length-replicate, map-append}
use Rattle.std.specs.List.{AllByRecursion}
use Rattle.std.specs.Map.{keys_of}
use Rattle.std.specs.declared.option.Option.{Option}
use Rattle.pss_base.specs.declared.put.Put.{Put}
use Rattle.pss_disk.specs.inner.Writing.{length-octets_in}
use Rattle.page_format.specs.Objects.{HasRecord, IsRightPut}
use Rattle.page_format.specs.Packing.{used_by}
use Rattle.page_format.specs.Pages.{AllFit, AreGiven, Entry, IsPage, behind_entry, entries_from, entries_of, entries_start, entry_at, entry_count, octets_in_use, place_of, put_of, record_length, serials_of}
use Rattle.page_format.specs.Places.{slot_start}
use Rattle.page_format.specs.Rows.{AreApart, AreRows, weights}
use Rattle.page_format.specs.inner.Copies.{IsCopy}
use Rattle.page_format.specs.inner.Gathering.{AreAdded, AreRowsSoFar, HasBytes}
use Rattle.page_format.proofs.NextEntry.{keys_placed}
use Rattle.page_format.proofs.Growing.{given_both}

-- an image in which octets stand at a place
pub stands_there : (base n : ℕ) (octets : List ℕ) → length octets ≡ n → IsCopy base n octets (replicate base 0 ++ octets)
stands_there base n octets size = record { is = sym whole ∙ ap (λ l. take n (l ++ replicate n 0)) (sym behind) }
  where
    behind : drop base (replicate base 0 ++ octets) ≡ octets
    behind =
        ap (λ k. drop k (replicate base 0 ++ octets)) (let e : base ≡ length (replicate {A = ℕ} base 0) + 0 = omega (arith, length-replicate {A = ℕ} base 0) in e) ∙ drop-append-add (replicate base 0) octets 0

    whole : take n (octets ++ replicate n 0) ≡ octets
    whole = ap (λ k. take k (octets ++ replicate n 0)) (sym size) ∙ take-append_seam octets (replicate n 0)

-- the octets in use in a page
used_from : (image : List ℕ) (n start : ℕ) → start + used_by (entries_from n image start) ≡ place_of n image start
used_from image zero start = omega arith
used_from image (suc n) start =
    let h = used_from image n (behind_entry image start) in
    let l : length (entry_at image start).octets ≡ record_length image start = length-octets_in (record { at = start + 16; count = record_length image start }) image in
    omega arith

pub page_used : (image : List ℕ) (slot : ℕ) → IsPage image (slot_start slot) slot → used_by (entries_of image (slot_start slot)) ≡ octets_in_use image (slot_start slot)
page_used image slot page =
    let h = used_from image (entry_count image (slot_start slot)) (entries_start (slot_start slot)) in
    let e = page.end in
    omega arith

pub used_on_page : (image : List ℕ) (slot : ℕ) → IsPage image (slot_start slot) slot → used_by (entries_of image (slot_start slot)) ≤ 16344
used_on_page image slot page = omega (arith, page_used image slot page, page.head.used)

weights_used : (es : List Entry) → weights (map put_of es) ≡ used_by es
weights_used [] = refl
weights_used (e ∷ es) = ap (λ n. 16 + length e.octets + n) (weights_used es)

weights_both : (xs ys : List Put) → weights (xs ++ ys) ≡ weights xs + weights ys
weights_both [] ys = omega arith
weights_both (x ∷ xs) ys = omega (arith, weights_both xs ys)

all_both : (P : Put → Type 0) (xs ys : List Put) → AllByRecursion P xs → AllByRecursion P ys → AllByRecursion P (xs ++ ys)
all_both P [] ys f h = h
all_both P (x ∷ xs) ys f h = (f.0, all_both P xs ys f.1 h)

-- entries that fit have records
bytes_from : (image : List ℕ) (end n at : ℕ) → AllFit end image at n → AllByRecursion HasBytes (map put_of (entries_from n image at))
bytes_from image end zero at fit = tt
bytes_from image end (suc n) at fit =
    let here = fit 0 (omega arith) in
    let l : length (entry_at image at).octets ≡ record_length image at = length-octets_in (record { at = at + 16; count = record_length image at }) image in (
      record { some = omega (arith, l, here.some); most = omega (arith, l, here.most) },
      bytes_from image end n (behind_entry image at) (λ j lt. fit (suc j) (omega (arith, lt))),
    )

serials_put : (es : List Entry) → map (λ (row : Put). row.serial) (map put_of es) ≡ serials_of es
serials_put [] = refl
serials_put (e ∷ es) = ap (λ l. e.serial ∷ l) (serials_put es)

pub no_rows : (next : ℕ) → AreRowsSoFar next 0 [] []
no_rows next = record { keys = refl; given = tt; right = tt; sum = omega arith }

-- a page more
pub rows_more : (image : List ℕ) (next pages slot : ℕ) (places after : List (ℕ × ℕ)) (rows rows_after : List Put) (small small_after : Option ℕ) → AreRowsSoFar next pages places rows → AreAdded image next slot places after rows rows_after small small_after
    → AreRowsSoFar next (pages + 1) after rows_after
rows_more image next pages slot places after rows rows_after small small_after so_far added =
    let es = entries_of image (slot_start slot) in
    let puts : List Put = map put_of es in
    let keys : keys_of after ≡ keys_of places ++ serials_of es = ap keys_of added.places_ ∙ keys_placed places slot es in
    record {
      keys = keys ∙ ap (λ l. l ++ serials_of es) so_far.keys ∙ ap (λ l. map (λ (row : Put). row.serial) rows ++ l) (sym (serials_put es)) ∙ sym (map-append (λ (row : Put). row.serial) rows puts) ∙ ap (map (λ (row : Put). row.serial)) (sym added.rows_);
      given = subst (AreGiven next []) (sym keys) (given_both next [] (keys_of places) (serials_of es) so_far.given added.given);
      right = subst (AllByRecursion HasBytes) (sym added.rows_) (all_both HasBytes rows puts so_far.right (bytes_from image _ (entry_count image (slot_start slot)) (entries_start (slot_start slot)) added.whole.fit));
      sum = let u = used_on_page image slot added.whole in omega (arith, ap weights added.rows_, weights_both rows puts, weights_used es, so_far.sum, u);
    }

-- what the rows of all pages are
some_of : (rows : List Put) → AllByRecursion HasBytes rows → AllByRecursion (λ row. IsSome row.bytes) rows
some_of [] h = tt
some_of (row ∷ rows) h = (by row.bytes h.0, some_of rows h.1)
  where
    by : (o : Option (List ℕ)) → MatchOption o ⊥ HasRecord → IsSome o
    by None none = absurd none
    by (Some octets) has = refl

right_of : (rows : List Put) → AllByRecursion HasBytes rows → AllByRecursion IsRightPut rows
right_of [] h = tt
right_of (row ∷ rows) h = (by row.bytes h.0, right_of rows h.1)
  where
    by : (o : Option (List ℕ)) → MatchOption o ⊥ HasRecord → IfSome o HasRecord
    by None none = absurd none
    by (Some octets) has = has

range_of_serials : (next : ℕ) (seen : List ℕ) (rows : List Put) → AreGiven next seen (map (λ row. row.serial) rows) → AllByRecursion (λ row. (1 ≤ row.serial) × (row.serial < next)) rows
range_of_serials next seen [] are = tt
range_of_serials next seen (row ∷ rows) are = ((are.0.some, are.0.given), range_of_serials next (seen ++ row.serial ∷ []) rows are.1)

-- a serial that was seen stands in no row
unseen : (next : ℕ) (seen : List ℕ) (rows : List Put) → AreGiven next seen (map (λ row. row.serial) rows) → (k : ℕ) → k < length seen → AllByRecursion (λ other. get_or seen k 0 ≡ other.serial → ⊥) rows
unseen next seen [] are k lt = tt
unseen next seen (row ∷ rows) are k lt = (
  are.0.new k lt,
  subst (λ (n : ℕ). AllByRecursion (λ other. n ≡ other.serial → ⊥) rows) (get_or_append_left seen (row.serial ∷ []) 0 k lt) (unseen next (seen ++ row.serial ∷ []) rows are.1 k (omega (arith, lt, length-append seen (row.serial ∷ [])))),
)

apart_of : (next : ℕ) (seen : List ℕ) (rows : List Put) → AreGiven next seen (map (λ row. row.serial) rows) → AreApart rows
apart_of next seen [] are = tt
apart_of next seen (row ∷ rows) are = (
  subst (λ (n : ℕ). AllByRecursion (λ other. n ≡ other.serial → ⊥) rows) (get_or-append_seam seen row.serial [] 0) (unseen next (seen ++ row.serial ∷ []) rows are.1 (length seen) (omega (arith, length-append seen (row.serial ∷ [])))),
  apart_of next (seen ++ row.serial ∷ []) rows are.1,
)

pub are_rows : (next pages : ℕ) (places : List (ℕ × ℕ)) (rows : List Put) → AreRowsSoFar next pages places rows → AreRows next pages rows
are_rows next pages places rows so_far =
    let given = subst (AreGiven next []) so_far.keys so_far.given in
    record {
      some = some_of rows so_far.right;
      right = right_of rows so_far.right;
      given = range_of_serials next [] rows given;
      apart = apart_of next [] rows given;
      sum = so_far.sum;
    }

pub ok_then : {T E : Type 0} (r : Result T E) (P Q : Type 0) → (P → Q) → OnOk r P → OnOk r Q
ok_then (Ok t) P Q f h = f h
ok_then (Err e) P Q f h = tt
