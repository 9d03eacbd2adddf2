-- Entries are packed one after another.
use Rattle.std.proofs.Common.{ℕ, zero, suc, ◌≡◌, ◌≢◌, ◌+◌, ◌-◌, ◌<◌, ◌≤◌, List, [], ◌∷◌, ◌++◌, length, take, drop, get_or, IfSome, None, Some, refl, sym, ap, ◌∙◌, subst, arith, append_assoc, append-nil}
use Rattle.std.proofs.Math.Seq.{take-length, take-suc}
use Rattle.std.proofs.lemmas.List.{drop-append-le, drop-take, length-drop, length-take-le}
use Rattle.std.specs.List.{slice_range}
use Rattle.std.specs.declared.option.Option.{Option}
use Rattle.pss_base.specs.declared.put.Put.{Put}
use Rattle.page_format.specs.Objects.{entries_left, entry_left}
use Rattle.page_format.specs.Written.{AreStorable, IsStorable}
use Rattle.page_format.specs.Pages.{Entry}
use Rattle.page_format.specs.Packing.{AreClosed, AreFilled, AreInARow, HasNoRoom, IsFilled, IsPacking, entries_on, size_of, used_by}
use Rattle.page_format.specs.declared.packing.Filling.{Filling}
use Rattle.page_format.specs.inner.Packing.{AreFilledUpTo, ArePackedSoFar}

pub used_by-append : (es fs : List Entry) → used_by (es ++ fs) ≡ used_by es + used_by fs
used_by-append [] fs = omega arith
used_by-append (e ∷ es) fs = let h = used_by-append es fs in omega arith

pub entries_on-append : (ps qs : List (List Entry)) → entries_on (ps ++ qs) ≡ entries_on ps ++ entries_on qs
entries_on-append [] qs = refl
entries_on-append (p ∷ ps) qs = ap (λ l. p ++ l) (entries_on-append ps qs) ∙ sym (append_assoc p (entries_on ps) (entries_on qs))

none_used : (es : List Entry) → used_by es ≡ 0 → es ≡ []
none_used [] none = refl
none_used (e ∷ es) none = absurd (omega arith)

some_used : (es : List Entry) → 0 < used_by es → es ≢ []
some_used es some none = let h : used_by es ≡ 0 = ap used_by none in omega arith

not_empty : (es fs : List Entry) → fs ≢ [] → es ++ fs ≢ []
not_empty [] fs some none = some none
not_empty (e ∷ es) fs some none = cc

-- room is asked for the first entry alone
room_more : (page es fs : List Entry) → es ≢ [] → HasNoRoom page es → HasNoRoom page (es ++ fs)
room_more page [] fs some full = absurd (some refl)
room_more page (e ∷ es) fs some full = full

-- the last page gets more entries
closed_more : (closed : List (List Entry)) (last es : List Entry) → last ≢ [] → AreClosed (closed ++ last ∷ []) → AreClosed (closed ++ (last ++ es) ∷ [])
closed_more [] last es some are = (are.0, are.1)
closed_more (page ∷ closed) last es some are = (
  subst (HasNoRoom page)
      (ap (λ l. l ++ es) (entries_on-append closed (last ∷ [])) ∙ append_assoc (entries_on closed) (last ++ []) es ∙ ap (λ l. entries_on closed ++ (l ++ es)) (append-nil last) ∙ sym (entries_on-append closed ((last ++ es) ∷ []) ∙ ap (λ l. entries_on closed ++ l) (append-nil (last ++ es))))
      (room_more page (entries_on (closed ++ last ∷ [])) es (subst (λ l. l ≢ []) (sym (entries_on-append closed (last ∷ []))) (not_empty (entries_on closed) (last ++ []) (subst (λ l. l ≢ []) (sym (append-nil last)) some))) are.0),
  closed_more closed last es some are.1,
)

-- the last page is closed, and one more begun
closed_next : (closed : List (List Entry)) (last es : List Entry) → last ≢ [] → HasNoRoom last es → AreClosed (closed ++ last ∷ []) → AreClosed ((closed ++ last ∷ []) ++ es ∷ [])
closed_next [] last es some full are = (subst (HasNoRoom last) (sym (append-nil es)) full, (tt, tt))
closed_next (page ∷ closed) last es some full are = (
  subst (HasNoRoom page) (sym (entries_on-append (closed ++ last ∷ []) (es ∷ [])))
      (room_more page (entries_on (closed ++ last ∷ [])) (es ++ []) (subst (λ l. l ≢ []) (sym (entries_on-append closed (last ∷ []))) (not_empty (entries_on closed) (last ++ []) (subst (λ l. l ≢ []) (sym (append-nil last)) some))) are.0),
  closed_next closed last es some full are.1,
)

filled_more : (closed : List (List Entry)) (last : List Entry) → AreFilled closed → IsFilled last → AreFilled (closed ++ last ∷ [])
filled_more [] last are is = (is, tt)
filled_more (page ∷ closed) last are is = (are.0, filled_more closed last are.1 is)

pub packed_there : (es : List Entry) (closed : List (List Entry)) (last : List Entry) (used : ℕ) (e : Entry) → ArePackedSoFar es closed last used → used + size_of e ≤ 16344 → ArePackedSoFar (es ++ e ∷ []) closed (last ++ e ∷ []) (used + size_of e)
packed_there es closed last used e so_far fits = record {
  all = sym (append_assoc (entries_on closed) last (e ∷ [])) ∙ ap (λ l. l ++ e ∷ []) so_far.all;
  begun = λ none. absurd (not_empty last (e ∷ []) (λ no. cc) none);
  used_ = used_by-append last (e ∷ []) ∙ (let h = so_far.used_ in omega arith);
  most = fits;
  filled = so_far.filled;
  closed_ = closed_there last closed so_far.begun so_far.closed_;
}
  where
    closed_there : (last : List Entry) (closed : List (List Entry)) → (last ≡ [] → closed ≡ []) → AreClosed (closed ++ last ∷ []) → AreClosed (closed ++ (last ++ e ∷ []) ∷ [])
    closed_there [] closed begun are = subst (λ ps. AreClosed (ps ++ (e ∷ []) ∷ [])) (sym (begun refl)) (tt, tt)
    closed_there (x ∷ xs) closed begun are = closed_more closed (x ∷ xs) (e ∷ []) (λ no. cc) are

pub packed_next : (es : List Entry) (closed : List (List Entry)) (last : List Entry) (used : ℕ) (e : Entry) → ArePackedSoFar es closed last used → size_of e ≤ 8016 → 16344 < used + size_of e → ArePackedSoFar (es ++ e ∷ []) (closed ++ last ∷ []) (e ∷ []) (size_of e)
packed_next es closed last used e so_far short full =
    let some : last ≢ [] = some_used last (omega (arith, so_far.used_)) in
    record {
      all = ap (λ l. l ++ e ∷ []) (entries_on-append closed (last ∷ []) ∙ ap (λ l. entries_on closed ++ l) (append-nil last) ∙ so_far.all);
      begun = λ none. cc;
      used_ = omega arith;
      most = omega arith;
      filled = filled_more closed last so_far.filled (record { some = some; most = omega (arith, so_far.used_, so_far.most) });
      closed_ = closed_next closed last (e ∷ []) some (omega (arith, so_far.used_)) so_far.closed_;
    }

pub packed_all : (es : List Entry) (closed : List (List Entry)) (last : List Entry) (used : ℕ) → ArePackedSoFar es closed last used → 0 < used → IsPacking es (closed ++ last ∷ [])
packed_all es closed last used so_far some = record {
  all = entries_on-append closed (last ∷ []) ∙ ap (λ l. entries_on closed ++ l) (append-nil last) ∙ so_far.all;
  filled = filled_more closed last so_far.filled (record { some = some_used last (omega (arith, so_far.used_)); most = omega (arith, so_far.used_, so_far.most) });
  closed = so_far.closed_;
}

pub packed_nothing : (es : List Entry) (closed : List (List Entry)) (last : List Entry) (used : ℕ) → ArePackedSoFar es closed last used → used ≡ 0 → IsPacking es closed
packed_nothing es closed last used so_far none =
    let no_last : last ≡ [] = none_used last (so_far.used_ ∙ none) in
    let no_pages : closed ≡ [] = so_far.begun no_last in
    record {
      all = sym (append-nil (entries_on closed)) ∙ ap (λ l. entries_on closed ++ l) (sym no_last) ∙ so_far.all;
      filled = so_far.filled;
      closed = subst AreClosed (sym no_pages) tt;
    }

-- the changes from one up to another, with one more
left-append : (puts more : List Put) → entries_left (puts ++ more) ≡ entries_left puts ++ entries_left more
left-append [] more = refl
left-append (put ∷ puts) more = ap (λ l. entry_left put ∷ l) (left-append puts more)

taken_one : (puts : List Put) (k : ℕ) (put : Put) → k < length puts → put ≡ get_or puts k put → take (k + 1) puts ≡ take k puts ++ put ∷ []
taken_one puts k put lt is = ap (λ (n : ℕ). take n puts) (let h : k + 1 ≡ suc k = omega arith in h) ∙ take-suc puts k put lt ∙ ap (λ (x : Put). take k puts ++ x ∷ []) (sym is)

range_is : (puts : List Put) (start k : ℕ) → start ≤ k → slice_range puts start k ≡ drop start (take k puts)
range_is puts start k le = sym (ap (λ (n : ℕ). drop start (take n puts)) (let h : k ≡ start + (k - start) = omega (arith, le) in h) ∙ drop-take start (k - start) puts)

range_one : (puts : List Put) (start k : ℕ) (put : Put) → start ≤ k → k < length puts → put ≡ get_or puts k put → slice_range puts start (k + 1) ≡ slice_range puts start k ++ put ∷ []
range_one puts start k put le lt is =
    range_is puts start (k + 1) (omega (arith, le)) ∙ ap (drop start) (taken_one puts k put lt is) ∙ drop-append-le start (take k puts) (put ∷ []) (let h = length-take-le k puts (omega (arith, lt)) in omega (arith, h, le)) ∙ ap (λ l. l ++ put ∷ []) (sym (range_is puts start k le))

range_begun : (puts : List Put) (k : ℕ) (put : Put) → k < length puts → put ≡ get_or puts k put → slice_range puts k (k + 1) ≡ put ∷ []
range_begun puts k put lt is = range_one puts k k put (omega arith) lt is ∙ ap (λ l. l ++ put ∷ []) (ap (λ (n : ℕ). take n (drop k puts)) (let h : k - k ≡ 0 = omega arith in h))

row_one : (first : ℕ) (es : List Entry) (e : Entry) → AreInARow first es → e.serial ≡ first + length es → AreInARow first (es ++ e ∷ [])
row_one first [] e are is = (omega (arith, is), tt)
row_one first (x ∷ es) e are is = (are.0, row_one (suc first) es e are.1 (omega (arith, is)))

length-left : (puts : List Put) → length (entries_left puts) ≡ length puts
length-left [] = refl
length-left (put ∷ puts) = omega (arith, length-left puts)

length-range : (puts : List Put) (start k : ℕ) → start ≤ k → k ≤ length puts → length (entries_left (slice_range puts start k)) ≡ k - start
length-range puts start k le within = omega (arith, length-left (slice_range puts start k), ap length (range_is puts start k le), length-drop start (take k puts), length-take-le k puts within)

row_range : (puts : List Put) (start k : ℕ) (put : Put) (old row : Option ℕ) → start ≤ k → k < length puts → put ≡ get_or puts k put → IfSome row (λ first. (old ≡ Some first) × (put.serial ≡ first + (k - start))) → IfSome old (λ first. AreInARow first (entries_left (slice_range puts start k)))
    → IfSome row (λ first. AreInARow first (entries_left (slice_range puts start (k + 1))))
row_range puts start k put old None le lt is with_ are = tt
row_range puts start k put old (Some first) le lt is with_ are =
    subst (λ (l : List Entry). AreInARow first l) (sym (ap entries_left (range_one puts start k put le lt is) ∙ left-append (slice_range puts start k) (put ∷ [])))
    (row_one first (entries_left (slice_range puts start k)) (entry_left put) (subst (λ (o : Option ℕ). IfSome o (λ first. AreInARow first (entries_left (slice_range puts start k)))) with_.0 are) (omega (arith, with_.1, length-range puts start k le (omega (arith, lt)))))

pub filled_put : (puts : List Put) (closed : List (List Entry)) (filling : Filling) (put : Put) (size : ℕ) (row : Option ℕ) → IfSome row (λ first. (filling.row ≡ Some first) × (put.serial ≡ first + (filling.end - filling.start))) → size ≡ size_of (entry_left put) → filling.end < length puts → put ≡ get_or puts filling.end put → filling.used + size ≤ 16344 → AreFilledUpTo puts closed filling
    → AreFilledUpTo puts closed (record { start = filling.start; end = filling.end + 1; used = filling.used + size; row = row })
filled_put puts closed filling put size row row_ size_ lt is fits so_far =
    let k = filling.end in
    let e = entry_left put in
    let there = packed_there (entries_left (take k puts)) closed (entries_left (slice_range puts filling.start k)) filling.used e so_far.packed (omega (arith, size_, fits)) in
    record {
      begun = omega (arith, so_far.begun);
      packed =
          subst (λ (es : List Entry). ArePackedSoFar es closed (entries_left (slice_range puts filling.start (k + 1))) (filling.used + size)) (sym (left-append (take k puts) (put ∷ [])) ∙ ap entries_left (sym (taken_one puts k put lt is)))
          (subst (λ (l : List Entry). ArePackedSoFar (entries_left (take k puts) ++ e ∷ []) closed l (filling.used + size)) (sym (left-append (slice_range puts filling.start k) (put ∷ [])) ∙ ap entries_left (sym (range_one puts filling.start k put so_far.begun lt is)))
          (subst (λ (n : ℕ). ArePackedSoFar (entries_left (take k puts) ++ e ∷ []) closed (entries_left (slice_range puts filling.start k) ++ e ∷ []) (filling.used + n)) (sym size_) there));
      row = row_range puts filling.start k put filling.row row so_far.begun lt is row_ so_far.row;
    }

-- the pages after an entry with which another one was begun
pub filled_begun : (puts : List Put) (closed new : List (List Entry)) (filling : Filling) (put : Put) (size : ℕ) → size ≡ size_of (entry_left put) → size ≤ 8016 → new ≡ closed ++ entries_left (slice_range puts filling.start filling.end) ∷ [] → filling.end < length puts
    → put ≡ get_or puts filling.end put → 16344 < filling.used + size → AreFilledUpTo puts closed filling → AreFilledUpTo puts new (record { start = filling.end; end = filling.end + 1; used = size; row = Some put.serial })
filled_begun puts closed new filling put size size_ short new_ lt is full so_far =
    let k = filling.end in
    let e = entry_left put in
    let next = packed_next (entries_left (take k puts)) closed (entries_left (slice_range puts filling.start k)) filling.used e so_far.packed (omega (arith, size_, short)) (omega (arith, size_, full)) in
    record {
      begun = omega arith;
      packed =
          subst (λ (es : List Entry). ArePackedSoFar es new (entries_left (slice_range puts k (k + 1))) size) (sym (left-append (take k puts) (put ∷ [])) ∙ ap entries_left (sym (taken_one puts k put lt is)))
          (subst (λ (l : List Entry). ArePackedSoFar (entries_left (take k puts) ++ e ∷ []) new l size) (ap entries_left (sym (range_begun puts k put lt is)))
          (subst (λ (n : ℕ). ArePackedSoFar (entries_left (take k puts) ++ e ∷ []) new (e ∷ []) n) (sym size_)
          (subst (λ (ps : List (List Entry)). ArePackedSoFar (entries_left (take k puts) ++ e ∷ []) ps (e ∷ []) (size_of e)) (sym new_) next)));
      row = subst (λ (l : List Entry). AreInARow put.serial l) (ap entries_left (sym (range_begun puts k put lt is))) (refl, tt);
    }

-- the pages of all changes
pub filled_all : (puts : List Put) (closed new : List (List Entry)) (filling : Filling) → filling.end ≡ length puts → new ≡ closed ++ entries_left (slice_range puts filling.start (length puts)) ∷ [] → 0 < filling.used → AreFilledUpTo puts closed filling → IsPacking (entries_left puts) new
filled_all puts closed new filling end new_ some so_far =
    let packed = subst (λ (n : ℕ). ArePackedSoFar (entries_left (take n puts)) closed (entries_left (slice_range puts filling.start n)) filling.used) end so_far.packed in
    let whole = subst (λ (l : List Put). ArePackedSoFar (entries_left l) closed (entries_left (slice_range puts filling.start (length puts))) filling.used) (take-length puts) packed in
    subst (IsPacking (entries_left puts)) (sym new_) (packed_all (entries_left puts) closed _ filling.used whole some)

pub filled_nothing : (puts : List Put) (closed : List (List Entry)) (filling : Filling) → filling.end ≡ length puts → filling.used ≡ 0 → AreFilledUpTo puts closed filling → IsPacking (entries_left puts) closed
filled_nothing puts closed filling end none so_far =
    let packed = subst (λ (n : ℕ). ArePackedSoFar (entries_left (take n puts)) closed (entries_left (slice_range puts filling.start filling.end)) filling.used) end so_far.packed in
    packed_nothing (entries_left puts) closed _ filling.used (subst (λ (l : List Put). ArePackedSoFar (entries_left l) closed (entries_left (slice_range puts filling.start filling.end)) filling.used) (take-length puts) packed) none

-- the entry of one of the changes
pub storable_at : (puts : List Put) (i : ℕ) (put : Put) → AreStorable (entries_left puts) → i < length puts → put ≡ get_or puts i put → IsStorable (entry_left put)
storable_at [] i put are lt is = absurd (omega (arith, lt))
storable_at (x ∷ puts) zero put are lt is = subst (λ (y : Put). IsStorable (entry_left y)) (sym is) are.0
storable_at (x ∷ puts) (suc i) put are lt is = storable_at puts i put are.1 (omega (arith, lt)) is
