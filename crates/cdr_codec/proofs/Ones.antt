-- What the readers of one primitive owe to it.
use Rattle.std.proofs.Common.{◌≡◌, ℕ, ◌+◌, ◌^◌, ◌<◌, ◌≤◌, Bool, true, false, cond, ltb, List, [], ◌∷◌, ◌++◌, length, take, drop, Option, Some, None, Result, Ok, Err, refl, sym, ap, subst, ◌∙◌, arith, length-append}
use Rattle.std.proofs.lemmas.Bool.{ltb-false, ltb-true, le-ltb, lt-ltb}
use Rattle.std.proofs.lemmas.List.{append-nil, take_at, drop-drop, length-drop, length-take, take-append-drop, get_or-drop}
use Rattle.byteorder.specs.Endian.{big_number, big_bytes}
use Rattle.byteorder.specs.Numbers.{big_from-lt, big_from-take, big_number-reads_back, length-bytes_high_first}
use Rattle.cdr_codec.specs.declared.fault.RecordFault.{RecordFault}
use Rattle.cdr_codec.specs.declared.fault.RecordFault.TheVariants as fault
use Rattle.cdr_codec.specs.Primitives.{Primitive, Letters, width_of, refuses, fault_at, given, judged, refusal, Piece, joined, size_of}
use Rattle.cdr_codec.specs.Reading.{Reader, plain_at, one_at}
use Rattle.cdr_codec.proofs.Octets.{IsNumber, turned_back}
use Rattle.cdr_codec.specs.Laws.{AreOctets}
use Rattle.cdr_codec.proofs.Readers.{done, failed, IsNear, Takes, IsReader}

given_ok : {A : Type 0} (o : Option RecordFault) (r : A) (y : A) → given {B = Result A RecordFault} o (Ok r) Err ≡ Ok y → (o ≡ None) × (r ≡ y)
given_ok None r y e = (refl, cc)
given_ok (Some f) r y e = absurd cc

given_err : {A : Type 0} (o : Option RecordFault) (r : A) (f : RecordFault) → given {B = Result A RecordFault} o (Ok r) Err ≡ Err f → o ≡ Some f
given_err None r f e = absurd cc
given_err (Some g) r f e = cc

-- what stands at a primitive's place, where it is not refused
record Accepted (p : Primitive) (at : ℕ) (octets : List ℕ) : Type 0 where
  long : width_of p ≤ length octets
  fine : judged p at (take (width_of p) octets) ≡ None

accepted : (p : Primitive) (at : ℕ) (octets : List ℕ) → refusal p at octets ≡ None → Accepted p at octets
accepted p at octets e = by_test (ltb (length octets) (width_of p)) refl e
  where
    by_test : (t : Bool) → ltb (length octets) (width_of p) ≡ t → cond t (Some (fault.Short (at + length octets))) (judged p at (take (width_of p) octets)) ≡ None → Accepted p at octets
    by_test true test e = absurd cc
    by_test false test e = record { long = ltb-false _ _ test; fine = e }

only_one : (p q : Piece) (front back : List Piece) → p ∷ [] ≡ front ++ q ∷ back → (front ≡ []) × (q ≡ p)
only_one p q [] back e = (refl, cc)
only_one p q (r ∷ []) back e = absurd (let no : [] ≡ q ∷ back = cc in cc)
only_one p q (r ∷ s ∷ front) back e = absurd (let no : [] ≡ s ∷ (front ++ q ∷ back) = cc in cc)

-- a reader of one primitive, by what it makes of the octets
pub piece_law : {A : Type 0} (p : Primitive) (read : Reader A) (value : List ℕ → A) (octets : A → List ℕ) (Fits : A → Type 0) (some : A) → Fits some
    → ((rest : List ℕ) → AreOctets rest → (x : A) × Fits x × IsNear p (octets x) rest)
    → ((bytes : List ℕ) (at : ℕ) → at ≤ length bytes → read bytes at ≡ given (refusal p at (drop at bytes)) (Ok (value (drop at bytes), at + width_of p)) Err)
    → ((at : ℕ) (xs : List ℕ) → AreOctets xs → width_of p ≤ length xs → judged p at (take (width_of p) xs) ≡ None → Fits (value xs) × (octets (value xs) ≡ take (width_of p) xs))
    → ((at : ℕ) (x : A) (rest : List ℕ) → Fits x → (length (octets x) ≡ width_of p) × (judged p at (octets x) ≡ None) × (value (octets x ++ rest) ≡ x))
    → IsReader read (λ x at. record { what = p; octets = octets x } ∷ []) Fits
piece_law {A} p read value octets Fits some some_fits near is back forth = record {
  some = some;
  some_fits = some_fits;
  takes = piece_take;
  reads = piece_read;
  stops = λ bytes at f o le e. (let n = near (drop at bytes) (later_octets bytes at o) in record {
    value = n.0;
    fits = n.1;
    cut = (
      record {
        front = [];
        next = record { what = p; octets = octets n.0 };
        back = [];
        rest = drop at bytes;
        split = refl;
        same = refl;
        refused = (let here : at ≡ at + 0 = omega arith in
            subst (λ (k : ℕ). refusal p k (drop at bytes) ≡ Some f) here (given_err (refusal p at (drop at bytes)) (value (drop at bytes), at + width_of p) f (sym (is bytes at le) ∙ e)));
      },
      n.2,
    );
  });
  refuses = λ bytes at x f le fits cut.
      (let alone = only_one (record { what = p; octets = octets x }) cut.next cut.front cut.back cut.split in
      let whole : drop at bytes ≡ cut.rest = cut.same ∙ ap (λ (ps : List Piece). joined ps ++ cut.rest) alone.0 in
      let here : at + size_of cut.front ≡ at = ap (λ (ps : List Piece). at + size_of ps) alone.0 ∙ (let e : at + 0 ≡ at = omega arith in e) in
      let first : refusal p (at + size_of cut.front) cut.rest ≡ Some f = subst (λ (q : Piece). refusal q.what (at + size_of cut.front) cut.rest ≡ Some f) alone.1 cut.refused in
      let second : refusal p at cut.rest ≡ Some f = subst (λ (k : ℕ). refusal p k cut.rest ≡ Some f) here first in
      let third : refusal p at (drop at bytes) ≡ Some f = subst (λ (l : List ℕ). refusal p at l ≡ Some f) (sym whole) second in
      is bytes at le ∙ rw third refl);
}
  where
    later_octets : (bytes : List ℕ) (at : ℕ) → AreOctets bytes → AreOctets (drop at bytes)
    later_octets bytes at o i = rw (get_or-drop at bytes i 0) (o (at + i))

    piece_take : (bytes : List ℕ) (at : ℕ) (x : A) (after : ℕ) → AreOctets bytes → at ≤ length bytes → read bytes at ≡ Ok (x, after) → Fits x × Takes bytes at (octets x ++ []) after
    piece_take bytes at x after o le e =
        let g = given_ok (refusal p at (drop at bytes)) (value (drop at bytes), at + width_of p) (x, after) (sym (is bytes at le) ∙ e) in
        let a = accepted p at (drop at bytes) g.0 in
        let b = back at (drop at bytes) (later_octets bytes at o) a.long a.fine in
        let text = take (width_of p) (drop at bytes) in
        let long : at + width_of p ≤ length bytes = omega (arith, a.long, length-drop at bytes, le) in
        let size : length text ≡ width_of p = omega (arith, length-take (width_of p) (drop at bytes), a.long) in
        let took : Takes bytes at text (at + width_of p) = record {
          whole = sym (take-append-drop (width_of p) (drop at bytes)) ∙ ap (λ (l : List ℕ). text ++ l) (drop-drop (width_of p) at bytes);
          after_is = omega (arith, size);
          within = long;
        } in
        let made : A × ℕ = (value (drop at bytes), at + width_of p) in
        let spelled : text ≡ octets (value (drop at bytes)) ++ [] = sym b.1 ∙ sym (append-nil (octets (value (drop at bytes)))) in
        subst (λ (m : A × ℕ). Fits m.0 × Takes bytes at (octets m.0 ++ []) m.1) g.1 (b.0, subst (λ (l : List ℕ). Takes bytes at l (at + width_of p)) spelled took)

    piece_read : (bytes : List ℕ) (at : ℕ) (x : A) (rest : List ℕ) → at ≤ length bytes → Fits x → drop at bytes ≡ (octets x ++ []) ++ rest → read bytes at ≡ Ok (x, at + length (octets x ++ []))
    piece_read bytes at x rest le fits h =
        let f = forth at x rest fits in
        let whole : drop at bytes ≡ octets x ++ rest = h ∙ ap (λ (l : List ℕ). l ++ rest) (append-nil (octets x)) in
        let long : width_of p ≤ length (octets x ++ rest) = omega (arith, f.0, length-append (octets x) rest) in
        let fine : refusal p at (octets x ++ rest) ≡ None = rw (le-ltb (length (octets x ++ rest)) (width_of p) long, take_at (octets x) rest (width_of p) f.0) f.1 in
        let end : at + width_of p ≡ at + length (octets x ++ []) = omega (arith, f.0, ap length (append-nil (octets x))) in
        is bytes at le ∙ rw (whole, fine) (ap (λ (v : A). done (v, at + width_of p)) f.2 ∙ ap (λ (k : ℕ). done (x, k)) end)

-- ---- numbers

abbrev number_judged : Primitive → ℕ → List ℕ → Option RecordFault
number_judged p at octets = cond (refuses p (big_number (width_of p) octets)) (Some (fault_at p (big_number (width_of p) octets) at)) None

judged_is : (p : Primitive) (at : ℕ) (octets : List ℕ) → IsNumber p → judged p at octets ≡ number_judged p at octets
judged_is (Letters n) at octets is = absurd is
judged_is _ at octets is = refl

-- a number that a primitive may have
abbrev pub MayBe : Primitive → ℕ → Type 0
MayBe p n = (n < 256 ^ width_of p) × (refuses p n ≡ false)

one_is : (p : Primitive) → IsNumber p → (bytes : List ℕ) (at : ℕ) → at ≤ length bytes → one_at p bytes at ≡ given (refusal p at (drop at bytes)) (Ok (big_number (width_of p) (drop at bytes), at + width_of p)) Err
unfolding one_at plain_at
one_is p is bytes at le = by_test (ltb (length bytes) (at + width_of p)) refl
  where
    whole : big_number (width_of p) (take (width_of p) (drop at bytes)) ≡ big_number (width_of p) (drop at bytes)
    whole = big_from-take 0 (width_of p) (width_of p) (drop at bytes) (omega arith)

    by_refusal : (b : Bool) → cond {A = Result (ℕ × ℕ) RecordFault} b (Err (fault_at p (big_number (width_of p) (drop at bytes)) at)) (Ok (big_number (width_of p) (drop at bytes), at + width_of p)) ≡ given (cond b (Some (fault_at p (big_number (width_of p) (drop at bytes)) at)) None) (Ok (big_number (width_of p) (drop at bytes), at + width_of p)) Err
    by_refusal true = refl
    by_refusal false = refl

    by_test : (t : Bool) → ltb (length bytes) (at + width_of p) ≡ t → one_at p bytes at ≡ given (refusal p at (drop at bytes)) (Ok (big_number (width_of p) (drop at bytes), at + width_of p)) Err
    by_test true test =
        let short : length bytes < at + width_of p = ltb-true _ _ test in
        let there : ltb (length (drop at bytes)) (width_of p) ≡ true = lt-ltb _ _ (omega (arith, length-drop at bytes)) in
        let end : length bytes ≡ at + length (drop at bytes) = omega (arith, length-drop at bytes) in
        rw (test, there) (ap (λ (k : ℕ). failed {A = ℕ × ℕ} (fault.Short k)) end)
    by_test false test =
        let long : at + width_of p ≤ length bytes = ltb-false _ _ test in
        let there : ltb (length (drop at bytes)) (width_of p) ≡ false = le-ltb _ _ (omega (arith, length-drop at bytes)) in
        rw (test, there, judged_is p at (take (width_of p) (drop at bytes)) is, whole) (by_refusal (refuses p (big_number (width_of p) (drop at bytes))))

near_number : (p : Primitive) → IsNumber p → (octets rest : List ℕ) → IsNear p octets rest
near_number (Letters n) is octets rest = absurd is
near_number _ is octets rest = tt

pub one_law : (p : Primitive) → IsNumber p → (n : ℕ) → MayBe p n → IsReader (one_at p) (λ x at. record { what = p; octets = big_bytes (width_of p) x } ∷ []) (MayBe p)
one_law p is n fits = piece_law p (one_at p) (big_number (width_of p)) (big_bytes (width_of p)) (MayBe p) n fits (λ rest o. (n, fits, near_number p is (big_bytes (width_of p) n) rest)) (one_is p is) back forth
  where
    unrefused : (b : Bool) (f : RecordFault) → cond b (Some f) None ≡ None → b ≡ false
    unrefused true f e = absurd cc
    unrefused false f e = refl

    back : (at : ℕ) (xs : List ℕ) → AreOctets xs → width_of p ≤ length xs → judged p at (take (width_of p) xs) ≡ None → MayBe p (big_number (width_of p) xs) × (big_bytes (width_of p) (big_number (width_of p) xs) ≡ take (width_of p) xs)
    back at xs o long fine =
        let whole = big_from-take 0 (width_of p) (width_of p) xs (omega arith) in
        let test = unrefused (refuses p (big_number (width_of p) (take (width_of p) xs))) _ (sym (judged_is p at (take (width_of p) xs) is) ∙ fine) in
        ((big_from-lt 0 (width_of p) xs o, subst (λ (k : ℕ). refuses p k ≡ false) whole test), turned_back p is xs o long)

    forth : (at x : ℕ) (rest : List ℕ) → MayBe p x → (length (big_bytes (width_of p) x) ≡ width_of p) × (judged p at (big_bytes (width_of p) x) ≡ None) × (big_number (width_of p) (big_bytes (width_of p) x ++ rest) ≡ x)
    forth at x rest f =
        let again : big_number (width_of p) (big_bytes (width_of p) x) ≡ x = ap (big_number (width_of p)) (sym (append-nil (big_bytes (width_of p) x))) ∙ big_number-reads_back (width_of p) x [] f.0 in
        (length-bytes_high_first (width_of p) x, judged_is p at (big_bytes (width_of p) x) is ∙ rw (again, f.1) refl, big_number-reads_back (width_of p) x rest f.0)
