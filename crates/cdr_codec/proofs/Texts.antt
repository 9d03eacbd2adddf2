-- What the reader of a string's octets owes to them.
use Rattle.std.proofs.Common.{◌≡◌, ℕ, zero, suc, ◌+◌, ◌-◌, ◌<◌, ◌≤◌, Bool, true, false, cond, eqb, ltb, List, [], ◌∷◌, ◌++◌, length, get_or, take, drop, Option, Some, None, Result, Ok, Err, refl, sym, ap, ◌∙◌, append_assoc, arith, length-append}
use Rattle.std.specs.Prelude.{replicate, ◌==◌, ◌||◌, IsTrue}
use Rattle.std.specs.List.{position, position_from}
use Rattle.std.proofs.lemmas.Bool.{ltb-false, ltb-true, le-ltb, lt-ltb, eqb-true}
use Rattle.std.proofs.lemmas.List.{take_at, take-take, length-drop, length-take, length-replicate, get_or-drop, get_or-take, get_or-append_right}
use Rattle.std.proofs.Math.Seq.{take-suc}
use Rattle.std.proofs.lemmas.Iterator.Adapters.{position_from-zero}
use Rattle.type_layout.specs.Values.{has_zero, are_bytes}
use Rattle.cdr_codec.specs.declared.fault.RecordFault.{RecordFault}
use Rattle.cdr_codec.specs.declared.fault.RecordFault.TheVariants as fault
use Rattle.cdr_codec.specs.Primitives.{Letters, given, judged, refusal, letters}
use Rattle.cdr_codec.specs.Reading.{plain_at, letters_at}
use Rattle.cdr_codec.proofs.Octets.{first_octet}
use Rattle.cdr_codec.specs.Laws.{AreOctets}
use Rattle.cdr_codec.proofs.Readers.{done, failed, bind_id, IsNear, IsReader, seen_law}
use Rattle.cdr_codec.proofs.Ones.{piece_law}
use Rattle.cdr_codec.proofs.Letters.{position_none, wrong_is, without_zeros, so_many, are_no_zeros, stay_octets, same_before}

-- ---- octets of 0

has_none : (i : ℕ) (xs : List ℕ) → has_zero xs ≡ false → position_from (λ b. b == 0) i xs ≡ None
has_none i [] e = refl
has_none i (x ∷ xs) e = by_test (eqb x 0) e (has_none (i + 1) xs)
  where
    by_test : (t : Bool) → (t || has_zero xs) ≡ false → (has_zero xs ≡ false → position_from (λ b. b == 0) (i + 1) xs ≡ None) → cond t (Some i) (position_from (λ b. b == 0) (i + 1) xs) ≡ None
    by_test true e later = absurd cc
    by_test false e later = later e

none_position : (xs : List ℕ) → has_zero xs ≡ false → position (λ b. b == 0) xs ≡ None
none_position xs e = position_from-zero (λ b. b == 0) xs ∙ has_none 0 xs e

-- ---- octets are bytes

taken_bytes : (n : ℕ) (xs : List ℕ) → AreOctets xs → are_bytes (take n xs) ≡ true
taken_bytes zero xs o = refl
taken_bytes (suc n) [] o = refl
taken_bytes (suc n) (x ∷ xs) o = rw (lt-ltb x 256 (o 0)) (taken_bytes n xs (λ i. o (suc i)))

letters_are_bytes : (n : ℕ) → are_bytes (replicate n 97) ≡ true
letters_are_bytes zero = refl
letters_are_bytes (suc n) = letters_are_bytes n

-- ---- octets of a string

abbrev pub IsText : ℕ → List ℕ → Type 0
IsText n text = (has_zero text ≡ false) × (length text ≡ n) × IsTrue (are_bytes text)

-- what is told of the octets of a string, by the place of a 0 among them and by its last
abbrev told : ℕ → ℕ → List ℕ → Option ℕ → ℕ → Result (List ℕ × ℕ) RecordFault
told n at text o last = given o (cond (eqb last 0) (done (text, at + n + 1)) (Err (fault.BadNul (at + n)))) (λ i. Err (fault.BadNul (at + i)))

last_octet : (n : ℕ) (bytes : List ℕ) (at : ℕ) → at + n + 1 ≤ length bytes → plain_at 1 bytes (at + n) ≡ done (get_or (drop at bytes) n 0, at + n + 1)
unfolding plain_at
last_octet n bytes at long = rw (le-ltb (length bytes) (at + n + 1) long, first_octet bytes (at + n), get_or-drop at bytes n 0) refl

same_size : (at n : ℕ) → at + n - at ≡ n
same_size at n = omega arith

reads_told : (n : ℕ) (bytes : List ℕ) (at : ℕ) → at + n + 1 ≤ length bytes → letters_at n bytes at ≡ told n at (take n (drop at bytes)) (position (λ b. b == 0) (take n (drop at bytes))) (get_or (drop at bytes) n 0)
unfolding letters_at
reads_told n bytes at long = rw (le-ltb (length bytes) (at + n + 1) long, same_size at n, last_octet n bytes at long) refl

judged_told : (n at : ℕ) (octets : List ℕ) → given (judged (Letters n) at (take (n + 1) octets)) (done (take n octets, at + (n + 1))) Err ≡ told n at (take n octets) (position (λ b. b == 0) (take n octets)) (get_or octets n 0)
judged_told n at octets =
    let front : take n (take (n + 1) octets) ≡ take n octets = take-take n (n + 1) octets (omega arith) in
    let last : get_or (take (n + 1) octets) n 0 ≡ get_or octets n 0 = get_or-take (n + 1) octets n 0 (omega arith) in
    rw (front, last) (by_position (position (λ b. b == 0) (take n octets)) (eqb (get_or octets n 0) 0))
  where
    by_position : (o : Option ℕ) (t : Bool) → given {B = Result (List ℕ × ℕ) RecordFault} (given (given o (cond t None (Some n)) Some) None (λ i. Some (fault.BadNul (at + i)))) (done (take n octets, at + (n + 1))) Err
        ≡ given o (cond t (done (take n octets, at + n + 1)) (Err (fault.BadNul (at + n)))) (λ i. Err (fault.BadNul (at + i)))
    by_position None true = (let place : at + (n + 1) ≡ at + n + 1 = omega arith in ap (λ (k : ℕ). done (take n octets, k)) place)
    by_position None false = refl
    by_position (Some i) t = refl

letters_is : (n : ℕ) (bytes : List ℕ) (at : ℕ) → at ≤ length bytes → letters_at n bytes at ≡ given (refusal (Letters n) at (drop at bytes)) (Ok (take n (drop at bytes), at + (n + 1))) Err
unfolding letters_at
letters_is n bytes at le = by_test (ltb (length bytes) (at + n + 1)) refl
  where
    by_test : (t : Bool) → ltb (length bytes) (at + n + 1) ≡ t → letters_at n bytes at ≡ given (refusal (Letters n) at (drop at bytes)) (Ok (take n (drop at bytes), at + (n + 1))) Err
    by_test true test =
        let short : length bytes < at + n + 1 = ltb-true _ _ test in
        let there : ltb (length (drop at bytes)) (n + 1) ≡ true = lt-ltb _ _ (omega (arith, length-drop at bytes)) in
        let end : length bytes ≡ at + length (drop at bytes) = omega (arith, length-drop at bytes) in
        rw (test, there) (ap (λ (k : ℕ). failed {A = List ℕ × ℕ} (fault.Short k)) end)
    by_test false test =
        let long : at + n + 1 ≤ length bytes = ltb-false _ _ test in
        let there : ltb (length (drop at bytes)) (n + 1) ≡ false = le-ltb _ _ (omega (arith, length-drop at bytes)) in
        reads_told n bytes at long ∙ rw there (sym (judged_told n at (drop at bytes)))

no_zeros : (n : ℕ) → has_zero (replicate n 97) ≡ false
no_zeros zero = refl
no_zeros (suc n) = no_zeros n

-- nothing wrong: no 0 in front, and a 0 last
right : (n : ℕ) (o : Option ℕ) (t : Bool) (at : ℕ) → given {B = Option RecordFault} (given o (cond t None (Some n)) Some) None (λ i. Some (fault.BadNul (at + i))) ≡ None → (o ≡ None) × (t ≡ true)
right n None true at e = (refl, refl)
right n None false at e = absurd cc
right n (Some i) t at e = absurd cc

n_letters : (n : ℕ) → IsReader (letters_at n) (λ t at. record { what = Letters n; octets = t ++ 0 ∷ [] } ∷ []) (IsText n)
n_letters n = piece_law (Letters n) (letters_at n) (take n) (λ t. t ++ 0 ∷ []) (IsText n) (replicate n 97) (no_zeros n, length-replicate n 97, letters_are_bytes n) nearest (letters_is n) back forth
  where
    nearest : (rest : List ℕ) → AreOctets rest → (t : List ℕ) × IsText n t × IsNear (Letters n) (t ++ 0 ∷ []) rest
    nearest rest o = (without_zeros n rest, (are_no_zeros n rest, so_many n rest, stay_octets n rest o), (λ i more e. (let w = wrong_is n i rest e in ap (take i) (append_assoc (without_zeros n rest) (0 ∷ []) more) ∙ same_before n i rest (0 ∷ more) w.0 w.1 w.2)))

    back : (at : ℕ) (xs : List ℕ) → AreOctets xs → n + 1 ≤ length xs → judged (Letters n) at (take (n + 1) xs) ≡ None → IsText n (take n xs) × (take n xs ++ 0 ∷ [] ≡ take (n + 1) xs)
    back at xs o long fine =
        let front : take n (take (n + 1) xs) ≡ take n xs = take-take n (n + 1) xs (omega arith) in
        let last : get_or (take (n + 1) xs) n 0 ≡ get_or xs n 0 = get_or-take (n + 1) xs n 0 (omega arith) in
        let r = right n (position (λ b. b == 0) (take n (take (n + 1) xs))) (eqb (get_or (take (n + 1) xs) n 0) 0) at fine in
        let clean = position_none (take n xs) (ap (position (λ b. b == 0)) (sym front) ∙ r.0) in
        let size : length (take n xs) ≡ n = omega (arith, length-take n xs) in
        let nul : get_or xs n 0 ≡ 0 = sym last ∙ eqb-true (get_or (take (n + 1) xs) n 0) 0 r.1 in
        let more : suc n ≡ n + 1 = omega arith in
        ((clean, size, taken_bytes n xs o), ap (λ (k : ℕ). take n xs ++ k ∷ []) (sym nul) ∙ sym (take-suc xs n 0 (omega arith)) ∙ ap (λ (k : ℕ). take k xs) more)

    forth : (at : ℕ) (x rest : List ℕ) → IsText n x → (length (x ++ 0 ∷ []) ≡ n + 1) × (judged (Letters n) at (x ++ 0 ∷ []) ≡ None) × (take n ((x ++ 0 ∷ []) ++ rest) ≡ x)
    forth at x rest f =
        let size : length (x ++ 0 ∷ []) ≡ n + 1 = omega (arith, length-append x (0 ∷ []), f.1) in
        let less : n - n ≡ 0 = omega arith in
        let last : get_or (x ++ 0 ∷ []) n 0 ≡ 0 = get_or-append_right x (0 ∷ []) n n 0 f.1 (omega arith) ∙ ap (λ (k : ℕ). get_or (0 ∷ []) k 0) less in
        (size, rw (take_at x (0 ∷ []) n f.1, none_position x f.0, last) refl, ap (take n) (append_assoc x (0 ∷ []) rest) ∙ take_at x (0 ∷ rest) n f.1)

pub letters_law : (n : ℕ) → IsReader (letters_at n) (λ t at. letters t) (IsText n)
letters_law n = seen_law (letters_at n) (λ t at. record { what = Letters n; octets = t ++ 0 ∷ [] } ∷ []) (IsText n) (letters_at n) (λ t at. letters t) (IsText n) (λ t. t) (n_letters n) (λ bytes at. bind_id (letters_at n bytes at))
    (λ t f. (f, (λ at. ap (λ (k : ℕ). record { what = Letters k; octets = t ++ 0 ∷ [] } ∷ []) f.1))) (λ t f. (t, f, refl))
