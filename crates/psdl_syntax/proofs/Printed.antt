-- Tokens that were printed one behind the other.
use Rattle.std.proofs.Common.{◌≡◌, ℕ, zero, suc, ◌+◌, ◌<◌, ◌≤◌, List, [], ◌∷◌, ◌++◌, length, map, drop, get_or, refl, sym, ◌∙◌, ap, arith, add-one, append_assoc}
use Rattle.part_readers.specs.Sentences.{joined}
use Rattle.psdl_syntax.specs.declared.printing.printer.Printer.{Printer}
use Rattle.psdl_tokens.specs.declared.token.Mark.{Mark}
use Rattle.psdl_syntax.specs.Seen.{Seen}
use Rattle.psdl_syntax.specs.Canonical.{indent}
use Rattle.psdl_syntax.specs.Printing.{put, put_mark, printed}

pub indent_suc : (n : ℕ) → indent n ++ (32 ∷ 32 ∷ []) ≡ indent (suc n)
indent_suc zero = refl
indent_suc (suc n) = ap (λ l. 32 ∷ 32 ∷ l) (indent_suc n)

pub one_deeper : (front : List ℕ) (n : ℕ) → (front ++ indent n) ++ (32 ∷ 32 ∷ []) ≡ front ++ indent (n + 1)
one_deeper front n = rw (append_assoc, add-one) (ap (λ l. front ++ l) (indent_suc n))

pub printed_append : (p : Printer) (xs ys : List Seen) → printed p (xs ++ ys) ≡ printed (printed p xs) ys
printed_append p [] ys = refl
printed_append p (x ∷ xs) ys = printed_append (put p x) xs ys

-- the first of the parts that are left
pub one_printed : {A N : Type 0} (spell : A → List Seen) (view : N → A) (p : Printer) (xs : List N) (i : ℕ) (x : N) → i < length xs → x ≡ get_or xs i x → printed p (joined spell (map view (drop i xs))) ≡ printed (printed p (spell (view x))) (joined spell (map view (drop (suc i) xs)))
one_printed spell view p [] i x lt is = absurd (omega (arith, lt))
one_printed spell view p (y ∷ ys) zero x lt is = rw is (printed_append p (spell (view y)) (joined spell (map view ys)))
one_printed spell view p (y ∷ ys) (suc i) x lt is = one_printed spell view p ys i x (omega (arith, lt)) is

-- a loop over parts, behind one part more
pub goes_on : {A N : Type 0} (spell : A → List Seen) (view : N → A) (p next all : Printer) (xs : List N) (i : ℕ) (x : N) → i < length xs → x ≡ get_or xs i x → next ≡ printed p (spell (view x)) → printed p (joined spell (map view (drop i xs))) ≡ all → printed next (joined spell (map view (drop (i + 1) xs))) ≡ all
goes_on spell view p next all xs i x lt is put_x so_far =
    rw (add-one, put_x) (sym (one_printed spell view p xs i x lt is) ∙ so_far)

-- a loop over parts begins behind their front
pub begins : {A N : Type 0} (spell : A → List Seen) (view : N → A) (front whole : List Seen) (p q : Printer) (items xs : List N) → q ≡ printed p front → items ≡ xs → whole ≡ front ++ joined spell (map view xs) → printed q (joined spell (map view items)) ≡ printed p whole
begins spell view front whole p q items xs is_q is_items is_whole =
    rw (is_q, is_items, is_whole) (sym (printed_append p front (joined spell (map view xs))))

none_left : {N : Type 0} (xs : List N) (i : ℕ) → length xs ≤ i → drop i xs ≡ []
none_left [] zero le = refl
none_left [] (suc i) le = refl
none_left (x ∷ xs) zero le = absurd (omega (arith, le))
none_left (x ∷ xs) (suc i) le = none_left xs i (omega (arith, le))

-- a loop over parts ends where none is left
pub ends : {A N : Type 0} (spell : A → List Seen) (view : N → A) (p all : Printer) (xs : List N) (i : ℕ) → length xs ≤ i → printed p (joined spell (map view (drop i xs))) ≡ all → p ≡ all
ends spell view p all xs i le so_far = rw (none_left xs i le) at so_far

-- a mark, and what follows it
pub behind_mark : (p m q : Printer) (mark other : Mark) (rest : List Seen) → mark ≡ other → m ≡ put_mark p mark → q ≡ printed m rest → q ≡ printed (put_mark p other) rest
behind_mark p m q mark other rest is_mark is_m is_q = rw (is_q, is_m, is_mark) refl
