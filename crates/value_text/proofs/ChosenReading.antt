-- Reading the values of chosen members one after the other.
use Rattle.std.proofs.Common.{◌≡◌, ℕ, ◌+◌, ◌-◌, ◌≤◌, ◌<◌, List, [], ◌∷◌, ◌++◌, length, drop, get_or, Some, None, Result, Ok, Err, refl, sym, ap, ◌∙◌, append_assoc, arith}
use Rattle.std.specs.List.{slice_get}
use Rattle.std.specs.Option.{option_to_list}
use Rattle.std.proofs.lemmas.List.{drop_more}
use Rattle.type_layout.specs.Types.{PlainType, PlainValue, PlainMember}
use Rattle.type_layout.specs.Keys.{chosen}
use Rattle.value_text.specs.declared.line.LineFault.{LineFault}
use Rattle.value_text.specs.declared.line.LineFault.TheVariants.{BadValue, NoMemory}
use Rattle.value_text.specs.Line.{first_value, and_then, values_from, pushed, Refuses}
use Rattle.value_text.proofs.LineReading.{with_read}

-- ---- the members that are still to be read

pub chosen_more : (ms : List PlainMember) (ns : List ℕ) (i : ℕ) (m : PlainMember) → i < length ns → slice_get ms (get_or ns i 0) ≡ Some m → chosen ms (drop i ns) ≡ m ∷ chosen ms (drop (i + 1) ns)
chosen_more ms ns i m lt at = ap (λ l. chosen ms l) (drop_more ns i 0 lt) ∙ ap (λ o. option_to_list o ++ chosen ms (drop (i + 1) ns)) at

pub chosen_skips : (ms : List PlainMember) (ns : List ℕ) (i : ℕ) → i < length ns → slice_get ms (get_or ns i 0) ≡ None → chosen ms (drop i ns) ≡ chosen ms (drop (i + 1) ns)
chosen_skips ms ns i lt at = ap (λ l. chosen ms l) (drop_more ns i 0 lt) ∙ ap (λ o. option_to_list o ++ chosen ms (drop (i + 1) ns)) at

-- ---- one value, and then the others

-- what is read behind what was read before
abbrev behind : List PlainType → ℕ → List PlainValue × List ℕ → Result (List PlainValue) ℕ
behind ts end x = with_read x.0 (values_from ts (end - length x.1) x.1)

regrouped : (front : List PlainValue) (v : PlainValue) (read : Result (List PlainValue) ℕ) → with_read front (and_then read (λ vs. Ok (v ∷ vs))) ≡ with_read (front ++ v ∷ []) read
regrouped front v (Ok vs) = ap (λ (l : List PlainValue). Ok l) (simp append_assoc)
regrouped front v (Err column) = refl

then_others : (front : List PlainValue) (ts : List PlainType) (end : ℕ) (read : Result (PlainValue × List ℕ) ℕ) → with_read front (and_then read (λ x. and_then (values_from ts (end - length x.1) x.1) (λ vs. Ok (x.0 ∷ vs)))) ≡ and_then (pushed front read) (behind ts end)
then_others front ts end (Ok x) = regrouped front x.0 (values_from ts (end - length x.1) x.1)
then_others front ts end (Err column) = refl

-- the text ends at a column
one_first : (front : List PlainValue) (t : PlainType) (ts : List PlainType) (end : ℕ) (text : List ℕ) → length text ≤ end → with_read front (values_from (t ∷ ts) (end - length text) text) ≡ and_then (pushed front (first_value t (end - length text) text)) (behind ts end)
one_first front t ts end text le =
    let at : end - length text + length text ≡ end = omega arith in
    ap (λ n. with_read front (and_then (first_value t (end - length text) text) (λ x. and_then (values_from ts (n - length x.1) x.1) (λ vs. Ok (x.0 ∷ vs))))) at
    ∙ then_others front ts end (first_value t (end - length text) text)

pub line_goes_on : (front new : List PlainValue) (t : PlainType) (ts : List PlainType) (end : ℕ) (text rest : List ℕ) (total : Result (List PlainValue) ℕ) → length text ≤ end → pushed front (first_value t (end - length text) text) ≡ Ok (new, rest)
    → with_read front (values_from (t ∷ ts) (end - length text) text) ≡ total → with_read new (values_from ts (end - length rest) rest) ≡ total
line_goes_on front new t ts end text rest total le is so_far = sym (ap (λ r. and_then r (behind ts end)) is) ∙ sym (one_first front t ts end text le) ∙ so_far

refused : (fault : LineFault) (read : Result (List PlainValue × List ℕ) ℕ) (ts : List PlainType) (end : ℕ) (total : Result (List PlainValue) ℕ) → Refuses fault read → and_then read (behind ts end) ≡ total → Refuses fault total
refused (BadValue column) read ts end total is so_far = sym so_far ∙ ap (λ r. and_then r (behind ts end)) is
refused NoMemory read ts end total is so_far = tt

pub line_stops : (fault : LineFault) (front : List PlainValue) (t : PlainType) (ts : List PlainType) (end : ℕ) (text : List ℕ) (total : Result (List PlainValue) ℕ) → length text ≤ end → Refuses fault (pushed front (first_value t (end - length text) text))
    → with_read front (values_from (t ∷ ts) (end - length text) text) ≡ total → Refuses fault total
line_stops fault front t ts end text total le is so_far = refused fault (pushed front (first_value t (end - length text) text)) ts end total is (sym (one_first front t ts end text le) ∙ so_far)
