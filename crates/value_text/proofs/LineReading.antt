-- Reading the values of a line one after the other.
use Rattle.std.proofs.Common.{◌≡◌, ℕ, ◌+◌, ◌-◌, ◌≤◌, List, [], ◌∷◌, ◌++◌, length, Option, Some, None, Result, Ok, Err, refl, sym, ap, ◌∙◌, arith}
use Rattle.std.specs.List.{prefix_len}
use Rattle.std.proofs.lemmas.List.{length-drop}
use Rattle.std.proofs.lemmas.List.Sums.{prefix_len-le-length}
use Rattle.std.proofs.lemmas.Bool.{eq-eqb, ne_eqb}
use Rattle.pss_base.specs.Blanks.{is_blank, behind_blanks}
use Rattle.type_layout.specs.Types.{PlainType, PlainValue}
use Rattle.value_text.specs.Reading.{given}
use Rattle.value_text.specs.Line.{one_value, first_value, and_then, values_from, pushed}

-- how far behind blanks a text begins
pub blanks_fit : (text : List ℕ) → length (behind_blanks text) + prefix_len is_blank text ≡ length text
blanks_fit text = omega (arith, length-drop (prefix_len is_blank text) text, prefix_len-le-length is_blank text)

-- ---- a value behind blanks

pub value_there : (t : PlainType) (column : ℕ) (text here : List ℕ) (x : PlainValue × List ℕ) → here ≡ behind_blanks text → one_value t here ≡ Some x → first_value t column text ≡ Ok x
value_there t column text here x at e =
    let there : one_value t (behind_blanks text) ≡ Some x = ap (one_value t) (sym at) ∙ e in
    ap (λ (r : Option (PlainValue × List ℕ)). given r (Err (column + prefix_len is_blank text)) (λ x. Ok x)) there

pub no_value_there : (t : PlainType) (end : ℕ) (text rest : List ℕ) (column : ℕ) → length text ≤ end → rest ≡ behind_blanks text → column ≡ end - length rest → one_value t rest ≡ None → first_value t (end - length text) text ≡ Err column
no_value_there t end text rest column le is at e =
    let none : one_value t (behind_blanks text) ≡ None = ap (one_value t) (sym is) ∙ e in
    let here : end - length text + prefix_len is_blank text ≡ column = omega (arith, blanks_fit text, ap length is) in
    ap (λ (r : Option (PlainValue × List ℕ)). given r (Err (end - length text + prefix_len is_blank text)) (λ x. Ok x)) none ∙ ap Err here

-- ---- the end of a line

pub ends_there : (column : ℕ) (text rest : List ℕ) → rest ≡ behind_blanks text → length rest ≡ 0 → values_from [] column text ≡ Ok []
ends_there column text rest is none = rw (eq-eqb (length (behind_blanks text)) 0 (ap length (sym is) ∙ none)) refl

pub goes_on_there : (end : ℕ) (text rest : List ℕ) (column : ℕ) → length text ≤ end → rest ≡ behind_blanks text → (length rest ≡ 0 → ⊥) → column ≡ end - length rest → values_from [] (end - length text) text ≡ Err column
goes_on_there end text rest column le is some at =
    let here : end - length text + prefix_len is_blank text ≡ column = omega (arith, blanks_fit text, ap length is) in
    rw (ne_eqb (length (behind_blanks text)) 0 (λ e. some (ap length is ∙ e))) (ap Err here)

-- ---- one value after the other

-- what was read before, and what is still read
abbrev pub with_read : List PlainValue → Result (List PlainValue) ℕ → Result (List PlainValue) ℕ
with_read front read = and_then read (λ vs. Ok (front ++ vs))
