-- The lengths of the lines of the schema's shape, by those of their parts.
use Rattle.std.proofs.Common.{◌≡◌, ℕ, ◌+◌, ◌==◌, List, [], ◌∷◌, length, map, Bool, false, refl, sym, ap, ◌∙◌, arith}
use Rattle.std.specs.Prelude.{codes}
use Rattle.std.specs.Fmt.{decimal}
use Rattle.type_layout.specs.declared.home.HomeNo.{HomeNo}
use Rattle.type_layout.specs.declared.key.Key.{Key}
use Rattle.type_layout.specs.declared.schema.Home.{Home}
use Rattle.type_layout.specs.Types.{RefTo}
use Rattle.type_layout.specs.ShapeText.{listed, type_text, base_number, home_line, key_text}
use Rattle.psdl_standings.specs.TextLengths.{cut, text_length}
use Rattle.psdl_check.specs.inner.LineLengths.{line_length, numbers_length, ended_length, length_of_reference, length_of_home, length_of_key}
use Rattle.psdl_standings.proofs.Lettering.{cut_sum, separated, listed_length, three, seven}

-- ---- numbers

numbers_whole : (front : ℕ) (ns : List ℕ) → numbers_length (cut front) ns ≡ cut (front + separated (map decimal ns))
numbers_whole front [] = omega arith
numbers_whole front (n ∷ ns) =
    ap (λ (m : ℕ). numbers_length m ns) (cut_sum front (length (decimal n) + 1)) ∙ numbers_whole (front + (length (decimal n) + 1)) ns ∙ ap cut (omega arith)

-- numbers with commas between them, and one octet more
ended_whole : (front : ℕ) (ns : List ℕ) → ended_length (cut front) ns ≡ cut (front + (length (listed (map decimal ns)) + 1))
ended_whole front [] = cut_sum front 1
ended_whole front (n ∷ ns) = numbers_whole front (n ∷ ns) ∙ ap (λ (m : ℕ). cut (front + m)) (sym (listed_length (decimal n) (map decimal ns)))

same_numbers : (homes : List HomeNo) → map decimal (map (λ h. h.0) homes) ≡ map (λ h. decimal h.0) homes
same_numbers [] = refl
same_numbers (h ∷ hs) = ap (λ (ts : List (List ℕ)). decimal h.0 ∷ ts) (same_numbers hs)

pub reference_length : (homes : List HomeNo) → length_of_reference homes ≡ text_length (RefTo homes)
reference_length homes =
    let text : List ℕ = listed (map (λ h. decimal h.0) homes) in
    let whole : length (type_text (RefTo homes)) ≡ 4 + (length text + 1) = three (codes "ref(") text (codes ")") in
    ended_whole 4 (map (λ h. h.0) homes)
    ∙ ap (λ (ts : List (List ℕ)). cut (4 + (length (listed ts) + 1))) (same_numbers homes)
    ∙ ap cut (sym whole)

-- of homes that are there
pub homes_length : (homes : List HomeNo) (empty : Bool) → empty ≡ (length homes == 0) → empty ≡ false → numbers_length 4 (map (λ h. h.0) homes) ≡ text_length (RefTo homes)
homes_length [] empty is filled = cc
homes_length (h ∷ hs) empty is filled = reference_length (h ∷ hs)

-- ---- lines

pub home_length : (number : ℕ) (home : Home) → length_of_home number (base_number home.base) home.name ≡ line_length (home_line number home)
home_length number home =
    let digits : List ℕ = decimal number in
    let base : List ℕ = decimal (base_number home.base) in
    let parts : length (home_line number home) ≡ 5 + (length digits + (1 + (length base + (1 + (length home.name + 1))))) = seven (codes "home ") digits (codes " ") base (codes " ") home.name (10 ∷ []) in
    let whole : length (home_line number home) ≡ (5 + ((length digits + 1) + (length base + 1))) + (length home.name + 1) = parts ∙ omega arith in
    ap cut_front (both_numbers 5 (length digits) (length base))
    ∙ cut_sum (5 + ((length digits + 1) + (length base + 1))) (length home.name + 1)
    ∙ ap cut (sym whole)
  where
    cut_front : ℕ → ℕ
    cut_front n = cut (n + (length home.name + 1))

    both_numbers : (front a b : ℕ) → cut (cut (front + (a + 1)) + (b + 1)) ≡ cut (front + ((a + 1) + (b + 1)))
    both_numbers front a b = omega arith

pub key_length : (key : Key) → length_of_key key.name key.home.0 key.members ≡ line_length (key_text key)
key_length key =
    let digits : List ℕ = decimal key.home.0 in
    let members : List ℕ = listed (map decimal key.members) in
    let parts : length (key_text key) ≡ 4 + (length key.name + (1 + (length digits + (1 + (length members + 1))))) = seven (codes "key ") key.name (codes " ") digits (codes " ") members (10 ∷ []) in
    let whole : length (key_text key) ≡ ((length key.name + 5) + (length digits + 1)) + (length members + 1) = parts ∙ omega arith in
    ap (λ (n : ℕ). ended_length n key.members) (cut_sum (length key.name + 5) (length digits + 1))
    ∙ ended_whole ((length key.name + 5) + (length digits + 1)) key.members
    ∙ ap cut (sym whole)
