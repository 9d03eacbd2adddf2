-- Lines of keys behind what stands in front.
use Rattle.std.proofs.Common.{◌≡◌, ℕ, ◌+◌, List, [], length, Option, Some, None, sym, ap, ◌∙◌, arith}
use Rattle.std.specs.List.{slice_get}
use Rattle.type_layout.specs.declared.key.Key.{Key}
use Rattle.type_layout.specs.Schemas.{given}
use Rattle.type_layout.specs.ShapeText.{key_text}
use Rattle.psdl_standings.specs.TextLengths.{cut}
use Rattle.psdl_check.specs.inner.LineLengths.{length_of_key}
use Rattle.psdl_check.proofs.Lining.{key_length}

cut_behind : (a b : ℕ) → cut (a + cut b) ≡ cut (a + b)
cut_behind a b = omega arith

-- with the line of a key
pub key_added : (front line : ℕ) (keys : List Key) (n : ℕ) (key : Key) → slice_get keys n ≡ Some key → line ≡ length_of_key key.name key.home.0 key.members
    → cut (front + line) ≡ cut (front + length (given (slice_get keys n) [] key_text))
key_added front line keys n key there is =
    ap (λ (l : ℕ). cut (front + l)) (is ∙ key_length key) ∙ cut_behind front (length (key_text key)) ∙ ap (λ (o : Option Key). cut (front + length (given o [] key_text))) (sym there)

-- without a key
pub no_key : (front : ℕ) (keys : List Key) (n : ℕ) → slice_get keys n ≡ None → cut (front + 0) ≡ cut (front + length (given (slice_get keys n) [] key_text))
no_key front keys n missing = ap (λ (o : Option Key). cut (front + length (given o [] key_text))) (sym missing)
