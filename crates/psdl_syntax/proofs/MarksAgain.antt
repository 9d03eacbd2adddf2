-- Marks that are written are read again.
use Rattle.std.proofs.Common.{◌≡◌, ℕ, List, [], ◌∷◌, ◌++◌, true, ◌||◌, ◌==◌, length, refl}
use Rattle.std.proofs.lemmas.Bool.{not-true, or_parts}
use Rattle.psdl_tokens.specs.declared.token.Mark.{Mark}
use Rattle.psdl_tokens.specs.declared.token.Mark.TheVariants as marks
use Rattle.psdl_tokens.specs.declared.token.TokenKind.TheVariants as kinds
use Rattle.psdl_tokens.specs.declared.lexeme.Lexeme.TheVariants.{Found}
use Rattle.psdl_tokens.specs.Alphabet.{first}
use Rattle.psdl_tokens.specs.Spellings.{mark_spelling}
use Rattle.psdl_tokens.specs.Lexis.{lexeme, comment_or_mark, mark_lexeme}
use Rattle.psdl_syntax.proofs.Following.{mark_ends}

-- a mark in front of bytes with which it does not go on
pub mark_again : (m : Mark) (front rest : List ℕ) → mark_ends m (first rest) ≡ true → lexeme front (mark_spelling m ++ rest) ≡ Found (kinds.Mark m) (length (mark_spelling m))
unfolding lexeme comment_or_mark mark_lexeme
mark_again marks.Less front [] h = refl
mark_again marks.Less front (b ∷ bs) h = rw (not-true (60 == b) h) refl
mark_again marks.Greater front [] h = refl
mark_again marks.Greater front (b ∷ bs) h = rw (not-true (62 == b) h) refl
mark_again marks.Colon front [] h = refl
mark_again marks.Colon front (b ∷ bs) h = rw (not-true (58 == b) h) refl
mark_again marks.Divide front [] h = refl
mark_again marks.Divide front (b ∷ bs) h =
    let no = or_parts (b == 47) (b == 42) (not-true (b == 47 || b == 42) h) in
    rw (no.0, no.1) refl
mark_again _ front rest h = refl
