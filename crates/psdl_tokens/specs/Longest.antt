-- The mark that is taken is the longest that stands there.
use Rattle.std.specs.Prelude.{ℕ, ◌≡◌, ◌≤◌, List, ◌++◌, length}
use Rattle.psdl_tokens.specs.declared.token.Mark.{Mark}
use Rattle.psdl_tokens.specs.declared.token.TokenKind.TheVariants as kinds
use Rattle.psdl_tokens.specs.declared.lexeme.Lexeme.TheVariants.{Found}
use Rattle.psdl_tokens.specs.Spellings.{mark_spelling}
use Rattle.psdl_tokens.specs.Lexis.{lexeme}

-- a text begins with the bytes of this mark
abbrev pub Stands : Mark → List ℕ → Type 0
Stands mark rest = (after : List ℕ) × (rest ≡ mark_spelling mark ++ after)

-- this mark stands there, and each other that does is shorter
pub record IsLongest (mark : Mark) (rest : List ℕ) : Type 0 where
  pub stands : Stands mark rest
  pub longest : (other : Mark) → Stands other rest → length (mark_spelling mark) ≤ length (mark_spelling other) → other ≡ mark

-- a mark that is the token at a place of a text is the longest there, and takes its own bytes
abbrev pub IsMarkLongest : Type 0
IsMarkLongest = (front rest : List ℕ) (mark : Mark) (size : ℕ) → lexeme front rest ≡ Found (kinds.Mark mark) size → IsLongest mark rest × (size ≡ length (mark_spelling mark))
