-- What reading the canonical text of a tree again gives.
use Rattle.std.specs.Prelude.{◌≡◌, ℕ, ◌^◌, ◌<◌, ◌≤◌, List, map, length, All, None}
use Rattle.pss_base.specs.declared.place.Place.{Place}
use Rattle.psdl_tokens.specs.declared.token.Token.{Token}
use Rattle.psdl_tokens.specs.declared.token.TokenKind.{TokenKind}
use Rattle.psdl_tokens.specs.Lexis.{lexed}
use Rattle.psdl_syntax.specs.Seen.{seen}
use Rattle.psdl_tree.specs.Trees.{Definitions}
use Rattle.psdl_syntax.specs.Grammar.{definitions}
use Rattle.psdl_syntax.specs.Depth.{room}
use Rattle.psdl_syntax.specs.Moved.{moved}
use Rattle.psdl_syntax.specs.Canonical.{canonical}
use Rattle.psdl_syntax.specs.Syntax.{most_bytes, IsTextOf}

-- tokens without their places
abbrev pub kinds : List Token → List TokenKind
kinds tokens = map (λ token. token.kind) tokens

-- A text that was printed of a tree, read from another text, has no lexical fault, and the tokens of the other but for
-- their places. They spell the tree with other places, and as many brackets are open behind them.
pub record ReadsAgain (printed text : List ℕ) (tree : Definitions) : Type 0 where
  pub no_fault : (lexed printed).fault ≡ None
  pub same_tokens : kinds (lexed printed).tokens ≡ kinds (lexed text).tokens
  pub same_tree : (move : Place → Place) × (map seen (lexed printed).tokens ≡ definitions (moved move tree))
  pub same_depth : (most : ℕ) → room most (map seen (lexed printed).tokens) ≡ room most (map seen (lexed text).tokens)

-- This holds for each text, of bytes, whose tokens spell the tree.
abbrev pub KeepsTree : List ℕ → Definitions → Type 0
KeepsTree printed tree = (text : List ℕ) → All (λ byte. byte < 2 ^ 8) text → map seen (lexed text).tokens ≡ definitions tree → ReadsAgain printed text tree

-- The canonical text of a tree is a text of the tree with other places, and is what that tree is printed as.
pub record IsTextAgain (tree : Definitions) : Type 0 where
  pub move : Place → Place
  pub is_text : IsTextOf (moved move tree) (canonical tree)
  pub same_text : canonical (moved move tree) ≡ canonical tree

-- this holds for the tree of each text, of bytes, unless its canonical text is too long
abbrev pub KeepsTexts : Type 0
KeepsTexts = (text : List ℕ) (tree : Definitions) → All (λ byte. byte < 2 ^ 8) text → IsTextOf tree text → length (canonical tree) ≤ most_bytes → IsTextAgain tree
