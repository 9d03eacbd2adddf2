-- What the tokens of a text and their tree say of the text.
use Rattle.std.proofs.Common.{◌≡◌, ℕ, ◌≤◌, List, [], length, map, Option, Some, refl, sym, ap, subst, ◌∙◌}
use Rattle.std.specs.Prelude.{IsSome}
use Rattle.std.proofs.lemmas.List.{append-nil}
use Rattle.psdl_tokens.specs.declared.token.Token.{Token}
use Rattle.psdl_tokens.specs.declared.lexis.LexicalFault.{LexicalFault}
use Rattle.psdl_tokens.specs.Lexis.{lexed}
use Rattle.psdl_syntax.specs.Seen.{Seen, seen}
use Rattle.psdl_tree.specs.Trees.{Definitions}
use Rattle.psdl_syntax.specs.Grammar.{definitions}
use Rattle.psdl_syntax.specs.Depth.{room, IsFirstDeep}
use Rattle.psdl_syntax.specs.Syntax.{most_bytes, most_open, words_of, IsTextOf, IsNoToken}
use Rattle.psdl_syntax.proofs.Fronts.{all_fits}

module _ (text : List ℕ) (tokens : List Token) (are : tokens ≡ (lexed text).tokens) where
  words : map seen tokens ≡ words_of text
  words = ap (map seen) are

  -- a lexical fault behind a tree
  pub behind_tree : (fault : Option LexicalFault) (found : LexicalFault) (tree : Definitions) → length text ≤ most_bytes → fault ≡ (lexed text).fault → fault ≡ Some found → map seen tokens ≡ definitions tree → room most_open (map seen tokens) ≡ Some most_open → IsNoToken text found.place found.kind
  behind_tree fault found tree within is some spelled level = record {
    within = within;
    fault = sym is ∙ some;
    begun = ([], tree, append-nil (words_of text) ∙ sym words ∙ spelled);
    fits = subst IsSome (sym level ∙ ap (room most_open) words) refl;
  }

  -- no bracket of a tree's text opens too deep
  pub not_deep : (left : ℕ) (tree : Definitions) → IsFirstDeep most_open definitions (map seen tokens) left → IsTextOf tree text → ⊥
  not_deep left tree first is =
      all_fits definitions most_open (words_of text) left is.fits (subst (λ (k : List Seen). IsFirstDeep most_open definitions k left) words first)
