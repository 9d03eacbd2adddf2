-- A text has at most one fault, and a text with a fault has no tree.
use Rattle.std.proofs.Common.{◌≡◌, ℕ, zero, suc, ◌+◌, ◌-◌, ◌≤◌, ◌<◌, List, length, Option, Some, None, refl, sym, ap, ◌∙◌, arith}
use Rattle.pss_base.specs.declared.place.Place.{Place}
use Rattle.psdl_tokens.specs.declared.lexeme.LexicalKind.{LexicalKind}
use Rattle.psdl_tokens.specs.declared.lexeme.LexicalKind.TheVariants as lexical
use Rattle.psdl_tokens.specs.declared.lexis.LexicalFault.{LexicalFault}
use Rattle.psdl_syntax.specs.declared.syntax_fault.SyntaxKind.{SyntaxKind}
use Rattle.psdl_syntax.specs.declared.syntax_fault.SyntaxKind.TheVariants as kinds
use Rattle.psdl_tokens.specs.Lexis.{lexed}
use Rattle.psdl_syntax.specs.Grammar.{definitions}
use Rattle.psdl_tree.specs.Trees.{Definitions}
use Rattle.psdl_syntax.specs.Syntax.{most_bytes, most_open, words_of, place_at, IsTextOf, IsTooLong, IsUnexpected, OpensTooDeep, IsNoToken, IsFault, HasOneFault, HasNoTree}
use Rattle.psdl_syntax.proofs.Fronts.{begins_front, one_first, one_deep, first_or_deep, all_fits}

-- a lexical kind as a kind of a text's fault
kind_of : LexicalKind → SyntaxKind
kind_of lexical.BadByte = kinds.BadByte
kind_of lexical.OpenComment = kinds.OpenComment
kind_of lexical.BadLiteral = kinds.BadLiteral
kind_of lexical.LiteralTooWide = kinds.LiteralTooWide
kind_of lexical.LeftOut = kinds.LeftOut

abbrev place_in : Option LexicalFault → Place → Place
place_in None other = other
place_in (Some x) other = x.place

abbrev kind_in : Option LexicalFault → LexicalKind → LexicalKind
kind_in None other = other
kind_in (Some x) other = x.kind

-- the causes of a fault
data Cause (text : List ℕ) (place : Place) (kind : SyntaxKind) : Type 0 where
  Long : IsTooLong text place → kind ≡ kinds.TooLong → Cause text place kind
  Stop : IsUnexpected text place → kind ≡ kinds.Unexpected → Cause text place kind
  Deep : OpensTooDeep text place → kind ≡ kinds.TooDeep → Cause text place kind
  Lexical : (l : LexicalKind) → IsNoToken text place l → kind ≡ kind_of l → Cause text place kind

cause : (text : List ℕ) (place : Place) (kind : SyntaxKind) → IsFault text place kind → Cause text place kind
unfolding kind_of
cause text place kinds.BadByte f = Lexical lexical.BadByte f refl
cause text place kinds.OpenComment f = Lexical lexical.OpenComment f refl
cause text place kinds.BadLiteral f = Lexical lexical.BadLiteral f refl
cause text place kinds.LiteralTooWide f = Lexical lexical.LiteralTooWide f refl
cause text place kinds.Unexpected f = Stop f refl
cause text place kinds.LeftOut f = Lexical lexical.LeftOut f refl
cause text place kinds.TooDeep f = Deep f refl
cause text place kinds.TooLong f = Long f refl
cause text place kinds.NoMemory f = absurd f

beyond : (size most : ℕ) → most < size → size ≤ most → ⊥
beyond size most over within = omega arith

module _ (text : List ℕ) where
  too_long : (p : Place) → IsTooLong text p → length text ≤ most_bytes → ⊥
  too_long p f within = beyond (length text) most_bytes f.over within

  same_stop : (p q : Place) → IsUnexpected text p → IsUnexpected text q → p ≡ q
  same_stop p q f g =
      let left : f.left ≡ g.left = one_first definitions most_open (words_of text) f.left g.left f.stop.first g.stop.first in
      f.stop.here ∙ ap (place_at text (lexed text).tokens) left ∙ sym g.stop.here

  same_deep : (p q : Place) → OpensTooDeep text p → OpensTooDeep text q → p ≡ q
  same_deep p q f g =
      let left : f.left ≡ g.left = one_deep definitions most_open (words_of text) f.left g.left f.first g.first in
      f.here ∙ ap (place_at text (lexed text).tokens) left ∙ sym g.here

  stop_or_deep : (p q : Place) → IsUnexpected text p → OpensTooDeep text q → ⊥
  stop_or_deep p q f g = first_or_deep definitions most_open (words_of text) f.left g.left f.stop.first f.stop.fits g.first

  deep_or_lexical : (p q : Place) (l : LexicalKind) → OpensTooDeep text p → IsNoToken text q l → ⊥
  deep_or_lexical p q l f g = all_fits definitions most_open (words_of text) f.left g.fits f.first

  stop_or_lexical : (p q : Place) (l : LexicalKind) → IsUnexpected text p → IsNoToken text q l → ⊥
  stop_or_lexical p q l f g = by_left f.left refl
    where
      by_left : (left : ℕ) → f.left ≡ left → ⊥
      by_left zero is = (let none = f.clean is in let some = g.fault in cc)
      by_left (suc left) is = f.stop.first.element (omega arith) (begins_front definitions (length (words_of text) - f.left + 1) (words_of text) g.begun)

  same_lexical : (p q : Place) (l m : LexicalKind) → IsNoToken text p l → IsNoToken text q m → (p ≡ q) × (l ≡ m)
  same_lexical p q l m f g =
      let whole : Some (record { place = p; kind = l }) ≡ Some (record { place = q; kind = m }) = sym f.fault ∙ g.fault in
      (ap (λ (o : Option LexicalFault). place_in o p) whole, ap (λ (o : Option LexicalFault). kind_in o l) whole)

  one_cause : (p q : Place) (k l : SyntaxKind) → Cause text p k → Cause text q l → (p ≡ q) × (k ≡ l)
  one_cause p q k l (Long f e) (Long g d) = (f.here ∙ sym g.here, e ∙ sym d)
  one_cause p q k l (Long f e) (Stop g d) = absurd (too_long p f g.stop.within)
  one_cause p q k l (Long f e) (Deep g d) = absurd (too_long p f g.within)
  one_cause p q k l (Long f e) (Lexical m g d) = absurd (too_long p f g.within)
  one_cause p q k l (Stop f e) (Long g d) = absurd (too_long q g f.stop.within)
  one_cause p q k l (Stop f e) (Stop g d) = (same_stop p q f g, e ∙ sym d)
  one_cause p q k l (Stop f e) (Deep g d) = absurd (stop_or_deep p q f g)
  one_cause p q k l (Stop f e) (Lexical m g d) = absurd (stop_or_lexical p q m f g)
  one_cause p q k l (Deep f e) (Long g d) = absurd (too_long q g f.within)
  one_cause p q k l (Deep f e) (Stop g d) = absurd (stop_or_deep q p g f)
  one_cause p q k l (Deep f e) (Deep g d) = (same_deep p q f g, e ∙ sym d)
  one_cause p q k l (Deep f e) (Lexical m g d) = absurd (deep_or_lexical p q m f g)
  one_cause p q k l (Lexical n f e) (Long g d) = absurd (too_long q g f.within)
  one_cause p q k l (Lexical n f e) (Stop g d) = absurd (stop_or_lexical q p n g f)
  one_cause p q k l (Lexical n f e) (Deep g d) = absurd (deep_or_lexical q p n g f)
  one_cause p q k l (Lexical n f e) (Lexical m g d) =
      (let same = same_lexical p q n m f g in (same.0, e ∙ ap kind_of same.1 ∙ sym d))

  treeless : (p : Place) (k : SyntaxKind) (tree : Definitions) → Cause text p k → IsTextOf tree text → ⊥
  treeless p k tree (Long f e) t = too_long p f t.within
  treeless p k tree (Stop f e) t = f.stop.first.no_sentence tree t.spelled
  treeless p k tree (Deep f e) t = all_fits definitions most_open (words_of text) f.left t.fits f.first
  treeless p k tree (Lexical l f e) t = (let some = f.fault in let none = t.clean in cc)

pub has_one_fault : HasOneFault
has_one_fault text p q k l f g = one_cause text p q k l (cause text p k f) (cause text q l g)

pub has_no_tree : HasNoTree
has_no_tree text p k tree f t = treeless text p k tree (cause text p k f) t
