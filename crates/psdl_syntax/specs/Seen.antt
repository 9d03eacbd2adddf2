-- Tokens as the grammar sees them: with their places where a tree keeps these, and without them elsewhere.
use Rattle.std.specs.Prelude.{Bool, true, false, if◌then◌else◌}
use Rattle.pss_base.specs.declared.place.Place.{Place}
use Rattle.psdl_tokens.specs.declared.token.Keyword.{Keyword}
use Rattle.psdl_tokens.specs.declared.token.Mark.{Mark}
use Rattle.psdl_tokens.specs.declared.token.Mark.TheVariants as marks
use Rattle.psdl_tokens.specs.declared.token.Token.{Token}
use Rattle.psdl_tokens.specs.declared.token.TokenKind.{TokenKind}
use Rattle.psdl_tokens.specs.declared.token.TokenKind.TheVariants as kinds
use Rattle.psdl_tree.specs.declared.names.Identifier.{Identifier}
use Rattle.psdl_tree.specs.declared.expressions.IntegerLiteral.{IntegerLiteral}
use Rattle.psdl_tree.specs.declared.expressions.TextLiteral.{TextLiteral}

pub data Seen : Type 0 where
  Word : (keyword : Keyword) → Seen
  Sign : (mark : Mark) → Seen
  Placed : (mark : Mark) → (place : Place) → Seen
  Named : (identifier : Identifier) → Seen
  Number : (literal : IntegerLiteral) → Seen
  Quoted : (literal : TextLiteral) → Seen
  Stray : Seen

-- a tree keeps the places of these signs: ::, ( and the operators of expressions
abbrev pub keeps_place : Mark → Bool
keeps_place marks.LeftBrace = false
keeps_place marks.RightBrace = false
keeps_place marks.LeftParen = true
keeps_place marks.RightParen = false
keeps_place marks.LeftBracket = false
keeps_place marks.RightBracket = false
keeps_place marks.Less = false
keeps_place marks.Greater = false
keeps_place marks.ShiftLeft = true
keeps_place marks.ShiftRight = true
keeps_place marks.Colon = false
keeps_place marks.Scope = true
keeps_place marks.Semicolon = false
keeps_place marks.Comma = false
keeps_place marks.Equals = false
keeps_place marks.Or = true
keeps_place marks.Xor = true
keeps_place marks.And = true
keeps_place marks.Plus = true
keeps_place marks.Minus = true
keeps_place marks.Times = true
keeps_place marks.Divide = true
keeps_place marks.Remainder = true
keeps_place marks.Not = true

abbrev pub seen_kind : Place → TokenKind → Seen
seen_kind place (kinds.Keyword keyword) = Word keyword
seen_kind place (kinds.Mark mark) = if keeps_place mark then Placed mark place else Sign mark
seen_kind place (kinds.Identifier name) = Named (record { place = place; name = name })
seen_kind place kinds.Miscased = Stray
seen_kind place (kinds.Integer value) = Number (record { place = place; value = value })
seen_kind place (kinds.Text bytes) = Quoted (record { place = place; bytes = bytes })

-- a token as the grammar sees it
abbrev pub seen : Token → Seen
seen token = seen_kind token.place token.kind
