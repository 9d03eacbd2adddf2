-- Keywords and signs by number, by which they are told apart.
use Rattle.std.specs.Prelude.{ℕ, Bool, ◌==◌}
use Rattle.psdl_tokens.specs.declared.token.Keyword.{Keyword}
use Rattle.psdl_tokens.specs.declared.token.Keyword.TheVariants as keywords
use Rattle.psdl_tokens.specs.declared.token.Mark.{Mark}
use Rattle.psdl_tokens.specs.declared.token.Mark.TheVariants as marks

abbrev pub keyword_code : Keyword → ℕ
keyword_code keywords.Abstract = 0
keyword_code keywords.Boolean = 1
keyword_code keywords.Catalog = 2
keyword_code keywords.Char = 3
keyword_code keywords.Const = 4
keyword_code keywords.Enum = 5
keyword_code keywords.Factory = 6
keyword_code keywords.Implements = 7
keyword_code keywords.In = 8
keyword_code keywords.InOut = 9
keyword_code keywords.Key = 10
keyword_code keywords.Long = 11
keyword_code keywords.Module = 12
keyword_code keywords.Octet = 13
keyword_code keywords.Of = 14
keyword_code keywords.Out = 15
keyword_code keywords.Primary = 16
keyword_code keywords.Provides = 17
keyword_code keywords.ReadOnly = 18
keyword_code keywords.Ref = 19
keyword_code keywords.Sequence = 20
keyword_code keywords.Short = 21
keyword_code keywords.State = 22
keyword_code keywords.StorageHome = 23
keyword_code keywords.StorageType = 24
keyword_code keywords.String = 25
keyword_code keywords.Struct = 26
keyword_code keywords.Typedef = 27
keyword_code keywords.Unsigned = 28
keyword_code keywords.Void = 29

abbrev pub mark_code : Mark → ℕ
mark_code marks.LeftBrace = 0
mark_code marks.RightBrace = 1
mark_code marks.LeftParen = 2
mark_code marks.RightParen = 3
mark_code marks.LeftBracket = 4
mark_code marks.RightBracket = 5
mark_code marks.Less = 6
mark_code marks.Greater = 7
mark_code marks.ShiftLeft = 8
mark_code marks.ShiftRight = 9
mark_code marks.Colon = 10
mark_code marks.Scope = 11
mark_code marks.Semicolon = 12
mark_code marks.Comma = 13
mark_code marks.Equals = 14
mark_code marks.Or = 15
mark_code marks.Xor = 16
mark_code marks.And = 17
mark_code marks.Plus = 18
mark_code marks.Minus = 19
mark_code marks.Times = 20
mark_code marks.Divide = 21
mark_code marks.Remainder = 22
mark_code marks.Not = 23

abbrev pub same_keyword : Keyword → Keyword → Bool
same_keyword k l = keyword_code k == keyword_code l

abbrev pub same_mark : Mark → Mark → Bool
same_mark m n = mark_code m == mark_code n
