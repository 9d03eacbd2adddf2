-- Keywords and signs are told apart by their numbers.
use Rattle.std.proofs.Common.{◌≡◌, ℕ, true, cond, eqb, refl, sym, ap, ◌∙◌}
use Rattle.std.proofs.lemmas.Bool.{eqb-true, eq-eqb}
use Rattle.psdl_tokens.specs.declared.token.Keyword.{Keyword}
use Rattle.psdl_tokens.specs.declared.token.Keyword.TheVariants as keywords
use Rattle.psdl_tokens.specs.declared.token.Mark.{Mark}
use Rattle.psdl_tokens.specs.declared.token.Mark.TheVariants as marks
use Rattle.psdl_syntax.specs.Codes.{keyword_code, mark_code, same_keyword, same_mark}

abbrev keyword_of : ℕ → Keyword
keyword_of n = cond (eqb n 0) keywords.Abstract (cond (eqb n 1) keywords.Boolean (cond (eqb n 2) keywords.Catalog (cond (eqb n 3) keywords.Char (cond (eqb n 4) keywords.Const (cond (eqb n 5) keywords.Enum (cond (eqb n 6) keywords.Factory (cond (eqb n 7) keywords.Implements (cond (eqb n 8) keywords.In (cond (eqb n 9) keywords.InOut (cond (eqb n 10) keywords.Key (cond (eqb n 11) keywords.Long (cond (eqb n 12) keywords.Module (cond (eqb n 13) keywords.Octet (cond (eqb n 14) keywords.Of (cond (eqb n 15) keywords.Out (cond (eqb n 16) keywords.Primary (cond (eqb n 17) keywords.Provides (cond (eqb n 18) keywords.ReadOnly (cond (eqb n 19) keywords.Ref (cond (eqb n 20) keywords.Sequence (cond (eqb n 21) keywords.Short (cond (eqb n 22) keywords.State (cond (eqb n 23) keywords.StorageHome (cond (eqb n 24) keywords.StorageType (cond (eqb n 25) keywords.String (cond (eqb n 26) keywords.Struct (cond (eqb n 27) keywords.Typedef (cond (eqb n 28) keywords.Unsigned (keywords.Void)))))))))))))))))))))))))))))

keyword_is : (k : Keyword) → keyword_of (keyword_code k) ≡ k
keyword_is keywords.Abstract = refl
keyword_is keywords.Boolean = refl
keyword_is keywords.Catalog = refl
keyword_is keywords.Char = refl
keyword_is keywords.Const = refl
keyword_is keywords.Enum = refl
keyword_is keywords.Factory = refl
keyword_is keywords.Implements = refl
keyword_is keywords.In = refl
keyword_is keywords.InOut = refl
keyword_is keywords.Key = refl
keyword_is keywords.Long = refl
keyword_is keywords.Module = refl
keyword_is keywords.Octet = refl
keyword_is keywords.Of = refl
keyword_is keywords.Out = refl
keyword_is keywords.Primary = refl
keyword_is keywords.Provides = refl
keyword_is keywords.ReadOnly = refl
keyword_is keywords.Ref = refl
keyword_is keywords.Sequence = refl
keyword_is keywords.Short = refl
keyword_is keywords.State = refl
keyword_is keywords.StorageHome = refl
keyword_is keywords.StorageType = refl
keyword_is keywords.String = refl
keyword_is keywords.Struct = refl
keyword_is keywords.Typedef = refl
keyword_is keywords.Unsigned = refl
keyword_is keywords.Void = refl

pub keyword_exact : (k l : Keyword) → same_keyword k l ≡ true → k ≡ l
keyword_exact k l e = sym (keyword_is k) ∙ ap keyword_of (eqb-true (keyword_code k) (keyword_code l) e) ∙ keyword_is l

pub keyword_self : (k : Keyword) → same_keyword k k ≡ true
keyword_self k = eq-eqb (keyword_code k) (keyword_code k) refl

abbrev mark_of : ℕ → Mark
mark_of n = cond (eqb n 0) marks.LeftBrace (cond (eqb n 1) marks.RightBrace (cond (eqb n 2) marks.LeftParen (cond (eqb n 3) marks.RightParen (cond (eqb n 4) marks.LeftBracket (cond (eqb n 5) marks.RightBracket (cond (eqb n 6) marks.Less (cond (eqb n 7) marks.Greater (cond (eqb n 8) marks.ShiftLeft (cond (eqb n 9) marks.ShiftRight (cond (eqb n 10) marks.Colon (cond (eqb n 11) marks.Scope (cond (eqb n 12) marks.Semicolon (cond (eqb n 13) marks.Comma (cond (eqb n 14) marks.Equals (cond (eqb n 15) marks.Or (cond (eqb n 16) marks.Xor (cond (eqb n 17) marks.And (cond (eqb n 18) marks.Plus (cond (eqb n 19) marks.Minus (cond (eqb n 20) marks.Times (cond (eqb n 21) marks.Divide (cond (eqb n 22) marks.Remainder (marks.Not)))))))))))))))))))))))

mark_is : (m : Mark) → mark_of (mark_code m) ≡ m
mark_is marks.LeftBrace = refl
mark_is marks.RightBrace = refl
mark_is marks.LeftParen = refl
mark_is marks.RightParen = refl
mark_is marks.LeftBracket = refl
mark_is marks.RightBracket = refl
mark_is marks.Less = refl
mark_is marks.Greater = refl
mark_is marks.ShiftLeft = refl
mark_is marks.ShiftRight = refl
mark_is marks.Colon = refl
mark_is marks.Scope = refl
mark_is marks.Semicolon = refl
mark_is marks.Comma = refl
mark_is marks.Equals = refl
mark_is marks.Or = refl
mark_is marks.Xor = refl
mark_is marks.And = refl
mark_is marks.Plus = refl
mark_is marks.Minus = refl
mark_is marks.Times = refl
mark_is marks.Divide = refl
mark_is marks.Remainder = refl
mark_is marks.Not = refl

pub mark_exact : (m n : Mark) → same_mark m n ≡ true → m ≡ n
mark_exact m n e = sym (mark_is m) ∙ ap mark_of (eqb-true (mark_code m) (mark_code n) e) ∙ mark_is n

pub mark_self : (m : Mark) → same_mark m m ≡ true
mark_self m = eq-eqb (mark_code m) (mark_code m) refl
