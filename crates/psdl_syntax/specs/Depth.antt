-- Brackets that are open.
use Rattle.std.specs.Prelude.{ℕ, zero, suc, ◌≡◌, ◌≤◌, ◌+◌, ◌-◌, List, length, take, Option, Some, None, IsSome, Bool, true, false, if◌then◌else◌}
use Rattle.part_readers.specs.Sentences.{Begins, steps}
use Rattle.psdl_tokens.specs.declared.token.Mark.{Mark}
use Rattle.psdl_tokens.specs.declared.token.Mark.TheVariants as marks
use Rattle.psdl_syntax.specs.Seen.{Seen, Word, Sign, Placed, Named, Number, Quoted, Stray}

abbrev pub opens : Mark → Bool
opens marks.LeftBrace = true
opens marks.LeftParen = true
opens marks.LeftBracket = true
opens marks.Less = true
opens _ = false

abbrev pub closes : Mark → Bool
closes marks.RightBrace = true
closes marks.RightParen = true
closes marks.RightBracket = true
closes marks.Greater = true
closes _ = false

abbrev pub one_less : ℕ → Option ℕ
one_less zero = None
one_less (suc n) = Some n

-- how many brackets may open behind a sign, where so many may in front of it; none where one too many does
abbrev pub room_behind_mark : ℕ → Mark → Option ℕ
room_behind_mark d m = if opens m then one_less d else (if closes m then Some (suc d) else Some d)

abbrev pub room_behind : ℕ → Seen → Option ℕ
room_behind d (Word k) = Some d
room_behind d (Sign m) = room_behind_mark d m
room_behind d (Placed m p) = room_behind_mark d m
room_behind d (Named i) = Some d
room_behind d (Number n) = Some d
room_behind d (Quoted q) = Some d
room_behind d Stray = Some d

-- the same behind all these tokens
abbrev pub room : ℕ → List Seen → Option ℕ
room = steps room_behind

-- left tokens from the end stands an opening bracket, which is expected there, and no other may open: so many are open
pub record IsFirstDeep {A : Type 0} (most : ℕ) (spell : A → List Seen) (toks : List Seen) (left : ℕ) : Type 0 where
  pub within : left ≤ length toks
  pub before : room most (take (length toks - left) toks) ≡ Some 0
  pub expected : Begins spell (take (length toks - left + 1) toks)
  pub too_deep : room most (take (length toks - left + 1) toks) ≡ None

-- no bracket opens too deep before left tokens from the end
abbrev pub FitsBefore : ℕ → List Seen → ℕ → Type 0
FitsBefore most toks left = IsSome (room most (take (length toks - left) toks))
