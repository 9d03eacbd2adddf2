-- Bytes between quotes, 39 around a character and 34 around a string.
use Rattle.std.specs.Prelude.{ℕ, ◌≡◌, ◌+◌, ◌*◌, List, [], ◌∷◌, Bool, not, ◌&&◌, ◌||◌, ◌==◌, IsTrue}
use Rattle.std.specs.Char.{is_digit, digit_value}

-- a byte that stands for itself: not the quote, `\`, LF or 0
abbrev pub is_raw : ℕ → ℕ → Bool
is_raw quote b = not (b == quote || b == 92 || b == 10 || b == 0)

-- a byte that stands behind a `\`: the quote or `\`
abbrev pub is_escaped : ℕ → ℕ → Bool
is_escaped quote b = b == quote || b == 92

-- A text spells one byte: as it is, behind a `\`, or by two hexadecimal digits behind `\x`.
abbrev pub SpellsByte : ℕ → ℕ → List ℕ → Type 0
SpellsByte quote c (b ∷ []) = IsTrue (is_raw quote b) × (c ≡ b)
SpellsByte quote c (a ∷ b ∷ []) = (a ≡ 92) × IsTrue (is_escaped quote b) × (c ≡ b)
SpellsByte quote c (a ∷ x ∷ high ∷ low ∷ []) = (a ≡ 92) × (x ≡ 120) × IsTrue (is_digit high 16 && is_digit low 16) × (c ≡ digit_value high * 16 + digit_value low)
SpellsByte quote c _ = ⊥

-- as many texts as bytes, each spelling its byte
abbrev pub SpellBytes : ℕ → List ℕ → List (List ℕ) → Type 0
SpellBytes quote [] [] = Unit {0}
SpellBytes quote (c ∷ cs) (t ∷ ts) = SpellsByte quote c t × SpellBytes quote cs ts
SpellBytes quote _ _ = ⊥
