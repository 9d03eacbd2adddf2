-- Laws of spellings.
use Rattle.std.specs.Prelude.{ℕ, ◌+◌, ◌≡◌, ◌≤◌, ◌↔◌, List, ◌++◌, length, drop, Some, IsTrue}
use Rattle.type_layout.specs.Types.{PlainType, PlainValue}
use Rattle.type_layout.specs.Sound.{IsSound}
use Rattle.value_text.specs.Texts.{Spells, is_at_end, Stands}
use Rattle.value_text.specs.Line.{one_value}

-- a text spells at most one value of a type
abbrev pub SpellsOneValue : Type 0
SpellsOneValue = (t : PlainType) → IsSound t → (u v : PlainValue) (text : List ℕ) → Spells t u text → Spells t v text → u ≡ v

-- from a place on stands at most one value of a type, with one end
abbrev pub OneStands : Type 0
OneStands = (t : PlainType) → IsSound t → (u v : PlainValue) (text : List ℕ) (at m n : ℕ) → Stands t text at u m → Stands t text at v n → (u ≡ v) × (m ≡ n)

-- a spelling stands between whatever is in front, and the end or a blank with whatever follows
abbrev pub SpellingStands : Type 0
SpellingStands = (t : PlainType) (v : PlainValue) (text : List ℕ) → Spells t v text → (front back : List ℕ) → IsTrue (is_at_end back) → Stands t (front ++ (text ++ back)) (length front) v (length front + length text)

-- for a sound type, the one value that is read from a place on, and what is behind it, are what stands there
abbrev pub WhatStandsIsRead : Type 0
WhatStandsIsRead = (t : PlainType) → IsSound t → (text : List ℕ) (at : ℕ) → at ≤ length text → (v : PlainValue) (end : ℕ) → end ≤ length text → Stands t text at v end ↔ (one_value t (drop at text) ≡ Some (v, drop end text))
