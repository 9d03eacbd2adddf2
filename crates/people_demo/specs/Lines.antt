-- The lines of a demonstration.
use Rattle.std.specs.Prelude.{ℕ, zero, suc, ◌+◌, ◌-◌, ◌*◌, ◌%◌, ◌==◌, List, [], ◌∷◌, ◌++◌, map, codes, decimal, if◌then◌else◌, None, Some}
use Rattle.std.specs.declared.option.Option.{Option}
use Rattle.pss_base.specs.declared.lines.LineStep.{LineStep}
use Rattle.pss_base.specs.declared.lines.LineStep.TheVariants as line
use Rattle.pss_base.specs.PidText.{pid_text}

-- ---- numbers that look like chance

abbrev pub following : ℕ → ℕ
following x = (1103515245 * x + 12345) % 2147483648

-- the one of a round
abbrev pub drawn : ℕ → ℕ
drawn zero = 1
drawn (suc round) = following (drawn round)

-- one of the people before that of a round
abbrev pub chosen : ℕ → ℕ → ℕ
chosen x round = x % (round - 1) + 1

-- ---- rounds

-- words, and a number behind them
abbrev pub numbered : List ℕ → ℕ → List ℕ
numbered words n = words ++ decimal n

-- one more of the people is made
abbrev pub made : ℕ → List ℕ
made round = codes "make s1 PersonHomeBase make \"" ++ decimal round ++ codes "\" \"n" ++ decimal round ++ codes "\""

-- a transaction begins, and one more of the people is made
abbrev pub making : ℕ → List (List ℕ)
making round = codes "begin t SERIALIZABLE" ∷ codes "start s1 t" ∷ made round ∷ []

-- the one of a round is found
abbrev pub found : ℕ → List ℕ
found boss = codes "find s1 PersonHomeBase ssn \"" ++ decimal boss ++ codes "\""

-- the entry of the one of a round gets the boss
abbrev pub bossed : ℕ → ℕ → List ℕ
bossed round boss = codes "set s1 i" ++ decimal (2 * round - 2) ++ codes " boss " ++ pid_text (record { home = 1; serial = boss })

-- the boss of the entry is followed
abbrev pub followed : ℕ → List ℕ
followed round = codes "follow s1 i" ++ decimal (2 * round - 2) ++ codes " boss"

-- an earlier one is found, and becomes the boss
abbrev pub bossing : ℕ → ℕ → List (List ℕ)
bossing round boss = found boss ∷ bossed round boss ∷ followed round ∷ []

abbrev pub boss_lines : ℕ → Option ℕ → List (List ℕ)
boss_lines round None = []
boss_lines round (Some boss) = bossing round boss

-- each fiftieth round makes a checkpoint
abbrev pub checkpointing : ℕ → List (List ℕ)
checkpointing round = if round % 50 == 0 then codes "checkpoint" ∷ [] else []

-- the transaction commits
abbrev pub committing : ℕ → List (List ℕ)
committing round = codes "freeall s1" ∷ codes "end s1 ok" ∷ codes "commit t" ∷ checkpointing round

abbrev pub round_texts : ℕ → Option ℕ → List (List ℕ)
round_texts round boss = making round ++ boss_lines round boss ++ committing round

-- the boss of a round: none in the first
abbrev pub boss_of : ℕ → Option ℕ
boss_of round = if round == 1 then None else Some (chosen (drawn round) round)

-- the lines of the first so many rounds
abbrev pub rounds_texts : ℕ → List (List ℕ)
rounds_texts zero = []
rounds_texts (suc rounds) = rounds_texts rounds ++ round_texts (suc rounds) (boss_of (suc rounds))

-- the lines of a demonstration of so many rounds
abbrev pub demo_texts : ℕ → List (List ℕ)
demo_texts rounds = (codes "open s0 basic rw" ∷ codes "open s1 tx rw" ∷ []) ++ rounds_texts rounds ++ codes "count s0 PersonHomeBase" ∷ []

-- ---- as a reader of lines gives them

abbrev pub as_lines : List (List ℕ) → List LineStep
as_lines texts = map line.Line texts

abbrev pub opening : List LineStep
opening = as_lines (codes "open s0 basic rw" ∷ codes "open s1 tx rw" ∷ [])

abbrev pub round_lines : ℕ → Option ℕ → List LineStep
round_lines round boss = as_lines (round_texts round boss)

abbrev pub counting : List LineStep
counting = as_lines (codes "count s0 PersonHomeBase" ∷ [])

abbrev pub demo_lines : ℕ → List LineStep
demo_lines rounds = as_lines (demo_texts rounds)
