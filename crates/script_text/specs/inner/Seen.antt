-- What the code's parts of a line stand for, and what its functions give.
use Rattle.std.specs.Prelude.{ℕ, ◌≡◌, ◌≤◌, ◌<◌, List, length, take, slice_index, true, Result, Ok, Err}
use Rattle.std.specs.List.{list_all}
use Rattle.std.specs.Char.{is_ascii_digit}
use Rattle.std.specs.Str.Parse.{digits_value}
use Rattle.pss_machine.specs.declared.command.Rest.{Rest}
use Rattle.script_text.specs.declared.tail.Tail.{Tail}
use Rattle.script_text.specs.declared.words.Word.{Word as Found}
use Rattle.script_text.specs.declared.fault.CommandFault.{CommandFault}
use Rattle.script_text.specs.declared.parts.Number.{Number}
use Rattle.script_text.specs.Words.{Word}

abbrev pub seen : Tail → Rest
seen tail = record { column = tail.column; text = tail.text.now }

abbrev pub seen_word : Found → Word
seen_word word = record { text = word.text.now; column = word.column; rest = seen word.rest }

-- what a function returned, seen by view, is what reading gives
abbrev pub Gives : {X Y : Type 0} → (X → Y) → Result X CommandFault → Result Y ℕ → Type 0
Gives view (Ok x) read = read ≡ Ok (view x)
Gives view (Err fault) read = read ≡ Err fault.column

-- at most ten digits stand in front of a space, and write the number
pub record IsNumberInFront (text : List ℕ) (n : Number) : Type 0 where
  pub few : n.len ≤ 10
  pub inside : n.len < length text
  pub digits : list_all is_ascii_digit (take n.len text) ≡ true
  pub space : slice_index text n.len ≡ 32
  pub value : n.value ≡ digits_value 10 (take n.len text)
