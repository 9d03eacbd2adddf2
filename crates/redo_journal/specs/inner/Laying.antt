-- What an append writes behind its gate.
use Rattle.std.specs.Prelude.{ℕ, List, [], ◌∷◌, ◌++◌, length}
use Rattle.redo_journal.specs.Journal.{header}

-- header, body and the closed gate behind them
abbrev pub laid : ℕ → List ℕ → List ℕ
laid epoch body = (header epoch (length body) ++ body) ++ 0 ∷ []
