use Rattle.std.proofs.Common.{◌≡◌, take}
use Rattle.owner_titles.proofs.history.History.recent.Given as goal

-- so many texts were copied
abbrev pub invariant-loop-at : goal.invariant-loop-at
invariant-loop-at l = l.texts ≡ take l.at l.self.recent
