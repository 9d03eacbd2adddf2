use Rattle.std.proofs.Common.{◌≡◌, ◌≤◌, take, drop}
use Rattle.psdl_tokens.specs.Places.{last_line}
use Rattle.psdl_tokens.proofs.cursor.last_line.Given as goal

abbrev pub invariant-loop-i : goal.invariant-loop-i
invariant-loop-i l = (l.start ≤ l.i) × (last_line (take l.i l.front) ≡ drop l.start (take l.i l.front))
