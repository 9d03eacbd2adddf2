use Rattle.std.proofs.Common.{◌≡◌, ◌++◌, ◌∷◌, drop, false}
use Rattle.psdl_syntax.specs.Canonical.{characters_text}
use Rattle.psdl_syntax.proofs.printing.literals.extend_string.Given as goal

abbrev pub invariant-loop-byte : goal.invariant-loop-byte
invariant-loop-byte l = l.text ++ characters_text l.behind (drop l.byte-index l.bytes) ≡ l.fn.text ++ (34 ∷ characters_text false l.bytes)
