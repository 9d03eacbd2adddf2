use Rattle.std.proofs.Common.{◌≡◌, ℕ, take, length, get_or, None, Some, cond}
use Rattle.psdl_lineage.specs.Descent.{has}
use Rattle.psdl_lineage.proofs.descendants.give.Given as goal

abbrev pub invariant-loop-number : goal.invariant-loop-number
invariant-loop-number l =
    record {
      len : length l.firsts.items ≡ length l.initial.firsts.items;
      given : (n : ℕ) → get_or l.firsts.items n None ≡ cond (has (take l.number-index l.numbers) n) (Some l.root) (get_or l.initial.firsts.items n None);
    }
