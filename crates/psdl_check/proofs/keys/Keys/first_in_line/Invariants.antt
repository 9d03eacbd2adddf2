use Rattle.std.proofs.Common.{◌≡◌, None, get_or, take, find}
use Rattle.psdl_lineage.specs.Descent.{has, ancestry}
use Rattle.psdl_lineage.specs.Lineages.{asked_of}
use Rattle.psdl_check.proofs.keys.Keys.first_in_line.Given as goal

abbrev pub invariant-loop-number : goal.invariant-loop-number
invariant-loop-number l =
    record {
      same : asked_of l.conformity ≡ asked_of l.fn.conformity;
      none : find (λ n. has (ancestry (asked_of l.fn.conformity) l.home) (get_or l.self.homes.items n 0)) (take l.number-index l.number-items) ≡ None;
    }
