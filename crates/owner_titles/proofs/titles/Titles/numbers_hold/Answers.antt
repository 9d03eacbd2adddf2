use Rattle.std.proofs.Common.{ap, subst, sym, arith}
use Rattle.std.specs.Prelude.{IsSome}
use Rattle.std.specs.FinMap as map
use Rattle.owner_titles.specs.Meaning.{Meaning}
use Rattle.owner_titles.proofs.titles.Titles.numbers_hold.Goals as goal

pub returns : goal.returns
returns c n there =
    omega (arith, c.self.invariant.below n (subst IsSome (sym (ap (λ (m : Meaning). map.get m.called n) c.self.view_is)) there), ap (λ (m : Meaning). m.next) c.self.view_is)
