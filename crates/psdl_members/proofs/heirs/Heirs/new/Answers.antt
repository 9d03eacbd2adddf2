use Rattle.std.proofs.Common.{subst, sym, ℕ}
use Rattle.psdl_members.specs.inner.Heirs.{IsInOrder}
use Rattle.psdl_members.proofs.heirs.Heirs.new.Goals as goal

pub invariant_of-result : goal.invariant_of-result
invariant_of-result c =
    record {
      order = subst (λ (n : ℕ). IsInOrder c.args.graph.now n) (sym c.in_ok-heirs.ensures.sized) c.requires;
      told = c.in_ok-heirs.ensures.heirs;
      columned = c.in_ok-claims.ensures.columns;
      claimed = c.in_ok-claims.ensures.claims;
    }
