use Rattle.std.proofs.Common.{sym, subst}
use Rattle.storage_home.specs.Kept.{IsKept}
use Rattle.storage_home.specs.Applied.{AreNamed}
use Rattle.storage_home.proofs.homes.Homes.reserve_for.Goals as goal

pub reserve_changes-requires : goal.reserve_changes-requires
reserve_changes-requires c =
    let any = c.self.invariant in
    record {
      schema = any.0;
      catalog = any.1;
      kept = any.2;
      named = subst (AreNamed any.0) (sym c.as_slice.ensures.items) (c.requires any.0 any.1 (subst (IsKept any.0 any.1) c.self.view_is any.2));
    }

pub invariant_of-self : goal.invariant_of-self
invariant_of-self c = let any = c.self.invariant in (any.0, any.1, c.reserve_changes.ensures.kept any.0 any.1 any.2)
