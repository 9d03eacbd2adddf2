use Rattle.std.proofs.Common.{◌≡◌, length, take}
use Rattle.psdl_members.specs.inner.Claims.{HasMore}
use Rattle.psdl_members.proofs.claims.add_claims.Given as goal

abbrev pub invariant-loop-entry : goal.invariant-loop-entry
invariant-loop-entry l =
    record {
      sized : length l.claims.items ≡ length l.fn.claims.items;
      more : HasMore l.fn.claims.items l.claims.items l.declaration (take l.entry-index l.entries);
    }
