use Rattle.std.proofs.Common.{◌∙◌, sym}
use Rattle.psdl_members.proofs.Claiming.{claims_at, none_past}
use Rattle.psdl_members.proofs.claims.claims_to.Goals as goal

pub returns-in-Some : goal.returns-in-Some
returns-in-Some c = c.as_slice.ensures.value ∙ claims_at c.args.claims.now c.args.name c.in-Some.found.now c.in-Some.ensures.lookup.0 c.in-Some.ensures.lookup.1

pub returns-in-None : goal.returns-in-None
returns-in-None c = sym (none_past c.args.claims.now c.args.name c.in-None.ensures.lookup.0)
