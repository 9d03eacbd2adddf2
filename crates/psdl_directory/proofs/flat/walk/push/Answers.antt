use Rattle.std.specs.Result.{is_ok}
use Rattle.psdl_directory.proofs.Walked.{placed_after}
use Rattle.psdl_directory.proofs.flat.walk.push.Goals as goal

pub invariant_of-flat : goal.invariant_of-flat
invariant_of-flat c = record { placed = placed_after c.args.flat.now.scopes c.args.flat.now.declarations.items c.push.new.self.items c.args.declaration (is_ok c.push.result) c.push.ensures.items c.args.flat.now.placed c.requires }
