use Rattle.std.proofs.Common.{map}
use Rattle.psdl_directory.proofs.Rows.{all_named}
use Rattle.psdl_directory.proofs.scopes.Scopes.names.Goals as goal

pub returns : goal.returns
returns c =
    all_named c.args.self.now c.self.inside.rows.items c.loop-at.at (map (λ n. n.now) c.loop-at.names.items) _ c.self.view_is c.loop-at-test.false c.loop-at.invariant.names
