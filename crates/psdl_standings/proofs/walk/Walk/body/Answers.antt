use Rattle.std.proofs.Common.{ap}
use Rattle.psdl_directory.specs.inner.Nodes.{what_view}
use Rattle.psdl_standings.proofs.Stated.{nothing_kept}
use Rattle.psdl_standings.proofs.walk.Walk.body.Goals as goal

pub returns-in_ok-abstract_home-in-AbstractHome : goal.returns-in_ok-abstract_home-in-AbstractHome
returns-in_ok-abstract_home-in-AbstractHome c =
    rw (ap what_view c.in-AbstractHome.is) (nothing_kept c.args.self.now c.abstract_home.new.self c.args.spot _ _ c.args.kept.now.items c.requires c.in_ok-abstract_home-in-AbstractHome.ensures)
