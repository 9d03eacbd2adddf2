use Rattle.psdl_standings.proofs.Kept.{extent_found}
use Rattle.psdl_standings.proofs.standings.Standings.extent_at.Goals as goal

pub returns-in-Some : goal.returns-in-Some
returns-in-Some c =
    let s = c.args.self.now in
    let found = rw c.deref.ensures.value at c.in-Some.ensures.lookup in
    extent_found s.types s.extents.items c.args.number c.in-Some.extent.now s.stood.extents_of found.0 found.1
