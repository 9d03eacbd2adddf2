use Rattle.std.proofs.Common.{ap}
use Rattle.owner_view.specs.Keyed.{keys_of}
use Rattle.owner_view.proofs.Viewing.{shows_of}
use Rattle.owner_view.proofs.draft.keys_at.Goals as goal

pub object_at-requires : goal.object_at-requires
object_at-requires g c = shows_of c.requires

pub keys_of_found-requires-clause-found : goal.keys_of_found-requires-clause-found
keys_of_found-requires-clause-found g c v = c.in-Some.ensures (shows_of v)

pub returns-in-None : goal.returns-in-None
returns-in-None g c v = (let none = ap (keys_of c.args.view.now.schema.now) (c.in-None.ensures (shows_of v)) in cc)
