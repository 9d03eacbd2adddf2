use Rattle.std.proofs.Common.{subst}
use Rattle.incarnations.specs.Meaning.{AreCopies}
use Rattle.incarnations.proofs.Seen.{sound_copies}
use Rattle.incarnations.proofs.incarnations.Incarnations.copies_hold.Goals as goal

pub returns : goal.returns
returns c = subst AreCopies c.self.view_is (sound_copies c.self.inside.stock c.self.invariant)
