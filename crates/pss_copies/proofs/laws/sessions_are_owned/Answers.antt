use Rattle.pss_copies.proofs.Tying.{always_owned}
use Rattle.pss_copies.proofs.laws.sessions_are_owned.Goals as goal

pub returns : goal.returns
returns c = always_owned
