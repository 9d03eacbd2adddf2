use Rattle.key_index.proofs.Turning.{long_turned}
use Rattle.key_index.proofs.slots.write_long.Goals as goal

pub returns-in-Some : goal.returns-in-Some
returns-in-Some c =
    let u = (c.get_mut.follows.holds c.args.slot).3 c.requires in
    long_turned c.args.key.now _ _ _ u.1 u.3
