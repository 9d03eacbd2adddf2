use Rattle.std.specs.FinMap.{get}
use Rattle.storage_home.proofs.KeyLists.{keys_spelled}
use Rattle.pss_recovery.proofs.Alterings.{keys_from, spells_of, there_of}
use Rattle.pss_recovery.proofs.altering.old_keys.Goals as goal

pub keys_of_octets-requires-clause-spells : goal.keys_of_octets-requires-clause-spells
keys_of_octets-requires-clause-spells c =
    let S = c.args.schema.now in
    let M = c.requires.kept.0 in
    let known = c.requires.kept.1 in
    let t = there_of S c.in-Some.home c.in-Some.bytes.now (get M c.args.put.now.serial) (c.in-Some.ensures S M known.kept) in
    spells_of S c.in-Some.home c.in-Some.bytes.now t.object t.home_ t.spelled (known.sound c.args.put.now.serial t.object t.is)

pub returns-in-Ok-clause-keys : goal.returns-in-Ok-clause-keys
returns-in-Ok-clause-keys c = λ M known.
    let S = c.args.schema.now in
    let t = there_of S c.in-Some.home c.in-Some.bytes.now (get M c.args.put.now.serial) (c.in-Some.ensures S M known.kept) in
    let s = spells_of S c.in-Some.home c.in-Some.bytes.now t.object t.home_ t.spelled (known.sound c.args.put.now.serial t.object t.is) in
    keys_from S c.in-Some.home t.object (get M c.args.put.now.serial) c.in-Ok.keys t.home_ t.is (keys_spelled S c.in-Some.home c.in-Some.bytes.now s c.requires.sound c.in-Ok.keys (c.in-Ok.ensures s))
