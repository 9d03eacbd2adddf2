use Rattle.std.proofs.Common.{◌<◌, ◌≤◌, length, arith}
use Rattle.std.proofs.lemmas.List.{get_or_read}
use Rattle.psdl_members.specs.inner.Seeing.{nothing}
use Rattle.psdl_members.proofs.Shown.{past_seen, put_seen}
use Rattle.psdl_members.proofs.showing.add_seen.Goals as goal

pub returns-then-number-len-clause-seen : goal.returns-then-number-len-clause-seen
returns-then-number-len-clause-seen c es some there are also =
    let past : length c.args.seen.now.items ≤ c.args.number = omega (arith, c.if-number-len.true, c.len.ensures, c.args.seen.now.ok.0) in
    past_seen c.args.seen.now.items c.args.number past es some there are

pub returns-clause-seen : goal.returns-clause-seen
returns-clause-seen c es some there are also =
    let room : c.args.number < length c.args.seen.now.items = omega (arith, c.if-number-len.false, c.len.ensures, c.args.seen.now.ok.0) in
    put_seen c.args.seen.now.items c.args.number c.index.result.now c.args.also c.and-all.result room (get_or_read c.args.seen.now.items c.args.number c.index.result.now room c.index.ensures nothing) c.and-all.ensures es some there are also
