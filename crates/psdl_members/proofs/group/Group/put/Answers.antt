use Rattle.std.proofs.Common.{ℕ, List, take, arith}
use Rattle.psdl_members.specs.declared.entry.Entry.{Entry}
use Rattle.psdl_members.proofs.Grouping.{first_of, next_of, whole_of, long_at}
use Rattle.psdl_members.proofs.group.Group.put.Goals as goal

pub loop-index-init : goal.loop-index-init
loop-index-init c = first_of c.clear.new.self c.args.entries.now c.clear.ensures

pub add-requires : goal.add-requires
add-requires c = omega (arith, c.requires, c.loop-index-test.true)

pub loop-index-preserved : goal.loop-index-preserved
loop-index-preserved c =
    let es : List Entry = c.args.entries.now in
    let i : ℕ = c.loop-index.index in
    next_of c.add.new.self es i _ (omega (arith, c.loop-index-test.true))
    (c.in_ok-add.ensures (take i es) (long_at es i (omega (arith, c.loop-index-test.true))) c.loop-index.invariant)

pub returns : goal.returns
returns c = whole_of c.loop-index.self c.args.entries.now c.loop-index.index (omega (arith, c.loop-index-test.false)) c.loop-index.invariant
