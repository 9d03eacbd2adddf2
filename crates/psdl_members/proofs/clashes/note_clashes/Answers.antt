use Rattle.std.proofs.Common.{◌≡◌, length, arith}
use Rattle.psdl_members.proofs.clashes.note_clashes.Goals as goal

pub note-requires : goal.note-requires
note-requires c =
    let sized : length c.args.flags.now.items ≡ length c.in_ok-heirs.heirs.heirs.items = omega (arith, c.in_ok-heirs.ensures.sized, c.len.ensures, c.args.flags.now.ok.0) in
    record { sized = sized }

pub returns-clause-clashes : goal.returns-clause-clashes
returns-clause-clashes c =
    let sized : length c.in_ok-heirs.heirs.heirs.items ≡ length c.args.flags.now.items = omega (arith, c.in_ok-heirs.ensures.sized, c.len.ensures, c.args.flags.now.ok.0) in
    rw (c.in_ok-heirs.ensures.graph, c.in_ok-heirs.ensures.rows, sized) at c.in_ok-note.ensures.clashes
