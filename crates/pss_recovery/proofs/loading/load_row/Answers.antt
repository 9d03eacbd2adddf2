use Rattle.pss_recovery.proofs.Additions.{is_added}
use Rattle.pss_recovery.proofs.loading.load_row.Goals as goal

pub add_row-requires : goal.add_row-requires
add_row-requires c = is_added c.args.schema.now c.args.next c.requires.may.0 c.args.homes.now c.args.row c.in-Ok.keys c.requires.may.1 (c.in-Ok.ensures.right c.requires.may.0 c.requires.may.1.kept)

pub returns-in-Ok-add_row-clause-loaded : goal.returns-in-Ok-add_row-clause-loaded
returns-in-Ok-add_row-clause-loaded c = λ M may.
    let can = c.in-Ok.ensures.right M may.kept in
    record { object = can.object; is_row = record { stored = can.stored; refers = can.refers; free = can.free }; kept = c.in-Ok-add_row.ensures (is_added c.args.schema.now c.args.next M c.args.homes.now c.args.row c.in-Ok.keys may can) }
