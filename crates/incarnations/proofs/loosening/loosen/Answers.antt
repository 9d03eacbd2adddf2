use Rattle.std.proofs.Common.{◌≡◌, ◌<◌, ◌-◌, None, sym, ap, ◌∙◌, subst, arith}
use Rattle.std.specs.Prelude.{IsSomeAnd}
use Rattle.std.specs.Option.{option_map}
use Rattle.std.specs.FinMap.{FinMap, insert}
use Rattle.incarnations.specs.declared.names.EntryRecord.{EntryRecord}
use Rattle.incarnations.specs.declared.names.SessionRecord.{SessionRecord}
use Rattle.incarnations.specs.Keys.{slot_cmp, session_cmp}
use Rattle.incarnations.specs.Records.{with_attached}
use Rattle.incarnations.specs.Meaning.{body, with_view}
use Rattle.incarnations.specs.Stock.{Loose, IsLowered}
use Rattle.recent_table.proofs.Maps.{no_value}
use Rattle.incarnations.proofs.Sets.{node_there, home_there}
use Rattle.incarnations.proofs.Loosened.{moved_stock, lower_body, some_attached, sound_after, set_after, rows_after, cols_after, passed_after, some_in_session}
use Rattle.incarnations.proofs.loosening.loosen.Goals as goal
use Rattle.incarnations.proofs.loosening.loosen.Goals.{After-lower}

pub unreachable-requires : goal.unreachable-requires
unreachable-requires c = let h = home_there c.args.stock.now c.requires.sound c.args.slot c.args.was c.requires.entry in no_value h.value (c.in_default.ensures ∙ h.is)

pub move_node-node-requires-clause-node : goal.move_node-node-requires-clause-node
move_node-node-requires-clause-node c = node_there c.args.stock.now c.requires.sound c.args.slot c.args.was c.requires.entry

pub move_node-node-requires-clause-row : goal.move_node-node-requires-clause-row
move_node-node-requires-clause-row c = c.requires.sound.rows.there (Loose c.args.slot.session) c.in-Some.home.row (ap (option_map (λ r. r.row)) (sym c.in-Some.ensures))

pub count_down-requires : goal.count_down-requires
count_down-requires c =
    subst (λ o. IsSomeAnd o (λ r. 0 < r.attached)) c.in-Some.ensures (some_in_session c.args.stock.now c.requires.sound c.args.slot c.args.was c.requires.entry c.args.view c.requires.view c.in-Some.home (sym c.in-Some.ensures) c.move_node-node.new.pool c.move_node-node.result c.move_node-node.ensures.moved c.move_node-node.ensures.rings)

pub overflow_sub-stock : goal.overflow_sub-stock
overflow_sub-stock c = omega (arith, some_attached c.args.stock.now c.requires.sound c.args.slot c.args.was c.requires.entry c.args.view c.requires.view c.in-Some.home (sym c.in-Some.ensures) c.move_node-node.new.pool c.move_node-node.result c.move_node-node.ensures.moved c.move_node-node.ensures.rings)

pub lower-requires-clause-body : goal.lower-requires-clause-body
lower-requires-clause-body c =
    lower_body c.args.stock.now c.requires.sound c.args.slot c.args.was c.requires.entry c.args.view c.requires.view c.in-Some.home (sym c.in-Some.ensures) c.move_node-node.new.pool c.move_node-node.result c.move_node-node.ensures.moved c.move_node-node.ensures.rings

pub lower-requires-clause-rings : goal.lower-requires-clause-rings
lower-requires-clause-rings c = c.move_node-node.ensures.rings

abbrev Moved : After-lower → Type 0
Moved c =
    IsLowered
    (moved_stock c.args.stock.now c.requires.sound c.args.slot c.args.was c.requires.entry c.args.view c.requires.view c.in-Some.home (sym c.in-Some.ensures) c.move_node-node.new.pool c.move_node-node.result c.move_node-node.ensures.moved c.move_node-node.ensures.rings)
    c.lower.new.stock (body c.args.was.entry.pid c.args.view)

lowered : (c : After-lower) → Moved c
lowered c =
    subst (λ (t : FinMap session_cmp SessionRecord). IsLowered (record { pool = c.move_node-node.new.pool; sessions = t; entries = insert c.args.stock.now.entries c.args.slot (record { entry = with_view None c.args.was.entry; node = c.move_node-node.result }); objects = c.args.stock.now.objects; bodies = c.args.stock.now.bodies; attached = c.args.stock.now.attached - 1 }) c.lower.new.stock (body c.args.was.entry.pid c.args.view))
    (subst (λ o. IsSomeAnd o (λ r. c.count_down.new.self ≡ insert c.args.stock.now.sessions c.args.slot.session (with_attached (r.attached - 1) r))) (sym c.in-Some.ensures) c.count_down.ensures)
    (subst (λ (t : FinMap slot_cmp EntryRecord). IsLowered (record { pool = c.move_node-node.new.pool; sessions = c.count_down.new.self; entries = t; objects = c.args.stock.now.objects; bodies = c.args.stock.now.bodies; attached = c.args.stock.now.attached - 1 }) c.lower.new.stock (body c.args.was.entry.pid c.args.view)) c.set.ensures c.lower.ensures)

pub returns-clause-sound : goal.returns-clause-sound
returns-clause-sound c =
    sound_after c.args.stock.now c.requires.sound c.args.slot c.args.was c.requires.entry c.args.view c.requires.view c.in-Some.home (sym c.in-Some.ensures) c.move_node-node.new.pool c.move_node-node.result c.move_node-node.ensures.moved c.move_node-node.ensures.rings c.lower.new.stock
    (lowered c)

pub returns-clause-entries : goal.returns-clause-entries
returns-clause-entries c =
    set_after c.args.stock.now c.requires.sound c.args.slot c.args.was c.requires.entry c.args.view c.requires.view c.in-Some.home (sym c.in-Some.ensures) c.move_node-node.new.pool c.move_node-node.result c.move_node-node.ensures.moved c.move_node-node.ensures.rings c.lower.new.stock
    (lowered c)

pub returns-clause-cols : goal.returns-clause-cols
returns-clause-cols c =
    cols_after c.args.stock.now c.requires.sound c.args.slot c.args.was c.requires.entry c.args.view c.requires.view c.in-Some.home (sym c.in-Some.ensures) c.move_node-node.new.pool c.move_node-node.result c.move_node-node.ensures.moved c.move_node-node.ensures.rings c.lower.new.stock
    (lowered c)

pub returns-clause-rows : goal.returns-clause-rows
returns-clause-rows c =
    rows_after c.args.stock.now c.requires.sound c.args.slot c.args.was c.requires.entry c.args.view c.requires.view c.in-Some.home (sym c.in-Some.ensures) c.move_node-node.new.pool c.move_node-node.result c.move_node-node.ensures.moved c.move_node-node.ensures.rings c.lower.new.stock
    (lowered c)

pub returns-clause-passed : goal.returns-clause-passed
returns-clause-passed c =
    passed_after c.args.stock.now c.requires.sound c.args.slot c.args.was c.requires.entry c.args.view c.requires.view c.in-Some.home (sym c.in-Some.ensures) c.move_node-node.new.pool c.move_node-node.result c.move_node-node.ensures.moved c.move_node-node.ensures.rings c.lower.new.stock
    (lowered c)
