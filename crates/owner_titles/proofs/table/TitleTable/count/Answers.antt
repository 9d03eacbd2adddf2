use Rattle.std.proofs.Common.{◌-◌, ◌<◌, ◌^◌, arith}
use Rattle.owner_titles.specs.Meaning.{one_more}
use Rattle.owner_titles.specs.declared.called.Called.{Called}
use Rattle.owner_titles.proofs.Tables.{some, holds_at, written, there, never}
use Rattle.owner_titles.proofs.table.TitleTable.count.Goals as goal

abbrev few : Called → Type 0
few called = called.commands < 2 ^ 32 - 1

pub overflow_add-called : goal.overflow_add-called
overflow_add-called c = omega (arith, holds_at c.self.inside.table _ c.self.view_is c.args.owner few c.requires c.in-Some.called.now c.in-Some.ensures.value)

pub unreachable-requires : goal.unreachable-requires
unreachable-requires c = never c.self.inside.table _ c.self.view_is c.args.owner (some c.self.inside.table _ c.self.view_is c.args.owner few c.requires) c.in-None.ensures.value

pub returns : goal.returns
returns c =
    written c.self.inside.table _ c.self.view_is c.args.owner _ one_more c.in-Some.called.now c.in-Some.ensures.value
    (c.get_mut.follows.holds (one_more c.in-Some.called.now) (there c.self.inside.table _ c.self.view_is c.args.owner (some c.self.inside.table _ c.self.view_is c.args.owner few c.requires)))
