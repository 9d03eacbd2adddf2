use Rattle.owner_titles.specs.Meaning.{marked}
use Rattle.owner_titles.proofs.Tables.{written, there, never}
use Rattle.owner_titles.proofs.table.TitleTable.mark.Goals as goal

pub unreachable-requires : goal.unreachable-requires
unreachable-requires c = never c.self.inside.table _ c.self.view_is c.args.owner c.requires c.in-None.ensures.value

pub returns : goal.returns
returns c =
    written c.self.inside.table _ c.self.view_is c.args.owner _ (marked c.args.failed) c.in-Some.called.now c.in-Some.ensures.value
    (c.get_mut.follows.holds (marked c.args.failed c.in-Some.called.now) (there c.self.inside.table _ c.self.view_is c.args.owner c.requires))
