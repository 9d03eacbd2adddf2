use Rattle.owner_titles.specs.Meaning.{unspent}
use Rattle.owner_titles.proofs.Tables.{written, there, never}
use Rattle.owner_titles.proofs.table.TitleTable.unspend.Goals as goal

pub unreachable-requires : goal.unreachable-requires
unreachable-requires c = never c.self.inside.table _ c.self.view_is c.args.owner c.requires c.in-None.ensures.value

pub returns : goal.returns
returns c =
    written c.self.inside.table _ c.self.view_is c.args.owner _ unspent c.in-Some.called.now c.in-Some.ensures.value
    (c.get_mut.follows.holds (unspent c.in-Some.called.now) (there c.self.inside.table _ c.self.view_is c.args.owner c.requires))
