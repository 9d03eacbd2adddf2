use Rattle.psdl_members.proofs.Covered.{cover_more, covers_read}
use Rattle.psdl_members.proofs.contested.add.Goals as goal

pub returns-clause-covered : goal.returns-clause-covered
returns-clause-covered c es h =
    cover_more c.args.lists.now.items c.args.entry c.more_lists-more.result c.requires c.more_lists-more.ensures.it
    (λ other k. c.more_lists-more.ensures.others other (covers_read c.args.lists.now.items c.args.entry.name c.index.result.now other c.requires c.index.ensures k)) es h
