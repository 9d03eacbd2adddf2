use Rattle.std.proofs.Common.{◌≡◌, ◌∙◌, get_or}
use Rattle.std.proofs.lemmas.Grind.{get_or_default_zero}
use Rattle.psdl_directory.specs.Directories.{all_of}
use Rattle.psdl_directory.specs.inner.Nodes.{what_view}
use Rattle.psdl_members.specs.Bodies.{member_views}
use Rattle.psdl_members.proofs.Bodied.{members_more}
use Rattle.psdl_members.proofs.owners.members_of.Goals as goal

pub loop-declaration-preserved : goal.loop-declaration-preserved
loop-declaration-preserved c =
    let all = all_of c.args.directory.now in
    let item : c.declaration-item.result ≡ get_or c.args.declarations.now c.loop-declaration.declaration-index 0 = c.declaration-item.is ∙ get_or_default_zero c.args.declarations.now c.loop-declaration.declaration-index c.declaration-item.result c.loop-declaration-test.true in
    members_more all (member_views c.loop-declaration.members.items) (member_views c.add_own.new.found.items) (what_view c.what.result) c.args.declarations.now c.loop-declaration.declaration-index c.loop-declaration-test.true
    c.loop-declaration.invariant (rw (c.index.ensures, item) at c.in_ok-add_own.ensures) (rw item at c.what.ensures)
