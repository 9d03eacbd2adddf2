use Rattle.std.proofs.Common.{◌∙◌, sym}
use Rattle.psdl_lineage.proofs.Joining.{old_one, new_one, one_joined}
use Rattle.psdl_lineage.proofs.joined.add.Goals as goal

pub returns-then-has-clause-items : goal.returns-then-has-clause-items
returns-then-has-clause-items c = old_one c.args.marks.now c.args.joined.now.items c.args.number c.requires.joined (sym (rw c.index-index.ensures at c.has.ensures) ∙ c.if-has.true)

pub returns-clause-joined : goal.returns-clause-joined
returns-clause-joined c =
    rw (c.mark.ensures, c.index-index.ensures, c.in_ok-push.ensures.items) (one_joined c.args.marks.now c.args.joined.now.items c.args.number c.requires.joined c.requires.below (sym (rw c.index-index.ensures at c.has.ensures) ∙ c.if-has.false))

pub returns-clause-items : goal.returns-clause-items
returns-clause-items c =
    c.in_ok-push.ensures.items ∙ new_one c.args.marks.now c.args.joined.now.items c.args.number c.requires.joined (sym (rw c.index-index.ensures at c.has.ensures) ∙ c.if-has.false)
