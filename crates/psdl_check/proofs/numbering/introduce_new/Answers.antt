use Rattle.std.proofs.Common.{◌++◌, Bool, List, sym, subst}
use Rattle.std.proofs.lemmas.List.{append-nil}
use Rattle.psdl_check.specs.Schemas.{Introduced}
use Rattle.psdl_check.specs.inner.KeyIds.{own_view}
use Rattle.psdl_check.specs.inner.Keys.{AreKeys}
use Rattle.psdl_check.specs.inner.KeysMade.{new_one}
use Rattle.psdl_check.proofs.numbering.introduce_new.Goals as goal

pub returns-then-of_base : goal.returns-then-of_base
returns-then-of_base c all ids introduced has numbered are =
    subst (λ (b : Bool). AreKeys all ids (introduced ++ new_one b c.args.home.now (own_view c.args.key)) c.args.keys.now) (sym c.if-of_base.true)
    (subst (λ (l : List Introduced). AreKeys all ids l c.args.keys.now) (sym (append-nil introduced)) are)

pub returns : goal.returns
returns c all ids introduced has numbered are =
    subst (λ (b : Bool). AreKeys all ids (introduced ++ new_one b c.args.home.now (own_view c.args.key)) c.introduce.new.self) (sym c.if-of_base.false) (c.in_ok-introduce.ensures all ids introduced has numbered are)
