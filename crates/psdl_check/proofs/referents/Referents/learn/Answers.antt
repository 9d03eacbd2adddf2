use Rattle.std.proofs.Common.{ℕ, List, subst, sym}
use Rattle.type_layout.specs.declared.home.HomeNo.{HomeNo}
use Rattle.psdl_check.specs.inner.Referring.{AreTrue}
use Rattle.psdl_check.specs.inner.Texts.{text_in}
use Rattle.psdl_check.proofs.Held.{one_more_right}
use Rattle.psdl_check.proofs.referents.Referents.learn.Goals as goal

pub returns-in_ok-add-clause-right : goal.returns-in_ok-add-clause-right
returns-in_ok-add-clause-right c are =
    let all = text_in c.args.text.now in
    subst (λ (ls : List (ℕ × List HomeNo)). AreTrue all ls) (sym c.in_ok-add.ensures.list) (one_more_right all c.args.self.now c.in-Reference.definition are)
