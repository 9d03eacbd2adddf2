use Rattle.std.proofs.Common.{◌∙◌, List, ℕ, sym, ap, subst}
use Rattle.std.specs.Prelude.{Ok}
use Rattle.pss_asking.specs.Telling.{Tells, plain_asked}
use Rattle.pss_asking.proofs.Telling.{made_by}
use Rattle.pss_asking.proofs.asking.Asking.make.Goals as goal

pub returns : goal.returns
returns c session access =
    let S = c.args.self.now.names.now in
    let same = made_by S c.args.self.now.next session c.args.home.now c.args.factory.now c.args.values.now c.in_ok-home.home c.as_slice.result.now c.in_ok-home.ensures
    (c.in_ok-numbers.ensures ∙ ap (λ (l : List ℕ). Ok l) (sym c.as_slice.ensures)) in
    subst (λ told. Tells plain_asked c.make_of.result told) (sym same) (c.make_of.ensures session access)
