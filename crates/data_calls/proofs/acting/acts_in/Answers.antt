use Rattle.std.proofs.Common.{sym}
use Rattle.data_calls.proofs.Actors.{idle_none}
use Rattle.data_calls.proofs.Acts.{is_acting, is_idle}
use Rattle.data_calls.proofs.acting.acts_in.Goals as goal

pub returns-in_default : goal.returns-in_default
returns-in_default c k at asked = idle_none c.args.parts.now.schema c.args.parts.now.limits k c.args.name.now asked (c.in_default.ensures k at.stands)

pub returns-in-Some-acting_for : goal.returns-in-Some-acting_for
returns-in-Some-acting_for c k at =
    let is = c.in-Some.ensures k at.stands in
    is_acting c.args.parts.now k at c.args.name.now c.in-Some.found is c.in-Some-acting_for.acting (c.in-Some-acting_for.ensures is.session (sym is.kind_is) (sym is.association_is))

pub returns-in-None : goal.returns-in-None
returns-in-None c k at =
    let is = c.in-Some.ensures k at.stands in
    is_idle c.args.parts.now k at c.args.name.now c.in-Some.found is (c.in-None.ensures is.session (sym is.kind_is) (sym is.association_is))
