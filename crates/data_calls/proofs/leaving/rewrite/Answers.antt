use Rattle.std.proofs.Common.{refl, sym, ap, ◌∙◌}
use Rattle.std.specs.Prelude.{is_some}
use Rattle.std.specs.FinMap.{get}
use Rattle.pss_machine.specs.declared.session.View.TheVariants.{Own}
use Rattle.pss_machine.specs.Operations.{Done}
use Rattle.incarnations.specs.Meaning.{Meaning, body}
use Rattle.data_calls.proofs.Seats.{none_where}
use Rattle.data_calls.proofs.Outdating.{set_is, homes_reached, left_here}
use Rattle.data_calls.proofs.leaving.rewrite.Goals as goal

pub outdate-requires : goal.outdate-requires
outdate-requires g c =
    none_where (get c.args.parts.now.attended.copies.bodies (body c.args.pid (Own c.args.acting.owner)))
    (ap (λ (x : Meaning). is_some (get x.bodies (body c.args.pid (Own c.args.acting.owner)))) (sym c.copies.ensures) ∙ sym c.has_body.ensures ∙ c.if-has_body.false)

pub returns : goal.returns
returns g c m =
    left_here m.left.schema m.left.limits m.left.kept c.args.acting m.left.asked Done c.args.parts.now _ m.left.taken refl refl refl
    (c.outdate.ensures m.left.kept m.left.taken.step.step _ (set_is m).2 (homes_reached m.left.schema m.left.limits m.left.kept m.left.taken.step.reached) m.left.taken.attended)
