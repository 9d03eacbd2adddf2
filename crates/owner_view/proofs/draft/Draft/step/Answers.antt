use Rattle.std.proofs.Common.{◌≡◌, None, Option, sym, ap, ◌∙◌}
use Rattle.pss_machine.specs.Alone.{Outcome}
use Rattle.pss_machine.specs.Operations.{Done, plain_answer}
use Rattle.owner_view.specs.declared.refusal.Refusal.{Refusal}
use Rattle.owner_view.specs.Refusal.{unless_refused}
use Rattle.owner_view.specs.Seen.{plain_object}
use Rattle.owner_view.specs.Steps.{stored_unless}
use Rattle.owner_view.proofs.Drafting.{is_free}
use Rattle.owner_view.proofs.draft.Draft.step.Goals as goal

pub returns-in-None : goal.returns-in-None
returns-in-None c S V needed references fits sized d =
    let object = plain_object c.args.object in
    let here : unless_refused None c.args.serial object (plain_answer c.args.done) ≡ stored_unless S V c.args.serial object references (plain_answer c.args.done) = ap (λ (r : Option Refusal). unless_refused r c.args.serial object (plain_answer c.args.done)) (sym c.in-None.is) ∙ d.refusal (plain_answer c.args.done) in
    let done : unless_refused None c.args.serial object Done ≡ stored_unless S V c.args.serial object references Done = ap (λ (r : Option Refusal). unless_refused r c.args.serial object Done) (sym c.in-None.is) ∙ d.refusal Done in
    record {
      needs = d.needs;
      answer = ap (λ (o : Outcome). o.answer) here;
      changes = ap (λ (o : Outcome). o.changes) here;
      put = record { may = (fits, is_free S V c.args.serial object references done, sized); had = d.had; has = d.has };
    }
