use Rattle.std.proofs.Common.{sym, ap, ◌∙◌}
use Rattle.std.specs.Option.{option_map}
use Rattle.owner_view.proofs.Outcomes.{if_ok}
use Rattle.owner_view.proofs.state.state_at.Goals as goal

pub some_record-requires-clause-shown : goal.some_record-requires-clause-shown
some_record-requires-clause-shown g c = (let is = c.in-Some.ensures c.requires in record { object = is.0; fits = is.2; is = is.3 })

pub returns-in-Some : goal.returns-in-Some
returns-in-Some g c =
    if_ok c.some_record.result
    (λ made all v. (let is = c.in-Some.ensures v in all (record { object = is.0; fits = is.2; is = is.3 }) ∙ ap (option_map (λ object. object.values)) (sym is.1)))
    c.some_record.ensures
