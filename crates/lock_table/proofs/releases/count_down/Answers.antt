use Rattle.std.proofs.Common.{Some, refl, subst, ◌∙◌, ◌-◌}
use Rattle.pss_machine.specs.Needs.{same_resource}
use Rattle.lock_table.specs.inner.Tables.{Turns}
use Rattle.lock_table.proofs.Turning.{recounts}
use Rattle.lock_table.proofs.releases.count_down.Goals as goal

pub returns-clause-found : goal.returns-clause-found
returns-clause-found c = record { at = c.write.ensures.stand c.in-Some.found.at ∙ c.in-Some.ensures.some.at; place = (c.write.ensures.turns c.args.resource.now c.in-Some.ensures.some.at).here }

pub returns-clause-recounts : goal.returns-clause-recounts
returns-clause-recounts c =
    recounts c.args.links.now _ c.args.resource.now (λ n. n - 1) c.in-Some.found.place c.in-Some.ensures.some.place
    (subst (λ n. Turns same_resource c.args.links.now.places.table.entries c.write.new.places.table.entries c.args.resource.now (Some (record { row = c.in-Some.found.place.row; locks = n }))) c.saturating_sub.ensures (c.write.ensures.turns c.args.resource.now c.in-Some.ensures.some.at)) refl refl refl
