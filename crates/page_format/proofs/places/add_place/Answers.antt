use Rattle.std.proofs.Common.{not, is_some, ap, ◌∙◌, sym}
use Rattle.std.proofs.lemmas.Bool.{not-false}
use Rattle.std.proofs.Math.Dec.{eqb}
use Rattle.indexmap.proofs.CallerLemmas.{insert_entry-new}
use Rattle.page_format.proofs.Serials.{absent_of, unseen_of}
use Rattle.page_format.proofs.places.add_place.Goals as goal

pub returns-clause-new : goal.returns-clause-new
returns-clause-new c =
    let es = c.args.places.now.entries in
    (λ t. unseen_of c.args.serial es (ap is_some (sym c.in_ok-before.ensures.old) ∙ (c.is_none.ensures ∙ ap not t)), λ f. not-false c.is_none.result (sym c.is_none.ensures ∙ ap is_some (c.in_ok-before.ensures.old ∙ absent_of c.args.serial es f)))

pub returns-clause-added : goal.returns-clause-added
returns-clause-added c = λ t.
    let es = c.args.places.now.entries in
    let absent = absent_of c.args.serial es (unseen_of c.args.serial es (ap is_some (sym c.in_ok-before.ensures.old) ∙ (c.is_none.ensures ∙ ap not t))) in
    c.in_ok-before.ensures.entries ∙ insert_entry-new eqb c.args.places.now c.args.serial c.args.slot absent
