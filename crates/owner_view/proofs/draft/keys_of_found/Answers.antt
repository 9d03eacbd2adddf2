use Rattle.std.proofs.Common.{Option, [], sym, ap, ◌∙◌}
use Rattle.type_layout.specs.Schemas.{given}
use Rattle.pss_catalog.specs.Catalog.{Object}
use Rattle.cdr_codec.proofs.Members.{if_ok}
use Rattle.owner_view.specs.Overlay.{changes_in}
use Rattle.owner_view.specs.Views.{seen_with}
use Rattle.owner_view.specs.Keyed.{all_keyed}
use Rattle.owner_view.proofs.Viewing.{shown_at}
use Rattle.owner_view.proofs.draft.keys_of_found.Goals as goal

pub keyed_of-requires-clause-shown : goal.keyed_of-requires-clause-shown
keyed_of-requires-clause-shown g c = shown_at c.args.view.now.schema.now (seen_with c.requires.sees.catalog (changes_in c.args.view.now.overlay.now)) c.args.found.now.serial c.args.found.now.seen (c.requires.found c.requires.sees)

pub returns : goal.returns
returns g c = if_ok c.keyed_of.result _ _
    (λ pairs tells v.
    let there = c.requires.found v in
    tells (shown_at c.args.view.now.schema.now (seen_with v.catalog (changes_in c.args.view.now.overlay.now)) c.args.found.now.serial c.args.found.now.seen there)
    ∙ sym (ap (λ (o : Option Object). given o [] (all_keyed c.args.view.now.schema.now)) there.1))
    c.keyed_of.ensures
