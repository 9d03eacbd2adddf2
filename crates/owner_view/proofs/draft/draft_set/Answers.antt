use Rattle.std.proofs.Common.{length, sym, ap, ◌∙◌}
use Rattle.std.specs.FinMap as map
use Rattle.owner_view.specs.Overlay.{changes_in}
use Rattle.owner_view.specs.Seen.{plain_object}
use Rattle.owner_view.specs.Views.{seen_with}
use Rattle.owner_view.proofs.Setting.{as_many_keys}
use Rattle.owner_view.proofs.draft.draft_set.Goals as goal

pub needs_of_set-requires : goal.needs_of_set-requires
needs_of_set-requires g c =
    let v = c.requires.sees in
    ap length (c.in_ok-pairs.ensures.had ∙ c.in_ok-had.ensures v)
    ∙ as_many_keys c.args.view.now.schema.now (map.get (seen_with v.catalog (changes_in c.args.view.now.overlay.now)) c.args.found.now.serial) (plain_object c.args.object.now) (c.requires.home v)
    ∙ sym (ap length c.in_ok-pairs.ensures.has)
