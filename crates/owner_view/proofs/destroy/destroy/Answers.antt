use Rattle.cdr_codec.proofs.Members.{if_ok}
use Rattle.owner_view.specs.Overlay.{changes_in}
use Rattle.owner_view.specs.Seen.{home_seen}
use Rattle.owner_view.specs.Views.{seen_with}
use Rattle.owner_view.proofs.Showing.{home_shown}
use Rattle.owner_view.proofs.Removing.{removal_is}
use Rattle.owner_view.proofs.Setting.{seen_at}
use Rattle.owner_view.proofs.destroy.destroy.Goals as goal

pub removal-requires-clause-found : goal.removal-requires-clause-found
removal-requires-clause-found g c v = seen_at c.args.view.now.schema.now (seen_with v.catalog (changes_in c.args.view.now.overlay.now)) c.args.pid c.in-Some.seen (c.in-Some.ensures v)

pub returns-in-Some : goal.returns-in-Some
returns-in-Some g c = if_ok c.removal.result _ _
    (λ step is v.
    let there = c.in-Some.ensures v in
    removal_is c.args.view.now.schema.now c.args.level (seen_with v.catalog (changes_in c.args.view.now.overlay.now)) c.args.pid there.0 (home_seen c.in-Some.seen) step there.1
    (home_shown c.args.view.now.schema.now c.in-Some.seen (record { object = there.0; fits = there.2; is = there.3 })) (is v))
    c.removal.ensures
