use Rattle.std.proofs.Common.{◌≡◌, Some, sym, ap, ◌∙◌}
use Rattle.std.specs.Option.{option_map}
use Rattle.type_layout.specs.declared.home.HomeNo.{HomeNo}
use Rattle.pss_machine.specs.Alone.{pid_at}
use Rattle.owner_view.specs.Overlay.{changes_in}
use Rattle.owner_view.specs.Views.{seen_with}
use Rattle.owner_view.proofs.Showing.{home_shown}
use Rattle.owner_view.proofs.Viewing.{shows_of, shown_at}
use Rattle.owner_view.proofs.ask.pid_at.Goals as goal

pub object_at-requires : goal.object_at-requires
object_at-requires g c = shows_of c.requires

pub returns-in-Some : goal.returns-in-Some
returns-in-Some g c v =
    let there = c.in-Some.ensures (shows_of v) in
    let S = c.args.view.now.schema.now in
    let same : c.home_of.result ≡ there.0.home = c.home_of.ensures ∙ home_shown S c.in-Some.seen (shown_at S (seen_with v.catalog (changes_in c.args.view.now.overlay.now)) c.args.serial c.in-Some.seen there) in
    ap (λ (h : HomeNo). Some (record { home = h.0; serial = c.args.serial })) same ∙ sym (ap (option_map (pid_at c.args.serial)) there.1)

pub returns-in-None : goal.returns-in-None
returns-in-None g c v = sym (ap (option_map (pid_at c.args.serial)) (c.in-None.ensures (shows_of v)))
