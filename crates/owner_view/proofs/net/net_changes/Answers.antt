use Rattle.owner_view.specs.Overlay.{changes_in}
use Rattle.owner_view.proofs.Commits.{net_wanted}
use Rattle.std.proofs.lemmas.Result.{IfOk-weaker}
use Rattle.owner_view.proofs.net.net_changes.Goals as goal

pub returns-clause-wanted : goal.returns-clause-wanted
returns-clause-wanted g c = IfOk-weaker c.net_all.result _ _
    (λ changes net v.
    let S = c.args.view.now.schema.now in
    net_wanted S v.catalog v.sound (g.met.C.Committed.fits c.args.view.now.committed.now S v.catalog v.shown) (changes_in c.args.view.now.overlay.now) changes v.fits (net v))
    c.net_all.ensures
