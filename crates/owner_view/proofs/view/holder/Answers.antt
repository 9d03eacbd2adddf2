use Rattle.std.proofs.Common.{None, sym, subst}
use Rattle.owner_view.specs.Overlay.{changes_in}
use Rattle.owner_view.specs.Views.{seen_with, IsOwnHolder, IsHolder}
use Rattle.owner_view.proofs.Holding.{holder_seen}
use Rattle.owner_view.proofs.Viewing.{own_holds}
use Rattle.owner_view.proofs.view.holder.Goals as goal

pub returns-in-Some : goal.returns-in-Some
returns-in-Some g c v =
    own_holds c.args.view.now.schema.now v.catalog (changes_in c.args.view.now.overlay.now) c.args.key c.args.bytes.now c.in-Some.serial
    (subst (IsOwnHolder c.args.view.now.schema.now (changes_in c.args.view.now.overlay.now) c.args.key c.args.bytes.now) (sym c.in-Some.ensures) (v.holders c.args.key c.args.bytes.now))

pub returns-in-None : goal.returns-in-None
returns-in-None g c v =
    subst (IsHolder c.args.view.now.schema.now (seen_with v.catalog (changes_in c.args.view.now.overlay.now)) c.args.key c.args.bytes.now) (sym c.unchanged.ensures)
    (holder_seen c.args.view.now.schema.now v.catalog (changes_in c.args.view.now.overlay.now) c.args.key c.args.bytes.now (g.met.C.Committed.unique c.args.view.now.committed.now c.args.view.now.schema.now v.catalog v.shown) None c.holder-in-None.result
    (subst (IsOwnHolder c.args.view.now.schema.now (changes_in c.args.view.now.overlay.now) c.args.key c.args.bytes.now) (sym c.in-None.ensures) (v.holders c.args.key c.args.bytes.now))
    (c.holder-in-None.ensures c.args.view.now.schema.now v.catalog v.shown))
