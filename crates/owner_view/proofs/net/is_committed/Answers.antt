use Rattle.std.proofs.Common.{◌≡◌, Some, sym, ap, ◌∙◌}
use Rattle.std.proofs.lemmas.Bool.{eqb-true}
use Rattle.pss_machine.specs.Same.{same_state}
use Rattle.owner_view.proofs.Nets.{told_by_octets}
use Rattle.owner_view.proofs.net.is_committed.Goals as goal

pub returns-then-eq : goal.returns-then-eq
returns-then-eq g c v object fits home octets =
    let S = c.args.view.now.schema.now in
    let there = c.in-Some.ensures S v.catalog v.shown in
    let fits_there = g.met.C.Committed.fits c.args.view.now.committed.now S v.catalog v.shown c.args.serial there.0 there.1 in
    let number : c.in-Some.found.0 ≡ c.args.home.0 = eqb-true c.in-Some.found.0 c.args.home.0 (sym c.eq.ensures ∙ c.if-eq.true) in
    let same : object.home ≡ there.0.home = sym home ∙ (λ i. record { 0 = sym number i }) ∙ there.2 in
    c.eq-then-eq.ensures ∙ told_by_octets S object there.0 fits fits_there same c.in-Some.octets.now c.args.bytes.now there.3 octets ∙ ap (same_state (Some object)) (sym there.1)
