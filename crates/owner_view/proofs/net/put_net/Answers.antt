use Rattle.std.proofs.Common.{◌++◌, ◌+◌, List, Option, sym, subst, ◌∙◌, get_or}
use Rattle.std.specs.Prelude.{filter}
use Rattle.pss_catalog.specs.Catalog.{Object}
use Rattle.pss_catalog.specs.Changes.{Change as Step}
use Rattle.storage_home.specs.declared.change.Change.{Change}
use Rattle.storage_home.specs.Changes.{least_next}
use Rattle.owner_view.specs.Net.{is_net, AreNet, IsNetIn}
use Rattle.owner_view.specs.States.{told_state}
use Rattle.owner_view.specs.Stored.{Shows}
use Rattle.owner_view.proofs.Nets.{begun_turn, begun_ends, behind_all, rise_turn}
use Rattle.owner_view.proofs.Ordered.{slots_of, rest, here, turns, ends, told_slot, slots_rise, listed_slots}
use Rattle.owner_view.proofs.Told.{told_in, SlotsRise}
use Rattle.owner_view.proofs.net.put_net.Goals as goal

pub net_in-requires-clause-fits : goal.net_in-requires-clause-fits
net_in-requires-clause-fits g c x is = c.requires.shows.fits _ x (sym c.told.ensures ∙ is)

pub put_change-requires : goal.put_change-requires
put_change-requires g c =
    let S = c.args.view.now.schema.now in
    let v = c.requires.shows in
    let es = c.args.view.now.overlay.now.states in
    let ss = c.args.serials.now in
    let i = c.loop-serial.serial-index in
    let net = subst (λ (o : Option (Option Object)). IsNetIn S v.catalog (get_or ss i 0) o c.in_ok-change.change) (told_slot es (get_or ss i 0) (told_state c.told.result) c.told.ensures) (c.in_ok-change.ensures v) in
    behind_all S v.catalog (here es ss i) (rest es ss i) (rest es ss (i + 1)) c.loop-serial.changes c.in_ok-change.change (turns es ss i c.loop-serial-test.true) c.loop-serial.invariant.0 net

pub loop-serial-init : goal.loop-serial-init
loop-serial-init g c =
    let es = c.args.view.now.overlay.now.states in
    let ss = c.args.serials.now in (
      subst (λ (l : List Change). SlotsRise (least_next 0 l) (rest es ss 0)) (sym c.requires.none) (slots_rise es 0 ss c.requires.order.rise),
      λ v more net. subst (λ (l : List Change). AreNet c.args.view.now.schema.now v.catalog (filter (is_net v.catalog) (told_in (slots_of es ss))) (l ++ more)) (sym c.requires.none) net,
    )

pub loop-serial-preserved : goal.loop-serial-preserved
loop-serial-preserved g c =
    let S = c.args.view.now.schema.now in
    let es = c.args.view.now.overlay.now.states in
    let ss = c.args.serials.now in
    let i = c.loop-serial.serial-index in
    let step = turns es ss i c.loop-serial-test.true in
    let net = λ (v : Shows g.C.Committed.shows c.args.view.now). subst (λ (o : Option (Option Object)). IsNetIn S v.catalog (get_or ss i 0) o c.in_ok-change.change) (told_slot es (get_or ss i 0) (told_state c.told.result) c.told.ensures) (c.in_ok-change.ensures v) in (
      rise_turn S c.requires.shows.catalog (here es ss i) (rest es ss i) (rest es ss (i + 1)) c.loop-serial.changes c.put_change.new.changes c.in_ok-change.change step c.loop-serial.invariant.0 (net c.requires.shows) c.in_ok-put_change.ensures,
      λ v. begun_turn S v.catalog (told_in (slots_of es ss)) (here es ss i) (rest es ss i) (rest es ss (i + 1)) c.loop-serial.changes c.put_change.new.changes c.in_ok-change.change step (net v) c.in_ok-put_change.ensures (c.loop-serial.invariant.1 v),
    )

pub returns : goal.returns
returns g c v =
    let S = c.args.view.now.schema.now in
    let es = c.args.view.now.overlay.now.states in
    let ss = c.args.serials.now in
    let i = c.loop-serial.serial-index in
    subst (λ (l : List Step). AreNet S v.catalog (filter (is_net v.catalog) l) c.loop-serial.changes) (sym (listed_slots es ss c.requires.order))
    (begun_ends S v.catalog (told_in (slots_of es ss)) (rest es ss i) c.loop-serial.changes (ends es ss i c.loop-serial-test.false) (c.loop-serial.invariant.1 v))
