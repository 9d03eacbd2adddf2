use Rattle.std.proofs.Common.{sym, ap, subst}
use Rattle.pss_catalog.specs.Catalog.{Object}
use Rattle.type_layout.specs.Views.{plain_value}
use Rattle.pss_machine.specs.Alone.{object_of}
use Rattle.cdr_codec.proofs.Members.{if_ok}
use Rattle.owner_view.specs.Overlay.{changes_in}
use Rattle.owner_view.specs.Seen.{Fits, plain_object}
use Rattle.owner_view.specs.Views.{seen_with}
use Rattle.owner_view.proofs.Setting.{shown_as, seen_at, home_is, set_fits, set_home, set_is}
use Rattle.owner_view.proofs.set.set_seen.Goals as goal

pub changed-requires-clause-shown : goal.changed-requires-clause-shown
changed-requires-clause-shown g c =
    let v = c.requires.sees in
    shown_as c.args.view.now.schema.now (object_of (seen_with v.catalog (changes_in c.args.view.now.overlay.now)) c.args.setting.now.pid) c.args.seen (c.requires.seen v)

pub changed-requires-clause-home : goal.changed-requires-clause-home
changed-requires-clause-home g c =
    let v = c.requires.sees in
    home_is c.args.view.now.schema.now (seen_with v.catalog (changes_in c.args.view.now.overlay.now)) c.args.setting.now.pid c.args.seen (c.requires.seen v)

pub set_to-requires-clause-fits : goal.set_to-requires-clause-fits
set_to-requires-clause-fits g c =
    let v = c.requires.sees in
    let S = c.args.view.now.schema.now in
    let seen = seen_with v.catalog (changes_in c.args.view.now.overlay.now) in
    let there = c.requires.seen v in
    let s = shown_as S (object_of seen c.args.setting.now.pid) c.args.seen there in
    subst (Fits S) (sym (c.in_ok-object.ensures.object s))
    (set_fits S c.args.setting.now.pid c.args.setting.now.member (plain_value c.args.setting.now.value.now) c.requires.fits c.args.seen (home_is S seen c.args.setting.now.pid c.args.seen there) s)

pub set_to-requires-clause-found : goal.set_to-requires-clause-found
set_to-requires-clause-found g c v = seen_at c.args.view.now.schema.now (seen_with v.catalog (changes_in c.args.view.now.overlay.now)) c.args.setting.now.pid c.args.seen (c.requires.seen v)

pub set_to-requires-clause-home : goal.set_to-requires-clause-home
set_to-requires-clause-home g c v =
    let seen = seen_with v.catalog (changes_in c.args.view.now.overlay.now) in
    let there = c.requires.seen v in
    set_home c.args.view.now.schema.now seen c.args.setting.now.pid c.args.seen there (plain_object c.in_ok-object.object)
    (ap (λ (o : Object). o.home) (c.in_ok-object.ensures.object (shown_as c.args.view.now.schema.now (object_of seen c.args.setting.now.pid) c.args.seen there)))

pub returns : goal.returns
returns g c = if_ok c.set_to.result _ _
    (λ step is v.
    let seen = seen_with v.catalog (changes_in c.args.view.now.overlay.now) in
    let there = c.requires.seen v in
    set_is c.args.view.now.schema.now c.args.level seen c.args.setting.now.pid c.args.setting.now.member (plain_value c.args.setting.now.value.now) there.0 (plain_object c.in_ok-object.object) c.args.references.now step there.1
    (c.in_ok-object.ensures.object (shown_as c.args.view.now.schema.now (object_of seen c.args.setting.now.pid) c.args.seen there)) c.requires.references (is v))
    c.set_to.ensures
