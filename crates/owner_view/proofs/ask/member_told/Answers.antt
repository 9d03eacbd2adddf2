use Rattle.type_layout.specs.Views.{plain_value}
use Rattle.pss_machine.specs.Alone.{object_of}
use Rattle.owner_view.specs.Overlay.{changes_in}
use Rattle.owner_view.specs.Views.{seen_with}
use Rattle.owner_view.proofs.Asking.{member_within, value_told}
use Rattle.owner_view.proofs.Setting.{shown_as}
use Rattle.owner_view.proofs.ask.member_told.Goals as goal

pub member_of-requires-clause-shown : goal.member_of-requires-clause-shown
member_of-requires-clause-shown g c =
    let v = c.requires.sees in
    shown_as c.args.view.now.schema.now (object_of (seen_with v.catalog (changes_in c.args.view.now.overlay.now)) c.args.pid) c.in-Some.seen (c.in-Some.ensures v)

pub member_of-requires-clause-there : goal.member_of-requires-clause-there
member_of-requires-clause-there g c =
    let v = c.requires.sees in
    member_within c.args.view.now.schema.now (seen_with v.catalog (changes_in c.args.view.now.overlay.now)) c.args.pid c.args.member c.in-Some.seen (c.in-Some.ensures v) c.requires.there

pub returns-in_ok-member_of-in-Some : goal.returns-in_ok-member_of-in-Some
returns-in_ok-member_of-in-Some g c v =
    let seen = seen_with v.catalog (changes_in c.args.view.now.overlay.now) in
    let there = c.in-Some.ensures v in
    value_told c.args.view.now.schema.now seen c.args.pid c.args.member c.in-Some.seen there (plain_value c.in_ok-member_of-in-Some.field-0) (c.in_ok-member_of-in-Some.ensures (shown_as c.args.view.now.schema.now (object_of seen c.args.pid) c.in-Some.seen there))
