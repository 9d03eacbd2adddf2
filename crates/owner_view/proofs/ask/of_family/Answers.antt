use Rattle.std.proofs.Common.{◌≡◌, ℕ, Option, sym, ap, subst, ◌∙◌}
use Rattle.std.specs.Prelude.{IsSome, if◌then◌else◌}
use Rattle.std.specs.Option.{is_some}
use Rattle.type_layout.specs.declared.home.HomeNo.{HomeNo}
use Rattle.type_layout.specs.declared.schema.Schema.{Schema}
use Rattle.type_layout.specs.Schemas.{given, home_at}
use Rattle.pss_catalog.specs.Catalog.{Object}
use Rattle.pss_machine.specs.Homes.{in_one_family}
use Rattle.pss_machine.specs.Operations.{PlainAnswer, Found, NotFound}
use Rattle.owner_view.specs.Overlay.{changes_in}
use Rattle.owner_view.specs.Views.{seen_with}
use Rattle.owner_view.proofs.Showing.{home_shown}
use Rattle.owner_view.proofs.Viewing.{shows_of, shown_at}
use Rattle.owner_view.proofs.ask.of_family.Goals as goal

-- what is told of an object of a home
abbrev kin_told : Schema → HomeNo → ℕ → HomeNo → PlainAnswer
kin_told S of serial home = if in_one_family S home of then Found (record { home = home.0; serial = serial }) else NotFound

pub object_at-requires : goal.object_at-requires
object_at-requires g c = shows_of c.requires

pub kin-requires-clause-there : goal.kin-requires-clause-there
kin-requires-clause-there g c =
    let v = c.requires in
    let there = c.in-Some.ensures (shows_of v) in
    let S = c.args.view.now.schema.now in
    let same : c.home_of.result ≡ there.0.home = c.home_of.ensures ∙ home_shown S c.in-Some.seen (shown_at S (seen_with v.catalog (changes_in c.args.view.now.overlay.now)) c.args.serial c.in-Some.seen there) in
    subst (λ (h : HomeNo). IsSome (home_at S h)) (sym same) (ap is_some there.2.there)

pub returns-in-Some : goal.returns-in-Some
returns-in-Some g c v =
    let there = c.in-Some.ensures (shows_of v) in
    let S = c.args.view.now.schema.now in
    let same : c.home_of.result ≡ there.0.home = c.home_of.ensures ∙ home_shown S c.in-Some.seen (shown_at S (seen_with v.catalog (changes_in c.args.view.now.overlay.now)) c.args.serial c.in-Some.seen there) in
    c.kin.ensures ∙ ap (kin_told S c.args.home c.args.serial) same ∙ sym (ap (λ (o : Option Object). given o NotFound (λ object. kin_told S c.args.home c.args.serial object.home)) there.1)

pub returns-in-None : goal.returns-in-None
returns-in-None g c v = sym (ap (λ (o : Option Object). given o NotFound (λ object. kin_told c.args.view.now.schema.now c.args.home c.args.serial object.home)) (c.in-None.ensures (shows_of v)))
