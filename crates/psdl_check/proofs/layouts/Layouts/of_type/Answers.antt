use Rattle.std.proofs.Common.{◌∙◌, List, length, ap, sym, subst}
use Rattle.std.specs.List.{flat_map}
use Rattle.std.specs.Option.{option_map}
use Rattle.psdl_directory.specs.Declarations.{Declaration}
use Rattle.psdl_members.specs.Bodies.{own_members}
use Rattle.psdl_rules.specs.Layouts.{layout}
use Rattle.psdl_rules.specs.inner.Typed.{HaveMembers}
use Rattle.psdl_standings.specs.Standings.{all_there, standings}
use Rattle.psdl_standings.specs.States.{own_types}
use Rattle.psdl_standings.specs.Texts.{types_in}
use Rattle.psdl_check.specs.inner.Texts.{text_in}
use Rattle.psdl_check.specs.inner.TypedMembers.{laid, AreThere, typed_views}
use Rattle.psdl_check.proofs.Stating.{layout_is, with_types, without_types, some_of}
use Rattle.psdl_check.proofs.layouts.Layouts.of_type.Goals as goal

pub returns-in-Some-clause-there : goal.returns-in-Some-clause-there
returns-in-Some-clause-there c =
    some_of (λ v. AreThere (length (types_in c.args.text.now.standings.now)) (length (text_in c.args.text.now)) v.items) c.in_ok-typed.field-0 c.in-Some.typed c.in_ok-typed.ensures.there c.in-Some.is

pub returns-in-Some-clause-members : goal.returns-in-Some-clause-members
returns-in-Some-clause-members c homes =
    let all = text_in c.args.text.now in
    let types = types_in c.args.text.now.standings.now in
    let s = c.args.self.now.sources in
    let bodies = c.deref.result.now in
    with_types (all_there (laid (flat_map (own_members all) bodies) (flat_map (own_types all homes) bodies))) (layout all (standings all) homes c.args.number)
    (option_map (λ v. typed_views types homes v.items) c.in_ok-typed.field-0) (typed_views types homes c.in-Some.typed.items) (c.in_ok-typed.ensures.views homes)
    (rw c.deref.ensures.value (layout_is all homes s c.args.number c.in_ok-bodies.bodies.items (subst (λ (d : List Declaration). HaveMembers d s) c.requires.text c.args.self.now.have) c.in_ok-bodies.ensures.sources))
    (ap (option_map (λ v. typed_views types homes v.items)) (sym c.in-Some.is))

pub returns-clause-members : goal.returns-clause-members
returns-clause-members c homes =
    let all = text_in c.args.text.now in
    let types = types_in c.args.text.now.standings.now in
    let s = c.args.self.now.sources in
    let bodies = c.deref.result.now in
    without_types (all_there (laid (flat_map (own_members all) bodies) (flat_map (own_types all homes) bodies))) (layout all (standings all) homes c.args.number) (typed_views types homes c.new.result.items)
    (ap (option_map (λ v. typed_views types homes v.items)) (sym c.in-None.is) ∙ c.in_ok-typed.ensures.views homes)
    (rw c.deref.ensures.value (layout_is all homes s c.args.number c.in_ok-bodies.bodies.items (subst (λ (d : List Declaration). HaveMembers d s) c.requires.text c.args.self.now.have) c.in_ok-bodies.ensures.sources))
    (ap (typed_views types homes) c.new.ensures.items)
