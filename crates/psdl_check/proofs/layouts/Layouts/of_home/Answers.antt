use Rattle.std.proofs.Common.{◌≡◌, ◌∙◌, [], ℕ, List, Option, sym, subst, IfOk}
use Rattle.std.specs.Option.{option_and_then}
use Rattle.type_layout.specs.declared.home.HomeNo.{HomeNo}
use Rattle.type_layout.specs.Schemas.{given}
use Rattle.psdl_rules.specs.Layouts.{layout}
use Rattle.psdl_standings.specs.Standings.{standings}
use Rattle.psdl_standings.specs.Texts.{types_in}
use Rattle.psdl_check.specs.inner.Texts.{text_in}
use Rattle.psdl_check.specs.inner.TypedMembers.{typed_views}
use Rattle.psdl_check.proofs.layouts.Layouts.of_home.Goals as goal

pub returns-in-Some-clause-members : goal.returns-in-Some-clause-members
returns-in-Some-clause-members c =
    let all = text_in c.args.text.now in
    subst
    (λ (o : Option ℕ). IfOk c.of_type.result (λ v. (homes : ℕ → List HomeNo) → typed_views (types_in c.args.text.now.standings.now) homes v.items ≡ given (option_and_then (layout all (standings all) homes) o) [] (λ ms. ms)))
    (sym c.in-Some.is ∙ c.type_of_home.ensures) c.of_type.ensures.members
