use Rattle.std.proofs.Common.{◌∙◌, Some, None, sym}
use Rattle.psdl_lineage.specs.Descent.{concrete_homes}
use Rattle.psdl_check.specs.Faults.{passing}
use Rattle.psdl_check.specs.Schemas.{schema}
use Rattle.psdl_check.specs.inner.Made.{AreMade}
use Rattle.psdl_check.specs.inner.Texts.{text_in}
use Rattle.psdl_check.proofs.Judging.{none_then, passing_declared, shape_is, schema_made}
use Rattle.psdl_check.proofs.schemas.make_schema.Goals as goal

pub returns-in-Some : goal.returns-in-Some
returns-in-Some c =
    let all = text_in c.args.text.now in
    (passing_declared all (passing (schema all)) c.in-Some.home (sym c.in_ok-passes.ensures.passing ∙ c.in-Some.is), shape_is all (Some c.in-Some.home) c.in_ok-passes.passes c.in_ok-passes.ensures.passing c.in-Some.is)

pub returns-in_ok-provided-in-None : goal.returns-in_ok-provided-in-None
returns-in_ok-provided-in-None c =
    let all = text_in c.args.text.now in
    let made = none_then c.in_ok-passes.passes (AreMade all (concrete_homes all) c.add_homes.new.making) c.in-None.is c.in_ok-passes.ensures.made in (
      schema_made all c.schema_with.result (c.schema_with.ensures.homes ∙ made.homes_made) (c.schema_with.ensures.keys ∙ made.keys.list) (c.schema_with.ensures.provided ∙ c.in_ok-provided-in-None.ensures),
      shape_is all None c.in_ok-passes.passes c.in_ok-passes.ensures.passing c.in-None.is,
    )
