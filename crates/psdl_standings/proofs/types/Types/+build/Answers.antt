use Rattle.std.proofs.Common.{length}
use Rattle.psdl_standings.proofs.SmallTypes.{field_falls, field_there, small_field}
use Rattle.psdl_standings.proofs.types.Types.+build.Goals as goal

pub build_fields-build-requires : goal.build_fields-build-requires
build_fields-build-requires t c =
    let fields = c.args.fields.now in
    let i = c.loop-field.field-index in (
      field_falls t c.args.limit fields i _ c.decreases c.loop-field-test.true c.requires.fields,
      (field_there (length c.args.self.now) c.args.limit fields i _ c.loop-field-test.true c.requires.fields c.requires.limit, small_field c.args.self.now fields i _ c.loop-field-test.true c.requires.small),
    )
