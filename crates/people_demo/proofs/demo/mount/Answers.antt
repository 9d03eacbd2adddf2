use Rattle.std.proofs.Common.{IfSome, subst, sym}
use Rattle.type_layout.specs.declared.schema.Schema.{Schema}
use Rattle.pss_recovery.specs.Mounts.{HasMounted}
use Rattle.pss_recovery.specs.Stands.{IsRefusal}
use Rattle.people_demo.specs.declared.demo.DemoStop.{DemoStop}
use Rattle.people_demo.specs.inner.Begun.{ShowsNothing}
use Rattle.people_demo.proofs.Beginning.{made_is, not_begun, sound_as}
use Rattle.people_demo.proofs.demo.mount.Goals as goal

pub mount-requires : goal.mount-requires
mount-requires g c = sound_as c.args.schema.now c.requires.schema

pub returns-in-Ok-clause-made : goal.returns-in-Ok-clause-made
returns-in-Ok-clause-made g c =
    let old = g.W.Station.content c.args.station.now in
    let new = g.W.Station.content c.mount.new.w in
    made_is c.an_image_is_one_thing.ensures c.in-Ok.mounted old new (subst (λ (S : Schema). HasMounted S c.in-Ok.mounted old new) c.requires.schema c.in-Ok.ensures.mounted) c.in-Ok.ensures.content

pub returns-in-Err-clause-ended : goal.returns-in-Err-clause-ended
returns-in-Err-clause-ended g c = λ held is.
    let old = g.W.Station.content c.args.station.now in
    let new = g.W.Station.content c.mount.new.w in
    let refused = subst (λ (S : Schema). IfSome old (IsRefusal S c.in-Err.fault)) c.requires.schema c.in-Err.ensures.refused in
    subst (λ (why : DemoStop). ShowsNothing why held new) (sym c.of_mount.ensures) (not_begun c.an_image_is_one_thing.ensures c.in-Err.fault old new refused held is)
