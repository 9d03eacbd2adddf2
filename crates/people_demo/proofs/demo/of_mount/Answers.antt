use Rattle.std.proofs.Common.{◌∙◌, ap, sym}
use Rattle.people_demo.specs.inner.Begun.{of_mount}
use Rattle.people_demo.proofs.Unmounted.{refused, stopped}
use Rattle.people_demo.proofs.demo.of_mount.Goals as goal

pub returns-in-Ok : goal.returns-in-Ok
returns-in-Ok c = sym (ap of_mount c.in-Ok.ensures.refused ∙ refused c.in-Ok.why)

pub returns-in-Err : goal.returns-in-Err
returns-in-Err c = c.of_store.ensures ∙ sym (ap of_mount c.in-Err.ensures.stopped ∙ stopped c.in-Err.stop)
