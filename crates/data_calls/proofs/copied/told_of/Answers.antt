use Rattle.std.proofs.Common.{◌≡◌, None, Some, ◌∙◌}
use Rattle.pss_catalog.specs.Catalog.{Catalog}
use Rattle.pss_machine.specs.Operations.{plain_op}
use Rattle.pss_machine.specs.Owners.{view}
use Rattle.pss_machine.specs.Kept.{Kept, copies_of}
use Rattle.pss_machine.specs.Stepping.{told_by_copy}
use Rattle.pss_asking.specs.Telling.{plain_asked}
use Rattle.connector_parts.specs.Stands.{IsAt}
use Rattle.connector_parts.proofs.Tellings.{if_ok}
use Rattle.data_calls.specs.declared.copied.Told.{Told}
use Rattle.data_calls.specs.Acting.{IsActing}
use Rattle.data_calls.specs.Copied.{told_as, copy_tells}
use Rattle.data_calls.proofs.Steps.{copied_as}
use Rattle.data_calls.proofs.copied.told_of.Goals as goal

pub returns-in-Some : goal.returns-in-Some
returns-in-Some c =
    if_ok (λ (told : Told). (M : Catalog) → told_as M told ≡ told_by_copy M c.in-Some.values.now (plain_op c.args.asked.now.op))
    (λ (told : Told). (k : Kept) (is : IsActing k c.args.acting) → IsAt c.args.parts.now k → copy_tells k is (plain_asked c.args.asked.now) told) c.told_by.result
    (λ told h k is at. h (view k.catalog is.owner) ∙ copied_as k.catalog is.owner (copies_of k c.args.acting.session) (plain_asked c.args.asked.now) c.args.acting.basic is.level (Some c.in-Some.values.now) (c.in-Some.ensures k at))
    c.told_by.ensures

pub returns-in-None : goal.returns-in-None
returns-in-None c k is at = copied_as k.catalog is.owner (copies_of k c.args.acting.session) (plain_asked c.args.asked.now) c.args.acting.basic is.level None (c.in-None.ensures k at)
