-- What is found of objects.
use Rattle.std.specs.Prelude.{ℕ, Option, if◌then◌else◌}
use Rattle.type_layout.specs.declared.home.HomeNo.{HomeNo}
use Rattle.type_layout.specs.declared.schema.Schema.{Schema}
use Rattle.type_layout.specs.Schemas.{given, descends}
use Rattle.pss_catalog.specs.Catalog.{Object}
use Rattle.pss_machine.specs.Operations.{PlainAnswer, Found, NotFound}
use Rattle.pss_machine.specs.Alone.{pid_at}

-- the object with this serial, where it is of the home or of one derived from it
abbrev pub found_below : Schema → HomeNo → ℕ → Option Object → PlainAnswer
found_below S home serial state = given state NotFound (λ object. if descends S object.home home then Found (pid_at serial object) else NotFound)
