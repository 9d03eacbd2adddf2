-- Operations that name what the schema has.
use Rattle.std.specs.Prelude.{◌<◌, length}
use Rattle.type_layout.specs.declared.schema.Schema.{Schema}
use Rattle.type_layout.specs.Schemas.{members_at}
use Rattle.pss_machine.specs.Homes.{home_of}
use Rattle.pss_machine.specs.Operations.{Question, Get, Follow, PlainOp, Create, Set, Destroy, Ask}
use Rattle.owner_view.specs.Seen.{Fits, FitsMember}

-- a member that is read is one of the pid's home
abbrev pub FitsQuestion : Schema → Question → Type 0
FitsQuestion S (Get p member) = member < length (members_at S (home_of p))
FitsQuestion S (Follow p member) = member < length (members_at S (home_of p))
FitsQuestion S _ = Unit {0}

-- a new object is a record of its home, and a new value is of its member's type
abbrev pub FitsOp : Schema → PlainOp → Type 0
FitsOp S (Create serial object) = Fits S object
FitsOp S (Set p member value) = FitsMember S p member value
FitsOp S (Destroy p) = Unit {0}
FitsOp S (Ask question) = FitsQuestion S question
