-- A run that is worked out: of two serializable transactions, and of a basic session that flushes between them.
use Rattle.std.specs.Prelude.{ℕ, ◌≡◌, List, [], ◌∷◌, codes, None, Some, true, false}
use Rattle.std.specs.FinMap.{empty}
use Rattle.type_layout.specs.declared.home.HomeNo.{HomeNo}
use Rattle.type_layout.specs.declared.schema.Schema.{Schema}
use Rattle.pss_catalog.specs.Catalog.{Object, Catalog}
use Rattle.pss_catalog.specs.Changes.{Change, over}
use Rattle.pss_machine.specs.Limits.{standard}
use Rattle.pss_machine.specs.declared.level.Level.TheVariants.{Serializable, Basic}
use Rattle.pss_machine.specs.declared.command.Command.{Command}
use Rattle.pss_machine.specs.declared.command.Command.TheVariants as command
use Rattle.pss_machine.specs.Operations.{PlainOp, Create, Ask, Count, PlainAnswer, Found, Number}
use Rattle.pss_machine.specs.Alone.{alone}
use Rattle.pss_machine.specs.Beside.{Member, Traced}
use Rattle.pss_machine.specs.Run.{Said, Says, Machine, first, run}

-- one home, `H`, whose objects have no members
unfoldable pub marks : Schema
marks = record { homes = record { name = codes "H"; base = None; layout = record { members = [] }; keys = []; factories = [] } ∷ []; keys = []; provided = [] }

abbrev pub mark_home : HomeNo
mark_home = record { 0 = 1 }

abbrev pub mark : Object
mark = record { home = mark_home; values = [] }

-- `open a basic rw`, `open b tx rw`
unfoldable pub opens_a : Command
opens_a = command.OpenSession (codes "a") false true

unfoldable pub opens_b : Command
opens_b = command.OpenSession (codes "b") true true

-- `begin t SERIALIZABLE`, and b acts for it: `start b t`, `create b H`, `end b ok`, `commit t`
unfoldable pub begins_t : Command
begins_t = command.Begin (codes "t") true

unfoldable pub starts_t : Command
starts_t = command.Start (codes "b") (codes "t")

unfoldable pub creates_b : Command
creates_b = command.Create (codes "b") (codes "H") (record { column = 11; text = [] })

unfoldable pub ends_b : Command
ends_b = command.End (codes "b") true

unfoldable pub commits_t : Command
commits_t = command.Commit (codes "t")

-- `create a H`, `flush a`
unfoldable pub creates_a : Command
creates_a = command.Create (codes "a") (codes "H") (record { column = 11; text = [] })

unfoldable pub flushes_a : Command
flushes_a = command.Flush (codes "a")

-- `begin u SERIALIZABLE`, and b acts for it: `start b u`, `count b H`, `end b ok`, `commit u`
unfoldable pub begins_u : Command
begins_u = command.Begin (codes "u") true

unfoldable pub starts_u : Command
starts_u = command.Start (codes "b") (codes "u")

unfoldable pub counts_b : Command
counts_b = command.Count (codes "b") (codes "H")

unfoldable pub commits_u : Command
commits_u = command.Commit (codes "u")

unfoldable pub lines : List Said
lines =
    Says opens_a
    ∷ Says opens_b
    ∷ Says begins_t
    ∷ Says starts_t
    ∷ Says creates_b
    ∷ Says ends_b
    ∷ Says commits_t
    ∷ Says creates_a
    ∷ Says flushes_a
    ∷ Says begins_u
    ∷ Says starts_u
    ∷ Says counts_b
    ∷ Says ends_b
    ∷ Says commits_u
    ∷ []

unfoldable pub worked : Machine
worked = run marks standard (first empty 1) lines

-- ---- what was committed and answered

abbrev pub creating : ℕ → PlainOp
creating serial = Create serial mark

abbrev pub counting : PlainOp
counting = Ask (Count mark_home)

abbrev pub found : ℕ → PlainAnswer
found serial = Found (record { home = 1; serial = serial })

abbrev pub came : ℕ → Change
came serial = record { serial = serial; state = Some mark }

abbrev pub history : List Member
history =
    record { name = codes "t"; level = Serializable; done = record { op = creating 1; answer = found 1 } ∷ []; changes = came 1 ∷ [] }
    ∷ record { name = codes "a"; level = Basic; done = record { op = creating 2; answer = found 2 } ∷ []; changes = came 2 ∷ [] }
    ∷ record { name = codes "u"; level = Serializable; done = record { op = counting; answer = Number 2 } ∷ []; changes = [] }
    ∷ []

abbrev pub trace : List Traced
trace =
    record { owner = record { 0 = 2 }; level = Serializable; op = creating 1; answer = found 1; commits = 0; before = [] }
    ∷ record { owner = record { 0 = 1 }; level = Basic; op = creating 2; answer = found 2; commits = 1; before = [] }
    ∷ record { owner = record { 0 = 3 }; level = Serializable; op = counting; answer = Number 2; commits = 2; before = [] }
    ∷ []

abbrev pub HistoryIsWorked : Type 0
HistoryIsWorked = worked.lists.history ≡ history

abbrev pub TraceIsWorked : Type 0
TraceIsWorked = worked.lists.trace ≡ trace

-- ---- what the law of serial runs says of it

-- no object is there, then that of the first commit, then those of two
abbrev pub none : Catalog
none = empty

abbrev pub one : Catalog
one = over none (came 1 ∷ [])

abbrev pub two : Catalog
two = over one (came 2 ∷ [])

-- `t` by itself, where no object is there, is answered with its object and leaves it alone
abbrev pub FirstIsAlone : Type 0
FirstIsAlone = ((alone marks none (creating 1)).answer ≡ found 1) × (over none (alone marks none (creating 1)).changes ≡ one)

-- `u` by itself, where those of both commits before it are, counts two and leaves them
abbrev pub LastIsAlone : Type 0
LastIsAlone = ((alone marks two counting).answer ≡ Number 2) × (over two (alone marks two counting).changes ≡ two)

-- the objects of the first two commits are those that are there at the end
abbrev pub CatalogIsWorked : Type 0
CatalogIsWorked = worked.kept.catalog ≡ two
