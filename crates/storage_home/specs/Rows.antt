-- The objects and the reservations that the rows of serials stand for.
use Rattle.std.specs.Prelude.{ℕ, ◌≡◌, ◌/◌, ◌%◌, List, Option, None, Bool, true, false, cond, get_or, ◌==◌}
use Rattle.std.specs.Map.{lookup}
use Rattle.type_layout.specs.Schemas.{given}
use Rattle.storage_home.specs.declared.rows.Stored.{Stored}
use Rattle.storage_home.specs.declared.rows.Row.{Row}

-- the rows of 64 neighbouring serials, by the number of these 64
abbrev pub Chunks : Type 0
Chunks = List (ℕ × List (Option Row))

abbrev pub chunk_at : ℕ → Chunks → Option (List (Option Row))
chunk_at n es = lookup (λ t. n == t) es

abbrev pub cell_in : Option (List (Option Row)) → ℕ → Option Row
cell_in chunk place = given chunk None (λ cells. get_or cells place None)

-- the row of a serial
abbrev pub row_at : ℕ → Chunks → Option Row
row_at s es = cell_in (chunk_at (s / 64) es) (s % 64)

abbrev pub object_in : Option Row → Option Stored
object_in row = given row None (λ r. r.object)

abbrev pub is_reserved_in : Option Row → Bool
is_reserved_in row = given row false (λ r. r.is_reserved)

-- the row of a serial that is reserved from now on: its object, where there is one, stays
abbrev pub reserved_in : Option Row → Row
reserved_in row = record { object = object_in row; is_reserved = true }

-- the object with a serial
abbrev pub object_at : ℕ → Chunks → Option Stored
object_at s es = object_in (row_at s es)

abbrev pub is_reserved_at : ℕ → Chunks → Bool
is_reserved_at s es = is_reserved_in (row_at s es)

-- this serial has another row, or none, and all others keep theirs
abbrev pub TurnsRow : Chunks → Chunks → ℕ → Option Row → Type 0
TurnsRow old new s row = (q : ℕ) → row_at q new ≡ cond (s == q) row (row_at q old)

abbrev pub KeepsRows : Chunks → Chunks → Type 0
KeepsRows old new = (q : ℕ) → row_at q new ≡ row_at q old

-- at this serial stands another object, or none, and all others stay
abbrev pub TurnsObject : Chunks → Chunks → ℕ → Option Stored → Type 0
TurnsObject old new s object = (q : ℕ) → object_at q new ≡ cond (s == q) object (object_at q old)

abbrev pub KeepsObjects : Chunks → Chunks → Type 0
KeepsObjects old new = (q : ℕ) → object_at q new ≡ object_at q old

-- this serial is reserved from now on, or is not, and for all others it stays
abbrev pub TurnsReserved : Chunks → Chunks → ℕ → Bool → Type 0
TurnsReserved old new s b = (q : ℕ) → is_reserved_at q new ≡ cond (s == q) b (is_reserved_at q old)

abbrev pub KeepsReserved : Chunks → Chunks → Type 0
KeepsReserved old new = (q : ℕ) → is_reserved_at q new ≡ is_reserved_at q old
