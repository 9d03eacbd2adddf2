-- What changes leave of objects, while they are settled by rising serial.
use Rattle.std.specs.Prelude.{ℕ, ◌≡◌, ◌==◌, ◌<◌, ◌≤◌, cond, false, List, [], ◌∷◌, map, IfSome, ⊤}
use Rattle.std.specs.FinMap.{empty, get}
use Rattle.std.specs.List.Sorted.{IsPermutation}
use Rattle.std.specs.Map.{lookup}
use Rattle.std.specs.declared.option.Option.{Option}
use Rattle.pss_base.specs.declared.put.Put.{Put}
use Rattle.page_format.specs.Objects.{HasRecord, entries_left, over, stored_of}
use Rattle.page_format.specs.Pages.{Entry}
use Rattle.page_format.specs.Written.{AreStorable}
use Rattle.page_format.specs.declared.objects.Stored.{Stored}
use Rattle.page_format.specs.declared.settling.Settling.{Settling}

-- no serial is lower than the one before it, and the first not lower than this one
abbrev pub Climbs : ℕ → List Put → Type 0
Climbs serial [] = ⊤
Climbs serial (put ∷ puts) = (serial ≤ put.serial) × Climbs put.serial puts

-- the same changes by their serials, those of an object in their order
pub record AreInOrder (puts sorted : List Put) : Type 0 where
  pub climbing : Climbs 0 sorted
  pub moved : IsPermutation puts sorted
  pub same : over empty sorted ≡ over empty puts

-- what stands first under a serial
abbrev pub object_at : ℕ → List Entry → Option Stored
object_at q es = lookup (λ k. q == k) (map stored_of es)

-- each serial is below this one
abbrev pub AreBelow : ℕ → List Entry → Type 0
AreBelow serial [] = ⊤
AreBelow serial (e ∷ es) = (e.serial < serial) × AreBelow serial es

-- each serial is above this one
abbrev pub AreAbove : ℕ → List Entry → Type 0
AreAbove serial [] = ⊤
AreAbove serial (e ∷ es) = (serial < e.serial) × AreAbove serial es

-- each serial is below those behind it
abbrev pub AreRising : List Entry → Type 0
AreRising [] = ⊤
AreRising (e ∷ es) = AreAbove e.serial es × AreRising es

-- these were settled: objects by rising serial, all of them below this one
pub record AreBefore (settled : List Put) (serial : ℕ) : Type 0 where
  pub storable : AreStorable (entries_left settled)
  pub rising : AreRising (entries_left settled)
  pub below : AreBelow serial (entries_left settled)

-- all objects that changes leave were settled
pub record AreSettled (puts : List Put) (serial : ℕ) (settled : List Put) : Type 0 where
  pub before : AreBefore settled serial
  pub all : (q : ℕ) → get (over empty puts) q ≡ object_at q (entries_left settled)

-- all but the one with this serial
pub record AreOthersSettled (puts : List Put) (serial : ℕ) (settled : List Put) : Type 0 where
  pub before : AreBefore settled serial
  pub others : (q : ℕ) → (q == serial) ≡ false → get (over empty puts) q ≡ object_at q (entries_left settled)

-- all but the one that comes next, and this is left of it
pub record IsSettling (puts : List Put) (s : Settling) : Type 0 where
  pub before : AreBefore s.settled s.serial
  pub all : (q : ℕ) → get (over empty puts) q ≡ cond (q == s.serial) s.left (object_at q (entries_left s.settled))
  pub right : IfSome s.left (λ left. HasRecord left.octets)
