-- What a body of the journal says, and how it is spelled.
use Rattle.std.specs.Prelude.{ℕ, ◌≡◌, ◌^◌, ◌<◌, ◌≤◌, List, ◌++◌, length, IfSome}
use Rattle.std.specs.Int.{to_be_bytes, w32, w64}
use Rattle.std.specs.List.{AllByRecursion, flat_map}
use Rattle.pss_base.specs.declared.put.Put.{Put}
use Rattle.page_format.specs.Objects.{octets_left}
use Rattle.pss_recovery.specs.declared.body.Body.{Body}

-- the home of an object, its serial, and the length of its record
unfoldable pub change_head : ℕ → ℕ → ℕ → List ℕ
change_head home serial len = to_be_bytes w32 home ++ to_be_bytes w64 serial ++ to_be_bytes w32 len

-- a change: its head and its record
abbrev pub change_octets : Put → List ℕ
change_octets put = change_head put.home put.serial (length (octets_left put.bytes)) ++ octets_left put.bytes

-- the numbers of a change fit into their octets, and a record has some
pub record IsSpellable (put : Put) : Type 0 where
  pub home : put.home < 2 ^ 32
  pub serial : put.serial < 2 ^ 64
  pub some : IfSome put.bytes (λ octets. 1 ≤ length octets)
  pub len : length (octets_left put.bytes) < 2 ^ 32

-- a change whose record, where there is one, has some octets, but no more than its length may tell
abbrev pub HasLength : Put → Type 0
HasLength put = IfSome put.bytes (λ octets. (1 ≤ length octets) × (length octets < 2 ^ 32))

-- the next serial, the number of the changes, and these
abbrev pub body_octets : Body → List ℕ
body_octets body = to_be_bytes w64 body.next ++ to_be_bytes w32 (length body.puts) ++ flat_map change_octets body.puts

-- the octets are those of this body
pub record Spells (octets : List ℕ) (body : Body) : Type 0 where
  pub next : body.next < 2 ^ 64
  pub count : length body.puts < 2 ^ 32
  pub each : AllByRecursion IsSpellable body.puts
  pub spelled : octets ≡ body_octets body
