-- A change in front of other octets.
use Rattle.std.specs.Prelude.{ℕ, ◌≡◌, ◌+◌, ◌^◌, ◌<◌, ◌≤◌, List, [], ◌∷◌, ◌++◌, length, take, drop, None, Some}
use Rattle.std.specs.declared.option.Option.{Option}
use Rattle.std.specs.List.{AllByRecursion, flat_map}
use Rattle.pss_base.specs.declared.put.Put.{Put}
use Rattle.pss_recovery.specs.Bodies.{IsSpellable, change_head, change_octets}
use Rattle.pss_recovery.specs.declared.head.ChangeHead.{ChangeHead}

-- the record that octets are; none where there are none
abbrev pub record_in : List ℕ → Option (List ℕ)
record_in [] = None
record_in (b ∷ octets) = Some (b ∷ octets)

-- the numbers of a head fit into their octets
pub record AreNumbers (head : ChangeHead) : Type 0 where
  pub home : head.home < 2 ^ 32
  pub serial : head.serial < 2 ^ 64
  pub len : head.len < 2 ^ 32

-- the octets begin with this head, and the record behind it
pub record Begins (head : ChangeHead) (octets : List ℕ) : Type 0 where
  pub numbers : AreNumbers head
  pub within : 16 + head.len ≤ length octets
  pub head_ : take 16 octets ≡ change_head head.home head.serial head.len

-- they begin with no change
abbrev pub BeginsNone : List ℕ → Type 0
BeginsNone octets = (put : Put) (rest : List ℕ) → IsSpellable put → octets ≡ change_octets put ++ rest → ⊥

-- the change with this head in front of the octets
abbrev pub change_in : ChangeHead → List ℕ → Put
change_in head octets = record { home = head.home; serial = head.serial; bytes = record_in (take head.len (drop 16 octets)) }

-- the octets are so many changes, one behind the other
pub record AreChanges (octets : List ℕ) (count : ℕ) (puts : List Put) : Type 0 where
  pub count_ : length puts ≡ count
  pub each : AllByRecursion IsSpellable puts
  pub spelled : octets ≡ flat_map change_octets puts

-- of the octets so many changes were read, up to a place
pub record AreSoFar (octets : List ℕ) (k : ℕ) (puts : List Put) (at : ℕ) : Type 0 where
  pub within : at ≤ length octets
  pub count : length puts ≡ k
  pub each : AllByRecursion IsSpellable puts
  pub read : flat_map change_octets puts ++ drop at octets ≡ octets
