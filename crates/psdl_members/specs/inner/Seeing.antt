-- What is seen of a group of entries.
use Rattle.std.specs.Prelude.{◌≡◌, ◌==◌, ◌&&◌, ◌<◌, ◌≤◌, ℕ, List, Bool, true, length}
use Rattle.std.proofs.Common.{get_or}
use Rattle.std.specs.List.{list_any}
use Rattle.psdl_lineage.specs.Descent.{has}
use Rattle.psdl_members.specs.declared.entry.Entry.{Entry}
use Rattle.psdl_members.specs.declared.group.Group.{Group}
use Rattle.psdl_members.specs.declared.seen.Seen.{Seen}
use Rattle.psdl_members.specs.inner.Bits.{AreBits}
use Rattle.psdl_members.specs.inner.Clashing.{entries_clash}

abbrev pub are_same : Entry → Entry → Bool
are_same a b = a.name == b.name && a.list == b.list

-- whether one of the entries that are there passes a test
abbrev pub Sight : Type 0
Sight = (Entry → Bool) → Bool

abbrev pub nothing : Seen
nothing = record { same = 0; other = 0 }

abbrev pub seen_at : List Seen → ℕ → Seen
seen_at seen n = get_or seen n nothing

-- which of these entries are there, and which clash with one that is there
pub record IsSeen (seen : Seen) (es : List Entry) (some : Sight) : Type 0 where
  pub same : AreBits seen.same es (λ e. some (are_same e))
  pub other : AreBits seen.other es (λ e. some (entries_clash e))

-- each declaration sees what is there for it
abbrev pub AreSeen : List Seen → List Entry → (ℕ → Sight) → Type 0
AreSeen seen es some = (n : ℕ) → n < length seen → IsSeen (seen_at seen n) es (some n)

-- it is there, and one that clashes with it
abbrev pub is_met : Sight → Entry → Bool
is_met some e = some (are_same e) && some (entries_clash e)

-- which of these entries have each name, and which each list; and all their names
pub record IsGroup (group : Group) (es : List Entry) : Type 0 where
  pub few : length es ≤ 64
  pub names : (n : ℕ) → AreBits (get_or group.names.items n 0) es (λ e. e.name == n)
  pub lists : (n : ℕ) → AreBits (get_or group.lists.items n 0) es (λ e. e.list == n)
  pub heads : (n : ℕ) → list_any (λ e. e.name == n) es ≡ true → has group.heads.items n ≡ true
