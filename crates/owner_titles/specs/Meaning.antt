-- How owners are called, and what calls make of that.
use Rattle.std.specs.Prelude.{ℕ, ◌≡◌, ◌+◌, List, find, filter, length, Option, Bool, false, not, ◌&&◌, ◌||◌}
use Rattle.std.specs.Option.{option_map}
use Rattle.std.specs.Ordering.{nat_cmp}
use Rattle.std.specs.Str.{bytes_eq}
use Rattle.std.specs.FinMap as map
use Rattle.std.specs.FinMap.{FinMap, get, insert, remove, entries}
use Rattle.pss_base.specs.declared.owner.OwnerNo.{OwnerNo}
use Rattle.pss_machine.specs.declared.level.Level.{Level}
use Rattle.pss_machine.specs.Maps.{with_at}
use Rattle.pss_machine.specs.Owners.{is_basic}
use Rattle.pss_machine.specs.Kept.{Kept, Title}
use Rattle.owner_titles.specs.declared.called.Called.{Called}

-- the owners by number, and the number of the next one
pub record Meaning : Type 0 where
  pub called : FinMap nat_cmp Called
  pub next : ℕ

-- ---- what is found

abbrev pub is_transaction : ℕ × Called → Bool
is_transaction e = not (is_basic e.1.level)

-- the transaction of a name
abbrev pub transaction_named : Meaning → List ℕ → Option OwnerNo
transaction_named m name = option_map (λ e. record { 0 = e.0 }) (find (λ e. bytes_eq e.1.name name && is_transaction e) (entries m.called))

-- how many transactions there are
abbrev pub transactions : Meaning → ℕ
transactions m = length (filter is_transaction (entries m.called))

-- ---- owners that come, go and change

abbrev pub nobody : Meaning
nobody = record { called = map.empty; next = 1 }

-- an owner that has done nothing
abbrev pub newly : List ℕ → Level → Called
newly name level = record { name = name; level = level; failed = false; commands = 0 }

abbrev pub come : Meaning → List ℕ → Level → Meaning
come m name level = record { called = insert m.called m.next (newly name level); next = m.next + 1 }

abbrev pub gone : Meaning → OwnerNo → Meaning
gone m n = record { called = remove m.called n.0; next = m.next }

-- an owner is called otherwise, where it is there
abbrev pub changed : (Called → Called) → Meaning → OwnerNo → Meaning
changed f m n = record { called = with_at m.called n.0 f; next = m.next }

abbrev pub marked : Bool → Called → Called
marked failed c = record { name = c.name; level = c.level; failed = c.failed || failed; commands = c.commands }

abbrev pub one_more : Called → Called
one_more c = record { name = c.name; level = c.level; failed = c.failed; commands = c.commands + 1 }

abbrev pub unspent : Called → Called
unspent c = record { name = c.name; level = c.level; failed = c.failed; commands = 0 }

-- ---- the machine's titles

abbrev pub title_of : Called → Title
title_of c = record { name = c.name; failed = c.failed; commands = c.commands }

-- the machine has the same owners under these names, at these levels
pub record AreTitles (m : Meaning) (k : Kept) : Type 0 where
  pub titles : (n : ℕ) → get k.titles n ≡ option_map title_of (get m.called n)
  pub levels : (n : ℕ) → option_map (λ owner. owner.level) (get k.owners n) ≡ option_map (λ c. c.level) (get m.called n)
  pub next : k.next_owner ≡ m.next
