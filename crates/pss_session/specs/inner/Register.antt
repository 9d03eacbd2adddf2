-- How what is stored belongs together, and what it stands for.
use Rattle.std.specs.Prelude.{ℕ, ◌≡◌, ◌+◌, ◌≤◌, ◌<◌, ◌^◌, List, length, Option, Some, IsSome, IsSomeAnd, true}
use Rattle.std.specs.Ordering.{nat_cmp}
use Rattle.std.specs.FinMap.{FinMap, from_entries}
use Rattle.std.specs.FinMap.Entries.{is_sorted}
use Rattle.pss_base.specs.declared.session.SessionNo.{SessionNo}
use Rattle.pss_machine.specs.Sessions.{Sessions}
use Rattle.recent_table.specs.Maps.{each}
use Rattle.pss_session.specs.declared.register.SessionRecord.{SessionRecord}
use Rattle.pss_session.specs.declared.register.Register.{Register}
use Rattle.pss_session.specs.Meaning.{Meaning}
use Rattle.pss_session.specs.inner.Rows.{session_of, row_at}
use Rattle.pss_session.specs.inner.Names.{number_at}

abbrev pub rows_of : List (ℕ × SessionRecord) → FinMap nat_cmp SessionRecord
rows_of es = from_entries es

abbrev pub sessions_of : List (ℕ × SessionRecord) → Sessions
sessions_of es = each session_of (rows_of es)

abbrev pub meaning_of : Register → Meaning
meaning_of r = record { sessions = sessions_of r.rows.entries; next = r.last + 1 }

-- each session stands behind its name, and no other
pub record AreNamed (row : ℕ → Option SessionRecord) (number : List ℕ → Option SessionNo) : Type 0 where
  pub found : (n : ℕ) (r : SessionRecord) → row n ≡ Some r → number r.name ≡ Some (record { 0 = n })
  pub only : (name : List ℕ) (s : SessionNo) → number name ≡ Some s → IsSomeAnd (row s.0) (λ r. r.name ≡ name)

pub record IsSound (r : Register) : Type 0 where
  -- numbers rise
  pub sorted : is_sorted nat_cmp r.rows.entries ≡ true
  pub below : (n : ℕ) → IsSome (row_at r.rows.entries n) → n ≤ r.last
  pub fewer : length r.rows.entries ≤ r.last
  pub small : r.last < 2 ^ 32
  pub named : AreNamed (row_at r.rows.entries) (number_at r.names.entries)
