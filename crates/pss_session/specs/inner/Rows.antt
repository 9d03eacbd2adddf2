-- Sessions as they are stored, by number.
use Rattle.std.specs.Prelude.{ℕ, ◌≡◌, ◌==◌, List, Option, Bool, cond, if◌then◌else◌}
use Rattle.std.specs.Map.{lookup, remove_entry}
use Rattle.pss_base.specs.declared.owner.OwnerNo.{OwnerNo}
use Rattle.pss_machine.specs.declared.session.Association.{Association}
use Rattle.pss_machine.specs.declared.session.Association.TheVariants.{NoTransaction}
use Rattle.pss_machine.specs.Sessions.{Session, is_owner, open_in, transaction_of}
use Rattle.pss_session.specs.declared.register.SessionRecord.{SessionRecord}

abbrev pub session_of : SessionRecord → Session
session_of r = record { name = r.name; kind = r.kind; access = r.access; association = r.association }

-- the session of a number
abbrev pub row_at : List (ℕ × SessionRecord) → ℕ → Option SessionRecord
row_at es n = lookup (λ k. n == k) es

-- all but the session of a number
abbrev pub without : ℕ → List (ℕ × SessionRecord) → List (ℕ × SessionRecord)
without n es = remove_entry (λ k. n == k) es

-- the session of this number is another one, and all others stay
abbrev pub Turns : List (ℕ × SessionRecord) → List (ℕ × SessionRecord) → ℕ → Option SessionRecord → Type 0
Turns old new n r = (q : ℕ) → row_at new q ≡ cond (n == q) r (row_at old q)

abbrev pub with_state : Association → SessionRecord → SessionRecord
with_state association r = record { name = r.name; kind = r.kind; access = r.access; association = association }

abbrev pub is_open_row : OwnerNo → ℕ × SessionRecord → Bool
is_open_row n e = is_owner n (open_in e.1.association)

-- it is in no transaction, where it was in this one
abbrev pub left_row : OwnerNo → SessionRecord → SessionRecord
left_row n r = with_state (if is_owner n (transaction_of r.association) then NoTransaction else r.association) r
