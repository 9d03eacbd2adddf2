-- Entries of sessions that are told by walks of the rows.
use Rattle.std.specs.Prelude.{ℕ, ◌==◌, ◌&&◌, List, Bool}
use Rattle.std.specs.List.{list_any}
use Rattle.incarnations.specs.declared.names.Slot.{Slot}
use Rattle.incarnations.specs.declared.names.Entry.{Entry}
use Rattle.pss_session.specs.declared.register.SessionRecord.{SessionRecord}

-- an entry of the session of a number, where that is one of those meant
abbrev pub numbered : ℕ → Bool → Slot → Entry → Bool
numbered n meant x e = (x.session.0 == n) && meant

-- an entry of some session that passes
abbrev pub some_row : (SessionRecord → Bool) → List (ℕ × SessionRecord) → Slot → Entry → Bool
some_row test es x e = list_any (λ q. numbered q.0 (test q.1) x e) es
