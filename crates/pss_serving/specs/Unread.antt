-- How a call ends where there is no sound text.
use Rattle.std.specs.Prelude.{ℕ, ◌≡◌, List, ⊤}
use Rattle.std.specs.declared.option.Option.{Option}
use Rattle.std.specs.Io.KnownBytes.{append_known}
use Rattle.line_service.specs.Spoken.{SaidOf}
use Rattle.pss_serving.specs.Refusals.{refusal_line}
use Rattle.pss_serving.specs.declared.reading.Unread.{Unread}
use Rattle.pss_serving.specs.declared.reading.Unread.TheVariants.{Refused, ReadFault, NoMemory}
use Rattle.pss_serving.specs.declared.status.Status.{Status}
use Rattle.pss_serving.specs.declared.status.Status.TheVariants as status

-- the text has a fault, and this is so of the line that tells it
abbrev pub OfRefused : Unread → (List ℕ → Type 0) → Type 0
OfRefused (Refused fault) Told = Told (refusal_line fault)
OfRefused ReadFault Told = ⊥
OfRefused NoMemory Told = ⊥

-- the text is not known
abbrev pub IsUnknown : Unread → Type 0
IsUnknown (Refused fault) = ⊥
IsUnknown ReadFault = ⊤
IsUnknown NoMemory = ⊤

-- what is told where there is no sound text
abbrev pub TellsUnread : Status → Unread → (before after : Option (List ℕ)) → Type 0
TellsUnread status.SchemaRefused why before after = OfRefused why (λ line. after ≡ append_known before line)
TellsUnread status.SpeakFault why before after = OfRefused why (λ line. SaidOf line before after)
TellsUnread status.ReadFault why before after = after ≡ before
TellsUnread status.NoMemory why before after = after ≡ before
TellsUnread _ why before after = ⊥
