-- How a connector goes on by what a line says, and what is replied to it.
use Rattle.std.proofs.Common.{◌≡◌, ◌∙◌, inl, inr, ap, refl, subst, ℕ, ◌+◌, ◌<◌, arith, Bool, true, List, Option, None}
use Rattle.std.specs.Io.KnownBytes.{append_known}
use Rattle.line_service.specs.Turns.{Speaks, SaidWhole}
use Rattle.line_service.proofs.Saying.{append_known-nil}
use Rattle.line_service.specs.declared.machine.Turn.{Turn}
use Rattle.line_service.specs.declared.machine.Turn.TheVariants as turns
use Rattle.pss_base.specs.declared.lines.LineStep.{LineStep}
use Rattle.type_layout.specs.declared.schema.Schema.{Schema}
use Rattle.pss_catalog.specs.Catalog.{Catalog}
use Rattle.pss_machine.specs.declared.limits.Limits.{Limits}
use Rattle.pss_machine.specs.declared.reply.Reply.{Reply}
use Rattle.pss_machine.specs.Kept.{Kept, first_kept}
use Rattle.pss_machine.specs.Run.{Said, reply_of}
use Rattle.connector.specs.declared.connector.Connector.{Connector}
use Rattle.connector.specs.Keeping.{Keeps, schema_of, limits_of, performed_by, is_live}
use Rattle.script_service.specs.Turns.{Running, start, kept_after, told_by, spoken_for, turn_from}
use Rattle.script_service.specs.Going.{IsReady, Goes, Serves}

-- what is replied, whatever is kept
abbrev pub Replies : Connector → Said → Option Reply → Type 0
Replies c told answer = (k : Kept) → Keeps c k → answer ≡ reply_of (schema_of c) (limits_of c) k told

-- ---- the daemon

-- what holds by the schema and the limits of a connector holds by those of its state
pub by_state : (c : Connector) (n : ℕ) (state : Running) → Serves c n state → (P : Schema → Limits → Type 0) → P (schema_of c) (limits_of c) → P state.schema state.limits
by_state c n state serves P p = subst (λ (l : Limits). P state.schema l) serves.limits (subst (λ (S : Schema). P S (limits_of c)) serves.schema p)

pub ready : (c : Connector) (n : ℕ) (state : Running) → Serves c n state → n < 4294967295 → IsReady c
ready c n state serves few = record { live = serves.live; kept = record { kept = state.kept; keeps = serves.kept }; left = omega (arith, serves.few) }

pub goes_serves : (c c' : Connector) (n : ℕ) (state : Running) (line : LineStep) → Serves c n state → Goes (told_by line) c c' → Serves c' (n + 1) (turn_from state line).0
goes_serves c c' n state line serves goes = record {
  live = goes.live;
  schema = goes.schema ∙ serves.schema;
  limits = goes.limits ∙ serves.limits;
  kept = subst (λ (S : Schema). Keeps c' (kept_after S state.limits state.kept (told_by line))) serves.schema
      (subst (λ (l : Limits). Keeps c' (kept_after (schema_of c) l state.kept (told_by line))) serves.limits (goes.kept state.kept serves.kept));
  few = omega (arith, serves.few, goes.performed);
}

-- what is spoken for the reply is what the machine's turn says
pub speaks_turn : (c : Connector) (n : ℕ) (state : Running) (line : LineStep) (answer : Option Reply) → Serves c n state → Replies c (told_by line) answer → spoken_for answer ≡ (turn_from state line).1
speaks_turn c n state line answer serves replied =
    ap spoken_for (replied state.kept serves.kept)
    ∙ ap (λ (S : Schema). spoken_for (reply_of S (limits_of c) state.kept (told_by line))) serves.schema
    ∙ ap (λ (l : Limits). spoken_for (reply_of state.schema l state.kept (told_by line))) serves.limits

-- and where there is no reply, it says nothing
pub unspoken : (c : Connector) (n : ℕ) (state : Running) (line : LineStep) → Serves c n state → Replies c (told_by line) None → (before after : Option (List ℕ)) → after ≡ before → after ≡ append_known before (turn_from state line).1
unspoken c n state line serves replied before after same = same ∙ append_known-nil before ∙ ap (append_known before) (speaks_turn c n state line None serves replied)

-- a new connector, of which nobody has asked anything
pub first_serves : (c : Connector) (S : Schema) (limits : Limits) (M : Catalog) (next : ℕ) (is_told : Bool) → Keeps c (first_kept M next) → schema_of c ≡ S → limits_of c ≡ limits → performed_by c ≡ 0 → is_live c ≡ true → Serves c 0 (start S limits M next is_told)
first_serves c S limits M next is_told kept schema_is limits_is performed live = record { live = live; schema = schema_is; limits = limits_is; kept = kept; few = omega (arith, performed) }

-- ---- what was spoken

-- at a moment with what was spoken at the end, whole replies were, or speech failed
pub said_whole : (result : Turn) (bytes : List ℕ) (before end : Option (List ℕ)) → Speaks result bytes before end → SaidWhole result bytes before end end
said_whole turns.Went bytes before end speaks = inl (inr speaks)
said_whole turns.DiskFault bytes before end speaks = inl (inl speaks)
said_whole turns.SpeakFault bytes before end speaks = inr (refl, refl)
said_whole turns.NoMemory bytes before end speaks = inl (inl speaks)
