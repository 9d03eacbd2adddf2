-- What a line makes of what is kept, and what is spoken for it.
use Rattle.std.specs.Prelude.{ℕ, ◌≡◌, List, [], ◌∷◌, ◌++◌, map, Option, Some, None, Bool, true, false, if◌then◌else◌}
use Rattle.std.specs.Option.{option_map}
use Rattle.pss_base.specs.declared.lines.LineStep.{LineStep}
use Rattle.type_layout.specs.declared.schema.Schema.{Schema}
use Rattle.pss_catalog.specs.Catalog.{Catalog}
use Rattle.pss_machine.specs.declared.command.Command.{Command}
use Rattle.pss_machine.specs.declared.command.Command.TheVariants as command
use Rattle.pss_machine.specs.declared.limits.Limits.{Limits}
use Rattle.pss_machine.specs.declared.reply.Reply.{Reply}
use Rattle.pss_machine.specs.Kept.{Kept, first_kept}
use Rattle.pss_machine.specs.Effects.{Effect, Stays}
use Rattle.pss_machine.specs.Deciding.{decision}
use Rattle.pss_machine.specs.Moving.{moved}
use Rattle.pss_machine.specs.Run.{Said, Silent, Says, Wrong, said_by, Machine, first, run, reply_of, replies}
use Rattle.script_text.specs.Meaning.{meaning}
use Rattle.script_text.specs.Replies.{text}
use Rattle.commit_saving.specs.Saving.{saved_by}
use Rattle.line_service.specs.Turns.{TurnOf, after, said}
use Rattle.line_service.specs.Runs.{Limits as ScriptLimits}

-- what the machine keeps of a schema, under limits, and what the store holds of it
pub record Running : Type 0 where
  pub schema : Schema
  pub limits : Limits
  pub kept : Kept
  -- the next serial that the store stands for beside the objects, where the station tells of its disk
  pub saved : Option ℕ
  -- the last reply is that of a checkpoint
  pub cleared : Bool

-- at first nobody is there, and the store holds these objects and the next serial
abbrev pub start : Schema → Limits → Catalog → ℕ → Bool → Running
start S limits M next is_told = record { schema = S; limits = limits; kept = first_kept M next; saved = if is_told then Some next else None; cleared = false }

-- what a line of a script says
abbrev pub told_by : LineStep → Said
told_by line = said_by meaning line

-- what a line does to what is kept
abbrev pub effect_of : Schema → Limits → Kept → Said → Effect
effect_of S limits k Silent = Stays
effect_of S limits k (Wrong column) = Stays
effect_of S limits k (Says command) = (decision S limits k command).effect

-- what is kept after a line
abbrev pub kept_after : Schema → Limits → Kept → Said → Kept
kept_after S limits k told = moved k (effect_of S limits k told)

-- the next serial that is stored after a line
abbrev pub saved_after : Schema → Limits → Kept → Option ℕ → Said → Option ℕ
saved_after S limits k saved told = option_map (λ next. saved_by k next (effect_of S limits k told)) saved

abbrev pub is_checkpoint : Command → Bool
is_checkpoint command.Checkpoint = true
is_checkpoint _ = false

-- after a line the last reply is that of a checkpoint
abbrev pub cleared_after : Bool → Said → Bool
cleared_after cleared Silent = cleared
cleared_after cleared (Wrong column) = false
cleared_after cleared (Says command) = is_checkpoint command

-- all that is spoken for a reply
abbrev pub line_for : Reply → List ℕ
line_for reply = text reply ++ 10 ∷ []

-- all that is spoken for a line, by its reply
abbrev pub spoken_for : Option Reply → List ℕ
spoken_for None = []
spoken_for (Some reply) = line_for reply

-- what a line makes of what is kept and stored
abbrev pub running_after : Running → Said → Running
running_after r told = record {
  schema = r.schema;
  limits = r.limits;
  kept = kept_after r.schema r.limits r.kept told;
  saved = saved_after r.schema r.limits r.kept r.saved told;
  cleared = cleared_after r.cleared told;
}

-- the same, and what is spoken for it
abbrev pub turn_from : TurnOf Running
turn_from r line = (running_after r (told_by line), spoken_for (reply_of r.schema r.limits r.kept (told_by line)))

-- ---- that lines served one after another are a run of the machine

-- the machine after lines, from these objects and the next serial on
abbrev pub run_over : Schema → Limits → Catalog → ℕ → List LineStep → Machine
run_over S limits M next lines = run S limits (first M next) (map told_by lines)

-- all that is spoken for replies, one behind the other
abbrev pub all_spoken : List Reply → List ℕ
all_spoken [] = []
all_spoken (reply ∷ replies) = line_for reply ++ all_spoken replies

-- what is kept after lines is what the machine keeps, and what is spoken for them are its replies
abbrev pub LinesAreRun : Type 0
LinesAreRun =
    (S : Schema) (limits : Limits) (M : Catalog) (next : ℕ) (is_told : Bool) (lines : List LineStep)
    → ((after turn_from (start S limits M next is_told) lines).kept ≡ (run_over S limits M next lines).kept)
    × (said turn_from (start S limits M next is_told) lines ≡ all_spoken (replies S limits (first M next) (map told_by lines)))

-- ---- how much of a script is served

-- so many lines at most, of so many bytes in all
abbrev pub script_limits : ScriptLimits
script_limits = record { lines = 4294967295; bytes = 281474976710656 }
