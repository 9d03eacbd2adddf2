-- How checking a text ends, and how serving a script over one does.
use Rattle.std.specs.Prelude.{ℕ, ◌≡◌, ◌⊎◌, List, take, Bool, true, false, IfSome, IsSomeAnd}
use Rattle.std.specs.declared.option.Option.{Option}
use Rattle.std.specs.Io.KnownBytes.{append_known}
use Rattle.pss_base.specs.Causes.{Rose}
use Rattle.pss_base.specs.declared.lines.LineStep.{LineStep}
use Rattle.pss_disk.specs.Moments.{Disk, IsSettled, Moment, Through}
use Rattle.pss_catalog.specs.Catalog.{Catalog, IsGood}
use Rattle.page_store.specs.Stores.{AllHave}
use Rattle.pss_recovery.specs.Mounts.{FromSync, IsSameButGate}
use Rattle.pss_recovery.specs.Stands.{IsRefusal, Stands}
use Rattle.store_refusals.specs.Lines.{refused_line}
use Rattle.store_refusals.specs.Refusals.{fault_of}
use Rattle.store_refusals.specs.declared.refusals.StoreRefusal.{StoreRefusal}
use Rattle.type_layout.specs.declared.schema.Schema.{Schema}
use Rattle.pss_machine.specs.Limits.{standard}
use Rattle.psdl_tree.specs.Trees.{Definitions}
use Rattle.psdl_directory.specs.Declarations.{all_declarations}
use Rattle.psdl_check.specs.Schemas.{schema}
use Rattle.line_service.specs.Runs.{Comes, SaidByLines, Says, lines_of}
use Rattle.line_service.specs.Spoken.{SaidOf}
use Rattle.line_service.specs.Turns.{IsWhole, after}
use Rattle.line_service.specs.declared.serving.Ending.{Ending}
use Rattle.line_service.specs.declared.serving.Ending.TheVariants as ending
use Rattle.script_service.specs.Turns.{Running, turn_from, start, script_limits, run_over}
use Rattle.script_service.specs.Bounds.{IsBetween}
use Rattle.script_service.specs.Keeping.{IsLeft, OnlyStandsFor, Passes}
use Rattle.script_service.specs.Rightful.{IsRightful}
use Rattle.pss_serving.specs.Checked.{IsSound, HasFault, checked_text}
use Rattle.pss_serving.specs.Refusals.{refusal_line}
use Rattle.pss_serving.specs.declared.schema_fault.SchemaFault.{SchemaFault}
use Rattle.pss_serving.specs.declared.status.Status.{Status}
use Rattle.pss_serving.specs.declared.status.Status.TheVariants as status

-- the schema's text has a fault, and this is so of the line that tells it
abbrev pub OfFault : (List ℕ → Type 0) → Option (List ℕ) → Type 0
OfFault Told text = (fault : SchemaFault) × IfSome text (λ bytes. HasFault bytes fault) × Told (refusal_line fault)

-- nothing is wrong in the schema's text, and this is so of its tree
abbrev pub OfTree : (Definitions → Type 0) → Option (List ℕ) → Type 0
OfTree P text = (tree : Definitions) × IfSome text (λ bytes. IsSound bytes tree) × P tree

-- the same of its canonical text and shape
abbrev pub OfSound : (List ℕ → Type 0) → Option (List ℕ) → Type 0
OfSound Told text = OfTree (λ tree. Told (checked_text tree)) text

-- this is so of what is spoken where the schema's text is checked
abbrev pub OfText : (List ℕ → Type 0) → Option (List ℕ) → Type 0
OfText Told text = OfFault Told text ⊎ OfSound Told text

-- How checking a text ends: what was spoken by then, and how often the text's source had failed before and has now.
abbrev pub EndsChecking : Status → (text before after : Option (List ℕ)) → (old new : ℕ) → Type 0
EndsChecking status.Ok text before after old new = OfSound (λ told. after ≡ append_known before told) text
EndsChecking status.SchemaRefused text before after old new = OfFault (λ told. after ≡ append_known before told) text
EndsChecking status.ReadFault text before after old new = Rose old new × (after ≡ before)
EndsChecking status.SpeakFault text before after old new = OfText (λ told. SaidOf told before after) text
EndsChecking status.NoMemory text before after old new = after ≡ before
EndsChecking status.Usage text before after old new = ⊥
EndsChecking status.ScriptTooLong text before after old new = ⊥
EndsChecking status.StoreRefused text before after old new = ⊥
EndsChecking status.DiskFault text before after old new = ⊥

-- ---- calls over a store

-- what is to come of the schema and of the script at first, and of the script at last; what was spoken at first and at last; what the
-- store's file has at first and at last, and what a crash may leave of it at last
pub record Call : Type 0 where
  pub schema : Option (List ℕ)
  pub script : Option (List ℕ)
  pub left : Option (List ℕ)
  pub before : Option (List ℕ)
  pub after : Option (List ℕ)
  pub held : Option (List ℕ)
  pub holds : Option (List ℕ)
  pub disk : Option Disk

-- the same of sources and a station before a call and after it, by what these tell of themselves
abbrev pub call_of : {P C W : Type 0} → (P → Option (List ℕ)) → (C → Option (List ℕ)) → (W → Moment) → (W → Option (List ℕ)) → P → (before after : C) → (before after : W) → Call
call_of text_of left_of now content schema script script_after station station_after = record {
  schema = text_of schema;
  script = left_of script;
  left = left_of script_after;
  before = (now station).spoken;
  after = (now station_after).spoken;
  held = content station;
  holds = content station_after;
  disk = (now station_after).disk;
}

-- the text has this schema, and this is so of it
abbrev pub OfServed : (Schema → Type 0) → Option (List ℕ) → Type 0
OfServed Served text = OfTree (λ tree. Served (schema (all_declarations tree))) text

-- The store stands for some objects and a next serial under the schema, and this is so of a machine that begins with them. What is stored
-- is told where the store's file is.
pub record OfStore (S : Schema) (P : Running → Type 0) (held : Option (List ℕ)) : Type 0 where
  pub objects : Catalog
  pub next : ℕ
  pub is_told : Bool
  pub good : IsGood S objects next
  pub stands : IfSome held (λ octets. Stands S objects next octets × (is_told ≡ true))
  pub begun : P (start S standard objects next is_told)

-- the store is refused under the schema, and this is so of the line that tells why
abbrev pub OfRefusal : Schema → (List ℕ → Type 0) → Option (List ℕ) → Type 0
OfRefusal S Told held = (why : StoreRefusal) × IfSome held (IsRefusal S (fault_of why)) × Told (refused_line why)

-- ---- scripts

-- serving the lines of the script ends so
abbrev pub SaysIn : Ending → Call → Schema → Type 0
SaysIn ending call S = OfStore S (λ first. Says turn_from first script_limits ending (record { script = call.script; left = call.left; before = call.before; after = call.after }) (IsLeft call.holds call.disk)) call.held

-- Some first bytes were spoken of what there is to say. Where that is why text or store are refused, the store's file is as it was.
abbrev pub SaidServing : Call → Type 0
SaidServing call =
    (OfFault (λ told. SaidOf told call.before call.after) call.schema × (call.holds ≡ call.held))
    ⊎ OfServed (λ S. (OfRefusal S (λ told. SaidOf told call.before call.after) call.held × (call.holds ≡ call.held)) ⊎ SaysIn ending.SpeakFault call S) call.schema

-- whole replies were spoken of what there is to say over a store
abbrev pub WholeOver : Schema → (held script before after : Option (List ℕ)) → Type 0
WholeOver S held script before after =
    OfRefusal S (λ told. IsWhole told before after) held
    ⊎ OfStore S (λ first. SaidByLines turn_from first script_limits script before after) held

-- the same, or nothing
abbrev pub IsOrWhole : Schema → (held script before after : Option (List ℕ)) → Type 0
IsOrWhole S held script before after = (after ≡ before) ⊎ WholeOver S held script before after

-- nothing was spoken, or whole replies of what there is to say
abbrev pub WholeServing : (text held script before after : Option (List ℕ)) → Type 0
WholeServing text held script before after =
    (after ≡ before)
    ⊎ OfFault (λ told. IsWhole told before after) text
    ⊎ OfServed (λ S. WholeOver S held script before after) text

-- what is told where the store is refused
abbrev pub TellsRefusal : Status → StoreRefusal → (before after : Option (List ℕ)) → Type 0
TellsRefusal status.StoreRefused why before after = after ≡ append_known before (refused_line why)
TellsRefusal status.SpeakFault why before after = SaidOf (refused_line why) before after
TellsRefusal status.NoMemory why before after = after ≡ before
TellsRefusal _ why before after = ⊥

-- how serving a script over a store ends, under a schema
abbrev pub EndsOverStore : Status → Call → Schema → Type 0
EndsOverStore status.Ok call S = SaysIn ending.End call S
EndsOverStore status.ScriptTooLong call S = SaysIn ending.TooLong call S
EndsOverStore status.ReadFault call S = SaysIn ending.ReadFault call S
EndsOverStore status.StoreRefused call S = OfRefusal S (λ told. call.after ≡ append_known call.before told) call.held × (call.holds ≡ call.held)
EndsOverStore status.SpeakFault call S = (OfRefusal S (λ told. SaidOf told call.before call.after) call.held × (call.holds ≡ call.held)) ⊎ SaysIn ending.SpeakFault call S
EndsOverStore status.DiskFault call S = ((call.after ≡ call.before) × IsSameButGate call.held call.holds) ⊎ SaysIn ending.DiskFault call S
EndsOverStore status.NoMemory call S = ((call.after ≡ call.before) × (call.holds ≡ call.held)) ⊎ SaysIn ending.NoMemory call S
EndsOverStore status.Usage call S = ⊥
EndsOverStore status.SchemaRefused call S = ⊥

-- How serving a script over a text and a store ends: what was spoken by then and what the store stands for, and how often the text's source
-- had failed before and has now. Where text or store are refused, or memory is wanting before the script is read, the store's file is as it
-- was; where the disk fails then, it is so but for the gate that mounting closes.
abbrev pub EndsServing : Status → Call → (old new : ℕ) → Type 0
EndsServing status.Ok call old new = OfServed (SaysIn ending.End call) call.schema
EndsServing status.SchemaRefused call old new = OfFault (λ told. call.after ≡ append_known call.before told) call.schema × (call.holds ≡ call.held)
EndsServing status.StoreRefused call old new = OfServed (λ S. OfRefusal S (λ told. call.after ≡ append_known call.before told) call.held) call.schema × (call.holds ≡ call.held)
EndsServing status.ScriptTooLong call old new = OfServed (SaysIn ending.TooLong call) call.schema
EndsServing status.ReadFault call old new = (Rose old new × (call.after ≡ call.before) × (call.holds ≡ call.held)) ⊎ ((new ≡ old) × OfServed (SaysIn ending.ReadFault call) call.schema)
EndsServing status.SpeakFault call old new = SaidServing call
EndsServing status.DiskFault call old new = ((call.after ≡ call.before) × IsSameButGate call.held call.holds) ⊎ OfServed (SaysIn ending.DiskFault call) call.schema
EndsServing status.NoMemory call old new = ((call.after ≡ call.before) × (call.holds ≡ call.held)) ⊎ OfServed (SaysIn ending.NoMemory call) call.schema
EndsServing status.Usage call old new = ⊥

-- ---- what a crash may leave

-- A moment of a call over a text and a store that stands for these objects and this next serial: each image stands for them; or some lines
-- of the script were answered, and each image stands for what is kept and stored then, or after the line that is served.
abbrev pub IsKeptAt : Schema → Catalog → ℕ → Bool → (script before : Option (List ℕ)) → Moment → Type 0
IsKeptAt S M next is_told script before m =
    ((m.spoken ≡ before) × AllHave (Stands S M next) m)
    ⊎ Comes turn_from Passes OnlyStandsFor (start S standard M next is_told) script_limits script before m

-- of each moment since the store's file was made sure of, over whatever the store stands for under the schema
abbrev pub IsKeptOver : Schema → (held script before : Option (List ℕ)) → (history : List Moment) → (after : List Moment) → Moment → Type 0
IsKeptOver S held script before history after now =
    (M : Catalog) (next : ℕ) → IfSome held (λ octets. Stands S M next octets → FromSync history after now (IsKeptAt S M next true script before))

-- the same, whatever the text
abbrev pub IsAlwaysKept : (text held script before : Option (List ℕ)) → (history : List Moment) → (after : List Moment) → Moment → Type 0
IsAlwaysKept text held script before history after now =
    IfSome text (λ bytes. (tree : Definitions) → IsSound bytes tree → IsKeptOver (schema (all_declarations tree)) held script before history after now)

-- After these lines, from these objects and the next serial on: what holds of the machine, and of the next serial that is stored then
-- where the station tells of its disk. An image stands for what is stored, so this says of it that its objects are good, that its next
-- serial is not above the machine's, and that it is above each serial that a commit gave which changed something.
pub record IsRightAfter (S : Schema) (M : Catalog) (next : ℕ) (lines : List LineStep) : Type 0 where
  pub machine : IsRightful S M next (run_over S standard M next lines)
  pub stored : IsSomeAnd (after turn_from (start S standard M next true) lines).saved (IsBetween S (after turn_from (start S standard M next true) lines) (run_over S standard M next lines).lists.history)

-- So after every number of the lines that are served of a script, over the schema of a text without a fault and from each good catalog: so
-- also after those that were taken, whichever way serving them ended.
abbrev pub IsAlwaysRight : (text script : Option (List ℕ)) → Type 0
IsAlwaysRight text script =
    IfSome text (λ bytes. IfSome script (λ lines. (tree : Definitions) → IsSound bytes tree
    → (M : Catalog) (next : ℕ) → IsGood (schema (all_declarations tree)) M next
    → (n : ℕ) → IsRightAfter (schema (all_declarations tree)) M next (take n (lines_of script_limits lines))))

-- A call spared the file, where its content was told: each moment that came has the disk as it was before the call, or the content as it was
-- then as its only image. So a crash at any moment leaves the file as it was, or what a crash before the call might have left.
abbrev pub IsSpared : (held : Option (List ℕ)) → (history after : List Moment) → Moment → Type 0
IsSpared held history after now = IfSome held (λ octets. Through history after (λ m. (m.disk ≡ now.disk) ⊎ IsSettled held m))

-- so of every text and script
abbrev pub ScriptsAreRight : Type 0
ScriptsAreRight = (text script : Option (List ℕ)) → IsAlwaysRight text script

-- the call ended before the script was read: at the words, at the schema, or at the store
abbrev pub ends_before_script : Status → Bool
ends_before_script status.Usage = true
ends_before_script status.SchemaRefused = true
ends_before_script status.StoreRefused = true
ends_before_script status.Ok = false
ends_before_script status.NoMemory = false
ends_before_script status.ReadFault = false
ends_before_script status.DiskFault = false
ends_before_script status.SpeakFault = false
ends_before_script status.ScriptTooLong = false
