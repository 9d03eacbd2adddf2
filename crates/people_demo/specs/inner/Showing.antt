-- What a demonstration has come to.
use Rattle.std.specs.Prelude.{ℕ, ◌≡◌, ◌+◌, ◌≤◌, List, [], ◌∷◌, Bool, true, IfSome}
use Rattle.std.specs.declared.option.Option.{Option}
use Rattle.pss_base.specs.declared.lines.LineStep.{LineStep}
use Rattle.pss_catalog.specs.Catalog.{Catalog}
use Rattle.pss_machine.specs.Limits.{standard}
use Rattle.pss_machine.specs.Run.{reply_of}
use Rattle.pss_machine.specs.declared.reply.Reply.{Reply}
use Rattle.pss_recovery.specs.Mounted.{IsMounted}
use Rattle.commit_saving.specs.Saving.{IfTold}
use Rattle.connector.specs.Keeping.{Keeps, is_live, limits_of, performed_by, schema_of, store_of}
use Rattle.script_service.specs.Turns.{Running, start, told_by, turn_from}
use Rattle.people_demo.specs.People.{people}
use Rattle.people_demo.specs.Tally.{no_tally, with_answer}
use Rattle.people_demo.specs.declared.tally.Tally.{Tally}
use Rattle.people_demo.specs.declared.showing.Show.{Show}

-- what is kept and stored, the replies that were counted, and how many lines were served
pub record Showing : Type 0 where
  pub running : Running
  pub tally : Tally
  pub lines : ℕ

-- at first, over these objects and the next serial
abbrev pub begun : Catalog → ℕ → Bool → Showing
begun M next is_told = record { running = start people standard M next is_told; tally = no_tally; lines = 0 }

-- what is replied to a line
abbrev pub answer : Running → LineStep → Option Reply
answer r line = reply_of r.schema r.limits r.kept (told_by line)

-- after a line
abbrev pub served : Showing → LineStep → Showing
served s line = record { running = (turn_from s.running line).0; tally = with_answer s.tally (answer s.running line); lines = s.lines + 1 }

-- after lines
abbrev pub served_all : Showing → List LineStep → Showing
served_all s [] = s
served_all s (line ∷ lines) = served_all (served s line) lines

-- the show has come to this, over a station with this content
pub record IsShowing (show : Show) (s : Showing) (content : Option (List ℕ)) : Type 0 where
  pub live : is_live show.connector ≡ true
  pub schema : schema_of show.connector ≡ s.running.schema
  pub limits : limits_of show.connector ≡ s.running.limits
  pub kept : Keeps show.connector s.running.kept
  pub mounted : IfSome s.running.saved (λ next. IfTold content (IsMounted s.running.schema s.running.kept.catalog next (store_of show.connector)))
  pub tally : show.tally ≡ s.tally
  pub performed : performed_by show.connector ≤ s.lines
  pub replies : s.tally.replies ≤ s.lines
  pub ok : s.tally.ok ≤ s.lines

-- it may serve so many lines more
pub record MayServe (show : Show) (content : Option (List ℕ)) (more : ℕ) : Type 0 where
  pub shown : Showing
  pub is : IsShowing show shown content
  pub few : shown.lines + more ≤ 1000000
