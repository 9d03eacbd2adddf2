-- How a demonstration ends, as a status.
use Rattle.std.specs.Prelude.{ℕ, ◌≡◌, ◌⊎◌, List, None, Some, IfSome}
use Rattle.std.specs.declared.option.Option.{Option}
use Rattle.std.specs.Io.KnownBytes.{append_known}
use Rattle.pss_disk.specs.Moments.{IsOnlyImage}
use Rattle.commit_saving.specs.Saving.{IfTold}
use Rattle.line_service.specs.Spoken.{SaidOf}
use Rattle.line_service.specs.Turns.{IsWhole}
use Rattle.store_refusals.specs.Lines.{IsFilledKept, WasEmpty, not_empty_line, refused_line}
use Rattle.store_refusals.specs.declared.refusals.StoreRefusal.{StoreRefusal}
use Rattle.script_service.specs.Keeping.{StandsFor}
use Rattle.people_demo.specs.Shows.{IsShownLine, shown}
use Rattle.pss_serving.specs.Making.{OfFilled}
use Rattle.pss_serving.specs.Outcomes.{Call}
use Rattle.pss_serving.specs.declared.status.Status.{Status}
use Rattle.pss_serving.specs.declared.status.Status.TheVariants as status

-- what was made in a file that is not told is not mounted, and this is so of the line that tells why
abbrev pub OfUnmounted : (List ℕ → Type 0) → (held : Option (List ℕ)) → Type 0
OfUnmounted Told held = (held ≡ None) × (why : StoreRefusal) × Told (refused_line why)

-- a demonstration is refused, and this is so of the line that tells why
abbrev pub OfDemoFault : (List ℕ → Type 0) → Call → Type 0
OfDemoFault Told call = OfFilled Told call.held call.holds ⊎ OfUnmounted Told call.held

-- this is so of the line of so many rounds
abbrev pub OfShown : (List ℕ → Type 0) → ℕ → (held : Option (List ℕ)) → Type 0
OfShown Told rounds held = (line : List ℕ) × IsShownLine rounds held line × Told line

-- a store was made in an empty file, and stands for what is kept and stored after so many rounds; nothing is pending
pub record HasShown (rounds : ℕ) (call : Call) : Type 0 where
  pub was_empty : WasEmpty call.held
  pub stands : IfSome call.held (λ octets. IfTold call.holds (StandsFor (shown rounds)))
  pub settled : IfSome call.disk (λ disk. (octets : List ℕ) × (call.holds ≡ Some octets) × IsOnlyImage disk octets)

-- What was spoken by then, and what the store stands for. A file that has octets is as it was, whatever the answer.
abbrev pub EndsShowing : ℕ → Status → Call → Type 0
EndsShowing rounds status.Ok call = OfShown (λ told. call.after ≡ append_known call.before told) rounds call.held × HasShown rounds call
EndsShowing rounds status.StoreRefused call = OfDemoFault (λ told. call.after ≡ append_known call.before told) call
EndsShowing rounds status.SpeakFault call = (OfShown (λ told. SaidOf told call.before call.after) rounds call.held × WasEmpty call.held) ⊎ OfDemoFault (λ told. SaidOf told call.before call.after) call
EndsShowing rounds status.DiskFault call = (call.after ≡ call.before) × IsFilledKept call.held call.holds
EndsShowing rounds status.NoMemory call = (call.after ≡ call.before) × IsFilledKept call.held call.holds
EndsShowing rounds status.Usage call = ⊥
EndsShowing rounds status.SchemaRefused call = ⊥
EndsShowing rounds status.ReadFault call = ⊥
EndsShowing rounds status.ScriptTooLong call = ⊥

-- whole lines were spoken of what there is to say
abbrev pub WholeShowing : ℕ → (held before after : Option (List ℕ)) → Type 0
WholeShowing rounds held before after =
    OfShown (λ told. IsWhole told before after) rounds held ⊎ IsWhole not_empty_line before after ⊎ OfUnmounted (λ told. IsWhole told before after) held
