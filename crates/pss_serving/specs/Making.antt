-- How making a store for a text ends.
use Rattle.std.specs.Prelude.{ℕ, ◌≡◌, ◌⊎◌, List, length, Some, IfSome, IsSome}
use Rattle.std.specs.declared.option.Option.{Option}
use Rattle.std.specs.FinMap.{empty}
use Rattle.std.specs.Io.KnownBytes.{append_known}
use Rattle.pss_base.specs.Causes.{Rose}
use Rattle.pss_disk.specs.Moments.{Disk, IsOnlyImage}
use Rattle.type_layout.specs.declared.schema.Schema.{Schema}
use Rattle.pss_recovery.specs.Stands.{Stands}
use Rattle.store_refusals.specs.Lines.{IsFilled, IsFilledKept, not_empty_line}
use Rattle.line_service.specs.Spoken.{SaidOf}
use Rattle.line_service.specs.Turns.{IsWhole}
use Rattle.pss_serving.specs.Outcomes.{OfFault, OfServed}
use Rattle.pss_serving.specs.declared.status.Status.{Status}
use Rattle.pss_serving.specs.declared.status.Status.TheVariants as status

-- a text, what was spoken before and after, what the store's file had and has, and what a crash may leave of it at last
pub record Made : Type 0 where
  pub text : Option (List ℕ)
  pub before : Option (List ℕ)
  pub after : Option (List ℕ)
  pub held : Option (List ℕ)
  pub holds : Option (List ℕ)
  pub disk : Option Disk

-- a store of the schema was made: the file was empty, and stands for no object and 1 as the next serial, and nothing is pending
pub record IsNew (S : Schema) (made : Made) : Type 0 where
  pub stands : IfSome made.holds (Stands S empty 1)
  pub told : IfSome made.held (λ octets. (length octets ≡ 0) × IsSome made.holds)
  pub settled : IfSome made.disk (λ disk. (octets : List ℕ) × (made.holds ≡ Some octets) × IsOnlyImage disk octets)
  pub quiet : made.after ≡ made.before

-- the file has octets, and this is so of the line that tells it; the file is as it was
abbrev pub OfFilled : (List ℕ → Type 0) → (held holds : Option (List ℕ)) → Type 0
OfFilled Told held holds = IsFilled held × Told not_empty_line × (holds ≡ held)

-- How making a store ends, under a schema. Where memory is wanting, the file is as it was; so is one that has octets, whatever the answer.
abbrev pub MakesStore : Status → Schema → Made → Type 0
MakesStore status.Ok S made = IsNew S made
MakesStore status.StoreRefused S made = OfFilled (λ told. made.after ≡ append_known made.before told) made.held made.holds
MakesStore status.SpeakFault S made = OfFilled (λ told. SaidOf told made.before made.after) made.held made.holds
MakesStore status.DiskFault S made = (made.after ≡ made.before) × IsFilledKept made.held made.holds
MakesStore status.NoMemory S made = (made.after ≡ made.before) × (made.holds ≡ made.held)
MakesStore _ S made = ⊥

-- What was spoken by then, and what the store stands for. Where text or file are refused or memory is wanting, the file is as it was; where
-- the disk fails, so is one that has octets. How often the text's source had failed before and has now.
abbrev pub EndsMaking : Status → Made → (old new : ℕ) → Type 0
EndsMaking status.Ok made old new = OfServed (λ S. IsNew S made) made.text
EndsMaking status.SchemaRefused made old new = OfFault (λ told. made.after ≡ append_known made.before told) made.text × (made.holds ≡ made.held)
EndsMaking status.StoreRefused made old new = OfServed (λ S. MakesStore status.StoreRefused S made) made.text
EndsMaking status.ReadFault made old new = Rose old new × (made.after ≡ made.before) × (made.holds ≡ made.held)
EndsMaking status.SpeakFault made old new =
    (OfFault (λ told. SaidOf told made.before made.after) made.text × (made.holds ≡ made.held))
    ⊎ OfServed (λ S. MakesStore status.SpeakFault S made) made.text
EndsMaking status.DiskFault made old new = (made.after ≡ made.before) × IsFilledKept made.held made.holds
EndsMaking status.NoMemory made old new = (made.after ≡ made.before) × (made.holds ≡ made.held)
EndsMaking status.Usage made old new = ⊥
EndsMaking status.ScriptTooLong made old new = ⊥

-- what is told where the file has octets
abbrev pub TellsFilled : Status → (before after : Option (List ℕ)) → Type 0
TellsFilled status.StoreRefused before after = after ≡ append_known before not_empty_line
TellsFilled status.SpeakFault before after = SaidOf not_empty_line before after
TellsFilled _ before after = ⊥

-- whole lines were spoken of what there is to say
abbrev pub WholeMaking : (text before after : Option (List ℕ)) → Type 0
WholeMaking text before after = OfFault (λ told. IsWhole told before after) text ⊎ IsWhole not_empty_line before after
