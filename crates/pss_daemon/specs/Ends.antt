-- How a call of the service ends, and what it leaves.
use Rattle.std.specs.Prelude.{ℕ, ◌≡◌, ◌⊎◌, List, [], ◌∷◌, ◌++◌, codes}
use Rattle.std.specs.declared.option.Option.{Option}
use Rattle.std.specs.Io.KnownBytes.{append_known}
use Rattle.line_service.specs.Spoken.{SaidOf}
use Rattle.line_service.specs.Turns.{IsWhole}
use Rattle.pss_daemon.specs.Forms.{IsPlanOf}
use Rattle.pss_daemon.specs.declared.forms.Plan.{Plan}
use Rattle.pss_daemon.specs.declared.forms.Plan.TheVariants.{Check, Init, Run, Demo}
use Rattle.pss_serving.specs.Outcomes.{Call, EndsChecking, EndsServing, OfText, WholeServing}
use Rattle.pss_serving.specs.Making.{EndsMaking, Made, WholeMaking}
use Rattle.pss_daemon.specs.Shows.{EndsShowing, WholeShowing}
use Rattle.pss_serving.specs.declared.status.Status.{Status}
use Rattle.pss_serving.specs.declared.status.Status.TheVariants as status

-- what is spoken where the words are none of the forms
abbrev pub usage_line : List ℕ
usage_line = codes "usage: pssd check SCHEMA | init SCHEMA STORE | run SCHEMA STORE | demo N STORE" ++ 10 ∷ []

-- the words are none of the forms
abbrev pub IsNoPlan : List (List ℕ) → Type 0
IsNoPlan words = (plan : Plan) → IsPlanOf words plan → ⊥

-- the words ask to serve a script
abbrev pub IsRun : List (List ℕ) → Type 0
IsRun words = (schema : ℕ) × (store : ℕ) × IsPlanOf words (Run schema store)

-- the words ask to check a text
abbrev pub IsCheck : List (List ℕ) → Type 0
IsCheck words = (schema : ℕ) × IsPlanOf words (Check schema)

-- the words ask to make a store
abbrev pub IsInit : List (List ℕ) → Type 0
IsInit words = (schema : ℕ) × (store : ℕ) × IsPlanOf words (Init schema store)

-- the words ask for a demonstration of so many rounds
abbrev pub IsDemo : List (List ℕ) → Type 0
IsDemo words = (rounds : ℕ) × (store : ℕ) × IsPlanOf words (Demo rounds store)

-- a line was spoken, and the call ended with its status; or speech failed
abbrev pub EndsTelling : (line : List ℕ) → (told ending : Status) → (before after : Option (List ℕ)) → Type 0
EndsTelling line told ending before after =
    ((ending ≡ told) × (after ≡ append_known before line)) ⊎ ((ending ≡ status.SpeakFault) × SaidOf line before after)

-- what it comes to where a store is to be made
abbrev pub made_of : Call → Made
made_of call = record { text = call.schema; before = call.before; after = call.after; held = call.held; holds = call.holds; disk = call.disk }

-- How a call ends, by what its words ask for: what was spoken by then, and how often the schema's source had failed before and has now.
abbrev pub Ends : Status → List (List ℕ) → Call → (old new : ℕ) → Type 0
Ends ending words call old new =
    (IsNoPlan words × EndsTelling usage_line status.Usage ending call.before call.after)
    ⊎ ((IsCheck words × EndsChecking ending call.schema call.before call.after old new)
    ⊎ ((IsInit words × EndsMaking ending (made_of call) old new)
    ⊎ ((IsRun words × EndsServing ending call old new)
    ⊎ ((demo : IsDemo words) × EndsShowing demo.0 ending call))))

-- whole replies were spoken of what there is to say
abbrev pub SaidWhole : List (List ℕ) → (schema held script before after : Option (List ℕ)) → Type 0
SaidWhole words schema held script before after =
    (IsNoPlan words × IsWhole usage_line before after)
    ⊎ ((IsCheck words × OfText (λ told. IsWhole told before after) schema)
    ⊎ ((IsInit words × WholeMaking schema before after)
    ⊎ ((IsRun words × WholeServing schema held script before after)
    ⊎ ((demo : IsDemo words) × WholeShowing demo.0 held before after))))
