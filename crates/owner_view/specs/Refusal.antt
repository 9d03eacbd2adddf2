-- What becomes of an object unless it is refused.
use Rattle.std.specs.Prelude.{ℕ, [], ◌∷◌, Option, Some}
use Rattle.type_layout.specs.Schemas.{given}
use Rattle.pss_catalog.specs.Catalog.{Object}
use Rattle.pss_machine.specs.Operations.{PlainAnswer, Gone, Duplicate, TooLarge}
use Rattle.pss_machine.specs.Alone.{Outcome, answers}
use Rattle.owner_view.specs.declared.refusal.Refusal.{Refusal}
use Rattle.owner_view.specs.declared.refusal.Refusal.TheVariants as refusal

abbrev pub answer_of : Refusal → PlainAnswer
answer_of (refusal.Gone pid) = Gone pid
answer_of (refusal.Duplicate key) = Duplicate key
answer_of refusal.TooLarge = TooLarge

-- the object is put at the serial, unless it is refused
abbrev pub unless_refused : Option Refusal → ℕ → Object → PlainAnswer → Outcome
unless_refused refused serial object done = given refused (record { changes = record { serial = serial; state = Some object } ∷ []; answer = done }) (λ r. answers (answer_of r))
