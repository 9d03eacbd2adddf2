-- What holds of what words ask for, or of the refusal where they ask for nothing.
use Rattle.std.proofs.Common.{Bool, true, false, Option, Some, None}
use Rattle.std.specs.Prelude.{Result, Ok, Err, ok_or}
use Rattle.pss_machine.specs.declared.reply.Reply.{Reply}
use Rattle.pss_machine.specs.Asking.{◌>>=◌, refused_where}

abbrev pub Any : {A : Type 0} → A → Type 0
Any x = Unit {0}

module _ (R : Reply → Type 0) where
  -- what was not refused has one property, and a refusal the other
  abbrev pub Fair : {A : Type 0} → (A → Type 0) → Result A Reply → Type 0
  Fair P (Ok x) = P x
  Fair P (Err refusal) = R refusal

  pub fair_then : {A B : Type 0} (P : B → Type 0) (r : Result A Reply) (f : A → Result B Reply) → Fair Any r → ((x : A) → Fair P (f x)) → Fair P (r >>= f)
  fair_then P (Ok x) f g h = h x
  fair_then P (Err refusal) f g h = g

  pub fair_where : {A : Type 0} (P : A → Type 0) (b : Bool) (refusal : Reply) (r : Result A Reply) → R refusal → Fair P r → Fair P (refused_where b refusal r)
  fair_where P true refusal r one h = one
  fair_where P false refusal r one h = h

  pub fair_or : {A : Type 0} (o : Option A) (refusal : Reply) → R refusal → Fair Any (ok_or o refusal)
  fair_or None refusal one = one
  fair_or (Some x) refusal one = tt
