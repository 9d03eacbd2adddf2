-- What holds of both cases holds of the whole.
use Rattle.std.proofs.Common.{◌≡◌, Bool, true, false, Option, Some, None, refl}
use Rattle.std.specs.Prelude.{if◌then◌else◌}
use Rattle.type_layout.specs.Schemas.{given}

module _ {A B : Type 0} (P : B → Type 0) where
  pub of_given : (o : Option A) (other : B) (f : A → B) → P other → ((x : A) → o ≡ Some x → P (f x)) → P (given o other f)
  of_given None other f p q = p
  of_given (Some x) other f p q = q x refl

module _ {B : Type 0} (P : B → Type 0) where
  pub of_if : (b : Bool) (x y : B) → P x → P y → P (if b then x else y)
  of_if true x y p q = p
  of_if false x y p q = q
