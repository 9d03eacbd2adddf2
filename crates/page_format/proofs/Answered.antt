-- What holds after Ok.
use Rattle.std.proofs.Common.{Result, Ok, Err, IfOk, OnOk}

-- facts that hold after Ok, put together
pub after_one : {T E A D : Type 0} (r : Result T E) → OnOk r A → (A → D) → OnOk r D
after_one (Ok t) a f = f a
after_one (Err e) a f = tt

pub told_both : {T E B : Type 0} {A D : T → Type 0} (r : Result T E) → IfOk r A → OnOk r B → ((t : T) → A t → B → D t) → IfOk r D
told_both (Ok t) a b f = f t a b
told_both (Err e) a b f = tt
