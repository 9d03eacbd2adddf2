-- Results of which something holds where memory did not lack.
use Rattle.std.proofs.Common.{Result, Ok, Err, IfOk, OnOk, OnErr}

pub if_ok : {A E : Type 0} {P Q : A → Type 0} (r : Result A E) → ((a : A) → P a → Q a) → IfOk r P → IfOk r Q
if_ok (Ok a) f p = f a p
if_ok (Err e) f p = p

pub on_ok : {A E P Q : Type 0} (r : Result A E) → (P → Q) → OnOk r P → OnOk r Q
on_ok (Ok a) f p = f p
on_ok (Err e) f p = p

pub if_ok_on : {A E D : Type 0} {P Q : A → Type 0} (r : Result A E) → ((a : A) → D → P a → Q a) → OnOk r D → IfOk r P → IfOk r Q
if_ok_on (Ok a) f d p = f a d p
if_ok_on (Err e) f d p = p

pub on_both : {A E P Q X : Type 0} (r : Result A E) → (P → X) → (Q → X) → OnOk r P → OnErr r Q → X
on_both (Ok a) f g p q = f p
on_both (Err e) f g p q = g q
