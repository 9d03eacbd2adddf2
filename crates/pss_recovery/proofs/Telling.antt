-- What is told of a content that stayed.
use Rattle.std.proofs.Common.{ℕ, ◌≡◌, List, IfSome, subst}
use Rattle.std.specs.declared.option.Option.{Option}

pub told_before : (old now : Option (List ℕ)) (P : List ℕ → Type 0) → now ≡ old → IfSome now P → IfSome old P
told_before old now P same h = subst (λ o. IfSome o P) same h
