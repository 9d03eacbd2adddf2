-- What is spoken for lines, one after another.
use Rattle.std.proofs.Common.{◌≡◌, ℕ, List, [], ◌∷◌, ◌++◌, Some, None, refl, sym, ◌∙◌, ap, append_assoc, append-nil}
use Rattle.std.specs.declared.option.Option.{Option}
use Rattle.std.specs.Io.KnownBytes.{append_known}
use Rattle.pss_base.specs.declared.lines.LineStep.{LineStep}
use Rattle.line_service.specs.Turns.{TurnOf, after, said}

pub append_known-nil : (a : Option (List ℕ)) → a ≡ append_known a []
append_known-nil None = refl
append_known-nil (Some x) = ap Some (sym (append-nil x))

pub append_known-append : (a : Option (List ℕ)) (xs ys : List ℕ) → append_known (append_known a xs) ys ≡ append_known a (xs ++ ys)
append_known-append None xs ys = refl
append_known-append (Some x) xs ys = ap Some (append_assoc x xs ys)

module _ {State : Type 0} (turn : TurnOf State) where
  pub said-join : (s : State) (xs ys : List LineStep) → said turn s (xs ++ ys) ≡ said turn s xs ++ said turn (after turn s xs) ys
  said-join s [] ys = refl
  said-join s (x ∷ xs) ys = ap (λ l. (turn s x).1 ++ l) (said-join (turn s x).0 xs ys) ∙ sym (append_assoc (turn s x).1 (said turn (turn s x).0 xs) (said turn (after turn (turn s x).0 xs) ys))

  pub after-append : (s : State) (lines : List LineStep) (line : LineStep) → after turn s (lines ++ line ∷ []) ≡ (turn (after turn s lines) line).0
  after-append s [] line = refl
  after-append s (l ∷ lines) line = after-append (turn s l).0 lines line

  pub said-append : (s : State) (lines : List LineStep) (line : LineStep) → said turn s (lines ++ line ∷ []) ≡ said turn s lines ++ (turn (after turn s lines) line).1
  said-append s lines line = said-join s lines (line ∷ []) ∙ ap (λ l. said turn s lines ++ l) (append-nil (turn (after turn s lines) line).1)
