use Rattle.std.proofs.Common.{◌≡◌, ◌≤◌, ◌<◌, ◌^◌, ◌++◌, ◌∷◌, [], List, ℕ, ◌+◌, ◌/◌, ◌%◌, sym, ap, ◌∙◌, append_assoc, arith}
use Rattle.std.specs.Fmt.{decimal}
use Rattle.std.proofs.lemmas.Fmt.{decimal_step}
use Rattle.type_layout.proofs.shape.+put_decimal.Goals as goal

-- one more digit behind those of the tenth
another : (front mid new : List ℕ) (n : ℕ) → 10 ≤ n → n < 2 ^ 64 → new ≡ mid ++ (48 + n % 10) ∷ [] → mid ≡ front ++ decimal (n / 10) → new ≡ front ++ decimal n
another front mid new n ten small is so_far =
    is ∙ ap (λ (l : List ℕ). l ++ (48 + n % 10) ∷ []) so_far ∙ append_assoc front (decimal (n / 10)) ((48 + n % 10) ∷ []) ∙ ap (λ (l : List ℕ). front ++ l) (sym (decimal_step n ten small))

pub returns : goal.returns
returns t c =
    another c.args.text.now c.put_decimal.new.text c.push-2.new.self c.args.number c.if-number-lt10.false (omega (arith, c.ranges.number)) c.in_ok-push.ensures.ok c.in_ok-put_decimal.ensures
