-- Pieces that are added one behind the other.
use Rattle.std.proofs.Common.{◌≡◌, ◌+◌, ℕ, suc, sym, subst, arith, codes, List, [], ◌∷◌, ◌++◌, ap, ◌∙◌, append_assoc}
use Rattle.pss_base.specs.declared.lines.LineStep.{LineStep}
use Rattle.pss_base.specs.declared.lines.LineStep.TheVariants as step
use Rattle.std.proofs.lemmas.List.{map-append}
use Rattle.people_demo.specs.Lines.{as_lines, boss_of, counting, demo_lines, opening, round_lines, round_texts, rounds_texts}

pub two_added : {T : Type 0} (a b c x y : List T) → b ≡ a ++ x → c ≡ b ++ y → c ≡ a ++ (x ++ y)
two_added a b c x y p q = q ∙ ap (λ l. l ++ y) p ∙ append_assoc a x y

pub three_added : {T : Type 0} (a b c d x y z : List T) → b ≡ a ++ x → c ≡ b ++ y → d ≡ c ++ z → d ≡ a ++ (x ++ (y ++ z))
three_added a b c d x y z p q r = two_added a b d x (y ++ z) p (two_added b c d y z q r)

pub four_added : {T : Type 0} (a b c d e x y z w : List T) → b ≡ a ++ x → c ≡ b ++ y → d ≡ c ++ z → e ≡ d ++ w → e ≡ a ++ (x ++ (y ++ (z ++ w)))
four_added a b c d e x y z w p q r s = two_added a b e x (y ++ (z ++ w)) p (three_added b c d e y z w q r s)

-- a line of this text
pub line_added : (a b : List LineStep) (t u : List ℕ) → b ≡ a ++ as_lines (t ∷ []) → t ≡ u → b ≡ a ++ as_lines (u ∷ [])
line_added a b t u p q = p ∙ ap (λ (text : List ℕ). a ++ as_lines (text ∷ [])) q

-- the lines of one round more
pub rounds_added : (n : ℕ) → as_lines (rounds_texts n) ++ round_lines (n + 1) (boss_of (n + 1)) ≡ as_lines (rounds_texts (n + 1))
rounds_added n = subst (λ (k : ℕ). as_lines (rounds_texts n) ++ round_lines k (boss_of k) ≡ as_lines (rounds_texts k)) (omega arith) by
  where
    by : as_lines (rounds_texts n) ++ round_lines (suc n) (boss_of (suc n)) ≡ as_lines (rounds_texts (suc n))
    by = sym (map-append step.Line (rounds_texts n) (round_texts (suc n) (boss_of (suc n))))

-- all lines of a demonstration
pub demo_parts : (rounds : ℕ) → (opening ++ as_lines (rounds_texts rounds)) ++ counting ≡ demo_lines rounds
demo_parts rounds = ap (λ (lines : List LineStep). step.Line (codes "open s0 basic rw") ∷ step.Line (codes "open s1 tx rw") ∷ lines) (sym (map-append step.Line (rounds_texts rounds) (codes "count s0 PersonHomeBase" ∷ [])))
