-- The lines of a demonstration are short, and few.
use Rattle.std.proofs.Common.{◌≡◌, ◌≤◌, ◌<◌, ◌*◌, ◌-◌, ◌%◌, ◌/◌, ◌∙◌, IfSome, ℕ, zero, suc, List, [], ◌∷◌, length, get_or, Option, Some, None, arith, subst, sym, refl, codes, Bool, true, false}
use Rattle.std.specs.Prelude.{◌==◌, if◌then◌else◌}
use Rattle.std.proofs.lemmas.Bool.{true≢false}
use Rattle.std.specs.Fmt.{decimal}
use Rattle.std.proofs.lemmas.List.{length-append, length-map}
use Rattle.std.proofs.lemmas.Fmt.{length-decimal-le_succ}
use Rattle.pss_base.specs.declared.lines.LineStep.{LineStep}
use Rattle.pss_base.specs.declared.lines.LineStep.TheVariants as step
use Rattle.std.specs.Char.{digit_char}
use Rattle.pss_base.specs.Hexadecimal.{hex_digits}
use Rattle.line_service.specs.Turns.{IsLine}
use Rattle.people_demo.specs.Lines.{as_lines, boss_of, bossed, chosen, drawn, followed, found, made, round_lines, round_texts, rounds_texts}
use Rattle.people_demo.specs.inner.Short.{AreLines}

-- one of the lines is a line
pub line_at : (xs : List LineStep) (i : ℕ) (line : LineStep) → AreLines xs → i < length xs → line ≡ get_or xs i line → IsLine line
line_at [] i line are below is = absurd (omega arith)
line_at (x ∷ xs) zero line are below is = subst IsLine (sym is) are.0
line_at (x ∷ xs) (suc i) line are below is = line_at xs i line are.1 (omega arith) is

-- ---- each kind of line

hex_length : (k n : ℕ) → length (hex_digits k n) ≡ k
unfolding hex_digits
hex_length zero n = refl
hex_length (suc k) n = length-append (hex_digits k (n / 16)) (digit_char (n % 16) ∷ []) ∙ omega (arith, hex_length k (n / 16))

module _ (n : ℕ) (few : n ≤ 2000) where
  number_short : length (decimal n) ≤ 2001
  number_short = omega (arith, length-decimal-le_succ n (omega arith))

made_short : (round : ℕ) → round ≤ 1000 → length (made round) ≤ 65536
made_short round few = (let d = number_short round (omega arith) in simp length-append (omega arith))

found_short : (boss : ℕ) → boss ≤ 1000 → length (found boss) ≤ 65536
found_short boss few = (let d = number_short boss (omega arith) in simp length-append (omega arith))

followed_short : (round : ℕ) → round ≤ 1000 → length (followed round) ≤ 65536
followed_short round few = (let d = number_short (2 * round - 2) (omega arith) in simp length-append (omega arith))

bossed_short : (round boss : ℕ) → round ≤ 1000 → length (bossed round boss) ≤ 65536
bossed_short round boss few =
    (let d = number_short (2 * round - 2) (omega arith) in
    let h = hex_length 8 1 in
    let s = hex_length 16 boss in
    simp length-append (omega arith))

-- ---- all lines

are_checkpoint : (b : Bool) → AreLines (as_lines (if b then codes "checkpoint" ∷ [] else []))
are_checkpoint true = (omega arith, tt)
are_checkpoint false = tt

are_round : (round : ℕ) → round ≤ 1000 → (boss : Option ℕ) → IfSome boss (λ b. b ≤ 1000) → AreLines (round_lines round boss)
are_round round few None within = (omega arith, (omega arith, (made_short round few, (omega arith, (omega arith, (omega arith, are_checkpoint (round % 50 == 0)))))))
are_round round few (Some boss) within =
    (omega arith, (omega arith, (made_short round few, (found_short boss within, (bossed_short round boss few, (followed_short round few, (omega arith, (omega arith, (omega arith, are_checkpoint (round % 50 == 0))))))))))

boss_within : (round x : ℕ) → 1 ≤ round → round ≤ 1000 → (b : Bool) → (round == 1) ≡ b → IfSome (if b then None else Some (chosen x round)) (λ boss. boss ≤ 1000)
boss_within round x some few true e = tt
boss_within round x some few false e =
    (let other : round ≡ 1 → ⊥ = (λ is. absurd (true≢false (subst (λ (n : ℕ). (n == 1) ≡ false) is e))) in omega arith)

pub round_lines_short : (round : ℕ) → 1 ≤ round → round ≤ 1000 → AreLines (round_lines round (boss_of round))
round_lines_short round some few = are_round round few (boss_of round) (boss_within round (drawn round) some few (round == 1) refl)

-- ---- how many

checkpoint_few : (b : Bool) → length (if b then codes "checkpoint" ∷ [] else []) ≤ 1
checkpoint_few true = omega arith
checkpoint_few false = omega arith

round_few : (round : ℕ) (boss : Option ℕ) → length (round_texts round boss) ≤ 10
round_few round None = omega (arith, checkpoint_few (round % 50 == 0))
round_few round (Some boss) = omega (arith, checkpoint_few (round % 50 == 0))

rounds_few : (rounds : ℕ) → length (rounds_texts rounds) ≤ 10 * rounds
rounds_few zero = omega arith
rounds_few (suc rounds) =
    omega (arith, length-append (rounds_texts rounds) (round_texts (suc rounds) (boss_of (suc rounds))), rounds_few rounds, round_few (suc rounds) (boss_of (suc rounds)))

pub round_lines_few : (round : ℕ) (boss : Option ℕ) → length (round_lines round boss) ≤ 10
round_lines_few round boss = omega (arith, length-map (round_texts round boss) step.Line, round_few round boss)

pub rounds_lines_few : (rounds : ℕ) → length (as_lines (rounds_texts rounds)) ≤ 10 * rounds
rounds_lines_few rounds = omega (arith, length-map (rounds_texts rounds) step.Line, rounds_few rounds)
