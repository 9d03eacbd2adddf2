-- An operand behind its operator, as functions read it.
use Rattle.std.proofs.Common.{◌≡◌, ℕ, ◌-◌, ◌<◌, List, Bool, Option, Some, None, is_some, option_map, Ok, refl, ap, sym, ◌∙◌}
use Rattle.psdl_tokens.specs.declared.token.Mark.TheVariants as marks
use Rattle.psdl_tree.specs.Trees.{Expression}
use Rattle.psdl_syntax.proofs.Depths.{inside_is}
use Rattle.pss_base.specs.declared.place.Place.{Place}
use Rattle.part_readers.specs.declared.refusal.Refusal.{Refusal}
use Rattle.part_readers.specs.Reading.{Fails, mapped, both, many, separated}
use Rattle.part_readers.proofs.Loops.{first_fails, second_fails, both_gives, mapped_fails, mapped_gives}
use Rattle.psdl_syntax.specs.declared.fault.Fault.{Fault}
use Rattle.psdl_tokens.specs.declared.token.Mark.{Mark}
use Rattle.psdl_syntax.specs.Seen.{Seen, Word, Sign, Placed, Named, Number, Quoted, Stray}
use Rattle.psdl_syntax.specs.Productions.{Reads, place_at, sign_at, place_part, opened, is_operator, operator_part, operator_at, operand_at, operator_operand_at, group_with, expression_inside, expression_at}

pub sign_fails : {A : Type 0} (refusal : Refusal Fault) (m : Mark) (operand : Reads A) (toks : List Seen) → Fails refusal (place_at m toks) → Fails refusal (operand_at m operand toks)
unfolding operand_at
sign_fails refusal m operand toks h = first_fails refusal (place_at m) operand toks h

pub operand_fails : {A : Type 0} (refusal : Refusal Fault) (m : Mark) (operand : Reads A) (toks mid : List Seen) (p : Place) → place_at m toks ≡ Ok (p, mid) → Fails refusal (operand mid) → Fails refusal (operand_at m operand toks)
unfolding operand_at
operand_fails refusal m operand toks mid p g h = second_fails refusal (place_at m) operand toks p mid g h

pub operand_gives : {A : Type 0} (m : Mark) (operand : Reads A) (toks mid rest : List Seen) (p : Place) (x : A) → place_at m toks ≡ Ok (p, mid) → operand mid ≡ Ok (x, rest) → operand_at m operand toks ≡ Ok ((p, x), rest)
unfolding operand_at
operand_gives m operand toks mid rest p x g h = both_gives (place_at m) operand toks p mid x rest g h

abbrev flat : {O A : Type 0} → (Place × O) × A → Place × O × A
flat p = (p.0.0, p.0.1, p.1)

pub operator_fails : {O A : Type 0} (refusal : Refusal Fault) (of_mark : Mark → Option O) (operand : Reads A) (toks : List Seen) → Fails refusal (operator_at of_mark toks) → Fails refusal (operator_operand_at of_mark operand toks)
unfolding operator_operand_at
operator_fails refusal of_mark operand toks h = mapped_fails refusal flat (both (operator_at of_mark) operand) toks (first_fails refusal (operator_at of_mark) operand toks h)

pub behind_operator_fails : {O A : Type 0} (refusal : Refusal Fault) (of_mark : Mark → Option O) (operand : Reads A) (toks mid : List Seen) (p : Place × O) → operator_at of_mark toks ≡ Ok (p, mid) → Fails refusal (operand mid) → Fails refusal (operator_operand_at of_mark operand toks)
unfolding operator_operand_at
behind_operator_fails refusal of_mark operand toks mid p g h = mapped_fails refusal flat (both (operator_at of_mark) operand) toks (second_fails refusal (operator_at of_mark) operand toks p mid g h)

pub operator_gives : {O A : Type 0} (of_mark : Mark → Option O) (operand : Reads A) (toks mid rest : List Seen) (p : Place × O) (x : A) → operator_at of_mark toks ≡ Ok (p, mid) → operand mid ≡ Ok (x, rest) → operator_operand_at of_mark operand toks ≡ Ok ((p.0, p.1, x), rest)
unfolding operator_operand_at
operator_gives of_mark operand toks mid rest p x g h = mapped_gives flat (both (operator_at of_mark) operand) toks (p, x) rest (both_gives (operator_at of_mark) operand toks p mid x rest g h)

pub group_gives : (d : ℕ) (toks mid end rest : List Seen) (p : Place) (x : Expression) → 0 < d → opened (place_part marks.LeftParen) d toks ≡ Ok (p, mid) → expression_at (d - 1) mid ≡ Ok (x, end) → sign_at marks.RightParen end ≡ Ok (tt, rest) → group_with (expression_inside d) d toks ≡ Ok ((p, x), rest)
unfolding group_with
group_gives d toks mid end rest p x lt open_read inner close =
    let e : expression_inside d mid ≡ Ok (x, end) = ap (λ (r : Reads Expression). r mid) (sym (inside_is d lt)) ∙ inner in
    rw (open_read, e, close) refl

-- a level of operators: its first operand, and the others behind their operators
pub level_gives : {A B X : Type 0} (made : A → List B → X) (is : Seen → Bool) (first : Reads A) (other : Reads B) (toks mid rest : List Seen) (x : A) (ys : List B) → first toks ≡ Ok (x, mid) → many is other mid ≡ Ok (ys, rest) → mapped (λ p. made p.0 p.1) (separated is first other) toks ≡ Ok (made x ys, rest)
level_gives made is first other toks mid rest x ys g h = mapped_gives (λ p. made p.0 p.1) (separated is first other) toks (x, ys) rest (both_gives first (many is other) toks x mid ys rest g h)

pub level_fails : {A B X : Type 0} (refusal : Refusal Fault) (made : A → List B → X) (is : Seen → Bool) (first : Reads A) (other : Reads B) (toks : List Seen) → Fails refusal (first toks) → Fails refusal (mapped (λ p. made p.0 p.1) (separated is first other) toks)
level_fails refusal made is first other toks h = mapped_fails refusal (λ p. made p.0 p.1) (separated is first other) toks (first_fails refusal first (many is other) toks h)

pub behind_first_fails : {A B X : Type 0} (refusal : Refusal Fault) (made : A → List B → X) (is : Seen → Bool) (first : Reads A) (other : Reads B) (toks mid : List Seen) (x : A) → first toks ≡ Ok (x, mid) → Fails refusal (many is other mid) → Fails refusal (mapped (λ p. made p.0 p.1) (separated is first other) toks)
behind_first_fails refusal made is first other toks mid x g h = mapped_fails refusal (λ p. made p.0 p.1) (separated is first other) toks (second_fails refusal first (many is other) toks x mid g h)

mapped_is_some : {X Y : Type 0} (f : X → Y) (x : Option X) → is_some (option_map f x) ≡ is_some x
mapped_is_some f None = refl
mapped_is_some f (Some x) = refl

pub is_operator_part : {O : Type 0} (of_mark : Mark → Option O) (t : Seen) → is_operator of_mark t ≡ is_some (operator_part of_mark t)
is_operator_part of_mark (Word l) = refl
is_operator_part of_mark (Sign n) = refl
is_operator_part of_mark (Placed n p) = sym (mapped_is_some (λ o. (p, o)) (of_mark n))
is_operator_part of_mark (Named i) = refl
is_operator_part of_mark (Number n) = refl
is_operator_part of_mark (Quoted q) = refl
is_operator_part of_mark Stray = refl
