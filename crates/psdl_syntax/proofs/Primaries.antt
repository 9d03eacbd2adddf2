-- A primary, as functions read it, and seen as a tree.
use Rattle.std.proofs.Common.{◌≡◌, ℕ, ◌-◌, ◌<◌, List, true, false, Ok, refl, ap, sym, ◌∙◌}
use Rattle.pss_base.specs.declared.place.Place.{Place}
use Rattle.part_readers.specs.declared.refusal.Refusal.{Refusal}
use Rattle.part_readers.specs.declared.refusal.Refusal.TheVariants.{Memory, Fault as Faulty}
use Rattle.part_readers.specs.Reading.{Fails, starts}
use Rattle.psdl_tokens.specs.declared.token.Mark.TheVariants as marks
use Rattle.psdl_tree.specs.declared.names.Name.{Name as NameNode}
use Rattle.psdl_tree.specs.declared.expressions.IntegerLiteral.{IntegerLiteral}
use Rattle.psdl_tree.specs.declared.expressions.TextLiteral.{TextLiteral}
use Rattle.psdl_tree.specs.declared.expressions.ShiftOperator.{ShiftOperator}
use Rattle.psdl_tree.specs.declared.expressions.SumOperator.{SumOperator}
use Rattle.psdl_tree.specs.declared.expressions.ProductOperator.{ProductOperator}
use Rattle.psdl_tree.specs.declared.expressions.Group.{Group as GroupNode}
use Rattle.psdl_tree.specs.declared.expressions.Primary.TheVariants as nodes
use Rattle.psdl_tree.specs.declared.expressions.Primary.TheOpen as open_primary
use Rattle.psdl_tree.specs.declared.expressions.Primary.TheFolds.{fold-roll-Primary}
use Rattle.psdl_tree.specs.Trees.{Name, Primary, NameOperand, IntegerOperand, TextOperand, Group, And, Expression, Product, Shift, Sum, Unary, Xor}
use Rattle.psdl_tree.specs.Views.{primary_step, and_step, and_part_step, expression_step, group_step, or_part_step, product_step, product_part_step, shift_step, shift_part_step, sum_step, sum_part_step, unary_step, xor_step, xor_part_step, name_view, primary_view, group_view}
use Rattle.psdl_syntax.specs.declared.fault.Fault.{Fault}
use Rattle.psdl_syntax.specs.Seen.{Seen}
use Rattle.psdl_syntax.specs.Productions.{Reads, is_name, is_number, is_quoted, name_at, number_at, quoted_at, place_part, sign_at, opened, group_with, primary_with, expression_inside, expression_at}
use Rattle.psdl_syntax.proofs.Depths.{inside_is}

pub name_is : (n : NameNode) → primary_view (nodes.Name n) ≡ NameOperand (name_view n)
name_is n = ap primary_view (sym (nodes.rolls-Name n)) ∙ fold-roll-Primary Primary And (Place × Shift) Expression (Place × Expression) (Place × Xor) Product (Place × ProductOperator × Unary) Shift (Place × ShiftOperator × Sum) Sum (Place × SumOperator × Product) Unary Xor (Place × And) primary_step and_step and_part_step expression_step group_step or_part_step product_step product_part_step shift_step shift_part_step sum_step sum_part_step unary_step xor_step xor_part_step (open_primary.Name n)

pub number_is : (n : IntegerLiteral) → primary_view (nodes.Integer n) ≡ IntegerOperand n
number_is n = ap primary_view (sym (nodes.rolls-Integer n)) ∙ fold-roll-Primary Primary And (Place × Shift) Expression (Place × Expression) (Place × Xor) Product (Place × ProductOperator × Unary) Shift (Place × ShiftOperator × Sum) Sum (Place × SumOperator × Product) Unary Xor (Place × And) primary_step and_step and_part_step expression_step group_step or_part_step product_step product_part_step shift_step shift_part_step sum_step sum_part_step unary_step xor_step xor_part_step (open_primary.Integer n)

pub quoted_is : (q : TextLiteral) → primary_view (nodes.Text q) ≡ TextOperand q
quoted_is q = ap primary_view (sym (nodes.rolls-Text q)) ∙ fold-roll-Primary Primary And (Place × Shift) Expression (Place × Expression) (Place × Xor) Product (Place × ProductOperator × Unary) Shift (Place × ShiftOperator × Sum) Sum (Place × SumOperator × Product) Unary Xor (Place × And) primary_step and_step and_part_step expression_step group_step or_part_step product_step product_part_step shift_step shift_part_step sum_step sum_part_step unary_step xor_step xor_part_step (open_primary.Text q)

pub group_is : (g : GroupNode) → primary_view (nodes.Group g) ≡ Group (group_view g).0 (group_view g).1
group_is g = ap primary_view (sym (nodes.rolls-Group g)) ∙ fold-roll-Primary Primary And (Place × Shift) Expression (Place × Expression) (Place × Xor) Product (Place × ProductOperator × Unary) Shift (Place × ShiftOperator × Sum) Sum (Place × SumOperator × Product) Unary Xor (Place × And) primary_step and_step and_part_step expression_step group_step or_part_step product_step product_part_step shift_step shift_part_step sum_step sum_part_step unary_step xor_step xor_part_step (open_primary.Group g)

pub name_gives : (inner : Reads Expression) (d : ℕ) (toks rest : List Seen) (x : Name) → starts is_name toks ≡ true → name_at toks ≡ Ok (x, rest) → primary_with inner d toks ≡ Ok (NameOperand x, rest)
unfolding primary_with
name_gives inner d toks rest x a h = rw (a, h) refl

pub name_fails : (refusal : Refusal Fault) (inner : Reads Expression) (d : ℕ) (toks : List Seen) → starts is_name toks ≡ true → Fails refusal (name_at toks) → Fails refusal (primary_with inner d toks)
unfolding primary_with
name_fails Memory inner d toks a h = tt
name_fails (Faulty f) inner d toks a h = rw (a, h) refl

pub number_gives : (inner : Reads Expression) (d : ℕ) (toks rest : List Seen) (x : IntegerLiteral) → starts is_name toks ≡ false → starts is_number toks ≡ true → number_at toks ≡ Ok (x, rest) → primary_with inner d toks ≡ Ok (IntegerOperand x, rest)
unfolding primary_with
number_gives inner d toks rest x a b h = rw (a, b, h) refl

pub number_fails : (refusal : Refusal Fault) (inner : Reads Expression) (d : ℕ) (toks : List Seen) → starts is_name toks ≡ false → starts is_number toks ≡ true → Fails refusal (number_at toks) → Fails refusal (primary_with inner d toks)
unfolding primary_with
number_fails Memory inner d toks a b h = tt
number_fails (Faulty f) inner d toks a b h = rw (a, b, h) refl

pub quoted_gives : (inner : Reads Expression) (d : ℕ) (toks rest : List Seen) (x : TextLiteral) → starts is_name toks ≡ false → starts is_number toks ≡ false → starts is_quoted toks ≡ true → quoted_at toks ≡ Ok (x, rest) → primary_with inner d toks ≡ Ok (TextOperand x, rest)
unfolding primary_with
quoted_gives inner d toks rest x a b c h = rw (a, b, c, h) refl

pub quoted_fails : (refusal : Refusal Fault) (inner : Reads Expression) (d : ℕ) (toks : List Seen) → starts is_name toks ≡ false → starts is_number toks ≡ false → starts is_quoted toks ≡ true → Fails refusal (quoted_at toks) → Fails refusal (primary_with inner d toks)
unfolding primary_with
quoted_fails Memory inner d toks a b c h = tt
quoted_fails (Faulty f) inner d toks a b c h = rw (a, b, c, h) refl

pub group_gives : (inner : Reads Expression) (d : ℕ) (toks rest : List Seen) (x : Place × Expression) → starts is_name toks ≡ false → starts is_number toks ≡ false → starts is_quoted toks ≡ false → group_with inner d toks ≡ Ok (x, rest) → primary_with inner d toks ≡ Ok (Group x.0 x.1, rest)
unfolding primary_with
group_gives inner d toks rest x a b c h = rw (a, b, c, h) refl

pub group_fails : (refusal : Refusal Fault) (inner : Reads Expression) (d : ℕ) (toks : List Seen) → starts is_name toks ≡ false → starts is_number toks ≡ false → starts is_quoted toks ≡ false → Fails refusal (group_with inner d toks) → Fails refusal (primary_with inner d toks)
unfolding primary_with
group_fails Memory inner d toks a b c h = tt
group_fails (Faulty f) inner d toks a b c h = rw (a, b, c, h) refl

-- the parts of a group

pub open_fails : (refusal : Refusal Fault) (d : ℕ) (toks : List Seen) → Fails refusal (opened (place_part marks.LeftParen) d toks) → Fails refusal (group_with (expression_inside d) d toks)
unfolding group_with
open_fails Memory d toks h = tt
open_fails (Faulty f) d toks h = rw h refl

pub inner_fails : (refusal : Refusal Fault) (d : ℕ) (toks mid : List Seen) (p : Place) → 0 < d → opened (place_part marks.LeftParen) d toks ≡ Ok (p, mid) → Fails refusal (expression_at (d - 1) mid) → Fails refusal (group_with (expression_inside d) d toks)
unfolding group_with
inner_fails Memory d toks mid p lt open_read h = tt
inner_fails (Faulty f) d toks mid p lt open_read h = rw (open_read, ap (λ (r : Reads Expression). r mid) (sym (inside_is d lt)) ∙ h) refl

pub close_fails : (refusal : Refusal Fault) (d : ℕ) (toks mid end : List Seen) (p : Place) (x : Expression) → 0 < d → opened (place_part marks.LeftParen) d toks ≡ Ok (p, mid) → expression_at (d - 1) mid ≡ Ok (x, end) → Fails refusal (sign_at marks.RightParen end) → Fails refusal (group_with (expression_inside d) d toks)
unfolding group_with
close_fails Memory d toks mid end p x lt open_read inner h = tt
close_fails (Faulty f) d toks mid end p x lt open_read inner h = rw (open_read, ap (λ (r : Reads Expression). r mid) (sym (inside_is d lt)) ∙ inner, h) refl
