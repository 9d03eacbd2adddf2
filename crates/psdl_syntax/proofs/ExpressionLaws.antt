-- The readers of expressions keep to the grammar, at each depth.
use Rattle.std.proofs.Common.{◌≡◌, ℕ, zero, suc, true, false, List, [], ◌∷◌, ◌++◌, Option, Some, None, refl, sym, ap, subst, ◌⊎◌, inl, inr}
use Rattle.std.proofs.lemmas.List.{append-nil}
use Rattle.pss_base.specs.declared.place.Place.{Place}
use Rattle.part_readers.specs.Reading.{starts, both, either, optional, separated}
use Rattle.part_readers.specs.Sentences.{joined, maybe}
use Rattle.part_readers.proofs.Boths.{both_reads, mapped_reads, both_tokens}
use Rattle.part_readers.proofs.Choices.{either_reads, either_tokens, optional_reads}
use Rattle.psdl_tokens.specs.declared.token.Mark.{Mark}
use Rattle.psdl_tokens.specs.declared.token.Mark.TheVariants as marks
use Rattle.psdl_tree.specs.declared.expressions.IntegerLiteral.{IntegerLiteral}
use Rattle.psdl_tree.specs.declared.expressions.TextLiteral.{TextLiteral}
use Rattle.psdl_tree.specs.declared.expressions.ShiftOperator.{ShiftOperator}
use Rattle.psdl_tree.specs.declared.expressions.ShiftOperator.TheVariants as shifts
use Rattle.psdl_tree.specs.declared.expressions.SumOperator.{SumOperator}
use Rattle.psdl_tree.specs.declared.expressions.SumOperator.TheVariants as sums
use Rattle.psdl_tree.specs.declared.expressions.ProductOperator.{ProductOperator}
use Rattle.psdl_tree.specs.declared.expressions.ProductOperator.TheVariants as products
use Rattle.psdl_tree.specs.declared.expressions.UnaryOperator.{UnaryOperator}
use Rattle.psdl_tree.specs.declared.expressions.UnaryOperator.TheVariants as signs
use Rattle.psdl_tree.specs.declared.expressions.UnarySign.{UnarySign}
use Rattle.psdl_syntax.specs.Seen.{Seen, Sign, Placed, Number, Quoted}
use Rattle.psdl_syntax.specs.Depth.{room_behind_mark}
use Rattle.psdl_tree.specs.Trees.{Name, Primary, NameOperand, IntegerOperand, TextOperand, Group, Unary, Signed, Product, OneUnary, Multiplied, Sum, OneProduct, Added, Shift, OneSum, Shifted, And, OneShift, Anded, Xor, OneAnd, Xored, Expression, OneXor, Ored}
use Rattle.psdl_syntax.specs.Grammar.{placed, name, unary_mark, unary_sign, product_mark, sum_mark, shift_mark, primary, unary, product, sum, shift, and, xor, expression}
use Rattle.psdl_tree.specs.Views.{product_of, sum_of, shift_of, and_of, xor_of, expression_of}
use Rattle.psdl_syntax.specs.Productions.{Reads, is_mark, is_name, is_number, is_quoted, is_operator, place_part, place_at, name_at, number_at, quoted_at, operator_at, unary_operator, product_operator, sum_operator, shift_operator, unary_sign_at, operand_at, operator_operand_at, primary_of, group_with, primary_with, unary_with, product_with, sum_with, shift_with, and_with, xor_with, expression_with, expression_inside, expression_at}
use Rattle.psdl_syntax.proofs.Psdl.{psdl, Keeps, Ends, place_keeps, place_told, place_only, some_place, number_keeps, quoted_keeps, operator_keeps}
use Rattle.psdl_syntax.proofs.Parts.{anything, separated_keeps}
use Rattle.psdl_syntax.proofs.Enclosed.{enclosed_keeps}
use Rattle.psdl_syntax.proofs.NameLaws.{NameEnds, name_head, name_keeps}

unary_told : (o : UnaryOperator) → unary_operator (unary_mark o) ≡ Some o
unary_told signs.Minus = refl
unary_told signs.Plus = refl
unary_told signs.Not = refl

unary_only : (m : Mark) (o : UnaryOperator) → unary_operator m ≡ Some o → m ≡ unary_mark o
unary_only marks.LeftBrace o h = absurd cc
unary_only marks.RightBrace o h = absurd cc
unary_only marks.LeftParen o h = absurd cc
unary_only marks.RightParen o h = absurd cc
unary_only marks.LeftBracket o h = absurd cc
unary_only marks.RightBracket o h = absurd cc
unary_only marks.Less o h = absurd cc
unary_only marks.Greater o h = absurd cc
unary_only marks.ShiftLeft o h = absurd cc
unary_only marks.ShiftRight o h = absurd cc
unary_only marks.Colon o h = absurd cc
unary_only marks.Scope o h = absurd cc
unary_only marks.Semicolon o h = absurd cc
unary_only marks.Comma o h = absurd cc
unary_only marks.Equals o h = absurd cc
unary_only marks.Or o h = absurd cc
unary_only marks.Xor o h = absurd cc
unary_only marks.And o h = absurd cc
unary_only marks.Plus o h = ap unary_mark (let same : signs.Plus ≡ o = cc in same)
unary_only marks.Minus o h = ap unary_mark (let same : signs.Minus ≡ o = cc in same)
unary_only marks.Times o h = absurd cc
unary_only marks.Divide o h = absurd cc
unary_only marks.Remainder o h = absurd cc
unary_only marks.Not o h = ap unary_mark (let same : signs.Not ≡ o = cc in same)

unary_plain : (d : ℕ) (o : UnaryOperator) → room_behind_mark d (unary_mark o) ≡ Some d
unary_plain d signs.Minus = refl
unary_plain d signs.Plus = refl
unary_plain d signs.Not = refl

product_told : (o : ProductOperator) → product_operator (product_mark o) ≡ Some o
product_told products.Times = refl
product_told products.Divide = refl
product_told products.Remainder = refl

product_only : (m : Mark) (o : ProductOperator) → product_operator m ≡ Some o → m ≡ product_mark o
product_only marks.LeftBrace o h = absurd cc
product_only marks.RightBrace o h = absurd cc
product_only marks.LeftParen o h = absurd cc
product_only marks.RightParen o h = absurd cc
product_only marks.LeftBracket o h = absurd cc
product_only marks.RightBracket o h = absurd cc
product_only marks.Less o h = absurd cc
product_only marks.Greater o h = absurd cc
product_only marks.ShiftLeft o h = absurd cc
product_only marks.ShiftRight o h = absurd cc
product_only marks.Colon o h = absurd cc
product_only marks.Scope o h = absurd cc
product_only marks.Semicolon o h = absurd cc
product_only marks.Comma o h = absurd cc
product_only marks.Equals o h = absurd cc
product_only marks.Or o h = absurd cc
product_only marks.Xor o h = absurd cc
product_only marks.And o h = absurd cc
product_only marks.Plus o h = absurd cc
product_only marks.Minus o h = absurd cc
product_only marks.Times o h = ap product_mark (let same : products.Times ≡ o = cc in same)
product_only marks.Divide o h = ap product_mark (let same : products.Divide ≡ o = cc in same)
product_only marks.Remainder o h = ap product_mark (let same : products.Remainder ≡ o = cc in same)
product_only marks.Not o h = absurd cc

product_plain : (d : ℕ) (o : ProductOperator) → room_behind_mark d (product_mark o) ≡ Some d
product_plain d products.Times = refl
product_plain d products.Divide = refl
product_plain d products.Remainder = refl

sum_told : (o : SumOperator) → sum_operator (sum_mark o) ≡ Some o
sum_told sums.Plus = refl
sum_told sums.Minus = refl

sum_only : (m : Mark) (o : SumOperator) → sum_operator m ≡ Some o → m ≡ sum_mark o
sum_only marks.LeftBrace o h = absurd cc
sum_only marks.RightBrace o h = absurd cc
sum_only marks.LeftParen o h = absurd cc
sum_only marks.RightParen o h = absurd cc
sum_only marks.LeftBracket o h = absurd cc
sum_only marks.RightBracket o h = absurd cc
sum_only marks.Less o h = absurd cc
sum_only marks.Greater o h = absurd cc
sum_only marks.ShiftLeft o h = absurd cc
sum_only marks.ShiftRight o h = absurd cc
sum_only marks.Colon o h = absurd cc
sum_only marks.Scope o h = absurd cc
sum_only marks.Semicolon o h = absurd cc
sum_only marks.Comma o h = absurd cc
sum_only marks.Equals o h = absurd cc
sum_only marks.Or o h = absurd cc
sum_only marks.Xor o h = absurd cc
sum_only marks.And o h = absurd cc
sum_only marks.Plus o h = ap sum_mark (let same : sums.Plus ≡ o = cc in same)
sum_only marks.Minus o h = ap sum_mark (let same : sums.Minus ≡ o = cc in same)
sum_only marks.Times o h = absurd cc
sum_only marks.Divide o h = absurd cc
sum_only marks.Remainder o h = absurd cc
sum_only marks.Not o h = absurd cc

sum_plain : (d : ℕ) (o : SumOperator) → room_behind_mark d (sum_mark o) ≡ Some d
sum_plain d sums.Plus = refl
sum_plain d sums.Minus = refl

shift_told : (o : ShiftOperator) → shift_operator (shift_mark o) ≡ Some o
shift_told shifts.Left = refl
shift_told shifts.Right = refl

shift_only : (m : Mark) (o : ShiftOperator) → shift_operator m ≡ Some o → m ≡ shift_mark o
shift_only marks.LeftBrace o h = absurd cc
shift_only marks.RightBrace o h = absurd cc
shift_only marks.LeftParen o h = absurd cc
shift_only marks.RightParen o h = absurd cc
shift_only marks.LeftBracket o h = absurd cc
shift_only marks.RightBracket o h = absurd cc
shift_only marks.Less o h = absurd cc
shift_only marks.Greater o h = absurd cc
shift_only marks.ShiftLeft o h = ap shift_mark (let same : shifts.Left ≡ o = cc in same)
shift_only marks.ShiftRight o h = ap shift_mark (let same : shifts.Right ≡ o = cc in same)
shift_only marks.Colon o h = absurd cc
shift_only marks.Scope o h = absurd cc
shift_only marks.Semicolon o h = absurd cc
shift_only marks.Comma o h = absurd cc
shift_only marks.Equals o h = absurd cc
shift_only marks.Or o h = absurd cc
shift_only marks.Xor o h = absurd cc
shift_only marks.And o h = absurd cc
shift_only marks.Plus o h = absurd cc
shift_only marks.Minus o h = absurd cc
shift_only marks.Times o h = absurd cc
shift_only marks.Divide o h = absurd cc
shift_only marks.Remainder o h = absurd cc
shift_only marks.Not o h = absurd cc

shift_plain : (d : ℕ) (o : ShiftOperator) → room_behind_mark d (shift_mark o) ≡ Some d
shift_plain d shifts.Left = refl
shift_plain d shifts.Right = refl

abbrev product_parts : Product → Unary × List (Place × ProductOperator × Unary)
product_parts (OneUnary x) = (x, [])
product_parts (Multiplied x p k t) = (x, (p, k, (product_parts t).0) ∷ (product_parts t).1)

product_onto : (t : Product) → product_of (product_parts t).0 (product_parts t).1 ≡ t
product_onto (OneUnary x) = refl
product_onto (Multiplied x p k t) = ap (λ (u : Product). Multiplied x p k u) (product_onto t)

abbrev product_operand : Place × ProductOperator × Unary → List Seen
product_operand q = placed (product_mark q.1) q.0 ++ unary q.2

product_spelled : (x : Unary) (ys : List (Place × ProductOperator × Unary)) → product (product_of x ys) ≡ unary x ++ joined product_operand ys
product_spelled x [] = sym (append-nil (unary x))
product_spelled x (y ∷ ys) = ap (λ (l : List Seen). unary x ++ (placed (product_mark y.1) y.0 ++ l)) (product_spelled y.2 ys)

abbrev sum_parts : Sum → Product × List (Place × SumOperator × Product)
sum_parts (OneProduct x) = (x, [])
sum_parts (Added x p k t) = (x, (p, k, (sum_parts t).0) ∷ (sum_parts t).1)

sum_onto : (t : Sum) → sum_of (sum_parts t).0 (sum_parts t).1 ≡ t
sum_onto (OneProduct x) = refl
sum_onto (Added x p k t) = ap (λ (u : Sum). Added x p k u) (sum_onto t)

abbrev sum_operand : Place × SumOperator × Product → List Seen
sum_operand q = placed (sum_mark q.1) q.0 ++ product q.2

sum_spelled : (x : Product) (ys : List (Place × SumOperator × Product)) → sum (sum_of x ys) ≡ product x ++ joined sum_operand ys
sum_spelled x [] = sym (append-nil (product x))
sum_spelled x (y ∷ ys) = ap (λ (l : List Seen). product x ++ (placed (sum_mark y.1) y.0 ++ l)) (sum_spelled y.2 ys)

abbrev shift_parts : Shift → Sum × List (Place × ShiftOperator × Sum)
shift_parts (OneSum x) = (x, [])
shift_parts (Shifted x p k t) = (x, (p, k, (shift_parts t).0) ∷ (shift_parts t).1)

shift_onto : (t : Shift) → shift_of (shift_parts t).0 (shift_parts t).1 ≡ t
shift_onto (OneSum x) = refl
shift_onto (Shifted x p k t) = ap (λ (u : Shift). Shifted x p k u) (shift_onto t)

abbrev shift_operand : Place × ShiftOperator × Sum → List Seen
shift_operand q = placed (shift_mark q.1) q.0 ++ sum q.2

shift_spelled : (x : Sum) (ys : List (Place × ShiftOperator × Sum)) → shift (shift_of x ys) ≡ sum x ++ joined shift_operand ys
shift_spelled x [] = sym (append-nil (sum x))
shift_spelled x (y ∷ ys) = ap (λ (l : List Seen). sum x ++ (placed (shift_mark y.1) y.0 ++ l)) (shift_spelled y.2 ys)

abbrev and_parts : And → Shift × List (Place × Shift)
and_parts (OneShift x) = (x, [])
and_parts (Anded x p t) = (x, (p, (and_parts t).0) ∷ (and_parts t).1)

and_onto : (t : And) → and_of (and_parts t).0 (and_parts t).1 ≡ t
and_onto (OneShift x) = refl
and_onto (Anded x p t) = ap (λ (u : And). Anded x p u) (and_onto t)

abbrev and_operand : Place × Shift → List Seen
and_operand q = placed marks.And q.0 ++ shift q.1

and_spelled : (x : Shift) (ys : List (Place × Shift)) → and (and_of x ys) ≡ shift x ++ joined and_operand ys
and_spelled x [] = sym (append-nil (shift x))
and_spelled x (y ∷ ys) = ap (λ (l : List Seen). shift x ++ (placed marks.And y.0 ++ l)) (and_spelled y.1 ys)

abbrev xor_parts : Xor → And × List (Place × And)
xor_parts (OneAnd x) = (x, [])
xor_parts (Xored x p t) = (x, (p, (xor_parts t).0) ∷ (xor_parts t).1)

xor_onto : (t : Xor) → xor_of (xor_parts t).0 (xor_parts t).1 ≡ t
xor_onto (OneAnd x) = refl
xor_onto (Xored x p t) = ap (λ (u : Xor). Xored x p u) (xor_onto t)

abbrev xor_operand : Place × And → List Seen
xor_operand q = placed marks.Xor q.0 ++ and q.1

xor_spelled : (x : And) (ys : List (Place × And)) → xor (xor_of x ys) ≡ and x ++ joined xor_operand ys
xor_spelled x [] = sym (append-nil (and x))
xor_spelled x (y ∷ ys) = ap (λ (l : List Seen). and x ++ (placed marks.Xor y.0 ++ l)) (xor_spelled y.1 ys)

abbrev expression_parts : Expression → Xor × List (Place × Xor)
expression_parts (OneXor x) = (x, [])
expression_parts (Ored x p t) = (x, (p, (expression_parts t).0) ∷ (expression_parts t).1)

expression_onto : (t : Expression) → expression_of (expression_parts t).0 (expression_parts t).1 ≡ t
expression_onto (OneXor x) = refl
expression_onto (Ored x p t) = ap (λ (u : Expression). Ored x p u) (expression_onto t)

abbrev expression_operand : Place × Xor → List Seen
expression_operand q = placed marks.Or q.0 ++ xor q.1

expression_spelled : (x : Xor) (ys : List (Place × Xor)) → expression (expression_of x ys) ≡ xor x ++ joined expression_operand ys
expression_spelled x [] = sym (append-nil (xor x))
expression_spelled x (y ∷ ys) = ap (λ (l : List Seen). xor x ++ (placed marks.Or y.0 ++ l)) (expression_spelled y.1 ys)

abbrev pub UnaryEnds : List Seen → Type 0
UnaryEnds = NameEnds

abbrev pub ProductEnds : List Seen → Type 0
ProductEnds = Ends (is_operator product_operator ∷ is_mark marks.Scope ∷ [])

abbrev pub SumEnds : List Seen → Type 0
SumEnds = Ends (is_operator sum_operator ∷ is_operator product_operator ∷ is_mark marks.Scope ∷ [])

abbrev pub ShiftEnds : List Seen → Type 0
ShiftEnds = Ends (is_operator shift_operator ∷ is_operator sum_operator ∷ is_operator product_operator ∷ is_mark marks.Scope ∷ [])

abbrev pub AndEnds : List Seen → Type 0
AndEnds = Ends (is_mark marks.And ∷ is_operator shift_operator ∷ is_operator sum_operator ∷ is_operator product_operator ∷ is_mark marks.Scope ∷ [])

abbrev pub XorEnds : List Seen → Type 0
XorEnds = Ends (is_mark marks.Xor ∷ is_mark marks.And ∷ is_operator shift_operator ∷ is_operator sum_operator ∷ is_operator product_operator ∷ is_mark marks.Scope ∷ [])

abbrev pub ExpressionEnds : List Seen → Type 0
ExpressionEnds = Ends (is_mark marks.Or ∷ is_mark marks.Xor ∷ is_mark marks.And ∷ is_operator shift_operator ∷ is_operator sum_operator ∷ is_operator product_operator ∷ is_mark marks.Scope ∷ [])

-- an operand behind its operator
operand_keeps : {A : Type 0} (d : ℕ) (m : Mark) → room_behind_mark d m ≡ Some d → (r : Reads A) (s : A → List Seen) (E : List Seen → Type 0) → Keeps d d r s E → Keeps d d (operand_at m r) (λ q. placed m q.0 ++ s q.1) E
unfolding operand_at
operand_keeps d m plain r s E is = both_reads psdl d d d (place_at m) r (placed m) s anything E (place_keeps m d plain anything) is (λ y rest h. tt)

module _ {O A : Type 0} (of_mark : Mark → Option O) (mark_of : O → Mark) (told : (o : O) → of_mark (mark_of o) ≡ Some o) (only : (m : Mark) (o : O) → of_mark m ≡ Some o → m ≡ mark_of o) (some : O) where
  operator_operand_keeps : (d : ℕ) → ((o : O) → room_behind_mark d (mark_of o) ≡ Some d) → (r : Reads A) (s : A → List Seen) (E : List Seen → Type 0) → Keeps d d r s E → Keeps d d (operator_operand_at of_mark r) (λ q. placed (mark_of q.1) q.0 ++ s q.2) E
  unfolding operator_operand_at
  operator_operand_keeps d plain r s E is =
      mapped_reads psdl d d (λ (p : (Place × O) × A). (p.0.0, p.0.1, p.1)) (λ (q : Place × O × A). ((q.0, q.1), q.2)) (both (operator_at of_mark) r) (both_tokens (λ x. Placed (mark_of x.1) x.0 ∷ []) s) (λ q. placed (mark_of q.1) q.0 ++ s q.2) E
      (both_reads psdl d d d (operator_at of_mark) r (λ x. Placed (mark_of x.1) x.0 ∷ []) s anything E (operator_keeps of_mark mark_of told only some d plain anything) is (λ y rest h. tt)) (λ y. refl) (λ x. refl)

  -- an operator is one whatever is behind it
  operator_there : (q : Place × O × A) (tail : List Seen) → starts (is_operator of_mark) (placed (mark_of q.1) q.0 ++ tail) ≡ true
  operator_there q tail = rw (told q.1) refl

product_apart : (k : ProductOperator) (p : Place) (tail : List Seen) → UnaryEnds (placed (product_mark k) p ++ tail)
product_apart products.Times p tail = (refl, tt)
product_apart products.Divide p tail = (refl, tt)
product_apart products.Remainder p tail = (refl, tt)

product_keeps : (d : ℕ) (inner : Reads Expression) → Keeps d d (unary_with inner d) unary UnaryEnds → Keeps d d (product_with inner d) product ProductEnds
unfolding product_with
product_keeps d inner is = mapped_reads psdl d d (λ (p : Unary × List (Place × ProductOperator × Unary)). product_of p.0 p.1) product_parts (separated (is_operator product_operator) (unary_with inner d) (operator_operand_at product_operator (unary_with inner d))) (λ p. unary p.0 ++ joined product_operand p.1) product ProductEnds
    (separated_keeps d (is_operator product_operator) (unary_with inner d) (operator_operand_at product_operator (unary_with inner d)) unary product_operand UnaryEnds is (operator_operand_keeps product_operator product_mark product_told product_only products.Times d (product_plain d) (unary_with inner d) unary UnaryEnds is) (λ q rest. operator_there {A = Unary} product_operator product_mark product_told product_only products.Times q (unary q.2 ++ rest)) (λ q rest. product_apart q.1 q.0 (unary q.2 ++ rest)))
    product_onto (λ p. product_spelled p.0 p.1)

sum_apart : (k : SumOperator) (p : Place) (tail : List Seen) → ProductEnds (placed (sum_mark k) p ++ tail)
sum_apart sums.Plus p tail = (refl, (refl, tt))
sum_apart sums.Minus p tail = (refl, (refl, tt))

sum_keeps : (d : ℕ) (inner : Reads Expression) → Keeps d d (product_with inner d) product ProductEnds → Keeps d d (sum_with inner d) sum SumEnds
unfolding sum_with
sum_keeps d inner is = mapped_reads psdl d d (λ (p : Product × List (Place × SumOperator × Product)). sum_of p.0 p.1) sum_parts (separated (is_operator sum_operator) (product_with inner d) (operator_operand_at sum_operator (product_with inner d))) (λ p. product p.0 ++ joined sum_operand p.1) sum SumEnds
    (separated_keeps d (is_operator sum_operator) (product_with inner d) (operator_operand_at sum_operator (product_with inner d)) product sum_operand ProductEnds is (operator_operand_keeps sum_operator sum_mark sum_told sum_only sums.Plus d (sum_plain d) (product_with inner d) product ProductEnds is) (λ q rest. operator_there {A = Product} sum_operator sum_mark sum_told sum_only sums.Plus q (product q.2 ++ rest)) (λ q rest. sum_apart q.1 q.0 (product q.2 ++ rest)))
    sum_onto (λ p. sum_spelled p.0 p.1)

shift_apart : (k : ShiftOperator) (p : Place) (tail : List Seen) → SumEnds (placed (shift_mark k) p ++ tail)
shift_apart shifts.Left p tail = (refl, (refl, (refl, tt)))
shift_apart shifts.Right p tail = (refl, (refl, (refl, tt)))

shift_keeps : (d : ℕ) (inner : Reads Expression) → Keeps d d (sum_with inner d) sum SumEnds → Keeps d d (shift_with inner d) shift ShiftEnds
unfolding shift_with
shift_keeps d inner is = mapped_reads psdl d d (λ (p : Sum × List (Place × ShiftOperator × Sum)). shift_of p.0 p.1) shift_parts (separated (is_operator shift_operator) (sum_with inner d) (operator_operand_at shift_operator (sum_with inner d))) (λ p. sum p.0 ++ joined shift_operand p.1) shift ShiftEnds
    (separated_keeps d (is_operator shift_operator) (sum_with inner d) (operator_operand_at shift_operator (sum_with inner d)) sum shift_operand SumEnds is (operator_operand_keeps shift_operator shift_mark shift_told shift_only shifts.Left d (shift_plain d) (sum_with inner d) sum SumEnds is) (λ q rest. operator_there {A = Sum} shift_operator shift_mark shift_told shift_only shifts.Left q (sum q.2 ++ rest)) (λ q rest. shift_apart q.1 q.0 (sum q.2 ++ rest)))
    shift_onto (λ p. shift_spelled p.0 p.1)

and_keeps : (d : ℕ) (inner : Reads Expression) → Keeps d d (shift_with inner d) shift ShiftEnds → Keeps d d (and_with inner d) and AndEnds
unfolding and_with
and_keeps d inner is = mapped_reads psdl d d (λ (p : Shift × List (Place × Shift)). and_of p.0 p.1) and_parts (separated (is_mark marks.And) (shift_with inner d) (operand_at marks.And (shift_with inner d))) (λ p. shift p.0 ++ joined and_operand p.1) and AndEnds
    (separated_keeps d (is_mark marks.And) (shift_with inner d) (operand_at marks.And (shift_with inner d)) shift and_operand ShiftEnds is (operand_keeps d marks.And refl (shift_with inner d) shift ShiftEnds is) (λ q rest. refl) (λ q rest. (refl, (refl, (refl, (refl, tt))))))
    and_onto (λ p. and_spelled p.0 p.1)

xor_keeps : (d : ℕ) (inner : Reads Expression) → Keeps d d (and_with inner d) and AndEnds → Keeps d d (xor_with inner d) xor XorEnds
unfolding xor_with
xor_keeps d inner is = mapped_reads psdl d d (λ (p : And × List (Place × And)). xor_of p.0 p.1) xor_parts (separated (is_mark marks.Xor) (and_with inner d) (operand_at marks.Xor (and_with inner d))) (λ p. and p.0 ++ joined xor_operand p.1) xor XorEnds
    (separated_keeps d (is_mark marks.Xor) (and_with inner d) (operand_at marks.Xor (and_with inner d)) and xor_operand AndEnds is (operand_keeps d marks.Xor refl (and_with inner d) and AndEnds is) (λ q rest. refl) (λ q rest. (refl, (refl, (refl, (refl, (refl, tt)))))))
    xor_onto (λ p. xor_spelled p.0 p.1)

expression_keeps : (d : ℕ) (inner : Reads Expression) → Keeps d d (xor_with inner d) xor XorEnds → Keeps d d (expression_with inner d) expression ExpressionEnds
unfolding expression_with
expression_keeps d inner is = mapped_reads psdl d d (λ (p : Xor × List (Place × Xor)). expression_of p.0 p.1) expression_parts (separated (is_mark marks.Or) (xor_with inner d) (operand_at marks.Or (xor_with inner d))) (λ p. xor p.0 ++ joined expression_operand p.1) expression ExpressionEnds
    (separated_keeps d (is_mark marks.Or) (xor_with inner d) (operand_at marks.Or (xor_with inner d)) xor expression_operand XorEnds is (operand_keeps d marks.Or refl (xor_with inner d) xor XorEnds is) (λ q rest. refl) (λ q rest. (refl, (refl, (refl, (refl, (refl, (refl, tt))))))))
    expression_onto (λ p. expression_spelled p.0 p.1)

abbrev group_tokens : Place × Expression → List Seen
group_tokens g = Placed marks.LeftParen g.0 ∷ (expression g.1 ++ Sign marks.RightParen ∷ [])

some_expression : Expression
some_expression = OneXor (OneAnd (OneShift (OneSum (OneProduct (OneUnary (Signed None (IntegerOperand (record { place = some_place; value = 0 }))))))))

group_keeps : (d : ℕ) (inner : Reads Expression) → ((c : ℕ) → d ≡ suc c → Keeps c c inner expression ExpressionEnds) → Keeps d d (group_with inner d) group_tokens NameEnds
unfolding group_with
group_keeps d inner is = enclosed_keeps (place_part marks.LeftParen) (λ p. Placed marks.LeftParen p) (place_told marks.LeftParen) (place_only marks.LeftParen) (λ c x. refl) (λ x. refl) some_place marks.RightParen (λ c. refl) inner expression some_expression ExpressionEnds (λ rest. (refl, (refl, (refl, (refl, (refl, (refl, (refl, tt)))))))) d is NameEnds

abbrev Operand : Type 0
Operand = Name ⊎ (IntegerLiteral ⊎ (TextLiteral ⊎ (Place × Expression)))

abbrev parts_of_primary : Primary → Operand
parts_of_primary (NameOperand n) = inl n
parts_of_primary (IntegerOperand n) = inr (inl n)
parts_of_primary (TextOperand q) = inr (inr (inl q))
parts_of_primary (Group p e) = inr (inr (inr (p, e)))

primary_onto : (x : Primary) → primary_of (parts_of_primary x) ≡ x
primary_onto (NameOperand n) = refl
primary_onto (IntegerOperand n) = refl
primary_onto (TextOperand q) = refl
primary_onto (Group p e) = refl

abbrev literal_or_group : TextLiteral ⊎ (Place × Expression) → List Seen
literal_or_group = either_tokens (λ q. Quoted q ∷ []) group_tokens

abbrev number_or_other : IntegerLiteral ⊎ (TextLiteral ⊎ (Place × Expression)) → List Seen
number_or_other = either_tokens (λ n. Number n ∷ []) literal_or_group

primary_spelled : (x : Operand) → primary (primary_of x) ≡ either_tokens name number_or_other x
primary_spelled (inl n) = refl
primary_spelled (inr (inl n)) = refl
primary_spelled (inr (inr (inl q))) = refl
primary_spelled (inr (inr (inr g))) = refl

no_name : (x : IntegerLiteral ⊎ (TextLiteral ⊎ (Place × Expression))) (rest : List Seen) → starts is_name (number_or_other x ++ rest) ≡ false
no_name (inl n) rest = refl
no_name (inr (inl q)) rest = refl
no_name (inr (inr g)) rest = refl

no_number : (x : TextLiteral ⊎ (Place × Expression)) (rest : List Seen) → starts is_number (literal_or_group x ++ rest) ≡ false
no_number (inl q) rest = refl
no_number (inr g) rest = refl

primary_keeps : (d : ℕ) (inner : Reads Expression) → Keeps d d (group_with inner d) group_tokens NameEnds → Keeps d d (primary_with inner d) primary NameEnds
unfolding primary_with
primary_keeps d inner is = mapped_reads psdl d d primary_of parts_of_primary (either is_name name_at (either is_number number_at (either is_quoted quoted_at (group_with inner d)))) (either_tokens name number_or_other) primary NameEnds
    (either_reads psdl d d is_name name_at (either is_number number_at (either is_quoted quoted_at (group_with inner d))) name number_or_other NameEnds (name_keeps d)
    (either_reads psdl d d is_number number_at (either is_quoted quoted_at (group_with inner d)) (λ n. Number n ∷ []) literal_or_group NameEnds (number_keeps d NameEnds)
    (either_reads psdl d d is_quoted quoted_at (group_with inner d) (λ q. Quoted q ∷ []) group_tokens NameEnds (quoted_keeps d NameEnds) is (λ x rest. refl) (λ y rest h. refl))
    (λ x rest. refl) (λ y rest h. no_number y rest))
    (name_head (λ l. starts is_name l ≡ true) (λ p rest. refl) (λ i rest. refl)) (λ y rest h. no_name y rest))
    primary_onto primary_spelled

unary_sign_keeps : (d : ℕ) → Keeps d d unary_sign_at unary_sign anything
unfolding unary_sign_at
unary_sign_keeps d = mapped_reads psdl d d (λ p. record { place = p.0; operator = p.1 }) (λ (s : UnarySign). (s.place, s.operator)) (operator_at unary_operator) (λ x. Placed (unary_mark x.1) x.0 ∷ []) unary_sign anything
    (operator_keeps unary_operator unary_mark unary_told unary_only signs.Minus d (unary_plain d) anything) (λ y. refl) (λ x. refl)

-- a primary begins with no sign
primary_head : (x : Primary) (rest : List Seen) → starts (is_operator unary_operator) (primary x ++ rest) ≡ false
primary_head (NameOperand n) rest = name_head (λ l. starts (is_operator unary_operator) l ≡ false) (λ p tail. refl) (λ i tail. refl) n rest
primary_head (IntegerOperand n) rest = refl
primary_head (TextOperand q) rest = refl
primary_head (Group p e) rest = refl

abbrev unsigned_parts : Unary → Option UnarySign × Primary
unsigned_parts (Signed s x) = (s, x)

unary_onto : (u : Unary) → Signed (unsigned_parts u).0 (unsigned_parts u).1 ≡ u
unary_onto (Signed s x) = refl

unary_keeps : (d : ℕ) (inner : Reads Expression) → Keeps d d (primary_with inner d) primary NameEnds → Keeps d d (unary_with inner d) unary UnaryEnds
unfolding unary_with
unary_keeps d inner is = mapped_reads psdl d d (λ (p : Option UnarySign × Primary). Signed p.0 p.1) unsigned_parts (both (optional (is_operator unary_operator) unary_sign_at) (primary_with inner d)) (both_tokens (maybe unary_sign) primary) unary UnaryEnds
    (both_reads psdl d d d (optional (is_operator unary_operator) unary_sign_at) (primary_with inner d) (maybe unary_sign) primary (λ rest. (starts (is_operator unary_operator) rest ≡ false) × anything rest) UnaryEnds
    (optional_reads psdl d (is_operator unary_operator) unary_sign_at unary_sign anything (unary_sign_keeps d) (λ s rest. rw (unary_told s.operator) refl))
    is (λ y rest h. (primary_head y rest, tt)))
    unary_onto (λ x. refl)

all_levels : (d : ℕ) (inner : Reads Expression) → ((c : ℕ) → d ≡ suc c → Keeps c c inner expression ExpressionEnds) → Keeps d d (expression_with inner d) expression ExpressionEnds
all_levels d inner is = expression_keeps d inner (xor_keeps d inner (and_keeps d inner (shift_keeps d inner (sum_keeps d inner (product_keeps d inner (unary_keeps d inner (primary_keeps d inner (group_keeps d inner is))))))))

pub expression_at_keeps : (d : ℕ) → Keeps d d (expression_at d) expression ExpressionEnds
unfolding expression_at expression_inside
expression_at_keeps zero = all_levels zero (expression_inside zero) (λ c e. absurd cc)
expression_at_keeps (suc d) = all_levels (suc d) (expression_inside (suc d)) (λ c e. let same : d ≡ c = cc in subst (λ (m : ℕ). Keeps m m (expression_inside (suc d)) expression ExpressionEnds) same (expression_at_keeps d))
