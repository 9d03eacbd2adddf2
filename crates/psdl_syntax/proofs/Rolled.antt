-- A part that was put together, seen as a tree.
use Rattle.std.proofs.Common.{◌≡◌, ◌∙◌, sym, ap, map, Option, Box, Vec, Global}
use Rattle.psdl_tree.specs.declared.names.Identifier.{Identifier}
use Rattle.psdl_tree.specs.declared.definitions.Definition.{Definition as DefinitionNode}
use Rattle.psdl_tree.specs.declared.definitions.Definition.TheViews.{Module, roll-Module}
use Rattle.psdl_tree.specs.declared.definitions.Definition.TheVariants.{rolls-Module}
use Rattle.psdl_tree.specs.declared.definitions.Definition.TheOpen as open_definition
use Rattle.psdl_tree.specs.declared.definitions.Definition.TheFolds.{fold-roll-Definition, fold-roll-Module}
use Rattle.psdl_tree.specs.declared.expressions.Expression.{Expression as ExpressionNode}
use Rattle.pss_base.specs.declared.place.Place.{Place}
use Rattle.psdl_tree.specs.declared.expressions.ShiftOperator.{ShiftOperator}
use Rattle.psdl_tree.specs.declared.expressions.SumOperator.{SumOperator}
use Rattle.psdl_tree.specs.declared.expressions.ProductOperator.{ProductOperator}
use Rattle.psdl_tree.specs.declared.expressions.Xor.{Xor as XorNode}
use Rattle.psdl_tree.specs.declared.expressions.And.{And as AndNode}
use Rattle.psdl_tree.specs.declared.expressions.Shift.{Shift as ShiftNode}
use Rattle.psdl_tree.specs.declared.expressions.Sum.{Sum as SumNode}
use Rattle.psdl_tree.specs.declared.expressions.Product.{Product as ProductNode}
use Rattle.psdl_tree.specs.declared.expressions.Unary.{Unary as UnaryNode}
use Rattle.psdl_tree.specs.declared.expressions.UnarySign.{UnarySign}
use Rattle.psdl_tree.specs.declared.expressions.Primary.{Primary as PrimaryNode}
use Rattle.psdl_tree.specs.declared.expressions.ProductPart.{ProductPart as ProductPartNode}
use Rattle.psdl_tree.specs.declared.expressions.SumPart.{SumPart as SumPartNode}
use Rattle.psdl_tree.specs.declared.expressions.ShiftPart.{ShiftPart as ShiftPartNode}
use Rattle.psdl_tree.specs.declared.expressions.AndPart.{AndPart as AndPartNode}
use Rattle.psdl_tree.specs.declared.expressions.XorPart.{XorPart as XorPartNode}
use Rattle.psdl_tree.specs.declared.expressions.OrPart.{OrPart as OrPartNode}
use Rattle.psdl_tree.specs.declared.expressions.Primary.TheViews.{roll-Expression, roll-Xor, roll-And, roll-Shift, roll-Sum, roll-Product, roll-Unary, roll-OrPart, roll-XorPart, roll-AndPart, roll-ShiftPart, roll-SumPart, roll-ProductPart, roll-Group}
use Rattle.psdl_tree.specs.declared.expressions.Primary.TheFolds.{fold-roll-Expression, fold-roll-Xor, fold-roll-And, fold-roll-Shift, fold-roll-Sum, fold-roll-Product, fold-roll-Unary, fold-roll-OrPart, fold-roll-XorPart, fold-roll-AndPart, fold-roll-ShiftPart, fold-roll-SumPart, fold-roll-ProductPart, fold-roll-Group}
use Rattle.psdl_tree.specs.Trees.{Definition, ModuleDefinition, Primary, And, Expression, Product, Shift, Sum, Unary, Signed, Xor}
use Rattle.psdl_tree.specs.Views.{primary_step, and_step, and_part_step, expression_step, group_step, or_part_step, product_step, product_part_step, shift_step, shift_part_step, sum_step, sum_part_step, unary_step, xor_step, xor_part_step, or_part_view, xor_part_view, and_part_view, shift_part_view, sum_part_view, product_part_view, xor_view, and_view, shift_view, sum_view, product_view, primary_view, unary_view, group_view, expression_view, definition_view, definition_step, module_step, definitions_of, product_of, sum_of, shift_of, and_of, xor_of, expression_of}

pub or_part_rolled : (place : Place) (operand : XorNode) → or_part_view (roll-OrPart (record { place = place; operand = operand })) ≡ (place, xor_view operand)
or_part_rolled place operand = fold-roll-OrPart Primary And (Place × Shift) Expression (Place × Expression) (Place × Xor) Product (Place × ProductOperator × Unary) Shift (Place × ShiftOperator × Sum) Sum (Place × SumOperator × Product) Unary Xor (Place × And) primary_step and_step and_part_step expression_step group_step or_part_step product_step product_part_step shift_step shift_part_step sum_step sum_part_step unary_step xor_step xor_part_step (record { place = place; operand = operand })

pub xor_part_rolled : (place : Place) (operand : AndNode) → xor_part_view (roll-XorPart (record { place = place; operand = operand })) ≡ (place, and_view operand)
xor_part_rolled place operand = fold-roll-XorPart Primary And (Place × Shift) Expression (Place × Expression) (Place × Xor) Product (Place × ProductOperator × Unary) Shift (Place × ShiftOperator × Sum) Sum (Place × SumOperator × Product) Unary Xor (Place × And) primary_step and_step and_part_step expression_step group_step or_part_step product_step product_part_step shift_step shift_part_step sum_step sum_part_step unary_step xor_step xor_part_step (record { place = place; operand = operand })

pub and_part_rolled : (place : Place) (operand : ShiftNode) → and_part_view (roll-AndPart (record { place = place; operand = operand })) ≡ (place, shift_view operand)
and_part_rolled place operand = fold-roll-AndPart Primary And (Place × Shift) Expression (Place × Expression) (Place × Xor) Product (Place × ProductOperator × Unary) Shift (Place × ShiftOperator × Sum) Sum (Place × SumOperator × Product) Unary Xor (Place × And) primary_step and_step and_part_step expression_step group_step or_part_step product_step product_part_step shift_step shift_part_step sum_step sum_part_step unary_step xor_step xor_part_step (record { place = place; operand = operand })

pub shift_part_rolled : (place : Place) (operator : ShiftOperator) (operand : SumNode) → shift_part_view (roll-ShiftPart (record { place = place; operator = operator; operand = operand })) ≡ (place, operator, sum_view operand)
shift_part_rolled place operator operand = fold-roll-ShiftPart Primary And (Place × Shift) Expression (Place × Expression) (Place × Xor) Product (Place × ProductOperator × Unary) Shift (Place × ShiftOperator × Sum) Sum (Place × SumOperator × Product) Unary Xor (Place × And) primary_step and_step and_part_step expression_step group_step or_part_step product_step product_part_step shift_step shift_part_step sum_step sum_part_step unary_step xor_step xor_part_step (record { place = place; operator = operator; operand = operand })

pub sum_part_rolled : (place : Place) (operator : SumOperator) (operand : ProductNode) → sum_part_view (roll-SumPart (record { place = place; operator = operator; operand = operand })) ≡ (place, operator, product_view operand)
sum_part_rolled place operator operand = fold-roll-SumPart Primary And (Place × Shift) Expression (Place × Expression) (Place × Xor) Product (Place × ProductOperator × Unary) Shift (Place × ShiftOperator × Sum) Sum (Place × SumOperator × Product) Unary Xor (Place × And) primary_step and_step and_part_step expression_step group_step or_part_step product_step product_part_step shift_step shift_part_step sum_step sum_part_step unary_step xor_step xor_part_step (record { place = place; operator = operator; operand = operand })

pub product_part_rolled : (place : Place) (operator : ProductOperator) (operand : UnaryNode) → product_part_view (roll-ProductPart (record { place = place; operator = operator; operand = operand })) ≡ (place, operator, unary_view operand)
product_part_rolled place operator operand = fold-roll-ProductPart Primary And (Place × Shift) Expression (Place × Expression) (Place × Xor) Product (Place × ProductOperator × Unary) Shift (Place × ShiftOperator × Sum) Sum (Place × SumOperator × Product) Unary Xor (Place × And) primary_step and_step and_part_step expression_step group_step or_part_step product_step product_part_step shift_step shift_part_step sum_step sum_part_step unary_step xor_step xor_part_step (record { place = place; operator = operator; operand = operand })

pub group_rolled : (place : Place) (inner : Box ExpressionNode Global) → group_view (roll-Group (record { place = place; inner = inner })) ≡ (place, expression_view inner.value)
group_rolled place inner = fold-roll-Group Primary And (Place × Shift) Expression (Place × Expression) (Place × Xor) Product (Place × ProductOperator × Unary) Shift (Place × ShiftOperator × Sum) Sum (Place × SumOperator × Product) Unary Xor (Place × And) primary_step and_step and_part_step expression_step group_step or_part_step product_step product_part_step shift_step shift_part_step sum_step sum_part_step unary_step xor_step xor_part_step (record { place = place; inner = inner })

pub unary_rolled : (sign : Option UnarySign) (operand : PrimaryNode) → unary_view (roll-Unary (record { sign = sign; operand = operand })) ≡ Signed sign (primary_view operand)
unary_rolled sign operand = fold-roll-Unary Primary And (Place × Shift) Expression (Place × Expression) (Place × Xor) Product (Place × ProductOperator × Unary) Shift (Place × ShiftOperator × Sum) Sum (Place × SumOperator × Product) Unary Xor (Place × And) primary_step and_step and_part_step expression_step group_step or_part_step product_step product_part_step shift_step shift_part_step sum_step sum_part_step unary_step xor_step xor_part_step (record { sign = sign; operand = operand })

pub product_rolled : (first : UnaryNode) (others : Vec ProductPartNode Global) → product_view (roll-Product (record { first = first; others = others })) ≡ product_of (unary_view first) (map product_part_view others.items)
product_rolled first others = fold-roll-Product Primary And (Place × Shift) Expression (Place × Expression) (Place × Xor) Product (Place × ProductOperator × Unary) Shift (Place × ShiftOperator × Sum) Sum (Place × SumOperator × Product) Unary Xor (Place × And) primary_step and_step and_part_step expression_step group_step or_part_step product_step product_part_step shift_step shift_part_step sum_step sum_part_step unary_step xor_step xor_part_step (record { first = first; others = others })

pub sum_rolled : (first : ProductNode) (others : Vec SumPartNode Global) → sum_view (roll-Sum (record { first = first; others = others })) ≡ sum_of (product_view first) (map sum_part_view others.items)
sum_rolled first others = fold-roll-Sum Primary And (Place × Shift) Expression (Place × Expression) (Place × Xor) Product (Place × ProductOperator × Unary) Shift (Place × ShiftOperator × Sum) Sum (Place × SumOperator × Product) Unary Xor (Place × And) primary_step and_step and_part_step expression_step group_step or_part_step product_step product_part_step shift_step shift_part_step sum_step sum_part_step unary_step xor_step xor_part_step (record { first = first; others = others })

pub shift_rolled : (first : SumNode) (others : Vec ShiftPartNode Global) → shift_view (roll-Shift (record { first = first; others = others })) ≡ shift_of (sum_view first) (map shift_part_view others.items)
shift_rolled first others = fold-roll-Shift Primary And (Place × Shift) Expression (Place × Expression) (Place × Xor) Product (Place × ProductOperator × Unary) Shift (Place × ShiftOperator × Sum) Sum (Place × SumOperator × Product) Unary Xor (Place × And) primary_step and_step and_part_step expression_step group_step or_part_step product_step product_part_step shift_step shift_part_step sum_step sum_part_step unary_step xor_step xor_part_step (record { first = first; others = others })

pub and_rolled : (first : ShiftNode) (others : Vec AndPartNode Global) → and_view (roll-And (record { first = first; others = others })) ≡ and_of (shift_view first) (map and_part_view others.items)
and_rolled first others = fold-roll-And Primary And (Place × Shift) Expression (Place × Expression) (Place × Xor) Product (Place × ProductOperator × Unary) Shift (Place × ShiftOperator × Sum) Sum (Place × SumOperator × Product) Unary Xor (Place × And) primary_step and_step and_part_step expression_step group_step or_part_step product_step product_part_step shift_step shift_part_step sum_step sum_part_step unary_step xor_step xor_part_step (record { first = first; others = others })

pub xor_rolled : (first : AndNode) (others : Vec XorPartNode Global) → xor_view (roll-Xor (record { first = first; others = others })) ≡ xor_of (and_view first) (map xor_part_view others.items)
xor_rolled first others = fold-roll-Xor Primary And (Place × Shift) Expression (Place × Expression) (Place × Xor) Product (Place × ProductOperator × Unary) Shift (Place × ShiftOperator × Sum) Sum (Place × SumOperator × Product) Unary Xor (Place × And) primary_step and_step and_part_step expression_step group_step or_part_step product_step product_part_step shift_step shift_part_step sum_step sum_part_step unary_step xor_step xor_part_step (record { first = first; others = others })

pub expression_rolled : (first : XorNode) (others : Vec OrPartNode Global) → expression_view (roll-Expression (record { first = first; others = others })) ≡ expression_of (xor_view first) (map or_part_view others.items)
expression_rolled first others = fold-roll-Expression Primary And (Place × Shift) Expression (Place × Expression) (Place × Xor) Product (Place × ProductOperator × Unary) Shift (Place × ShiftOperator × Sum) Sum (Place × SumOperator × Product) Unary Xor (Place × And) primary_step and_step and_part_step expression_step group_step or_part_step product_step product_part_step shift_step shift_part_step sum_step sum_part_step unary_step xor_step xor_part_step (record { first = first; others = others })

pub module_rolled : (name : Identifier) (definitions : Vec DefinitionNode Global) → definition_view (Module (roll-Module (record { name = name; definitions = definitions }))) ≡ ModuleDefinition name (definitions_of (map definition_view definitions.items))
module_rolled name definitions =
    let m = roll-Module (record { name = name; definitions = definitions }) in
    ap definition_view (sym (rolls-Module m)) ∙ fold-roll-Definition Definition Definition definition_step module_step (open_definition.Module m) ∙ fold-roll-Module Definition Definition definition_step module_step (record { name = name; definitions = definitions })
