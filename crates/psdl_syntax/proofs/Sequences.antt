-- A sequence type that was printed.
use Rattle.std.proofs.Common.{◌≡◌, ◌++◌, ◌∷◌, [], List, Option, option_map, ap, sym, ◌∙◌, Box, Global}
use Rattle.part_readers.specs.Sentences.{maybe}
use Rattle.psdl_tokens.specs.declared.token.Keyword.TheVariants as keywords
use Rattle.psdl_tokens.specs.declared.token.Mark.TheVariants as marks
use Rattle.psdl_syntax.specs.declared.printing.printer.Printer.{Printer}
use Rattle.psdl_tree.specs.declared.expressions.Expression.{Expression as ExpressionNode}
use Rattle.psdl_tree.specs.declared.types.PlainType.{PlainType as PlainTypeNode}
use Rattle.psdl_tree.specs.declared.types.TypeSpec.{TypeSpec as TypeSpecNode}
use Rattle.psdl_tree.specs.declared.types.TypeSpec.TheVariants as nodes
use Rattle.psdl_tree.specs.declared.types.TypeSpec.TheOpen as open_spec
use Rattle.psdl_tree.specs.declared.types.TypeSpec.TheFolds.{fold-roll-TypeSpec}
use Rattle.psdl_syntax.specs.Seen.{Seen, Word, Sign}
use Rattle.psdl_tree.specs.Trees.{TypeSpec, Sequence, PlainSpec}
use Rattle.psdl_syntax.specs.Grammar as grammar
use Rattle.psdl_tree.specs.Views.{spec_step, type_spec_view, plain_type_view, expression_view}
use Rattle.psdl_syntax.specs.Printing.{put, put_mark, printed}
use Rattle.psdl_syntax.proofs.Printed.{printed_append}

-- what stands behind the item of a sequence
abbrev pub bounded : Option ExpressionNode → List Seen
bounded bound = maybe (grammar.behind (grammar.sign marks.Comma) grammar.expression) (option_map expression_view bound)

abbrev pub behind_less : Printer → Printer
behind_less p = put_mark (put p (Word keywords.Sequence)) marks.Less

pub sequence_view : (item : Box TypeSpecNode Global) (bound : Option ExpressionNode) → type_spec_view (nodes.Sequence item bound) ≡ Sequence (type_spec_view item.value) (option_map expression_view bound)
sequence_view item bound = ap type_spec_view (sym (nodes.rolls-Sequence item bound)) ∙ fold-roll-TypeSpec TypeSpec spec_step (open_spec.Sequence item bound)

pub plain_view : (plain : PlainTypeNode) → type_spec_view (nodes.Plain plain) ≡ PlainSpec (plain_type_view plain)
plain_view plain = ap type_spec_view (sym (nodes.rolls-Plain plain)) ∙ fold-roll-TypeSpec TypeSpec spec_step (open_spec.Plain plain)

sequence_is : (p : Printer) (item : Box TypeSpecNode Global) (bound : Option ExpressionNode) → printed p (grammar.type_spec (type_spec_view (nodes.Sequence item bound))) ≡ put_mark (printed (printed (behind_less p) (grammar.type_spec (type_spec_view item.value))) (bounded bound)) marks.Greater
sequence_is p item bound =
    ap (λ (t : TypeSpec). printed p (grammar.type_spec t)) (sequence_view item bound)
    ∙ printed_append (behind_less p) (grammar.type_spec (type_spec_view item.value) ++ bounded bound) (Sign marks.Greater ∷ [])
    ∙ ap (λ (q : Printer). put_mark q marks.Greater) (printed_append (behind_less p) (grammar.type_spec (type_spec_view item.value)) (bounded bound))

pub sequence_printed : (p w m i b : Printer) (x : TypeSpecNode) (item : Box TypeSpecNode Global) (inner : TypeSpecNode) (bound : Option ExpressionNode) → x ≡ nodes.Sequence item bound → inner ≡ item.value → w ≡ put p (Word keywords.Sequence) → m ≡ put_mark w marks.Less → i ≡ printed m (grammar.type_spec (type_spec_view inner)) → b ≡ printed i (bounded bound) → put_mark b marks.Greater ≡ printed p (grammar.type_spec (type_spec_view x))
sequence_printed p w m i b x item inner bound is is_inner is_w is_m is_i is_b =
    rw (is, is_b, is_i, is_inner, is_m, is_w) (sym (sequence_is p item bound))
