-- Definitions that were printed.
use Rattle.std.proofs.Common.{◌≡◌, ◌++◌, ◌∷◌, [], List, map, ap, sym, ◌∙◌, refl}
use Rattle.part_readers.specs.Sentences.{joined}
use Rattle.psdl_tokens.specs.declared.token.Keyword.TheVariants as keywords
use Rattle.psdl_tokens.specs.declared.token.Mark.TheVariants as marks
use Rattle.psdl_syntax.specs.declared.printing.printer.Edge.TheVariants as edges
use Rattle.psdl_syntax.specs.declared.printing.printer.Printer.{Printer}
use Rattle.psdl_tree.specs.declared.definitions.Tree.{Tree}
use Rattle.psdl_tree.specs.declared.definitions.Definition.{Definition as DefinitionNode}
use Rattle.psdl_tree.specs.declared.definitions.Module.{Module as ModuleNode}
use Rattle.psdl_tree.specs.declared.definitions.Definition.TheViews.{out-Module}
use Rattle.psdl_tree.specs.declared.definitions.Definition.TheFolds.{fold_out-Module, fold-roll-Definition}
use Rattle.psdl_tree.specs.declared.definitions.Constant.{Constant as ConstantNode}
use Rattle.psdl_tree.specs.declared.definitions.TypeDefinition.{TypeDefinition as TypeDefinitionNode}
use Rattle.psdl_tree.specs.declared.definitions.Struct.{Struct as StructNode}
use Rattle.psdl_tree.specs.declared.definitions.Enumeration.{Enumeration as EnumerationNode}
use Rattle.psdl_tree.specs.declared.stores.AbstractType.{AbstractType as AbstractTypeNode}
use Rattle.psdl_tree.specs.declared.stores.StorageType.{StorageType as StorageTypeNode}
use Rattle.psdl_tree.specs.declared.stores.AbstractHome.{AbstractHome as AbstractHomeNode}
use Rattle.psdl_tree.specs.declared.stores.StorageHome.{StorageHome as StorageHomeNode}
use Rattle.psdl_tree.specs.declared.stores.Catalog.{Catalog as CatalogNode}
use Rattle.psdl_tree.specs.declared.definitions.Definition.TheVariants as nodes
use Rattle.psdl_tree.specs.declared.definitions.Definition.TheOpen as open_definition
use Rattle.psdl_tree.specs.Views as views
use Rattle.psdl_syntax.specs.Seen.{Seen, Word, Sign, Named}
use Rattle.psdl_tree.specs.Trees.{Definition, ConstantDefinition, TypeDefinitionDefinition, StructDefinition, EnumerationDefinition, AbstractTypeDefinition, StorageTypeDefinition, AbstractHomeDefinition, StorageHomeDefinition, CatalogDefinition}
use Rattle.psdl_syntax.specs.Grammar as grammar
use Rattle.psdl_tree.specs.Views.{definitions_of, definition_step, module_step, definition_view, module_view, tree_view}
use Rattle.psdl_syntax.specs.Canonical.{canonical, text_behind}
use Rattle.psdl_syntax.specs.Printing.{put, put_mark, printed}
use Rattle.psdl_syntax.proofs.Printed.{printed_append}
use Rattle.psdl_syntax.proofs.PrintedText.{printed_text}

pub definitions_joined : (ds : List Definition) → grammar.definitions (definitions_of ds) ≡ joined grammar.definition ds
definitions_joined [] = refl
definitions_joined (d ∷ ds) = ap (λ l. grammar.definition d ++ l) (definitions_joined ds)

abbrev inside : ModuleNode → List Seen
inside x = joined grammar.definition (map definition_view (out-Module x).definitions.items)

module_spelled : (x : ModuleNode) → grammar.definition (module_view x) ≡ Word keywords.Module ∷ Named (out-Module x).name ∷ Sign marks.LeftBrace ∷ ((inside x ++ Sign marks.RightBrace ∷ []) ++ Sign marks.Semicolon ∷ [])
module_spelled x =
    ap grammar.definition (fold_out-Module Definition Definition definition_step module_step x)
    ∙ ap (λ (l : List Seen). Word keywords.Module ∷ Named (out-Module x).name ∷ Sign marks.LeftBrace ∷ ((l ++ Sign marks.RightBrace ∷ []) ++ Sign marks.Semicolon ∷ []))
    (definitions_joined (map definition_view (out-Module x).definitions.items))

abbrev behind_brace : Printer → ModuleNode → Printer
behind_brace p x = put_mark (put (put p (Word keywords.Module)) (Named (out-Module x).name)) marks.LeftBrace

pub module_printed : (p w i l d r : Printer) (x : ModuleNode) (ds : List DefinitionNode) → ds ≡ (out-Module x).definitions.items → w ≡ put p (Word keywords.Module) → i ≡ put w (Named (out-Module x).name) → l ≡ put_mark i marks.LeftBrace → d ≡ printed l (joined grammar.definition (map definition_view ds)) → r ≡ put_mark d marks.RightBrace → put_mark r marks.Semicolon ≡ printed p (grammar.definition (module_view x))
module_printed p w i l d r x ds is_ds is_w is_i is_l is_d is_r =
    rw (is_r, is_d, is_ds, is_l, is_i, is_w)
    (sym (ap (λ (t : List Seen). printed p t) (module_spelled x)
    ∙ printed_append (behind_brace p x) (inside x ++ Sign marks.RightBrace ∷ []) (Sign marks.Semicolon ∷ [])
    ∙ ap (λ (q : Printer). put_mark q marks.Semicolon) (printed_append (behind_brace p x) (inside x) (Sign marks.RightBrace ∷ []))))

pub canonical_printed : (tree : Tree) (ds : List DefinitionNode) (start p : Printer) → ds ≡ tree.definitions.items → start ≡ record { text = []; edge = edges.Line; depth = 0 } → p ≡ printed start (joined grammar.definition (map definition_view ds)) → p.text ≡ canonical (tree_view tree)
unfolding canonical
canonical_printed tree ds start p is_ds is_start is_p =
    rw (is_p, is_ds, is_start)
    (printed_text (record { text = []; edge = edges.Line; depth = 0 }) (joined grammar.definition (map definition_view tree.definitions.items))
    ∙ ap (λ (t : List Seen). text_behind edges.Line 0 t) (sym (definitions_joined (map definition_view tree.definitions.items))))

-- a definition without its `;`, and then that
pub ended : (p q : Printer) (whole part : List Seen) → whole ≡ part ++ (Sign marks.Semicolon ∷ []) → q ≡ printed p part → put_mark q marks.Semicolon ≡ printed p whole
ended p q whole part is_whole is_q = rw (is_q, is_whole) (sym (printed_append p part (Sign marks.Semicolon ∷ [])))

pub constant_seen : (x : ConstantNode) → definition_view (nodes.Constant x) ≡ ConstantDefinition (views.constant_view x)
constant_seen x = ap definition_view (sym (nodes.rolls-Constant x)) ∙ fold-roll-Definition Definition Definition definition_step module_step (open_definition.Constant x)

pub type_definition_seen : (x : TypeDefinitionNode) → definition_view (nodes.TypeDefinition x) ≡ TypeDefinitionDefinition (views.type_definition_view x)
type_definition_seen x = ap definition_view (sym (nodes.rolls-TypeDefinition x)) ∙ fold-roll-Definition Definition Definition definition_step module_step (open_definition.TypeDefinition x)

pub struct_seen : (x : StructNode) → definition_view (nodes.Struct x) ≡ StructDefinition (views.struct_view x)
struct_seen x = ap definition_view (sym (nodes.rolls-Struct x)) ∙ fold-roll-Definition Definition Definition definition_step module_step (open_definition.Struct x)

pub enumeration_seen : (x : EnumerationNode) → definition_view (nodes.Enumeration x) ≡ EnumerationDefinition (views.enumeration_view x)
enumeration_seen x = ap definition_view (sym (nodes.rolls-Enumeration x)) ∙ fold-roll-Definition Definition Definition definition_step module_step (open_definition.Enumeration x)

pub abstract_type_seen : (x : AbstractTypeNode) → definition_view (nodes.AbstractType x) ≡ AbstractTypeDefinition (views.abstract_type_view x)
abstract_type_seen x = ap definition_view (sym (nodes.rolls-AbstractType x)) ∙ fold-roll-Definition Definition Definition definition_step module_step (open_definition.AbstractType x)

pub storage_type_seen : (x : StorageTypeNode) → definition_view (nodes.StorageType x) ≡ StorageTypeDefinition (views.storage_type_view x)
storage_type_seen x = ap definition_view (sym (nodes.rolls-StorageType x)) ∙ fold-roll-Definition Definition Definition definition_step module_step (open_definition.StorageType x)

pub abstract_home_seen : (x : AbstractHomeNode) → definition_view (nodes.AbstractHome x) ≡ AbstractHomeDefinition (views.abstract_home_view x)
abstract_home_seen x = ap definition_view (sym (nodes.rolls-AbstractHome x)) ∙ fold-roll-Definition Definition Definition definition_step module_step (open_definition.AbstractHome x)

pub storage_home_seen : (x : StorageHomeNode) → definition_view (nodes.StorageHome x) ≡ StorageHomeDefinition (views.storage_home_view x)
storage_home_seen x = ap definition_view (sym (nodes.rolls-StorageHome x)) ∙ fold-roll-Definition Definition Definition definition_step module_step (open_definition.StorageHome x)

pub catalog_seen : (x : CatalogNode) → definition_view (nodes.Catalog x) ≡ CatalogDefinition (views.catalog_view x)
catalog_seen x = ap definition_view (sym (nodes.rolls-Catalog x)) ∙ fold-roll-Definition Definition Definition definition_step module_step (open_definition.Catalog x)
