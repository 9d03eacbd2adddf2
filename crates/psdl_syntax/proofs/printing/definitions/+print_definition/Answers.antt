use Rattle.std.proofs.Common.{◌≡◌, ◌∙◌, OnOk, ap, subst}
use Rattle.psdl_syntax.specs.declared.printing.printer.Printer.{Printer}
use Rattle.psdl_syntax.specs.Grammar as grammar
use Rattle.psdl_tree.specs.Views as views
use Rattle.psdl_syntax.proofs.Printed.{goes_on}
use Rattle.psdl_syntax.proofs.Modules as modules
use Rattle.psdl_syntax.proofs.printing.definitions.+print_definition.Goals as goal

pub print_module-returns : goal.print_module-returns
print_module-returns t c =
    subst (λ (q : Printer). OnOk c.mark-3.result (c.mark-3.new.self ≡ q))
    (modules.module_printed c.args.printer.now c.word.new.self c.identifier.new.self c.mark.new.self c.print_definitions.new.printer c.mark-2.new.self c.args.«module».now c.deref.result.now c.deref.ensures.value c.in_ok-word.ensures c.in_ok-identifier.ensures c.in_ok-mark.ensures c.in_ok-print_definitions.ensures c.in_ok-mark-2.ensures)
    c.mark-3.ensures

pub print_definitions-loop-definition-preserved : goal.print_definitions-loop-definition-preserved
print_definitions-loop-definition-preserved t c =
    goes_on grammar.definition views.definition_view c.loop-definition.printer c.print_definition.new.printer _ c.args.definitions.now c.loop-definition.definition-index c.definition-item.result c.loop-definition-test.true c.definition-item.is c.in_ok-print_definition.ensures c.loop-definition.invariant

pub print_definition-returns-in_ok-print_constant-in-Constant : goal.print_definition-returns-in_ok-print_constant-in-Constant
print_definition-returns-in_ok-print_constant-in-Constant t c =
    subst (λ (q : Printer). OnOk c.mark.result (c.mark.new.self ≡ q))
    (modules.ended c.args.printer.now c.print_constant.new.printer (grammar.definition (views.definition_view c.args.definition.now)) (grammar.constant (views.constant_view c.in-Constant.constant)) (ap grammar.definition (ap views.definition_view c.in-Constant.is ∙ modules.constant_seen c.in-Constant.constant)) c.in_ok-print_constant-in-Constant.ensures)
    c.mark.ensures

pub print_definition-returns-in_ok-print_type_definition-in-TypeDefinition : goal.print_definition-returns-in_ok-print_type_definition-in-TypeDefinition
print_definition-returns-in_ok-print_type_definition-in-TypeDefinition t c =
    subst (λ (q : Printer). OnOk c.mark-in-TypeDefinition.result (c.mark-in-TypeDefinition.new.self ≡ q))
    (modules.ended c.args.printer.now c.print_type_definition.new.printer (grammar.definition (views.definition_view c.args.definition.now)) (grammar.type_definition (views.type_definition_view c.in-TypeDefinition.definition)) (ap grammar.definition (ap views.definition_view c.in-TypeDefinition.is ∙ modules.type_definition_seen c.in-TypeDefinition.definition)) c.in_ok-print_type_definition-in-TypeDefinition.ensures)
    c.mark-in-TypeDefinition.ensures

pub print_definition-returns-in_ok-print_struct-in-Struct : goal.print_definition-returns-in_ok-print_struct-in-Struct
print_definition-returns-in_ok-print_struct-in-Struct t c =
    subst (λ (q : Printer). OnOk c.mark-in-Struct.result (c.mark-in-Struct.new.self ≡ q))
    (modules.ended c.args.printer.now c.print_struct.new.printer (grammar.definition (views.definition_view c.args.definition.now)) (grammar.struct (views.struct_view c.in-Struct.structure)) (ap grammar.definition (ap views.definition_view c.in-Struct.is ∙ modules.struct_seen c.in-Struct.structure)) c.in_ok-print_struct-in-Struct.ensures)
    c.mark-in-Struct.ensures

pub print_definition-returns-in_ok-print_enumeration-in-Enumeration : goal.print_definition-returns-in_ok-print_enumeration-in-Enumeration
print_definition-returns-in_ok-print_enumeration-in-Enumeration t c =
    subst (λ (q : Printer). OnOk c.mark-in-Enumeration.result (c.mark-in-Enumeration.new.self ≡ q))
    (modules.ended c.args.printer.now c.print_enumeration.new.printer (grammar.definition (views.definition_view c.args.definition.now)) (grammar.enumeration (views.enumeration_view c.in-Enumeration.enumeration)) (ap grammar.definition (ap views.definition_view c.in-Enumeration.is ∙ modules.enumeration_seen c.in-Enumeration.enumeration)) c.in_ok-print_enumeration-in-Enumeration.ensures)
    c.mark-in-Enumeration.ensures

pub print_definition-returns-in_ok-print_abstract_type-in-AbstractType : goal.print_definition-returns-in_ok-print_abstract_type-in-AbstractType
print_definition-returns-in_ok-print_abstract_type-in-AbstractType t c =
    subst (λ (q : Printer). OnOk c.mark-in-AbstractType.result (c.mark-in-AbstractType.new.self ≡ q))
    (modules.ended c.args.printer.now c.print_abstract_type.new.printer (grammar.definition (views.definition_view c.args.definition.now)) (grammar.abstract_type (views.abstract_type_view c.in-AbstractType.storage_type)) (ap grammar.definition (ap views.definition_view c.in-AbstractType.is ∙ modules.abstract_type_seen c.in-AbstractType.storage_type)) c.in_ok-print_abstract_type-in-AbstractType.ensures)
    c.mark-in-AbstractType.ensures

pub print_definition-returns-in_ok-print_storage_type-in-StorageType : goal.print_definition-returns-in_ok-print_storage_type-in-StorageType
print_definition-returns-in_ok-print_storage_type-in-StorageType t c =
    subst (λ (q : Printer). OnOk c.mark-in-StorageType.result (c.mark-in-StorageType.new.self ≡ q))
    (modules.ended c.args.printer.now c.print_storage_type.new.printer (grammar.definition (views.definition_view c.args.definition.now)) (grammar.storage_type (views.storage_type_view c.in-StorageType.storage_type)) (ap grammar.definition (ap views.definition_view c.in-StorageType.is ∙ modules.storage_type_seen c.in-StorageType.storage_type)) c.in_ok-print_storage_type-in-StorageType.ensures)
    c.mark-in-StorageType.ensures

pub print_definition-returns-in_ok-print_abstract_home-in-AbstractHome : goal.print_definition-returns-in_ok-print_abstract_home-in-AbstractHome
print_definition-returns-in_ok-print_abstract_home-in-AbstractHome t c =
    subst (λ (q : Printer). OnOk c.mark-in-AbstractHome.result (c.mark-in-AbstractHome.new.self ≡ q))
    (modules.ended c.args.printer.now c.print_abstract_home.new.printer (grammar.definition (views.definition_view c.args.definition.now)) (grammar.abstract_home (views.abstract_home_view c.in-AbstractHome.home)) (ap grammar.definition (ap views.definition_view c.in-AbstractHome.is ∙ modules.abstract_home_seen c.in-AbstractHome.home)) c.in_ok-print_abstract_home-in-AbstractHome.ensures)
    c.mark-in-AbstractHome.ensures

pub print_definition-returns-in_ok-print_storage_home-in-StorageHome : goal.print_definition-returns-in_ok-print_storage_home-in-StorageHome
print_definition-returns-in_ok-print_storage_home-in-StorageHome t c =
    subst (λ (q : Printer). OnOk c.mark-in-StorageHome.result (c.mark-in-StorageHome.new.self ≡ q))
    (modules.ended c.args.printer.now c.print_storage_home.new.printer (grammar.definition (views.definition_view c.args.definition.now)) (grammar.storage_home (views.storage_home_view c.in-StorageHome.home)) (ap grammar.definition (ap views.definition_view c.in-StorageHome.is ∙ modules.storage_home_seen c.in-StorageHome.home)) c.in_ok-print_storage_home-in-StorageHome.ensures)
    c.mark-in-StorageHome.ensures

pub print_definition-returns-in_ok-print_catalog-in-Catalog : goal.print_definition-returns-in_ok-print_catalog-in-Catalog
print_definition-returns-in_ok-print_catalog-in-Catalog t c =
    subst (λ (q : Printer). OnOk c.mark-in-Catalog.result (c.mark-in-Catalog.new.self ≡ q))
    (modules.ended c.args.printer.now c.print_catalog.new.printer (grammar.definition (views.definition_view c.args.definition.now)) (grammar.catalog (views.catalog_view c.in-Catalog.catalog)) (ap grammar.definition (ap views.definition_view c.in-Catalog.is ∙ modules.catalog_seen c.in-Catalog.catalog)) c.in_ok-print_catalog-in-Catalog.ensures)
    c.mark-in-Catalog.ensures
