-- What the declarations of the program stand for.
use Rattle.std.specs.Prelude.{List, map, option_map}
use Rattle.psdl_tree.specs.Views.{constant_view, type_spec_view, expression_view, struct_view, identifiers_view, abstract_type_body_view, storage_type_body_view, abstract_home_body_view, storage_home_view, provision_view}
use Rattle.psdl_directory.specs.declared.declaration.Declaration.{Declaration as DeclarationNode}
use Rattle.psdl_directory.specs.declared.declaration.What.{What as WhatNode}
use Rattle.psdl_directory.specs.declared.declaration.What.TheVariants as nodes
use Rattle.psdl_directory.specs.Declarations.{Path, What, IsModule, IsConstant, IsAlias, IsStruct, IsEnumeration, IsEnumerator, IsAbstractType, IsConcreteType, IsAbstractHome, IsConcreteHome, IsCatalog, Declaration}
use Rattle.psdl_directory.specs.inner.Scopes.{path_at}

abbrev pub what_view : WhatNode → What
what_view (nodes.Module scope) = IsModule
what_view (nodes.Constant constant) = IsConstant (constant_view constant.now)
what_view (nodes.Alias before spec dimensions) = IsAlias before (type_spec_view spec.now) (map expression_view dimensions.now)
what_view (nodes.Struct struct) = IsStruct (struct_view struct.now)
what_view (nodes.Enumeration enumerators) = IsEnumeration (identifiers_view enumerators.now)
what_view nodes.Enumerator = IsEnumerator
what_view (nodes.AbstractType body) = IsAbstractType (option_map abstract_type_body_view body.now)
what_view (nodes.ConcreteType body) = IsConcreteType (option_map storage_type_body_view body.now)
what_view (nodes.AbstractHome body) = IsAbstractHome (option_map abstract_home_body_view body.now)
what_view (nodes.ConcreteHome home) = IsConcreteHome (storage_home_view home.now)
what_view (nodes.Catalog provisions) = IsCatalog (map provision_view provisions.now)

abbrev pub declaration_view : List Path → DeclarationNode → Declaration
declaration_view paths d = record { path = path_at paths d.scope; name = d.name.now; place = d.place; what = what_view d.what }
