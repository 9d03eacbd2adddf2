use Rattle.std.proofs.Common.{map, refl, ap}
use Rattle.psdl_tree.specs.Views.{expression_view, type_spec_view, constant_view, struct_view, identifiers_view}
use Rattle.psdl_directory.specs.Declarations.{IsConstant, IsAlias, IsStruct, IsEnumeration}
use Rattle.psdl_directory.specs.inner.Nodes.{what_view}
use Rattle.psdl_standings.proofs.Toldly.{as_matched, alias_matched, none_matched, store_is, told_store, kept_of_store}
use Rattle.psdl_standings.proofs.walk.Walk.tell.Goals as goal

pub returns-in_ok-told-in-Constant-clause-told : goal.returns-in_ok-told-in-Constant-clause-told
returns-in_ok-told-in-Constant-clause-told c =
    as_matched c.args.self.now c.told_constant.new.self c.args.number (what_view c.args.what) (IsConstant (constant_view c.in-Constant.constant.now)) c.in_ok-told-in-Constant.told (ap what_view c.in-Constant.is) c.in_ok-told-in-Constant.ensures

pub returns-in_ok-told-in-Constant-clause-kept : goal.returns-in_ok-told-in-Constant-clause-kept
returns-in_ok-told-in-Constant-clause-kept c =
    none_matched c.args.self.now c.told_constant.new.self c.args.number (what_view c.args.what) (IsConstant (constant_view c.in-Constant.constant.now)) c.args.kept.now.items (ap what_view c.in-Constant.is) refl c.requires.kept

pub returns-in_ok-told-in-Struct-clause-told : goal.returns-in_ok-told-in-Struct-clause-told
returns-in_ok-told-in-Struct-clause-told c =
    as_matched c.args.self.now c.told_struct.new.self c.args.number (what_view c.args.what) (IsStruct (struct_view c.in-Struct.structure.now)) c.in_ok-told-in-Struct.told (ap what_view c.in-Struct.is) c.in_ok-told-in-Struct.ensures

pub returns-in_ok-told-in-Struct-clause-kept : goal.returns-in_ok-told-in-Struct-clause-kept
returns-in_ok-told-in-Struct-clause-kept c =
    none_matched c.args.self.now c.told_struct.new.self c.args.number (what_view c.args.what) (IsStruct (struct_view c.in-Struct.structure.now)) c.args.kept.now.items (ap what_view c.in-Struct.is) refl c.requires.kept

pub returns-in_ok-told-in-Enumeration-clause-told : goal.returns-in_ok-told-in-Enumeration-clause-told
returns-in_ok-told-in-Enumeration-clause-told c =
    as_matched c.args.self.now c.told_enumeration.new.self c.args.number (what_view c.args.what) (IsEnumeration (identifiers_view c.in-Enumeration.enumerators.now)) c.in_ok-told-in-Enumeration.told (ap what_view c.in-Enumeration.is) (c.in_ok-told-in-Enumeration.ensures c.args.number)

pub returns-in_ok-told-in-Enumeration-clause-kept : goal.returns-in_ok-told-in-Enumeration-clause-kept
returns-in_ok-told-in-Enumeration-clause-kept c =
    none_matched c.args.self.now c.told_enumeration.new.self c.args.number (what_view c.args.what) (IsEnumeration (identifiers_view c.in-Enumeration.enumerators.now)) c.args.kept.now.items (ap what_view c.in-Enumeration.is) refl c.requires.kept

pub returns-in_ok-told-in-Alias-clause-told : goal.returns-in_ok-told-in-Alias-clause-told
returns-in_ok-told-in-Alias-clause-told c =
    let spec = type_spec_view c.in-Alias.field-1.now in
    let dimensions = map expression_view c.in-Alias.dimensions.now in
    alias_matched c.args.self.now c.alias.new.self c.args.number (what_view c.args.what) c.in-Alias.field-0 spec dimensions c.args.item c.in_ok-told-in-Alias.told (ap what_view c.in-Alias.is) c.requires.item c.in_ok-told-in-Alias.ensures

pub returns-in_ok-told-in-Alias-clause-kept : goal.returns-in_ok-told-in-Alias-clause-kept
returns-in_ok-told-in-Alias-clause-kept c =
    none_matched c.args.self.now c.alias.new.self c.args.number (what_view c.args.what) (IsAlias c.in-Alias.field-0 (type_spec_view c.in-Alias.field-1.now) (map expression_view c.in-Alias.dimensions.now)) c.args.kept.now.items (ap what_view c.in-Alias.is) refl
    c.requires.kept

pub returns-in_ok-store-in_default : goal.returns-in_ok-store-in_default
returns-in_ok-store-in_default c =
    let what = what_view c.args.what in
    record {
      told = told_store c.args.self.now c.store.new.self c.args.number what c.args.kept.now.items c.store.new.kept.items (store_is c.args.what c.in_default.not-Constant c.in_default.not-Alias c.in_default.not-Struct c.in_default.not-Enumeration) c.in_ok-store-in_default.ensures;
      kept = kept_of_store c.args.self.now c.store.new.self c.args.number what c.args.kept.now.items c.store.new.kept.items _ _ c.requires.kept c.in_ok-store-in_default.ensures;
    }
