-- One level of a type.
use Rattle.std.proofs.Common.{◌≡◌, ◌∙◌, ℕ, List, sym, ap, Box, Global}
use Rattle.type_layout.specs.declared.ty.Fields.{Fields}
use Rattle.type_layout.specs.declared.ty.Ty.{Ty}
use Rattle.type_layout.specs.declared.ty.Ty.TheVariants as nodes
use Rattle.type_layout.specs.declared.ty.Ty.TheOpen as open_type
use Rattle.type_layout.specs.declared.ty.Ty.TheFolds.{fold-roll-Ty}
use Rattle.type_layout.specs.declared.home.HomeNo.{HomeNo}
use Rattle.type_layout.specs.Types.{PlainType, Str, Seq, Arr, Struct, RefTo, PlainField, fields_of}
use Rattle.type_layout.specs.Views.{type_step, field_step, fields_step, plain_type, plain_fields}

pub text_view : (bound : ℕ) → plain_type (nodes.Str bound) ≡ Str bound
text_view bound = ap plain_type (sym (nodes.rolls-Str bound)) ∙ fold-roll-Ty PlainType PlainField (List PlainField) type_step field_step fields_step (open_type.Str bound)

pub sequence_view : (item : Box Ty Global) (bound : ℕ) → plain_type (nodes.Seq item bound) ≡ Seq (plain_type item.value) bound
sequence_view item bound = ap plain_type (sym (nodes.rolls-Seq item bound)) ∙ fold-roll-Ty PlainType PlainField (List PlainField) type_step field_step fields_step (open_type.Seq item bound)

pub array_view : (item : Box Ty Global) (count : ℕ) → plain_type (nodes.Arr item count) ≡ Arr (plain_type item.value) count
array_view item count = ap plain_type (sym (nodes.rolls-Arr item count)) ∙ fold-roll-Ty PlainType PlainField (List PlainField) type_step field_step fields_step (open_type.Arr item count)

pub struct_view : (fields : Fields) → plain_type (nodes.Struct fields) ≡ Struct (fields_of (plain_fields fields))
struct_view fields = ap plain_type (sym (nodes.rolls-Struct fields)) ∙ fold-roll-Ty PlainType PlainField (List PlainField) type_step field_step fields_step (open_type.Struct fields)

pub reference_view : (homes : List HomeNo) → plain_type (nodes.Ref homes) ≡ RefTo homes
reference_view homes = ap plain_type (sym (nodes.rolls-Ref homes)) ∙ fold-roll-Ty PlainType PlainField (List PlainField) type_step field_step fields_step (open_type.Ref homes)
