use Rattle.std.proofs.Common.{◌≡◌, ◌++◌, ap, subst, sym, ◌∙◌, arith}
use Rattle.std.specs.Prelude.{OnOk}
use Rattle.std.proofs.lemmas.List.{append-nil}
use Rattle.type_layout.specs.Types.{PlainType, Str, Seq, Arr, Struct, RefTo, fields_of}
use Rattle.type_layout.specs.Views.{plain_type, plain_fields}
use Rattle.cdr_codec.specs.Reading.{value_at}
use Rattle.cdr_codec.specs.Places.{IsFound, part_of}
use Rattle.cdr_codec.proofs.Nodes.{text_view, sequence_view, array_view, struct_view, reference_view}
use Rattle.cdr_codec.proofs.Skips.{number_ends, text_ends}
use Rattle.cdr_codec.proofs.Members.{number_part, text_part, text_some, no_sequence, no_array, no_struct, no_reference}
use Rattle.cdr_codec.proofs.key.put_part.Goals as goal

pub put_number-requires : goal.put_number-requires
put_number-requires c = (number_ends (plain_type c.args.ty.now) c.in-Some.width (sym c.in-Some.ensures) c.args.bytes.now c.args.at c.requires.found).1

pub returns-in-Some : goal.returns-in-Some
returns-in-Some c = subst (λ l. OnOk c.put_number.result (c.put_number.new.out ≡ c.args.out.now ++ l)) (sym (number_part (plain_type c.args.ty.now) c.requires.sound c.in-Some.width (sym c.in-Some.ensures) c.args.bytes.now (λ i. omega (arith, c.type_inv.bytes i)) c.args.at c.requires.place c.requires.found)) c.put_number.ensures

pub put_text-requires-clause-some : goal.put_text-requires-clause-some
put_text-requires-clause-some c =
    let is : plain_type c.args.ty.now ≡ Str c.in-Str.field-0 = ap plain_type c.in-Str.is ∙ text_view c.in-Str.field-0 in
    text_some c.in-Str.field-0 c.args.bytes.now c.args.at (subst (λ (t : PlainType). IsFound (value_at t c.args.bytes.now c.args.at)) is c.requires.found)

pub put_text-requires-clause-within : goal.put_text-requires-clause-within
put_text-requires-clause-within c =
    let is : plain_type c.args.ty.now ≡ Str c.in-Str.field-0 = ap plain_type c.in-Str.is ∙ text_view c.in-Str.field-0 in
    (text_ends c.in-Str.field-0 c.args.bytes.now c.args.at (subst (λ (t : PlainType). IsFound (value_at t c.args.bytes.now c.args.at)) is c.requires.found)).1

pub returns-in-Str : goal.returns-in-Str
returns-in-Str c =
    let is : plain_type c.args.ty.now ≡ Str c.in-Str.field-0 = ap plain_type c.in-Str.is ∙ text_view c.in-Str.field-0 in
    let part = text_part c.in-Str.field-0 c.args.bytes.now c.args.at (subst (λ (t : PlainType). IsFound (value_at t c.args.bytes.now c.args.at)) is c.requires.found) in
    subst (λ l. OnOk c.put_text.result (c.put_text.new.out ≡ c.args.out.now ++ l)) (sym (ap (λ (t : PlainType). part_of t (value_at t c.args.bytes.now c.args.at)) is ∙ part)) c.put_text.ensures

pub returns-in-Seq : goal.returns-in-Seq
returns-in-Seq c =
    let is : plain_type c.args.ty.now ≡ Seq (plain_type c.in-Seq.field-0.value) c.in-Seq.field-1 = ap plain_type c.in-Seq.is ∙ sequence_view c.in-Seq.field-0 c.in-Seq.field-1 in
    let none = ap (λ (t : PlainType). part_of t (value_at t c.args.bytes.now c.args.at)) is ∙ no_sequence (plain_type c.in-Seq.field-0.value) c.in-Seq.field-1 (value_at (Seq (plain_type c.in-Seq.field-0.value) c.in-Seq.field-1) c.args.bytes.now c.args.at) in
    sym (ap (λ l. c.args.out.now ++ l) none ∙ append-nil c.args.out.now)

pub returns-in-Arr : goal.returns-in-Arr
returns-in-Arr c =
    let is : plain_type c.args.ty.now ≡ Arr (plain_type c.in-Arr.field-0.value) c.in-Arr.field-1 = ap plain_type c.in-Arr.is ∙ array_view c.in-Arr.field-0 c.in-Arr.field-1 in
    let none = ap (λ (t : PlainType). part_of t (value_at t c.args.bytes.now c.args.at)) is ∙ no_array (plain_type c.in-Arr.field-0.value) c.in-Arr.field-1 (value_at (Arr (plain_type c.in-Arr.field-0.value) c.in-Arr.field-1) c.args.bytes.now c.args.at) in
    sym (ap (λ l. c.args.out.now ++ l) none ∙ append-nil c.args.out.now)

pub returns-in-Struct : goal.returns-in-Struct
returns-in-Struct c =
    let is : plain_type c.args.ty.now ≡ Struct (fields_of (plain_fields c.in-Struct.field-0)) = ap plain_type c.in-Struct.is ∙ struct_view c.in-Struct.field-0 in
    let none = ap (λ (t : PlainType). part_of t (value_at t c.args.bytes.now c.args.at)) is ∙ no_struct (fields_of (plain_fields c.in-Struct.field-0)) (value_at (Struct (fields_of (plain_fields c.in-Struct.field-0))) c.args.bytes.now c.args.at) in
    sym (ap (λ l. c.args.out.now ++ l) none ∙ append-nil c.args.out.now)

pub returns-in-Ref : goal.returns-in-Ref
returns-in-Ref c =
    let is : plain_type c.args.ty.now ≡ RefTo c.in-Ref.field-0 = ap plain_type c.in-Ref.is ∙ reference_view c.in-Ref.field-0 in
    let none = ap (λ (t : PlainType). part_of t (value_at t c.args.bytes.now c.args.at)) is ∙ no_reference c.in-Ref.field-0 (value_at (RefTo c.in-Ref.field-0) c.args.bytes.now c.args.at) in
    sym (ap (λ l. c.args.out.now ++ l) none ∙ append-nil c.args.out.now)
