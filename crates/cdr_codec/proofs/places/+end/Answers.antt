use Rattle.std.proofs.Common.{◌≡◌, ◌+◌, ◌-◌, length, map, ap, subst, sym, ◌∙◌, drop, rules, arith}
use Rattle.type_layout.specs.Types.{PlainType, Str, Seq, Arr, Struct, RefTo, PlainFields, fields_of}
use Rattle.type_layout.specs.Spelling.{gap}
use Rattle.type_layout.specs.Views.{plain_type, plain_field}
use Rattle.cdr_codec.specs.Reading.{value_at, times_at, fields_at}
use Rattle.cdr_codec.specs.Places.{IsFound, end_of}
use Rattle.cdr_codec.proofs.Sizes.{size, sizes}
use Rattle.cdr_codec.proofs.Nodes.{text_view, sequence_view, array_view, struct_view, reference_view}
use Rattle.type_layout.specs.declared.ty.Ty.{Ty}
use Rattle.cdr_codec.proofs.Loop.{fields_drop, fields_out}
use Rattle.cdr_codec.proofs.Skips.{number_ends, text_ends, sequence_ends, array_ends, struct_ends, reference_ends, numbers_fit, numbers_ends, times_first, times_over, field_type, first_field, fields_over}
use Rattle.cdr_codec.proofs.places.+end.Goals as goal

pub fields_end-value_end-place-requires : goal.fields_end-value_end-place-requires
fields_end-value_end-place-requires t c =
    let less = ap sizes (fields_drop c.args.fields.now c.loop-field.field-index c.field-item.result c.loop-field-test.true c.field-item.is) in
    let same = ap size (field_type c.field-item.result) in
    (omega (arith, less, same, c.loop-field.invariant.3), (c.loop-field.invariant.0, (first_field c.args.fields.now c.loop-field.field-index c.field-item.result c.args.bytes.now c.loop-field.place c.loop-field-test.true c.field-item.is c.loop-field.invariant.1).found))

pub fields_end-loop-field-preserved : goal.fields_end-loop-field-preserved
fields_end-loop-field-preserved t c =
    let first = first_field c.args.fields.now c.loop-field.field-index c.field-item.result c.args.bytes.now c.loop-field.place c.loop-field-test.true c.field-item.is c.loop-field.invariant.1 in
    let rest = fields_of (map plain_field (drop (c.loop-field.field-index + 1) c.args.fields.now)) in (
      c.value_end-place.ensures.within,
      subst (λ k. IsFound (fields_at rest c.args.bytes.now k)) (sym c.value_end-place.ensures.end) first.later,
      ap (λ k. end_of (fields_at rest c.args.bytes.now k)) c.value_end-place.ensures.end ∙ first.ends ∙ c.loop-field.invariant.2,
      omega (arith, c.loop-field.invariant.3, ap sizes (fields_drop c.args.fields.now c.loop-field.field-index c.field-item.result c.loop-field-test.true c.field-item.is)),
    )

pub fields_end-returns-clause-end : goal.fields_end-returns-clause-end
fields_end-returns-clause-end t c = sym (fields_over c.args.bytes.now c.loop-field.place) ∙ ap (λ (fields : PlainFields). end_of (fields_at fields c.args.bytes.now c.loop-field.place)) (sym (fields_out c.args.fields.now c.loop-field.field-index c.loop-field-test.false)) ∙ c.loop-field.invariant.2

pub items_end-numbers_end-requires : goal.items_end-numbers_end-requires
items_end-numbers_end-requires t c =
    let e = numbers_ends (plain_type c.args.item.now) c.in-Some.width (sym c.in-Some.ensures) c.args.count c.args.bytes.now c.args.at c.requires.place c.requires.found in
    let fit = numbers_fit c.in-Some.width c.args.count c.args.at (length c.args.bytes.now) c.requires.place e.1 in
    search rules

pub items_end-returns-in-Some-clause-end : goal.items_end-returns-in-Some-clause-end
items_end-returns-in-Some-clause-end t c = c.numbers_end.ensures ∙ sym (numbers_ends (plain_type c.args.item.now) c.in-Some.width (sym c.in-Some.ensures) c.args.count c.args.bytes.now c.args.at c.requires.place c.requires.found).0

pub items_end-returns-in-Some-clause-within : goal.items_end-returns-in-Some-clause-within
items_end-returns-in-Some-clause-within t c = (let e = numbers_ends (plain_type c.args.item.now) c.in-Some.width (sym c.in-Some.ensures) c.args.count c.args.bytes.now c.args.at c.requires.place c.requires.found in omega (arith, c.numbers_end.ensures, e.1))

pub items_end-value_end-place-requires : goal.items_end-value_end-place-requires
items_end-value_end-place-requires t c = (search rules, (c.loop.invariant.0, (times_first (value_at (plain_type c.args.item.now)) c.args.count c.loop.counter c.args.bytes.now c.loop.place c.loop-test.true c.loop.invariant.1).found))

pub items_end-loop-preserved : goal.items_end-loop-preserved
items_end-loop-preserved t c =
    let first = times_first (value_at (plain_type c.args.item.now)) c.args.count c.loop.counter c.args.bytes.now c.loop.place c.loop-test.true c.loop.invariant.1 in (
      c.value_end-place.ensures.within,
      subst (λ k. IsFound (times_at (value_at (plain_type c.args.item.now)) (c.args.count - (c.loop.counter + 1)) c.args.bytes.now k)) (sym c.value_end-place.ensures.end) first.later,
      ap (λ k. end_of (times_at (value_at (plain_type c.args.item.now)) (c.args.count - (c.loop.counter + 1)) c.args.bytes.now k)) c.value_end-place.ensures.end ∙ first.ends ∙ c.loop.invariant.2,
    )

pub items_end-returns-clause-end : goal.items_end-returns-clause-end
items_end-returns-clause-end t c = sym (times_over (value_at (plain_type c.args.item.now)) c.args.count c.loop.counter c.args.bytes.now c.loop.place c.loop-test.false) ∙ c.loop.invariant.2

pub value_end-returns-in-Some-clause-end : goal.value_end-returns-in-Some-clause-end
value_end-returns-in-Some-clause-end t c = c.number_end.ensures ∙ sym (number_ends (plain_type c.args.ty.now) c.in-Some.width (sym c.in-Some.ensures) c.args.bytes.now c.args.at c.requires.found).0

pub value_end-returns-in-Some-clause-within : goal.value_end-returns-in-Some-clause-within
value_end-returns-in-Some-clause-within t c = (let e = number_ends (plain_type c.args.ty.now) c.in-Some.width (sym c.in-Some.ensures) c.args.bytes.now c.args.at c.requires.found in omega (arith, c.number_end.ensures, e.1))

pub value_end-text_end-requires : goal.value_end-text_end-requires
value_end-text_end-requires t c =
    let is : plain_type c.args.ty.now ≡ Str c.in-Str.field-0 = ap plain_type c.in-Str.is ∙ text_view c.in-Str.field-0 in
    (text_ends c.in-Str.field-0 c.args.bytes.now c.args.at (subst (λ (t : PlainType). IsFound (value_at t c.args.bytes.now c.args.at)) is c.requires.found)).1

pub value_end-count_at-count-requires : goal.value_end-count_at-count-requires
value_end-count_at-count-requires t c =
    let is : plain_type c.args.ty.now ≡ Seq (plain_type c.in-Seq.item.value) c.in-Seq.field-1 = ap plain_type c.in-Seq.is ∙ sequence_view c.in-Seq.item c.in-Seq.field-1 in
    (sequence_ends (plain_type c.in-Seq.item.value) c.in-Seq.field-1 c.args.bytes.now c.args.at (subst (λ (t : PlainType). IsFound (value_at t c.args.bytes.now c.args.at)) is c.requires.found)).within

pub value_end-items_end-requires : goal.value_end-items_end-requires
value_end-items_end-requires t c =
    let is : plain_type c.args.ty.now ≡ Seq (plain_type c.in-Seq.item.value) c.in-Seq.field-1 = ap plain_type c.in-Seq.is ∙ sequence_view c.in-Seq.item c.in-Seq.field-1 in
    let items = sequence_ends (plain_type c.in-Seq.item.value) c.in-Seq.field-1 c.args.bytes.now c.args.at (subst (λ (t : PlainType). IsFound (value_at t c.args.bytes.now c.args.at)) is c.requires.found) in
    let less = ap size is in
    let same = ap (λ (t : Ty). size (plain_type t)) c.deref.ensures in
    (omega (arith, less, same), (omega (arith, items.within, c.count_at-count.ensures.after), rw (c.count_at-count.ensures.count, c.count_at-count.ensures.after, c.deref.ensures) items.found))

pub value_end-items_end-requires-in-Arr : goal.value_end-items_end-requires-in-Arr
value_end-items_end-requires-in-Arr t c =
    let is : plain_type c.args.ty.now ≡ Arr (plain_type c.in-Arr.item.value) c.in-Arr.count = ap plain_type c.in-Arr.is ∙ array_view c.in-Arr.item c.in-Arr.count in
    let items = array_ends (plain_type c.in-Arr.item.value) c.in-Arr.count c.args.bytes.now c.args.at (subst (λ (t : PlainType). IsFound (value_at t c.args.bytes.now c.args.at)) is c.requires.found) in
    let less = ap size is in
    let same = ap (λ (t : Ty). size (plain_type t)) c.deref-in-Arr.ensures in
    (omega (arith, less, same), (c.requires.place, rw (c.from.ensures, c.deref-in-Arr.ensures) items.0))

pub value_end-fields_end-requires : goal.value_end-fields_end-requires
value_end-fields_end-requires t c =
    let is : plain_type c.args.ty.now ≡ Struct (fields_of (map plain_field c.as_slice.result.now)) = ap plain_type c.in-Struct.is ∙ struct_view c.in-Struct.fields ∙ ap (λ l. Struct (fields_of l)) (sym c.as_slice.ensures) in
    let fields = struct_ends (fields_of (map plain_field c.as_slice.result.now)) c.args.bytes.now c.args.at (subst (λ (t : PlainType). IsFound (value_at t c.args.bytes.now c.args.at)) is c.requires.found) in
    let less = ap size is in
    (omega (arith, less), (c.requires.place, fields.0))

pub value_end-returns-in-Str-clause-end : goal.value_end-returns-in-Str-clause-end
value_end-returns-in-Str-clause-end t c =
    let is : plain_type c.args.ty.now ≡ Str c.in-Str.field-0 = ap plain_type c.in-Str.is ∙ text_view c.in-Str.field-0 in
    let found = subst (λ (t : PlainType). IsFound (value_at t c.args.bytes.now c.args.at)) is c.requires.found in
    c.text_end.ensures ∙ sym (text_ends c.in-Str.field-0 c.args.bytes.now c.args.at found).0 ∙ ap (λ (t : PlainType). end_of (value_at t c.args.bytes.now c.args.at)) (sym is)

pub value_end-returns-in-Str-clause-within : goal.value_end-returns-in-Str-clause-within
value_end-returns-in-Str-clause-within t c =
    let is : plain_type c.args.ty.now ≡ Str c.in-Str.field-0 = ap plain_type c.in-Str.is ∙ text_view c.in-Str.field-0 in
    let found = subst (λ (t : PlainType). IsFound (value_at t c.args.bytes.now c.args.at)) is c.requires.found in
    let ends = text_ends c.in-Str.field-0 c.args.bytes.now c.args.at found in
    omega (arith, c.text_end.ensures, ends.1)

pub value_end-returns-in-Seq-clause-end : goal.value_end-returns-in-Seq-clause-end
value_end-returns-in-Seq-clause-end t c =
    let is : plain_type c.args.ty.now ≡ Seq (plain_type c.in-Seq.item.value) c.in-Seq.field-1 = ap plain_type c.in-Seq.is ∙ sequence_view c.in-Seq.item c.in-Seq.field-1 in
    let items = sequence_ends (plain_type c.in-Seq.item.value) c.in-Seq.field-1 c.args.bytes.now c.args.at (subst (λ (t : PlainType). IsFound (value_at t c.args.bytes.now c.args.at)) is c.requires.found) in
    c.items_end.ensures.end ∙ rw (c.count_at-count.ensures.count, c.count_at-count.ensures.after, c.deref.ensures, is) (sym items.ends)

pub value_end-returns-in-Arr-clause-end : goal.value_end-returns-in-Arr-clause-end
value_end-returns-in-Arr-clause-end t c =
    let is : plain_type c.args.ty.now ≡ Arr (plain_type c.in-Arr.item.value) c.in-Arr.count = ap plain_type c.in-Arr.is ∙ array_view c.in-Arr.item c.in-Arr.count in
    let items = array_ends (plain_type c.in-Arr.item.value) c.in-Arr.count c.args.bytes.now c.args.at (subst (λ (t : PlainType). IsFound (value_at t c.args.bytes.now c.args.at)) is c.requires.found) in
    c.items_end-in-Arr.ensures.end ∙ rw (c.from.ensures, c.deref-in-Arr.ensures, is) (sym items.1)

pub value_end-returns-in-Struct-clause-end : goal.value_end-returns-in-Struct-clause-end
value_end-returns-in-Struct-clause-end t c =
    let is : plain_type c.args.ty.now ≡ Struct (fields_of (map plain_field c.as_slice.result.now)) = ap plain_type c.in-Struct.is ∙ struct_view c.in-Struct.fields ∙ ap (λ l. Struct (fields_of l)) (sym c.as_slice.ensures) in
    let fields = struct_ends (fields_of (map plain_field c.as_slice.result.now)) c.args.bytes.now c.args.at (subst (λ (t : PlainType). IsFound (value_at t c.args.bytes.now c.args.at)) is c.requires.found) in
    c.fields_end.ensures.end ∙ sym fields.1 ∙ ap (λ (t : PlainType). end_of (value_at t c.args.bytes.now c.args.at)) (sym is)

pub value_end-returns-in-Ref-clause-end : goal.value_end-returns-in-Ref-clause-end
value_end-returns-in-Ref-clause-end t c =
    let is : plain_type c.args.ty.now ≡ RefTo c.in-Ref.field-0 = ap plain_type c.in-Ref.is ∙ reference_view c.in-Ref.field-0 in
    let ends = reference_ends c.in-Ref.field-0 c.args.bytes.now c.args.at (subst (λ (t : PlainType). IsFound (value_at t c.args.bytes.now c.args.at)) is c.requires.found) in
    c.number_end-in-Ref-2.ensures ∙ ap (λ k. k + gap 8 k + 8) c.number_end-in-Ref.ensures ∙ sym ends.0 ∙ ap (λ (t : PlainType). end_of (value_at t c.args.bytes.now c.args.at)) (sym is)

pub value_end-returns-in-Ref-clause-within : goal.value_end-returns-in-Ref-clause-within
value_end-returns-in-Ref-clause-within t c =
    let is : plain_type c.args.ty.now ≡ RefTo c.in-Ref.field-0 = ap plain_type c.in-Ref.is ∙ reference_view c.in-Ref.field-0 in
    let ends = reference_ends c.in-Ref.field-0 c.args.bytes.now c.args.at (subst (λ (t : PlainType). IsFound (value_at t c.args.bytes.now c.args.at)) is c.requires.found) in
    let end = c.number_end-in-Ref-2.ensures ∙ ap (λ k. k + gap 8 k + 8) c.number_end-in-Ref.ensures in
    omega (arith, ends.1, end)
