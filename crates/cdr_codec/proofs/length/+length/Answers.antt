use Rattle.std.proofs.Common.{◌≡◌, ◌∙◌, ap, arith, length, map, subst, sym, drop}
use Rattle.type_layout.specs.declared.ty.Ty.{Ty}
use Rattle.type_layout.specs.Types.{PlainType, Seq, Arr, Items, fields_of, values_of}
use Rattle.type_layout.specs.Views.{plain_type, plain_field, plain_value}
use Rattle.type_layout.specs.Values.{Of}
use Rattle.type_layout.specs.Spelling.{each, spelling}
use Rattle.cdr_codec.specs.Lengths.{place_behind}
use Rattle.cdr_codec.proofs.Sizes.{size}
use Rattle.cdr_codec.proofs.Nodes.{sequence_view, array_view}
use Rattle.cdr_codec.proofs.Loop.{fields_out}
use Rattle.cdr_codec.proofs.Ends.{number_ends, all_numbers_end, sequence_ends, items_over, fields_over}
use Rattle.cdr_codec.proofs.length.+length.Goals as goal

pub list_end-items_end-requires : goal.list_end-items_end-requires
list_end-items_end-requires t c =
    let is : plain_type c.args.ty.now ≡ Seq (plain_type c.in-Seq.item.value) c.in-Seq.field-1 = ap plain_type c.in-Seq.is ∙ sequence_view c.in-Seq.item c.in-Seq.field-1 in
    let fits = subst (λ (t : PlainType). Of t (Items (values_of (map plain_value c.args.values.now)))) is c.requires in
    let less = ap size is in
    let same = ap (λ (t : Ty). size (plain_type t)) c.deref.ensures in
    (omega (arith, less, same), rw c.deref.ensures fits.0)

pub list_end-items_end-requires-in-Arr : goal.list_end-items_end-requires-in-Arr
list_end-items_end-requires-in-Arr t c =
    let is : plain_type c.args.ty.now ≡ Arr (plain_type c.in-Arr.item.value) c.in-Arr.field-1 = ap plain_type c.in-Arr.is ∙ array_view c.in-Arr.item c.in-Arr.field-1 in
    let fits = subst (λ (t : PlainType). Of t (Items (values_of (map plain_value c.args.values.now)))) is c.requires in
    let less = ap size is in
    let same = ap (λ (t : Ty). size (plain_type t)) c.deref-in-Arr.ensures in
    (omega (arith, less, same), rw c.deref-in-Arr.ensures fits.0)

pub list_end-returns-in-Seq : goal.list_end-returns-in-Seq
list_end-returns-in-Seq t c =
    let item = plain_type c.in-Seq.item.value in
    let vs = values_of (map plain_value c.args.values.now) in
    let is : plain_type c.args.ty.now ≡ Seq item c.in-Seq.field-1 = ap plain_type c.in-Seq.is ∙ sequence_view c.in-Seq.item c.in-Seq.field-1 in
    let items = subst (λ (t : Ty). c.items_end.result ≡ place_behind c.number_end-first.result (length (each (spelling (plain_type t)) vs c.number_end-first.result))) c.deref.ensures c.items_end.ensures in
    subst (λ (t : PlainType). c.items_end.result ≡ place_behind c.args.at (length (spelling t (Items vs) c.args.at))) (sym is) (sequence_ends item c.in-Seq.field-1 vs c.args.at c.number_end-first.result c.items_end.result c.number_end-first.ensures items)

pub items_end-returns-in-Some : goal.items_end-returns-in-Some
items_end-returns-in-Some t c = all_numbers_end (plain_type c.args.item.now) c.in-Some.width (sym c.in-Some.ensures) c.args.values.now c.requires c.args.at c.numbers_end.result c.numbers_end.ensures

pub items_end-returns : goal.items_end-returns
items_end-returns t c = items_over (spelling (plain_type c.args.item.now)) c.args.values.now c.loop-value.value-index c.loop-value.place _ c.loop-value-test.false c.loop-value.invariant.1 c.loop-value.invariant.2

pub fields_end-returns : goal.fields_end-returns
fields_end-returns t c = fields_over (fields_of (map plain_field (drop c.loop-field.field-index c.args.fields.now))) (values_of (map plain_value c.loop-field.remaining.now)) c.loop-field.place _ (fields_out c.args.fields.now c.loop-field.field-index c.loop-field-test.false) c.loop-field.invariant.1 c.loop-field.invariant.0 c.loop-field.invariant.3

pub value_end-returns-in-Some : goal.value_end-returns-in-Some
value_end-returns-in-Some t c = number_ends (plain_type c.args.ty.now) c.in-Some.width (sym c.in-Some.ensures) (plain_value c.args.value.now) c.requires c.args.at c.number_end.result c.number_end.ensures

pub list_end-returns-in-Arr : goal.list_end-returns-in-Arr
list_end-returns-in-Arr t c =
    let item = plain_type c.in-Arr.item.value in
    let vs = values_of (map plain_value c.args.values.now) in
    let is : plain_type c.args.ty.now ≡ Arr item c.in-Arr.field-1 = ap plain_type c.in-Arr.is ∙ array_view c.in-Arr.item c.in-Arr.field-1 in
    let items = subst (λ (t : Ty). c.items_end-in-Arr.result ≡ place_behind c.args.at (length (each (spelling (plain_type t)) vs c.args.at))) c.deref-in-Arr.ensures c.items_end-in-Arr.ensures in
    subst (λ (t : PlainType). c.items_end-in-Arr.result ≡ place_behind c.args.at (length (spelling t (Items vs) c.args.at))) (sym is) items
