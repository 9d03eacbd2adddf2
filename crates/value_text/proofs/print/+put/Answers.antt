use Rattle.std.proofs.Common.{◌≡◌, ℕ, List, ◌++◌, subst, ap, arith}
use Rattle.std.specs.Prelude.{map, OnOk}
use Rattle.type_layout.specs.Types.{values_of}
use Rattle.type_layout.specs.Views.{plain_type, plain_value}
use Rattle.value_text.proofs.Sizes.{size}
use Rattle.value_text.proofs.Printing.{sequence_is, array_is, elements_fit, items_fit, elements_print, items_print}
use Rattle.value_text.proofs.print.+put.Goals as goal

pub put-put_items-requires : goal.put-put_items-requires
put-put_items-requires t c =
    let is = sequence_is c.args.ty.now c.deref.result.now c.in-Seq.item c.in-Seq.field-1 c.in-Seq.is c.deref.ensures in
    (omega (arith, ap size is), elements_fit (plain_type c.args.ty.now) (plain_type c.deref.result.now) c.in-Seq.field-1 (plain_value c.args.value.now) (values_of (map plain_value c.items_of.result.now)) is c.items_of.ensures c.requires)

pub put-put_items-requires-in-Arr : goal.put-put_items-requires-in-Arr
put-put_items-requires-in-Arr t c =
    let is = array_is c.args.ty.now c.deref-in-Arr.result.now c.in-Arr.item c.in-Arr.field-1 c.in-Arr.is c.deref-in-Arr.ensures in
    (omega (arith, ap size is), items_fit (plain_type c.args.ty.now) (plain_type c.deref-in-Arr.result.now) c.in-Arr.field-1 (plain_value c.args.value.now) (values_of (map plain_value c.items_of-in-Arr.result.now)) is c.items_of-in-Arr.ensures c.requires)

pub put-returns-in-Seq : goal.put-returns-in-Seq
put-returns-in-Seq t c =
    let is = sequence_is c.args.ty.now c.deref.result.now c.in-Seq.item c.in-Seq.field-1 c.in-Seq.is c.deref.ensures in
    subst (λ (l : List ℕ). OnOk c.put_items.result (c.put_items.new.out ≡ c.args.out.now ++ l)) (elements_print (plain_type c.args.ty.now) (plain_type c.deref.result.now) c.in-Seq.field-1 (plain_value c.args.value.now) (values_of (map plain_value c.items_of.result.now)) is c.items_of.ensures) c.put_items.ensures

pub put-returns-in-Arr : goal.put-returns-in-Arr
put-returns-in-Arr t c =
    let is = array_is c.args.ty.now c.deref-in-Arr.result.now c.in-Arr.item c.in-Arr.field-1 c.in-Arr.is c.deref-in-Arr.ensures in
    subst (λ (l : List ℕ). OnOk c.put_items-in-Arr.result (c.put_items-in-Arr.new.out ≡ c.args.out.now ++ l)) (items_print (plain_type c.args.ty.now) (plain_type c.deref-in-Arr.result.now) c.in-Arr.field-1 (plain_value c.args.value.now) (values_of (map plain_value c.items_of-in-Arr.result.now)) is c.items_of-in-Arr.ensures) c.put_items-in-Arr.ensures
