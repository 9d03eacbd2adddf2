use Rattle.std.proofs.Common.{◌≡◌, ℕ, ◌++◌, length, map, ap, subst, sym, ◌∙◌, arith}
use Rattle.std.specs.Prelude.{OnOk}
use Rattle.type_layout.specs.declared.ty.Ty.{Ty}
use Rattle.type_layout.specs.Types.{PlainType, Seq, Arr, Items, values_of}
use Rattle.std.specs.Int.{w32}
use Rattle.type_layout.specs.Values.{Of, count}
use Rattle.type_layout.specs.Spelling.{number, each, spelling}
use Rattle.type_layout.specs.Views.{plain_type, plain_value}
use Rattle.cdr_codec.proofs.Sizes.{size}
use Rattle.cdr_codec.proofs.Puts.{on_ok, put_behind}
use Rattle.cdr_codec.proofs.Nodes.{sequence_view, array_view}
use Rattle.cdr_codec.proofs.encode.+put.Goals as goal

pub put_list-put_items-requires : goal.put_list-put_items-requires
put_list-put_items-requires t c =
    let is : plain_type c.args.ty.now ≡ Seq (plain_type c.in-Seq.item.value) c.in-Seq.field-1 = ap plain_type c.in-Seq.is ∙ sequence_view c.in-Seq.item c.in-Seq.field-1 in
    let fits = subst (λ (t : PlainType). Of t (Items (values_of (map plain_value c.args.values.now)))) is c.requires in
    let less = ap size is in
    let same = ap (λ (t : Ty). size (plain_type t)) c.deref.ensures in
    (omega (arith, less, same), rw c.deref.ensures fits.0)

pub put_list-put_items-requires-in-Arr : goal.put_list-put_items-requires-in-Arr
put_list-put_items-requires-in-Arr t c =
    let is : plain_type c.args.ty.now ≡ Arr (plain_type c.in-Arr.item.value) c.in-Arr.field-1 = ap plain_type c.in-Arr.is ∙ array_view c.in-Arr.item c.in-Arr.field-1 in
    let fits = subst (λ (t : PlainType). Of t (Items (values_of (map plain_value c.args.values.now)))) is c.requires in
    let less = ap size is in
    let same = ap (λ (t : Ty). size (plain_type t)) c.deref-in-Arr.ensures in
    (omega (arith, less, same), rw c.deref-in-Arr.ensures fits.0)

pub put_list-returns-in_ok-put_number-in-Seq : goal.put_list-returns-in_ok-put_number-in-Seq
put_list-returns-in_ok-put_number-in-Seq t c =
    let item = plain_type c.in-Seq.item.value in
    let vs = values_of (map plain_value c.args.values.now) in
    let is : plain_type c.args.ty.now ≡ Seq item c.in-Seq.field-1 = ap plain_type c.in-Seq.is ∙ sequence_view c.in-Seq.item c.in-Seq.field-1 in
    let old = c.args.out.now in
    let counted : c.put_number.new.out ≡ old ++ number w32 (count vs) (length old) = c.in_ok-put_number-in-Seq.ensures ∙ ap (λ (n : ℕ). old ++ number w32 n (length old)) c.count_of.ensures in
    let items : OnOk c.put_items.result (c.put_items.new.out ≡ c.put_number.new.out ++ each (spelling item) vs (length c.put_number.new.out)) = subst (λ (t : Ty). OnOk c.put_items.result (c.put_items.new.out ≡ c.put_number.new.out ++ each (spelling (plain_type t)) vs (length c.put_number.new.out))) c.deref.ensures c.put_items.ensures in
    let whole = on_ok c.put_items.result (c.put_items.new.out ≡ c.put_number.new.out ++ each (spelling item) vs (length c.put_number.new.out)) (c.put_items.new.out ≡ old ++ spelling (Seq item c.in-Seq.field-1) (Items vs) (length old)) (put_behind old (number w32 (count vs) (length old)) c.put_number.new.out c.put_items.new.out (each (spelling item) vs) counted) items in
    subst (λ (t : PlainType). OnOk c.put_items.result (c.put_items.new.out ≡ old ++ spelling t (Items vs) (length old))) (sym is) whole
