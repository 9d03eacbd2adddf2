use Rattle.std.proofs.Common.{◌≡◌, ◌<◌, List, length, map, set, get_or, sym, ap, ◌∙◌, arith}
use Rattle.std.specs.List.{slice_get}
use Rattle.std.specs.Vec.{with_item}
use Rattle.std.proofs.lemmas.List.{map-set, length-map}
use Rattle.type_layout.specs.declared.value.Value.{Value}
use Rattle.type_layout.specs.declared.value.Value.TheFolds.{fold-roll-Values, fold_out-Values}
use Rattle.type_layout.specs.Types.{PlainValue}
use Rattle.type_layout.specs.Views.{plain_value, plain_values, value_step, values_step}
use Rattle.type_layout.proofs.Lookups.{got_mapped}
use Rattle.type_layout.proofs.value.Values.replace.Goals as goal

pub returns-clause-given : goal.returns-clause-given
returns-clause-given c =
    let items = c.args.self.now.values.items in
    let seen : plain_values c.args.self.now ≡ map plain_value items = fold_out-Values PlainValue (List PlainValue) value_step values_step c.args.self.now in
    let lt : c.args.index < length items = omega (arith, c.requires, ap length seen, length-map items plain_value) in
    let was = c.replace.ensures.value in
    ap (λ (l : List PlainValue). slice_get l c.args.index) seen ∙ got_mapped plain_value items c.args.index c.replace.result lt (was ∙ c.index_mut.ensures.value ∙ ap (get_or items c.args.index) (sym was))

pub returns-clause-replaced : goal.returns-clause-replaced
returns-clause-replaced c =
    let items = c.args.self.now.values.items in
    let seen : plain_values c.args.self.now ≡ map plain_value items = fold_out-Values PlainValue (List PlainValue) value_step values_step c.args.self.now in
    fold-roll-Values PlainValue (List PlainValue) value_step values_step (record { values = with_item c.args.self.now.values c.args.index c.replace.new.dest })
    ∙ ap (λ (v : Value). map plain_value (set items c.args.index v)) c.replace.ensures.after
    ∙ map-set plain_value items c.args.index c.args.value
    ∙ ap (λ (l : List PlainValue). set l c.args.index (plain_value c.args.value)) (sym seen)
