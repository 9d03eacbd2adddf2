use Rattle.std.proofs.Common.{◌∙◌, take, get_or, cond, Some, None, ap, sym, rules}
use Rattle.std.specs.Option.{option_or}
use Rattle.type_layout.specs.declared.key.KeyNo.{KeyNo}
use Rattle.schema_names.specs.Found.{key_called, is_key_called}
use Rattle.schema_names.proofs.Finding.{find-push, taken_one_more}
use Rattle.schema_names.proofs.members.keys_by_name.Goals as goal

pub loop-i-preserved : goal.loop-i-preserved
loop-i-preserved c q =
    let k : KeyNo = get_or c.args.numbers.now c.loop-i.i (record { 0 = 0 }) in
    let front = take c.loop-i.i c.args.numbers.now in
    c.in_ok-enter_key.ensures q
    ∙ ap (λ o. option_or o (cond (is_key_called c.args.keys.now q k) (Some k) None)) (c.loop-i.invariant q)
    ∙ sym (ap (λ l. key_called c.args.keys.now l q) (taken_one_more c.args.numbers.now c.loop-i.i k c.loop-i-test.true (search rules)) ∙ find-push (is_key_called c.args.keys.now q) front k)
