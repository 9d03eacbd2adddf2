use Rattle.std.proofs.Common.{◌++◌, ◌∷◌, [], length, sym, ap, ◌∙◌, arith}
use Rattle.std.proofs.lemmas.List.{take_all, length-append}
use Rattle.owner_view.proofs.Merging.{full}
use Rattle.owner_view.proofs.first.put.Goals as goal

pub returns-in_ok-push : goal.returns-in_ok-push
returns-in_ok-push c =
    let more = c.args.pid ∷ [] in
    c.in_ok-push.ensures.ok ∙ sym (take_all 256 (c.args.pids.now ++ more) (omega (arith, length-append c.args.pids.now more, c.if-as_slice-lt-MOST.true, ap length c.as_slice.ensures)))

pub returns-else-as_slice-lt-MOST : goal.returns-else-as_slice-lt-MOST
returns-else-as_slice-lt-MOST c = sym (full 256 c.args.pids.now (c.args.pid ∷ []) (omega (arith, c.requires, c.if-as_slice-lt-MOST.false, ap length c.as_slice.ensures)))
