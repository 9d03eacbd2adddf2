use Rattle.std.proofs.Common.{sym, ap, ◌∙◌}
use Rattle.std.proofs.lemmas.Result.{IfOk-weaker}
use Rattle.owner_view.specs.Keyed.{keys_of}
use Rattle.owner_view.proofs.Viewing.{shown_at}
use Rattle.owner_view.proofs.net.committed_keys.Goals as goal

pub returns-in-Some : goal.returns-in-Some
returns-in-Some g c = IfOk-weaker c.keyed_of.result _ _
    (λ pairs is v.
    let S = c.args.view.now.schema.now in
    let there = c.in-Some.ensures S v.catalog v.shown in
    is (shown_at S v.catalog c.args.serial c.in-Some.seen there) ∙ sym (ap (keys_of S) there.1))
    c.keyed_of.ensures
