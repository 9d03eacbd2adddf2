use Rattle.std.proofs.Common.{◌≡◌, ◌∙◌, ap}
use Rattle.std.specs.Ordering.{is_lt, is_some_and}
use Rattle.psdl_directory.specs.Fault.{is_before}
use Rattle.psdl_directory.specs.contracts.fault.CheckKindOrd.TheImpl.Laws.{matches_partial_cmp-law}
use Rattle.psdl_rules.proofs.Numbers.{by_number}
use Rattle.psdl_rules.proofs.faults.comes_before.Goals as goal

pub returns : goal.returns
unfolding is_before
returns c =
    let declared : c.lt.result ≡ is_before c.args.kind c.args.other = c.lt.ensures ∙ ap (is_some_and is_lt) (matches_partial_cmp-law c.args.kind c.args.other) in
    record {
      declared = declared;
      numbered = declared ∙ by_number c.args.kind c.args.other;
    }
