use Rattle.std.proofs.Common.{◌∙◌, ap, sym, Option, List}
use Rattle.std.specs.List.{flat_map}
use Rattle.psdl_directory.specs.declared.fault.CheckFault.{CheckFault}
use Rattle.psdl_directory.specs.Lookup.{at}
use Rattle.psdl_directory.specs.Noting.{noting}
use Rattle.psdl_directory.proofs.Noting.{noting-append}
use Rattle.psdl_rules.specs.Faults.Incomplete.{never_defined, of_forward}
use Rattle.psdl_rules.specs.Words.{above as above_names}
use Rattle.psdl_rules.specs.Texts.{judged}
use Rattle.psdl_rules.specs.inner.Headed.{forward_use}
use Rattle.psdl_rules.proofs.Headers.{over_above, forward_is}
use Rattle.psdl_rules.proofs.faults.incomplete.incomplete_at.Goals as goal

pub returns : goal.returns
returns c = λ lt.
    let all = judged c.args.text.now in
    let n = c.args.number in
    let own = never_defined all n (at all n) in
    c.header_uses.ensures
    ∙ ap (λ (l : List CheckFault). noting c.note_if.new.self l) (over_above all n (forward_use n) (of_forward all n) (forward_is all n))
    ∙ ap (λ (o : Option CheckFault). noting o (flat_map (of_forward all n) (above_names (at all n).what))) (rw (c.place.ensures, c.is_never_defined-holds.ensures lt) at c.note_if.ensures)
    ∙ sym (noting-append c.args.least.now own (flat_map (of_forward all n) (above_names (at all n).what)))
