use Rattle.std.proofs.Common.{◌≡◌, ◌∙◌, ◌*◌, ◌-◌, List, length, take, drop, length-drop, sym, ap, arith}
use Rattle.std.proofs.lemmas.List.{take_all}
use Rattle.psdl_members.specs.declared.entry.Entry.{Entry}
use Rattle.psdl_members.proofs.heirs.part.Goals as goal

pub returns-then-rest-lt64-clause-part : goal.returns-then-rest-lt64-clause-part
returns-then-rest-lt64-clause-part c =
    let es : List Entry = c.args.entries.now in
    let rest : List Entry = drop (c.args.index * 64) es in
    let whole : take (length es - c.args.index * 64) rest ≡ rest = take_all (length es - c.args.index * 64) rest (omega (arith, length-drop (c.args.index * 64) es)) in
    whole ∙ sym (take_all 64 rest (omega (arith, ap (λ (l : List Entry). length l) whole, c.if-rest-lt64.true)))
