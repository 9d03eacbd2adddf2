use Rattle.std.proofs.Common.{◌≡◌, true, false, ap, refl}
use Rattle.psdl_directory.specs.Lookup.{at}
use Rattle.psdl_directory.specs.Parts.{is_concrete_home}
use Rattle.psdl_lineage.specs.Descent.{concrete_homes}
use Rattle.psdl_rules.specs.Texts.{judged}
use Rattle.psdl_rules.proofs.Slots.{passes, never}
use Rattle.psdl_rules.proofs.faults.limit.passes_limit.Goals as goal

pub returns-then-not-is_home : goal.returns-then-not-is_home
returns-then-not-is_home c =
    let all = judged c.args.text.now in
    let other : is_concrete_home (at all c.args.number).what ≡ false = cc (c.is_concrete_home-is_home.ensures, ap is_concrete_home c.what.ensures, c.if-not-is_home.true) in
    never all c.args.number other

pub returns : goal.returns
returns c =
    let all = judged c.args.text.now in
    let home : is_concrete_home (at all c.args.number).what ≡ true = cc (c.is_concrete_home-is_home.ensures, ap is_concrete_home c.what.ensures, c.if-not-is_home.false) in
    passes all (concrete_homes all) c.args.number c.stands_at.result refl home c.stands_at.ensures
