use Rattle.std.proofs.Common.{◌≡◌, Some, None}
use Rattle.std.specs.List.{slice_get}
use Rattle.psdl_lineage.specs.Descent.{base_home}
use Rattle.psdl_lineage.proofs.Rooted.{alone, as_base, as_itself}
use Rattle.psdl_lineage.proofs.families.family_of.Goals as goal

pub returns-in-None : goal.returns-in-None
returns-in-None c = λ all there families base.
    let none : base_home all c.args.number ≡ None = cc (c.in-None.is, base) in
    alone all c.args.number there none

pub returns-in-Some-known : goal.returns-in-Some-known
returns-in-Some-known c = λ all there families base.
    let home : base_home all c.args.number ≡ Some c.in-Some.home = cc (c.in-Some.is, base) in
    let got : slice_get c.args.families.now c.in-Some.home ≡ Some c.in-Some-known.family = cc (c.in-Some-known.is, c.known.ensures) in
    as_base all c.args.families.now c.args.number c.in-Some.home c.in-Some-known.family there families home got

pub returns-in-None-known : goal.returns-in-None-known
returns-in-None-known c = λ all there families base.
    let home : base_home all c.args.number ≡ Some c.in-Some.home = cc (c.in-Some.is, base) in
    let got : slice_get c.args.families.now c.in-Some.home ≡ None = cc (c.in-None-known.is, c.known.ensures) in
    as_itself all c.args.families.now c.args.number c.in-Some.home there families home got
