use Rattle.std.proofs.Common.{◌∙◌, List, length, sym, ap, arith, refl}
use Rattle.psdl_directory.specs.Declarations.{Declaration}
use Rattle.psdl_directory.specs.Headers.{header}
use Rattle.psdl_standings.specs.inner.Walked.{text_in}
use Rattle.psdl_standings.proofs.Walking.{header_at, as_many, none_last, walked_end}
use Rattle.psdl_standings.proofs.walk.Walk.all.Goals as goal

pub loop-number-init : goal.loop-number-init
loop-number-init c = record { same = refl; walked = rw c.new-states.ensures.items c.requires.none; last = none_last c.args.self.now }

pub step-requires-clause-number : goal.step-requires-clause-number
step-requires-clause-number c =
    omega (arith, c.loop-number-test.true, as_many (text_in c.args.self.now) c.args.headers.now c.requires.headers, ap (λ (all : List Declaration). length all) c.loop-number.invariant.same)

pub step-requires-clause-header : goal.step-requires-clause-header
step-requires-clause-header c =
    c.index-headers-number.is
    ∙ header_at (text_in c.args.self.now) c.args.headers.now c.loop-number.number c.index-headers-number.result c.requires.headers c.loop-number-test.true
    ∙ ap (λ (all : List Declaration). header all c.loop-number.number) (sym c.loop-number.invariant.same)

pub returns-clause-walked : goal.returns-clause-walked
returns-clause-walked c =
    walked_end c.loop-number.self c.loop-number.states.items c.loop-number.number (text_in c.args.self.now)
    (omega (arith, c.loop-number-test.false, c.loop-number.auto.number-end, as_many (text_in c.args.self.now) c.args.headers.now c.requires.headers)) c.loop-number.invariant.walked
