use Rattle.std.proofs.Common.{◌≡◌, ◌++◌}
use Rattle.type_layout.proofs.Ending.{ends, never, both_end}
use Rattle.type_layout.proofs.scopes.in_front.Goals as goal

pub returns-in-Some : goal.returns-in-Some
returns-in-Some c =
    let whole : c.args.word.now ≡ c.in-Some.rest.now ++ c.args.name.now = ends c.args.word.now c.args.name.now c.in-Some.rest.now c.in-Some.ensures.cases.0 c.in-Some.ensures.cases.1 in
    both_end c.args.word.now c.in-Some.rest.now c.args.mark.now c.args.name.now c.strip_suffix-in-Some.result whole c.strip_suffix-in-Some.ensures.cases

pub returns-in-None : goal.returns-in-None
returns-in-None c = λ front e. never c.args.word.now c.args.name.now (front ++ c.args.mark.now) c.in-None.ensures.cases e
