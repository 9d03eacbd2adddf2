use Rattle.std.proofs.Common.{◌∙◌, ap, rules}
use Rattle.std.specs.Str.{bytes_eq}
use Rattle.type_layout.specs.inner.Marks.{is_marked}
use Rattle.type_layout.specs.inner.Searches.{steps_of}
use Rattle.type_layout.proofs.Searching.{found, of_held, first_turn, goes_on, goes_back, smaller, told, nothing_left}
use Rattle.type_layout.proofs.factory_graph.FactoryGraph.searched.Goals as goal

pub loop-step-init : goal.loop-step-init
loop-step-init c =
    first_turn c.args.self.now (λ f. bytes_eq c.args.word.now f.name) c.args.home (is_marked c.in_ok-search.search.left) (steps_of c.in_ok-search.search) c.args.first c.in_ok-search.ensures.way (search rules) c.in_ok-search.ensures.left

pub loop-step-smaller-in-Continue-branch-2 : goal.loop-step-smaller-in-Continue-branch-2
loop-step-smaller-in-Continue-branch-2 c =
    smaller c.args.self.now (is_marked c.next.new.self.left) (steps_of c.loop-step.search) (steps_of c.next.new.self) (steps_of c.take.new.self) c.in-Some.step c.in-Some-base.base c.bases.result.now c.in-Some.ensures.way c.in-Some-base.ensures.base c.bases.ensures
    c.in_ok-take-in-Some-base.ensures.way

pub loop-step-preserved-in-Continue-branch-2 : goal.loop-step-preserved-in-Continue-branch-2
loop-step-preserved-in-Continue-branch-2 c =
    goes_on c.args.self.now (λ f. bytes_eq c.args.word.now f.name) (found c.args.self.now (λ f. bytes_eq c.args.word.now f.name) c.args.home) (is_marked c.loop-step.search.left) (is_marked c.next.new.self.left) (is_marked c.take.new.self.left) (steps_of c.loop-step.search)
    (steps_of c.next.new.self) (steps_of c.take.new.self) c.in-Some.step c.in-Some-base.base c.bases.result.now c.loop-step.invariant c.in-Some.ensures.way (ap is_marked c.in-Some.ensures.left) c.in-Some-base.ensures.base c.bases.ensures c.in_ok-take-in-Some-base.ensures.way
    (ap is_marked c.in_ok-take-in-Some-base.ensures.left)

pub returns-in-Some-declared : goal.returns-in-Some-declared
returns-in-Some-declared c =
    told c.args.self.now (λ f. bytes_eq c.args.word.now f.name) (found c.args.self.now (λ f. bytes_eq c.args.word.now f.name) c.args.home) (is_marked c.loop-step.search.left) (steps_of c.loop-step.search) (steps_of c.next.new.self) c.in-Some.step c.bases.result.now
    c.in-Some-declared.factory.now c.loop-step.invariant c.in-Some.ensures.way c.in-None.ensures.base c.bases.ensures c.in-Some-declared.ensures
    ∙ of_held c.args.self.now (λ f. bytes_eq c.args.word.now f.name) c.args.home

pub loop-step-preserved : goal.loop-step-preserved
loop-step-preserved c =
    goes_back c.args.self.now (λ f. bytes_eq c.args.word.now f.name) (found c.args.self.now (λ f. bytes_eq c.args.word.now f.name) c.args.home) (is_marked c.loop-step.search.left) (is_marked c.next.new.self.left) (is_marked c.leave.new.self.left) (steps_of c.loop-step.search)
    (steps_of c.next.new.self) (steps_of c.leave.new.self) c.in-Some.step c.bases.result.now c.loop-step.invariant c.in-Some.ensures.way (ap is_marked c.in-Some.ensures.left) c.in-None.ensures.base c.bases.ensures c.in-None-declared.ensures c.leave.ensures.way c.leave.ensures.left

pub returns : goal.returns
returns c =
    nothing_left c.args.self.now (λ f. bytes_eq c.args.word.now f.name) (found c.args.self.now (λ f. bytes_eq c.args.word.now f.name) c.args.home) (is_marked c.loop-step.search.left) (steps_of c.loop-step.search) c.loop-step.invariant c.in_default.ensures.way
    ∙ of_held c.args.self.now (λ f. bytes_eq c.args.word.now f.name) c.args.home
