use Rattle.std.proofs.Common.{rules}
use Rattle.std.proofs.lemmas.Bool.{leb-true}
use Rattle.std.proofs.lemmas.List.Sorted.{IsNonDecreasingBy-push}
use Rattle.type_layout.specs.declared.home.HomeNo.{HomeNo}
use Rattle.type_layout.proofs.HomesFound.{last_is_at_most}
use Rattle.type_layout.proofs.home.HomeNos.may_rise_to.Goals as goal

pub returns-in-Some : goal.returns-in-Some
returns-in-Some c le rise =
    IsNonDecreasingBy-push (λ (h : HomeNo). h.0) c.args.self.now c.args.home rise (λ d some. last_is_at_most c.args.self.now c.in-Some.last.now c.args.home d (search rules) (leb-true c.in-Some.last.now.0 c.args.home.0 le) some)
