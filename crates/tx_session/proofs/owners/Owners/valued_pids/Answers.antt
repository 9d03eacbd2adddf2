use Rattle.std.proofs.Common.{subst}
use Rattle.owner_view.specs.States.{AreValued}
use Rattle.owner_view.proofs.Outcomes.{if_ok}
use Rattle.tx_session.proofs.Telling.{changes_told, never_none}
use Rattle.tx_session.proofs.owners.Owners.valued_pids.Goals as goal

pub returns-in-Some : goal.returns-in-Some
returns-in-Some c =
    if_ok c.valued_pids.result
    (λ pids all o there. subst (λ changes. AreValued changes pids.items) (changes_told c.args.self.now c.self.inside.parts c.self.view_is c.args.owner o there c.in-Some.owned.now c.in-Some.ensures) all)
    c.valued_pids.ensures

pub returns-in-None : goal.returns-in-None
returns-in-None c o there = never_none c.args.self.now c.self.inside.parts c.self.view_is c.args.owner o there c.in-None.ensures
