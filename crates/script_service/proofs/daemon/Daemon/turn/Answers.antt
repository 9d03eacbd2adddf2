use Rattle.script_service.proofs.daemon.Daemon.turn.Goals as goal

pub serve_line-requires-clause-stands : goal.serve_line-requires-clause-stands
serve_line-requires-clause-stands g c = c.requires.stands

pub returns-clause-went : goal.returns-clause-went
returns-clause-went g c = c.serve_line.ensures.went

pub returns-clause-speaks : goal.returns-clause-speaks
returns-clause-speaks g c = c.serve_line.ensures.speaks

pub returns-clause-moments : goal.returns-clause-moments
returns-clause-moments g c = c.serve_line.ensures.moments
