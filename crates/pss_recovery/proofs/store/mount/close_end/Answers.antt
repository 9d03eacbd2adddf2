use Rattle.std.proofs.Common.{[], ◌∷◌}
use Rattle.pss_disk.specs.Octets.{write}
use Rattle.pss_recovery.proofs.LastGate.{all_ended, all_stand, same_but}
use Rattle.pss_recovery.proofs.store.mount.close_end.Goals as goal

pub returns-in-Ok-clause-mounted : goal.returns-in-Ok-clause-mounted
returns-in-Ok-clause-mounted g c = λ S has.
    all_ended S c.args.mounted c.args.end c.requires.end (g.W.Station.content c.args.w.now) (g.W.Station.content c.close_gate.new.w) has c.close_gate.ensures.stays (write c.args.end (0 ∷ [])) c.in-Ok.ensures.content c.in-Ok.ensures.closed

pub returns-in-Ok-clause-content : goal.returns-in-Ok-clause-content
returns-in-Ok-clause-content g c = λ S has.
    same_but S c.args.mounted c.args.end c.requires.end (g.W.Station.content c.args.w.now) (g.W.Station.content c.close_gate.new.w) has c.close_gate.ensures.stays c.close_gate.ensures.same

pub returns-in-Ok-clause-images : goal.returns-in-Ok-clause-images
returns-in-Ok-clause-images g c = λ S M next has. all_stand S c.args.mounted c.args.end c.requires.end M next (g.W.Station.content c.args.w.now) _ _ has c.close_gate.ensures.images c.close_gate.ensures.still

pub returns-in-Err-clause-content : goal.returns-in-Err-clause-content
returns-in-Err-clause-content g c = λ S has.
    same_but S c.args.mounted c.args.end c.requires.end (g.W.Station.content c.args.w.now) (g.W.Station.content c.close_gate.new.w) has c.close_gate.ensures.stays c.close_gate.ensures.same

pub returns-in-Err-clause-images : goal.returns-in-Err-clause-images
returns-in-Err-clause-images g c = λ S M next has. all_stand S c.args.mounted c.args.end c.requires.end M next (g.W.Station.content c.args.w.now) _ _ has c.close_gate.ensures.images c.close_gate.ensures.still

pub returns-in-Ok-clause-silent : goal.returns-in-Ok-clause-silent
returns-in-Ok-clause-silent g c = record { moments = c.close_gate.ensures.quiet; said = c.close_gate.ensures.said; speech = c.close_gate.ensures.other }

pub returns-in-Err-clause-silent : goal.returns-in-Err-clause-silent
returns-in-Err-clause-silent g c = record { moments = c.close_gate.ensures.quiet; said = c.close_gate.ensures.said; speech = c.close_gate.ensures.other }
