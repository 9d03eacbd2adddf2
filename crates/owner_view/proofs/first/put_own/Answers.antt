use Rattle.std.proofs.Common.{◌++◌, take, Option, sym, ap, ◌∙◌}
use Rattle.std.specs.Option.{option_to_list}
use Rattle.std.proofs.lemmas.List.{take_all, append-nil}
use Rattle.pss_base.specs.declared.pid.Pid.{Pid}
use Rattle.owner_view.proofs.first.put_own.Goals as goal

pub returns-in-None : goal.returns-in-None
returns-in-None c = sym (ap (λ (o : Option Pid). take 256 (c.args.pids.now ++ option_to_list o)) c.in-None.is ∙ ap (take 256) (append-nil c.args.pids.now) ∙ take_all 256 c.args.pids.now c.requires)
