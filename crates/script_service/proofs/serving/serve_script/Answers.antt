use Rattle.std.proofs.Common.{◌∙◌}
use Rattle.std.specs.Prelude.{is_some}
use Rattle.pss_disk.proofs.Passing.{weaker}
use Rattle.pss_machine.specs.Limits.{standard}
use Rattle.script_service.specs.Turns.{turn_from, start, script_limits}
use Rattle.script_service.specs.Keeping.{IsLeft}
use Rattle.script_service.specs.Going.{IsIn, connector_of}
use Rattle.connector.specs.Keeping.{store_of}
use Rattle.script_service.proofs.Ended.{says_weaker}
use Rattle.script_service.proofs.First.{comes_only, first_in}
use Rattle.script_service.proofs.Held.{left_for}
use Rattle.script_service.proofs.serving.serve_script.Goals as goal

pub new-requires-clause-objects : goal.new-requires-clause-objects
new-requires-clause-objects g c = record { catalog = c.requires.first.0; has = c.requires.first.1.objects }

pub serve-requires-clause-stands : goal.serve-requires-clause-stands
serve-requires-clause-stands g c =
    let is = c.in-Ok.ensures in (
      start c.args.schema standard c.requires.first.0 c.args.mounted.next (is_some (g.W.Station.content c.args.station.now)),
      first_in c.args.schema standard c.requires.first.0 c.args.mounted c.in-Ok.connector c.new-daemon.result (g.W.Station.content c.args.station.now) (g.W.Station.now c.args.station.now)
          (record { kept = is.kept; store = is.store; schema = is.schema; limits_ = is.limits ∙ c.standard.ensures; performed = is.performed; live = is.live }) c.new-daemon.ensures.connector c.new-daemon.ensures.served
          c.requires.first.1 c.requires.settled,
    )

pub returns-in-Ok-clause-says : goal.returns-in-Ok-clause-says
returns-in-Ok-clause-says g c = λ M first.
    let is = c.in-Ok.ensures in
    let content = g.W.Station.content c.serve.new.station in
    let disk = (g.W.Station.now c.serve.new.station).disk in
    let begin = start c.args.schema standard M c.args.mounted.next (is_some (g.W.Station.content c.args.station.now)) in
    says_weaker turn_from begin script_limits (λ state. IsIn c.serve.new.machine state content disk) (IsLeft content disk)
    (λ state in_it. left_for c.a_mounted_store_stands.ensures state (store_of (connector_of c.serve.new.machine)) content disk in_it.held) c.serve.result
    (record { script = g.C.Source.left c.args.script.now; left = g.C.Source.left c.serve.new.script; before = (g.W.Station.now c.args.station.now).spoken; after = (g.W.Station.now c.serve.new.station).spoken })
    (c.serve.ensures.says begin
    (first_in c.args.schema standard M c.args.mounted c.in-Ok.connector c.new-daemon.result (g.W.Station.content c.args.station.now) (g.W.Station.now c.args.station.now)
    (record { kept = is.kept; store = is.store; schema = is.schema; limits_ = is.limits ∙ c.standard.ensures; performed = is.performed; live = is.live }) c.new-daemon.ensures.connector c.new-daemon.ensures.served
    first c.requires.settled))

pub returns-in-Ok-clause-moments : goal.returns-in-Ok-clause-moments
returns-in-Ok-clause-moments g c = λ M first.
    let is = c.in-Ok.ensures in
    let begin = start c.args.schema standard M c.args.mounted.next (is_some (g.W.Station.content c.args.station.now)) in
    weaker _ _ _ _ (λ m. comes_only c.a_mounted_store_stands.ensures begin (g.C.Source.left c.args.script.now) (g.W.Station.now c.args.station.now).spoken m _)
    (c.serve.ensures.moments begin
    (first_in c.args.schema standard M c.args.mounted c.in-Ok.connector c.new-daemon.result (g.W.Station.content c.args.station.now) (g.W.Station.now c.args.station.now)
    (record { kept = is.kept; store = is.store; schema = is.schema; limits_ = is.limits ∙ c.standard.ensures; performed = is.performed; live = is.live }) c.new-daemon.ensures.connector c.new-daemon.ensures.served
    first c.requires.settled))

pub returns-in-Ok-clause-read : goal.returns-in-Ok-clause-read
returns-in-Ok-clause-read g c = c.serve.ensures.read

pub returns-in-Ok-clause-speech : goal.returns-in-Ok-clause-speech
returns-in-Ok-clause-speech g c = c.serve.ensures.speech

pub returns-in-Ok-clause-disk : goal.returns-in-Ok-clause-disk
returns-in-Ok-clause-disk g c = c.serve.ensures.disk
