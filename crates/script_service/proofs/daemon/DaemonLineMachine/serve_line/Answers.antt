use Rattle.std.proofs.Common.{◌≡◌, ◌∙◌, Bool, ℕ, List, refl, sym, subst}
use Rattle.pss_disk.proofs.Passing.{none_came}
use Rattle.pss_machine.specs.declared.command.Command.{Command}
use Rattle.pss_machine.specs.declared.command.Command.TheVariants as command
use Rattle.pss_machine.specs.Run.{Said}
use Rattle.line_service.specs.Turns.{Speaks}
use Rattle.connector.specs.declared.connector.Connector.{Connector}
use Rattle.connector.specs.Keeping.{schema_of, limits_of, store_of}
use Rattle.script_service.specs.Keeping.{IsHeld}
use Rattle.script_service.specs.Going.{Goes, Serves, PrintsReply, IsReplyPrinted}
use Rattle.script_service.proofs.Told.{ready, goes_serves}
use Rattle.script_service.proofs.Lines.{unstored_held, unstored_speaks, unstored_saying}
use Rattle.script_service.proofs.daemon.DaemonLineMachine.serve_line.Goals as goal

no_checkpoint : (s : List ℕ) (entry : ℕ) (member : List ℕ) → command.Get s entry member ≡ command.Checkpoint → ⊥
no_checkpoint s entry member is = absurd cc

pub print_reply-requires-clause-ready : goal.print_reply-requires-clause-ready
print_reply-requires-clause-ready g c = ready c.args.self.now.connector c.args.self.now.served c.requires.stands.0 c.requires.stands.1.serves c.requires.few

-- ---- it was told at once

pub returns-in-Ok-true-clause-went : goal.returns-in-Ok-true-clause-went
returns-in-Ok-true-clause-went g c = λ went state is.
    let old = c.args.self.now.connector in
    let new = c.print_reply.new.connector in
    let printed : PrintsReply c.args.line.now old new c.print_reply.new.line = subst (λ (b : Bool). IsReplyPrinted c.args.line.now old new b c.print_reply.new.line) c.in-Ok-true.field-0-test c.in-Ok-true.ensures in
    let x : Command = command.Get printed.s printed.n printed.member in
    record {
      serves = goes_serves old new c.args.self.now.served state c.args.line.now is.serves (subst (λ (told : Said). Goes told old new) (sym printed.says) printed.prints.goes);
      held = rw (c.speak_line.ensures.content, c.speak_line.ensures.disk)
          (unstored_held g.W.Station.content g.W.Station.now g.W.Station.history c.a_mounted_store_stands.ensures old c.args.self.now.served state c.args.line.now is.serves
          x printed.says (λ k. c.gets_store_nothing.ensures (schema_of old) (limits_of old) k printed.s printed.n printed.member) (no_checkpoint printed.s printed.n printed.member) new printed.prints.store c.args.station.now is.held);
    }

pub returns-in-Ok-true-clause-speaks : goal.returns-in-Ok-true-clause-speaks
returns-in-Ok-true-clause-speaks g c = λ state is.
    let old = c.args.self.now.connector in
    let new = c.print_reply.new.connector in
    let printed : PrintsReply c.args.line.now old new c.print_reply.new.line = subst (λ (b : Bool). IsReplyPrinted c.args.line.now old new b c.print_reply.new.line) c.in-Ok-true.field-0-test c.in-Ok-true.ensures in
    let x : Command = command.Get printed.s printed.n printed.member in
    unstored_speaks g.W.Station.content g.W.Station.now g.W.Station.history c.a_mounted_store_stands.ensures old c.args.self.now.served state c.args.line.now is.serves
    x printed.says (λ k. c.gets_store_nothing.ensures (schema_of old) (limits_of old) k printed.s printed.n printed.member) (no_checkpoint printed.s printed.n printed.member) new printed.prints.store c.args.station.now is.held
    c.speak_line.result _ _
    (λ k keeps. subst (λ (bytes : List ℕ). Speaks c.speak_line.result bytes (g.W.Station.now c.args.station.now).spoken (g.W.Station.now c.speak_line.new.station).spoken) (c.as_slice.ensures ∙ printed.prints.line_is k keeps) c.speak_line.ensures.speaks)

pub returns-in-Ok-true-clause-moments : goal.returns-in-Ok-true-clause-moments
returns-in-Ok-true-clause-moments g c = λ state is.
    let old = c.args.self.now.connector in
    let new = c.print_reply.new.connector in
    let printed : PrintsReply c.args.line.now old new c.print_reply.new.line = subst (λ (b : Bool). IsReplyPrinted c.args.line.now old new b c.print_reply.new.line) c.in-Ok-true.field-0-test c.in-Ok-true.ensures in
    let x : Command = command.Get printed.s printed.n printed.member in
    unstored_saying g.W.Station.content g.W.Station.now g.W.Station.history c.a_mounted_store_stands.ensures old c.args.self.now.served state c.args.line.now is.serves
    x printed.says (λ k. c.gets_store_nothing.ensures (schema_of old) (limits_of old) k printed.s printed.n printed.member) (no_checkpoint printed.s printed.n printed.member) new printed.prints.store c.args.station.now is.held
    c.speak_line.result c.speak_line.new.station
    (λ k keeps. subst (λ (bytes : List ℕ). Speaks c.speak_line.result bytes (g.W.Station.now c.args.station.now).spoken (g.W.Station.now c.speak_line.new.station).spoken) (c.as_slice.ensures ∙ printed.prints.line_is k keeps) c.speak_line.ensures.speaks)
    c.speak_line.ensures.moments

-- ---- it is served as any line

pub serve_any-requires-clause-stands : goal.serve_any-requires-clause-stands
serve_any-requires-clause-stands g c =
    let old = c.args.self.now.connector in
    let new = c.print_reply.new.connector in
    let same : new ≡ old = subst (λ (b : Bool). IsReplyPrinted c.args.line.now old new b c.print_reply.new.line) c.in-Ok-false.field-0-test c.in-Ok-false.ensures in
    let is = c.requires.stands.1 in
    (c.requires.stands.0, record { serves = subst (λ (x : Connector). Serves x c.args.self.now.served c.requires.stands.0) (sym same) is.serves; held = subst (λ (x : Connector). IsHeld c.requires.stands.0 (store_of x) (g.W.Station.content c.args.station.now) (g.W.Station.now c.args.station.now).disk) (sym same) is.held })

pub returns-in-Ok-false-clause-went : goal.returns-in-Ok-false-clause-went
returns-in-Ok-false-clause-went g c = λ went state is.
    let old = c.args.self.now.connector in
    let new = c.print_reply.new.connector in
    let same : new ≡ old = subst (λ (b : Bool). IsReplyPrinted c.args.line.now old new b c.print_reply.new.line) c.in-Ok-false.field-0-test c.in-Ok-false.ensures in
    c.serve_any.ensures.went went state
    (record { serves = subst (λ (x : Connector). Serves x c.args.self.now.served state) (sym same) is.serves; held = subst (λ (x : Connector). IsHeld state (store_of x) (g.W.Station.content c.args.station.now) (g.W.Station.now c.args.station.now).disk) (sym same) is.held })

pub returns-in-Ok-false-clause-speaks : goal.returns-in-Ok-false-clause-speaks
returns-in-Ok-false-clause-speaks g c = λ state is.
    let old = c.args.self.now.connector in
    let new = c.print_reply.new.connector in
    let same : new ≡ old = subst (λ (b : Bool). IsReplyPrinted c.args.line.now old new b c.print_reply.new.line) c.in-Ok-false.field-0-test c.in-Ok-false.ensures in
    c.serve_any.ensures.speaks state
    (record { serves = subst (λ (x : Connector). Serves x c.args.self.now.served state) (sym same) is.serves; held = subst (λ (x : Connector). IsHeld state (store_of x) (g.W.Station.content c.args.station.now) (g.W.Station.now c.args.station.now).disk) (sym same) is.held })

pub returns-in-Ok-false-clause-moments : goal.returns-in-Ok-false-clause-moments
returns-in-Ok-false-clause-moments g c = λ state is.
    let old = c.args.self.now.connector in
    let new = c.print_reply.new.connector in
    let same : new ≡ old = subst (λ (b : Bool). IsReplyPrinted c.args.line.now old new b c.print_reply.new.line) c.in-Ok-false.field-0-test c.in-Ok-false.ensures in
    c.serve_any.ensures.moments state
    (record { serves = subst (λ (x : Connector). Serves x c.args.self.now.served state) (sym same) is.serves; held = subst (λ (x : Connector). IsHeld state (store_of x) (g.W.Station.content c.args.station.now) (g.W.Station.now c.args.station.now).disk) (sym same) is.held })

-- ---- there was no memory

pub returns-in-Err-clause-went : goal.returns-in-Err-clause-went
returns-in-Err-clause-went g c = λ went. absurd cc

pub returns-in-Err-clause-speaks : goal.returns-in-Err-clause-speaks
returns-in-Err-clause-speaks g c = λ state is. refl

pub returns-in-Err-clause-moments : goal.returns-in-Err-clause-moments
returns-in-Err-clause-moments g c = λ state is. none_came (g.W.Station.history c.args.station.now) _
