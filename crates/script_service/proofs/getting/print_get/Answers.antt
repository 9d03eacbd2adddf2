use Rattle.std.proofs.Common.{Bool, subst, arith, ◌∙◌}
use Rattle.connector.specs.Lines.{Tells, IsTold}
use Rattle.script_service.proofs.Lines.{value_line}
use Rattle.script_service.proofs.getting.print_get.Goals as goal

pub returns-in_ok-push-in-Ok-true : goal.returns-in_ok-push-in-Ok-true
returns-in_ok-push-in-Ok-true c =
    let words = c.args.words in
    let told : Tells c.args.connector.now c.tell.new.self words.s.now words.entry words.member.now c.begin.new.line c.tell.new.line =
    subst (λ (b : Bool). IsTold c.args.connector.now c.tell.new.self words.s.now words.entry words.member.now b c.begin.new.line c.tell.new.line) c.in-Ok-true.field-0-test c.in-Ok-true.ensures.told in
    record {
      goes = record { live = told.live; schema = told.schema; limits = told.limits; performed = omega (arith, told.performed); kept = told.kept };
      store = c.tell.ensures.store;
      line_is = λ k keeps. c.in_ok-push-in-Ok-true.ensures.ok ∙ value_line c.begin.new.line c.tell.new.line _ c.in_ok-begin.ensures (told.reply_is k keeps) told.grows;
    }

pub returns-in-Ok-false : goal.returns-in-Ok-false
returns-in-Ok-false c =
    let words = c.args.words in
    (subst (λ (b : Bool). IsTold c.args.connector.now c.tell.new.self words.s.now words.entry words.member.now b c.begin.new.line c.tell.new.line) c.in-Ok-false.field-0-test c.in-Ok-false.ensures.told).0
