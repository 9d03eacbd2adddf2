use Rattle.std.proofs.Common.{Bool, true, false}
use Rattle.std.specs.Prelude.{Result, Ok, Err, IfOk}
use Rattle.script_service.specs.Going.{IsGetPrinted, IsReplyPrinted}
use Rattle.script_service.proofs.getting.print_reply.Goals as goal

either : {E : Type 0} (P Q : Bool → Type 0) (result : Result Bool E) → (P true → Q true) → (P false → Q false) → IfOk result P → IfOk result Q
either P Q (Ok true) told untold h = told h
either P Q (Ok false) told untold h = untold h
either P Q (Err e) told untold h = tt

pub returns-in-Some : goal.returns-in-Some
returns-in-Some c =
    let words = c.in-Some.words in
    let line = c.print_get.new.line in
    let new = c.print_get.new.connector in
    either (λ (b : Bool). IsGetPrinted words.s.now words.entry words.member.now c.args.connector.now new b line) (λ (b : Bool). IsReplyPrinted c.args.step.now c.args.connector.now new b line) c.print_get.result
    (λ prints. record { s = words.s.now; n = words.entry; member = words.member.now; says = c.in-Some.ensures; prints = prints }) (λ same. same) c.print_get.ensures
