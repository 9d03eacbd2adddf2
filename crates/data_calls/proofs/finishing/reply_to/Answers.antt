use Rattle.std.proofs.Common.{◌≡◌, sym, ap, ◌∙◌, subst}
use Rattle.std.specs.Prelude.{Result, Ok, Err}
use Rattle.pss_machine.specs.Effects.{Decision}
use Rattle.owner_view.proofs.Outcomes.{if_ok}
use Rattle.pss_asking.specs.declared.asked.Asked.{Asked}
use Rattle.pss_asking.specs.declared.asked.AskFault.{AskFault}
use Rattle.pss_asking.specs.Telling.{Tells, Refuses, plain_asked, reply_of}
use Rattle.data_calls.specs.Asking.{Follows}
use Rattle.data_calls.proofs.Granted.{refused}
use Rattle.data_calls.proofs.Taking.{told_as, told_decides, refuses}
use Rattle.data_calls.proofs.finishing.reply_to.Goals as goal

pub perform-requires : goal.perform-requires
perform-requires g c = told_as c.requires.asks (Ok (plain_asked c.in-Ok.asked)) (subst (λ (r : Result Asked AskFault). Tells plain_asked r c.requires.told) c.in-Ok.is c.requires.tells)

pub returns-in-Ok : goal.returns-in-Ok
returns-in-Ok g c =
    if_ok c.perform.result
    (λ reply done told a tells.
    let is : told ≡ Ok (plain_asked c.in-Ok.asked) = subst (λ (r : Result Asked AskFault). Tells plain_asked r told) c.in-Ok.is tells in
    subst (λ (d : Decision). Follows c.args.parts.now a.kept d reply c.perform.new.parts) (sym (told_decides a (Ok (plain_asked c.in-Ok.asked)) is)) (done (told_as a (Ok (plain_asked c.in-Ok.asked)) is)))
    c.perform.ensures

pub returns-in-Refused : goal.returns-in-Refused
returns-in-Refused g c told a tells =
    let is : told ≡ Err (reply_of c.in-Refused.refusal) = subst (λ (f : AskFault). Refuses f told) c.in-Refused.is (subst (λ (r : Result Asked AskFault). Tells plain_asked r told) c.in-Err.is tells) in
    refuses a c.reply_of.result
    (refused c.args.parts.now.schema c.args.parts.now.limits a.kept c.args.acting.session a.is.session c.args.acting.owner a.is.owner a.is.acts told c.reply_of.result (is ∙ ap Err (sym c.reply_of.ensures)))
