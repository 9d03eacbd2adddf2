use Rattle.std.proofs.Common.{◌≡◌, subst, sym}
use Rattle.std.specs.Prelude.{Result}
use Rattle.pss_machine.specs.declared.command.Command.{Command}
use Rattle.pss_machine.specs.declared.command.Rest.{Rest}
use Rattle.script_text.specs.declared.fault.CommandFault.{CommandFault}
use Rattle.script_text.specs.declared.verb.Verb.{Verb}
use Rattle.script_text.specs.Meaning.{command_in}
use Rattle.script_text.specs.inner.Seen.{seen, Gives}
use Rattle.script_text.proofs.command.read_behind.Goals as goal

-- the command of the verb that was matched
of_verb : (v u : Verb) (rest : Rest) (r : Result Command CommandFault) → v ≡ u → Gives (λ c. c) r (command_in u rest) → Gives (λ c. c) r (command_in v rest)
of_verb v u rest r e h = subst (λ w. Gives (λ c. c) r (command_in w rest)) (sym e) h

pub returns-in-Open : goal.returns-in-Open
returns-in-Open c = of_verb c.args.verb _ (seen c.args.tail) c.read_open.result c.in-Open.is c.read_open.ensures

pub returns-in-Begin : goal.returns-in-Begin
returns-in-Begin c = of_verb c.args.verb _ (seen c.args.tail) c.read_begin.result c.in-Begin.is c.read_begin.ensures

pub returns-in-Start : goal.returns-in-Start
returns-in-Start c = of_verb c.args.verb _ (seen c.args.tail) c.read_start.result c.in-Start.is c.read_start.ensures

pub returns-in-End : goal.returns-in-End
returns-in-End c = of_verb c.args.verb _ (seen c.args.tail) c.read_end.result c.in-End.is c.read_end.ensures

pub returns-in-Create : goal.returns-in-Create
returns-in-Create c = of_verb c.args.verb _ (seen c.args.tail) c.read_create.result c.in-Create.is c.read_create.ensures

pub returns-in-Pid : goal.returns-in-Pid
returns-in-Pid c = of_verb c.args.verb _ (seen c.args.tail) c.read_pid.result c.in-Pid.is c.read_pid.ensures

pub returns-in-Short : goal.returns-in-Short
returns-in-Short c = of_verb c.args.verb _ (seen c.args.tail) c.read_short.result c.in-Short.is c.read_short.ensures

pub returns-in-Set : goal.returns-in-Set
returns-in-Set c = of_verb c.args.verb _ (seen c.args.tail) c.read_set.result c.in-Set.is c.read_set.ensures

pub returns-in-Alone : goal.returns-in-Alone
returns-in-Alone c = of_verb c.args.verb _ (seen c.args.tail) c.read_alone.result c.in-Alone.is c.read_alone.ensures

pub returns-in-Session : goal.returns-in-Session
returns-in-Session c = of_verb c.args.verb _ (seen c.args.tail) c.read_session.result c.in-Session.is c.read_session.ensures

pub returns-in-Transaction : goal.returns-in-Transaction
returns-in-Transaction c = of_verb c.args.verb _ (seen c.args.tail) c.read_transaction.result c.in-Transaction.is c.read_transaction.ensures

pub returns-in-Home : goal.returns-in-Home
returns-in-Home c = of_verb c.args.verb _ (seen c.args.tail) c.read_home.result c.in-Home.is c.read_home.ensures

pub returns-in-Key : goal.returns-in-Key
returns-in-Key c = of_verb c.args.verb _ (seen c.args.tail) c.read_key.result c.in-Key.is c.read_key.ensures

pub returns-in-Entry : goal.returns-in-Entry
returns-in-Entry c = of_verb c.args.verb _ (seen c.args.tail) c.read_entry.result c.in-Entry.is c.read_entry.ensures

pub returns-in-Member : goal.returns-in-Member
returns-in-Member c = of_verb c.args.verb _ (seen c.args.tail) c.read_member.result c.in-Member.is c.read_member.ensures
