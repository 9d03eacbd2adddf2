use Rattle.std.proofs.Common.{Bool, refl, subst}
use Rattle.pss_machine.specs.declared.command.Command.TheVariants as command
use Rattle.pss_machine.specs.declared.reply.Reply.TheVariants as reply
use Rattle.data_calls.specs.Glances.{Tells, IsTold}
use Rattle.connector.specs.Keeping.{store_of}
use Rattle.connector.specs.Lines.{added}
use Rattle.connector.proofs.Keepings.{is_at, any_at, kept_on}
use Rattle.connector.proofs.Storings.{memory_next}
use Rattle.connector.proofs.connector.Connector.tell.Goals as goal

pub tell-requires : goal.tell-requires
tell-requires c = any_at c.args.self.now c.requires.kept c.requires.left

pub returns-in-Ok-true-clause-told : goal.returns-in-Ok-true-clause-told
returns-in-Ok-true-clause-told c =
    let old = c.args.self.now in
    let x = command.Get c.args.s.now c.args.entry c.args.member.now in
    let told : Tells old.parts c.tell.new.parts c.args.s.now c.args.entry c.args.member.now c.args.line.now c.tell.new.line =
    subst (λ (b : Bool). IsTold old.parts c.tell.new.parts c.args.s.now c.args.entry c.args.member.now b c.args.line.now c.tell.new.line) c.in-Ok-true.field-0-test c.in-Ok-true.ensures in
    let any = told.comes c.requires.kept.kept (is_at old c.requires.kept.kept c.requires.kept.keeps c.requires.left) in
    record {
      reply_is = λ k keeps. (told.comes k (is_at old k keeps c.requires.left)).reply_is;
      grows = told.grows;
      kept = λ k keeps. kept_on old _ k x (reply.Val (added c.args.line.now c.tell.new.line)) keeps (told.comes k (is_at old k keeps c.requires.left)) refl (memory_next old.parts x tt k (store_of old));
      performed = refl;
      live = c.requires.live;
      schema = any.stay.schema;
      limits = any.stay.limits;
    }

pub returns-in-Ok-false-clause-told : goal.returns-in-Ok-false-clause-told
returns-in-Ok-false-clause-told c =
    let old = c.args.self.now in
    let told = subst (λ (b : Bool). IsTold old.parts c.tell.new.parts c.args.s.now c.args.entry c.args.member.now b c.args.line.now c.tell.new.line) c.in-Ok-false.field-0-test c.in-Ok-false.ensures in
    (λ i. record old { parts = told.0 i }, told.1)
