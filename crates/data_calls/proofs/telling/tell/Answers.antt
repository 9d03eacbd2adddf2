use Rattle.std.proofs.Common.{Option, refl, subst}
use Rattle.pss_machine.specs.declared.reply.Reply.TheVariants as reply
use Rattle.pss_machine.specs.Operations.{Val}
use Rattle.data_calls.specs.declared.acting.Acting.{Acting}
use Rattle.data_calls.specs.Glances.{PrintsIn, IsPrinted, added}
use Rattle.data_calls.proofs.Taking.{may_count}
use Rattle.data_calls.proofs.Glances.{glance_takes, glance_follows}
use Rattle.data_calls.proofs.Tellings.{asked, reading, take, glance, comes_of, added_is, grown_by}
use Rattle.data_calls.proofs.telling.tell.Goals as goal

pub count-requires : goal.count-requires
count-requires c =
    let printed : PrintsIn c.args.parts.now c.args.name.now c.args.entry c.args.word.now c.in-Ok-Some.acting c.args.line.now c.print_seen.new.line =
    subst (λ (o : Option Acting). IsPrinted c.args.parts.now c.args.name.now c.args.entry c.args.word.now o c.args.line.now c.print_seen.new.line) c.in-Ok-Some.field-0-is c.in-Ok-Some.ensures in
    let k = c.requires.kept in
    let at = c.requires.at in
    (c.args.parts.now.schema, may_count (take c.args.parts.now k at c.args.name.now c.args.entry c.args.word.now c.in-Ok-Some.acting printed.p printed.member printed.value (printed.seen k at)))

pub returns-in-Ok-Some : goal.returns-in-Ok-Some
returns-in-Ok-Some c =
    let printed : PrintsIn c.args.parts.now c.args.name.now c.args.entry c.args.word.now c.in-Ok-Some.acting c.args.line.now c.print_seen.new.line =
    subst (λ (o : Option Acting). IsPrinted c.args.parts.now c.args.name.now c.args.entry c.args.word.now o c.args.line.now c.print_seen.new.line) c.in-Ok-Some.field-0-is c.in-Ok-Some.ensures in
    let before = c.args.line.now in
    let after = c.print_seen.new.line in
    record {
      comes = λ k at.
          let seen = printed.seen k at in
          let m = take c.args.parts.now k at c.args.name.now c.args.entry c.args.word.now c.in-Ok-Some.acting printed.p printed.member printed.value seen in
          let r = reading c.args.parts.now k at c.args.name.now c.args.entry c.args.word.now c.in-Ok-Some.acting printed.p printed.member printed.value seen in
          let g = glance c.args.parts.now k at c.args.name.now c.args.entry c.args.word.now c.in-Ok-Some.acting printed.p printed.member printed.value seen in
          comes_of c.args.parts.now k at c.args.name.now c.args.entry c.args.word.now c.in-Ok-Some.acting printed.p printed.member printed.value seen _ (reply.Val (added before after))
          (glance_follows
          (glance_takes m r g _ (record { schema = refl; limits = refl }) refl (λ question. c.count.ensures c.args.parts.now.schema (may_count m) c.in-Ok-Some.acting.session question (Val printed.value) (asked c.args.parts.now k at c.args.name.now c.args.entry c.args.word.now c.in-Ok-Some.acting printed.p printed.member printed.value seen)))
          c.entries_stay.ensures.quiet c.entries_stay.ensures.fresh c.entries_stay.ensures.attached g.are g.n g.named g.values g.stands
          (added before after) (added_is before after _ printed.grown));
      grows = grown_by before after _ printed.grown;
    }

pub returns-in-Ok-None : goal.returns-in-Ok-None
returns-in-Ok-None c =
    (refl, subst (λ (o : Option Acting). IsPrinted c.args.parts.now c.args.name.now c.args.entry c.args.word.now o c.args.line.now c.print_seen.new.line) c.in-Ok-None.field-0-is c.in-Ok-None.ensures)
