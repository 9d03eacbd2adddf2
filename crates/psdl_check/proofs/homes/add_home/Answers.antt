use Rattle.std.proofs.Common.{◌∙◌, ap, sym}
use Rattle.psdl_standings.specs.Standings.{standings}
use Rattle.psdl_check.specs.Schemas.{home_of}
use Rattle.psdl_check.specs.inner.TypedMembers.{typed_names}
use Rattle.psdl_check.specs.inner.Texts.{text_in}
use Rattle.psdl_check.proofs.Counted.{not_over}
use Rattle.psdl_check.proofs.FewMembers.{few_named}
use Rattle.psdl_check.proofs.Homing.{whole_lines, homes_more}
use Rattle.psdl_check.proofs.homes.add_home.Goals as goal

pub returns-then-is_over-clause-length : goal.returns-then-is_over-clause-length
returns-then-is_over-clause-length c homes more next =
    let made = c.in_ok-numbered.ensures.numbered homes more (ap typed_names c.deref.ensures.value ∙ c.in_ok-laid.ensures.laid.names) (record { whole = next.whole; made = record { keys = next.made.keys; homes_made = next.made.homes_made }; few = next.few }) in
    whole_lines (text_in c.args.text.now) c.args.home c.args.front.0 c.with_laid-between.result.0 c.in_ok-numbered.numbered.length.0 c.with_laid-between.ensures made.reached

pub returns-then-is_over-clause-made : goal.returns-then-is_over-clause-made
returns-then-is_over-clause-made c homes more next fits = absurd (not_over c.in_ok-numbered.numbered.length.0 (sym c.is_over.ensures ∙ c.if-is_over.true) fits)

pub returns-clause-length : goal.returns-clause-length
returns-clause-length c homes more next =
    let made = c.in_ok-numbered.ensures.numbered homes more (ap typed_names c.deref.ensures.value ∙ c.in_ok-laid.ensures.laid.names) (record { whole = next.whole; made = record { keys = next.made.keys; homes_made = next.made.homes_made }; few = next.few }) in
    whole_lines (text_in c.args.text.now) c.args.home c.args.front.0 c.with_laid-between.result.0 c.in_ok-numbered.numbered.length.0 c.with_laid-between.ensures made.reached

pub returns-clause-made : goal.returns-clause-made
returns-clause-made c homes more next fits =
    let all = text_in c.args.text.now in
    let made = c.in_ok-numbered.ensures.numbered homes more (ap typed_names c.deref.ensures.value ∙ c.in_ok-laid.ensures.laid.names) (record { whole = next.whole; made = record { keys = next.made.keys; homes_made = next.made.homes_made }; few = next.few }) in
    record {
      keys = made.known fits;
      homes_made = homes_more (home_of all (standings all)) homes c.args.home c.args.making.now.homes c.number_keys.new.making.homes _ c.in_ok-record.record next.made.homes_made c.number_keys.ensures.homes c.in_ok-push.ensures.ok (c.in_ok-record.ensures (made.counted fits));
    }

pub number_keys-requires-clause-few : goal.number_keys-requires-clause-few
number_keys-requires-clause-few c =
    few_named (text_in c.args.text.now) c.args.home c.deref.result.now (ap typed_names c.deref.ensures.value ∙ c.in_ok-laid.ensures.laid.names) (c.args.text.now.few c.args.home)
