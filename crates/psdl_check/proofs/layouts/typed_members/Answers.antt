use Rattle.std.proofs.Common.{◌≡◌, ◌∙◌, Option, None, ap, sym, arith, rules}
use Rattle.std.specs.Option.{option_map}
use Rattle.type_layout.specs.Schemas.{given}
use Rattle.psdl_members.specs.Bodies.{member_view}
use Rattle.psdl_standings.specs.States.{type_kept, is_kept_below}
use Rattle.psdl_standings.specs.declared.state_entry.StateEntry.{StateEntry}
use Rattle.psdl_check.specs.inner.TypedMembers.{typed_view, laid_out}
use Rattle.psdl_check.proofs.Laying.{with, without}
use Rattle.psdl_check.proofs.Marking.{there_more, below_at}
use Rattle.psdl_check.proofs.layouts.typed_members.Goals as goal

pub returns-in_default-clause-views : goal.returns-in_default-clause-views
returns-in_default-clause-views c types homes =
    let none : c.typed_member.result ≡ None = search rules in
    without types homes c.args.members.now c.args.kept.now c.loop-place.place c.index-members-place.result c.loop-place-test.true (search rules)
    (ap (λ (o : Option StateEntry). given o None (λ k. option_map (laid_out (member_view c.index-members-place.result)) (type_kept types homes k))) (sym c.kept_at.ensures)
    ∙ sym (c.typed_member.ensures.views types homes) ∙ ap (option_map (typed_view types homes)) none)

pub loop-place-preserved : goal.loop-place-preserved
loop-place-preserved c =
    record {
      within = omega (arith, c.loop-place-test.true);
      views = λ types homes.
          with types homes c.args.members.now c.args.kept.now c.loop-place.place c.index-members-place.result c.loop-place-test.true (search rules) c.in-Some.member c.loop-place.typed.items c.push.new.self.items (search rules) c.in_ok-push.ensures.items
          (c.loop-place.invariant.views types homes);
      there = λ types count below.
          there_more types count c.loop-place.typed.items c.push.new.self.items c.in-Some.member c.in_ok-push.ensures.items (c.loop-place.invariant.there types count below)
          (c.in-Some.ensures.there types count (below_at (is_kept_below types count) c.args.kept.now c.loop-place.place c.kept_at.result below c.kept_at.ensures));
    }
