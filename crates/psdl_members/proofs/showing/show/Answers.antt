use Rattle.std.proofs.Common.{rules, arith}
use Rattle.psdl_members.proofs.Shown.{all_shown, filled_length, nothing_shown}
use Rattle.psdl_members.proofs.showing.show.Goals as goal

pub returns-clause-sized : goal.returns-clause-sized
returns-clause-sized c = omega (arith, c.show_names.ensures.sized, filled_length _ _ _ (c.fill.ensures.items (λ y e. search rules)), c.args.seen.now.ok.0)

pub returns-clause-seen : goal.returns-clause-seen
returns-clause-seen c rows es claims group =
    all_shown c.args.group.now c.show_names.new.seen.items es rows group
    ((rw c.deref.ensures.value at c.show_names.ensures.seen) rows es claims group (rw (c.fill.ensures.items (λ y e. search rules), c.nothing.ensures) (nothing_shown _ es)))
