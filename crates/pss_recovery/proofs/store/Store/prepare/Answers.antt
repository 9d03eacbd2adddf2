use Rattle.std.proofs.Common.{IfSome, length, ap, ◌∙◌, subst, arith}
use Rattle.pss_recovery.specs.Mounted.{IsMounted}
use Rattle.pss_recovery.specs.declared.parts.Parts.{Parts}
use Rattle.pss_recovery.proofs.Rooms.{short_body}
use Rattle.pss_recovery.proofs.store.Store.prepare.Goals as goal

pub overflow_cast-len : goal.overflow_cast-len
overflow_cast-len g c =
    let short = short_body c.args.body c.requires.body.few c.requires.body.each in
    omega (arith, short, ap length (c.as_slice.ensures ∙ c.in-Ok.ensures.spelled))

pub make_room-requires-clause-short : goal.make_room-requires-clause-short
make_room-requires-clause-short g c =
    let short = short_body c.args.body c.requires.body.few c.requires.body.each in
    omega (arith, short, ap length (c.as_slice.ensures ∙ c.in-Ok.ensures.spelled))

pub returns-in-Ok-make_room-clause-kept : goal.returns-in-Ok-make_room-clause-kept
returns-in-Ok-make_room-clause-kept g c = λ S M next.
    subst (λ (p : Parts). IfSome (g.W.Station.content c.args.w.now) (λ before. IsMounted S M next p before → IfSome (g.W.Station.content c.make_room.new.w) (IsMounted S M next c.make_room.new.self))) c.take_space-space.ensures (c.in-Ok-make_room.ensures.kept S M next)
