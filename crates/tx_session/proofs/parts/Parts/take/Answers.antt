use Rattle.std.proofs.Common.{sym, subst, IsSome, rules}
use Rattle.type_layout.specs.declared.schema.Schema.{Schema}
use Rattle.tx_session.specs.Acting.{MayTake}
use Rattle.tx_session.proofs.Stepping.{AreKept, may_change, kept_after}
use Rattle.tx_session.proofs.parts.Parts.take.Goals as goal

pub take_in-requires-clause-there : goal.take_in-requires-clause-there
take_in-requires-clause-there c = subst IsSome (sym c.requires.may.1.there) (search rules)

pub take_in-requires-clause-may : goal.take_in-requires-clause-may
take_in-requires-clause-may c = may_change c.requires.may.0 c.args.self.now c.args.owner c.args.step c.requires.may.1

pub returns : goal.returns
returns c =
    let kept : (S : Schema) (may : MayTake S c.args.self.now c.args.owner c.args.step) → AreKept S c.args.self.now c.args.owner c.args.step may c.take_in.result c.take_in.new.locks c.take_in.new.table =
    λ S may. kept_after S c.args.self.now c.args.owner c.args.step may c.take_in.result c.take_in.new.locks c.take_in.new.table c.take_in.ensures.turned c.take_in.ensures.granted c.take_in.ensures.err in
    let one = kept c.requires.may.0 c.requires.may.1 in
    record { answer = c.take_in.ensures.answer; stepped = one.stepped; err = one.err; under = λ S may. (kept S may).under; owners = record { locks = one.locks; counted = one.counted } }
